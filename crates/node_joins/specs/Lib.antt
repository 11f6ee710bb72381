pub mod Joined
pub mod Opens
pub mod Shards
pub mod Unowned
