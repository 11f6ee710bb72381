pub mod Shortfalls
pub mod Replies
