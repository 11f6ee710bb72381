pub mod Walks
pub mod Rises
