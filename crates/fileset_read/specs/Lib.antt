pub mod Rows
pub mod Volumes
pub mod commit_log
pub mod m3_model
pub mod m3_outside
pub mod shard_files
pub mod volume_bytes
pub mod wire_bytes
