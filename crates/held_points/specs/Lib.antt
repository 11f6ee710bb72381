pub mod Matched
pub mod Selected
pub mod Indexed
pub mod Counted
pub mod block_buffer
pub mod series_slots
