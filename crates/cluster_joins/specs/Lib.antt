pub mod Marks
pub mod Boots
pub mod Opened
