pub mod Names
pub mod Lists
pub mod Seats
pub mod Calls
pub mod Views
pub mod Rule
pub mod Steps
