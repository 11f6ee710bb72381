pub mod Bare
pub mod Begins
pub mod Depots
pub mod First
pub mod Lending
pub mod Slots
