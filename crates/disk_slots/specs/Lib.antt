pub mod SlotStates
pub mod Slots
