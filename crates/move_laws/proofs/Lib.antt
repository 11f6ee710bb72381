pub mod MovingLemmas
pub mod OwnerLives
pub mod FenceLives
pub mod BootLives
pub mod SlotLives
pub mod StepLemmas
pub mod PlannedLives
