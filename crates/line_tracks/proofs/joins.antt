pub mod CameLemmas
pub mod ServeLemmas
pub mod MoveLemmas
pub mod StandLemmas
