mod MadeLemmas
pub mod ServeLemmas
pub mod StandLemmas
