pub mod LeftLemmas
pub mod LengthLemmas
pub mod LimitLemmas
pub mod SummaryLemmas
