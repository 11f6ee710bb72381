pub mod RowLemmas
pub mod BitLemmas
