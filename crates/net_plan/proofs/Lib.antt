pub mod KeyLemmas
pub mod ListLemmas
pub mod RowLemmas
pub mod ItemLemmas
