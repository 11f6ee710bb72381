pub mod TestLemmas
