pub mod RollLemmas
