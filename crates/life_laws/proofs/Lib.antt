pub mod BrokenLemmas
