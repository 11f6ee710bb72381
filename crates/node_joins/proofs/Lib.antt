pub mod BeginLemmas
pub mod EachLemmas
pub mod OpenLemmas
pub mod ShardLemmas
pub mod UnownedLemmas
