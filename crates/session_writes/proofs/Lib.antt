mod PutLemmas
mod AckLemmas
mod SendLemmas
mod ShardLemmas
mod LeftLemmas
mod WriteLemmas
mod LateLemmas
pub mod cluster_core_proofs
pub mod event_trail_proofs
pub mod placement_core_proofs
pub mod replica_calls_proofs
pub mod replica_exchange_proofs
pub mod replica_machine_proofs
pub mod session_net_proofs
pub mod shard_files_proofs
