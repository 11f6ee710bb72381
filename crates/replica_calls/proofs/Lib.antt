pub mod MapLemmas
pub mod SlotLemmas
mod AddLemmas
pub mod TrackLemmas
pub mod StandLemmas
pub mod cluster_core_proofs
pub mod event_trail_proofs
pub mod placement_core_proofs
pub mod replica_exchange_proofs
pub mod replica_machine_proofs
pub mod shard_files_proofs
