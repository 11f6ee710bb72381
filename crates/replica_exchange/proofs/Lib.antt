pub mod ExchangeLemmas
pub mod cluster_core_proofs
pub mod event_trail_proofs
pub mod m3_model_proofs
pub mod placement_core_proofs
pub mod replica_machine_proofs
pub mod shard_files_proofs
