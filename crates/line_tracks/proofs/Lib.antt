mod calls
pub mod acts
mod placements
mod joins
pub mod tracks
pub mod cluster_core_proofs
pub mod cluster_members_proofs
pub mod first_cluster_proofs
pub mod told_runs_proofs
