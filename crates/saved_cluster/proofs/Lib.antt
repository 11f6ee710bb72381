mod AloneLemmas
pub mod BesideLemmas
pub mod CloseLemmas
mod DiskLemmas
mod FirstLemmas
mod JoinLemmas
pub mod KeepLemmas
mod OpenLemmas
pub mod OutLemmas
mod PlanLemmas
mod SaveLemmas
mod ServeLemmas
mod StateLemmas
mod TrackLemmas
pub mod first_cluster_proofs
pub mod line_tracks_proofs
pub mod served_cluster_proofs
