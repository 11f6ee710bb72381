pub mod ActLemmas
pub mod OwnLemmas
pub mod KeptLemmas
pub mod TrackLemmas
pub mod PlaceLemmas
pub mod PlanLemmas
pub mod JoinLemmas
pub use Rattle.line_tracks.proofs.tracks.EndLemmas
