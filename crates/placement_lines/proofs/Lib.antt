pub mod DueLemmas
pub mod LineLemmas
pub mod WayCases
pub mod ChoiceLemmas
pub mod WayLemmas
pub mod PlanLemmas
pub mod LawLemmas
