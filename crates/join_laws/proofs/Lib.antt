pub mod PlanLemmas
pub mod NameLemmas
pub mod JoinedLives
pub mod PeerLives
pub mod BlamedLives
pub mod LimitLives
pub mod LeftLives
