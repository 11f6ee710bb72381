pub mod States
pub mod MetaHolds
pub mod Damage
pub mod MetaLaws
