pub use Rattle.net_plan.specs.Fates
pub use Rattle.net_plan.specs.declared
