pub use Rattle.placement_plan.specs.First
pub use Rattle.placement_plan.specs.declared
