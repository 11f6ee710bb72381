pub use Rattle.placement_core.specs.Lawful
