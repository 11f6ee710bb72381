pub use Rattle.placement_acts.specs.Acts
