pub use Rattle.volume_rows.specs.Ranges
pub use Rattle.volume_rows.specs.Seekers
pub use Rattle.volume_rows.specs.declared
pub mod fileset_lookup
