pub use Rattle.fileset_lookup.specs.Extents
