pub use Rattle.volume_rows.specs.fileset_lookup.Extents
