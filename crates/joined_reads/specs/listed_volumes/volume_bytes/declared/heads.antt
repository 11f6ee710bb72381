pub use Rattle.listed_volumes.specs.volume_bytes.declared.heads.Head
