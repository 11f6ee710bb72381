pub use Rattle.store_log.specs.listed_volumes.wire_bytes.Entries
