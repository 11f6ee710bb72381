pub use Rattle.joined_reads.specs.Beside
