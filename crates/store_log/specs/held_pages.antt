pub use Rattle.joined_reads.specs.held_pages.Rises
pub use Rattle.joined_reads.specs.held_pages.Walks
pub use Rattle.joined_reads.specs.held_pages.declared
