pub use Rattle.held_pages.specs.Rises
pub use Rattle.held_pages.specs.Walks
pub use Rattle.held_pages.specs.declared
