pub use Rattle.event_book.specs.Lists
