pub mod Known
pub mod KnownLists
pub mod Laws
