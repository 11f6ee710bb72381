pub mod event
