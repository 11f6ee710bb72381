pub mod NotYet
