pub mod Higher
