pub mod entries
pub mod load_err
