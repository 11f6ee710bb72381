pub mod NoSums
pub mod Shows
