pub mod HeadLemmas
pub mod OrderLemmas
pub mod SizeLemmas
pub mod RunLemmas
pub mod SpotLemmas
pub mod BitLemmas
pub mod ExtentLemmas
