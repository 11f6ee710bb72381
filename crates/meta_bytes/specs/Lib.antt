pub mod Forms
pub mod Lists
pub mod States
pub mod StateParts
