pub mod FateKeys
pub mod Fates
pub mod Laws
