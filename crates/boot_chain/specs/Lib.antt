pub mod Ranges
pub mod Chains
pub mod Origins
pub mod Laws
