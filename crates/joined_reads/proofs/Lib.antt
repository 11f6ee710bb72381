pub mod BesideLemmas
pub mod listed_volumes_proofs
