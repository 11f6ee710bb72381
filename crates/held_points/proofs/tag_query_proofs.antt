pub use Rattle.tag_query.proofs.Members
