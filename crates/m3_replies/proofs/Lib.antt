pub mod PlainLemmas
pub mod PlainReplies
pub mod TellingLemmas
