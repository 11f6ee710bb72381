pub mod CountLemmas
pub mod SentLemmas
pub mod PageLemmas
pub mod StreamLemmas
pub mod FewLemmas
