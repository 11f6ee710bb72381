pub mod PageLemmas
pub mod CallLemmas
pub mod StreamLemmas
pub mod JoinLemmas
pub mod ResultLemmas
