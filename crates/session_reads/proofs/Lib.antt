mod AskLemmas
mod ShardLemmas
mod GatherLemmas
mod FetchLemmas
