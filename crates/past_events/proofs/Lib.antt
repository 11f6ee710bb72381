mod RestLemmas
mod CountLemmas
mod CoverLemmas
mod PeerLemmas
mod EarlierLemmas
