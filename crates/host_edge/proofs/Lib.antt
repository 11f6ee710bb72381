pub mod SilentLemmas
