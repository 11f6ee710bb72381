mod CountLemmas
mod DiskLemmas
