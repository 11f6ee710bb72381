mod HeldLemmas
mod SizeLemmas
