mod LoopLemmas
mod LegalLemmas
