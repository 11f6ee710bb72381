mod FieldLemmas
mod GainLemmas
mod StandLemmas
