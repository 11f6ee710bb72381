pub mod ClashLemmas
pub mod WrittenRuns
pub mod LineRuns
pub mod StateRuns
pub mod ScriptRuns
pub mod FaultRuns
pub mod StreamRuns
pub mod EndRuns
