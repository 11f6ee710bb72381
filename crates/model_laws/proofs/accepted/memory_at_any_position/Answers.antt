use Rattle.std.proofs.Common.{refl, inl}
use Rattle.model_laws.proofs.CausedLives.{at_moment-caused}
use Rattle.model_laws.proofs.accepted.memory_at_any_position.Goals as goal

pub returns : goal.returns
returns c = λ now a. at_moment-caused now a _ (inl refl)
