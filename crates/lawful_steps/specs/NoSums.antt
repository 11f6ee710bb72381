-- Digests can't be traced back to points: steps that answer them are left out of what is decided.
use Rattle.cluster_core.specs.declared.event.StepReply.{StepReply}
use Rattle.cluster_core.specs.declared.event.StepReply.TheVariants as reply
use Rattle.std.specs.Prelude.{⊤}

-- no digests were answered
abbrev pub GivesNoSums : StepReply → Type 0
GivesNoSums (reply.Sums digests) = ⊥
GivesNoSums _ = ⊤
