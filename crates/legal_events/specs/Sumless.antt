-- Lists without digests: what is decided of a step and of a list.
use Rattle.std.specs.Prelude.{⊤, List, true}
use Rattle.cluster_core.specs.Asks.{StepWasAsked}
use Rattle.cluster_core.specs.Replicas.{replica}
use Rattle.cluster_core.specs.Rows.{LawfulStep}
use Rattle.cluster_core.specs.declared.event.Event.{Event}
use Rattle.cluster_core.specs.declared.event.Event.TheVariants as event
use Rattle.lawful_steps.specs.NoSums.{GivesNoSums}

-- the event is no answer of digests
abbrev pub HasNoSums : Event → Type 0
HasNoSums (event.Step n s c a) = GivesNoSums a
HasNoSums _ = ⊤

-- a step that was asked for and is lawful, and no answer of digests
abbrev pub IsAskedStep : List Event → Event → Type 0
IsAskedStep past (event.Step n s c a) = (StepWasAsked past (event.Step n s c a) × LawfulStep true past n s (replica n s past) c a) × GivesNoSums a
IsAskedStep past _ = ⊥
