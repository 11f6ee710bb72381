-- What a run leaves to the next one.
use Rattle.std.specs.Prelude.{◌≡◌, ◌⊎◌, ℕ, ⊤, List, Option, Some}
use Rattle.m3_model.specs.Members.{IsIn}
use Rattle.m3_model.specs.Reads.{Covers}
use Rattle.m3_model.specs.Rules.{HasExpired}
use Rattle.transcripts.specs.Placements.{seed_after}
use Rattle.transcripts.specs.Points.{point_of}
use Rattle.transcripts.specs.Record.{acts_of, inner_turns}
use Rattle.transcripts.specs.Rules.{rules_after, start_rules}
use Rattle.m3_model.specs.declared.act.Act.{Act}
use Rattle.m3_model.specs.declared.point.Point.{Point}
use Rattle.m3_model.specs.declared.rules.MetaState.{MetaState}
use Rattle.m3_model.specs.declared.rules.Rules.{Rules}
use Rattle.m3_model.specs.declared.turn.Request.{Request}
use Rattle.m3_model.specs.declared.turn.Turn.{Turn}
use Rattle.cluster_core.specs.Core.{Opening, held}
use Rattle.cluster_core.specs.Earlier.{last_clock, last_place}
use Rattle.cluster_core.specs.Replicas.{replica}
use Rattle.cluster_core.specs.declared.event.Event.{Event}
use Rattle.cluster_core.specs.declared.event.Event.TheVariants as event

-- the state after the turns: their rules and seed, with the last Clock and the last Place of the list
pub record IsLeftState (start : Option MetaState) (turns : List Turn) (events : List Event) (left : MetaState) : Type 0 where
  pub rules_are : left.rules ≡ rules_after (start_rules start) (inner_turns turns)
  pub clock : last_clock events ≡ Some left.rules
  pub seed_is : left.seed ≡ seed_after start (inner_turns turns)
  pub place : last_place events ≡ Some left.place

-- the replicas open again with what they held and what hasn't expired, or higher values, and with nothing that wasn't sure, in doubt or theirs at the opening
pub record HoldsAgain (events : List Event) (opening : Opening) (left : MetaState) (next : Opening) : Type 0 where
  pub all_there : (n s : ℕ) (p : Point) → IsIn (held opening events n s) p → ¬ HasExpired left.rules p → Covers (next n s) p
  pub nothing_else : (n s : ℕ) (p : Point) → IsIn (next n s) p → IsIn (replica n s events).sure p ⊎ (IsIn (replica n s events).doubt p ⊎ IsIn (opening n s) p)

-- an event that the last request may have made where it got no answer: it sends points of its writes, and sets no rules and no placement
abbrev pub MayBeOpen : Option Request → Rules → Event → Type 0
MayBeOpen unanswered rules (event.Send version s point) = (a : Act) × IsIn (acts_of unanswered) a × (point_of rules.spaces a ≡ Some point)
MayBeOpen unanswered rules (event.Clock set) = ⊥
MayBeOpen unanswered rules (event.Place placement done) = ⊥
MayBeOpen unanswered rules _ = ⊤
