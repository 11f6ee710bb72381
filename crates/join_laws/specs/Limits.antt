-- Bootstraps once many versions are kept: whatever lines led there.
use Rattle.std.specs.Prelude.{◌≡◌, ◌∷◌, [], ℕ, List, Some, None, Option, Bool, true, false, codes}
use Rattle.m3_model.specs.declared.act.Act.{Act}
use Rattle.m3_model.specs.declared.act.Act.TheVariants as act
use Rattle.m3_model.specs.declared.answer.Answer.{Answer}
use Rattle.m3_model.specs.declared.placement.Placement.{Placement}
use Rattle.m3_model.specs.declared.turn.Turn.{Turn}
use Rattle.transcripts.specs.Caused.{CausedAt, refusal_after, versions_after}
use Rattle.transcripts.specs.Faults.{Fault}
use Rattle.transcripts.specs.Fates.{is_stopped}
use Rattle.transcripts.specs.Placements.{placement_after}
use Rattle.transcripts.specs.Record.{inner_turns}
use Rattle.transcripts.specs.Waiting.{Replica, idles_after}
use Rattle.model_laws.specs.Building.{position_after}
use Rattle.join_laws.specs.Replaced.{a_to_d}

-- at this version a is to give the only shard to d
abbrev pub late : ℕ → Placement
late version = record a_to_d { version = version }

abbrev pub boots_d : Act
boots_d = act.Bootstrap (codes "d") None

-- After these lines that placement stands at this version, in a run whose first one had version 1, and nothing refuses a bootstrap of d.
pub record StandsLate (version : ℕ) (lines : List Turn) : Type 0 where
  pub place_is : placement_after None (inner_turns lines) ≡ Some (late version)
  pub later : List ℕ
  pub versions : versions_after None (inner_turns lines) ≡ 1 ∷ later
  pub free : (b : Answer) → refusal_after None (position_after lines boots_d b) (inner_turns lines) ≡ None

-- a node's replica of the only shard
abbrev pub of_shard : ℕ → List ℕ → Replica
of_shard node name = record { shard = 0; node = node; name = name }

-- none of these nodes of these names is stopped, and none of their replicas lies idle
abbrev pub Serve : List Turn → List (ℕ × List ℕ) → Type 0
Serve lines [] = Unit {0}
Serve lines (x ∷ xs) = ((is_stopped (inner_turns lines) x.1 ≡ false) × (idles_after (of_shard x.0 x.1) None (inner_turns lines) ≡ false)) × Serve lines xs

-- d's bootstrap may be answered so then, over these faults
abbrev pub MayBootLate : List Turn → List Fault → Answer → Type 0
MayBootLate lines faults b = CausedAt true faults [] None [] (position_after lines boots_d b)
