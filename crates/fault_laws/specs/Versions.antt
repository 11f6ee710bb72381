-- Placements by their versions: runs that begin with one, bootstraps, and calls that give a version.
use Rattle.std.specs.Prelude.{ℕ, ℤ, List, [], ◌∷◌, Some, None, codes}
use Rattle.transcripts.specs.Record.{InnerTurn, Life}
use Rattle.m3_model.specs.declared.act.Act.{Act}
use Rattle.m3_model.specs.declared.act.Act.TheVariants as act
use Rattle.m3_model.specs.declared.act.WriteLevel.TheVariants as write_level
use Rattle.m3_model.specs.declared.answer.Answer.TheVariants as answer
use Rattle.m3_model.specs.declared.placement.Placement.{Placement}
use Rattle.m3_model.specs.declared.reason.Reason.TheVariants as reason
use Rattle.m3_model.specs.declared.rules.MetaState.{MetaState}
use Rattle.m3_model.specs.declared.turn.Turn.{Turn}
use Rattle.model_laws.specs.Building.{assigned, line, place, space, two_nodes}
use Rattle.fault_laws.specs.Faulty.{bootstrap_c, without_c}
use Rattle.placement_plan.specs.First.{first_instances}

-- the placement of the three nodes at this version
abbrev pub at_version : ℕ → Placement
at_version version = record place { version = version }

-- what the meta disk holds of a cluster at version 2
abbrev pub held_2 : MetaState
held_2 = record { rules = record { now = 100; spaces = space ∷ [] }; seed = 0; place = at_version 2 }

-- a run that begins with version 2
abbrev pub reopened : List Turn → Life
reopened turns = record { past = []; present = record { start = Some held_2; turns = turns; unanswered = None } }

-- a bootstrap of c that leaves the placement of this version, and says that it is this version
abbrev pub c_left : ℕ → ℕ → Turn
c_left version told = bootstrap_c (answer.Available [] (at_version version) told)

-- a run that begins with version 2, and where c alone didn't take the first write, since it waits for a bootstrap
abbrev pub waits_from_start : Life
waits_from_start = reopened (without_c reason.Boot ∷ [])

-- the same after a bootstrap of c
abbrev pub waits_after_boot : Life
waits_after_boot = reopened (c_left 2 2 ∷ without_c reason.Boot ∷ [])

-- a turn that printed the placement of this version
abbrev pub prints : ℕ → InnerTurn
prints version = record { act = act.Bootstrap (codes "c") None; answer = answer.Available [] (at_version version) version }

-- a write that gives a version
abbrev pub write_at : ℕ → ℕ → ℤ → Act
write_at version t v = act.Write (codes "m") (codes "hello") t v write_level.Majority (Some version)

-- a first placement of two shards on these of two nodes
abbrev pub two_on : ℕ → ℕ → List Turn
two_on first second =
    line (act.Init 1 2 0 two_nodes) (answer.Placed (record { version = 1; rf = 1; instances = first_instances two_nodes; shards = (assigned first ∷ []) ∷ (assigned second ∷ []) ∷ [] }) 1) ∷ []
