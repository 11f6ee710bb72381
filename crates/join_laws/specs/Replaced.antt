-- Transcripts in which a of three nodes is replaced by d, and then d by e.
use Rattle.std.specs.Prelude.{ℕ, List, [], ◌∷◌, ◌++◌, Option, Some, None, true, codes, slice_set}
use Rattle.m3_model.specs.declared.act.Act.{Act}
use Rattle.m3_model.specs.declared.act.Act.TheVariants as act
use Rattle.m3_model.specs.declared.answer.Answer.{Answer}
use Rattle.m3_model.specs.declared.answer.Answer.TheVariants as answer
use Rattle.m3_model.specs.declared.answer.StatusLine.{StatusLine}
use Rattle.m3_model.specs.declared.placement.Instance.{Instance}
use Rattle.m3_model.specs.declared.placement.Placement.{Placement}
use Rattle.m3_model.specs.declared.placement.ShardState.TheVariants.{Available}
use Rattle.m3_model.specs.declared.reason.Reason.{Reason}
use Rattle.m3_model.specs.declared.reason.Reason.TheVariants as reason
use Rattle.m3_model.specs.declared.replica.Standing.{Standing}
use Rattle.m3_model.specs.declared.turn.Turn.{Turn}
use Rattle.placement_plan.specs.First.{first_instances}
use Rattle.placement_plan.specs.Nodes.{fresh_node}
use Rattle.transcripts.specs.Record.{Life}
use Rattle.model_laws.specs.Building.{assigned, begun, line, made, nodes}
use Rattle.model_laws.specs.Messages.{stopped}
use Rattle.move_laws.specs.Moving.{both_to_a, first_on_a, holding, joining, leaving, reopened_with}

-- ---- placements

-- the node was drained, and is listed still
abbrev pub gone : List ℕ → Instance
gone name = record { name = name; group = codes "g1"; listed = true; drained = true }

abbrev pub with_d : List Instance
with_d = slice_set (first_instances nodes ++ fresh_node (codes "d") (codes "g1") ∷ []) 0 (gone (codes "a"))

abbrev pub with_e : List Instance
with_e = slice_set (with_d ++ fresh_node (codes "e") (codes "g1") ∷ []) 3 (gone (codes "d"))

-- a is to give the only shard to d
abbrev pub a_to_d : Placement
a_to_d = record { version = 2; rf = 3; instances = with_d; shards = (leaving 0 1 ∷ assigned 1 ∷ assigned 2 ∷ joining 3 2 0 ∷ []) ∷ [] }

-- d has it
abbrev pub on_d : Placement
on_d = record { version = 3; rf = 3; instances = with_d; shards = (assigned 1 ∷ assigned 2 ∷ holding 3 2 ∷ []) ∷ [] }

-- d is to give it to e
abbrev pub d_to_e : Placement
d_to_e = record { version = 4; rf = 3; instances = with_e; shards = (assigned 1 ∷ assigned 2 ∷ leaving 3 2 ∷ joining 4 4 3 ∷ []) ∷ [] }

-- e has it
abbrev pub on_e : Placement
on_e = record { version = 5; rf = 3; instances = with_e; shards = (assigned 1 ∷ assigned 2 ∷ holding 4 4 ∷ []) ∷ [] }

-- ---- lines

abbrev pub replaced_a : Turn
replaced_a = line (act.Replace (codes "a") (codes "d") (codes "g1")) (answer.Placed a_to_d 2)

abbrev pub replaced_d : Turn
replaced_d = line (act.Replace (codes "d") (codes "e") (codes "g1")) (answer.Placed d_to_e 4)

-- a bootstrap of all shards of a node, with its answer
abbrev pub boot : List ℕ → Answer → Turn
boot name b = line (act.Bootstrap name None) b

-- d joined, and prints these nodes
abbrev pub d_prints : List ℕ → Answer
d_prints names = answer.Available ((0, names) ∷ []) on_d 3

-- e joined, and prints these
abbrev pub e_prints : List ℕ → Answer
e_prints names = answer.Available ((0, names) ∷ []) on_e 5

-- d joined with b and c, and is to give the shard to e
abbrev pub before_e : List Turn
before_e = made ∷ replaced_a ∷ boot (codes "d") (d_prints (1 ∷ 2 ∷ [])) ∷ replaced_d ∷ []

-- then this line comes
abbrev pub then_last : Act → Answer → List Turn
then_last a b = before_e ++ line a b ∷ []

-- then e's bootstrap prints these nodes
abbrev pub second_prints : List ℕ → List Turn
second_prints names = then_last (act.Bootstrap (codes "e") None) (e_prints names)

-- b and c are stopped, and d is to join
abbrev pub both_stopped : List Turn
both_stopped = made ∷ stopped (codes "b") ∷ stopped (codes "c") ∷ replaced_a ∷ []

-- and prints them
abbrev pub stopped_print : List Turn
stopped_print = both_stopped ++ boot (codes "d") (d_prints (1 ∷ 2 ∷ [])) ∷ []

-- b was stopped and restarted, so that its replica lies idle, and d is to join
abbrev pub b_idle : List Turn
b_idle = made ∷ stopped (codes "b") ∷ line (act.Restart (codes "b") 0) answer.Done ∷ replaced_a ∷ []

-- and prints b
abbrev pub idle_print : List Turn
idle_print = b_idle ++ boot (codes "d") (d_prints (1 ∷ 2 ∷ [])) ∷ []

-- a bootstrap of one shard of a node, with its answer
abbrev pub boot_of : List ℕ → ℕ → Answer → Turn
boot_of name shard b = line (act.Bootstrap name (Some shard)) b

-- in a run that begins while b is to give both shards to a, b bootstraps the second one alone, and a joins the first one and prints b
abbrev pub half_idle : List Turn
half_idle = boot_of (codes "b") 1 (answer.Available [] both_to_a 2) ∷ boot_of (codes "a") 0 (answer.Available ((0, 1 ∷ []) ∷ []) first_on_a 3) ∷ []

-- ---- too few peers

-- d is to join
abbrev pub moving_to_d : List Turn
moving_to_d = made ∷ replaced_a ∷ []

-- so many streamed of so many that were needed, and these didn't
abbrev pub few : ℕ → ℕ → List (ℕ × Reason) → Answer
few got needed reasons = answer.Peers got needed reasons 0

-- d's bootstrap is answered so
abbrev pub misses : Answer → List Turn
misses b = moving_to_d ++ boot (codes "d") b ∷ []

-- these nodes wanted memory
abbrev pub forgetful : ℕ → ℕ × Reason
forgetful node = (node, reason.Memory)

-- all three are stopped, and then d is to join
abbrev pub all_stopped : List Turn
all_stopped = made ∷ stopped (codes "a") ∷ stopped (codes "b") ∷ stopped (codes "c") ∷ replaced_a ∷ []

-- b lies idle, and d's bootstrap is answered so
abbrev pub idle_misses : Answer → List Turn
idle_misses b = b_idle ++ boot (codes "d") b ∷ []

-- a run that begins while a of two nodes is to have both shards, in which a bootstrap of this node and shard finds too few peers for the first one
abbrev pub first_missed : List ℕ → Option ℕ → Life
first_missed name asked = reopened_with both_to_a (line (act.Bootstrap name asked) (answer.Peers 0 1 (forgetful 1 ∷ []) 0) ∷ [])

-- ---- replicas that only a fault explains

-- d's bootstrap passes its replica over
abbrev pub passed_over : List Turn
passed_over = moving_to_d ++ boot (codes "d") (answer.Available [] a_to_d 2) ∷ []

-- the line of a node that stands so, of the only shard
abbrev pub standing_line : Standing → ℕ → StatusLine
standing_line standing node = record { buffered = 0; fence = 1; node = node; segments = 0; shard = 0; snapshot = 0; standing = standing; state = Available; volumes = 0 }

-- after these lines of the three nodes c stands so, and the others are said to be open
abbrev pub status_after : List Turn → List StatusLine → List Turn
status_after lines said = begun 100 (lines ++ line act.Status (answer.Status 100 said 1) ∷ [])

-- ---- upkeep

-- d, which is to join, refuses a tick for this reason
abbrev pub refuses_tick : Reason → List Turn
refuses_tick why = moving_to_d ++ line act.Tick (answer.Swept ((0, 0, 0) ∷ (1, 0, 0) ∷ (2, 0, 0) ∷ []) ((3, 0, why) ∷ [])) ∷ []
