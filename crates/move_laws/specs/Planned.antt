-- Transcripts with a line that makes a placement, over two nodes that have two shards with one replica each.
use Rattle.std.specs.Prelude.{◌≡◌, ℕ, List, [], ◌∷◌, ◌++◌, Bool, Option, Some, true, codes, slice_set}
use Rattle.m3_model.specs.declared.act.Act.{Act}
use Rattle.m3_model.specs.declared.act.Act.TheVariants as act
use Rattle.m3_model.specs.declared.answer.Answer.{Answer}
use Rattle.m3_model.specs.declared.placement.Assignment.{Assignment}
use Rattle.m3_model.specs.declared.placement.Placement.{Placement}
use Rattle.m3_model.specs.declared.rules.Rules.{Rules}
use Rattle.placement_plan.specs.First.{first_instances}
use Rattle.placement_plan.specs.Nodes.{fresh_node}
use Rattle.transcripts.specs.Faults.{Fault, Taking}
use Rattle.transcripts.specs.Record.{Life}
use Rattle.transcripts.specs.Refusals.{refusal_by}
use Rattle.model_laws.specs.Building.{assigned, life_of, line, place_of_two, two_nodes, with_two_shards}
use Rattle.move_laws.specs.Moving.{at_both, holding, joining, leaving, reopened_with}

-- ---- a node that is drained

abbrev pub drain_a : Act
drain_a = act.Drain (codes "a")

-- a is drained, and its shard moves to b
abbrev pub a_drained : Placement
a_drained = record {
  version = 2;
  rf = 1;
  instances = slice_set (first_instances two_nodes) 0 (record { name = codes "a"; group = codes "g1"; listed = true; drained = true });
  shards = (leaving 0 1 ∷ joining 1 2 0 ∷ []) ∷ (assigned 1 ∷ []) ∷ [];
}

-- a has the first shard and b the second; then a is to be drained, with this answer
abbrev pub drain_answered : Answer → Life
drain_answered b = life_of (with_two_shards drain_a b)

-- the disk of a slot of this node and the first shard couldn't be taken in that line
abbrev pub untaken_of : ℕ → Fault
untaken_of node = record { line = 2; node = node; shard = 0; kind = Taking }

-- ---- a node that is removed

-- then a is to be removed, with this answer
abbrev pub remove_answered : Answer → Life
remove_answered b = life_of (with_two_shards (act.Remove (codes "a")) b)

-- ---- a node that is added

-- a has both shards
abbrev pub uneven : Placement
uneven = at_both 4 (holding 0 1 ∷ []) (holding 0 1 ∷ [])

abbrev pub add_c : Act
add_c = act.Add (codes "c") (codes "g3")

-- c is added, and the shards stand so
abbrev pub with_c : List Assignment → List Assignment → Placement
with_c first second = record { version = 5; rf = 1; instances = first_instances two_nodes ++ fresh_node (codes "c") (codes "g3") ∷ []; shards = first ∷ second ∷ [] }

-- c is to have the first shard of a
abbrev pub c_takes_first : Placement
c_takes_first = with_c (leaving 0 1 ∷ joining 2 5 0 ∷ []) (holding 0 1 ∷ [])

-- c is to have the second one
abbrev pub c_takes_second : Placement
c_takes_second = with_c (holding 0 1 ∷ []) (leaving 0 1 ∷ joining 2 5 0 ∷ [])

-- c is to have none
abbrev pub c_takes_none : Placement
c_takes_none = with_c (holding 0 1 ∷ []) (holding 0 1 ∷ [])

-- a run that begins so, in which c is to be added, with this answer
abbrev pub add_answered : Answer → Life
add_answered b = reopened_with uneven (line add_c b ∷ [])

-- ---- versions and groups

-- a cancellation at this version is refused so, in a run whose first placement has this one, whatever was printed since
abbrev pub CancelIsRefused : ℕ → ℕ → Option Answer → Type 0
CancelIsRefused first version refusal =
    (versions : List ℕ) (rules : Rules) (stopped : List ℕ → Bool) → refusal_by (Some (record place_of_two { version = version })) (first ∷ versions) rules stopped (act.Cancel (codes "a")) ≡ refusal

-- an `init` of so many replicas and shards on the two nodes, with its answer
abbrev pub init_answered : ℕ → ℕ → Answer → Life
init_answered rf shards b = life_of (line (act.Init rf shards 0 two_nodes) b ∷ [])
