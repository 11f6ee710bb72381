-- What a line that makes a placement leads to: the next placement, or the first refusal that is due; M3DB's page "Placement".
use Rattle.std.specs.Prelude.{◌≡◌, ◌⊎◌, ℕ, List, [], length, Option, Some, None, Bool, true, false, not, ◌&&◌, if◌then◌else◌, nat_eq, nat_le}
use Rattle.std.specs.Cmp.Lexicographic.{pointwise}
use Rattle.std.specs.List.{list_any}
use Rattle.std.specs.Option.{option_or}
use Rattle.placement_core.specs.m3_model.declared.act.Act.{Act}
use Rattle.placement_core.specs.m3_model.declared.act.Act.TheVariants as act
use Rattle.placement_core.specs.m3_model.declared.answer.Answer.{Answer}
use Rattle.placement_core.specs.m3_model.declared.answer.Answer.TheVariants as answer
use Rattle.placement_core.specs.m3_model.declared.limits.TheConstants.{MOST_NODES, MOST_VERSIONS}
use Rattle.placement_core.specs.m3_model.declared.placement.Instance.{Instance}
use Rattle.placement_core.specs.m3_model.declared.placement.Placement.{Placement}
use Rattle.placement_core.specs.NodeNames.{is_listed, name_of}
use Rattle.placement_plan.specs.Additions.{IsAddition}
use Rattle.placement_plan.specs.First.{IsInitial, RefusesInitial}
use Rattle.placement_plan.specs.Plans.{IsCancel, IsDrain, IsRemoval, IsReplacement}
use Rattle.placement_plan.specs.Refusals.{RefusesAdd, RefusesCancel, RefusesDrain, RefusesRemove, RefusesReplace}
use Rattle.placement_plan.specs.declared.plan_err.PlaceErr.{PlaceErr}
use Rattle.placement_plan.specs.declared.plan_err.PlaceErr.TheVariants as refused

-- ---- acts

-- the act asks for a step from the placement that stands
abbrev pub is_step_act : Act → Bool
is_step_act (act.Add node group) = true
is_step_act (act.Drain node) = true
is_step_act (act.Cancel node) = true
is_step_act (act.Remove node) = true
is_step_act (act.Replace node by group) = true
is_step_act _ = false

-- the name of the node that is to be there, and to serve the step
abbrev pub old_name : Act → List ℕ
old_name (act.Drain node) = node
old_name (act.Cancel node) = node
old_name (act.Remove node) = node
old_name (act.Replace node by group) = node
old_name _ = []

-- ---- refusals by names and limits

-- the answer, where the test holds
abbrev pub answer_if : Bool → Answer → Option Answer
answer_if test a = if test then Some a else None

-- a node is to be listed, and is listed already
abbrev pub order_due : Placement → List ℕ → Option Answer
order_due place name = answer_if (is_listed name place) answer.Order

-- a node is to be there, and isn't listed
abbrev pub unknown_due : Placement → List ℕ → Option Answer
unknown_due place name = answer_if (not (is_listed name place)) (answer.Unknown name)

-- some node has or had the name
abbrev pub is_known : List ℕ → Placement → Bool
is_known name place = list_any (λ node. pointwise nat_eq name node.name) place.instances

-- the name is new, and 16 are known
abbrev pub names_due : Placement → List ℕ → Option Answer
names_due place name = answer_if (not (is_known name place) && nat_le MOST_NODES (length place.instances)) (answer.Limit MOST_NODES)

-- the act makes one version more, and 1,024 are kept
abbrev pub versions_due : ℕ → Act → Option Answer
versions_due kept a = answer_if (is_step_act a && nat_le MOST_VERSIONS kept) (answer.Limit MOST_VERSIONS)

-- the first refusal of a step by the names of its act
abbrev pub refusal_by_names : Placement → Act → Option Answer
refusal_by_names place (act.Add node group) = option_or (order_due place node) (names_due place node)
refusal_by_names place (act.Drain node) = unknown_due place node
refusal_by_names place (act.Cancel node) = unknown_due place node
refusal_by_names place (act.Remove node) = unknown_due place node
refusal_by_names place (act.Replace node by group) = option_or (order_due place by) (option_or (unknown_due place node) (names_due place by))
refusal_by_names place _ = None

-- The first refusal that is due before a plan is tried: an `init` is out of order where a placement stands, and all else where none does; then names, then kept
-- versions.
abbrev pub refusal_due : Option Placement → ℕ → Act → Option Answer
refusal_due None kept (act.Init rf shards seed nodes) = None
refusal_due None kept _ = Some answer.Order
refusal_due (Some place) kept (act.Init rf shards seed nodes) = Some answer.Order
refusal_due (Some place) kept a = option_or (refusal_by_names place a) (versions_due kept a)

-- ---- plans

-- the placement that the planning rules lead to
abbrev pub Plans : Option Placement → Act → Placement → Type 0
Plans None (act.Init rf shards seed nodes) next = IsInitial rf shards nodes next
Plans (Some place) (act.Add node group) next = IsAddition place node group next
Plans (Some place) (act.Drain node) next = IsDrain place node next
Plans (Some place) (act.Cancel node) next = IsCancel place node next
Plans (Some place) (act.Remove node) next = IsRemoval place node next
Plans (Some place) (act.Replace node by group) next = IsReplacement place node by group next
Plans _ _ next = ⊥

-- why the planning rules lead to none
abbrev pub Refuses : Option Placement → Act → PlaceErr → Type 0
Refuses None (act.Init rf shards seed nodes) e = RefusesInitial rf nodes e
Refuses (Some place) (act.Add node group) e = RefusesAdd place node e
Refuses (Some place) (act.Drain node) e = RefusesDrain place node e
Refuses (Some place) (act.Cancel node) e = RefusesCancel place node e
Refuses (Some place) (act.Remove node) e = RefusesRemove place node e
Refuses (Some place) (act.Replace node by group) e = RefusesReplace place node by group e
Refuses _ _ e = ⊥

-- the nodes that are or were there
abbrev pub nodes_in : Option Placement → List Instance
nodes_in None = []
nodes_in (Some place) = place.instances

-- what is in the way of the plan: the least shard that moves, or that the node has, with the name of the node there; or the least shard without a group for it
abbrev pub IsInTheWay : Option Placement → Act → Answer → Type 0
IsInTheWay place a (answer.Busy name shard) = (node : ℕ) × Refuses place a (refused.Busy shard node) × (name ≡ name_of (nodes_in place) node)
IsInTheWay place a (answer.Group shard) = Refuses place a (refused.Group shard)
IsInTheWay place a _ = ⊥

-- ---- lines

-- the refusal by names and limits, where one is due, and else what is in the way
abbrev pub IsDueBy : Option Placement → Act → Option Answer → Answer → Type 0
IsDueBy place a (Some refusal) b = b ≡ refusal
IsDueBy place a None b = IsInTheWay place a b

-- Where this placement stands, or none, and so many versions are kept, the line of this act is refused with this answer.
abbrev pub IsRefused : Option Placement → ℕ → Act → Answer → Type 0
IsRefused place kept a b = IsDueBy place a (refusal_due place kept a) b

-- it leads to this placement
pub record LeadsTo (place : Option Placement) (kept : ℕ) (a : Act) (next : Placement) : Type 0 where
  pub free : refusal_due place kept a ≡ None
  pub plan : Plans place a next

-- it leads to none: for a refusal that is due, or for want of memory or of a further version
abbrev pub LeadsNowhere : Option Placement → ℕ → Act → Answer → Type 0
LeadsNowhere place kept a b = (b ≡ answer.Memory) ⊎ IsRefused place kept a b
