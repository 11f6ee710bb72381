-- When a refusal by names or limits is due.
use Rattle.std.proofs.Common.{◌≡◌, ◌≤◌, ◌<◌, ◌&&◌, ◌||◌, ℕ, List, [], ◌∷◌, length, Bool, true, false, not, nat_eq, nat_le, Option, Some, None, refl, sym, ap, ◌∙◌, inl, inr}
use Rattle.std.specs.Cmp.Lexicographic.{pointwise}
use Rattle.std.specs.List.{list_any}
use Rattle.std.specs.Option.{option_or}
use Rattle.std.proofs.lemmas.Bool.{le-leb, lt-leb}
use Rattle.std.proofs.lemmas.Slice.Eq.{bytes_eq-Decides}
use Rattle.std.proofs.Math.Bool.{or-true}
use Rattle.m3_model.specs.Members.{IsIn}
use Rattle.m3_model.specs.declared.act.Act.{Act}
use Rattle.m3_model.specs.declared.act.Act.TheVariants as act
use Rattle.m3_model.specs.declared.answer.Answer.{Answer}
use Rattle.m3_model.specs.declared.answer.Answer.TheVariants as answer
use Rattle.m3_model.specs.declared.limits.TheConstants.{MOST_NODES, MOST_VERSIONS}
use Rattle.m3_model.specs.declared.placement.Instance.{Instance}
use Rattle.m3_model.specs.declared.placement.Placement.{Placement}
use Rattle.placement_core.specs.NodeNames.{is_listed}
use Rattle.placement_plan.specs.Nodes.{IsNewName, ListsNode}
use Rattle.placement_plan.specs.Plans.{HasRoom}
use Rattle.placement_plan.specs.Refusals.{IsPastLimit}
use Rattle.placement_plan.specs.declared.plan_err.PlaceErr.TheVariants as refused
use Rattle.placement_plan.proofs.NodeLemmas.{lists_found}
use Rattle.placement_acts.specs.Acts.{answer_if, is_known, is_step_act, names_due, old_name, order_due, unknown_due, refusal_by_names, versions_due, Plans, Refuses}
use Rattle.placement_acts.proofs.ActLemmas.{by_step}

-- ---- names

pub known_in : (name : List ℕ) (instances : List Instance) (i : Instance) → IsIn instances i → i.name ≡ name → list_any (λ (node : Instance). pointwise nat_eq name node.name) instances ≡ true
known_in name [] i m e = absurd m
known_in name (x ∷ xs) i m e =
    let test : Instance → Bool = λ node. pointwise nat_eq name node.name in
    elim m as (λ _. (test x || list_any test xs) ≡ true) [
      | inl here ↦ ap (λ b. b || list_any test xs) (ap test here ∙ (bytes_eq-Decides name i.name).1 (sym e))
      | inr later ↦ ap (λ b. test x || b) (known_in name xs i later e) ∙ or-true (test x)
    ]

none_known : (name : List ℕ) (instances : List Instance) → IsNewName instances name → list_any (λ (node : Instance). pointwise nat_eq name node.name) instances ≡ false
none_known name [] new = refl
none_known name (x ∷ xs) new = by (pointwise nat_eq name x.name) refl (none_known name xs (λ i m. new i (inr m)))
  where
    test : Instance → Bool
    test node = pointwise nat_eq name node.name

    by : (b : Bool) → pointwise nat_eq name x.name ≡ b → list_any test xs ≡ false → (test x || list_any test xs) ≡ false
    by true e rest = absurd (new x (inl refl) (sym ((bytes_eq-Decides name x.name).0 e)))
    by false e rest = ap (λ b. b || list_any test xs) e ∙ rest

pub new_if_unknown : (name : List ℕ) (place : Placement) → is_known name place ≡ false → IsNewName place.instances name
new_if_unknown name place none i m e = let clash : true ≡ false = sym (known_in name place.instances i m e) ∙ none in cc

-- ---- each refusal

pub order_is_due : (place : Placement) (name : List ℕ) → is_listed name place ≡ true → order_due place name ≡ Some answer.Order
order_is_due place name listed = ap (λ b. answer_if b answer.Order) listed

pub order_is_not : (place : Placement) (name : List ℕ) → is_listed name place ≡ false → order_due place name ≡ None
order_is_not place name new = ap (λ b. answer_if b answer.Order) new

pub unknown_is_due : (place : Placement) (name : List ℕ) → is_listed name place ≡ false → unknown_due place name ≡ Some (answer.Unknown name)
unknown_is_due place name new = ap (λ b. answer_if (not b) (answer.Unknown name)) new

pub unknown_is_not : (place : Placement) (name : List ℕ) → is_listed name place ≡ true → unknown_due place name ≡ None
unknown_is_not place name listed = ap (λ b. answer_if (not b) (answer.Unknown name)) listed

abbrev names_by : Bool → Bool → Option Answer
names_by known many = answer_if (not known && many) (answer.Limit MOST_NODES)

pub names_are_due : (place : Placement) (name : List ℕ) → IsNewName place.instances name → MOST_NODES ≤ length place.instances → names_due place name ≡ Some (answer.Limit MOST_NODES)
names_are_due place name new many =
    ap (λ b. names_by b (nat_le MOST_NODES (length place.instances))) (none_known name place.instances new) ∙ ap (names_by false) (le-leb MOST_NODES (length place.instances) many)

pub names_are_not : (place : Placement) (name : List ℕ) → HasRoom place.instances name → names_due place name ≡ None
names_are_not place name room = by (is_known name place) refl
  where
    by : (known : Bool) → is_known name place ≡ known → names_due place name ≡ None
    by true e = ap (λ b. names_by b (nat_le MOST_NODES (length place.instances))) e
    by false e = ap (λ b. names_by b (nat_le MOST_NODES (length place.instances))) e ∙ ap (names_by false) (lt-leb MOST_NODES (length place.instances) (room (new_if_unknown name place e)))

abbrev versions_by : Bool → Bool → Option Answer
versions_by step many = answer_if (step && many) (answer.Limit MOST_VERSIONS)

pub versions_are_due : (kept : ℕ) (a : Act) → is_step_act a ≡ true → MOST_VERSIONS ≤ kept → versions_due kept a ≡ Some (answer.Limit MOST_VERSIONS)
versions_are_due kept a step many = ap (λ b. versions_by b (nat_le MOST_VERSIONS kept)) step ∙ ap (versions_by true) (le-leb MOST_VERSIONS kept many)

pub versions_are_not : (kept : ℕ) (a : Act) → is_step_act a ≡ true → kept < MOST_VERSIONS → versions_due kept a ≡ None
versions_are_not kept a step few = ap (λ b. versions_by b (nat_le MOST_VERSIONS kept)) step ∙ ap (versions_by true) (lt-leb MOST_VERSIONS kept few)

-- ---- acts

pub addition_is_free : (place : Placement) (name group : List ℕ) → is_listed name place ≡ false → HasRoom place.instances name → refusal_by_names place (act.Add name group) ≡ None
addition_is_free place name group new room = ap (λ o. option_or o (names_due place name)) (order_is_not place name new) ∙ names_are_not place name room

pub listed_is_free : (place : Placement) (name : List ℕ) (node : ℕ) → ListsNode place.instances name node → unknown_due place name ≡ None
listed_is_free place name node lists = unknown_is_not place name (lists_found place name node lists)

pub replacement_is_free : (place : Placement) (name by group : List ℕ) (node : ℕ) → is_listed by place ≡ false → ListsNode place.instances name node → HasRoom place.instances by → refusal_by_names place (act.Replace name by group) ≡ None
replacement_is_free place name by group node new lists room =
    ap (λ o. option_or o (option_or (unknown_due place name) (names_due place by))) (order_is_not place by new)
    ∙ ap (λ o. option_or o (names_due place by)) (listed_is_free place name node lists) ∙ names_are_not place by room

-- a step that is planned isn't refused by names
pub planned_is_free : (place : Placement) (next : Placement) (a : Act) → is_step_act a ≡ true → Plans (Some place) a next → refusal_by_names place a ≡ None
planned_is_free place next = by_step (λ a. Plans (Some place) a next → refusal_by_names place a ≡ None)
    (λ node group plan. addition_is_free place node group plan.is_new plan.room)
    (λ node plan. listed_is_free place node plan.node plan.lists)
    (λ node plan. listed_is_free place node plan.node plan.lists)
    (λ node plan. listed_is_free place node plan.node plan.lists)
    (λ node by group plan. replacement_is_free place node by group plan.node plan.may.is_new plan.may.lists plan.may.room)

-- nor is one of which a shard is busy
pub busy_is_free : (place : Placement) (shard node : ℕ) (a : Act) → is_step_act a ≡ true → Refuses (Some place) a (refused.Busy shard node) → refusal_by_names place a ≡ None
busy_is_free place shard node = by_step (λ a. Refuses (Some place) a (refused.Busy shard node) → refusal_by_names place a ≡ None)
    (λ name group h. absurd h)
    (λ name h. listed_is_free place name h.0 h.1)
    (λ name h. absurd h)
    (λ name h. listed_is_free place name node h.0)
    (λ name by group h. replacement_is_free place name by group h.2.0 h.0 h.2.1 h.1)

-- or finds no group
pub stuck_is_free : (place : Placement) (shard : ℕ) (a : Act) → is_step_act a ≡ true → Refuses (Some place) a (refused.Group shard) → refusal_by_names place a ≡ None
stuck_is_free place shard = by_step (λ a. Refuses (Some place) a (refused.Group shard) → refusal_by_names place a ≡ None)
    (λ name group h. absurd h)
    (λ name h. listed_is_free place name h.0 h.1)
    (λ name h. absurd h)
    (λ name h. absurd h)
    (λ name by group h. replacement_is_free place name by group h.2.0 h.0 h.2.1 h.1)

-- ---- refusals by names

pub exists_by_names : (place : Placement) (a : Act) → is_step_act a ≡ true → Refuses (Some place) a refused.Exists → refusal_by_names place a ≡ Some answer.Order
exists_by_names place = by_step (λ a. Refuses (Some place) a refused.Exists → refusal_by_names place a ≡ Some answer.Order)
    (λ name group h. ap (λ o. option_or o (names_due place name)) (order_is_due place name h))
    (λ name h. absurd h)
    (λ name h. absurd h)
    (λ name h. absurd h)
    (λ name by group h. ap (λ o. option_or o (option_or (unknown_due place name) (names_due place by))) (order_is_due place by h))

pub unknown_by_names : (place : Placement) (a : Act) → is_step_act a ≡ true → Refuses (Some place) a refused.Unknown → refusal_by_names place a ≡ Some (answer.Unknown (old_name a))
unknown_by_names place = by_step (λ a. Refuses (Some place) a refused.Unknown → refusal_by_names place a ≡ Some (answer.Unknown (old_name a)))
    (λ name group h. absurd h)
    (λ name h. unknown_is_due place name h)
    (λ name h. unknown_is_due place name h)
    (λ name h. unknown_is_due place name h)
    (λ name by group h. ap (λ o. option_or o (option_or (unknown_due place name) (names_due place by))) (order_is_not place by h.0) ∙ ap (λ o. option_or o (names_due place by)) (unknown_is_due place name h.1))

limit_is : (place : Placement) (name : List ℕ) (limit : ℕ) → IsPastLimit place.instances name (refused.Limit limit) → names_due place name ≡ Some (answer.Limit limit)
limit_is place name limit h = names_are_due place name h.0 h.1 ∙ ap (λ n. Some (answer.Limit n)) (sym h.2)

pub limit_by_names : (place : Placement) (limit : ℕ) (a : Act) → is_step_act a ≡ true → Refuses (Some place) a (refused.Limit limit) → refusal_by_names place a ≡ Some (answer.Limit limit)
limit_by_names place limit = by_step (λ a. Refuses (Some place) a (refused.Limit limit) → refusal_by_names place a ≡ Some (answer.Limit limit))
    (λ name group h. ap (λ o. option_or o (names_due place name)) (order_is_not place name h.0) ∙ limit_is place name limit h.1)
    (λ name h. absurd h)
    (λ name h. absurd h)
    (λ name h. absurd h)
    (λ name by group h.
    ap (λ o. option_or o (option_or (unknown_due place name) (names_due place by))) (order_is_not place by h.0)
    ∙ ap (λ o. option_or o (names_due place by)) (unknown_is_not place name h.1) ∙ limit_is place by limit h.2)
