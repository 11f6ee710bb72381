-- Loads, and what a move makes of them.
use Rattle.std.proofs.Common.{◌≡◌, ◌≢◌, ◌≤◌, ◌+◌, ◌-◌, ◌||◌, ◌&&◌, ℕ, List, [], ◌∷◌, ◌++◌, map, length, Bool, true, false, cond, nat_eq, slice_index, refl, sym, ap, subst, inl, inr, ◌∙◌, arith, IsTrue, ◌↔◌}
use Rattle.std.proofs.lemmas.Bool.{cases_eq, cases_lt, eq-eqb, ne_eqb}
use Rattle.std.proofs.lemmas.List.{get_or_past}
use Rattle.std.proofs.lemmas.List.Folds.{list_any-append}
use Rattle.std.proofs.lemmas.List.Sums.{count_by-le-length, sum_by-append, sum_by-cons}
use Rattle.std.proofs.Math.Bool.{or-false, or-true, and-false}
use Rattle.placement_core.specs.m3_model.declared.placement.ShardState.TheVariants.{Leaving}
use Rattle.placement_core.specs.m3_model.declared.placement.Assignment.{Assignment}
use Rattle.placement_core.specs.m3_model.declared.limits.TheConstants.{MOST_SHARDS}
use Rattle.placement_core.specs.Shards.{Shard, stays, is_staying}
use Rattle.placement_core.specs.Lawful.{IsSteady}
use Rattle.placement_core.specs.Steps.{turned}
use Rattle.placement_core.proofs.ChangeLemmas.{turned_cases, turned_node}
use Rattle.placement_plan.specs.Nodes.{Has, serves, load}
use Rattle.placement_plan.specs.Choices.{moved}
use Rattle.placement_plan.specs.Loads.{AreLoads, IsShifted, LoadsFollow}
use Rattle.placement_plan.proofs.SpreadLemmas.{joining_at}

-- ---- who serves a moved shard

abbrev test : ℕ → Assignment → Bool
test n a = nat_eq a.node n && is_staying a

not_at : (n : ℕ) (a : Assignment) → a.node ≢ n → test n a ≡ false
not_at n a ne = ap (λ b. b && is_staying a) (ne_eqb a.node n ne)

gone_at : (n : ℕ) (a : Assignment) → a.state ≡ Leaving → test n a ≡ false
gone_at n a e = ap (λ st. nat_eq a.node n && stays st) e ∙ and-false (nat_eq a.node n)

or_same : (a b c d : Bool) → a ≡ c → b ≡ d → (a || b) ≡ (c || d)
or_same a b c d e f = ap (λ x. x || b) e ∙ ap (λ x. c || x) f

pub serves_lacks : (n : ℕ) (shard : Shard) → ¬ Has n shard → serves n shard ≡ false
serves_lacks n [] h = refl
serves_lacks n (a ∷ shard) h = or_same (test n a) (serves n shard) false false (not_at n a (λ e. h (inl e))) (serves_lacks n shard (λ m. h (inr m)))

pub serves_has : (n : ℕ) (shard : Shard) → IsSteady shard → Has n shard → serves n shard ≡ true
serves_has n [] steady h = absurd h
serves_has n (a ∷ shard) steady h = elim h as (λ _. serves n (a ∷ shard) ≡ true) [
  | inl e ↦ ap (λ b. b || serves n shard) (ap (λ b. b && is_staying a) (eq-eqb a.node n e) ∙ ap stays (steady a (inl refl)).0)
  | inr m ↦ ap (λ b. test n a || b) (serves_has n shard (λ x k. steady x (inr k)) m) ∙ or-true (test n a)
]

serves_turned_other : (n from : ℕ) (shard : Shard) → n ≢ from → serves n (map (turned from Leaving) shard) ≡ serves n shard
serves_turned_other n from [] ne = refl
serves_turned_other n from (a ∷ shard) ne =
    or_same (test n (turned from Leaving a)) (serves n (map (turned from Leaving) shard)) (test n a) (serves n shard)
    (elim (turned_cases from Leaving a) as (λ _. test n (turned from Leaving a) ≡ test n a) [
      | inl c ↦ not_at n (turned from Leaving a) (λ e. ne (sym e ∙ turned_node from Leaving a ∙ c.0)) ∙ sym (not_at n a (λ e. ne (sym e ∙ c.0)))
      | inr c ↦ ap (test n) c.1
    ]) (serves_turned_other n from shard ne)

serves_turned_from : (from : ℕ) (shard : Shard) → serves from (map (turned from Leaving) shard) ≡ false
serves_turned_from from [] = refl
serves_turned_from from (a ∷ shard) =
    or_same (test from (turned from Leaving a)) (serves from (map (turned from Leaving) shard)) false false
    (elim (turned_cases from Leaving a) as (λ _. test from (turned from Leaving a) ≡ false) [
      | inl c ↦ gone_at from (turned from Leaving a) (ap (λ (z : Assignment). z.state) c.1)
      | inr c ↦ not_at from (turned from Leaving a) (λ e. c.0 (sym (turned_node from Leaving a) ∙ e))
    ]) (serves_turned_from from shard)

serves_moved : (n version from to : ℕ) (shard : Shard) → serves n (moved version from to shard) ≡ (serves n (map (turned from Leaving) shard) || test n (joining_at version from to))
serves_moved n version from to shard = list_any-append (test n) (map (turned from Leaving) shard) (joining_at version from to ∷ []) ∙ ap (λ b. serves n (map (turned from Leaving) shard) || b) (or-false (test n (joining_at version from to)))

pub moved_to : (version from to : ℕ) (shard : Shard) → serves to (moved version from to shard) ≡ true
moved_to version from to shard =
    serves_moved to version from to shard ∙ ap (λ b. serves to (map (turned from Leaving) shard) || b) (ap (λ b. b && true) (eq-eqb to to refl)) ∙ or-true (serves to (map (turned from Leaving) shard))

pub moved_from : (version from to : ℕ) (shard : Shard) → from ≢ to → serves from (moved version from to shard) ≡ false
moved_from version from to shard ne =
    serves_moved from version from to shard ∙ or_same (serves from (map (turned from Leaving) shard)) (test from (joining_at version from to)) false false (serves_turned_from from shard) (not_at from (joining_at version from to) (λ e. ne (sym e)))

pub moved_other : (n version from to : ℕ) (shard : Shard) → n ≢ from → n ≢ to → serves n (moved version from to shard) ≡ serves n shard
moved_other n version from to shard nf nt =
    serves_moved n version from to shard ∙ or_same (serves n (map (turned from Leaving) shard)) (test n (joining_at version from to)) (serves n shard) false (serves_turned_other n from shard nf) (not_at n (joining_at version from to) (λ e. nt (sym e))) ∙ or-false (serves n shard)

-- ---- loads

abbrev pub one_if : Bool → ℕ
one_if b = cond b 1 0

abbrev pub weight : ℕ → Shard → ℕ
weight n shard = one_if (serves n shard)

pub load_split : (n : ℕ) (before after : List Shard) (a : Shard) → load n (before ++ a ∷ after) ≡ load n before + (weight n a + load n after)
load_split n before after a = sum_by-append (weight n) before (a ∷ after) ∙ ap (λ k. load n before + k) (sum_by-cons (weight n) a after)

pub load_bound : (n : ℕ) (shards : List Shard) → load n shards ≤ length shards
load_bound n shards = count_by-le-length (serves n) shards

-- what a node's load becomes where it serves a shard and served it
load_changes : (n : ℕ) (before after : List Shard) (a b : Shard) → load n (before ++ b ∷ after) + weight n a ≡ load n (before ++ a ∷ after) + weight n b
load_changes n before after a b = omega (arith, load_split n before after a, load_split n before after b)

pub from_not_to : (from to : ℕ) (shard : Shard) → Has from shard → ¬ Has to shard → from ≢ to
from_not_to from to shard has lacks e = lacks (subst (λ n. Has n shard) e has)

-- the table that is shifted has the loads after the move
pub loads_shifted : (nodes version from to : ℕ) (old next : List ℕ) (shard : Shard) → IsSteady shard → Has from shard → ¬ Has to shard → IsShifted old next from to → LoadsFollow nodes old next shard (moved version from to shard)
loads_shifted nodes version from to old next shard steady has lacks shifted = λ before after h.
    let b = moved version from to shard in
    let ne = from_not_to from to shard has lacks in
    record {
      many = shifted.many ∙ h.many;
      each = λ n lt.
          let change = load_changes n before after shard b in
          elim (cases_eq n to) as (λ _. slice_index next n ≡ load n (before ++ b ∷ after)) [
            | inl e ↦
                let was : weight n shard ≡ 0 = ap one_if (ap (λ k. serves k shard) e ∙ serves_lacks to shard lacks) in
                let is : weight n b ≡ 1 = ap one_if (ap (λ k. serves k b) e ∙ moved_to version from to shard) in
                let more : slice_index next n ≡ slice_index old n + 1 = ap (slice_index next) e ∙ shifted.more ∙ ap (λ k. slice_index old k + 1) (sym e) in
                omega (arith, change, was, is, more, h.each n lt)
            | inr nt ↦ elim (cases_eq n from) as (λ _. slice_index next n ≡ load n (before ++ b ∷ after)) [
              | inl e ↦
                  let was : weight n shard ≡ 1 = ap one_if (ap (λ k. serves k shard) e ∙ serves_has from shard steady has) in
                  let is : weight n b ≡ 0 = ap one_if (ap (λ k. serves k b) e ∙ moved_from version from to shard ne) in
                  let less : slice_index next n ≡ slice_index old n - 1 = ap (slice_index next) e ∙ shifted.less ∙ ap (λ k. slice_index old k - 1) (sym e) in
                  omega (arith, change, was, is, less, h.each n lt)
              | inr nf ↦
                  let same : weight n b ≡ weight n shard = ap one_if (moved_other n version from to shard nf nt) in
                  omega (arith, change, same, shifted.others n nf nt, h.each n lt)
            ]
          ];
    }

pub loads_small : (nodes : ℕ) (shards : List Shard) (table : List ℕ) (n : ℕ) → AreLoads nodes shards table → length shards ≤ MOST_SHARDS → slice_index table n ≤ MOST_SHARDS
loads_small nodes shards table n loads few =
    elim (cases_lt n nodes) as (λ _. slice_index table n ≤ MOST_SHARDS) [
      | inl lt ↦ omega (arith, loads.each n lt, load_bound n shards, few)
      | inr ge ↦ omega (arith, get_or_past table n 0 (omega (arith, loads.many, ge)))
    ]

-- a fact that a test decides, where the test doesn't fail
pub has_by : (P : Type 0) (test : Bool) → IsTrue test ↔ P → test ≡ true → P
has_by P test h e = h.0 e
