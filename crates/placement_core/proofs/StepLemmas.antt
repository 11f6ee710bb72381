-- What the tests of a shard's step say.
use Rattle.std.proofs.Common.{◌≡◌, ◌↔◌, ℕ, ◌+◌, ◌<◌, arith, Option, slice_get, [], ◌∷◌, ◌++◌, List, map, All, Any, Some, None, Bool, true, false, IsTrue, inl, inr, sym, subst, ap, ◌∙◌}
use Rattle.std.proofs.lemmas.Bool.{cases_eq}
use Rattle.std.proofs.lemmas.List.{same_from_push}
use Rattle.m3_model.specs.Members.{IsIn}
use Rattle.m3_model.proofs.MemberLemmas.{IsIn-map, map-IsIn}
use Rattle.m3_model.proofs.Lists.{All-from_each}
use Rattle.m3_model.specs.declared.placement.Assignment.{Assignment}
use Rattle.m3_model.specs.declared.placement.ShardState.TheVariants.{Initializing, Leaving}
use Rattle.placement_core.specs.Shards.{Shard, nodes_of}
use Rattle.placement_core.specs.Lawful.{IsServing}
use Rattle.placement_core.specs.Steps.{turned, Begins, IsCancelOf, IsShardStep, done_at}
use Rattle.placement_core.proofs.ListLemmas.{IsIn-from_Any, Any-from_IsIn, each-from_All, same_at}

pub has_node : (shard : Shard) (n : ℕ) → Any (λ a. a.node ≡ n) shard → IsIn (nodes_of shard) n
has_node shard n h = let m = IsIn-from_Any (λ (a : Assignment). a.node ≡ n) shard h in subst (IsIn (nodes_of shard)) m.2 (map-IsIn (λ (a : Assignment). a.node) shard m.0 m.1)

pub node_has : (shard : Shard) (n : ℕ) → IsIn (nodes_of shard) n → Any (λ a. a.node ≡ n) shard
node_has shard n h = let m = IsIn-map (λ (a : Assignment). a.node) shard n h in Any-from_IsIn (λ (a : Assignment). a.node ≡ n) shard m.0 m.1 m.2

-- what is asked of the parts of a shard that begins a move
abbrev pub BeginsWith : ℕ → Shard → Shard → Assignment → ℕ → Type 0
BeginsWith version old others joining from =
    (joining.state ≡ Initializing) × (joining.tenure ≡ version) × All IsServing old × Any (λ a. a.node ≡ from) old × ¬ Any (λ a. a.node ≡ joining.node) old × (others ≡ map (turned from Leaving) old)

begins_from : (version : ℕ) (old next others : Shard) (joining : Assignment) (from : ℕ) → next ≡ others ++ joining ∷ [] → joining.source ≡ Some from → BeginsWith version old others joining from → Begins version old next
begins_from version old next others joining from e source w = record {
  from = from;
  joining = joining;
  joins = (w.0, source);
  tenure = w.1;
  steady = each-from_All IsServing old w.2;
  has = has_node old from w.3;
  free = λ h. w.4 (node_has old joining.node h);
  next_is = e ∙ ap (λ xs. xs ++ joining ∷ []) w.5;
}

begins_with : (version : ℕ) (old next others : Shard) (joining : Assignment) (from : ℕ) → next ≡ others ++ joining ∷ [] → joining.source ≡ Some from → Begins version old next → BeginsWith version old others joining from
begins_with version old next others joining from e source b =
    let parts = same_from_push others (map (turned b.from Leaving) old) joining b.joining (sym e ∙ b.next_is) in
    let named : Some from ≡ Some b.from = sym source ∙ ap (λ a. a.source) parts.1 ∙ (b.joins).1 in
    let source_is : from ≡ b.from = cc in (
      ap (λ a. a.state) parts.1 ∙ (b.joins).0,
      ap (λ a. a.tenure) parts.1 ∙ b.tenure,
      All-from_each IsServing old b.steady,
      node_has old from (subst (IsIn (nodes_of old)) (sym source_is) b.has),
      λ h. b.free (subst (IsIn (nodes_of old)) (ap (λ a. a.node) parts.1) (has_node old joining.node h)),
      parts.0 ∙ ap (λ n. map (turned n Leaving) old) (sym source_is),
    )

pub begins_decided : (version : ℕ) (old next others : Shard) (joining : Assignment) (from : ℕ) (answer : Bool) → next ≡ others ++ joining ∷ [] → joining.source ≡ Some from → IsTrue answer ↔ BeginsWith version old others joining from → IsTrue answer ↔ Begins version old next
begins_decided version old next others joining from answer e source h = (λ t. begins_from version old next others joining from e source (h.0 t), λ b. h.1 (begins_with version old next others joining from e source b))

pub no_true : (b : Bool) → b ≡ false → IsTrue b → ⊥
no_true b e t = let clash : false ≡ true = sym e ∙ t in cc

-- a shard that isn't as before and begins no move steps exactly where its move is cancelled
pub step_decided : (version : ℕ) (old next : Shard) (same begins cancels : Bool) → IsTrue same ↔ (next ≡ old) → IsTrue begins ↔ Begins version old next → IsTrue cancels ↔ Any (IsCancelOf old next) old
    → same ≡ false → begins ≡ false → IsTrue cancels ↔ IsShardStep version old next None
step_decided version old next same begins cancels s b c not_same not_begins = (
  λ t. inr (inr (IsIn-from_Any (IsCancelOf old next) old (c.0 t))),
  λ step. elim step as (λ _. IsTrue cancels) [
    | inl e ↦ absurd (no_true same not_same (s.1 e))
    | inr other ↦ elim other as (λ _. IsTrue cancels) [
      | inl h ↦ absurd (no_true begins not_begins (b.1 h))
      | inr h ↦ c.1 (Any-from_IsIn (IsCancelOf old next) old h.0 h.1 h.2)
    ]
  ],
)

-- the first shards step
abbrev pub StepsBelow : ℕ → List Shard → List Shard → List (ℕ × ℕ) → ℕ → Type 0
StepsBelow version old next done n = (s : ℕ) (a b : Shard) → s < n → slice_get old s ≡ Some a → slice_get next s ≡ Some b → IsShardStep version a b (done_at s done)

-- one more shard steps
pub steps_more : (version : ℕ) (old next : List Shard) (done : List (ℕ × ℕ)) (n : ℕ) (a b : Shard) (joining : Option ℕ) → slice_get old n ≡ Some a → slice_get next n ≡ Some b
    → done_at n done ≡ joining → IsShardStep version a b joining → StepsBelow version old next done n → StepsBelow version old next done (n + 1)
steps_more version old next done n a b joining at_old at_next told step below s x y lt ex ey =
    elim (cases_eq s n) as (λ _. IsShardStep version x y (done_at s done)) [
      | inl e ↦
          let fx : a ≡ x = same_at old n a x at_old (ap (slice_get old) (sym e) ∙ ex) in
          let fy : b ≡ y = same_at next n b y at_next (ap (slice_get next) (sym e) ∙ ey) in
          let here = subst (IsShardStep version a b) (sym told ∙ ap (λ k. done_at k done) (sym e)) step in
          subst (λ z. IsShardStep version x z (done_at s done)) fy (subst (λ z. IsShardStep version z b (done_at s done)) fx here)
      | inr ne ↦ below s x y (omega (arith, lt, ne)) ex ey
    ]
