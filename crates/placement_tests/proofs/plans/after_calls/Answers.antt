use Rattle.std.proofs.Common.{◌≡◌, ◌≢◌, ◌≤◌, ℕ, List, [], ◌∷◌, refl, sym, subst, inl, inr, arith}
use Rattle.m3_model.specs.Ascends.{Ascends}
use Rattle.m3_model.specs.Members.{IsIn}
use Rattle.m3_model.specs.Limits.{IsInit, IsNamed}
use Rattle.placement_tests.proofs.plans.after_calls.Goals as goal

abbrev node : ℕ → ℕ → List ℕ × List ℕ
node name group = (name ∷ [], group ∷ [])

abbrev three : List (List ℕ × List ℕ)
three = node 97 49 ∷ node 98 50 ∷ node 99 51 ∷ []

letters_differ : (a b : ℕ) → a ≢ b → a ∷ [] ≢ b ∷ []
letters_differ a b ne e = let same : a ≡ b = cc in ne same

named : (n : List ℕ × List ℕ) → IsIn three n → IsNamed n
named n m = elim m as (λ _. IsNamed n) [
  | inl e ↦ subst IsNamed e (refl, refl)
  | inr r ↦ elim r as (λ _. IsNamed n) [
    | inl e ↦ subst IsNamed e (refl, refl)
    | inr q ↦ elim q as (λ _. IsNamed n) [ inl e ↦ subst IsNamed e (refl, refl) | inr none ↦ absurd none ]
  ]
]

distinct : Ascends (λ (a b : List ℕ × List ℕ). a.0 ≢ b.0) three
distinct = (
  λ n m. elim m as (λ _. 97 ∷ [] ≢ n.0) [
    | inl e ↦ subst (λ (x : List ℕ × List ℕ). 97 ∷ [] ≢ x.0) e (letters_differ 97 98 (λ f. absurd (omega (arith, f))))
    | inr r ↦ elim r as (λ _. 97 ∷ [] ≢ n.0) [ inl e ↦ subst (λ (x : List ℕ × List ℕ). 97 ∷ [] ≢ x.0) e (letters_differ 97 99 (λ f. absurd (omega (arith, f)))) | inr none ↦ absurd none ]
  ],
  (λ n m. elim m as (λ _. 98 ∷ [] ≢ n.0) [ inl e ↦ subst (λ (x : List ℕ × List ℕ). 98 ∷ [] ≢ x.0) e (letters_differ 98 99 (λ f. absurd (omega (arith, f)))) | inr none ↦ absurd none ], ((λ n m. absurd m), tt)),
)

three_init : (rf shards : ℕ) → 1 ≤ rf → rf ≤ 5 → 1 ≤ shards → shards ≤ 64 → IsInit rf shards 0 three
three_init rf shards low high some few = record {
  some_replicas = low;
  few_replicas = high;
  some_shards = some;
  few_shards = few;
  seed_fits = omega arith;
  some_nodes = omega arith;
  few_nodes = omega arith;
  named = named;
  distinct = distinct;
}

pub initial-requires : goal.initial-requires
initial-requires c =
    subst (λ (nodes : List (List ℕ × List ℕ)). IsInit c.args.rf c.args.shards 0 nodes) (sym c.in_ok-nodes.ensures) (three_init c.args.rf c.args.shards (c.requires.rf).0 (c.requires.rf).1 (c.requires.shards).0 (c.requires.shards).1)
