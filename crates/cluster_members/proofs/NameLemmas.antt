-- What is known of nodes by their names.
use Rattle.std.proofs.Common.{◌≡◌, ◌≢◌, ◌<◌, ℕ, zero, suc, List, [], ◌∷◌, length, get_or, refl, sym, ap, ◌∙◌, inl, inr, arith, Bool, true, false, ◌&&◌}
use Rattle.std.specs.Prelude.{Some, nat_eq, slice_get}
use Rattle.std.specs.Cmp.Lexicographic.{pointwise}
use Rattle.std.proofs.lemmas.Bool.{cases_eq}
use Rattle.std.proofs.lemmas.List.Quantifiers.{position-Some}
use Rattle.std.proofs.lemmas.Slice.Eq.{bytes_eq-Decides}
use Rattle.m3_model.specs.Ascends.{Ascends}
use Rattle.m3_model.specs.declared.placement.Instance.{Instance}
use Rattle.session_writes.proofs.placement_core_proofs.ListLemmas.{at_within}
use Rattle.session_writes.proofs.placement_core_proofs.OrderLemmas.{apart_of}
use Rattle.cluster_members.specs.Names.{node_named}

-- an element by its index
at_position : {X : Type 0} (xs : List X) (i : ℕ) (d : X) → i < length xs → slice_get xs i ≡ Some (get_or xs i d)
at_position [] i d low = absurd (omega (arith, low))
at_position (x ∷ xs) zero d low = refl
at_position (x ∷ xs) (suc i) d low = at_position xs i d (omega (arith, low))

index_at : {X : Type 0} (xs : List X) (i : ℕ) (x d : X) → slice_get xs i ≡ Some x → get_or xs i d ≡ x
index_at [] i x d e = cc
index_at (y ∷ xs) zero x d e = cc
index_at (y ∷ xs) (suc i) x d e = index_at xs i x d e

both_true : (a b : Bool) → (a && b) ≡ true → (a ≡ true) × (b ≡ true)
both_true true true e = (refl, refl)
both_true true false e = cc
both_true false b e = cc

-- What is known of a node that was found by its name.
pub record NamedNode (name : List ℕ) (instances : List Instance) (node : ℕ) : Type 0 where
  pub instance_ : Instance
  pub stands : slice_get instances node ≡ Some instance_
  pub listed : instance_.listed ≡ true
  pub name_is : instance_.name ≡ name

pub node_found : (name : List ℕ) (instances : List Instance) (node : ℕ) → node_named name instances ≡ Some node → NamedNode name instances node
node_found name [] node e = cc
node_found name (x ∷ xs) node e =
    let found = position-Some (λ (i : Instance). i.listed && pointwise nat_eq name i.name) (x ∷ xs) node x e in
    let one : Instance = get_or (x ∷ xs) node x in
    let both = both_true one.listed (pointwise nat_eq name one.name) found.1 in
    record { instance_ = one; stands = at_position (x ∷ xs) node x found.0; listed = both.0; name_is = sym ((bytes_eq-Decides name one.name).0 both.1) }

-- nodes of one name are the same, where names differ
pub same_node : (instances : List Instance) (n m : ℕ) (a b : Instance) → Ascends (λ x y. x.name ≢ y.name) instances → slice_get instances n ≡ Some a → slice_get instances m ≡ Some b → a.name ≡ b.name → n ≡ m
same_node instances n m a b distinct at_n at_m same =
    elim (cases_eq n m) as (λ _. n ≡ m) [
      | inl e ↦ e
      | inr other ↦ absurd (apart_of (λ (x y : Instance). x.name ≢ y.name) (λ x y f g. f (sym g)) instances distinct n m a (at_within instances n a at_n) (at_within instances m b at_m) other
          (ap (λ (z : Instance). z.name) (index_at instances n a a at_n) ∙ same ∙ sym (ap (λ (z : Instance). z.name) (index_at instances m b a at_m))))
    ]
