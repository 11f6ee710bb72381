-- Whether a placement has a replica at a slot, by a search over the assignments of its shard.
use Rattle.std.proofs.Common.{◌≡◌, ℕ, List, [], ◌∷◌, refl, sym, subst, ap, ◌∙◌, inl, inr, Bool, true, false, ◌||◌, ◌⊎◌}
use Rattle.std.specs.Prelude.{◌↔◌, Any, IsTrue, nat_eq, slice_index_or}
use Rattle.std.specs.List.{list_any}
use Rattle.std.proofs.lemmas.Bool.{eqb-true, false≢true}
use Rattle.m3_model.specs.Members.{IsIn}
use Rattle.m3_model.specs.declared.placement.Assignment.{Assignment}
use Rattle.placement_core.specs.Shards.{Shard, nodes_of}
use Rattle.placement_core.proofs.StepLemmas.{has_node, node_has}
use Rattle.first_cluster.proofs.ListLemmas.{any_of}

-- a number that passes the test of being one of them is among them
pub any_in : (ns : List ℕ) (n : ℕ) → list_any (nat_eq n) ns ≡ true → IsIn ns n
any_in [] n e = absurd (false≢true e)
any_in (m ∷ ns) n e = by (nat_eq n m) refl e (any_in ns n)
  where
    by : (t : Bool) → nat_eq n m ≡ t → (nat_eq n m || list_any (nat_eq n) ns) ≡ true → (list_any (nat_eq n) ns ≡ true → IsIn ns n) → (m ≡ n) ⊎ IsIn ns n
    by true is e rest = inl (sym (eqb-true n m is))
    by false is e rest = inr (rest (subst (λ t. (t || list_any (nat_eq n) ns) ≡ true) is e))

in_list : (r : Bool) (ns : List ℕ) (n : ℕ) → (r ≡ true → IsIn ns n) → (IsIn ns n → r ≡ true) → r ≡ list_any (nat_eq n) ns
in_list true ns n there found = sym (any_of ns n (there refl))
in_list false ns n there found = by (list_any (nat_eq n) ns) refl
  where
    by : (t : Bool) → list_any (nat_eq n) ns ≡ t → false ≡ list_any (nat_eq n) ns
    by true is = absurd (false≢true (found (any_in ns n is)))
    by false is = sym is

found_in : (r : Bool) (shard : Shard) (n : ℕ) → IsTrue r ↔ Any (λ (a : Assignment). a.node ≡ n) shard → r ≡ list_any (nat_eq n) (nodes_of shard)
found_in r shard n h = in_list r (nodes_of shard) n (λ t. has_node shard n (h.0 t)) (λ i. h.1 (node_has shard n i))

-- what a search over the shard that was looked up finds
pub found_at : (r : Bool) (shards items : List Shard) (s n : ℕ) (here searched : Shard) → items ≡ shards → here ≡ slice_index_or items s [] → searched ≡ here → IsTrue r ↔ Any (λ (a : Assignment). a.node ≡ n) searched → r ≡ list_any (nat_eq n) (nodes_of (slice_index_or shards s []))
found_at r shards items s n here searched is at same h = found_in r searched n h ∙ ap (λ (shard : Shard). list_any (nat_eq n) (nodes_of shard)) (same ∙ at ∙ ap (λ (xs : List Shard). slice_index_or xs s []) is)
