-- What a sort by a comparison of names leaves.
use Rattle.std.proofs.Common.{◌≡◌, ℕ, List, Bool, ap, IsSortedBy, IsSortedByKey}
use Rattle.std.specs.Cmp.{IsStrictWeakOrder}
use Rattle.std.specs.Cmp.Lexicographic.{slice_cmp}
use Rattle.std.specs.Fn.{Called, ComparesAs}
use Rattle.std.specs.Ordering.{nat_cmp, is_lt}
use Rattle.std.specs.declared.cmp.Ordering.{Ordering}
use Rattle.std.proofs.lemmas.Cmp.{nat_list_cmp_total}
use Rattle.std.proofs.lemmas.Fn.{always_returns_same}
use Rattle.std.proofs.lemmas.List.Sorted.{ranks_by}
use denote.Param.Members.{Mut}
use denote.Ref.{Bor}

pub sorted_by_names : {X : Type 0} (name : X → List ℕ) {F : Type 0} {g : Mut F (Bor X × (Bor X × Unit {0})) Ordering} {f : F} (xs : List X)
    → ((lt : X → X → Bool) → IsStrictWeakOrder lt → ComparesAs g lt f → IsSortedBy lt xs)
    → ((a : Bor X × (Bor X × Unit {0})) (r : Ordering) (f' : F) → Called g f a r f' → (r ≡ slice_cmp nat_cmp (name a.0.now) (name a.1.0.now)) × (f' ≡ f)) → IsSortedByKey name (slice_cmp nat_cmp) xs
sorted_by_names name {g = g} {f = f} xs up h = up (λ x y. is_lt (slice_cmp nat_cmp (name x) (name y))) (ranks_by nat_list_cmp_total name)
    (always_returns_same g (λ a r. is_lt r ≡ is_lt (slice_cmp nat_cmp (name a.0.now) (name a.1.0.now))) f (λ a r f' k. (ap is_lt (h a r f' k).0, (h a r f' k).1)))
