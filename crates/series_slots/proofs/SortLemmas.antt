-- What a sort of series by their identifiers leaves.
use Rattle.std.proofs.Common.{◌≡◌, List, Bool, ap, IsSortedBy, IsSortedByKey}
use Rattle.std.specs.Cmp.{IsStrictWeakOrder}
use Rattle.std.specs.Cmp.Lexicographic.{slice_cmp}
use Rattle.std.specs.Fn.{Called, ComparesAs}
use Rattle.std.specs.Ordering.{nat_cmp, is_lt}
use Rattle.std.specs.declared.cmp.Ordering.{Ordering}
use Rattle.std.proofs.lemmas.Cmp.{nat_list_cmp_total}
use Rattle.std.proofs.lemmas.Fn.{always_returns_same}
use Rattle.std.proofs.lemmas.List.Sorted.{ranks_by}
use Rattle.m3_model.specs.declared.point.Series.{Series}
use denote.Param.Members.{Mut}
use denote.Ref.{Bor}

pub sorted_by_ids : {F : Type 0} {g : Mut F (Bor Series × (Bor Series × Unit {0})) Ordering} {f : F} (series : List Series)
    → ((lt : Series → Series → Bool) → IsStrictWeakOrder lt → ComparesAs g lt f → IsSortedBy lt series)
    → ((a : Bor Series × (Bor Series × Unit {0})) (r : Ordering) (f' : F) → Called g f a r f' → (r ≡ slice_cmp nat_cmp a.0.now.id a.1.0.now.id) × (f' ≡ f))
    → IsSortedByKey (λ (s : Series). s.id) (slice_cmp nat_cmp) series
sorted_by_ids {g = g} {f = f} series up h = up (λ x y. is_lt (slice_cmp nat_cmp x.id y.id)) (ranks_by nat_list_cmp_total (λ (s : Series). s.id))
    (always_returns_same g (λ a r. is_lt r ≡ is_lt (slice_cmp nat_cmp a.0.now.id a.1.0.now.id)) f (λ a r f' k. (ap is_lt (h a r f' k).0, (h a r f' k).1)))
