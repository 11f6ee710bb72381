-- Lists whose parts are one behind the other, and what ascends along them.
use Rattle.std.proofs.Common.{◌≡◌, ◌≢◌, ℕ, List, [], ◌∷◌, ◌++◌, map, Some, sym, ap, ◌∙◌, subst}
use Rattle.std.specs.Prelude.{slice_get}
use Rattle.std.specs.List.{flat_map}
use Rattle.std.specs.Cmp.{tied_itself}
use Rattle.std.specs.Cmp.Lexicographic.{nat_list_cmp_total, slice_cmp}
use Rattle.std.specs.Ordering.{nat_cmp}
use Rattle.std.proofs.lemmas.List.Concat.{flat_map-append}
use Rattle.std.specs.declared.cmp.Ordering.TheVariants.{Equal, Less}
use Rattle.m3_model.specs.Ascends.{Ascends}
use Rattle.m3_model.specs.Members.{IsIn}
use Rattle.m3_model.specs.declared.placement.Instance.{Instance}
use Rattle.m3_model.specs.declared.placement.Placement.{Placement}
use Rattle.m3_model.proofs.MemberLemmas.{IsIn-append_left, map-IsIn}
use Rattle.placement_core.specs.NodeNames.{IsNamedBelow}
use Rattle.placement_core.proofs.ListLemmas.{same_at}
use Rattle.told_by.proofs.TurnLemmas.{split_in}

-- ---- fronts

-- one part of a list that is made of parts, with what stands before it and behind it
pub part_of : {X Y : Type 0} (f : X → List Y) (xs : List X) (x : X) → IsIn xs x → (before after : List Y) × (flat_map f xs ≡ before ++ (f x ++ after))
part_of f xs x m =
    let cut = split_in xs x m in
    (flat_map f cut.0, flat_map f cut.1, ap (flat_map f) cut.2 ∙ flat_map-append f cut.0 (x ∷ cut.1))

-- ---- what ascends

pub ascends_front : {X : Type 0} (R : X → X → Type 0) (xs ys : List X) → Ascends R (xs ++ ys) → Ascends R xs
ascends_front R [] ys h = tt
ascends_front R (x ∷ xs) ys h = (λ z m. h.0 z (IsIn-append_left xs ys z m), ascends_front R xs ys h.1)

pub ascends_of : {X Y : Type 0} (R : Y → Y → Type 0) (f : X → Y) (xs : List X) → Ascends R (map f xs) → Ascends (λ a b. R (f a) (f b)) xs
ascends_of R f [] h = tt
ascends_of R f (x ∷ xs) h = (λ z m. h.0 (f z) (map-IsIn f xs z m), ascends_of R f xs h.1)

-- no node's name is below itself
pub below_differs : (place : Placement) (a b : ℕ) → IsNamedBelow place a b → a ≢ b
below_differs place a b h e =
    let same : h.one ≡ h.other = same_at place.instances b h.one h.other (subst (λ n. slice_get place.instances n ≡ Some h.one) e h.of_one) h.of_other in
    let tied : slice_cmp nat_cmp (h.one).name (h.one).name ≡ Equal = tied_itself nat_list_cmp_total (h.one).name in
    let bad : Less ≡ Equal = sym h.below ∙ ap (λ (i : Instance). slice_cmp nat_cmp (h.one).name i.name) (sym same) ∙ tied in
    cc
