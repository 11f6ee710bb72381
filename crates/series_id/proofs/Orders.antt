-- The order of texts by their bytes.
use Rattle.std.proofs.Common.{◌≡◌, ℕ, List, ap, ◌∙◌}
use Rattle.std.specs.Ordering.{nat_cmp, ordering_reverse}
use Rattle.std.specs.FinMap.{nat_cmp-IsAntisymmetric, slice_cmp-IsAntisymmetric}
use Rattle.std.specs.Cmp.Lexicographic.{slice_cmp, nat_list_cmp_total}
use Rattle.std.specs.declared.cmp.Ordering.TheVariants.{Equal, Greater}
use Rattle.m3_model.specs.Tags.{IsBelow}

pub same_text : (a b : List ℕ) → slice_cmp nat_cmp a b ≡ Equal → a ≡ b
same_text a b e = slice_cmp-IsAntisymmetric nat_cmp-IsAntisymmetric a b e

pub below_back : (a b : List ℕ) → slice_cmp nat_cmp a b ≡ Greater → IsBelow b a
below_back a b e = nat_list_cmp_total.antisymm b a ∙ ap ordering_reverse e

pub below_trans : (a b c : List ℕ) → IsBelow a b → IsBelow b c → IsBelow a c
below_trans a b c = nat_list_cmp_total.trans a b c

pub not_below_itself : (a : List ℕ) → ¬ IsBelow a a
not_below_itself a h =
    let turned : slice_cmp nat_cmp a a ≡ Greater = nat_list_cmp_total.antisymm a a ∙ ap ordering_reverse h in
    cc

pub not_both_below : (a b : List ℕ) → IsBelow a b → ¬ IsBelow b a
not_both_below a b h g = not_below_itself a (below_trans a b a h g)
