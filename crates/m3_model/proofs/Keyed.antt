-- The order of keys ties equal keys alone.
use Rattle.std.proofs.Common.{◌≡◌, refl, subst, sym, true, false, Bool, T}
use Rattle.std.specs.Ordering.{nat_cmp, ordering_then, is_eq}
use Rattle.std.specs.FinMap.{IsAntisymmetric, nat_cmp-IsAntisymmetric, slice_cmp-IsAntisymmetric}
use Rattle.std.specs.Cmp.Lexicographic.{slice_cmp}
use Rattle.std.specs.declared.cmp.Ordering.{Ordering}
use Rattle.std.specs.declared.cmp.Ordering.TheVariants.{Less, Equal, Greater}
use Rattle.m3_model.specs.Keys.{key_cmp}
use Rattle.m3_model.proofs.Orders.{both_equal}

pub true_of : (b : Bool) → T b → b ≡ true
true_of true h = refl
true_of false h = absurd h

pub holds_of : (b : Bool) → b ≡ true → T b
holds_of b e = subst T (sym e) tt

pub equal_of : (o : Ordering) → is_eq o ≡ true → o ≡ Equal
equal_of Less e = cc
equal_of Equal e = refl
equal_of Greater e = cc

pub key_cmp-IsAntisymmetric : IsAntisymmetric key_cmp
key_cmp-IsAntisymmetric x y e =
    let first = both_equal (nat_cmp x.ns y.ns) (ordering_then (slice_cmp nat_cmp x.id y.id) (nat_cmp x.t y.t)) e in
    let second = both_equal (slice_cmp nat_cmp x.id y.id) (nat_cmp x.t y.t) first.1 in
    λ i. record { ns = nat_cmp-IsAntisymmetric x.ns y.ns first.0 i; id = slice_cmp-IsAntisymmetric nat_cmp-IsAntisymmetric x.id y.id second.0 i; t = nat_cmp-IsAntisymmetric x.t y.t second.1 i }
