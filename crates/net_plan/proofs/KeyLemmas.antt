-- The order of messages is total, and ties equal ones alone.
use Rattle.std.proofs.Common.{◌≡◌, ◌≢◌, Bool, true, false, refl, ap}
use Rattle.std.specs.FinMap.{IsAntisymmetric, nat_cmp-IsAntisymmetric}
use Rattle.std.specs.Cmp.{IsTotalOrder, tied_itself}
use Rattle.std.specs.Ordering.{nat_cmp, ordering_then, eq_by_cmp, is_eq}
use Rattle.std.proofs.lemmas.Cmp.{then_total, on_total, nat_cmp_total}
use Rattle.m3_model.proofs.Keyed.{equal_of}
use Rattle.m3_model.proofs.Orders.{both_equal}
use Rattle.net_plan.specs.FateKeys.{fate_key_cmp}
use Rattle.net_plan.specs.declared.fate_key.FateKey.{FateKey}

pub fate_key_cmp_total : IsTotalOrder fate_key_cmp
fate_key_cmp_total = then_total (on_total (λ k. k.client) nat_cmp_total) (then_total (on_total (λ k. k.call) nat_cmp_total) (on_total (λ k. k.node) nat_cmp_total))

pub fate_key_cmp-IsAntisymmetric : IsAntisymmetric fate_key_cmp
fate_key_cmp-IsAntisymmetric x y e =
    let first = both_equal (nat_cmp x.client y.client) (ordering_then (nat_cmp x.call y.call) (nat_cmp x.node y.node)) e in
    let second = both_equal (nat_cmp x.call y.call) (nat_cmp x.node y.node) first.1 in
    λ i. record { client = nat_cmp-IsAntisymmetric x.client y.client first.0 i; call = nat_cmp-IsAntisymmetric x.call y.call second.0 i; node = nat_cmp-IsAntisymmetric x.node y.node second.1 i }

pub same_key : (x y : FateKey) → eq_by_cmp fate_key_cmp x y ≡ true → x ≡ y
same_key x y e = fate_key_cmp-IsAntisymmetric x y (equal_of _ e)

pub own_key : (x : FateKey) → eq_by_cmp fate_key_cmp x x ≡ true
own_key x = ap is_eq (tied_itself fate_key_cmp_total x)

apart_by : (x y : FateKey) → x ≢ y → (b : Bool) → eq_by_cmp fate_key_cmp x y ≡ b → b ≡ false
apart_by x y differ true e = absurd (differ (same_key x y e))
apart_by x y differ false e = refl

pub keys_apart : (x y : FateKey) → x ≢ y → eq_by_cmp fate_key_cmp x y ≡ false
keys_apart x y differ = apart_by x y differ (eq_by_cmp fate_key_cmp x y) refl
