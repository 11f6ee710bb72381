-- Slots are ordered, and what a map of replicas has after one of them changed.
use Rattle.std.proofs.Common.{◌≡◌, Bool, true, false, cond, refl, sym, ap, ◌∙◌}
use Rattle.std.specs.Prelude.{Some, None, is_some}
use Rattle.std.specs.FinMap as finite
use Rattle.std.specs.FinMap.{IsAntisymmetric, nat_cmp-IsAntisymmetric, is_sorted, from_sorted, get-insert}
use Rattle.std.specs.BTreeMap.{BTreeMap, get_by, WritesThrough}
use Rattle.std.specs.Cmp.{IsTotalOrder, tied_itself}
use Rattle.std.specs.Ordering.{nat_cmp, ordering_then, eq_by_cmp, is_eq}
use Rattle.std.specs.declared.cmp.Ordering.{Ordering}
use Rattle.std.specs.declared.cmp.Ordering.TheVariants.{Less, Equal, Greater}
use Rattle.std.proofs.lemmas.Cmp.{then_total, on_total, nat_cmp_total}
use Rattle.replica_exchange.proofs.m3_model_proofs.Keyed.{equal_of}
use Rattle.replica_calls.proofs.MapLemmas.{sorted_of, get_of, inserted}
use Rattle.replica_exchange.specs.declared.member.Member.{Member}
use Rattle.replica_exchange.specs.declared.slot.Slot.{Slot}
use Rattle.replica_calls.specs.Slots.{slot_cmp, MemberMap}

pub slot_cmp_total : IsTotalOrder slot_cmp
slot_cmp_total = then_total (on_total (λ s. s.shard) nat_cmp_total) (on_total (λ s. s.node) nat_cmp_total)

both_equal : (a b : Ordering) → ordering_then a b ≡ Equal → (a ≡ Equal) × (b ≡ Equal)
both_equal Less b e = cc
both_equal Equal b e = (refl, e)
both_equal Greater b e = cc

pub slot_cmp-IsAntisymmetric : IsAntisymmetric slot_cmp
slot_cmp-IsAntisymmetric x y e =
    let parts = both_equal (nat_cmp x.shard y.shard) (nat_cmp x.node y.node) e in
    λ i. record { shard = nat_cmp-IsAntisymmetric x.shard y.shard parts.0 i; node = nat_cmp-IsAntisymmetric x.node y.node parts.1 i }

pub same_slot : (x y : Slot) → eq_by_cmp slot_cmp x y ≡ true → x ≡ y
same_slot x y e = slot_cmp-IsAntisymmetric x y (equal_of _ e)

-- ---- the replica of a slot

-- what stands at the slot where one was put
pub get-insert_here : {D : Type 0} (members : MemberMap D) (s : Slot) (m : Member D) → finite.get (finite.insert members s m) s ≡ Some m
get-insert_here members s m =
    get-insert slot_cmp_total members s m s ∙ ap (λ o. cond (is_eq o) (Some m) (finite.get members s)) (tied_itself slot_cmp_total s)

-- and at each other
pub get-insert_other : {D : Type 0} (members : MemberMap D) (s : Slot) (m : Member D) (q : Slot) → ¬ (q ≡ s) → finite.get (finite.insert members s m) q ≡ finite.get members q
get-insert_other members s m q apart = by_test (eq_by_cmp slot_cmp q s) refl
  where
    by_test : (b : Bool) → eq_by_cmp slot_cmp q s ≡ b → finite.get (finite.insert members s m) q ≡ finite.get members q
    by_test true t = absurd (apart (same_slot q s t))
    by_test false t = get-insert slot_cmp_total members s m q ∙ ap (λ b. cond b (Some m) (finite.get members q)) t

-- ---- through a `&mut` to a replica

-- what was written through a `&mut` to a replica
pub record Wrote {D : Type 0} (m n : BTreeMap Slot (Member D)) (s : Slot) (v w : Member D) : Type 0 where
  pub sorted : is_sorted slot_cmp n.entries ≡ true
  pub found : finite.get (from_sorted {R = slot_cmp} m.entries) s ≡ Some v
  pub after : from_sorted {R = slot_cmp} n.entries ≡ finite.insert (from_sorted {R = slot_cmp} m.entries) s w

pub wrote : {D : Type 0} (m n : BTreeMap Slot (Member D)) (s : Slot) (v w : Member D) → is_sorted slot_cmp m.entries ≡ true → WritesThrough slot_cmp (slot_cmp s) m w n
    → Some v ≡ get_by (slot_cmp s) m → Wrote m n s v w
wrote m n s v w was through is =
    let ordered : is_sorted slot_cmp n.entries ≡ true = sorted_of slot_cmp n.entries through.4 in
    record {
      sorted = ordered;
      found = get_of slot_cmp m.entries s was ∙ sym is;
      after = inserted slot_cmp slot_cmp_total slot_cmp-IsAntisymmetric m.entries n.entries s w was ordered (through.3 (ap is_some (sym is))).0;
    }

-- the slot has no replica
pub none_at : {D : Type 0} (m : BTreeMap Slot (Member D)) (s : Slot) → is_sorted slot_cmp m.entries ≡ true → None ≡ get_by (slot_cmp s) m → finite.get (from_sorted {R = slot_cmp} m.entries) s ≡ None
none_at m s was is = get_of slot_cmp m.entries s was ∙ sym is
