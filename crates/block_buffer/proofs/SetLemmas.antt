-- What all series have at a key, after the slots of one changed.
use Rattle.std.proofs.Common.{◌≡◌, ℕ, ℤ, List, [], ◌∷◌, refl, sym, ap, ◌∙◌, Bool, true, false, cond, ◌&&◌, length, arith}
use Rattle.std.specs.Prelude.{Option, Some, None, is_some, IsSome}
use Rattle.std.specs.FinMap as map
use Rattle.std.specs.FinMap.{entries, get-insert, get-remove, get-empty, get-entries}
use Rattle.std.specs.Cmp.{nat_cmp_total, tied_itself}
use Rattle.std.specs.Ordering.{nat_cmp, eq_by_cmp, is_eq}
use Rattle.m3_model.specs.declared.point.Key.{Key}
use Rattle.m3_model.specs.Keys.{key_cmp}
use Rattle.m3_model.proofs.Keyed.{equal_of}
use Rattle.series_slots.specs.declared.series_key.SeriesKey.{SeriesKey}
use Rattle.series_slots.specs.SeriesKeys.{series_cmp, series_cmp_total, series_of, key_at}
use Rattle.series_slots.specs.Slots.{Slots}
use Rattle.series_slots.specs.Points.{AllSlots, slot_in, slot_at}
use Rattle.series_slots.specs.SeriesEntries.{SeriesEntries, slots_of}
use Rattle.series_slots.specs.Written.{IsWritten, IsAdded, IsRemoved}
use Rattle.series_slots.proofs.PointLemmas.{series_cmp-IsAntisymmetric, key_ties}
use Rattle.block_buffer.specs.AllSeries.{IsSlotSet, AreSameSlots, HasNoSlots}

slot_in-cond : (b : Bool) (w : Slots) (o : Option Slots) (t : ℕ) → slot_in (cond b (Some w) o) t ≡ cond b (map.get w t) (slot_in o t)
slot_in-cond true w o t = refl
slot_in-cond false w o t = refl

slot-insert : (m : AllSlots) (s : SeriesKey) (w : Slots) (k : Key) → slot_at (map.insert m s w) k ≡ cond (eq_by_cmp series_cmp (series_of k) s) (map.get w k.t) (slot_at m k)
slot-insert m s w k = ap (λ o. slot_in o k.t) (get-insert series_cmp_total m s w (series_of k)) ∙ slot_in-cond (eq_by_cmp series_cmp (series_of k) s) w (map.get m (series_of k)) k.t

-- the slot of a series that is there
pub slot_found : (m : AllSlots) (s : SeriesKey) (v : Slots) (t : ℕ) → map.get m s ≡ Some v → slot_at m (key_at s t) ≡ map.get v t
slot_found m s v t e = ap (λ o. slot_in o t) e

slot-tied : (m : AllSlots) (s : SeriesKey) (v : Slots) (k : Key) → map.get m s ≡ Some v → eq_by_cmp series_cmp (series_of k) s ≡ true → slot_at m k ≡ map.get v k.t
slot-tied m s v k e tie = ap (λ q. slot_in (map.get m q) k.t) (series_cmp-IsAntisymmetric (series_of k) s (equal_of _ tie)) ∙ ap (λ o. slot_in o k.t) e

slot_put : (m : AllSlots) (s : SeriesKey) (v w : Slots) (t : ℕ) (slot : Option (Option ℤ)) → map.get m s ≡ Some v → ((q : ℕ) → map.get w q ≡ cond (eq_by_cmp nat_cmp q t) slot (map.get v q))
    → (k : Key) → slot_at (map.insert m s w) k ≡ cond (eq_by_cmp key_cmp k (key_at s t)) slot (slot_at m k)
slot_put m s v w t slot e at k =
    slot-insert m s w k ∙ by_test (eq_by_cmp series_cmp (series_of k) s) refl ∙ ap (λ b. cond b slot (slot_at m k)) (sym (key_ties k (key_at s t)))
  where
    by_test : (b : Bool) → eq_by_cmp series_cmp (series_of k) s ≡ b → cond b (map.get w k.t) (slot_at m k) ≡ cond (b && eq_by_cmp nat_cmp k.t t) slot (slot_at m k)
    by_test true h = at k.t ∙ ap (λ o. cond (eq_by_cmp nat_cmp k.t t) slot o) (sym (slot-tied m s v k e h))
    by_test false h = refl

-- a slot was put
pub put_slot : (old new : SeriesEntries) (position : ℕ) (s : SeriesKey) (v : Slots) (t : ℕ) (x : Option ℤ) → IsWritten old new position s v (map.insert v t x) → IsSlotSet old new (key_at s t) (Some x)
put_slot old new position s v t x h k = ap (λ (m : AllSlots). slot_at m k) h.mapped ∙ slot_put (slots_of old) s v (map.insert v t x) t (Some x) h.found (get-insert nat_cmp_total v t x) k

-- a slot was taken
pub take_slot : (old new : SeriesEntries) (position : ℕ) (s : SeriesKey) (v : Slots) (t : ℕ) → IsWritten old new position s v (map.remove v t) → IsSlotSet old new (key_at s t) None
take_slot old new position s v t h k = ap (λ (m : AllSlots). slot_at m k) h.mapped ∙ slot_put (slots_of old) s v (map.remove v t) t None h.found (get-remove nat_cmp_total v t) k

-- a series came without slots
pub came : (old new : SeriesEntries) (s : SeriesKey) (position : ℕ) → map.get (slots_of old) s ≡ None → IsAdded old new s position → AreSameSlots old new
came old new s position none h k = ap (λ (m : AllSlots). slot_at m k) h.mapped ∙ slot-insert (slots_of old) s map.empty k ∙ by_test (eq_by_cmp series_cmp (series_of k) s) refl
  where
    by_test : (b : Bool) → eq_by_cmp series_cmp (series_of k) s ≡ b → cond b (map.get (map.empty {X = Option ℤ} {R = nat_cmp}) k.t) (slot_at (slots_of old) k) ≡ slot_at (slots_of old) k
    by_test true t = get-empty nat_cmp k.t ∙ sym (ap (λ q. slot_in (map.get (slots_of old) q) k.t) (series_cmp-IsAntisymmetric (series_of k) s (equal_of _ t)) ∙ ap (λ o. slot_in o k.t) none)
    by_test false t = refl

pub came_empty : (old new : SeriesEntries) (s : SeriesKey) (position : ℕ) → map.get (slots_of old) s ≡ None → IsAdded old new s position → HasNoSlots new s
came_empty old new s position none h t = came old new s position none h (key_at s t) ∙ ap (λ o. slot_in o t) none

pub no_slot : (v : Slots) (q : ℕ) → length (entries v) ≡ 0 → map.get v q ≡ None
no_slot v q e = get-entries v q ∙ none (entries v) e
  where
    none : (es : List (ℕ × Option ℤ)) → length es ≡ 0 → map.find nat_cmp q es ≡ None
    none [] h = refl
    none (x ∷ es) h = absurd (omega arith)

pub some_slot : (v : Slots) → (length (entries v) ≡ 0 → ⊥) → (t : ℕ) × IsSome (map.get v t)
some_slot v h = by (entries v) refl h
  where
    by : (es : List (ℕ × Option ℤ)) → entries v ≡ es → (length es ≡ 0 → ⊥) → (t : ℕ) × IsSome (map.get v t)
    by [] e h = absurd (h refl)
    by (x ∷ es) e h = (x.0, ap is_some (get-entries v x.0 ∙ ap (map.find nat_cmp x.0) e ∙ ap (λ b. cond b (Some x.1) (map.find nat_cmp x.0 es)) (ap is_eq (tied_itself nat_cmp_total x.0))))

-- a series without slots left
pub left_same : (old new : SeriesEntries) (position : ℕ) (s : SeriesKey) (v : Slots) → length (entries v) ≡ 0 → IsRemoved old new position s v → AreSameSlots old new
left_same old new position s v none h k =
    ap (λ (m : AllSlots). slot_at m k) h.mapped ∙ ap (λ o. slot_in o k.t) (get-remove series_cmp_total (slots_of old) s (series_of k)) ∙ by_test (eq_by_cmp series_cmp (series_of k) s) refl
  where
    by_test : (b : Bool) → eq_by_cmp series_cmp (series_of k) s ≡ b → slot_in (cond b None (map.get (slots_of old) (series_of k))) k.t ≡ slot_at (slots_of old) k
    by_test true t = sym (slot-tied (slots_of old) s v k h.found t ∙ no_slot v k.t none)
    by_test false t = refl

pub left_empty : (old new : SeriesEntries) (position : ℕ) (s : SeriesKey) (v : Slots) → length (entries v) ≡ 0 → IsRemoved old new position s v → HasNoSlots new s
left_empty old new position s v none h t = left_same old new position s v none h (key_at s t) ∙ slot_found (slots_of old) s v t h.found ∙ no_slot v t none
