-- What the points become where a slot changes.
use Rattle.std.proofs.Common.{◌≡◌, ◌≢◌, ℕ, ◌+◌, ◌-◌, ℤ, [], refl, sym, ap, ◌∙◌, inl, inr, Bool, true, false, cond, not, arith}
use Rattle.std.specs.Prelude.{Option, Some, None, is_some, IsSome, IfSome, slice_get}
use Rattle.std.specs.FinMap as finite
use Rattle.std.specs.FinMap.{same_map, get-empty, get-remove, get-retain_keys, len-remove, empty_of_len}
use Rattle.std.specs.Ordering.{eq_by_cmp, is_eq}
use Rattle.std.specs.Cmp.{tied_itself}
use Rattle.std.specs.declared.cmp.Ordering.TheVariants.{Equal}
use Rattle.m3_model.specs.declared.point.Key.{Key}
use Rattle.m3_model.specs.Keys.{key_cmp, key_cmp_total}
use Rattle.m3_model.specs.Contents.{Contents}
use Rattle.m3_model.proofs.Keyed.{key_cmp-IsAntisymmetric, equal_of}
use Rattle.series_slots.specs.declared.series_key.SeriesKey.{SeriesKey}
use Rattle.series_slots.specs.SeriesKeys.{series_cmp, series_of}
use Rattle.series_slots.specs.Slots.{Slots, settled}
use Rattle.series_slots.specs.Points.{slot_in, slot_at, value_of, points_of}
use Rattle.series_slots.specs.SeriesEntries.{SeriesEntries, StandsAt, slots_of}
use Rattle.series_slots.proofs.PointLemmas.{get-points}
use Rattle.block_buffer.proofs.PositionLemmas.{eq_or_not}
use Rattle.block_buffer.specs.Held.{without}
use Rattle.block_buffer.specs.Room.{OnlyRoomIsEmpty}
use Rattle.block_buffer.specs.AllSeries.{is_bare, IsSlotSet, AreSameSlots}

settled-cond : (b : Bool) (x y : Option (Option ℤ)) → settled (cond b x y) ≡ cond b (settled x) (settled y)
settled-cond true x y = refl
settled-cond false x y = refl

pub tied_key : (k q : Key) → eq_by_cmp key_cmp k q ≡ true → k ≡ q
tied_key k q e = key_cmp-IsAntisymmetric k q (equal_of _ e)

pub same_key : (k : Key) → eq_by_cmp key_cmp k k ≡ true
same_key k = ap is_eq (tied_itself key_cmp_total k)

-- the values, where one slot was set
pub value_set : (old new : SeriesEntries) (key : Key) (slot : Option (Option ℤ)) → IsSlotSet old new key slot
    → (k : Key) → value_of (slots_of new) k ≡ cond (eq_by_cmp key_cmp k key) (settled slot) (value_of (slots_of old) k)
value_set old new key slot h k = ap settled (h k) ∙ settled-cond (eq_by_cmp key_cmp k key) slot (slot_at (slots_of old) k)

-- no value changes where a slot takes the one that stood there
pub value_held : (old new : SeriesEntries) (key : Key) → IsSlotSet old new key (Some (value_of (slots_of old) key)) → (k : Key) → value_of (slots_of new) k ≡ value_of (slots_of old) k
value_held old new key h k = value_set old new key (Some (value_of (slots_of old) key)) h k ∙ by_test (eq_by_cmp key_cmp k key) refl
  where
    by_test : (b : Bool) → eq_by_cmp key_cmp k key ≡ b → cond b (value_of (slots_of old) key) (value_of (slots_of old) k) ≡ value_of (slots_of old) k
    by_test true e = ap (value_of (slots_of old)) (sym (tied_key k key e))
    by_test false e = refl

pub value_same : (old new : SeriesEntries) → AreSameSlots old new → (k : Key) → value_of (slots_of new) k ≡ value_of (slots_of old) k
value_same old new h k = ap settled (h k)

-- a point left
pub point_left : (old new : SeriesEntries) (key : Key) → IsSlotSet old new key None → points_of (slots_of new) ≡ finite.remove (points_of (slots_of old)) key
point_left old new key h =
    same_map key_cmp_total key_cmp-IsAntisymmetric _ _
    (λ k. get-points (slots_of new) k ∙ value_set old new key None h k ∙ ap (λ o. cond (eq_by_cmp key_cmp k key) None o) (sym (get-points (slots_of old) k)) ∙ sym (get-remove key_cmp_total (points_of (slots_of old)) key k))

-- ---- slots without a value

-- only the slot that was made has none
pub only_held : (old new : SeriesEntries) (key : Key) (slot : Option (Option ℤ)) → OnlyRoomIsEmpty None old → IsSlotSet old new key slot → OnlyRoomIsEmpty (Some key) new
only_held old new key slot only h k e = by_test (eq_by_cmp key_cmp k key) refl (sym (h k) ∙ e)
  where
    by_test : (b : Bool) → eq_by_cmp key_cmp k key ≡ b → cond b slot (slot_at (slots_of old) k) ≡ Some None → Some key ≡ Some k
    by_test true t g = ap Some (sym (tied_key k key t))
    by_test false t g = let wrong : None ≡ Some k = only k g in cc

-- none has none, once that one took a value
pub only_raised : (old new : SeriesEntries) (key : Key) (v : ℤ) → OnlyRoomIsEmpty (Some key) old → IsSlotSet old new key (Some (Some v)) → OnlyRoomIsEmpty None new
only_raised old new key v only h k e = by_test (eq_by_cmp key_cmp k key) refl (sym (h k) ∙ e)
  where
    by_test : (b : Bool) → eq_by_cmp key_cmp k key ≡ b → cond b (Some (Some v)) (slot_at (slots_of old) k) ≡ Some None → None ≡ Some k
    by_test true t g = let wrong : Some v ≡ None = cc in cc
    by_test false t g =
        let same : Some key ≡ Some k = only k g in
        let is : key ≡ k = cc in
        let wrong : true ≡ false = sym (same_key k) ∙ ap (λ q. eq_by_cmp key_cmp k q) (sym is) ∙ t in
        cc

pub only_same : (room : Option Key) (old new : SeriesEntries) → OnlyRoomIsEmpty room old → AreSameSlots old new → OnlyRoomIsEmpty room new
only_same room old new only h k e = only k (sym (h k) ∙ e)

-- nor once it left
pub only_taken : (old new : SeriesEntries) (key : Key) → OnlyRoomIsEmpty None old → IsSlotSet old new key None → OnlyRoomIsEmpty None new
only_taken old new key only h k e = by_test (eq_by_cmp key_cmp k key) (sym (h k) ∙ e)
  where
    by_test : (b : Bool) → cond b None (slot_at (slots_of old) k) ≡ Some None → None ≡ Some k
    by_test true g = cc
    by_test false g = only k g

-- where no slot is without a value, each has one
pub slot_valued : (es : SeriesEntries) (k : Key) → OnlyRoomIsEmpty None es → IsSome (slot_at (slots_of es) k) → (v : ℤ) × (value_of (slots_of es) k ≡ Some v)
slot_valued es k only h = by (slot_at (slots_of es) k) refl h
  where
    by : (o : Option (Option ℤ)) → slot_at (slots_of es) k ≡ o → IsSome o → (v : ℤ) × (value_of (slots_of es) k ≡ Some v)
    by None e h = cc
    by (Some None) e h = absurd (let wrong : None ≡ Some k = only k e in cc)
    by (Some (Some v)) e h = (v, ap settled e)

pub value_some : (o : Option (Option ℤ)) (v : ℤ) → settled o ≡ Some v → IsSome o
value_some None v e = cc
value_some (Some slot) v e = refl

-- ---- the content without points that pass a test

-- one of them left
pub without_removed : (c : Contents) (key : Key) (test : Key → Bool) → test key ≡ true → without (finite.remove c key) test ≡ without c test
without_removed c key test passes =
    same_map key_cmp_total key_cmp-IsAntisymmetric _ _
    (λ k. get-retain_keys (finite.remove c key) (λ q. not (test q)) k (alike k) ∙ ap (λ o. cond (not (test k)) o None) (get-remove key_cmp_total c key k) ∙ by_test k (eq_by_cmp key_cmp k key) refl
    ∙ sym (get-retain_keys c (λ q. not (test q)) k (alike k)))
  where
    alike : (k x : Key) → key_cmp k x ≡ Equal → not (test x) ≡ not (test k)
    alike k x e = ap (λ q. not (test q)) (sym (key_cmp-IsAntisymmetric k x e))

    by_test : (k : Key) (b : Bool) → eq_by_cmp key_cmp k key ≡ b → cond (not (test k)) (cond b None (finite.get c k)) None ≡ cond (not (test k)) (finite.get c k) None
    by_test k true e = ap (λ t. cond {A = Option ℤ} (not t) None None) (gone k e) ∙ sym (ap (λ t. cond {A = Option ℤ} (not t) (finite.get c k) None) (gone k e))
      where
        gone : (k : Key) → eq_by_cmp key_cmp k key ≡ true → test k ≡ true
        gone k e = ap test (tied_key k key e) ∙ passes
    by_test k false e = refl

-- none of them stands
pub without_none : (c : Contents) (test : Key → Bool) → ((k : Key) (v : ℤ) → finite.get c k ≡ Some v → test k ≡ true → ⊥) → c ≡ without c test
without_none c test none =
    same_map key_cmp_total key_cmp-IsAntisymmetric _ _
    (λ k. by k (finite.get c k) (test k) refl refl ∙ sym (get-retain_keys c (λ q. not (test q)) k (λ x e. ap (λ q. not (test q)) (sym (key_cmp-IsAntisymmetric k x e)))))
  where
    by : (k : Key) (o : Option ℤ) (b : Bool) → finite.get c k ≡ o → test k ≡ b → finite.get c k ≡ cond (not (test k)) (finite.get c k) None
    by k None b e t = e ∙ sym (ap (λ x. cond (not (test k)) x None) e ∙ same (not (test k)))
      where
        same : (b : Bool) → cond {A = Option ℤ} b None None ≡ None
        same true = refl
        same false = refl
    by k (Some v) true e t = absurd (none k v e t)
    by k (Some v) false e t = sym (ap (λ b. cond (not b) (finite.get c k) None) t)

-- one point fewer
pub len_removed : (c : Contents) (key : Key) (v : ℤ) → finite.get c key ≡ Some v → finite.len (finite.remove c key) + 1 ≡ finite.len c
len_removed c key v e =
    let all : finite.len (finite.remove c key) ≡ cond {A = ℕ} (is_some (finite.get c key)) (finite.len c - 1) (finite.len c) = len-remove key_cmp_total c key in
    let one : cond {A = ℕ} (is_some (finite.get c key)) (finite.len c - 1) (finite.len c) ≡ finite.len c - 1 = ap (λ o. cond {A = ℕ} (is_some o) (finite.len c - 1) (finite.len c)) e in
    elim (eq_or_not (finite.len c) 0) as (λ _. finite.len (finite.remove c key) + 1 ≡ finite.len c) [
      | inl none ↦ absurd (let wrong : None ≡ Some v = sym (get-empty key_cmp key) ∙ ap (λ (m : Contents). finite.get m key) (sym (empty_of_len c none)) ∙ e in cc)
      | inr some ↦ omega (arith, all, one, some)
    ]

-- a slot of a series stands
pub stands_if : (es : SeriesEntries) (position t : ℕ) (s : SeriesKey) (v : Slots) (o : Option (Option ℤ)) → slice_get es position ≡ Some (s, v) → o ≡ finite.get v t → IfSome o (λ _. StandsAt es position t s)
stands_if es position t s v None entry e = tt
stands_if es position t s v (Some slot) entry e = record { slots = v; entry = entry; slot = ap is_some (sym e) }

-- where there are no series, there is no slot
pub only_none : OnlyRoomIsEmpty None []
only_none k e = let wrong : None ≡ Some None = sym (ap (λ o. slot_in o k.t) (get-empty series_cmp (series_of k))) ∙ e in cc

-- a slot that is there is held already
pub held_there : (es : SeriesEntries) (key : Key) (slot : Option ℤ) → Some slot ≡ slot_at (slots_of es) key → IsSlotSet es es key (Some (value_of (slots_of es) key))
held_there es key slot e k = by_test (eq_by_cmp key_cmp k key) refl
  where
    by_test : (b : Bool) → eq_by_cmp key_cmp k key ≡ b → slot_at (slots_of es) k ≡ cond b (Some (value_of (slots_of es) key)) (slot_at (slots_of es) k)
    by_test true t = ap (slot_at (slots_of es)) (tied_key k key t) ∙ sym e ∙ ap Some (ap settled e)
    by_test false t = refl

-- where a value stands, what is said of its slot holds
pub of_settled : (o : Option (Option ℤ)) (v : ℤ) (P : Type 0) → settled o ≡ Some v → IfSome o (λ _. P) → P
of_settled None v P e h = cc
of_settled (Some slot) v P e h = h

bare_slot : (o : Option (Option ℤ)) → is_bare o ≡ true → o ≡ Some None
bare_slot None e = cc
bare_slot (Some None) e = refl
bare_slot (Some (Some v)) e = cc

-- no value changes where a slot without one leaves
pub value_vacated : (old new : SeriesEntries) (key : Key) → is_bare (slot_at (slots_of old) key) ≡ true → IsSlotSet old new key None → (k : Key) → value_of (slots_of new) k ≡ value_of (slots_of old) k
value_vacated old new key bare h k = value_set old new key None h k ∙ by_test (eq_by_cmp key_cmp k key) refl
  where
    by_test : (b : Bool) → eq_by_cmp key_cmp k key ≡ b → cond b None (value_of (slots_of old) k) ≡ value_of (slots_of old) k
    by_test true e = sym (ap (value_of (slots_of old)) (tied_key k key e) ∙ ap settled (bare_slot (slot_at (slots_of old) key) bare))
    by_test false e = refl

-- what is without a value then was so before, and is another
pub bare_before : (old new : SeriesEntries) (key : Key) → IsSlotSet old new key None → (k : Key) → slot_at (slots_of new) k ≡ Some None → (slot_at (slots_of old) k ≡ Some None) × (k ≢ key)
bare_before old new key h k e = by_test (eq_by_cmp key_cmp k key) refl (sym (h k) ∙ e)
  where
    by_test : (b : Bool) → eq_by_cmp key_cmp k key ≡ b → cond b None (slot_at (slots_of old) k) ≡ Some None → (slot_at (slots_of old) k ≡ Some None) × (k ≢ key)
    by_test true t g = cc
    by_test false t g = (g, λ is. let wrong : true ≡ false = sym (same_key k) ∙ ap (eq_by_cmp key_cmp k) is ∙ t in cc)

-- where the slot has a value, what is without one is another
pub bare_other : (es : SeriesEntries) (key : Key) → is_bare (slot_at (slots_of es) key) ≡ false → (k : Key) → slot_at (slots_of es) k ≡ Some None → (slot_at (slots_of es) k ≡ Some None) × (k ≢ key)
bare_other es key full k e = (e, λ is. let wrong : false ≡ true = sym full ∙ ap is_bare (sym (ap (slot_at (slots_of es)) is) ∙ e) in cc)
