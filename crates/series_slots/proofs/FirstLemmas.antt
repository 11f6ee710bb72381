-- The first value of a series from a time on.
use Rattle.std.proofs.Common.{◌≡◌, ℕ, suc, zero, ◌-◌, ◌<◌, ◌≤◌, ℤ, [], ◌∷◌, refl, sym, ap, subst, ◌∙◌, inl, inr, Bool, true, false, cond, length, get_or, arith}
use Rattle.std.specs.Prelude.{◌⊎◌, Option, Some, None, is_some, IsSome, slice_get, take, drop}
use Rattle.std.proofs.lemmas.Bool.{cases_lt}
use Rattle.std.specs.FinMap as map
use Rattle.std.specs.FinMap.{find, is_sorted, from_sorted, get-from_sorted, nat_cmp-IsAntisymmetric}
use Rattle.std.specs.FinMap.Entries.{below_all}
use Rattle.std.specs.Ordering.{nat_cmp, eq_by_cmp, is_eq}
use Rattle.m3_model.proofs.Keyed.{holds_of, equal_of}
use Rattle.m3_model.proofs.RangeLemmas.{both_true}
use Rattle.series_slots.specs.Slots.{Slots, settled, value_at}
use Rattle.series_slots.specs.declared.series_key.SeriesKey.{SeriesKey}
use Rattle.series_slots.specs.SeriesKeys.{key_at}
use Rattle.series_slots.specs.Points.{slot_in, value_of}
use Rattle.series_slots.specs.SeriesEntries.{SeriesEntries, slots_of}
use Rattle.series_slots.specs.SlotPlaces.{SlotList, IsPlaceFrom}
use Rattle.series_slots.specs.Firsts.{IsBareFrom, IsFirstFrom, HasNoneLater, IsFirstAt, IsFirstTime, HasNoTime}
use Rattle.series_slots.proofs.SlotLemmas.{Slot, below_at, rest_sorted, missed, is_less, is_greater, is_equal}

-- these are the slots that are left of those from the time on, and those before them have no value
pub record IsLeft (low : ℕ) (slots : Slots) (left : SlotList) : Type 0 where
  pub sorted : is_sorted nat_cmp left ≡ true
  pub from : (k : ℕ) (d : Slot) → k < length left → low ≤ (get_or left k d).0
  pub same : (q : ℕ) → low ≤ q → value_at slots q ≡ settled (find nat_cmp q left)

-- a time below those of all slots has none
none_below : (q : ℕ) (e : Slot) (es : SlotList) → is_sorted nat_cmp (e ∷ es) ≡ true → q ≤ e.0 → find nat_cmp q es ≡ None
none_below q e es h low = missed q es (λ k d l. let above : e.0 < (get_or es k d).0 = below_at e.0 es k d (both_true (below_all nat_cmp e.0 es) (is_sorted nat_cmp es) h).0 l in ap is_eq (is_less q (get_or es k d).0 (omega (arith, low, above))))

-- none is left
pub all_bare : (low : ℕ) (slots : Slots) (left : SlotList) → IsLeft low slots left → length left ≡ 0 → IsBareFrom slots low
all_bare low slots [] h none q from = h.same q from
all_bare low slots (e ∷ es) h none q from = absurd (omega (arith, none))

-- one without a value was the first of them
pub one_bare : (low : ℕ) (slots : Slots) (x : Slot) (es : SlotList) → IsLeft low slots (x ∷ es) → x.1 ≡ None → IsLeft low slots es
one_bare low slots x es h bare = record {
  sorted = rest_sorted x es h.sorted;
  from = λ k d l. h.from (suc k) d (omega (arith, l));
  same = λ q from. h.same q from ∙ ap (λ o. settled (cond (eq_by_cmp nat_cmp q x.0) (Some o) (find nat_cmp q es))) bare ∙ by q (eq_by_cmp nat_cmp q x.0) refl;
}
  where
    by : (q : ℕ) (b : Bool) → eq_by_cmp nat_cmp q x.0 ≡ b → settled (cond b (Some None) (find nat_cmp q es)) ≡ settled (find nat_cmp q es)
    by q true e =
        let is : q ≡ x.0 = nat_cmp-IsAntisymmetric q x.0 (equal_of _ e) in
        sym (ap settled (none_below q x es h.sorted (omega (arith, is))))
    by q false e = refl

-- one with a value is the first of them
pub one_valued : (low : ℕ) (slots : Slots) (x : Slot) (v : ℤ) (es : SlotList) → IsLeft low slots (x ∷ es) → x.1 ≡ Some v → IsFirstFrom slots low x.0 v
one_valued low slots x v es h is = record {
  from = h.from 0 x (omega arith);
  value = h.same x.0 (h.from 0 x (omega arith)) ∙ ap (λ b. settled (cond b (Some x.1) (find nat_cmp x.0 es))) (ap is_eq (is_equal x.0 x.0 refl)) ∙ is;
  first = λ q low_q early. h.same q low_q ∙ ap (λ b. settled (cond b (Some x.1) (find nat_cmp q es))) (ap is_eq (is_less q x.0 early))
      ∙ ap settled (none_below q x es h.sorted (omega (arith, early)));
}

-- ---- the slots from a position on

take_whole : (es : SlotList) → take (length es) es ≡ es
take_whole [] = refl
take_whole (e ∷ es) = ap (λ xs. e ∷ xs) (take_whole es)

less_zero : (n : ℕ) → n - 0 ≡ n
less_zero n = omega arith

less_both : (n m : ℕ) → suc n - suc m ≡ n - m
less_both n m = omega arith

record IsTail (low : ℕ) (es left : SlotList) : Type 0 where
  sorted : is_sorted nat_cmp left ≡ true
  from : (k : ℕ) (d : Slot) → k < length left → low ≤ (get_or left k d).0
  same : (q : ℕ) → low ≤ q → find nat_cmp q es ≡ find nat_cmp q left

tail_of : (low : ℕ) (es : SlotList) (n : ℕ) → is_sorted nat_cmp es ≡ true → n ≤ length es → ((k : ℕ) (d : Slot) → k < n → (get_or es k d).0 < low)
    → ((k : ℕ) (d : Slot) → n ≤ k → k < length es → low ≤ (get_or es k d).0) → IsTail low es (take (length es - n) (drop n es))
tail_of low [] zero h bound before after = record { sorted = h; from = λ k d l. after k d (omega arith) l; same = λ q from. refl }
tail_of low [] (suc n) h bound before after = absurd (omega (arith, bound))
tail_of low (e ∷ es) zero h bound before after =
    subst (IsTail low (e ∷ es)) (sym (ap (λ m. take m (e ∷ es)) (less_zero (length (e ∷ es))) ∙ take_whole (e ∷ es))) (record { sorted = h; from = λ k d l. after k d (omega arith) l; same = λ q from. refl })
tail_of low (e ∷ es) (suc n) h bound before after =
    let rest = tail_of low es n (rest_sorted e es h) (omega (arith, bound)) (λ k d l. before (suc k) d (omega (arith, l))) (λ k d l u. after (suc k) d (omega (arith, l)) (omega (arith, u))) in
    let early : e.0 < low = before 0 e (omega arith) in
    subst (λ m. IsTail low (e ∷ es) (take m (drop n es))) (sym (less_both (length es) n)) (record {
      sorted = rest.sorted;
      from = rest.from;
      same = λ q from. ap (λ b. cond b (Some e.1) (find nat_cmp q es)) (ap is_eq (is_greater q e.0 (omega (arith, early, from)))) ∙ rest.same q from;
    })

-- at first the slots from the position on are left
pub left_at_first : (low : ℕ) (es : SlotList) (n : ℕ) → is_sorted nat_cmp es ≡ true → IsPlaceFrom low es n → IsLeft low (from_sorted {R = nat_cmp} es) (take (length es - n) (drop n es))
left_at_first low es n h at =
    let tail = tail_of low es n h at.bound (λ k d l. at.before k d (omega arith) l) at.after in
    record {
      sorted = tail.sorted;
      from = tail.from;
      same = λ q from. ap settled (get-from_sorted nat_cmp es q (holds_of _ h) ∙ tail.same q from);
    }

-- ---- a series at its position

some_of : (o : Option (Option ℤ)) (v : ℤ) → settled o ≡ Some v → IsSome o
some_of None v e = cc
some_of (Some slot) v e = refl

value_found : (es : SeriesEntries) (s : SeriesKey) (slots : Slots) (q : ℕ) → map.get (slots_of es) s ≡ Some slots → value_of (slots_of es) (key_at s q) ≡ value_at slots q
value_found es s slots q found = ap (λ o. settled (slot_in o q)) found

-- its slots have no value from the time on
pub none_later : (es : SeriesEntries) (s : SeriesKey) (slots : Slots) (low : ℕ) → map.get (slots_of es) s ≡ Some slots → IsBareFrom slots low → HasNoneLater es s low
none_later es s slots low found bare q from = value_found es s slots q found ∙ bare q from

-- the first value of its slots
pub first_of : (es : SeriesEntries) (position : ℕ) (s : SeriesKey) (slots : Slots) (low t : ℕ) (v : ℤ) → slice_get es position ≡ Some (s, slots) → map.get (slots_of es) s ≡ Some slots → IsFirstFrom slots low t v → IsFirstAt es position s low t v
first_of es position s slots low t v entry found h = record {
  from = h.from;
  stands = record { slots = slots; entry = entry; slot = some_of (map.get slots t) v h.value };
  value = value_found es s slots t found ∙ h.value;
  first = λ q low_q early. value_found es s slots q found ∙ h.first q low_q early;
}

-- ---- the first slot

-- where there are none, no time has one
pub no_time : (es : SlotList) → is_sorted nat_cmp es ≡ true → length es ≡ 0 → HasNoTime (from_sorted {R = nat_cmp} es)
no_time [] h none q = get-from_sorted nat_cmp [] q (holds_of _ h)
no_time (e ∷ es) h none q = absurd (omega (arith, none))

-- the first of the list is that of the first time
pub first_time_of : (es : SlotList) (x : Slot) → is_sorted nat_cmp es ≡ true → 0 < length es → x ≡ get_or es 0 x → IsFirstTime (from_sorted {R = nat_cmp} es) x.0
first_time_of [] x h some is = absurd (omega (arith, some))
first_time_of (e ∷ es) x h some is = subst (λ (y : Slot). IsFirstTime (from_sorted {R = nat_cmp} (e ∷ es)) y.0) (sym is) (record {
  slot = ap is_some (got e.0 ∙ ap (λ b. cond b (Some e.1) (find nat_cmp e.0 es)) (ap is_eq (is_equal e.0 e.0 refl)));
  first = λ q stands. by q stands (cases_lt q e.0);
})
  where
    got : (q : ℕ) → map.get (from_sorted {R = nat_cmp} (e ∷ es)) q ≡ find nat_cmp q (e ∷ es)
    got q = get-from_sorted nat_cmp (e ∷ es) q (holds_of _ h)

    by : (q : ℕ) → IsSome (map.get (from_sorted {R = nat_cmp} (e ∷ es)) q) → (q < e.0) ⊎ (e.0 ≤ q) → e.0 ≤ q
    by q stands (inr later) = later
    by q stands (inl early) =
        let none : find nat_cmp q (e ∷ es) ≡ None = ap (λ b. cond b (Some e.1) (find nat_cmp q es)) (ap is_eq (is_less q e.0 early)) ∙ none_below q e es h (omega (arith, early)) in
        let wrong : false ≡ true = sym (ap is_some (got q ∙ none)) ∙ stands in
        cc
