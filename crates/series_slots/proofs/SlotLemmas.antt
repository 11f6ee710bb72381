-- Slots in a list by ascending time: where a time stands among them, and what a change at that place does.
use Rattle.std.proofs.Common.{◌≡◌, ℕ, suc, zero, ◌+◌, ◌-◌, ◌<◌, ◌≤◌, ℤ, [], ◌∷◌, refl, sym, ap, ◌∙◌, subst, Bool, true, false, cond, not, ◌&&◌, ◌⊎◌, inl, inr, length, get_or, set, arith, Result, Ok, Err, IfOk, IfErr}
use Rattle.std.specs.Prelude.{Option, Some, None, is_some, IsSome, OnSome, nat_le, nat_lt, slice_get, take, drop}
use Rattle.std.specs.List.{filter_map, cons_option, insert, remove}
use Rattle.std.specs.List.Sorted.{IsSearchInRange, IsBinarySearchResult}
use Rattle.std.specs.FinMap as map
use Rattle.std.specs.FinMap.{find, put, is_sorted, from_sorted, get-from_sorted, get-remove, same_map, entries-from_sorted, entries-insert, same_entries_map, nat_cmp-IsAntisymmetric}
use Rattle.std.specs.FinMap.Entries.{by_order, below_all, where_key, is_sorted-put, is_sorted-where_key, find-where_key}
use Rattle.std.specs.Cmp.{nat_cmp_total, nat_cmp_is, eq_by_cmp_equiv}
use Rattle.std.specs.Ordering.{nat_cmp, is_lt, is_eq, eq_by_cmp, ordering_index}
use Rattle.std.specs.declared.cmp.Ordering.{Ordering}
use Rattle.std.specs.declared.cmp.Ordering.TheVariants.{Less, Equal, Greater}
use Rattle.std.proofs.lemmas.Bool.{cases_lt}
use Rattle.std.proofs.lemmas.Bool.Decides.{nat_tests}
use Rattle.std.proofs.lemmas.Cmp.{ranked}
use Rattle.std.proofs.lemmas.Option.{slice_get_within, slice_get-get_or, slice_get_read, get_or_from_slice_get}
use Rattle.m3_model.proofs.Keyed.{holds_of, true_of}
use Rattle.m3_model.proofs.RangeLemmas.{both_true}
use Rattle.series_slots.specs.Slots.{Slots, valued, valued_in}
use Rattle.series_slots.specs.SlotPlaces.{SlotList, IsSlotAt, IsGapFor, IsPlaceFrom}
use Rattle.series_slots.proofs.PointLemmas.{inside_some}

abbrev pub Slot : Type 0
Slot = ℕ × Option ℤ

-- ---- the order of times

less_of : (o : Ordering) → is_lt o ≡ true → o ≡ Less
less_of Less e = refl
less_of Equal e = cc
less_of Greater e = cc

below_of : (x y : ℕ) → is_lt (nat_cmp x y) ≡ true → x < y
below_of x y e = ranked x y Less (sym (less_of (nat_cmp x y) e))

pub is_less : (x y : ℕ) → x < y → nat_cmp x y ≡ Less
is_less x y h = sym (nat_cmp_is x y Less h)

pub is_equal : (x y : ℕ) → x ≡ y → nat_cmp x y ≡ Equal
is_equal x y h = sym (nat_cmp_is x y Equal h)

pub is_greater : (x y : ℕ) → y < x → nat_cmp x y ≡ Greater
is_greater x y h = sym (nat_cmp_is x y Greater h)

-- a time below those of all slots
pub below_at : (x : ℕ) (es : SlotList) (k : ℕ) (d : Slot) → below_all nat_cmp x es ≡ true → k < length es → x < (get_or es k d).0
below_at x [] k d h l = absurd (omega arith)
below_at x (e ∷ es) zero d h l = below_of x e.0 (both_true (is_lt (nat_cmp x e.0)) (below_all nat_cmp x es) h).0
below_at x (e ∷ es) (suc k) d h l = below_at x es k d (both_true (is_lt (nat_cmp x e.0)) (below_all nat_cmp x es) h).1 (omega arith)

rising : (es : SlotList) (i j : ℕ) (d : Slot) → is_sorted nat_cmp es ≡ true → i < j → j < length es → (get_or es i d).0 < (get_or es j d).0
rising [] i j d h a b = absurd (omega arith)
rising (e ∷ es) zero zero d h a b = absurd (omega arith)
rising (e ∷ es) zero (suc j) d h a b = below_at e.0 es j d (both_true (below_all nat_cmp e.0 es) (is_sorted nat_cmp es) h).0 (omega arith)
rising (e ∷ es) (suc i) zero d h a b = absurd (omega arith)
rising (e ∷ es) (suc i) (suc j) d h a b = rising es i j d (both_true (below_all nat_cmp e.0 es) (is_sorted nat_cmp es) h).1 (omega arith) (omega arith)

not_falling : (es : SlotList) (i j : ℕ) (d : Slot) → is_sorted nat_cmp es ≡ true → i ≤ j → j < length es → (get_or es i d).0 ≤ (get_or es j d).0
not_falling es i j d h a b = by (cases_lt i j)
  where
    by : (i < j) ⊎ (j ≤ i) → (get_or es i d).0 ≤ (get_or es j d).0
    by (inl l) = omega (arith, rising es i j d h l b)
    by (inr l) = let same : i ≡ j = omega arith in omega (arith, ap (λ n. (get_or es n d).0) same)

index_rises : (a b t : ℕ) → a ≤ b → ordering_index (nat_cmp a t) ≤ ordering_index (nat_cmp b t)
index_rises a b t h = grind (arith, nat_tests)

-- ---- the position of a time

stands_within : (t : ℕ) (w : Option ℤ) (es : SlotList) (i : ℕ) → slice_get es i ≡ Some (t, w) → i < length es
stands_within t w es i h = slice_get_within es i (t, w) h

time_at : (t : ℕ) (w : Option ℤ) (es : SlotList) (i : ℕ) (d : Slot) → slice_get es i ≡ Some (t, w) → (get_or es i d).0 ≡ t
time_at t w es i d h = ap (λ (x : Slot). x.0) (get_or_from_slice_get es i (t, w) d h)

-- what a binary search answers
pub searched : (t : ℕ) (es : SlotList) (r : Result ℕ ℕ) → is_sorted nat_cmp es ≡ true → IsSearchInRange r (length es) → IsBinarySearchResult (λ slot. nat_cmp slot.0 t) es r
    → IfOk r (IsSlotAt t es) × IfErr r (IsGapFor t es)
searched t es (Ok i) h bound at = (
  record {
    slot = (get_or es i (0, None)).1;
    stands = slice_get-get_or es i (0, None) bound ∙ ap (λ n. Some (n, (get_or es i (0, None)).1)) (nat_cmp-IsAntisymmetric (get_or es i (0, None)).0 t (at (0, None)));
  },
  tt,
)
searched t es (Err i) h bound at =
    let parted = at (λ i j d le lt. index_rises (get_or es i d).0 (get_or es j d).0 t (not_falling es i j d h le lt)) in (
      tt,
      record {
        bound = bound;
        before = λ k d l u. ranked (get_or es k d).0 t Less (sym (parted.0 k d l u));
        after = λ k d l u. ranked (get_or es k d).0 t Greater (sym (parted.1 k d l u));
      },
    )

-- a time after that of the last slot
pub after_last : (t : ℕ) (es : SlotList) (n : ℕ) (x : Slot) → is_sorted nat_cmp es ≡ true → n ≡ length es → 0 < n → x ≡ get_or es (n - 1) x → x.0 < t → IsGapFor t es (length es)
after_last t es n x h long some is above = record {
  bound = omega arith;
  before = λ k d l u.
      let upto : (get_or es k d).0 ≤ (get_or es (n - 1) d).0 = not_falling es k (n - 1) d h (omega arith) (omega arith) in
      let last : get_or es (n - 1) d ≡ x = get_or_from_slice_get es (n - 1) x d (slice_get_read es n (n - 1) x long (omega arith) is) in
      omega (arith, ap (λ (y : Slot). y.0) last);
  after = λ k d l u. absurd (omega arith);
}

pub disk_slot_of : (t : ℕ) (es : SlotList) (i : ℕ) → is_sorted nat_cmp es ≡ true → IsSlotAt t es i → IsPlaceFrom t es i
disk_slot_of t es i h at = record {
  bound = let inside = stands_within t at.slot es i at.stands in omega arith;
  before = λ k d l u. omega (arith, rising es k i d h u (stands_within t at.slot es i at.stands), time_at t at.slot es i d at.stands);
  after = λ k d l u. omega (arith, not_falling es i k d h l u, time_at t at.slot es i d at.stands);
}

pub places_in_order : (from to : ℕ) (es : SlotList) (low high : ℕ) → from < to → IsPlaceFrom from es low → IsPlaceFrom to es high → low ≤ high
places_in_order from to es low high h first last = by (cases_lt high low)
  where
    by : (high < low) ⊎ (low ≤ high) → low ≤ high
    by (inl l) =
        let inside = first.bound in
        let a : (get_or es high (0, None)).0 < from = first.before high (0, None) (omega arith) l in
        let b : to ≤ (get_or es high (0, None)).0 = last.after high (0, None) (omega arith) (omega arith) in
        omega arith
    by (inr l) = l

-- ---- the values of a range

none_in : (from to : ℕ) (es : SlotList) → ((k : ℕ) (d : Slot) → k < length es → to ≤ (get_or es k d).0) → filter_map (valued_in from to) es ≡ []
none_in from to [] out = refl
none_in from to (e ∷ es) out =
    let late : to ≤ e.0 = out 0 e (omega arith) in
    let misses : (nat_le from e.0 && nat_lt e.0 to) ≡ false = grind (arith, nat_tests) in
    ap (λ b. cons_option (cond b (valued e) None) (filter_map (valued_in from to) es)) misses ∙ none_in from to es (λ k d l. out (suc k) d (omega arith))

cut_back : (from to : ℕ) (es : SlotList) (n : ℕ) → n ≤ length es → ((k : ℕ) (d : Slot) → k < n → (from ≤ (get_or es k d).0) × ((get_or es k d).0 < to))
    → ((k : ℕ) (d : Slot) → n ≤ k → k < length es → to ≤ (get_or es k d).0) → filter_map valued (take n es) ≡ filter_map (valued_in from to) es
cut_back from to [] zero bound within after = refl
cut_back from to [] (suc n) bound within after = absurd (omega arith)
cut_back from to (e ∷ es) zero bound within after = sym (none_in from to (e ∷ es) (λ k d l. after k d (omega arith) l))
cut_back from to (e ∷ es) (suc n) bound within after =
    let inside = within 0 e (omega arith) in
    let low : from ≤ e.0 = inside.0 in
    let high : e.0 < to = inside.1 in
    let hits : (nat_le from e.0 && nat_lt e.0 to) ≡ true = grind (arith, nat_tests) in
    ap (λ ps. cons_option (valued e) ps) (cut_back from to es n (omega arith) (λ k d l. within (suc k) d (omega arith)) (λ k d l u. after (suc k) d (omega arith) (omega arith)))
    ∙ sym (ap (λ b. cons_option (cond b (valued e) None) (filter_map (valued_in from to) es)) hits)

cut : (from to : ℕ) (es : SlotList) (low n : ℕ) → low + n ≤ length es → ((k : ℕ) (d : Slot) → k < low → (get_or es k d).0 < from)
    → ((k : ℕ) (d : Slot) → low ≤ k → k < low + n → (from ≤ (get_or es k d).0) × ((get_or es k d).0 < to)) → ((k : ℕ) (d : Slot) → low + n ≤ k → k < length es → to ≤ (get_or es k d).0)
    → filter_map valued (take n (drop low es)) ≡ filter_map (valued_in from to) es
cut from to [] zero n bound before within after = cut_back from to [] n (omega arith) (λ k d l. within k d (omega arith) (omega arith)) (λ k d l u. after k d (omega arith) u)
cut from to [] (suc low) n bound before within after = absurd (omega arith)
cut from to (e ∷ es) zero n bound before within after =
    cut_back from to (e ∷ es) n (omega arith) (λ k d l. within k d (omega arith) (omega arith)) (λ k d l u. after k d (omega arith) u)
cut from to (e ∷ es) (suc low) n bound before within after =
    let early : e.0 < from = before 0 e (omega arith) in
    let misses : (nat_le from e.0 && nat_lt e.0 to) ≡ false = grind (arith, nat_tests) in
    cut from to es low n (omega arith) (λ k d l. before (suc k) d (omega arith)) (λ k d l u. within (suc k) d (omega arith) (omega arith)) (λ k d l u. after (suc k) d (omega arith) (omega arith))
    ∙ sym (ap (λ b. cons_option (cond b (valued e) None) (filter_map (valued_in from to) es)) misses)

-- the values between the positions of two times are those of the range
pub paired : (from to : ℕ) (es : SlotList) (low high : ℕ) → low ≤ high → IsPlaceFrom from es low → IsPlaceFrom to es high
    → filter_map valued (take (high - low) (drop low es)) ≡ filter_map (valued_in from to) es
paired from to es low high h first last =
    let inside = last.bound in
    cut from to es low (high - low) (omega arith) (λ k d l. first.before k d (omega arith) l)
    (λ k d l u. (first.after k d l (omega arith), last.before k d (omega arith) (omega arith))) (λ k d l u. last.after k d (omega arith) u)

-- nothing stands in a range that ends before it begins
pub paired-none : (from to : ℕ) (es : SlotList) → to ≤ from → filter_map (valued_in from to) es ≡ []
paired-none from to [] h = refl
paired-none from to (e ∷ es) h =
    let out : (nat_le from e.0 && nat_lt e.0 to) ≡ false = grind (arith, nat_tests) in
    ap (λ b. cons_option (cond b (valued e) None) (filter_map (valued_in from to) es)) out ∙ paired-none from to es h

pub not_both : {X : Type 0} (o : Option X) → o ≡ None → is_some o ≡ true → ⊥
not_both None e h = cc
not_both (Some x) e h = cc

-- ---- a change at the position of a time

insert_put : (t : ℕ) (v : Option ℤ) (es : SlotList) (i : ℕ) → i ≤ length es → ((k : ℕ) (d : Slot) → k < i → (get_or es k d).0 < t)
    → ((k : ℕ) (d : Slot) → i ≤ k → k < length es → t < (get_or es k d).0) → insert es i (t, v) ≡ put nat_cmp t v es
insert_put t v [] zero bound before after = refl
insert_put t v [] (suc i) bound before after = absurd (omega arith)
insert_put t v (e ∷ es) zero bound before after =
    sym (ap (λ o. by_order o ((t, v) ∷ e ∷ es) ((e.0, v) ∷ es) (e ∷ put nat_cmp t v es)) (is_less t e.0 (after 0 e (omega arith) (omega arith))))
insert_put t v (e ∷ es) (suc i) bound before after =
    ap (λ xs. e ∷ xs) (insert_put t v es i (omega arith) (λ k d l. before (suc k) d (omega arith)) (λ k d l u. after (suc k) d (omega arith) (omega arith)))
    ∙ sym (ap (λ o. by_order o ((t, v) ∷ e ∷ es) ((e.0, v) ∷ es) (e ∷ put nat_cmp t v es)) (is_greater t e.0 (before 0 e (omega arith))))

-- the slots after the first are of later times
first_below : (e : Slot) (es : SlotList) (i t : ℕ) (w : Option ℤ) → is_sorted nat_cmp (e ∷ es) ≡ true → slice_get es i ≡ Some (t, w) → e.0 < t
first_below e es i t w h at =
    let below : e.0 < (get_or es i e).0 = below_at e.0 es i e (both_true (below_all nat_cmp e.0 es) (is_sorted nat_cmp es) h).0 (stands_within t w es i at) in
    omega (arith, time_at t w es i e at)

pub rest_sorted : (e : Slot) (es : SlotList) → is_sorted nat_cmp (e ∷ es) ≡ true → is_sorted nat_cmp es ≡ true
rest_sorted e es h = (both_true (below_all nat_cmp e.0 es) (is_sorted nat_cmp es) h).1

set_put : (t : ℕ) (v w : Option ℤ) (es : SlotList) (i : ℕ) → is_sorted nat_cmp es ≡ true → slice_get es i ≡ Some (t, w) → set es i (t, v) ≡ put nat_cmp t v es
set_put t v w [] i h at = cc
set_put t v w (e ∷ es) zero h at =
    let time : t ≡ e.0 = sym (ap (λ (x : Slot). x.0) (inside_some e (t, w) at)) in
    ap (λ n. (n, v) ∷ es) time ∙ sym (ap (λ o. by_order o ((t, v) ∷ e ∷ es) ((e.0, v) ∷ es) (e ∷ put nat_cmp t v es)) (is_equal t e.0 time))
set_put t v w (e ∷ es) (suc i) h at =
    ap (λ xs. e ∷ xs) (set_put t v w es i (rest_sorted e es h) at)
    ∙ sym (ap (λ o. by_order o ((t, v) ∷ e ∷ es) ((e.0, v) ∷ es) (e ∷ put nat_cmp t v es)) (is_greater t e.0 (first_below e es i t w h at)))

abbrev others : ℕ → SlotList → SlotList
others t es = where_key nat_cmp (λ x. not (eq_by_cmp nat_cmp t x)) es

others_all : (t : ℕ) (es : SlotList) → ((k : ℕ) (d : Slot) → k < length es → eq_by_cmp nat_cmp t (get_or es k d).0 ≡ false) → es ≡ others t es
others_all t [] apart = refl
others_all t (e ∷ es) apart =
    ap (λ xs. e ∷ xs) (others_all t es (λ k d l. apart (suc k) d (omega arith)))
    ∙ sym (ap (λ b. cond (not b) (e ∷ others t es) (others t es)) (apart 0 e (omega arith)))

drop_zero : (es : SlotList) → drop 0 es ≡ es
drop_zero [] = refl
drop_zero (e ∷ es) = refl

remove_others : (t : ℕ) (w : Option ℤ) (es : SlotList) (i : ℕ) → is_sorted nat_cmp es ≡ true → slice_get es i ≡ Some (t, w) → remove es i ≡ others t es
remove_others t w [] i h at = cc
remove_others t w (e ∷ es) zero h at =
    let time : t ≡ e.0 = sym (ap (λ (x : Slot). x.0) (inside_some e (t, w) at)) in
    let below = (both_true (below_all nat_cmp e.0 es) (is_sorted nat_cmp es) h).0 in
    let later : (k : ℕ) (d : Slot) → k < length es → eq_by_cmp nat_cmp t (get_or es k d).0 ≡ false = λ k d l.
    ap is_eq (is_less t (get_or es k d).0 (subst (λ n. n < (get_or es k d).0) (sym time) (below_at e.0 es k d below l))) in
    drop_zero es ∙ others_all t es later ∙ sym (ap (λ b. cond (not b) (e ∷ others t es) (others t es)) (ap is_eq (is_equal t e.0 time)))
remove_others t w (e ∷ es) (suc i) h at =
    ap (λ xs. e ∷ xs) (remove_others t w es i (rest_sorted e es h) at)
    ∙ sym (ap (λ b. cond (not b) (e ∷ others t es) (others t es)) (ap is_eq (is_greater t e.0 (first_below e es i t w h at))))

-- ---- the map of the slots

-- what a list of slots has become, as a map
pub record IsMapped (ns : SlotList) (after : Slots) : Type 0 where
  pub sorted : is_sorted nat_cmp ns ≡ true
  pub mapped : from_sorted {R = nat_cmp} ns ≡ after

put_mapped : (es ns : SlotList) (t : ℕ) (v : Option ℤ) → is_sorted nat_cmp es ≡ true → ns ≡ put nat_cmp t v es → IsMapped ns (map.insert (from_sorted {R = nat_cmp} es) t v)
put_mapped es ns t v h is =
    let sorted : is_sorted nat_cmp ns ≡ true = subst (λ xs. is_sorted nat_cmp xs ≡ true) (sym is) (true_of _ (is_sorted-put nat_cmp nat_cmp_total t v es (holds_of _ h))) in
    record {
      sorted = sorted;
      mapped = same_entries_map _ _ (entries-from_sorted nat_cmp ns (holds_of _ sorted) ∙ is
          ∙ sym (entries-insert nat_cmp_total (from_sorted {R = nat_cmp} es) t v ∙ ap (λ xs. put nat_cmp t v xs) (entries-from_sorted nat_cmp es (holds_of _ h))));
    }

turned : {A : Type 0} (b : Bool) (x y : A) → cond (not b) x y ≡ cond b y x
turned true x y = refl
turned false x y = refl

others_mapped : (es ns : SlotList) (t : ℕ) → is_sorted nat_cmp es ≡ true → ns ≡ others t es → IsMapped ns (map.remove (from_sorted {R = nat_cmp} es) t)
others_mapped es ns t h is =
    let kept : ℕ → Bool = λ x. not (eq_by_cmp nat_cmp t x) in
    let sorted : is_sorted nat_cmp ns ≡ true = subst (λ xs. is_sorted nat_cmp xs ≡ true) (sym is) (true_of _ (is_sorted-where_key nat_cmp kept es (holds_of _ h))) in
    let alike : (q x : ℕ) → nat_cmp q x ≡ Equal → kept x ≡ kept q = λ q x e. ap kept (sym (nat_cmp-IsAntisymmetric q x e)) in
    record {
      sorted = sorted;
      mapped = same_map nat_cmp_total nat_cmp-IsAntisymmetric _ _ (λ q. get-from_sorted nat_cmp ns q (holds_of _ sorted) ∙ ap (find nat_cmp q) is ∙ find-where_key nat_cmp kept q (alike q) es
          ∙ turned (eq_by_cmp nat_cmp t q) _ _ ∙ ap (λ b. cond b None (find nat_cmp q es)) ((eq_by_cmp_equiv nat_cmp_total).symm t q)
          ∙ sym (get-remove nat_cmp_total (from_sorted {R = nat_cmp} es) t q ∙ ap (λ o. cond (eq_by_cmp nat_cmp q t) None o) (get-from_sorted nat_cmp es q (holds_of _ h))));
    }

-- a slot that is written
pub set_mapped : (es : SlotList) (i t : ℕ) (v : Option ℤ) → is_sorted nat_cmp es ≡ true → IsSlotAt t es i → IsMapped (set es i (t, v)) (map.insert (from_sorted {R = nat_cmp} es) t v)
set_mapped es i t v h at = put_mapped es (set es i (t, v)) t v h (set_put t v at.slot es i h at.stands)

-- a new slot
pub insert_mapped : (es : SlotList) (i t : ℕ) (v : Option ℤ) → is_sorted nat_cmp es ≡ true → IsGapFor t es i → IsMapped (insert es i (t, v)) (map.insert (from_sorted {R = nat_cmp} es) t v)
insert_mapped es i t v h at = put_mapped es (insert es i (t, v)) t v h (insert_put t v es i at.bound (λ k d l. at.before k d (omega arith) l) at.after)

-- a slot that leaves
pub remove_mapped : (es : SlotList) (i t : ℕ) → is_sorted nat_cmp es ≡ true → IsSlotAt t es i → IsMapped (remove es i) (map.remove (from_sorted {R = nat_cmp} es) t)
remove_mapped es i t h at = others_mapped es (remove es i) t h (remove_others t at.slot es i h at.stands)

apart_of_gap : (t : ℕ) (es : SlotList) (i : ℕ) → IsGapFor t es i → (k : ℕ) (d : Slot) → k < length es → eq_by_cmp nat_cmp t (get_or es k d).0 ≡ false
apart_of_gap t es i at k d l = by (cases_lt k i)
  where
    by : (k < i) ⊎ (i ≤ k) → eq_by_cmp nat_cmp t (get_or es k d).0 ≡ false
    by (inl u) = ap is_eq (is_greater t (get_or es k d).0 (at.before k d (omega arith) u))
    by (inr u) = ap is_eq (is_less t (get_or es k d).0 (at.after k d u l))

-- a slot that isn't there leaves
pub absent_mapped : (es : SlotList) (i t : ℕ) → is_sorted nat_cmp es ≡ true → IsGapFor t es i → IsMapped es (map.remove (from_sorted {R = nat_cmp} es) t)
absent_mapped es i t h at = others_mapped es es t h (others_all t es (apart_of_gap t es i at))

found_at : (t : ℕ) (w : Option ℤ) (es : SlotList) (i : ℕ) → is_sorted nat_cmp es ≡ true → slice_get es i ≡ Some (t, w) → find nat_cmp t es ≡ Some w
found_at t w [] i h at = cc
found_at t w (e ∷ es) zero h at =
    let is : e ≡ (t, w) = inside_some e (t, w) at in
    ap (λ b. cond b (Some e.1) (find nat_cmp t es)) (ap is_eq (is_equal t e.0 (sym (ap (λ (x : Slot). x.0) is)))) ∙ ap (λ (x : Slot). Some x.1) is
found_at t w (e ∷ es) (suc i) h at =
    ap (λ b. cond b (Some e.1) (find nat_cmp t es)) (ap is_eq (is_greater t e.0 (first_below e es i t w h at))) ∙ found_at t w es i (rest_sorted e es h) at

pub missed : (t : ℕ) (es : SlotList) → ((k : ℕ) (d : Slot) → k < length es → eq_by_cmp nat_cmp t (get_or es k d).0 ≡ false) → find nat_cmp t es ≡ None
missed t [] apart = refl
missed t (e ∷ es) apart = ap (λ b. cond b (Some e.1) (find nat_cmp t es)) (apart 0 e (omega arith)) ∙ missed t es (λ k d l. apart (suc k) d (omega arith))

-- what the map has at the time of a slot
pub slot_got : (es : SlotList) (i t : ℕ) (x : Slot) → is_sorted nat_cmp es ≡ true → IsSlotAt t es i → x ≡ get_or es i x → map.get (from_sorted {R = nat_cmp} es) t ≡ Some x.1
slot_got es i t x h at is =
    get-from_sorted nat_cmp es t (holds_of _ h) ∙ found_at t at.slot es i h at.stands
    ∙ ap (λ (y : Slot). Some y.1) (sym (is ∙ get_or_from_slice_get es i (t, at.slot) x at.stands))

-- and at the time of none
pub gap_got : (es : SlotList) (i t : ℕ) → is_sorted nat_cmp es ≡ true → IsGapFor t es i → map.get (from_sorted {R = nat_cmp} es) t ≡ None
gap_got es i t h at = get-from_sorted nat_cmp es t (holds_of _ h) ∙ missed t es (apart_of_gap t es i at)

pub slot_within : (es : SlotList) (i t : ℕ) → IsSlotAt t es i → i < length es
slot_within es i t at = stands_within t at.slot es i at.stands

-- what holds where there is an answer
pub of_some : {X : Type 0} {P : Type 0} (r : Option X) → IsSome r → OnSome r P → P
of_some None is h = cc
of_some (Some x) is h = h
