-- Values of some kind among the series, and what is noted of their first slots.
use Rattle.std.proofs.Common.{◌≡◌, ℕ, ◌+◌, ◌*◌, ◌-◌, ◌<◌, ◌≤◌, ◌^◌, ℤ, List, [], ◌∷◌, ◌++◌, ap, ap₂, subst, ◌∙◌, sym, inl, inr, true, false, length, arith}
use Rattle.std.specs.Prelude.{min, nat_le, Option, Some, None, is_some, IsSome, slice_get, swap_remove}
use Rattle.std.specs.FinMap as map
use Rattle.std.specs.FinMap.{get-empty}
use Rattle.std.specs.Ordering.{nat_cmp}
use Rattle.std.proofs.lemmas.Bool.{cases_lt}
use Rattle.std.proofs.lemmas.Bool.Decides.{nat_tests}
use Rattle.std.proofs.lemmas.Option.{slice_get_within}
use Rattle.indexmap.specs.IndexMap.{set_value_at}
use Rattle.m3_model.specs.declared.point.Key.{Key}
use Rattle.series_slots.specs.declared.series_key.SeriesKey.{SeriesKey}
use Rattle.series_slots.specs.SeriesKeys.{series_of}
use Rattle.series_slots.specs.Slots.{Slots, is_within}
use Rattle.series_slots.specs.SeriesEntries.{SeriesEntries}
use Rattle.block_buffer.specs.AllSeries.{TimesFit, AreNoted}
use Rattle.block_buffer.specs.Bounds.{bound_at, HasGroup}
use Rattle.block_buffer.specs.Spots.{group_of, IsKeyWithin, IsValueOf, HasNoValueOf, HasNoneAt, IsClear, IsLate}
use Rattle.block_buffer.proofs.PositionLemmas.{eq_or_not, last_or_other, swapped_here, swapped_there, swapped_within}
use Rattle.block_buffer.proofs.EntryLemmas.{some_before, still_some, set_here, set_there, same_entry}
use Rattle.block_buffer.proofs.ContentLemmas.{value_some}
use Rattle.block_buffer.proofs.FirstLemmas.{value_position, none_or_value}
use Rattle.block_buffer.proofs.GroupLemmas.{of_group}
use Rattle.block_buffer.proofs.TreeLemmas.{has_group}

-- ---- times between two

pub within : (low high t : ℕ) → low ≤ t → t ≤ high → is_within low high t ≡ true
within low high t h g = grind (arith, nat_tests)

pub from_within : (low high t : ℕ) → is_within low high t ≡ true → (low ≤ t) × (t ≤ high)
from_within low high t h = (grind (arith, nat_tests), grind (arith, nat_tests))

pub up_to : (high t : ℕ) → nat_le t high ≡ true → is_within 0 high t ≡ true
up_to high t h = grind (arith, nat_tests, h)

pub of_up_to : (high t : ℕ) → is_within 0 high t ≡ true → nat_le t high ≡ true
of_up_to high t h = grind (arith, nat_tests, h)

-- ---- values at positions

pub weaken_value : (es : SeriesEntries) (P Q : Key → Type 0) (position t : ℕ) (v : ℤ) → ((k : Key) → P k → Q k) → IsValueOf es P position t v → IsValueOf es Q position t v
weaken_value es P Q position t v to h = record { series = h.series; stands = h.stands; value = h.value; holds = to _ h.holds }

pub clear_of_none : (es : SeriesEntries) (position : ℕ) (P : Key → Type 0) → HasNoneAt es position P → IsClear es position P
clear_of_none es position P h k w slots entry some e holds = let wrong : None ≡ Some w = sym (h (series_of k) k.t (record { slots = slots; entry = entry }) holds) ∙ e in cc

pub none_of_clear : (es : SeriesEntries) (P : Key → Type 0) → ((position : ℕ) → IsClear es position P) → HasNoValueOf es P
none_of_clear es P h k holds = none_or_value es k (λ w e. let at = value_position es k w e in h at.position k w at.slots at.entry (value_some (map.get at.slots k.t) w at.value) e holds)

-- ---- what is noted

-- all of it is no later than before
pub noted_lower : (b c : List (List ℕ)) (es : SeriesEntries) → ((n g : ℕ) → bound_at c n g ≤ bound_at b n g) → AreNoted b es → AreNoted c es
noted_lower b c es lower h p t e there some =
    let low = lower e.0.ns (group_of p) in
    let was = h p t e there some in
    omega (arith, low, was)

-- a series got other slots
noted_set : (b c : List (List ℕ)) (es : SeriesEntries) (position : ℕ) (s : SeriesKey) (v w : Slots) → slice_get es position ≡ Some (s, v) → ((n g : ℕ) → bound_at c n g ≤ bound_at b n g)
    → ((t : ℕ) → IsSome (map.get w t) → bound_at c s.ns (group_of position) ≤ t) → AreNoted b es → AreNoted c (set_value_at es position w)
noted_set b c es position s v w entry lower holds h p t e there some = elim (eq_or_not p position) as (λ _. bound_at c e.0.ns (group_of p) ≤ t) [
  | inl is ↦
      let same : e ≡ (s, w) = same_entry _ _ (sym there ∙ ap (slice_get (set_value_at es position w)) is ∙ set_here es position s v w entry) in
      subst (λ (q : ℕ). bound_at c e.0.ns (group_of q) ≤ t) (sym is)
      (subst (λ (x : SeriesKey × Slots). bound_at c x.0.ns (group_of position) ≤ t) (sym same) (holds t (subst (λ (x : SeriesKey × Slots). IsSome (map.get x.1 t)) same some)))
  | inr apart ↦
      let low = lower e.0.ns (group_of p) in
      let was = h p t e (sym (set_there es position w p apart) ∙ there) some in
      omega (arith, low, was)
]

pub noted_inserted : (b c : List (List ℕ)) (es : SeriesEntries) (position : ℕ) (s : SeriesKey) (v : Slots) (t : ℕ) (x : Option ℤ) → slice_get es position ≡ Some (s, v) → ((n g : ℕ) → bound_at c n g ≤ bound_at b n g)
    → bound_at c s.ns (group_of position) ≤ t → AreNoted b es → AreNoted c (set_value_at es position (map.insert v t x))
noted_inserted b c es position s v t x entry lower noted h =
    noted_set b c es position s v (map.insert v t x) entry lower (λ q some. elim (some_before v t x q some) as (λ _. bound_at c s.ns (group_of position) ≤ q) [
      | inl is ↦ subst (λ (n : ℕ). bound_at c s.ns (group_of position) ≤ n) (sym is) noted
      | inr before ↦
          let low = lower s.ns (group_of position) in
          let was = h position q (s, v) entry before in
          omega (arith, low, was)
    ]) h

same_notes : (b : List (List ℕ)) (n g : ℕ) → bound_at b n g ≤ bound_at b n g
same_notes b n g = omega arith

-- a slot that is there got a value
pub noted_raised : (b : List (List ℕ)) (es : SeriesEntries) (position : ℕ) (s : SeriesKey) (v : Slots) (t : ℕ) (x : Option ℤ) → slice_get es position ≡ Some (s, v) → IsSome (map.get v t) → AreNoted b es
    → AreNoted b (set_value_at es position (map.insert v t x))
noted_raised b es position s v t x entry stands h = noted_inserted b b es position s v t x entry (same_notes b) (h position t (s, v) entry stands) h

pub noted_removed : (b : List (List ℕ)) (es : SeriesEntries) (position : ℕ) (s : SeriesKey) (v : Slots) (t : ℕ) → slice_get es position ≡ Some (s, v) → AreNoted b es → AreNoted b (set_value_at es position (map.remove v t))
noted_removed b es position s v t entry h = noted_set b b es position s v (map.remove v t) entry (same_notes b) (λ q some. h position q (s, v) entry (still_some v t q some)) h

-- a series left, and the last one took its place
pub noted_left : (b c : List (List ℕ)) (es : SeriesEntries) (position : ℕ) (x : SeriesKey × Slots) → slice_get es position ≡ Some x → ((n g : ℕ) → bound_at c n g ≤ bound_at b n g)
    → ((t g : ℕ) (e : SeriesKey × Slots) → slice_get es (length es - 1) ≡ Some e → IsSome (map.get e.1 t) → group_of position ≤ g → HasGroup b e.0.ns g → bound_at c e.0.ns (group_of position) ≤ t)
    → TimesFit es → AreNoted b es → AreNoted c (swap_remove es position x)
noted_left b c es position x entry lower last fits h p t e there some =
    let below : position < length es = slice_get_within es position x entry in
    let within = swapped_within es position x below p e there in
    elim (eq_or_not p position) as (λ _. bound_at c e.0.ns (group_of p) ≤ t) [
      | inl is ↦
          let was : slice_get es (length es - 1) ≡ Some e = sym (swapped_here es position x below (subst (λ q. q + 1 < length es) is within)) ∙ ap (slice_get (swap_remove es position x)) (sym is) ∙ there in
          let noted = h (length es - 1) t e was some in
          let short = fits (length es - 1) e was t some in
          subst (λ (q : ℕ). bound_at c e.0.ns (group_of q) ≤ t) (sym is) (last t (group_of (length es - 1)) e was some (omega (arith, below)) (has_group b e.0.ns (group_of (length es - 1)) (omega (arith, noted, short))))
      | inr apart ↦
          let low = lower e.0.ns (group_of p) in
          let was = h p t e (sym (swapped_there es position x below p within apart) ∙ there) some in
          omega (arith, low, was)
    ]

-- a series came without slots
pub noted_added : (b : List (List ℕ)) (es : SeriesEntries) (s : SeriesKey) → AreNoted b es → AreNoted b (es ++ (s, map.empty) ∷ [])
noted_added b es s h p t e there some = elim (last_or_other es (s, map.empty) p e there) as (λ _. bound_at b e.0.ns (group_of p) ≤ t) [
  | inl old ↦ h p t e old some
  | inr new ↦ absurd (let wrong : false ≡ true = sym (ap is_some (get-empty {X = Option ℤ} nat_cmp t)) ∙ subst (λ (y : SeriesKey × Slots). IsSome (map.get y.1 t)) (sym new.1) some in cc)
]

-- what is noted of a group was made the first slot there
pub noted_again : (b c : List (List ℕ)) (es : SeriesEntries) (ns group first : ℕ) → ((n g : ℕ) → (n ≡ ns → g ≡ group → ⊥) → bound_at c n g ≡ bound_at b n g) → (HasGroup b ns group → bound_at c ns group ≡ first)
    → ((position t : ℕ) (e : SeriesKey × Slots) → group_of position ≡ group → slice_get es position ≡ Some e → e.0.ns ≡ ns → IsSome (map.get e.1 t) → first ≤ t) → TimesFit es → AreNoted b es → AreNoted c es
noted_again b c es ns group first others set least fits h p t e there some = elim (eq_or_not e.0.ns ns) as (λ _. bound_at c e.0.ns (group_of p) ≤ t) [
  | inl one ↦ elim (eq_or_not (group_of p) group) as (λ _. bound_at c e.0.ns (group_of p) ≤ t) [
    | inl two ↦
        let was = h p t e there some in
        let short = fits p e there t some in
        let old : bound_at b e.0.ns (group_of p) ≡ bound_at b ns group = ap₂ (bound_at b) one two in
        let new : bound_at c e.0.ns (group_of p) ≡ bound_at c ns group = ap₂ (bound_at c) one two in
        let is : bound_at c ns group ≡ first = set (has_group b ns group (omega (arith, was, short, old))) in
        let low = least p t e two there one some in
        omega (arith, new, is, low)
    | inr apart ↦
        let was = h p t e there some in
        let is = others e.0.ns (group_of p) (λ _ two. apart two) in
        omega (arith, was, is)
  ]
  | inr apart ↦
      let was = h p t e there some in
      let is = others e.0.ns (group_of p) (λ one _. apart one) in
      omega (arith, was, is)
]

-- ---- positions that need no look

pub late_of : (b : List (List ℕ)) (es : SeriesEntries) (ns high position : ℕ) → AreNoted b es → high < bound_at b ns (group_of position) → IsLate es ns high position
late_of b es ns high position h above t e there is some =
    let was = h position t e there some in
    let same : bound_at b e.0.ns (group_of position) ≡ bound_at b ns (group_of position) = ap (λ (n : ℕ). bound_at b n (group_of position)) is in
    omega (arith, was, same, above)

pub clear_late : (es : SeriesEntries) (ns low high position : ℕ) → IsLate es ns high position → IsClear es position (IsKeyWithin ns low high)
clear_late es ns low high position late k w slots entry some e holds =
    let above = late k.t (series_of k, slots) entry holds.0 some in
    let upto = (from_within low high k.t holds.1).1 in
    omega (arith, above, upto)

-- where the series at positions before a group are clear, and those from there on late, all are clear
pub clear_all : (es : SeriesEntries) (from next ns low high : ℕ) → ((position : ℕ) → from ≤ group_of position → group_of position < next → IsClear es position (IsKeyWithin ns low high))
    → ((position : ℕ) → next ≤ group_of position → IsLate es ns high position) → (position : ℕ) → from ≤ group_of position → IsClear es position (IsKeyWithin ns low high)
clear_all es from next ns low high clear late position h = elim (cases_lt (group_of position) next) as (λ _. IsClear es position (IsKeyWithin ns low high)) [
  | inl before ↦ clear position h before
  | inr after ↦ clear_late es ns low high position (late position after)
]

-- one group more is clear
pub clear_more : (es : SeriesEntries) (from next group ns low high : ℕ) → ((position : ℕ) → from ≤ group_of position → group_of position < next → IsClear es position (IsKeyWithin ns low high))
    → ((position : ℕ) → next ≤ group_of position → group_of position < group → IsLate es ns high position) → ((position : ℕ) → group_of position ≡ group → IsClear es position (IsKeyWithin ns low high))
    → (position : ℕ) → from ≤ group_of position → group_of position < group + 1 → IsClear es position (IsKeyWithin ns low high)
clear_more es from next group ns low high clear late here position h below = elim (cases_lt (group_of position) next) as (λ _. IsClear es position (IsKeyWithin ns low high)) [
  | inl before ↦ clear position h before
  | inr after ↦ elim (eq_or_not (group_of position) group) as (λ _. IsClear es position (IsKeyWithin ns low high)) [
    | inl is ↦ here position is
    | inr apart ↦ clear_late es ns low high position (late position after (omega (arith, below, apart)))
  ]
]

-- the values of the positions of a group were looked at
pub clear_group : (es : SeriesEntries) (P : Key → Type 0) (first end group : ℕ) → first ≡ min (group * 16) (2 ^ 64 - 1) → end ≡ min (group * 16 + 16) (length es) → length es < 2 ^ 64
    → ((p : ℕ) → first ≤ p → p < end → HasNoneAt es p P) → (position : ℕ) → group_of position ≡ group → IsClear es position P
clear_group es P first end group one two fits none position is k w slots entry some e holds =
    let below : position < length es = slice_get_within es position (series_of k, slots) entry in
    let inside = of_group group first end (length es) position one two fits below is in
    clear_of_none es position P (none position inside.0 inside.1) k w slots entry some e holds
