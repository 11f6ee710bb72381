-- The blocks that have points.
use Rattle.std.proofs.Common.{◌≡◌, ℕ, ◌+◌, ◌-◌, ◌*◌, ◌/◌, ◌%◌, ◌^◌, ◌<◌, ◌≤◌, ℤ, List, [], ◌∷◌, refl, sym, ap, ◌∙◌, subst, inl, inr, Bool, true, false, cond, ◌||◌, length, arith}
use Rattle.std.specs.Prelude.{◌⊎◌, min, Some, None, nat_lt}
use Rattle.std.specs.List.{list_any, AllByRecursion}
use Rattle.std.specs.List.Sorted.{IsStrictlySortedBy}
use Rattle.std.specs.FinMap.{nat_cmp-IsAntisymmetric}
use Rattle.std.specs.Cmp.{IsTotalOrder, tied_itself}
use Rattle.std.specs.Ordering.{nat_cmp, ordering_then, is_eq}
use Rattle.std.specs.BTreeMap.{is_at}
use Rattle.std.specs.declared.cmp.Ordering.{Ordering}
use Rattle.std.specs.declared.cmp.Ordering.TheVariants.{Less, Equal, Greater}
use Rattle.std.proofs.lemmas.Cmp.{ranked, then_total, on_total, nat_cmp_total}
use Rattle.std.proofs.lemmas.Bool.{ltb-true}
use Rattle.std.proofs.lemmas.Bool.Decides.{nat_tests}
use Rattle.std.proofs.lemmas.Nat.{div-add-mod', div_below, le-div}
use Rattle.m3_model.specs.declared.point.Key.{Key}
use Rattle.m3_model.specs.declared.rules.Rules.{Rules}
use Rattle.m3_model.specs.Members.{IsIn}
use Rattle.m3_model.specs.Ascends.{Ascends}
use Rattle.m3_model.specs.Contents.{key_of, point_at}
use Rattle.m3_model.proofs.Keyed.{equal_of}
use Rattle.series_slots.specs.SeriesKeys.{key_at, series_of}
use Rattle.series_slots.specs.Points.{value_of, points_of}
use Rattle.series_slots.specs.SeriesEntries.{SeriesEntries, IsAt, slots_of}
use Rattle.series_slots.proofs.PointLemmas.{get-points}
use Rattle.block_buffer.specs.Blocks.{block_start, block_of, IsBefore, IsBlocksOf, block_cmp, HasStartsAt, IsStartOf, IsBlockOf, IsClosedBlocksOf, IsClosedBlockOf, has_closed}
use Rattle.std.specs.FinMap as map
use Rattle.std.proofs.lemmas.Option.{slice_get_within}
use Rattle.series_slots.specs.declared.series_key.SeriesKey.{SeriesKey}
use Rattle.series_slots.specs.Firsts.{IsFirstAt}
use Rattle.block_buffer.specs.Spots.{group_of, IsKeyWithin, IsValueOf, HasNoneAt, IsLate}
use Rattle.block_buffer.proofs.ContentLemmas.{value_some}
use Rattle.block_buffer.proofs.FirstLemmas.{value_position}
use Rattle.block_buffer.proofs.GroupLemmas.{of_group}
use Rattle.block_buffer.proofs.SpotLemmas.{within, from_within}

pub any-IsIn : {X : Type 0} (p : X → Bool) (xs : List X) → list_any p xs ≡ true → (x : X) × IsIn xs x × (p x ≡ true)
any-IsIn p [] e = cc
any-IsIn p (x ∷ xs) e = by_test (p x) refl (any-IsIn p xs) e
  where
    by_test : (b : Bool) → p x ≡ b → (list_any p xs ≡ true → (y : _) × IsIn xs y × (p y ≡ true)) → (b || list_any p xs) ≡ true → (y : _) × IsIn (x ∷ xs) y × (p y ≡ true)
    by_test true t later h = (x, inl refl, t)
    by_test false t later h = let found = later h in (found.0, inr found.1, found.2)

or_true : (b : Bool) → (b || true) ≡ true
or_true true = refl
or_true false = refl

pub IsIn-any : {X : Type 0} (p : X → Bool) (xs : List X) (x : X) → IsIn xs x → p x ≡ true → list_any p xs ≡ true
IsIn-any p [] x h e = absurd h
IsIn-any p (y ∷ xs) x h e =
    elim h as (λ _. (p y || list_any p xs) ≡ true) [
      | inl same ↦ ap (λ b. b || list_any p xs) (ap p same ∙ e)
      | inr rest ↦ ap (λ b. p y || b) (IsIn-any p xs x rest e) ∙ or_true (p y)
    ]

pub block_cmp_total : IsTotalOrder block_cmp
block_cmp_total = then_total (on_total (λ (a : ℕ × ℕ). a.0) nat_cmp_total) (on_total (λ (a : ℕ × ℕ). a.1) nat_cmp_total)

both_equal : (a b : Ordering) → ordering_then a b ≡ Equal → (a ≡ Equal) × (b ≡ Equal)
both_equal Less b e = cc
both_equal Equal b e = (refl, e)
both_equal Greater b e = cc

pub same_block : (a b : ℕ × ℕ) → is_eq (block_cmp a b) ≡ true → a ≡ b
same_block a b e =
    let parts = both_equal (nat_cmp a.0 b.0) (nat_cmp a.1 b.1) (equal_of _ e) in
    λ i. (nat_cmp-IsAntisymmetric a.0 b.0 parts.0 i, nat_cmp-IsAntisymmetric a.1 b.1 parts.1 i)

pub before_of : (a b : ℕ × ℕ) → block_cmp a b ≡ Less → IsBefore a b
before_of a b e = by_order (nat_cmp a.0 b.0) refl e
  where
    by_order : (o : Ordering) → nat_cmp a.0 b.0 ≡ o → ordering_then o (nat_cmp a.1 b.1) ≡ Less → IsBefore a b
    by_order Less t h = inl (ranked a.0 b.0 Less (sym t))
    by_order Equal t h = inr (nat_cmp-IsAntisymmetric a.0 b.0 t, ranked a.1 b.1 Less (sym h))
    by_order Greater t h = cc

pub each_in : {X : Type 0} (P : X → Type 0) (xs : List X) → AllByRecursion P xs → (x : X) → IsIn xs x → P x
each_in P [] h x m = absurd m
each_in P (y ∷ xs) h x m = elim m as (λ _. P x) [ inl e ↦ subst P e h.0 | inr r ↦ each_in P xs h.1 x r ]

keys_ascend : (ks : List (ℕ × ℕ)) → IsStrictlySortedBy block_cmp ks → Ascends IsBefore ks
unfolding IsStrictlySortedBy
keys_ascend [] h = tt
keys_ascend (k ∷ ks) h = ((λ y m. before_of k y (each_in _ ks h.0 y m)), keys_ascend ks h.1)

-- the keys of a set that has exactly the blocks of the values
pub blocks_of : (rules : Rules) (es : SeriesEntries) (ks : List (ℕ × ℕ)) → IsStrictlySortedBy block_cmp ks
    → ((q : ℕ × ℕ) → list_any (is_at (block_cmp q)) ks ≡ true → IsBlockOf rules es q)
    → ((k : Key) (v : ℤ) (q : ℕ × ℕ) → value_of (slots_of es) k ≡ Some v → block_of rules k ≡ Some q → list_any (is_at (block_cmp q)) ks ≡ true) → IsBlocksOf rules (points_of (slots_of es)) ks
blocks_of rules es ks sorted held whole = record {
  ascend = keys_ascend ks sorted;
  held = λ block m.
      let at = held block (IsIn-any (is_at (block_cmp block)) ks block m (ap is_eq (tied_itself block_cmp_total block))) in
      (point_at at.key at.value, get-points (slots_of es) at.key ∙ at.stands, at.is);
  whole = λ block p stands is.
      let found = any-IsIn (is_at (block_cmp block)) ks (whole (key_of p) p.v block (sym (get-points (slots_of es) (key_of p)) ∙ stands) is) in
      subst (IsIn ks) (sym (same_block block found.0 found.2)) found.1;
}

-- the same, of those of which no write is taken any more
pub closed_blocks_of : (rules : Rules) (es : SeriesEntries) (ks : List (ℕ × ℕ)) → IsStrictlySortedBy block_cmp ks
    → ((q : ℕ × ℕ) → list_any (is_at (block_cmp q)) ks ≡ true → IsClosedBlockOf rules es q)
    → ((k : Key) (v : ℤ) (q : ℕ × ℕ) → value_of (slots_of es) k ≡ Some v → block_of rules k ≡ Some q → has_closed rules q ≡ true → list_any (is_at (block_cmp q)) ks ≡ true) → IsClosedBlocksOf rules (points_of (slots_of es)) ks
closed_blocks_of rules es ks sorted held whole = record {
  ascend = keys_ascend ks sorted;
  held = λ block m.
      let at = held block (IsIn-any (is_at (block_cmp block)) ks block m (ap is_eq (tied_itself block_cmp_total block))) in
      (point_at at.block.key at.block.value, get-points (slots_of es) at.block.key ∙ at.block.stands, at.block.is, at.closed);
  whole = λ block p stands is closed.
      let found = any-IsIn (is_at (block_cmp block)) ks (whole (key_of p) p.v block (sym (get-points (slots_of es) (key_of p)) ∙ stands) is closed) in
      subst (IsIn ks) (sym (same_block block found.0 found.2)) found.1;
}

-- a time is before another, or not
pub before_or_from : (a b : ℕ) → (a < b) ⊎ (b ≤ a)
before_or_from a b = by (nat_lt a b) refl
  where
    from : nat_lt a b ≡ false → b ≤ a
    from e = grind (arith, nat_tests)

    by : (t : Bool) → nat_lt a b ≡ t → (a < b) ⊎ (b ≤ a)
    by true e = inl (ltb-true a b e)
    by false e = inr (from e)

-- two times in one block have its start
pub same_start : (size t u : ℕ) → 0 < size → t ≤ u → u < size * (t / size) + size → block_start size u ≡ block_start size t
same_start size t u some low high =
    let m : ℕ = t / size in
    let below : u < (m + 1) * size = grind (arith, high) in
    let under : u / size < m + 1 = div_below u size (m + 1) some below in
    let over : m ≤ u / size = le-div m u size some (le_trans (m * size) t u (start_below size t some) low) in
    let same : u / size ≡ m = omega (arith, under, over) in
    ap (λ n. size * n) same
  where
    le_trans : (a b c : ℕ) → a ≤ b → b ≤ c → a ≤ c
    le_trans a b c h g = omega (arith, h, g)

    start_below : (size t : ℕ) → 0 < size → (t / size) * size ≤ t
    start_below size t some = let e : t / size * size + t % size ≡ t = div-add-mod' t size in omega (arith, e)

-- ---- the blocks of one series, one after the other

on_or_off : (b c : Bool) → c ≡ true → cond b true c ≡ true
on_or_off true c e = refl
on_or_off false c e = e

-- the blocks of the values of the series at the position before a time were added
pub record AreAdded (es : SeriesEntries) (ns size last position low : ℕ) (before has : ℕ × ℕ → Bool) : Type 0 where
  pub kept : (q : ℕ × ℕ) → before q ≡ true → has q ≡ true
  pub held : (q : ℕ × ℕ) → has q ≡ true → (before q ≡ true) ⊎ IsStartOf es ns size last q
  pub done : (s : SeriesKey) (t : ℕ) (v : ℤ) → IsAt es position s → s.ns ≡ ns → t ≤ last → t < low → value_of (slots_of es) (key_at s t) ≡ Some v → has (ns, block_start size t) ≡ true

pub none_added : (es : SeriesEntries) (ns size last position : ℕ) (has : ℕ × ℕ → Bool) → AreAdded es ns size last position 0 has has
none_added es ns size last position has = record { kept = λ q h. h; held = λ q h. inl h; done = λ s t v at is upto low e. absurd (omega (arith, low)) }

-- the block of the first value from there on was added
module _ (es : SeriesEntries) (ns size last position low there t : ℕ) (v : ℤ) (before has after : ℕ × ℕ → Bool) (some : 0 < size) (h : AreAdded es ns size last position low before has)
    (found : IsValueOf es (IsKeyWithin ns low last) there t v) (first : (s : SeriesKey) → IsAt es position s → (s.ns ≡ ns) × IsFirstAt es position s low t v)
    (is : (q : ℕ × ℕ) → after q ≡ cond (is_at (block_cmp (ns, block_start size t)) q) true (has q)) where
  abbrev here : ℕ × ℕ → Bool
  here = is_at (block_cmp (ns, block_start size t))

  by : (q : ℕ × ℕ) (b : Bool) → here q ≡ b → cond b true (has q) ≡ true → (before q ≡ true) ⊎ IsStartOf es ns size last q
  by q true e g =
      inr (record {
        key = key_at found.series t;
        value = v;
        stands = found.value;
        space = found.holds.0;
        early = (from_within low last t found.holds.1).1;
        is = sym (same_block (ns, block_start size t) q e);
      })
  by q false e g = h.held q g

  its_own : after (ns, block_start size t) ≡ true
  its_own = is (ns, block_start size t) ∙ ap (λ b. cond b true (has (ns, block_start size t))) (ap is_eq (tied_itself block_cmp_total (ns, block_start size t)))

  by_time : (s : SeriesKey) (u : ℕ) (w : ℤ) → IsAt es position s → s.ns ≡ ns → u ≤ last → u < block_start size t + size → value_of (slots_of es) (key_at s u) ≡ Some w → (u < low) ⊎ (low ≤ u) → after (ns, block_start size u) ≡ true
  by_time s u w at one upto high e (inl early) = is (ns, block_start size u) ∙ on_or_off (here (ns, block_start size u)) (has (ns, block_start size u)) (h.done s u w at one upto early e)
  by_time s u w at one upto high e (inr late) = later (before_or_from u t)
    where
      later : (u < t) ⊎ (t ≤ u) → after (ns, block_start size u) ≡ true
      later (inl early) = absurd (let wrong : None ≡ Some w = sym ((first s at).1.first u late early) ∙ e in cc)
      later (inr after_it) = ap (λ (b : ℕ). after (ns, b)) (same_start size t u some after_it high) ∙ its_own

  pub more_added : AreAdded es ns size last position (block_start size t + size) before after
  more_added = record {
    kept = λ q e. is q ∙ on_or_off (here q) (has q) (h.kept q e);
    held = λ q e. by q (here q) refl (sym (is q) ∙ e);
    done = λ s u w at one upto high e. by_time s u w at one upto high e (before_or_from u low);
  }

-- where none is left, all were added
pub whole_added : (es : SeriesEntries) (ns size last position low : ℕ) (before has : ℕ × ℕ → Bool) → AreAdded es ns size last position low before has → HasNoneAt es position (IsKeyWithin ns low last)
    → HasStartsAt es ns size last has position
whole_added es ns size last position low before has h none k v slots entry stands e is upto = elim (before_or_from k.t low) as (λ _. has (ns, block_start size k.t) ≡ true) [
  | inl early ↦ h.done (series_of k) k.t v (record { slots = slots; entry = entry }) is upto early e
  | inr late ↦ absurd (let wrong : None ≡ Some v = sym (none (series_of k) k.t (record { slots = slots; entry = entry }) (is, within low last k.t late upto)) ∙ e in cc)
]

-- and where the last time is past
pub past_added : (es : SeriesEntries) (ns size last position low : ℕ) (before has : ℕ × ℕ → Bool) → AreAdded es ns size last position low before has → last < low → HasStartsAt es ns size last has position
past_added es ns size last position low before has h past k v slots entry stands e is upto = h.done (series_of k) k.t v (record { slots = slots; entry = entry }) is upto (omega (arith, past, upto)) e

-- ---- the blocks of the series of groups

-- more starts have those that were there
pub still_starts : (es : SeriesEntries) (ns size last position : ℕ) (has more : ℕ × ℕ → Bool) → ((q : ℕ × ℕ) → has q ≡ true → more q ≡ true) → HasStartsAt es ns size last has position → HasStartsAt es ns size last more position
still_starts es ns size last position has more kept h k v slots entry stands e is upto = kept (ns, block_start size k.t) (h k v slots entry stands e is upto)

-- a series whose slots are all later has none
pub late_starts : (es : SeriesEntries) (ns size last position : ℕ) (has : ℕ × ℕ → Bool) → IsLate es ns last position → HasStartsAt es ns size last has position
late_starts es ns size last position has late k v slots entry stands e is upto = let above = late k.t (series_of k, slots) entry is stands in absurd (omega (arith, above, upto))

-- those of the positions of a group were looked at
pub group_starts : (es : SeriesEntries) (ns size last : ℕ) (has : ℕ × ℕ → Bool) (first end group : ℕ) → first ≡ min (group * 16) (2 ^ 64 - 1) → end ≡ min (group * 16 + 16) (length es) → length es < 2 ^ 64
    → ((p : ℕ) → first ≤ p → p < end → HasStartsAt es ns size last has p) → (position : ℕ) → group_of position ≡ group → HasStartsAt es ns size last has position
group_starts es ns size last has first end group one two fits done position is k v slots entry stands e =
    let below : position < length es = slice_get_within es position (series_of k, slots) entry in
    let inside = of_group group first end (length es) position one two fits below is in
    done position inside.0 inside.1 k v slots entry stands e

-- where those of all positions are there, those of all values are
pub all_starts : (es : SeriesEntries) (ns size last : ℕ) (has : ℕ × ℕ → Bool) → ((position : ℕ) → HasStartsAt es ns size last has position)
    → (k : Key) (v : ℤ) → value_of (slots_of es) k ≡ Some v → k.ns ≡ ns → k.t ≤ last → has (ns, block_start size k.t) ≡ true
all_starts es ns size last has h k v e is upto =
    let at = value_position es k v e in
    h at.position k v at.slots at.entry (value_some (map.get at.slots k.t) v at.value) e is upto
