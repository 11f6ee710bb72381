-- What is said of a point that leaves.
use Rattle.std.proofs.Common.{◌≡◌, ℕ, ◌+◌, ◌-◌, ◌^◌, ◌<◌, ◌≤◌, ℤ, [], refl, sym, ap, ◌∙◌, subst, Bool, true, false, cond, arith}
use Rattle.std.specs.Prelude.{Option, Some, None, is_some, IfSome, MatchOption, min, nat_eq, nat_le, nat_lt, ◌&&◌}
use Rattle.std.specs.FinMap as finite
use Rattle.std.proofs.lemmas.Bool.Decides.{nat_tests}
use Rattle.m3_model.specs.declared.point.Key.{Key}
use Rattle.m3_model.specs.declared.point.Point.{Point}
use Rattle.m3_model.specs.declared.rules.Rules.{Rules}
use Rattle.m3_model.specs.Contents.{Contents, key_of}
use Rattle.series_slots.specs.declared.series_key.SeriesKey.{SeriesKey}
use Rattle.series_slots.specs.SeriesKeys.{key_at}
use Rattle.series_slots.specs.Slots.{settled, is_within}
use Rattle.series_slots.specs.Points.{slot_in, slot_at, value_of, points_of}
use Rattle.series_slots.specs.SeriesEntries.{SeriesEntries, IsAt, slots_of}
use Rattle.series_slots.proofs.PointLemmas.{get-points}
use Rattle.block_buffer.specs.Held.{InMemory, without, has_expired, is_in_block}
use Rattle.block_buffer.specs.Room.{OnlyRoomIsEmpty}
use Rattle.block_buffer.specs.AllSeries.{HasNoSlots, HasSlots, IsTakenAt}
use Rattle.block_buffer.specs.Spots.{IsKeyWithin, HasNoValueOf}
use Rattle.block_buffer.specs.Taken.{HasSeries, HasNone, IsTaken, is_settled, settled_at}
use Rattle.block_buffer.specs.declared.taken.Taken.{Taken}
use Rattle.block_buffer.proofs.ContentLemmas.{point_left, only_taken, slot_valued, value_some, without_removed, without_none, len_removed}

-- the value of a content at a key
pub value_in : (es : SeriesEntries) (k : Key) (v : ℤ) → finite.get (points_of (slots_of es)) k ≡ Some v → value_of (slots_of es) k ≡ Some v
value_in es k v e = sym (get-points (slots_of es) k) ∙ e

pub none_stands_of : (es : SeriesEntries) (P : Key → Type 0) → HasNoValueOf es P → HasNone (points_of (slots_of es)) P
none_stands_of es P none k v e p = let wrong : None ≡ Some v = sym (none k p) ∙ value_in es k v e in cc

-- a series without slots has no point
pub no_series : (es : SeriesEntries) (s : SeriesKey) → HasNoSlots es s → HasSeries (points_of (slots_of es)) s → ⊥
no_series es s none h =
    let some = value_some (slot_at (slots_of es) (key_at s h.t)) h.v (value_in es (key_at s h.t) h.v h.stands) in
    let wrong : false ≡ true = sym (ap is_some (none h.t)) ∙ some in
    cc

-- one with slots has a point
pub some_series : (es : SeriesEntries) (position : ℕ) (s : SeriesKey) → OnlyRoomIsEmpty None es → HasSlots es position s → HasSeries (points_of (slots_of es)) s
some_series es position s only h =
    let value = slot_valued es (key_at s h.t) only h.some in
    record { t = h.t; v = value.0; stands = get-points (slots_of es) (key_at s h.t) ∙ value.1 }

gone_or_left : (es : SeriesEntries) (position : ℕ) (s : SeriesKey) (o : Option SeriesKey) → OnlyRoomIsEmpty None es → MatchOption o (HasSlots es position s) (λ gone. (gone ≡ s) × HasNoSlots es s)
    → MatchOption o (HasSeries (points_of (slots_of es)) s) (λ gone. (gone ≡ s) × (HasSeries (points_of (slots_of es)) gone → ⊥))
gone_or_left es position s None only h = some_series es position s only h
gone_or_left es position s (Some gone) only h = (h.0, λ series. no_series es s h.1 (subst (HasSeries (points_of (slots_of es))) h.0 series))

-- a value left
pub taken_at : (old new : SeriesEntries) (P : Key → Type 0) (position t : ℕ) (s : SeriesKey) (x : Taken) → P (key_at s t) → OnlyRoomIsEmpty None new → IsTakenAt old new position s t x → IsTaken (points_of (slots_of old)) (points_of (slots_of new)) P x
taken_at old new P position t s x holds only h = record {
  key = key_at s t;
  holds = holds;
  time = sym h.time;
  stands = get-points (slots_of old) (key_at s t) ∙ h.value;
  left = point_left old new (key_at s t) h.set;
  gone = gone_or_left new position s x.gone only h.left;
}

-- ---- ranges and blocks

pub block_of_range : (ns start size : ℕ) (k : Key) → 0 < size → IsKeyWithin ns start (start + (size - 1)) k → is_in_block ns start size k ≡ true
block_of_range ns start size k some h = by k.ns k.t h.0 h.1
  where
    by : (n t : ℕ) → n ≡ ns → is_within start (start + (size - 1)) t ≡ true → (nat_eq ns n && (nat_le start t && nat_lt t (start + size))) ≡ true
    by n t e g = grind (arith, nat_tests)

pub range_of_block : (ns start size : ℕ) (k : Key) → 0 < size → is_in_block ns start size k ≡ true → IsKeyWithin ns start (start + (size - 1)) k
range_of_block ns start size k some h = by k.ns k.t h
  where
    by : (n t : ℕ) → (nat_eq ns n && (nat_le start t && nat_lt t (start + size))) ≡ true → (n ≡ ns) × (is_within start (start + (size - 1)) t ≡ true)
    by n t e = (grind (arith, nat_tests), grind (arith, nat_tests))

pub none_in_block : (ns start : ℕ) (k : Key) → is_in_block ns start 0 k ≡ true → ⊥
none_in_block ns start k h = by k.ns k.t h
  where
    by : (n t : ℕ) → (nat_eq ns n && (nat_le start t && nat_lt t (start + 0))) ≡ true → ⊥
    by n t e = grind (arith, nat_tests)

-- ---- how many left

pub counted_none : (n : ℕ) → 0 ≡ min (n - n) (2 ^ 64 - 1)
counted_none n = omega arith

pub counted_more : (count old before after : ℕ) → after + 1 ≡ before → before ≤ old → count ≡ min (old - before) (2 ^ 64 - 1) → min (count + 1) (2 ^ 64 - 1) ≡ min (old - after) (2 ^ 64 - 1)
counted_more count old before after one low is = omega (arith, one, low, is)

pub counted_still : (count old before after : ℕ) → after ≡ before → count ≡ min (old - before) (2 ^ 64 - 1) → count ≡ min (old - after) (2 ^ 64 - 1)
counted_still count old before after same is = omega (arith, same, is)

-- ---- contents that points leave

-- what is said of a buffer by its parts
pub held_of : (h : InMemory) (c : Contents) → h.points ≡ c → h.room ≡ None → h ≡ record { points = c; room = None }
held_of h c points room = λ i. record { points = points i; room = room i }

pub weaken_taken : (old new : Contents) (P Q : Key → Type 0) (x : Taken) → ((k : Key) → P k → Q k) → IsTaken old new P x → IsTaken old new Q x
weaken_taken old new P Q x to h = record { key = h.key; holds = to h.key h.holds; time = h.time; stands = h.stands; left = h.left; gone = h.gone }

-- one of the points that pass a test left
pub kept_taken : (old new first : Contents) (test : Key → Bool) (x : Taken) → IsTaken old new (λ k. test k ≡ true) x → without old test ≡ without first test → without new test ≡ without first test
kept_taken old new first test x h kept = ap (λ (c : Contents). without c test) h.left ∙ without_removed old h.key test h.holds ∙ kept

-- none of them is left
pub none_kept : (old new first : Contents) (test : Key → Bool) → new ≡ old → HasNone old (λ k. test k ≡ true) → without old test ≡ without first test → new ≡ without first test
none_kept old new first test same none kept = same ∙ without_none old test none ∙ kept

pub one_fewer : (old new : Contents) (P : Key → Type 0) (x : Taken) → IsTaken old new P x → finite.len new + 1 ≡ finite.len old
one_fewer old new P x h = ap (λ (c : Contents). finite.len c + 1) h.left ∙ len_removed old h.key x.v h.stands

pub fewer_points : (old new : Contents) (P : Key → Type 0) (x : Taken) → IsTaken old new P x → finite.len new < finite.len old
fewer_points old new P x h = let one = one_fewer old new P x h in omega (arith, one)

-- ---- expiry

pub expired_in_range : (rules : Rules) (ns last : ℕ) → ((t : ℕ) → has_expired rules (record { ns = ns; id = []; t = t }) ≡ nat_le t last) → (k : Key) → k.ns ≡ ns → has_expired rules k ≡ nat_le k.t last
expired_in_range rules ns last h k is = ap (λ (n : ℕ). has_expired rules (record { ns = n; id = k.id; t = k.t })) is ∙ h k.t

pub in_range_of : (last t : ℕ) → nat_le t last ≡ true → is_within 0 last t ≡ true
in_range_of last t h = grind (arith, nat_tests)

pub of_in_range : (last t : ℕ) → is_within 0 last t ≡ true → nat_le t last ≡ true
of_in_range last t h = grind (arith, nat_tests)

-- ---- settled

pub settled_taken : (old new : Contents) (p : Point) (x : Taken) → is_settled (Some x.v) p.v ≡ true → IsTaken old new (λ k. k ≡ key_of p) x → new ≡ settled_at old p
settled_taken old new p x low h =
    let stands : finite.get old (key_of p) ≡ Some x.v = ap (finite.get old) (sym h.holds) ∙ h.stands in
    h.left ∙ ap (finite.remove old) h.holds ∙ sym (ap (λ b. cond b (finite.remove old (key_of p)) old) (ap (λ o. is_settled o p.v) stands ∙ low))

pub settled_none : (old : Contents) (p : Point) → is_settled (finite.get old (key_of p)) p.v ≡ false → old ≡ settled_at old p
settled_none old p high = sym (ap (λ b. cond b (finite.remove old (key_of p)) old) high)

pub if_some_to : {X : Type 0} (o : Option X) (P Q : X → Type 0) → ((x : X) → P x → Q x) → IfSome o P → IfSome o Q
if_some_to None P Q to h = tt
if_some_to (Some x) P Q to h = to x h

-- what a series' value at a time becomes
pub settled_all : (old new : SeriesEntries) (position t : ℕ) (v : ℤ) (s : SeriesKey) (o : Option Taken) → IsAt old position s → OnlyRoomIsEmpty None old → (o ≡ None → new ≡ old)
    → (o ≡ None → (r : SeriesKey) → IsAt old position r → is_settled (value_of (slots_of old) (key_at r t)) v ≡ false)
    → IfSome o (λ x. (r : SeriesKey) → IsAt old position r → (is_settled (Some x.v) v ≡ true) × IsTakenAt old new position r t x) → points_of (slots_of new) ≡ settled_at (points_of (slots_of old)) (record { ns = s.ns; id = s.id; t = t; v = v })
settled_all old new position t v s None at only same none h =
    ap (λ (es : SeriesEntries). points_of (slots_of es)) (same refl)
    ∙ settled_none (points_of (slots_of old)) (record { ns = s.ns; id = s.id; t = t; v = v }) (ap (λ (o : Option ℤ). is_settled o v) (get-points (slots_of old) (key_at s t)) ∙ none refl s at)
settled_all old new position t v s (Some x) at only same none h =
    let one = h s at in
    settled_taken (points_of (slots_of old)) (points_of (slots_of new)) (record { ns = s.ns; id = s.id; t = t; v = v }) x one.0
    (taken_at old new (λ k. k ≡ key_at s t) position t s x refl (only_taken old new (key_at s t) only one.1.set) one.1)

pub settled_one : (old new : SeriesEntries) (position t : ℕ) (v : ℤ) (s : SeriesKey) (o : Option Taken) → IsAt old position s → OnlyRoomIsEmpty None old
    → IfSome o (λ x. (r : SeriesKey) → IsAt old position r → (is_settled (Some x.v) v ≡ true) × IsTakenAt old new position r t x)
    → IfSome o (IsTaken (points_of (slots_of old)) (points_of (slots_of new)) (λ k. k ≡ key_at s t))
settled_one old new position t v s None at only h = tt
settled_one old new position t v s (Some x) at only h = let one = h s at in taken_at old new (λ k. k ≡ key_at s t) position t s x refl (only_taken old new (key_at s t) only one.1.set) one.1

pub only_settled : (old new : SeriesEntries) (position t : ℕ) (v : ℤ) (s : SeriesKey) (o : Option Taken) → IsAt old position s → OnlyRoomIsEmpty None old → (o ≡ None → new ≡ old)
    → IfSome o (λ x. (r : SeriesKey) → IsAt old position r → (is_settled (Some x.v) v ≡ true) × IsTakenAt old new position r t x) → OnlyRoomIsEmpty None new
only_settled old new position t v s None at only same h = subst (OnlyRoomIsEmpty None) (sym (same refl)) only
only_settled old new position t v s (Some x) at only same h = only_taken old new (key_at s t) only (h s at).1.set

-- a series that isn't there has no value to settle
pub settled_absent : (es : SeriesEntries) (t : ℕ) (v : ℤ) (s : SeriesKey) → finite.get (slots_of es) s ≡ None → points_of (slots_of es) ≡ settled_at (points_of (slots_of es)) (record { ns = s.ns; id = s.id; t = t; v = v })
settled_absent es t v s none =
    settled_none (points_of (slots_of es)) (record { ns = s.ns; id = s.id; t = t; v = v })
    (ap (λ (o : Option ℤ). is_settled o v) (get-points (slots_of es) (key_at s t)) ∙ ap (λ o. is_settled (settled (slot_in o t)) v) none)

pub taken_from : (old same new : Contents) (P : Key → Type 0) (x : Taken) → old ≡ same → IsTaken old new P x → IsTaken same new P x
taken_from old same new P x is h = subst (λ (m : Contents). IsTaken m new P x) is h
