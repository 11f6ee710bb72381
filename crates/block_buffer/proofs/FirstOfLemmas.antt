-- The first point of a series, and a point that stands.
use Rattle.std.proofs.Common.{◌≡◌, ℕ, ◌≤◌, ℤ, refl, sym, ap, ◌∙◌, true, false}
use Rattle.std.specs.Prelude.{Option, Some, None, IsSome, IfSome, is_some}
use Rattle.std.specs.FinMap as finite
use Rattle.m3_model.specs.declared.point.Key.{Key}
use Rattle.series_slots.specs.declared.series_key.SeriesKey.{SeriesKey}
use Rattle.series_slots.specs.SeriesKeys.{key_at}
use Rattle.series_slots.specs.Slots.{settled}
use Rattle.series_slots.specs.Points.{slot_in, slot_at, points_of}
use Rattle.series_slots.specs.SeriesEntries.{SeriesEntries, slots_of}
use Rattle.series_slots.specs.Firsts.{HasNoneLater, IsFirstAt}
use Rattle.series_slots.proofs.PointLemmas.{get-points}
use Rattle.block_buffer.specs.FirstOf.{HasNoneFrom, IsFirstOf}
use Rattle.block_buffer.specs.Room.{OnlyRoomIsEmpty}

pub none_of_absent : (es : SeriesEntries) (s : SeriesKey) (low : ℕ) → finite.get (slots_of es) s ≡ None → HasNoneFrom (points_of (slots_of es)) s low
none_of_absent es s low none q le = get-points (slots_of es) (key_at s q) ∙ ap (λ o. settled (slot_in o q)) none

pub none_of_later : (es : SeriesEntries) (s : SeriesKey) (low : ℕ) → HasNoneLater es s low → HasNoneFrom (points_of (slots_of es)) s low
none_of_later es s low none q le = get-points (slots_of es) (key_at s q) ∙ none q le

pub first_of_series : (es : SeriesEntries) (position : ℕ) (s : SeriesKey) (low t : ℕ) (v : ℤ) → IsFirstAt es position s low t v → IsFirstOf (points_of (slots_of es)) s low t v
first_of_series es position s low t v h = record {
  from = h.from;
  stands = get-points (slots_of es) (key_at s t) ∙ h.value;
  first = λ q le lt. get-points (slots_of es) (key_at s q) ∙ h.first q le lt;
}

-- where no slot stands at a key, no point does
pub no_slot : (es : SeriesEntries) (k : Key) → slot_at (slots_of es) k ≡ None → IsSome (finite.get (points_of (slots_of es)) k) → ⊥
no_slot es k none some = by (finite.get (points_of (slots_of es)) k) (get-points (slots_of es) k ∙ ap settled none) some
  where
    by : (o : Option ℤ) → o ≡ None → IsSome o → ⊥
    by None e h = cc
    by (Some v) e h = cc

-- where no slot is without a value, only one at this key may be
pub only_any : (es : SeriesEntries) (key : Key) → OnlyRoomIsEmpty None es → OnlyRoomIsEmpty (Some key) es
only_any es key only k e = absurd (let wrong : None ≡ Some k = only k e in cc)

pub no_series : (es : SeriesEntries) (s : SeriesKey) (t : ℕ) → finite.get (slots_of es) s ≡ None → IsSome (finite.get (points_of (slots_of es)) (key_at s t)) → ⊥
no_series es s t none some = no_slot es (key_at s t) (ap (λ o. slot_in o t) none) some
