-- How the index of held points agrees with them.
use Rattle.std.specs.Prelude.{◌≡◌, ℕ, ℤ, List, ◌⊎◌, Option, Some, None, Bool, MatchBool}
use Rattle.std.specs.FinMap as finite
use Rattle.m3_model.specs.Contents.{Contents}
use Rattle.m3_model.specs.Tags.{HasTags}
use Rattle.m3_model.specs.declared.point.Key.{Key}
use Rattle.series_slots.specs.declared.series_key.SeriesKey.{SeriesKey}
use Rattle.tag_index.specs.declared.entry.Entry.{Entry}
use Rattle.tag_index.specs.Listed.{Listed, IsAt, IsPresent}

-- a point of the identifier stands in the content, in whatever namespace
pub record HoldsSeries (c : Contents) (id : List ℕ) : Type 0 where
  pub key : Key
  pub value : ℤ
  pub stands : finite.get c key ≡ Some value
  pub named : key.id ≡ id

-- the index lists exactly the identifiers that have a point, each with its tags
pub record IsIndexed (c : Contents) (index : Listed) : Type 0 where
  pub tagged : (o : ℕ) (e : Entry) → finite.get index o ≡ Some e → HasTags e.id e.tags
  pub held : (o : ℕ) (e : Entry) → finite.get index o ≡ Some e → HoldsSeries c e.id
  pub listed : (key : Key) (value : ℤ) → finite.get c key ≡ Some value → IsPresent index key.id

-- the series was absent, and is now listed with its tags at an ordinal that was free
pub record IsNewlyListed (old new : Listed) (id : List ℕ) : Type 0 where
  pub ordinal : ℕ
  pub tags : List (List ℕ × List ℕ)
  pub tagged : HasTags id tags
  pub free : finite.get old ordinal ≡ None
  pub added : new ≡ finite.insert old ordinal (record { id = id; tags = tags })

-- the series was listed, and nothing changed
pub record WasListed (old new : Listed) (id : List ℕ) : Type 0 where
  pub present : IsPresent old id
  pub unchanged : new ≡ old

-- Where there is no room for a point, the index lists the series that have one. Where there is, it lists the series of that point besides: newly, or
-- since before.
abbrev pub IsIndexedFor : Option Key → Bool → Contents → Listed → Type 0
IsIndexedFor None newly c index = IsIndexed c index
IsIndexedFor (Some key) newly c index = (before : Listed) × IsIndexed c before × MatchBool newly (IsNewlyListed before index key.id) (WasListed before index key.id)

-- no point with the identifier is held, and the index, which had it, has it no more
pub record IsUnlisted (c : Contents) (old new : Listed) (id : List ℕ) : Type 0 where
  pub unheld : HoldsSeries c id → ⊥
  pub removed : (o : ℕ) → IsAt old o id → new ≡ finite.remove old o

-- a point with the identifier is held, and nothing changed
pub record IsStillListed (c : Contents) (old new : Listed) (id : List ℕ) : Type 0 where
  pub held : HoldsSeries c id
  pub unchanged : new ≡ old

-- The index forgot the identifier of the series that went, if no point with it is held.
abbrev pub IsForgotten : Contents → Option SeriesKey → Listed → Listed → Type 0
IsForgotten c None old new = new ≡ old
IsForgotten c (Some series) old new = IsUnlisted c old new series.id ⊎ IsStillListed c old new series.id
