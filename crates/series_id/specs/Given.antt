-- The first fault of tags that were given; M3DB's page "Series ID and tags".
use Rattle.std.specs.Prelude.{◌≡◌, ℕ, ◌+◌, ◌<◌, ◌≤◌, List, [], ◌∷◌, ◌++◌, length, if◌then◌else◌, false, IsTrue, IsUtf8, ◌⊎◌, Option, Some, MatchOption}
use Rattle.std.specs.List.{prefix_len}
use Rattle.m3_model.specs.Tags.{IsBelow, is_tag_name, tags_text}
use Rattle.m3_model.specs.declared.limits.TheConstants.{MOST_ID_BYTES, MOST_TAGS}
use Rattle.series_id.specs.Names.{is_first_byte, is_later_byte}
use Rattle.series_id.specs.Faults.{listed, last_name, MayFollow}
use Rattle.series_id.specs.declared.id_err.IdErr.{IdErr}
use Rattle.series_id.specs.declared.id_err.IdErr.TheVariants as errors

-- the position of the first byte that no name has there, or the end
abbrev pub wrong_at : List ℕ → ℕ
wrong_at [] = 0
wrong_at (b ∷ bs) = if is_first_byte b then 1 + prefix_len is_later_byte bs else 0

-- a name behind so many tags and `at` bytes, after the name `before`: it is one too many, or no name, or not above that one
abbrev pub IsAddedFault : ℕ → List ℕ → ℕ → List ℕ → IdErr → Type 0
IsAddedFault number before at name errors.Long = number ≡ MOST_TAGS
IsAddedFault number before at name (errors.Name position) = (number < MOST_TAGS) × (is_tag_name name ≡ false) × (position ≡ at + wrong_at name)
IsAddedFault number before at name errors.Order = (number < MOST_TAGS) × IsTrue (is_tag_name name) × IsBelow name before
IsAddedFault number before at name errors.Repeat = (number < MOST_TAGS) × IsTrue (is_tag_name name) × (name ≡ before)
IsAddedFault number before at name _ = ⊥

-- the fault that was found before stays; where there was none, it is that of the name
abbrev pub IsLaterFault : ℕ → List ℕ → ℕ → List ℕ → Option IdErr → Option IdErr → Type 0
IsLaterFault number before at name fault found = MatchOption fault
    (MatchOption found ((number < MOST_TAGS) × IsTrue (is_tag_name name) × IsBelow before name) (IsAddedFault number before at name))
    (λ e. found ≡ Some e)

-- some tags are right, and the next one has the fault
pub record HasFault (tags : List (List ℕ × List ℕ)) (e : IdErr) : Type 0 where
  pub earlier : List (List ℕ × List ℕ)
  pub tag : List ℕ × List ℕ
  pub later : List (List ℕ × List ℕ)
  pub split : tags ≡ earlier ++ tag ∷ later
  pub follow : MayFollow [] earlier
  pub fault : IsAddedFault (length earlier) (last_name [] earlier) (1 + length (listed earlier)) tag.0 e

-- the names have their form, and ascend, and there aren't too many
pub record IsFine (tags : List (List ℕ × List ℕ)) : Type 0 where
  pub follow : MayFollow [] tags
  pub few : length tags ≤ MOST_TAGS

-- what these tags spell, and the first fault of their names, if there is one
pub record SpellsTags (tags : List (List ℕ × List ℕ)) (text : List ℕ) (fault : Option IdErr) : Type 0 where
  pub spelled : 0 < length tags → text ≡ tags_text tags
  pub utf8 : IsUtf8 text
  pub names : MatchOption fault (IsFine tags) (HasFault tags)

-- there are no tags, or what they spell is too long, or the fault is the first one from the left
abbrev pub IsGivenFault : List (List ℕ × List ℕ) → IdErr → Type 0
IsGivenFault tags e = ((tags ≡ []) × (e ≡ errors.Name 1))
    ⊎ (((MOST_ID_BYTES < length (tags_text tags)) × (e ≡ errors.Long))
    ⊎ ((length (tags_text tags) ≤ MOST_ID_BYTES) × HasFault tags e))
