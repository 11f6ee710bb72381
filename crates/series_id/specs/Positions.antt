-- How far a text of tags was read.
use Rattle.std.specs.Prelude.{◌≡◌, ℕ, ◌+◌, ◌<◌, ◌≤◌, List, [], ◌∷◌, ◌++◌, length, Option, MatchOption}
use Rattle.m3_model.specs.Tags.{escaped, tag_text, tags_text, HasTags}
use Rattle.m3_model.specs.Identifiers.{IsIdentifier}
use Rattle.m3_model.specs.declared.limits.TheConstants.{MOST_TAGS}
use Rattle.series_id.specs.Faults.{listed, last_name, MayFollow, GoesOn}
use Rattle.series_id.specs.declared.position.Position.{Position}
use Rattle.series_id.specs.declared.position.Tag.{Tag}

-- these tags of the text stand before the position
pub record StandsBefore (text : List ℕ) (tags : List (List ℕ × List ℕ)) (position : Position) : Type 0 where
  pub goes_on : GoesOn text tags position.rest.now
  pub before : position.before.now ≡ last_name [] tags
  pub at : position.at ≡ 1 + length (listed tags)
  pub number : position.number ≡ length tags

-- the text is spelled by these tags
pub record Closes (text : List ℕ) (tags : List (List ℕ × List ℕ)) : Type 0 where
  pub spelled : text ≡ tags_text tags
  pub follow : MayFollow [] tags
  pub some : 0 < length tags
  pub few : length tags ≤ MOST_TAGS

-- one tag more was read, and it is the last one or a position follows
abbrev pub ReadsTag : List ℕ → List (List ℕ × List ℕ) → Tag → Type 0
ReadsTag text tags read = (tag : List ℕ × List ℕ) × (read.name.now ≡ tag.0) × (read.spelling.now ≡ escaped tag.1)
    × MatchOption read.next (Closes text (tags ++ tag ∷ [])) (StandsBefore text (tags ++ tag ∷ []))
    × ((later : List ℕ) × (text ≡ 123 ∷ listed tags ++ (tag_text tag ++ later)))

-- the tags before the position have P; where no position follows, the text is an identifier, and all its tags have P
abbrev pub IsReading : (List (List ℕ × List ℕ) → Type 0) → List ℕ → Option Position → Type 0
IsReading P text position = MatchOption position
    (IsIdentifier text × ((tags : List (List ℕ × List ℕ)) × HasTags text tags × P tags))
    (λ here. (tags : List (List ℕ × List ℕ)) × StandsBefore text tags here × P tags)
