-- The first fault of a text, from the left; M3DB's page "Series ID and tags".
use Rattle.std.specs.Prelude.{◌≡◌, ◌≢◌, ℕ, ◌+◌, ◌<◌, ◌≤◌, List, [], ◌∷◌, ◌++◌, length, Bool, true, ◌||◌, ◌==◌, not, codes, IsTrue, ⊤, ◌⊎◌}
use Rattle.m3_model.specs.Tags.{IsBelow, is_tag_name, escaped, tag_text}
use Rattle.m3_model.specs.declared.limits.TheConstants.{MOST_ID_BYTES, MOST_TAGS}
use Rattle.series_id.specs.Names.{begins_no_name, BeginsWithName, BeginsAbove}
use Rattle.series_id.specs.declared.id_err.IdErr.{IdErr}
use Rattle.series_id.specs.declared.id_err.IdErr.TheVariants as errors

-- where a name has to begin none does, or it isn't above the one before it; `at` bytes stand before the name
abbrev pub IsNameFault : List ℕ → ℕ → List ℕ → IdErr → Type 0
IsNameFault before at text (errors.Name position) = (position ≡ at) × IsTrue (begins_no_name text)
IsNameFault before at text errors.Order = (name : List ℕ) × (later : List ℕ) × BeginsWithName text name later × IsBelow name before
IsNameFault before at text errors.Repeat = (later : List ℕ) × BeginsWithName text before later
IsNameFault before at text _ = ⊥

-- neither `"` nor `\` stands here
abbrev pub escapes_nothing : List ℕ → Bool
escapes_nothing [] = true
escapes_nothing (b ∷ bs) = not (b == 34 || b == 92)

-- the text begins with a spelled value of n bytes, and then `"`
abbrev pub IsClosedAt : List ℕ → ℕ → Type 0
IsClosedAt text n = (value : List ℕ) × (later : List ℕ) × (text ≡ escaped value ++ 34 ∷ later) × (n ≡ length (escaped value))

-- no `"` ends the value, or `\` escapes nothing; `at` bytes stand before the value
abbrev pub IsSpellingFault : ℕ → List ℕ → IdErr → Type 0
IsSpellingFault at text errors.Brace = (value : List ℕ) × (text ≡ escaped value)
IsSpellingFault at text (errors.Escape position) = (value : List ℕ) × (later : List ℕ)
    × (text ≡ escaped value ++ 92 ∷ later) × IsTrue (escapes_nothing later) × (position ≡ at + length (escaped value))
IsSpellingFault at text _ = ⊥

-- the text begins with `="`, a value in this spelling, and `"`
abbrev pub BeginsQuoted : List ℕ → List ℕ → List ℕ → Type 0
BeginsQuoted text spelling later = (value : List ℕ) × (spelling ≡ escaped value) × (text ≡ codes "=\"" ++ spelling ++ 34 ∷ later)

-- no `="` follows a name, or what follows it is no value; `at` bytes stand before the `="`
abbrev pub IsValueFault : ℕ → List ℕ → IdErr → Type 0
IsValueFault at text e = ((e ≡ errors.Brace) × ((later : List ℕ) → text ≢ codes "=\"" ++ later))
    ⊎ ((spelling : List ℕ) × (text ≡ codes "=\"" ++ spelling) × IsSpellingFault (at + 2) spelling e)

-- a fault of the tag that has to stand here, after one with the name `before`
abbrev pub IsTagFault : List ℕ → ℕ → List ℕ → IdErr → Type 0
IsTagFault before at text e = IsNameFault before at text e
    ⊎ ((name : List ℕ) × (later : List ℕ) × BeginsAbove before text name later × IsValueFault (at + length name) later e)

-- the text begins with a whole tag whose name is above the one before it
pub record BeginsWithTag (before text : List ℕ) (tag : List ℕ × List ℕ) (later : List ℕ) : Type 0 where
  pub split : text ≡ tag_text tag ++ later
  pub named : IsTrue (is_tag_name tag.0)
  pub above : IsBelow before tag.0

-- the text begins with a whole tag of this name, whose value has this spelling
abbrev pub BeginsSpelled : List ℕ → List ℕ → List ℕ → List ℕ → List ℕ → Type 0
BeginsSpelled before text name spelling later = (value : List ℕ) × (spelling ≡ escaped value) × BeginsWithTag before text (name, value) later

-- a `,` follows the 32nd tag, or neither a `,` nor the last `}` follows a tag
abbrev pub IsEndFault : ℕ → List ℕ → IdErr → Type 0
IsEndFault number text errors.Long = (number ≡ MOST_TAGS) × ((later : List ℕ) × (text ≡ 44 ∷ later))
IsEndFault number text errors.Brace = ((later : List ℕ) → text ≢ 44 ∷ later) × (text ≢ 125 ∷ [])
IsEndFault number text _ = ⊥

-- tags as they are spelled, each with the `,` after it
abbrev pub listed : List (List ℕ × List ℕ) → List ℕ
listed [] = []
listed (tag ∷ tags) = tag_text tag ++ 44 ∷ listed tags

-- the name that stands before what follows these tags; none, the empty one, stands before the first tag
abbrev pub last_name : List ℕ → List (List ℕ × List ℕ) → List ℕ
last_name before [] = before
last_name before (tag ∷ tags) = last_name tag.0 tags

-- tags that may follow this name: their names have the form, and ascend from it
abbrev pub MayFollow : List ℕ → List (List ℕ × List ℕ) → Type 0
MayFollow before [] = ⊤
MayFollow before (tag ∷ tags) = IsTrue (is_tag_name tag.0) × IsBelow before tag.0 × MayFollow tag.0 tags

-- after `{` the text has these tags, fewer than 32, and then this
pub record GoesOn (text : List ℕ) (tags : List (List ℕ × List ℕ)) (rest : List ℕ) : Type 0 where
  pub begins : text ≡ 123 ∷ listed tags ++ rest
  pub follow : MayFollow [] tags
  pub few : length tags < MOST_TAGS

-- the first fault behind some tags: in the next tag, or after it
pub record FaultsAfter (text : List ℕ) (tags : List (List ℕ × List ℕ)) (rest : List ℕ) (e : IdErr) : Type 0 where
  pub goes_on : GoesOn text tags rest
  pub faults : IsTagFault (last_name [] tags) (1 + length (listed tags)) rest e
      ⊎ ((tag : List ℕ × List ℕ) × (later : List ℕ) × BeginsWithTag (last_name [] tags) rest tag later × IsEndFault (length tags + 1) later e)

-- the first fault of a text: it is empty, or too long, or the first one from the left
abbrev pub IsFirstFault : List ℕ → IdErr → Type 0
IsFirstFault text e = ((text ≡ []) × (e ≡ errors.Empty))
    ⊎ (((MOST_ID_BYTES < length text) × (e ≡ errors.Long))
    ⊎ ((length text ≤ MOST_ID_BYTES) × ((tags : List (List ℕ × List ℕ)) × (rest : List ℕ) × FaultsAfter text tags rest e)))
