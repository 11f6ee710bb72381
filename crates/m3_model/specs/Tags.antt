-- The tags of an identifier; M3DB's page "Series ID and tags".
use Rattle.std.specs.Prelude.{◌≡◌, ℕ, ◌<◌, ◌≤◌, List, [], ◌∷◌, ◌++◌, map, length, Bool, false, ◌&&◌, ◌||◌, ◌==◌, if◌then◌else◌, codes, IsTrue, IsUtf8, MatchBool, ◌⊎◌}
use Rattle.std.specs.List.{list_all, join_with_byte}
use Rattle.std.specs.Ordering.{nat_cmp}
use Rattle.std.specs.Cmp.Lexicographic.{slice_cmp}
use Rattle.std.specs.declared.cmp.Ordering.TheVariants.{Less}
use Rattle.m3_model.specs.Ascends.{Ascends}
use Rattle.m3_model.specs.Members.{IsIn}
use Rattle.m3_model.specs.Names.{is_letter, is_digit}
use Rattle.m3_model.specs.declared.point.Matcher.{Matcher}
use Rattle.m3_model.specs.declared.limits.TheConstants.{MOST_ID_BYTES, MOST_TAGS}

-- one text is below another by its bytes
abbrev pub IsBelow : List ℕ → List ℕ → Type 0
IsBelow a b = slice_cmp nat_cmp a b ≡ Less

-- a tag's name begins with a letter or `_`, and goes on with letters, digits or `_`
abbrev pub is_tag_name : List ℕ → Bool
is_tag_name [] = false
is_tag_name (b ∷ bs) = (is_letter b || b == 95) && list_all (λ c. (is_letter c || is_digit c) || c == 95) bs

-- a value as it is spelled: `\` stands before each `"` and each `\`
abbrev pub escaped : List ℕ → List ℕ
escaped [] = []
escaped (b ∷ bs) = if b == 34 || b == 92 then 92 ∷ b ∷ escaped bs else b ∷ escaped bs

-- a tag as it is spelled: its name, `="`, its value and `"`
abbrev pub tag_text : List ℕ × List ℕ → List ℕ
tag_text tag = tag.0 ++ codes "=\"" ++ escaped tag.1 ++ codes "\""

-- tags as they are spelled: joined by `,` between braces
abbrev pub tags_text : List (List ℕ × List ℕ) → List ℕ
tags_text tags = codes "{" ++ join_with_byte 44 (map tag_text tags) ++ codes "}"

-- these tags spell the identifier
pub record IsSpelledBy (id : List ℕ) (tags : List (List ℕ × List ℕ)) : Type 0 where
  pub spelled : id ≡ tags_text tags
  pub is_text : IsUtf8 id
  pub not_long : length id ≤ MOST_ID_BYTES
  pub some : 0 < length tags
  pub few : length tags ≤ MOST_TAGS
  pub named : (tag : List ℕ × List ℕ) → IsIn tags tag → IsTrue (is_tag_name tag.0)
  pub ascend : Ascends (λ a b. IsBelow a.0 b.0) tags

-- the tags of an identifier; one that no tags spell has none
abbrev pub HasTags : List ℕ → List (List ℕ × List ℕ) → Type 0
HasTags id tags = IsSpelledBy id tags ⊎ ((tags ≡ []) × ((others : List (List ℕ × List ℕ)) → ¬ IsSpelledBy id others))

-- a matcher of equality holds where there is this very tag, the other one where there isn't
abbrev pub MatcherHolds : List (List ℕ × List ℕ) → Matcher → Type 0
MatcherHolds tags m = MatchBool m.equal (IsIn tags (m.name, m.value)) (¬ IsIn tags (m.name, m.value))
