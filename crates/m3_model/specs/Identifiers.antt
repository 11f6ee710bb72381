-- Which texts are identifiers; M3DB's page "Series ID and tags".
use Rattle.std.specs.Prelude.{◌≡◌, ℕ, List, [], ◌∷◌, Bool, false, ◌==◌, IsTrue, IsUtf8, ◌⊎◌}
use Rattle.m3_model.specs.Names.{has_identifier_length}
use Rattle.m3_model.specs.Tags.{IsSpelledBy}

-- the text begins with `{`
abbrev pub begins_tagged : List ℕ → Bool
begins_tagged [] = false
begins_tagged (b ∷ bs) = b == 123

-- an identifier without tags: UTF-8 text of 1 to 512 bytes that doesn't begin with `{`
pub record IsPlain (id : List ℕ) : Type 0 where
  pub is_text : IsUtf8 id
  pub has_length : IsTrue (has_identifier_length id)
  pub untagged : begins_tagged id ≡ false

-- an identifier has no tags, or tags spell it
abbrev pub IsIdentifier : List ℕ → Type 0
IsIdentifier id = IsPlain id ⊎ ((tags : List (List ℕ × List ℕ)) × IsSpelledBy id tags)
