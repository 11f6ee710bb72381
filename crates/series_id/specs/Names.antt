-- Where the names of tags begin and end; M3DB's page "Series ID and tags".
use Rattle.std.specs.Prelude.{◌≡◌, ℕ, List, [], ◌∷◌, ◌++◌, Bool, true, ◌||◌, ◌==◌, not, IsTrue}
use Rattle.m3_model.specs.Names.{is_letter, is_digit}
use Rattle.m3_model.specs.Tags.{IsBelow, is_tag_name}

-- a byte that begins a tag's name
abbrev pub is_first_byte : ℕ → Bool
is_first_byte b = is_letter b || b == 95

-- a byte of a tag's name
abbrev pub is_later_byte : ℕ → Bool
is_later_byte b = (is_letter b || is_digit b) || b == 95

-- no name begins here
abbrev pub begins_no_name : List ℕ → Bool
begins_no_name [] = true
begins_no_name (b ∷ bs) = not (is_first_byte b)

-- a name that came before this ends here
abbrev pub ends_name : List ℕ → Bool
ends_name [] = true
ends_name (b ∷ bs) = not (is_later_byte b)

-- the text begins with this name, and goes on with what no longer belongs to it
pub record BeginsWithName (text name later : List ℕ) : Type 0 where
  pub split : text ≡ name ++ later
  pub named : IsTrue (is_tag_name name)
  pub ends : IsTrue (ends_name later)

-- the text begins with a name that is above the one before it
pub record BeginsAbove (before text name later : List ℕ) : Type 0 where
  pub begins : BeginsWithName text name later
  pub above : IsBelow before name
