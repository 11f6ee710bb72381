-- Lists of entries with their makers.
use Rattle.std.specs.Prelude.{◌≡◌, ℕ, ◌^◌, List, [], ◌∷◌, length, cond, ltb}
use Rattle.event_book.specs.Names.{Name, same_name}
use Rattle.event_book.specs.declared.view.Made.{Made}
use Rattle.event_book.specs.declared.view.Ended.{Ended}

-- so many entries a book takes
abbrev pub most_entries : ℕ
most_entries = 2 ^ 62

module _ {E : Type 0} where
  -- the entries that the seat of this name made
  abbrev pub made_by : Name → List (Made E) → List E
  made_by name [] = []
  made_by name (x ∷ xs) = cond (same_name name x.by) (x.entry ∷ made_by name xs) (made_by name xs)

  -- of each ended seat the list has exactly the entries that it made
  abbrev pub HasEnded : List (Ended E) → List (Made E) → Type 0
  HasEnded [] log = Unit {0}
  HasEnded (x ∷ xs) log = (made_by x.name log ≡ x.made) × HasEnded xs log

  -- the longer of two lists
  abbrev pub longer : List (Made E) → List (Made E) → List (Made E)
  longer xs ys = cond (ltb (length xs) (length ys)) ys xs
