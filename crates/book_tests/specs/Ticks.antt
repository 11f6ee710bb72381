-- Ticks in a book: entries of which each has a number.
use Rattle.std.specs.Prelude.{◌≡◌, ℕ, ◌+◌, Bool, List, [], ◌∷◌, length}
use Rattle.event_book.specs.Names.{Name}
use Rattle.event_book.specs.Lists.{made_by}
use Rattle.event_book.specs.Seats.{Shown}
use Rattle.event_book.specs.declared.view.Made.{Made}

module _ {E : Type 0} where
  -- the entries are numbered from this number on
  abbrev pub NumberedFrom : (E → ℕ) → ℕ → List E → Type 0
  NumberedFrom number k [] = Unit {0}
  NumberedFrom number k (x ∷ xs) = (number x ≡ k) × NumberedFrom number (k + 1) xs

  -- each maker's entries stand in the order of their numbers, from 0 on
  abbrev pub IsOrdered : (E → ℕ) → Bool → List (Made E) → Type 0
  IsOrdered number tells log = (name : Name) → NumberedFrom number 0 (made_by name log)

  -- the empty list is so
  pub starts_ordered : (number : E → ℕ) (tells : Bool) → IsOrdered number tells []
  starts_ordered number tells name = tt

  -- a seat of this name has made so many entries
  abbrev pub HasWorked : Name → ℕ → Shown E → Type 0
  HasWorked name count s = (s.name ≡ name) × (length s.made ≡ count)

  -- what this seat made stands in the list, under its name
  abbrev pub StandsIn : List (Made E) → Shown E → Type 0
  StandsIn log s = made_by s.name log ≡ s.made

  -- the seat that the first one gave at this split made so many entries of the list
  abbrev pub HasTicks : ℕ → ℕ → List (Made E) → Type 0
  HasTicks k count log = length (made_by (k ∷ []) log) ≡ count
