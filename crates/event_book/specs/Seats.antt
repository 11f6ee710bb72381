-- What contracts see of a seat.
use Rattle.std.specs.Prelude.{◌≡◌, ℕ, ◌+◌, ◌≤◌, Bool, List, [], ◌∷◌, ◌++◌, length}
use Rattle.event_book.specs.Names.{Name, MayGiveName}
use Rattle.event_book.specs.Lists.{made_by, HasEnded, most_entries}
use Rattle.event_book.specs.declared.view.Made.{Made}
use Rattle.event_book.specs.declared.view.Ended.{Ended}

-- its name, how often it was split, the list that it has seen, the entries that it made, and the seats that ended in it with theirs
pub record Shown (E : Type 0) : Type 0 where
  pub name : List ℕ
  pub splits : ℕ
  pub seen : List (Made E)
  pub made : List E
  pub ended : List (Ended E)

module _ {E : Type 0} where
  -- the list that the seat has seen is lawful, and what was made there by it, by those that ended in it and under names that it may still give is what it says
  pub record IsSound (lawful : Bool → List (Made E) → Type 0) (tells : Bool) (s : Shown E) : Type 0 where
    pub legal : lawful tells s.seen
    pub room : length s.seen ≤ most_entries
    pub made : made_by s.name s.seen ≡ s.made
    pub ended : HasEnded s.ended s.seen
    pub fresh : (m : Name) → MayGiveName s.name s.splits m → made_by m s.seen ≡ []
    pub sole : s.name ≡ [] → s.splits ≡ 0 → length s.seen ≡ length s.made

  -- the seat that a book is opened with
  abbrev pub first_seat : Shown E
  first_seat = record { name = []; splits = 0; seen = []; made = []; ended = [] }

  -- a seat that was split once more
  abbrev pub after_split : Shown E → Shown E
  after_split s = record s { splits = s.splits + 1 }

  -- the seat that a split gives: it has the next name and the same list, and no entries of its own
  abbrev pub split_of : Shown E → Shown E
  split_of s = record { name = s.name ++ s.splits ∷ []; splits = 0; seen = s.seen; made = []; ended = [] }
