-- Views of seats and of notes, and what steps make of them.
use Rattle.std.specs.Prelude.{◌+◌, Bool, true, false, List, [], ◌∷◌, ◌++◌}
use Rattle.event_book.specs.Seats.{Shown}
use Rattle.event_book.specs.declared.view.Made.{Made}
use Rattle.event_book.specs.declared.view.View.{View}

module _ {E : Type 0} where
  -- what contracts see of the seat
  abbrev pub shown : View E → Shown E
  shown v = record { name = v.name; splits = v.splits; seen = v.seen; made = v.made; ended = v.ended }

  -- the one seat of a book that wasn't opened yet
  abbrev pub first_view : View E
  first_view = record { named = true; opened = false; tells = false; name = []; splits = 0; seen = []; told = []; made = []; ended = [] }

  -- the seat once it has opened the book under a name that says this of the disks
  abbrev pub opened_view : Bool → View E → View E
  opened_view tells v = record v { opened = true; tells = tells }

  -- a note of a list, which is no seat
  abbrev pub note_of : List (Made E) → View E
  note_of seen = record { named = false; opened = true; tells = false; name = []; splits = 0; seen = seen; told = []; made = []; ended = [] }

  -- the view with other lists seen and told of
  abbrev pub with_seen : View E → List (Made E) → List (Made E) → View E
  with_seen v seen told = record v { seen = seen; told = told }

  -- the view once its seat has added an entry to all that it had seen
  abbrev pub with_entry : View E → E → View E
  with_entry v e = record v { seen = v.seen ++ (record { by = v.name; entry = e }) ∷ []; told = []; made = v.made ++ e ∷ [] }

  -- a seat after it was split
  abbrev pub parent_view : View E → View E
  parent_view v = record v { splits = v.splits + 1 }

  -- the seat that was split off
  abbrev pub child_view : View E → View E
  child_view v = record { named = true; opened = true; tells = v.tells; name = v.name ++ v.splits ∷ []; splits = 0; seen = v.seen; told = []; made = []; ended = [] }

  -- a seat in which another ended
  abbrev pub joined_view : View E → View E → View E
  joined_view v w = record v { ended = v.ended ++ (record { name = w.name; made = w.made }) ∷ w.ended }
