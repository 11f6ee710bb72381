-- What calls of a book ask for, and what they do to seats.
use Rattle.std.specs.Prelude.{◌≡◌, ℕ, Bool, List, [], ◌∷◌, ◌++◌, ◌⊎◌, length}
use mathlib.Core.List.{IsPrefix}
use Rattle.event_book.specs.Lists.{made_by}
use Rattle.event_book.specs.Seats.{Shown, IsSound}
use Rattle.event_book.specs.declared.view.Made.{Made}

module _ {E : Type 0} where
  -- as the seat is sound, the entry is lawful after each lawful list that begins with what the seat has seen and in which the seat's entries are those that it made
  abbrev pub MayAdd : (Bool → List (Made E) → Type 0) → Bool → Shown E → E → Type 0
  MayAdd lawful tells s e =
      IsSound lawful tells s → (log : List (Made E)) → lawful tells log → IsPrefix s.seen log → made_by s.name log ≡ s.made → lawful tells (log ++ (record { by = s.name; entry = e }) ∷ [])

  -- the seat's entry was added at this position, past all that it had seen, and it has then seen the list up to it
  pub record Appended (s : Shown E) (e : E) (position : ℕ) (t : Shown E) : Type 0 where
    pub between : List (Made E)
    pub after : t ≡ record s { seen = (s.seen ++ between) ++ (record { by = s.name; entry = e }) ∷ []; made = s.made ++ e ∷ [] }
    pub position_is : position ≡ length (s.seen ++ between)

  -- the seat has seen at least as much, and is else as it was
  pub record Looked (s t : Shown E) : Type 0 where
    pub between : List (Made E)
    pub after : t ≡ record s { seen = s.seen ++ between }

  -- the seat has seen what it or the other had seen, whichever is longer; both lists begin it
  pub record HasMet (s other t : Shown E) : Type 0 where
    pub after : t ≡ record s { seen = t.seen }
    pub which : (t.seen ≡ s.seen) ⊎ (t.seen ≡ other.seen)
    pub mine : IsPrefix s.seen t.seen
    pub others : IsPrefix other.seen t.seen

  -- the seat has met the other, which ended in it, and shows it and those that had ended in it
  pub record HasJoined (s other t : Shown E) : Type 0 where
    pub after : t ≡ record s { seen = t.seen; ended = s.ended ++ (record { name = other.name; made = other.made }) ∷ other.ended }
    pub which : (t.seen ≡ s.seen) ⊎ (t.seen ≡ other.seen)
    pub mine : IsPrefix s.seen t.seen
    pub others : IsPrefix other.seen t.seen
