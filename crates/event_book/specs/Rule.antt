-- The rule of a book: what holds of its word and of all views, at every moment.
use Rattle.std.specs.Prelude.{◌≡◌, ℕ, ◌≤◌, Bool, true, false, List, [], ◌∷◌, length}
use mathlib.Core.Option.{some}
use mathlib.Core.List.{IsPrefix}
use lib.ListN.{get_elem?}
use Rattle.event_book.specs.Names.{Name, MayGiveName}
use Rattle.event_book.specs.Lists.{made_by, HasEnded, most_entries}
use Rattle.event_book.specs.declared.view.Made.{Made}
use Rattle.event_book.specs.declared.view.Ended.{Ended}
use Rattle.event_book.specs.declared.view.View.{View}

module _ {E : Type 0} where
  -- none of these ended seats has the name of this seat, or one that may still come from it
  abbrev pub NoneNamed : List (Ended E) → View E → Type 0
  NoneNamed [] v = Unit {0}
  NoneNamed (x ∷ xs) v = ¬ (x.name ≡ v.name) × ¬ (MayGiveName v.name v.splits x.name) × NoneNamed xs v

  -- a view of a beginning of the list, in which its own entries, and those of the ended seats that it shows, are exactly the ones it says
  pub record FitsList (log : List (Made E)) (tells : Bool) (v : View E) : Type 0 where
    pub seen : IsPrefix v.seen log
    pub told : IsPrefix v.told log
    pub made : v.named ≡ true → made_by v.name log ≡ v.made
    pub ended : HasEnded v.ended log
    pub fresh : v.named ≡ true → (m : Name) → MayGiveName v.name v.splits m → made_by m log ≡ []
    pub as_named : v.named ≡ true → v.opened ≡ true → v.tells ≡ tells
    pub blank : v.opened ≡ false → log ≡ []
    pub sole : v.named ≡ true → v.name ≡ [] → v.splits ≡ 0 → length log ≡ length v.made

  -- two seats have two names, and neither may give the other's or that of one that ended; before the opening and before the first split there is one seat
  pub record IsApart (i j : ℕ) (v w : View E) : Type 0 where
    pub same : v.named ≡ true → w.named ≡ true → v.name ≡ w.name → i ≡ j
    pub free : v.named ≡ true → w.named ≡ true → ¬ (MayGiveName v.name v.splits w.name)
    pub gone : w.named ≡ true → NoneNamed v.ended w
    pub blank : v.opened ≡ false → i ≡ j
    pub alone : v.named ≡ true → v.name ≡ [] → v.splits ≡ 0 → w.named ≡ true → i ≡ j

  -- the one word is the length of a lawful list, which each view fits, and each two views are apart
  pub record HoldsList (lawful : Bool → List (Made E) → Type 0) (words : List ℕ) (views : List (View E)) : Type 0 where
    pub log : List (Made E)
    pub tells : Bool
    pub word : words ≡ length log ∷ []
    pub room : length log ≤ most_entries
    pub legal : lawful tells log
    pub fits : (i : ℕ) (v : View E) → get_elem? views i ≡ some v → FitsList log tells v
    pub apart : (i j : ℕ) (v w : View E) → get_elem? views i ≡ some v → get_elem? views j ≡ some w → IsApart i j v w
