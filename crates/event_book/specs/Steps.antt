-- What each step tells the seat that makes it.
use Rattle.std.specs.Prelude.{◌≡◌, ℕ, ◌==◌, Bool, true, List, [], length, MatchBool}
use mathlib.Core.Option.{some}
use mathlib.Core.List.{IsPrefix}
use Rattle.atomic_table.specs.Table.{Step, Me}
use Rattle.atomic_table.specs.Seated.{TableId}
use Rattle.event_book.specs.Lists.{longer}
use Rattle.event_book.specs.Seats.{IsSound}
use Rattle.event_book.specs.Views.{shown, first_view, opened_view, with_seen, with_entry}
use Rattle.event_book.specs.declared.view.Made.{Made}
use Rattle.event_book.specs.declared.view.View.{View}

module _ {E : Type 0} where
  -- the one token of a table that has just been made
  pub record IsNew (table token : TableId) (me : Me E (View E)) : Type 0 where
    pub same : token ≡ table
    pub one : table.words ≡ 1
    pub first : me ≡ (first_view, [])

  -- a seat of this table, which has one word and no slot
  pub record IsPlaced (table token : TableId) (me : Me E (View E)) : Type 0 where
    pub same : token ≡ table
    pub one : table.words ≡ 1
    pub none_held : me.1 ≡ []
    pub named : me.0.named ≡ true

  -- a seat of an open book, under a name that says this of the disks, between two calls
  pub record IsSeated (lawful : Bool → List (Made E) → Type 0) (tells : Bool) (v : View E) : Type 0 where
    pub opened : v.opened ≡ true
    pub tells_is : v.tells ≡ tells
    pub sound : IsSound lawful tells (shown v)

  -- the seat is sound, in the same open book
  pub record StaysSound (lawful : Bool → List (Made E) → Type 0) (v w : View E) : Type 0 where
    pub opened : w.opened ≡ v.opened
    pub tells : w.tells ≡ v.tells
    pub sound : IsSound lawful v.tells (shown w)

  -- the book was opened, under a name that says this of the disks
  abbrev pub OpensBook : Bool → Step E → Me E (View E) → ℕ → Me E (View E) → Type 0
  OpensBook tells step me found after = after ≡ (opened_view tells me.0, me.1)

  -- the whole list was seen, and its length found
  pub record SeesList (lawful : Bool → List (Made E) → Type 0) (step : Step E) (me : Me E (View E)) (found : ℕ) (after : Me E (View E)) : Type 0 where
    pub view : after ≡ (with_seen me.0 after.0.seen [], me.1)
    pub count : found ≡ length after.0.seen
    pub longer : IsPrefix me.0.seen after.0.seen
    pub sound : IsSound lawful after.0.tells (shown after.0)

  -- where the length was the expected one the entry was added to all that had been seen; else the whole list was seen
  abbrev pub AddsEntry : (Bool → List (Made E) → Type 0) → Step E → Me E (View E) → ℕ → Me E (View E) → Type 0
  AddsEntry lawful step me found after =
      MatchBool (found == step.first)
      (((e : E) × (step.said ≡ some e) × (after ≡ (with_entry me.0 e, me.1))) × IsSound lawful after.0.tells (shown after.0))
      (SeesList lawful step me found after)

  -- the seat has then seen the longer of what it had seen and of this list, which both begin; where the list is lawful a sound seat stays so
  pub record IsTold (lawful : Bool → List (Made E) → Type 0) (list : List (Made E)) (v w : View E) : Type 0 where
    pub view : w ≡ with_seen v (longer v.seen list) []
    pub mine : IsPrefix v.seen (longer v.seen list)
    pub others : IsPrefix list (longer v.seen list)
    pub sound : (tells : Bool) → lawful tells list → IsSound lawful tells (shown v) → IsSound lawful tells (shown w)

  -- the longer of what was seen and what a note told of was taken over
  abbrev pub TakesLonger : (Bool → List (Made E) → Type 0) → Step E → Me E (View E) → ℕ → Me E (View E) → Type 0
  TakesLonger lawful step me found after = (after.1 ≡ me.1) × IsTold lawful me.0.told me.0 after.0
