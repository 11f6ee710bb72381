-- Slots in a list, in the order of their times, and the position of a time among them.
use Rattle.std.specs.Prelude.{◌≡◌, ℕ, ◌<◌, ◌≤◌, ℤ, List, Option, Some, length, slice_get}
use Rattle.std.specs.List.{AllWithin}

abbrev pub SlotList : Type 0
SlotList = List (ℕ × Option ℤ)

-- the slot of the time is at the position
pub record IsSlotAt (t : ℕ) (slots : SlotList) (position : ℕ) : Type 0 where
  pub slot : Option ℤ
  pub stands : slice_get slots position ≡ Some (t, slot)

-- there is no slot of the time, and the position is where one would stand
pub record IsGapFor (t : ℕ) (slots : SlotList) (position : ℕ) : Type 0 where
  pub bound : position ≤ length slots
  pub before : AllWithin (λ slot. slot.0 < t) slots 0 position
  pub after : AllWithin (λ slot. t < slot.0) slots position (length slots)

-- the position is that of the first slot from the time on
pub record IsPlaceFrom (t : ℕ) (slots : SlotList) (position : ℕ) : Type 0 where
  pub bound : position ≤ length slots
  pub before : AllWithin (λ slot. slot.0 < t) slots 0 position
  pub after : AllWithin (λ slot. t ≤ slot.0) slots position (length slots)
