-- Lists of events that are legal as far as disks tell.
use Rattle.std.specs.Prelude.{◌≡◌, ◌≤◌, ℕ, List, length, Bool, true}
use Rattle.m3_outside.specs.Depots.{TellAll}
use Rattle.m3_outside.specs.DiskState.{DiskState}
use Rattle.event_book.specs.Lists.{most_entries}
use Rattle.cluster_core.specs.Legal.{Legal, LawfulAt}
use Rattle.cluster_core.specs.declared.event.Event.{Event}

-- legal where all disks of this kind tell, and else but for what rests on their contents
abbrev pub IsLegalOver : {D : Type 0} → (D → DiskState) → List Event → Type 0
IsLegalOver state events = (tells : Bool) → (tells ≡ true → TellAll state) → Legal tells events

-- lawful at the end of the list, in the same way
abbrev pub IsLawfulOver : {D : Type 0} → (D → DiskState) → List Event → Event → Type 0
IsLawfulOver state events e = (tells : Bool) → (tells ≡ true → TellAll state) → LawfulAt tells (length events) events e

-- what a trail keeps of its list: how long it is
pub record IsTrail {D : Type 0} (state : D → DiskState) (len : ℕ) (events : List Event) : Type 0 where
  pub len_is : len ≡ length events
  pub short : length events ≤ most_entries
  pub legal : IsLegalOver state events
