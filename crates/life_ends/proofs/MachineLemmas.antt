-- What a machine leaves of its slot, by what lay there when its run began.
use Rattle.std.proofs.Common.{ℕ, List, subst}
use Rattle.m3_outside.specs.Depots.{TellAll}
use Rattle.m3_outside.specs.DiskState.{DiskState, IsEmpty}
use Rattle.m3_outside.specs.Files.{Files}
use Rattle.m3_outside.specs.Slots.{Held, Here, MayGive, Out, Unused}
use Rattle.replica_machine.specs.Openings.{HoldAsMade}
use Rattle.replica_machine.proofs.OpeningLemmas.{first_begin_is_as_made, stays_as_made}
use Rattle.life_ends.specs.Lies.{MayLie}
use Rattle.life_ends.specs.Runs.{MachineBeginsSo, MachineLeavesSo}

-- what a slot gives has the images of what lay there
lies : {D : Type 0} (state : D → DiskState) → TellAll state → (held : Held D) (first : D) → MayGive (λ d. IsEmpty (state d)) held first → (files : Files) → (state first).images files → MayLie state held files
lies state tell Unused first given files image = given.images (tell first) files image
lies state tell (Here there) first given files image = subst (λ d. (state d).images files) given image
lies state tell Out first given files image = absurd given

holds : (base wider : Files → Type 0) → ((files : Files) → base files → wider files) → (tried : List ℕ) (files : Files) → HoldAsMade base tried files → HoldAsMade wider tried files
holds base wider more tried files h = record {
  before = h.before;
  was = more h.before h.was;
  points_before = h.points_before;
  tenure_before = h.tenure_before;
  fence_before = h.fence_before;
  held_before = h.held_before;
  points = h.points;
  tenure = h.tenure;
  fence = h.fence;
  held = h.held;
  same = h.same;
  tenure_low = h.tenure_low;
  tenure_up = h.tenure_up;
  fence_low = h.fence_low;
  fence_up = h.fence_up;
}

pub machine_leaves_so : {D : Type 0} (state : D → DiskState) → MachineLeavesSo state
machine_leaves_so state held first r m tell given sound is files image = record {
  begun = λ some. is.files some (tell m.disk) files image;
  unbegun = λ none. holds (state first).images (MayLie state held) (lies state tell held first given) r.tried files (stays_as_made state first r m sound is none (tell m.disk) files image);
}

pub machine_begins_so : {D : Type 0} (state : D → DiskState) → MachineBeginsSo state
machine_begins_so state held first r old new tenure fence points tell given sound is none step =
    let b = first_begin_is_as_made state first r tenure fence points old new sound (tell old.disk) is none step in
    record {
      before = b.before;
      was = lies state tell held first given b.before b.was;
      points_before = b.points_before;
      tenure_before = b.tenure_before;
      fence_before = b.fence_before;
      held_before = b.held_before;
      once = b.once;
      fence_up = b.fence_up;
    }
