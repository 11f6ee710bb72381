-- What a slot gives of what lay there.
use Rattle.std.proofs.Common.{◌≡◌, ℕ, List, [], refl, sym, ap, ◌∙◌, subst, inl, inr, arith}
use Rattle.std.specs.Prelude.{Option, Some, None}
use Rattle.std.specs.FinMap.{empty}
use Rattle.std.proofs.lemmas.Option.{same_Some}
use Rattle.m3_model.specs.declared.placement.Placement.{Placement}
use Rattle.m3_model.specs.declared.rules.MetaState.{MetaState}
use Rattle.m3_outside.specs.Depots.{Depot, TellAll}
use Rattle.m3_outside.specs.DiskState.{DiskState, EachImage, IsEmpty, IsLawfulDisk}
use Rattle.m3_outside.specs.Files.{Files}
use Rattle.m3_outside.specs.Slots.{Held, Here, MayGive, Out, Unused}
use Rattle.m3_outside.specs.declared.slot.DiskSlot.{DiskSlot}
use Rattle.shard_files.specs.FilesHold.{FilesHold, IsSound}
use Rattle.shard_files.specs.Parts.{AreWhole}
use Rattle.shard_files.proofs.FilesHoldLemmas.{no_files_hold_nothing}
use Rattle.transcripts.specs.Record.{Record}
use Rattle.cluster_core.specs.Replicas.{after, fresh}
use Rattle.cluster_core.specs.declared.event.StepCall.TheVariants as call
use Rattle.cluster_core.specs.declared.replica_state.ReplicaState.{ReplicaState}
use Rattle.node_calls.specs.replica_machine.Machines.{IsMachineOf, MachineState}
use Rattle.node_calls.specs.replica_machine.Openings.{AllSound}
use Rattle.node_calls.proofs.replica_machine_proofs.OtherLemmas.{first_follows}
use Rattle.node_calls.specs.replica_exchange.declared.member.Member.{Member}
use Rattle.node_calls.specs.replica_exchange.declared.slot.Slot.{Slot}
use Rattle.first_cluster.specs.Bare.{HasNoPoints, IsBare}
use Rattle.first_cluster.specs.Lending.{HasReturned, IsOpened}
use Rattle.first_cluster.specs.Depots.{disk_slot_of}
use Rattle.node_calls.specs.session_net.Runs.{slot_at}
use Rattle.first_cluster.proofs.BareLemmas.{given_bare}
use Rattle.life_ends.specs.Lies.{MayLie}
use Rattle.line_tracks.specs.tracks.Lain.{AllLieWhole, HadLain, IsLowAt, IsStillThere, LiesLow, lain_at}

-- an empty disk's files are low
empty_low : {D : Type 0} (state : D → DiskState) (place : Placement) (n s : ℕ) (d : D) → IsEmpty (state d) → EachImage (state d) (LiesLow place n s)
empty_low state place n s d none = λ tells c image. record {
  points = [];
  tenure = 0;
  fence = 0;
  held = subst (FilesHold [] 0 0) (sym (none.images tells c image)) no_files_hold_nothing;
  low = record { version = omega arith; own = λ given h. omega arith };
  fenced = omega arith;
}

pub given_low : {D : Type 0} (state : D → DiskState) (place : Placement) (n s : ℕ) (held : Held D) (disk : D) → IsLowAt state place n s held → MayGive (λ d. IsEmpty (state d)) held disk → EachImage (state disk) (LiesLow place n s)
given_low state place n s Unused disk is given = empty_low state place n s disk given
given_low state place n s (Here there) disk is given = subst (λ d. EachImage (state d) (LiesLow place n s)) (sym given) is
given_low state place n s Out disk is given = absurd given

-- the files of a disk that a slot gave are sound
pub given_sound : {D : Type 0} (state : D → DiskState) (past : List Record) (start : Option MetaState) (lay : DiskSlot → Held D) → TellAll state → HadLain state past start lay → (n s : ℕ) (disk : D) → MayGive (λ d. IsEmpty (state d)) (lain_at lay n s) disk → AllSound (state disk).images
given_sound state past None lay tell lain n s disk given files image =
    let b = given_bare state (lain_at lay n s) disk (lain.bare (disk_slot_of (slot_at n s))) given (tell disk) files image in
    record { points = []; tenure = b.tenure; fence = b.fence; held = b.held }
given_sound state past (Some found) lay tell lain n s disk given files image =
    let b = given_low state found.place n s (lain_at lay n s) disk (lain.low n s) given (tell disk) files image in
    record { points = b.points; tenure = b.tenure; fence = b.fence; held = b.held }

-- what it gives leaves what a stop may leave of what lay there
pub lies : {D : Type 0} (state : D → DiskState) → TellAll state → (held : Held D) (first : D) → MayGive (λ d. IsEmpty (state d)) held first → (files : Files) → (state first).images files → MayLie state held files
lies state tell Unused first given files image = given.images (tell first) files image
lies state tell (Here there) first given files image = subst (λ d. (state d).images files) given image
lies state tell Out first given files image = absurd given

-- ---- whatever a stop leaves of what lay there

no_files_low : (place : Placement) (n s : ℕ) (files : Files) → files ≡ empty → LiesLow place n s files
no_files_low place n s files none = record { points = []; tenure = 0; fence = 0; held = subst (FilesHold [] 0 0) (sym none) no_files_hold_nothing; low = record { version = omega arith; own = λ given h. omega arith }; fenced = omega arith }

pub lies_low : {D : Type 0} (state : D → DiskState) → TellAll state → (place : Placement) (n s : ℕ) (held : Held D) → IsLowAt state place n s held → (files : Files) → MayLie state held files → LiesLow place n s files
lies_low state tell place n s Unused is files none = no_files_low place n s files none
lies_low state tell place n s (Here disk) is files image = is (tell disk) files image
lies_low state tell place n s Out is files none = no_files_low place n s files none

no_files_bare : (files : Files) → files ≡ empty → HasNoPoints files
no_files_bare files none = record { tenure = 0; fence = 0; held = subst (FilesHold [] 0 0) (sym none) no_files_hold_nothing; order = omega arith; first = omega arith }

pub lies_bare : {D : Type 0} (state : D → DiskState) → TellAll state → (held : Held D) → IsBare state held → (files : Files) → MayLie state held files → HasNoPoints files
lies_bare state tell Unused is files none = no_files_bare files none
lies_bare state tell (Here disk) is files image = is (tell disk) files image
lies_bare state tell Out is files none = no_files_bare files none

pub lies_sound : {D : Type 0} (state : D → DiskState) → TellAll state → (past : List Record) (start : Option MetaState) (lay : DiskSlot → Held D) → HadLain state past start lay → (n s : ℕ) (files : Files) → MayLie state (lain_at lay n s) files → IsSound files
lies_sound state tell past None lay lain n s files mine = let b = lies_bare state tell (lain_at lay n s) (lain.bare (disk_slot_of (slot_at n s))) files mine in record { points = []; tenure = b.tenure; fence = b.fence; held = b.held }
lies_sound state tell past (Some found) lay lain n s files mine = let b = lies_low state tell found.place n s (lain_at lay n s) (lain.low n s) files mine in record { points = b.points; tenure = b.tenure; fence = b.fence; held = b.held }

pub lies_whole : {D : Type 0} (state : D → DiskState) (past : List Record) (start : Option MetaState) (lay : DiskSlot → Held D) → HadLain state past start lay → AllLieWhole state lay
lies_whole state past None lay lain = lain.whole
lies_whole state past (Some found) lay lain = lain.whole

-- of each slot a stop may leave some files
pub some_lie : {D : Type 0} (state : D → DiskState) → ((d : D) → IsLawfulDisk (state d)) → TellAll state → (held : Held D) → (files : Files) × MayLie state held files
some_lie state lawful tell Unused = (empty, refl)
some_lie state lawful tell (Here disk) = ((state disk).files, (lawful disk).read_is_image (tell disk))
some_lie state lawful tell Out = (empty, refl)

-- ---- slots without a replica

-- what is given now may have been given then
pub still_given : {D : Type 0} (state : D → DiskState) (was now : Held D) (disk : D) → IsStillThere state was now → MayGive (λ d. IsEmpty (state d)) now disk → MayGive (λ d. IsEmpty (state d)) was disk
still_given {D} state was now disk (inl same) given = subst (λ (h : Held D). MayGive (λ d. IsEmpty (state d)) h disk) same given
still_given {D} state was now disk (inr back) given =
    let here : disk ≡ back.0 = subst (λ (h : Held D). MayGive (λ d. IsEmpty (state d)) h disk) back.1 given in
    subst (λ d. MayGive (λ e. IsEmpty (state e)) was d) (sym here) back.2

-- and so may a disk that was given and is back
pub still_back : {D : Type 0} (state : D → DiskState) (was mid now : Held D) (disk : D) → IsStillThere state was mid → MayGive (λ d. IsEmpty (state d)) mid disk → now ≡ Here disk → IsStillThere state was now
still_back state was mid now disk still given is = inr (disk, is, still_given state was mid disk still given)

-- ---- older snapshots

module _ {D : Type 0} (state : D → DiskState) (tell : TellAll state) where
  -- a machine over the disk that its slot gave leaves them whole
  pub made_whole : (held : Held D) (first : D) (r : ReplicaState) (m : MachineState D) → ((files : Files) → MayLie state held files → AreWhole files) → MayGive (λ d. IsEmpty (state d)) held first → IsMachineOf state (state first).images r m → (files : Files) → (state m.disk).images files → AreWhole files
  made_whole held first r m whole given is files image = is.snapshots (λ c here. whole c (lies state tell held first given c here)) (tell m.disk) files image

  opened_whole : (depot : Depot D) (s : Slot) (m : Member D) → ((files : Files) → MayLie state (depot.held (disk_slot_of s)) files → AreWhole files) → IsOpened state depot s m → (files : Files) → (state m.machine.disk).images files → AreWhole files
  opened_whole depot s m whole opened files image =
      elim opened.begun as (λ _. AreWhole files) [
        | inl same ↦ whole files (lies state tell (depot.held (disk_slot_of s)) opened.disk opened.given files (subst (λ (x : Member D). (state x.machine.disk).images files) same image))
        | inr begun ↦
            (let own = begun.1 in
            let machine : m.machine ≡ own.3.0 = ap (λ (x : Member D). x.machine) (sym (same_Some own.0 m (sym own.1))) ∙ own.3.2 in
            made_whole (depot.held (disk_slot_of s)) opened.disk (after fresh (call.Begin 1) begun.0) own.3.0 whole opened.given (own.3.1.follows opened.disk fresh (first_follows state opened.disk)) files
            (subst (λ (x : MachineState D). (state x.disk).images files) machine image))
      ]

  -- so are those of disks that were given back
  pub returned_whole : (old new : Depot D) → AllLieWhole state old.held → HasReturned state old empty new → AllLieWhole state new.held
  returned_whole old new whole returned disk_slot files mine =
      let s : Slot = slot_at disk_slot.node disk_slot.shard in
      elim (returned.each s) as (λ _. AreWhole files) [
        | inl untouched ↦ whole disk_slot files (subst (λ (h : Held D). MayLie state h files) untouched.held mine)
        | inr back ↦ opened_whole old s back.member (whole disk_slot) back.opened files (subst (λ (h : Held D). MayLie state h files) back.held mine)
      ]
