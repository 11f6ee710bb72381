-- Disks without points, and what a begin over one finds and leaves.
use Rattle.std.proofs.Common.{◌≡◌, ◌⊎◌, inl, inr, ℕ, ◌≤◌, max, List, [], ◌∷◌, refl, sym, ap, subst, ◌∙◌, arith, true}
use Rattle.std.specs.Prelude.{Some, Ok, Err, IfOk}
use Rattle.m3_model.specs.Members.{IsIn}
use Rattle.m3_model.specs.declared.point.Point.{Point}
use Rattle.m3_model.specs.declared.reason.Reason.TheVariants as reason
use Rattle.m3_outside.specs.Depots.{Depot, TellAll}
use Rattle.m3_outside.specs.DiskState.{DiskState, EachImage, IsEmpty, IsLawfulDisk}
use Rattle.m3_outside.specs.Files.{Files}
use Rattle.m3_outside.specs.Slots.{Held, Unused, Here, Out, MayGive}
use Rattle.m3_outside.specs.declared.disk.Disk.{Ghosts}
use Rattle.placement_core.proofs.ListLemmas.{each-from_All, IsIn-from_Any}
use Rattle.cluster_members.specs.shard_files.FilesHold.{FilesHold}
use Rattle.cluster_members.specs.shard_files.Once.{IsEachOnce}
use Rattle.cluster_members.proofs.shard_files_proofs.FilesHoldLemmas.{files_hold_one, no_files_hold_nothing}
use Rattle.cluster_members.specs.cluster_core.Replicas.{after, fresh}
use Rattle.cluster_members.specs.cluster_core.declared.event.StepCall.TheVariants as call
use Rattle.cluster_members.specs.cluster_core.declared.event.StepReply.{StepReply}
use Rattle.cluster_members.specs.cluster_core.declared.event.StepReply.TheVariants as reply
use Rattle.cluster_members.specs.replica_machine.Bases.{CameFrom}
use Rattle.cluster_members.specs.replica_machine.Boots.{BeganFrom, MayBeUnowned}
use Rattle.cluster_members.specs.replica_machine.Machines.{IsHeldBy, MachineState, first_machine}
use Rattle.cluster_members.specs.replica_machine.Steps.{IsStep}
use Rattle.cluster_members.specs.replica_machine.declared.machine.Began.{Began}
use Rattle.cluster_members.proofs.replica_machine_proofs.OtherLemmas.{first_follows}
use Rattle.cluster_members.specs.replica_exchange.Promises.{Begins}
use Rattle.cluster_members.specs.replica_exchange.declared.member.Member.{Member}
use Rattle.cluster_members.specs.replica_exchange.declared.slot.Slot.{Slot}
use Rattle.cluster_members.specs.replica_calls.Calls.{first_member}
use Rattle.cluster_members.specs.declared.members.Members.{Members}
use Rattle.first_cluster.specs.Bare.{BeginsBare, FirstBeginsBare, HasNoPoints, IsBare, ReturnedBare}
use Rattle.first_cluster.specs.Begins.{Said}
use Rattle.first_cluster.specs.Depots.{disk_slot_of}
use Rattle.first_cluster.specs.Lending.{IsOpened}
use Rattle.first_cluster.specs.declared.start.Start.{Start}
use Rattle.first_cluster.proofs.PlacedSlots.{start_slot, tenure_first}

-- ---- what a slot gives

-- an empty disk has no points
empty_bare : {D : Type 0} (state : D → DiskState) (d : D) → IsEmpty (state d) → EachImage (state d) HasNoPoints
empty_bare state d none tells c image =
    record { tenure = 0; fence = 0; held = subst (FilesHold [] 0 0) (sym (none.images tells c image)) no_files_hold_nothing; order = omega arith; first = omega arith }

-- a slot whose disk is bare gives such a disk
pub given_bare : {D : Type 0} (state : D → DiskState) (held : Held D) (disk : D) → IsBare state held → MayGive (λ d. IsEmpty (state d)) held disk → EachImage (state disk) HasNoPoints
given_bare state Unused disk is given = empty_bare state disk given
given_bare state (Here there) disk is given = subst (λ d. EachImage (state d) HasNoPoints) (sym given) is
given_bare state Out disk is given = absurd given

no_elements : {X : Type 0} (xs : List X) → ((x : X) → IsIn xs x → ⊥) → xs ≡ []
no_elements [] none = refl
no_elements (x ∷ xs) none = absurd (none x (inl refl))

-- ---- what a first begin finds

-- files without points hold no others
pub found_none : (files : Files) (all : List Point) (tenure fence : ℕ) → HasNoPoints files → FilesHold all tenure fence files → (all ≡ []) × (tenure ≤ 1) × (fence ≤ 1)
found_none files all tenure fence none held =
    let one = files_hold_one all [] tenure none.tenure fence none.fence files held none.held in
    let order = none.order in
    let first = none.first in
    (one.0, (let same = one.1 in omega (arith, same, order, first)), (let same = one.2 in omega (arith, same, first)))

once_none : (all points : List Point) → all ≡ [] → IsEachOnce all points → points ≡ []
once_none all points none once = no_elements points (λ p i. subst (λ xs. IsIn xs p) none ((once.same p).0 i))

began_bare : {D : Type 0} (state : D → DiskState) (disk : D) (tenure : ℕ) (new : MachineState D) (began : Began) → tenure ≡ 1 → HasNoPoints (state disk).files → (state disk).tells ≡ true → BeganFrom state tenure (first_machine disk) new began
    → (began.fence ≡ tenure) × (began.points ≡ [])
began_bare state disk tenure new began first none tells h =
    let held = h.held tells in
    let found = found_none (state disk).files held.all h.tenure_found h.fence_found none held.held in
    ((let is = h.fence_is in let low = found.2 in omega (arith, is, low, first)), once_none held.all began.points found.0 held.once)

began_so : {D : Type 0} (state : D → DiskState) (disk : D) (tenure : ℕ) (new : MachineState D) (said : Said) → tenure ≡ 1 → HasNoPoints (state disk).files → (state disk).tells ≡ true → IfOk said (BeganFrom state tenure (first_machine disk) new)
    → IfOk said (λ (began : Began). (began.fence ≡ tenure) × (began.points ≡ []))
began_so state disk tenure new (Ok began) first none tells h = began_bare state disk tenure new began first none tells h
began_so state disk tenure new (Err why) first none tells h = tt

unowned_not : {D : Type 0} (state : D → DiskState) (disk : D) (tenure : ℕ) → tenure ≡ 1 → HasNoPoints (state disk).files → (state disk).tells ≡ true → MayBeUnowned state tenure (first_machine disk) → ⊥
unowned_not state disk tenure first none tells (inl low) = absurd (omega (arith, low))
unowned_not state disk tenure first none tells (inr told) =
    let higher = told tells in
    let found = found_none (state disk).files higher.points higher.held_tenure higher.fence none higher.held in
    let above = higher.higher in
    let low = found.1 in
    absurd (omega (arith, above, low, first))

-- a promise that such a machine keeps
promised_bare : {D : Type 0} (state : D → DiskState) (disk : D) (start : Start) (new : MachineState D) (said : Said) → start.tenure ≡ 1 → HasNoPoints (state disk).files → (state disk).tells ≡ true
    → Begins state start.tenure (call.Begin start.tenure) said (first_machine disk) new → BeginsBare start said
promised_bare state disk start new said first none tells h = record {
  fence = began_so state disk start.tenure new said first none tells (h.began refl);
  owned = λ is. unowned_not state disk start.tenure first none tells (h.unowned is);
  sound = λ damage is. h.sound damage is tells (record { points = []; tenure = none.tenure; fence = none.fence; held = none.held });
}

same_some : {X : Type 0} (x y : X) → Some x ≡ Some y → x ≡ y
same_some x y e = cc

pub first_begins_bare : {D : Type 0} {G : Ghosts D} (state : D → DiskState) → ((d : D) → IsLawfulDisk (state d)) → (m : Members D G) → FirstBeginsBare state m
first_begins_bare {D} {G} state lawful m rf shards seed nodes old new tell bare first start i =
    let place = m.net.state.place in
    let was = (first.opened.taken).taken start.slot (subst (λ xs. IsIn xs start.slot) (sym first.slots) (start_slot place start i)) in
    let begun = first.opened.begun.each start i in
    let same : begun.before ≡ first_member was.disk = same_some begun.before (first_member was.disk) (sym begun.was ∙ was.stands) in
    let none = given_bare state (old.held (disk_slot_of start.slot)) was.disk (bare (disk_slot_of start.slot)) was.given in
    let tells = tell was.disk in
    let files = none tells (state was.disk).files ((lawful was.disk).read_is_image tells) in
    promised_bare state was.disk start begun.after.machine (first.opened.begun.said start.slot) (tenure_first place rf shards nodes first.place start i) files tells
    (subst (λ (x : Member D). Begins state start.tenure (call.Begin start.tenure) (first.opened.begun.said start.slot) x.machine begun.after.machine) same begun.promised)

-- ---- what it leaves

-- files that came from such ones, with the first tenure at most
came_bare : (base : Files → Type 0) (tried : List ℕ) (c : Files) → ((f : Files) → base f → HasNoPoints f) → ((t : ℕ) → IsIn tried t → t ≤ 1) → CameFrom base tried c → HasNoPoints c
came_bare base tried c none few came =
    let was = none came.before came.was in
    let now = came.stepped [] was.tenure was.fence was.held in
    let raised : now.raised_to ≤ 1 = elim now.one_of as (λ _. now.raised_to ≤ 1) [ inl zero_is ↦ omega (arith, zero_is) | inr i ↦ few now.raised_to i ] in
    let no_points : now.points ≡ [] = no_elements now.points (λ p i. (now.same p).0 i) in
    let order = was.order in
    let first = was.first in
    record { tenure = max was.tenure now.raised_to; fence = max was.fence now.raised_to; held = subst (λ ps. FilesHold ps (max was.tenure now.raised_to) (max was.fence now.raised_to) c) no_points now.held; order = omega (arith, order); first = omega (arith, first, raised) }

-- what a first begin leaves of a replica that never began, where it isn't done
low_one : (t : ℕ) → IsIn (1 ∷ []) t → t ≤ 1
low_one t (inl same) = omega (arith, same)
low_one t (inr none) = absurd none

low_none : (t : ℕ) → IsIn [] t → t ≤ 1
low_none t none = absurd none

-- the replica, begun with nothing
held_begun : (c : Files) (fence : ℕ) (points : List Point) → points ≡ [] → fence ≤ 1 → IsHeldBy (after fresh (call.Begin 1) (reply.Began fence points)) c → HasNoPoints c
held_begun c fence points none low h =
    let r = after fresh (call.Begin 1) (reply.Began fence points) in
    let no_points : h.points ≡ [] = no_elements h.points (λ p i.
    elim (each-from_All (λ q. IsIn r.sure q ⊎ IsIn r.doubt q) h.points h.source p i) as (λ _. ⊥) [ inl sure ↦ subst (λ xs. IsIn xs p) none sure | inr doubt ↦ doubt ]) in
    let tenure : h.tenure ≡ 1 = elim h.known as (λ _. h.tenure ≡ 1) [ inl begun ↦ elim begun as (λ _. h.tenure ≡ 1) [ inl same ↦ sym same | inr rest ↦ absurd rest ] | inr tried ↦ absurd tried.0 ] in
    let fence_low : (h.tenure ≤ h.fence) × (h.fence ≤ 1) = elim h.fence_is as (λ _. (h.tenure ≤ h.fence) × (h.fence ≤ 1)) [
      | inl same ↦ (omega (arith, same), omega (arith, same, tenure, low))
      | inr any ↦ absurd (IsIn-from_Any (λ doubtful. h.fence ≡ max doubtful (max h.tenure r.fence)) [] any).1
    ] in
    record { tenure = h.tenure; fence = h.fence; held = subst (λ ps. FilesHold ps h.tenure h.fence c) no_points h.held; order = fence_low.0; first = fence_low.1 }

module _ {D : Type 0} (state : D → DiskState) (disk : D) (bare : (c : Files) → (state disk).images c → HasNoPoints c) (tells : (state disk).tells ≡ true) (m : MachineState D) where
  unbegun : (tried : List ℕ) → ((t : ℕ) → IsIn tried t → t ≤ 1) → EachImage (state m.disk) (CameFrom (state disk).images tried) → EachImage (state m.disk) HasNoPoints
  unbegun tried few came told c image = came_bare (state disk).images tried c bare few (came told c image)

  -- by what it answered
  left_bare : (a : StepReply) → IsStep state (first_machine disk) (call.Begin 1) a m → EachImage (state m.disk) HasNoPoints
  left_bare (reply.Began fence points) step =
      let is = step.follows disk fresh (first_follows state disk) in
      let opening = step.opens disk fresh (first_follows state disk) tells refl in
      let files = came_bare (state disk).images [] opening.files bare low_none opening.came in
      let found = found_none opening.files opening.all opening.tenure_found opening.fence_found files opening.held in
      let none = once_none opening.all points found.0 opening.once in
      let low : fence ≤ 1 = (let same = opening.fence_is in let few = found.2 in omega (arith, same, few)) in
      λ told c image. held_begun c fence points none low (is.files (λ e. cc) told c image)
  left_bare (reply.Refused reason.Disk) step = unbegun (1 ∷ []) low_one ((step.follows disk fresh (first_follows state disk)).unbegun refl)
  left_bare (reply.Refused (reason.Corrupt damage)) step = unbegun [] low_none ((step.follows disk fresh (first_follows state disk)).unbegun refl)
  left_bare (reply.Refused why) step = unbegun [] low_none ((step.follows disk fresh (first_follows state disk)).unbegun refl)
  left_bare a step = unbegun [] low_none ((step.follows disk fresh (first_follows state disk)).unbegun refl)

pub opened_bare : {D : Type 0} (state : D → DiskState) → TellAll state → (depot : Depot D) (s : Slot) (m : Member D) → IsBare state (depot.held (disk_slot_of s)) → IsOpened state depot s m → EachImage (state m.machine.disk) HasNoPoints
opened_bare {D} state tell depot s m bare opened =
    let none = given_bare state (depot.held (disk_slot_of s)) opened.disk bare opened.given in
    let tells = tell opened.disk in
    elim opened.begun as (λ _. EachImage (state m.machine.disk) HasNoPoints) [
      | inl same ↦ subst (λ (x : Member D). EachImage (state x.machine.disk) HasNoPoints) (sym same) none
      | inr begun ↦
          let own = begun.1 in
          let is : own.0 ≡ m = same_some own.0 m (sym own.1) in
          let left = left_bare state opened.disk (none tells) tells own.3.0 begun.0 own.3.1 in
          let machine : m.machine ≡ own.3.0 = ap (λ (x : Member D). x.machine) (sym is) ∙ own.3.2 in
          subst (λ (x : MachineState D). EachImage (state x.disk) HasNoPoints) (sym machine) left
    ]

-- disks that were given back have no points still
pub returned_bare : {D : Type 0} (state : D → DiskState) → ReturnedBare state
returned_bare {D} state old new tell bare returned disk_slot =
    let s : Slot = record { shard = disk_slot.shard; node = disk_slot.node } in
    elim (returned.each s) as (λ _. IsBare state (new.held disk_slot)) [
      | inl untouched ↦ subst (IsBare state) (sym untouched.held) (bare disk_slot)
      | inr back ↦ subst (IsBare state) (sym back.held) (opened_bare state tell old s back.member (bare disk_slot) back.opened)
    ]
