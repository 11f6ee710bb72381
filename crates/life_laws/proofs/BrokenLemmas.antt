-- What files have that stand for some runs.
use Rattle.std.proofs.Common.{◌≡◌, ◌≤◌, ℕ, List, [], ◌∷◌, ◌++◌, length, refl, sym, subst, ◌∙◌, inl, inr, arith}
use Rattle.std.specs.Prelude.{Option, Some, None}
use Rattle.std.specs.FinMap.{empty}
use Rattle.std.proofs.lemmas.Option.{same_Some}
use Rattle.m3_model.specs.Hash.{shard_of}
use Rattle.m3_model.specs.Levels.{majority}
use Rattle.m3_model.specs.Members.{IsIn}
use Rattle.m3_model.specs.Rules.{HasExpired}
use Rattle.m3_model.specs.declared.point.Point.{Point}
use Rattle.m3_model.specs.declared.rules.MetaState.{MetaState}
use Rattle.m3_outside.specs.Depots.{TellAll}
use Rattle.m3_outside.specs.DiskState.{DiskState, IsLawfulDisk}
use Rattle.m3_outside.specs.Files.{Files}
use Rattle.m3_outside.specs.Slots.{Held, Here, Out, Unused}
use Rattle.m3_outside.specs.declared.slot.DiskSlot.{DiskSlot}
use Rattle.shard_files.specs.FilesHold.{FilesHold}
use Rattle.shard_files.proofs.FilesHoldLemmas.{files_hold_one}
use Rattle.placement_log.specs.MetaHolds.{MetaHolds}
use Rattle.placement_log.proofs.LastLemmas.{last_is_one}
use Rattle.transcripts.specs.Left.{IsLeft, sent_earlier}
use Rattle.transcripts.specs.Points.{point_of}
use Rattle.transcripts.specs.Record.{Record}
use Rattle.life_ends.specs.Lies.{MayLie}
use Rattle.saved_cluster.specs.first_cluster.Depots.{IsForReplicas, meta_slot}
use Rattle.m3_program.specs.Lives.{FilesStandFor, FollowsFrom, IsLowFor, SlotHolds, replica_slot}
use Rattle.m3_program.specs.Saved.{LeaveState, MayBeLast, MayLead}
use Rattle.life_laws.specs.Broken.{AckedPointsAreHeld, HighNumbersAreRefused, IdleRunsLeaveAll, OtherStatesAreRefused, SomeFilesStand, StateIsLeft, StrangePointsAreRefused}

-- ---- some files

some_files : {D : Type 0} (state : D → DiskState) → ((d : D) → IsLawfulDisk (state d)) → TellAll state → (held : Held D) → (files : Files) × MayLie state held files
some_files state lawful tell Unused = (empty, refl)
some_files state lawful tell (Here disk) = ((state disk).files, (lawful disk).read_is_image (tell disk))
some_files state lawful tell Out = (empty, refl)

pub some_files_stand : {D : Type 0} (state : D → DiskState) → ((d : D) → IsLawfulDisk (state d)) → SomeFilesStand state
some_files_stand state lawful past held stands =
    let some = λ (slot : DiskSlot). some_files state lawful stands.tell (held slot) in
    ((λ slot. (some slot).0), (λ slot. (some slot).1), stands.each (λ slot. (some slot).0) (λ slot. (some slot).1))

-- ---- the meta disk's state

module _ (past : List Record) (files : DiskSlot → Files) (stands : FilesStandFor past files) where
  -- it is the one that its files hold
  state_is : (state : Option MetaState) → MetaHolds state (files meta_slot) → stands.state ≡ state
  state_is state holds = last_is_one stands.state state (files meta_slot) stands.last holds

  slot_at_state : (state : Option MetaState) → MetaHolds state (files meta_slot) → (n s : ℕ) → IsForReplicas (replica_slot n s) → SlotHolds state n s (stands.held n s) (files (replica_slot n s))
  slot_at_state state holds n s away = subst (λ (o : Option MetaState). SlotHolds o n s (stands.held n s) (files (replica_slot n s))) (state_is state holds) (stands.slots n s away)

-- the last of some runs
follows_last : (was : Option MetaState) (past : List Record) (run : Record) (state : Option MetaState) → FollowsFrom was (past ++ run ∷ []) state → FollowsFrom was past run.start × MayBeLast run.start run.turns run.unanswered state
follows_last was [] run state (same, next, may, is) = (sym same, subst (MayBeLast run.start run.turns run.unanswered) is may)
follows_last was (first ∷ past) run state (same, next, may, rest) = let last = follows_last next past run state rest in ((same, next, may, last.0), last.1)

pub state_is_left : StateIsLeft
state_is_left past run state files stands holds = follows_last None past run state (subst (FollowsFrom None (past ++ run ∷ [])) (state_is (past ++ run ∷ []) files stands state holds) stands.follows)

-- where each request got its reply, it is what the turns left
answered_left : (state : Option MetaState) (run : Record) → run.unanswered ≡ None → MayBeLast run.start run.turns run.unanswered state → LeaveState run.start run.turns state
answered_left state run none may = elim may.is as (λ _. LeaveState run.start run.turns state) [
  | inl same ↦ subst (LeaveState run.start run.turns) (sym same) may.leave
  | inr led ↦ absurd (subst (λ o. MayLead run.start run.turns may.state o state) none led)
]

pub other_states_are_refused : OtherStatesAreRefused
other_states_are_refused past run state files stands holds none =
    let l = answered_left (Some state) run none (state_is_left past run (Some state) files stands holds).1 in
    (l.rules, l.place)

pub idle_runs_leave_all : IdleRunsLeaveAll
idle_runs_leave_all past found state files stands holds =
    let run : Record = record { start = Some found; turns = []; unanswered = None } in
    let l = answered_left (Some state) run refl (state_is_left past run (Some state) files stands holds).1 in
    let place : found.place ≡ state.place = same_Some found.place state.place l.place in
    λ i. record { rules = sym l.rules i; seed = sym l.seed i; place = sym place i }

-- ---- what slots hold

module _ (past : List Record) (state : Option MetaState) (files : DiskSlot → Files) (stands : FilesStandFor past files) (holds : MetaHolds state (files meta_slot)) (n s tenure fence : ℕ) (points : List Point) (away : IsForReplicas (replica_slot n s)) (held : FilesHold points tenure fence (files (replica_slot n s))) where
  abbrev there : SlotHolds state n s (stands.held n s) (files (replica_slot n s))
  there = slot_at_state past files stands state holds n s away

  same_points : stands.held n s ≡ points
  same_points = (files_hold_one (stands.held n s) points there.tenure tenure there.fence fence (files (replica_slot n s)) there.whole.held held).0

  same_numbers : (there.tenure ≡ tenure) × (there.fence ≡ fence)
  same_numbers = let one = files_hold_one (stands.held n s) points there.tenure tenure there.fence fence (files (replica_slot n s)) there.whole.held held in (one.1, one.2)

pub strange_points_are_refused : StrangePointsAreRefused
strange_points_are_refused past state files stands holds n s tenure fence points away held point i =
    let was = stands.stands.sent n s point (subst (λ (ps : List Point). IsIn ps point) (sym (same_points past (Some state) files stands holds n s tenure fence points away held)) i) in
    let same : was.state ≡ state = same_Some was.state state (sym was.found ∙ state_is past files stands (Some state) holds) in
    subst (λ (x : MetaState). IsIn (sent_earlier past x.rules.spaces) point) same was.among

pub high_numbers_are_refused : HighNumbersAreRefused
high_numbers_are_refused past state files stands holds n s tenure fence points away held =
    let h = slot_at_state past files stands (Some state) holds n s away in
    let same = same_numbers past (Some state) files stands holds n s tenure fence points away held in
    let fence_is = same.1 in
    let fenced = h.low.1 in
    (subst (IsLowFor state.place n s) same.0 h.low.0, omega (arith, fence_is, fenced))

pub acked_points_are_held : AckedPointsAreHeld
acked_points_are_held past state files stands holds turn among nodes is enough point of_act alive =
    let c = stands.stands.acked turn among nodes is in
    let same : c.state ≡ state = same_Some c.state state (sym c.found ∙ state_is past files stands (Some state) holds) in
    let of_state : point_of state.rules.spaces turn.act ≡ Some c.point = subst (λ (x : MetaState). point_of x.rules.spaces turn.act ≡ Some c.point) same c.of_act in
    let point_is : c.point ≡ point = same_Some c.point point (sym of_state ∙ of_act) in
    let left = subst (λ (x : MetaState). majority x.place.rf ≤ length nodes → ¬ HasExpired x.rules c.point → IsLeft stands.held x.place (shard_of c.point.id x.seed (length x.place.shards)) c.point) same c.left in
    subst (λ (p : Point). majority state.place.rf ≤ length nodes → ¬ HasExpired state.rules p → IsLeft stands.held state.place (shard_of p.id state.seed (length state.place.shards)) p) point_is left enough alive
