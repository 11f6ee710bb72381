-- With what replicas first begin, by what lay in their slots.
use Rattle.std.proofs.Common.{◌≡◌, ℕ, zero, suc, List, [], ◌∷◌, ◌++◌, take, Bool, true, false, refl, sym, ap, subst, ◌∙◌, append_assoc, inl, inr}
use Rattle.std.specs.Prelude.{◌⊎◌, Option, Some, None, nat_eq, ◌&&◌, if◌then◌else◌}
use Rattle.std.specs.FinMap as finite
use Rattle.std.specs.List.{cons_option}
use Rattle.std.proofs.lemmas.Bool.{and_parts, and_from, eq-eqb, eqb-true}
use Rattle.std.proofs.lemmas.Grind.{fold-append}
use Rattle.std.proofs.lemmas.List.{append-nil}
use Rattle.std.proofs.lemmas.Option.{same_Some}
use Rattle.m3_model.specs.Members.{IsIn}
use Rattle.m3_model.specs.declared.point.Point.{Point}
use Rattle.m3_model.specs.declared.rules.MetaState.{MetaState}
use Rattle.m3_outside.specs.Depots.{Depot, TellAll}
use Rattle.m3_outside.specs.DiskState.{DiskState, EachImage, IsEmpty, IsLawfulDisk}
use Rattle.m3_outside.specs.Slots.{Held, MayGive}
use Rattle.m3_outside.specs.declared.slot.DiskSlot.{DiskSlot}
use Rattle.transcripts.specs.Record.{Record}
use Rattle.life_ends.specs.Lies.{MayLie}
use Rattle.life_ends.specs.Runs.{BeginWithThese}
use Rattle.life_ends.proofs.EndLemmas.{run_opens_standing}
use Rattle.shard_files.specs.Once.{HaveSamePoints}
use Rattle.shard_files.proofs.FilesHoldLemmas.{files_hold_one}
use Rattle.cluster_core.specs.Lists.{At}
use Rattle.cluster_core.specs.Replicas.{after, fresh, replica, step_of}
use Rattle.cluster_core.specs.declared.event.Event.{Event}
use Rattle.cluster_core.specs.declared.event.Event.TheVariants as event
use Rattle.cluster_core.specs.declared.event.StepCall.{StepCall}
use Rattle.cluster_core.specs.declared.event.StepCall.TheVariants as call
use Rattle.cluster_core.specs.declared.event.StepReply.{StepReply}
use Rattle.cluster_core.specs.declared.event.StepReply.TheVariants as reply
use Rattle.cluster_core.specs.declared.replica_state.ReplicaState.{ReplicaState}
use Rattle.cluster_core.proofs.ListLemmas.{at_in}
use Rattle.m3_model.proofs.MemberLemmas.{filter_map-IsIn}
use Rattle.node_calls.specs.replica_machine.Machines.{MachineState, IsMachineOf, first_machine}
use Rattle.node_calls.specs.replica_machine.Openings.{AllSound, BeginsAsMade}
use Rattle.node_calls.specs.replica_machine.Steps.{IsStep}
use Rattle.node_calls.proofs.replica_machine_proofs.OpeningLemmas.{first_begin_is_as_made}
use Rattle.node_calls.proofs.replica_machine_proofs.OtherLemmas.{first_follows}
use Rattle.node_calls.specs.replica_exchange.declared.member.Member.{Member}
use Rattle.node_calls.specs.replica_calls.Calls.{Tracked}
use Rattle.node_calls.specs.session_net.Runs.{Step, TakesSteps, slot_at, step_in, steps_of}
use Rattle.first_cluster.specs.Bare.{HasNoPoints}
use Rattle.first_cluster.specs.Depots.{disk_slot_of}
use Rattle.first_cluster.proofs.BareLemmas.{given_bare}
use Rattle.line_tracks.specs.tracks.Runs.{HaveRun, RunOpensAsLeft, RunOpensEmpty}
use Rattle.line_tracks.specs.tracks.Lain.{HadLain, lain_at, no_points}
use Rattle.line_tracks.proofs.tracks.LainLemmas.{given_sound, lies, some_lie}

-- ---- one event

module _ (n s : ℕ) where
  -- the event is no step of the slot
  pub record IsOther (e : Event) : Type 0 where
    pub none : step_in (slot_at n s) e ≡ None
    pub stays : (r : ReplicaState) → step_of n s r e ≡ r

  itself : (nat_eq n n && nat_eq s s) ≡ true
  itself = and_from (nat_eq n n) (nat_eq s s) (eq-eqb n n refl) (eq-eqb s s refl)

  pub own_step : (c : StepCall) (a : StepReply) → step_in (slot_at n s) (event.Step n s c a) ≡ Some (record { call = c; reply = a })
  own_step c a = ap (λ b. if b then Some (record { call = c; reply = a }) else None) itself

  own_after : (c : StepCall) (a : StepReply) (r : ReplicaState) → step_of n s r (event.Step n s c a) ≡ after r c a
  own_after c a r = ap (λ b. if b then after r c a else r) itself

  pub own_or : (e : Event) → ((c : StepCall) × (a : StepReply) × (e ≡ event.Step n s c a)) ⊎ IsOther e
  own_or (event.Step m t c a) = by (nat_eq m n && nat_eq t s) refl
    where
      by : (b : Bool) → (nat_eq m n && nat_eq t s) ≡ b → ((d : StepCall) × (x : StepReply) × (event.Step m t c a ≡ event.Step n s d x)) ⊎ IsOther (event.Step m t c a)
      by true is = let parts = and_parts (nat_eq m n) (nat_eq t s) is in inl (c, a, λ i. event.Step (eqb-true m n parts.0 i) (eqb-true t s parts.1 i) c a)
      by false is = inr (record { none = ap (λ b. if b then Some (record { call = c; reply = a }) else None) is; stays = λ r. ap (λ b. if b then after r c a else r) is })
  own_or (event.Ask asked) = inr (record { none = refl; stays = λ r. refl })
  own_or (event.Place place done) = inr (record { none = refl; stays = λ r. refl })
  own_or (event.Clock rules) = inr (record { none = refl; stays = λ r. refl })
  own_or (event.Send version sh point) = inr (record { none = refl; stays = λ r. refl })
  own_or (event.Ack send nodes) = inr (record { none = refl; stays = λ r. refl })
  own_or (event.FetchStart version sh rules pick from to) = inr (record { none = refl; stays = λ r. refl })
  own_or (event.FetchDone start nodes series) = inr (record { none = refl; stays = λ r. refl })

  replica_on : (past : List Event) (e : Event) → replica n s (past ++ e ∷ []) ≡ step_of n s (replica n s past) e
  replica_on past e = fold-append (step_of n s) fresh past (e ∷ [])

  -- ---- a replica's steps, one after the other

  module _ {D : Type 0} (state : D → DiskState) (first : D) (Holds : List Event → StepCall → StepReply → Type 0)
      (each : (past : List Event) (old new : MachineState D) (c : StepCall) (a : StepReply) → IsMachineOf state (state first).images (replica n s past) old → (state old.disk).tells ≡ true → IsStep state old c a new → Holds past c a) where
    -- of each step of the slot among these events it holds, behind whatever events the machine is the slot's replica of
    abbrev Along : List Event → Type 0
    Along more =
        (past : List Event) (m new : MachineState D) → IsMachineOf state (state first).images (replica n s past) m → (state m.disk).tells ≡ true → TakesSteps state (steps_of (slot_at n s) more) m new
        → (i : ℕ) (c : StepCall) (a : StepReply) → At more i (event.Step n s c a) → Holds (past ++ take i more) c a

    at_own : (more : List Event) → Along more → (past : List Event) (e : Event) (m mid new : MachineState D) (d : StepCall) (x : StepReply) → e ≡ event.Step n s d x → IsMachineOf state (state first).images (replica n s past) m → (state m.disk).tells ≡ true
        → IsStep state m d x mid → TakesSteps state (steps_of (slot_at n s) more) mid new → (i : ℕ) (c : StepCall) (a : StepReply) → At (e ∷ more) i (event.Step n s c a) → Holds (past ++ take i (e ∷ more)) c a
    at_own more rest past e m mid new d x is_e is tells step takes zero c a there =
        let same : event.Step n s d x ≡ event.Step n s c a = sym is_e ∙ same_Some e (event.Step n s c a) there in
        let same_call : d ≡ c = cc in
        let same_reply : x ≡ a = cc in
        subst (λ es. Holds es c a) (sym (append-nil past)) (subst (λ y. Holds past c y) same_reply (subst (λ y. Holds past y x) same_call (each past m mid d x is tells step)))
    at_own more rest past e m mid new d x is_e is tells step takes (suc i) c a there =
        let on : replica n s (past ++ e ∷ []) ≡ after (replica n s past) d x = replica_on past e ∙ ap (step_of n s (replica n s past)) is_e ∙ own_after d x (replica n s past) in
        let next : IsMachineOf state (state first).images (replica n s (past ++ e ∷ [])) mid = subst (λ r. IsMachineOf state (state first).images r mid) (sym on) (step.follows first (replica n s past) is) in
        subst (λ es. Holds es c a) (append_assoc past (e ∷ []) (take i more)) (rest (past ++ e ∷ []) mid new next (step.tells ∙ tells) takes i c a there)

    at_other : (more : List Event) → Along more → (past : List Event) (e : Event) (m new : MachineState D) → IsOther e → IsMachineOf state (state first).images (replica n s past) m → (state m.disk).tells ≡ true
        → TakesSteps state (steps_of (slot_at n s) more) m new → (i : ℕ) (c : StepCall) (a : StepReply) → At (e ∷ more) i (event.Step n s c a) → Holds (past ++ take i (e ∷ more)) c a
    at_other more rest past e m new other is tells takes zero c a there =
        let here : step_in (slot_at n s) e ≡ Some (record { call = c; reply = a }) = ap (step_in (slot_at n s)) (same_Some e (event.Step n s c a) there) ∙ own_step c a in
        let clash : ◌≡◌ {A = Option Step} None (Some (record { call = c; reply = a })) = sym other.none ∙ here in
        cc
    at_other more rest past e m new other is tells takes (suc i) c a there =
        let next : IsMachineOf state (state first).images (replica n s (past ++ e ∷ [])) m = subst (λ r. IsMachineOf state (state first).images r m) (sym (replica_on past e ∙ other.stays (replica n s past))) is in
        subst (λ es. Holds es c a) (append_assoc past (e ∷ []) (take i more)) (rest (past ++ e ∷ []) m new next tells takes i c a there)

    along : (more : List Event) → Along more
    along [] past m new is tells takes i c a there = cc
    along (e ∷ more) past m new is tells takes i c a there =
        elim (own_or e) as (λ _. Holds (past ++ take i (e ∷ more)) c a) [
          | inl own ↦ (let here : step_in (slot_at n s) e ≡ Some (record { call = own.0; reply = own.1 }) = ap (step_in (slot_at n s)) own.2 ∙ own_step own.0 own.1 in
              let all : TakesSteps state (record { call = own.0; reply = own.1 } ∷ steps_of (slot_at n s) more) m new = subst (λ o. TakesSteps state (cons_option o (steps_of (slot_at n s) more)) m new) here takes in
              at_own more (along more) past e m all.0 new own.0 own.1 own.2 is tells all.1 all.2 i c a there)
          | inr other ↦ at_other more (along more) past e m new other is tells (subst (λ o. TakesSteps state (cons_option o (steps_of (slot_at n s) more)) m new) other.none takes) i c a there
        ]

  -- a slot that took no step of some events has none among them
  pub none_there : (more : List Event) (i : ℕ) (c : StepCall) (a : StepReply) → steps_of (slot_at n s) more ≡ [] → At more i (event.Step n s c a) → ⊥
  none_there more i c a none there =
      let step : Step = record { call = c; reply = a } in
      let among = filter_map-IsIn (step_in (slot_at n s)) more (event.Step n s c a) step (at_in more i (event.Step n s c a) there) (own_step c a) in
      subst (λ xs. IsIn xs step) none among

  -- ---- over a whole run

  module _ {D : Type 0} (state : D → DiskState) (lay : DiskSlot → Held D) (depot : Depot D) (tell : TellAll state) (t : Tracked D) (h : HaveRun state lay depot t) (Holds : List Event → StepCall → StepReply → Type 0)
      (each : (first : D) → MayGive (λ d. IsEmpty (state d)) (lain_at lay n s) first → (past : List Event) (old new : MachineState D) (c : StepCall) (a : StepReply) → IsMachineOf state (state first).images (replica n s past) old → IsStep state old c a new → Holds past c a) where
    pub in_run : (i : ℕ) (c : StepCall) (a : StepReply) → At t.events i (event.Step n s c a) → Holds (take i t.events) c a
    in_run i c a there = by (finite.get t.members (slot_at n s)) refl
      where
        by : (o : Option (Member D)) → finite.get t.members (slot_at n s) ≡ o → Holds (take i t.events) c a
        by None none = absurd (none_there t.events i c a (h.others (slot_at n s) none) there)
        by (Some m) is =
            let r = h.each (slot_at n s) m is in
            let disk = (r.over).disk in
            let machine : (r.made).machine ≡ first_machine disk = ap (λ (x : Member D). x.machine) (r.over).is_first in
            let takes : TakesSteps state (steps_of (slot_at n s) t.events) (first_machine disk) ((r.stepped).0).machine = subst (λ y. TakesSteps state (steps_of (slot_at n s) t.events) y ((r.stepped).0).machine) machine (r.stepped).3 in
            along state disk Holds (λ past old new d x is_of tells step. each disk (r.over).given past old new d x is_of step) t.events [] (first_machine disk) ((r.stepped).0).machine
            (first_follows state disk) (tell disk) takes i c a there

-- ---- first begins

none_in : (xs : List Point) → HaveSamePoints xs [] → xs ≡ []
none_in [] same = refl
none_in (x ∷ xs) same = absurd ((same x).0 (inl refl))

-- a replica over a disk without points first begins with none
first_none : {D : Type 0} (state : D → DiskState) (first : D) → TellAll state → EachImage (state first) HasNoPoints → (r : ReplicaState) (tenure fence : ℕ) (points : List Point) (old new : MachineState D)
    → IsMachineOf state (state first).images r old → IsStep state old (call.Begin tenure) (reply.Began fence points) new → r.begun ≡ [] → points ≡ []
first_none {D} state first tell bare r tenure fence points old new is step none =
    let sound : AllSound (state first).images = λ files image. (let b = bare (tell first) files image in record { points = []; tenure = b.tenure; fence = b.fence; held = b.held }) in
    let began = first_begin_is_as_made state first r tenure fence points old new sound (tell old.disk) is none step in
    let b = bare (tell first) began.before began.was in
    let one = files_hold_one began.points_before [] began.tenure_before b.tenure began.fence_before b.fence began.before began.held_before b.held in
    let same : HaveSamePoints points [] = subst (λ (ps : List Point). HaveSamePoints points ps) one.0 began.once.same in
    none_in points same

pub run_opens_empty : {D : Type 0} (state : D → DiskState) (t : Tracked D) → RunOpensEmpty state t
run_opens_empty {D} state t lay depot tell bare h i n s tenure fence points there none =
    in_run n s state lay depot tell t h (λ past c a. (tenure fence : ℕ) (points : List Point) → c ≡ call.Begin tenure → a ≡ reply.Began fence points → (replica n s past).begun ≡ [] → points ≡ [])
    (λ first given past old new c a is step tenure fence points is_c is_a none.
    first_none state first tell (given_bare state (lain_at lay n s) first (bare (disk_slot_of (slot_at n s))) given) (replica n s past) tenure fence points old new is (subst (λ y. IsStep state old (call.Begin tenure) y new) is_a (subst (λ y. IsStep state old y a new) is_c step)) none)
    i (call.Begin tenure) (reply.Began fence points) there tenure fence points refl refl none

-- ---- first begins by what lay there

module _ {D : Type 0} (state : D → DiskState) (past : List Record) (start : Option MetaState) (lay : DiskSlot → Held D) (tell : TellAll state) (lain : HadLain state past start lay) (n s : ℕ) (first : D) (given : MayGive (λ d. IsEmpty (state d)) (lain_at lay n s) first) where
  begins : (r : ReplicaState) (tenure fence : ℕ) (points : List Point) (old new : MachineState D) → IsMachineOf state (state first).images r old → IsStep state old (call.Begin tenure) (reply.Began fence points) new → r.begun ≡ [] → (tried : List ℕ) × BeginsAsMade (MayLie state (lain_at lay n s)) tried fence points
  begins r tenure fence points old new is step none =
      let b = first_begin_is_as_made state first r tenure fence points old new (given_sound state past start lay tell lain n s first given) (tell old.disk) is none step in (
        r.tried ++ tenure ∷ [],
        record {
          before = b.before;
          was = lies state tell (lain_at lay n s) first given b.before b.was;
          points_before = b.points_before;
          tenure_before = b.tenure_before;
          fence_before = b.fence_before;
          held_before = b.held_before;
          once = b.once;
          fence_up = b.fence_up;
        },
      )

pub begins_so : {D : Type 0} (state : D → DiskState) (t : Tracked D) (past : List Record) (start : Option MetaState) (lay : DiskSlot → Held D) (depot : Depot D) → TellAll state → HadLain state past start lay → HaveRun state lay depot t → BeginWithThese state (lain_at lay) t.events
begins_so {D} state t past start lay depot tell lain h i n s tenure fence points there none =
    in_run n s state lay depot tell t h (λ before c a. (tenure fence : ℕ) (points : List Point) → c ≡ call.Begin tenure → a ≡ reply.Began fence points → (replica n s before).begun ≡ [] → (tried : List ℕ) × BeginsAsMade (MayLie state (lain_at lay n s)) tried fence points)
    (λ first given before old new c a is step tenure fence points is_c is_a none.
    begins state past start lay tell lain n s first given (replica n s before) tenure fence points old new is (subst (λ y. IsStep state old (call.Begin tenure) y new) is_a (subst (λ y. IsStep state old y a new) is_c step)) none)
    i (call.Begin tenure) (reply.Began fence points) there tenure fence points refl refl none

pub run_opens_as_left : {D : Type 0} (state : D → DiskState) → ((d : D) → IsLawfulDisk (state d)) → (t : Tracked D) → RunOpensAsLeft state t
run_opens_as_left state lawful t past None lay depot tell lain h legal = record { opening = no_points; agrees = run_opens_empty state t lay depot tell lain.bare h; stands = lain.stand }
run_opens_as_left state lawful t past (Some found) lay depot tell lain h legal =
    let some = λ (n s : ℕ). some_lie state lawful tell (lain_at lay n s) in
    run_opens_standing state past (Some found) t.events (lain_at lay) (λ n s. (some n s).0) legal lain.stand (λ n s. (some n s).1) (begins_so state t past (Some found) lay depot tell lain h)
