-- What a run that is tracked promises at its end.
use Rattle.std.proofs.Common.{◌≡◌, ◌≤◌, ◌<◌, ◌+◌, ◌-◌, ℕ, suc, List, [], ◌∷◌, ◌++◌, length, refl, sym, ap, subst, ◌∙◌, append_assoc, inl, inr, arith, Bool, true, false, cond, ◌&&◌}
use Rattle.std.specs.Prelude.{◌⊎◌, Option, Some, None, nat_eq, count_by, ◌||◌, if◌then◌else◌}
use Rattle.std.specs.FinMap as finite
use Rattle.std.specs.List.{cons_option}
use Rattle.std.proofs.lemmas.Bool.{and_from, eq-eqb}
use Rattle.std.proofs.lemmas.List.Sums.{count_by-le-length}
use Rattle.m3_model.specs.Members.{IsIn}
use Rattle.m3_model.proofs.MemberLemmas.{IsIn-append_cases, filter_map-IsIn}
use Rattle.m3_model.specs.declared.reason.Damage.{Damage}
use Rattle.m3_model.specs.declared.reason.Reason.TheVariants as reason
use Rattle.m3_model.specs.declared.turn.Request.{Request}
use Rattle.m3_model.specs.declared.turn.Turn.{Turn}
use Rattle.m3_model.specs.declared.rules.MetaState.{MetaState}
use Rattle.m3_outside.specs.Causes.{RoseBy, last_count}
use Rattle.m3_outside.specs.Depots.{Depot, TellAll}
use Rattle.m3_outside.specs.DiskState.{DiskState, IsLawfulDisk}
use Rattle.m3_outside.specs.declared.disk.Disk.{Ghosts}
use Rattle.m3_outside.specs.declared.slot.DiskSlot.{DiskSlot}
use Rattle.cluster_core.specs.Core.{AgreesWith}
use Rattle.cluster_core.specs.declared.event.Event.{Event}
use Rattle.cluster_core.specs.declared.event.Event.TheVariants as event
use Rattle.cluster_core.specs.declared.event.StepCall.{StepCall}
use Rattle.cluster_core.specs.declared.event.StepReply.TheVariants as reply
use Rattle.cluster_core.specs.Legal.{Legal}
use Rattle.told_runs.proofs.told_by_proofs.KeptLemmas.{told_kept}
use Rattle.told_runs.specs.told_causes.Faults.{fault_of, faults_told, tells_of}
use Rattle.told_runs.proofs.told_causes_proofs.FaultLemmas.{count_append, faults_steps}
use Rattle.told_runs.specs.Lines.{life_of}
use Rattle.told_runs.proofs.CausedLemmas.{told_caused}
use Rattle.told_runs.proofs.JoinedLemmas.{run_joined}
use Rattle.told_runs.proofs.CountedLemmas.{few, of_run}
use Rattle.transcripts.specs.Caused.{Caused}
use Rattle.transcripts.specs.Faults.{Fault, FaultKind, Taking, Failing, Damaged, is_failing, is_taking}
use Rattle.transcripts.specs.Record.{TurnPosition, IsTurnPosition, Record}
use Rattle.node_calls.specs.replica_exchange.declared.member.Member.{Member}
use Rattle.node_calls.specs.replica_exchange.declared.slot.Slot.{Slot}
use Rattle.node_calls.specs.replica_calls.Slots.{MemberMap}
use Rattle.node_calls.specs.session_net.Runs.{Step, slot_at, step_in, steps_of}
use Rattle.node_calls.specs.cluster_members.declared.members.Members.{Members}
use Rattle.first_cluster.specs.Depots.{count_at, disk_slot_of, risen}
use Rattle.line_tracks.specs.tracks.Ends.{AreGivenBack, CausedWhereTracked, JoinedWhereTracked, KeptWhereTracked, ShownWhereTracked, is_failed_at, is_fault}
use Rattle.line_tracks.specs.tracks.Failures.{failures_in}
use Rattle.line_tracks.specs.tracks.Runs.{HasNoDamage, RoseByFailures}
use Rattle.line_tracks.proofs.tracks.DamageLemmas.{run_finds_no_damage}
use Rattle.life_ends.specs.Runs.{OpensAsLeft}
use Rattle.cluster_core.proofs.ListLemmas.{at_in}
use Rattle.line_tracks.specs.tracks.Tracks.{MayStandSo, StandsSo, Tracks, events_of, faults_of}
use Rattle.line_tracks.specs.tracks.Lain.{no_points}
use Rattle.line_tracks.proofs.tracks.FailureLemmas.{failures_append, steps_append}
use Rattle.line_tracks.proofs.tracks.RunLemmas.{run_is_counted}
use Rattle.line_tracks.proofs.tracks.OpenLemmas.{run_opens_as_left}

-- a position in these turns is one in more of them
position_longer : (turns more : List Turn) (p : TurnPosition) → IsTurnPosition turns p → IsTurnPosition (turns ++ more) p
position_longer turns more p at = record { after = at.after ++ more; in_run = ap (λ ts. ts ++ more) at.in_run ∙ append_assoc p.lines (p.line ∷ at.after) more; stands = at.stands }

-- ---- kept

none_agrees : AgreesWith [] no_points
none_agrees i n s tenure fence points there none = cc

caused_front : (tells : Bool) (past : List Record) (start : Option MetaState) (turns more : List Turn) (unanswered : Option Request) (faults : List Fault) → Caused tells (life_of past start (turns ++ more) None) faults → Caused tells (life_of past start turns unanswered) faults
caused_front tells past start turns more unanswered faults c = record {
  different = c.different;
  delivered = c.delivered;
  each = λ p at. c.each p (position_longer turns more p at);
  once = λ p q at there. c.once p q (position_longer turns more p at) (position_longer turns more q there);
  whole = λ before line after e. c.whole before line (after ++ more) (ap (λ ts. ts ++ more) e ∙ append_assoc before (line ∷ after) more);
}

module _ {D : Type 0} {G : Ghosts D} (state : D → DiskState) where
  opens : ((d : D) → IsLawfulDisk (state d)) → (past : List Record) (start : Option MetaState) (members : Option (Members D G)) (now : Depot D) (turns : List Turn) → TellAll state → Legal true (events_of members) → MayStandSo state true past start now turns members → OpensAsLeft past start (events_of members)
  opens lawful past start None now turns tell legal h = subst (λ (x : Option MetaState). OpensAsLeft past x []) (sym h.found) (record { opening = no_points; agrees = none_agrees; stands = (h.lain refl).stand })
  opens lawful past start (Some m) now turns tell legal h = run_opens_as_left state lawful m.net.replicas past start h.lay now tell (h.lain refl) h.run legal

  pub kept_where_tracked : ((d : D) → IsLawfulDisk (state d)) → (members : Option (Members D G)) → KeptWhereTracked state members
  kept_where_tracked lawful members past start first now turns more calls unanswered t p at =
      let left = opens lawful past start members now (turns ++ more) (t.tell refl) t.legal t.after in
      told_kept (life_of past start (turns ++ more) None) (events_of members) left.opening t.legal left.agrees left.stands t.served.0 p (position_longer turns more p at)

  -- ---- caused

  pub caused_where_tracked : (members : Option (Members D G)) → CausedWhereTracked state members
  caused_where_tracked members tells past start first now turns more calls unanswered t =
      caused_front tells past start turns more unanswered (faults_of t) (told_caused (life_of past start (turns ++ more) None) (events_of members) t.legal t.served.0 t.taking t.delivered t.served.1)

  -- ---- joined

  pub joined_where_tracked : (members : Option (Members D G)) → JoinedWhereTracked state members
  joined_where_tracked members tells past start first now turns calls unanswered t = run_joined {tells = tells} (life_of past start turns None) (events_of members) t.legal t.served.0 t.taking t.delivered t.served.1

-- ---- counts of faults

count_cons : {X : Type 0} (p : X → Bool) (x : X) (xs : List X) → count_by p (x ∷ xs) ≡ (0 + cond (p x) 1 0) + count_by p xs
count_cons p x xs = count_append p (x ∷ []) xs

at_most : (b : Bool) → 0 + cond b 1 0 ≤ 1
at_most true = omega arith
at_most false = omega arith

count_none : {X : Type 0} (p : X → Bool) (xs : List X) → ((x : X) → IsIn xs x → p x ≡ false) → count_by p xs ≡ 0
count_none p [] none = refl
count_none p (x ∷ xs) none =
    let rest = count_none p xs (λ y i. none y (inr i)) in
    let here : 0 + cond (p x) 1 0 ≡ 0 = ap (λ b. 0 + cond b 1 0) (none x (inl refl)) in
    omega (arith, count_cons p x xs, rest, here)

-- a fault is of taking a disk, or of a disk, not of both
is_fault_sum : (f : Fault) → 0 + cond (is_fault f) 1 0 ≡ (0 + cond (is_taking f.kind) 1 0) + (0 + cond (is_failing f.kind) 1 0)
is_fault_sum f = by f.kind
  where
    by : (k : FaultKind) → 0 + cond (is_taking k || is_failing k) 1 0 ≡ (0 + cond (is_taking k) 1 0) + (0 + cond (is_failing k) 1 0)
    by Taking = omega arith
    by Failing = omega arith
    by Damaged = omega arith

faults_sum : (fs : List Fault) → count_by is_fault fs ≡ count_by (λ f. is_taking f.kind) fs + count_by (λ f. is_failing f.kind) fs
faults_sum [] = refl
faults_sum (f ∷ fs) =
    omega (arith, faults_sum fs, is_fault_sum f, count_cons is_fault f fs, count_cons (λ (g : Fault). is_taking g.kind) f fs, count_cons (λ (g : Fault). is_failing g.kind) f fs)

-- an event tells of no disk that couldn't be taken
told_kind : (k : ℕ) (e : Event) (f : Fault) → fault_of k e ≡ Some f → is_taking f.kind ≡ false
told_kind k (event.Step n s c (reply.Refused reason.Disk)) f is = let same : record { line = k; node = n; shard = s; kind = Failing } ≡ f = cc in ap (λ (g : Fault). is_taking g.kind) (sym same)
told_kind k (event.Step n s c (reply.Refused (reason.Corrupt damage))) f is = let same : record { line = k; node = n; shard = s; kind = Damaged } ≡ f = cc in ap (λ (g : Fault). is_taking g.kind) (sym same)
told_kind k _ f is = cc

taken_none : (ends : ℕ → ℕ) (events : List Event) (lines : ℕ) → count_by (λ f. is_taking f.kind) (faults_told ends events lines) ≡ 0
taken_none ends events lines = count_none (λ f. is_taking f.kind) (faults_told ends events lines) (λ f i. let told = faults_steps ends events lines f i in told_kind f.line told.e f told.tells)

-- an event that tells of damage is a step that found it
told_damage : (k : ℕ) (e : Event) (f : Fault) → fault_of k e ≡ Some f → f.kind ≡ Damaged → (n s : ℕ) × (c : StepCall) × (damage : Damage) × (e ≡ event.Step n s c (reply.Refused (reason.Corrupt damage)))
told_damage k (event.Step n s c (reply.Refused reason.Disk)) f is kind = (let same : record { line = k; node = n; shard = s; kind = Failing } ≡ f = cc in let clash : Failing ≡ Damaged = ap (λ (g : Fault). g.kind) same ∙ kind in cc)
told_damage k (event.Step n s c (reply.Refused (reason.Corrupt damage))) f is kind = (n, s, c, damage, refl)
told_damage k _ f is kind = cc

-- where no step found damage, none is told
undamaged_told : (ends : ℕ → ℕ) (events : List Event) (lines : ℕ) → HasNoDamage events → (f : Fault) → IsIn (faults_told ends events lines) f → ¬ (f.kind ≡ Damaged)
undamaged_told ends events lines clean f i kind =
    let told = faults_steps ends events lines f i in
    let d = told_damage f.line told.e f told.tells kind in
    clean d.0 d.1 d.2 d.3 (subst (IsIn events) d.4 (at_in events told.position told.e told.there))

-- those of taking are at most as many as couldn't be taken
taken_few : (taking : List Fault) (ends : ℕ → ℕ) (events : List Event) (lines : ℕ) → count_by (λ f. is_taking f.kind) (taking ++ faults_told ends events lines) ≤ length taking
taken_few taking ends events lines =
    omega (arith, count_append (λ (f : Fault). is_taking f.kind) taking (faults_told ends events lines), taken_none ends events lines, count_by-le-length (λ (f : Fault). is_taking f.kind) taking)

-- ---- failures of steps

abbrev failing : Fault → Bool
failing f = is_failing f.kind

steps_one : (s : Slot) (e : Event) (es : List Event) → failures_in (steps_of s (e ∷ es)) ≡ failures_in (steps_of s (e ∷ [])) + failures_in (steps_of s es)
steps_one s e es = ap failures_in (steps_append s (e ∷ []) es) ∙ failures_append (steps_of s (e ∷ [])) (steps_of s es)

-- an event tells that the slot's disk failed where it is such a step
one_event : (disk_slot : DiskSlot) (e : Event) → 0 + cond (tells_of (is_failed_at disk_slot) e) 1 0 ≡ failures_in (steps_of (slot_at disk_slot.node disk_slot.shard) (e ∷ []))
one_event disk_slot (event.Step n s c (reply.Refused reason.Disk)) = by (nat_eq n disk_slot.node && nat_eq s disk_slot.shard)
  where
    by : (b : Bool) → 0 + cond (true && b) 1 0 ≡ failures_in (cons_option (if b then Some (record { call = c; reply = reply.Refused reason.Disk }) else None) [])
    by true = refl
    by false = refl
one_event disk_slot (event.Step n s c a) = by (nat_eq n disk_slot.node && nat_eq s disk_slot.shard)
  where
    by : (b : Bool) → 0 ≡ failures_in (cons_option (if b then Some (record { call = c; reply = a }) else None) [])
    by true = refl
    by false = refl
one_event disk_slot _ = refl

at_slot : (disk_slot : DiskSlot) (events : List Event) → count_by (tells_of (is_failed_at disk_slot)) events ≡ failures_in (steps_of (slot_at disk_slot.node disk_slot.shard) events)
at_slot disk_slot [] = refl
at_slot disk_slot (e ∷ es) = omega (arith, count_cons (tells_of (is_failed_at disk_slot)) e es, one_event disk_slot e, at_slot disk_slot es, steps_one (slot_at disk_slot.node disk_slot.shard) e es)

-- ---- of one slot

rose_within : (n k before mid now shown : ℕ) → n ≤ k → before ≤ mid → RoseBy k mid now → shown ≡ now → RoseBy n before shown
rose_within n k before mid now shown few later rose is = omega arith

rose_still : (n k before mid shown : ℕ) → n ≤ k → k ≡ 0 → before ≤ mid → shown ≡ mid → RoseBy n before shown
rose_still n k before mid shown few none later is = omega arith

rose_by : (n before now : ℕ) → RoseBy n before now → now < last_count → n ≤ now - before
rose_by n before now rose low = omega arith

module _ {D : Type 0} {G : Ghosts D} (state : D → DiskState) where
  shown_at : (tells : Bool) (past : List Record) (start : Option MetaState) (first now : Depot D) (turns : List Turn) (members : Option (Members D G)) (all : ℕ) (of_disk : DiskSlot → ℕ) → MayStandSo state tells past start now turns members → AreGivenBack state now members all of_disk
      → (disk_slot : DiskSlot) → first.counted disk_slot ≤ now.counted disk_slot → (n : ℕ) → n ≤ failures_in (steps_of (slot_at disk_slot.node disk_slot.shard) (events_of members)) → RoseBy n (first.counted disk_slot) (of_disk disk_slot)
  shown_at tells past start first now turns None all of_disk h back disk_slot later n few = rose_still n 0 (first.counted disk_slot) (now.counted disk_slot) (of_disk disk_slot) few refl later (back.counted (slot_at disk_slot.node disk_slot.shard))
  shown_at tells past start first now turns (Some m) all of_disk h back disk_slot later n few = by (finite.get m.net.replicas.members slot) refl
    where
      slot : Slot
      slot = slot_at disk_slot.node disk_slot.shard

      rose : RoseByFailures state now m.net.replicas
      rose = (run_is_counted state m.net.replicas h.lay now h.run).1

      by : (o : Option (Member D)) → finite.get m.net.replicas.members (slot_at disk_slot.node disk_slot.shard) ≡ o → RoseBy n (first.counted disk_slot) (of_disk disk_slot)
      by None none =
          rose_still n (failures_in (steps_of (slot_at disk_slot.node disk_slot.shard) m.net.replicas.events)) (first.counted disk_slot) (now.counted disk_slot) (of_disk disk_slot) few (ap failures_in (rose.others (slot_at disk_slot.node disk_slot.shard) none)) later
          (back.counted (slot_at disk_slot.node disk_slot.shard) ∙ ap (λ o. count_at state now o (slot_at disk_slot.node disk_slot.shard)) none)
      by (Some r) is =
          rose_within n (failures_in (steps_of (slot_at disk_slot.node disk_slot.shard) m.net.replicas.events)) (first.counted disk_slot) (now.counted disk_slot) (state r.machine.disk).faults (of_disk disk_slot) few later (rose.rose (slot_at disk_slot.node disk_slot.shard) r is)
          (back.counted (slot_at disk_slot.node disk_slot.shard) ∙ ap (λ o. count_at state now o (slot_at disk_slot.node disk_slot.shard)) is)

-- ---- of all slots

-- how often the disks of these slots failed
abbrev in_all : List Slot → List Event → ℕ
in_all [] es = 0
in_all (s ∷ slots) es = failures_in (steps_of s es) + in_all slots es

-- an event tells of no failure, or is the step of a slot that its disk failed
told_event : (e : Event) → (tells_of failing e ≡ false) ⊎ ((n s : ℕ) × (c : StepCall) × (e ≡ event.Step n s c (reply.Refused reason.Disk)))
told_event (event.Step n s c (reply.Refused reason.Disk)) = inr (n, s, c, refl)
told_event _ = inl refl

own_failure : (n s : ℕ) (c : StepCall) → failures_in (steps_of (slot_at n s) (event.Step n s c (reply.Refused reason.Disk) ∷ [])) ≡ 1
own_failure n s c =
    let itself : (nat_eq n n && nat_eq s s) ≡ true = and_from (nat_eq n n) (nat_eq s s) (eq-eqb n n refl) (eq-eqb s s refl) in
    ap (λ b. failures_in (cons_option (if b then Some (record { call = c; reply = reply.Refused reason.Disk }) else None) [])) itself

no_less : (slots : List Slot) (e : Event) (es : List Event) → in_all slots es ≤ in_all slots (e ∷ es)
no_less [] e es = omega arith
no_less (s ∷ slots) e es = omega (arith, steps_one s e es, no_less slots e es)

one_more : (slots : List Slot) (n s : ℕ) (c : StepCall) (es : List Event) → IsIn slots (slot_at n s) → suc (in_all slots es) ≤ in_all slots (event.Step n s c (reply.Refused reason.Disk) ∷ es)
one_more [] n s c es i = absurd i
one_more (q ∷ slots) n s c es i =
    let e = event.Step n s c (reply.Refused reason.Disk) in
    elim i as (λ _. suc (in_all (q ∷ slots) es) ≤ in_all (q ∷ slots) (e ∷ es)) [
      | inl same ↦ (let here : failures_in (steps_of q (e ∷ [])) ≡ 1 = ap (λ r. failures_in (steps_of r (e ∷ []))) same ∙ own_failure n s c in omega (arith, steps_one q e es, here, no_less slots e es))
      | inr later ↦ omega (arith, steps_one q e es, one_more slots n s c es later)
    ]

-- each failure is of one of these slots
abbrev AreOf : List Slot → List Event → Type 0
AreOf slots es = (n s : ℕ) (c : StepCall) → IsIn es (event.Step n s c (reply.Refused reason.Disk)) → IsIn slots (slot_at n s)

many : (slots : List Slot) (es : List Event) → AreOf slots es → count_by (tells_of failing) es ≤ in_all slots es
many slots [] each = by slots
  where
    by : (slots : List Slot) → 0 ≤ in_all slots []
    by slots = omega arith
many slots (e ∷ es) each =
    let rest = many slots es (λ n s c i. each n s c (inr i)) in
    elim (told_event e) as (λ _. count_by (tells_of failing) (e ∷ es) ≤ in_all slots (e ∷ es)) [
      | inl none ↦ (let here : 0 + cond (tells_of failing e) 1 0 ≡ 0 = ap (λ b. 0 + cond b 1 0) none in omega (arith, count_cons (tells_of failing) e es, here, rest, no_less slots e es))
      | inr it ↦ (let here = at_most (tells_of failing e) in
          let more : suc (in_all slots es) ≤ in_all slots (e ∷ es) = subst (λ x. suc (in_all slots es) ≤ in_all slots (x ∷ es)) (sym it.3) (one_more slots it.0 it.1 it.2 es (each it.0 it.1 it.2 (inl it.3))) in
          omega (arith, count_cons (tells_of failing) e es, here, rest, more))
    ]

module _ {D : Type 0} (state : D → DiskState) (depot : Depot D) (members : MemberMap D) (events : List Event) where
  risen_all : (slots : List Slot) → ((s : Slot) → failures_in (steps_of s events) ≤ count_at state depot (finite.get members s) s - depot.counted (disk_slot_of s)) → in_all slots events ≤ risen state depot members slots
  risen_all [] each = omega arith
  risen_all (s ∷ slots) each = omega (arith, each s, risen_all slots each)

module _ {D : Type 0} {G : Ghosts D} (state : D → DiskState) (tells : Bool) (past : List Record) (start : Option MetaState) (now : Depot D) (turns : List Turn) (m : Members D G) (h : StandsSo state tells past start now turns m) (all : ℕ) (of_disk : DiskSlot → ℕ) (back : AreGivenBack state now (Some m) all of_disk) where
  abbrev rise : RoseByFailures state now m.net.replicas
  rise = (run_is_counted state m.net.replicas h.lay now h.run).1

  -- the failures are of the cluster's slots
  of_slots : AreOf m.slots.items m.net.replicas.events
  of_slots n s c i = h.stands.slots.are.all (slot_at n s) (λ none.
      let step : Step = record { call = c; reply = reply.Refused reason.Disk } in
      let among = filter_map-IsIn (step_in (slot_at n s)) m.net.replicas.events (event.Step n s c (reply.Refused reason.Disk)) step i (own n s c) in
      subst (λ xs. IsIn xs step) (rise.others (slot_at n s) none) among)
    where
      own : (n s : ℕ) (c : StepCall) → step_in (slot_at n s) (event.Step n s c (reply.Refused reason.Disk)) ≡ Some (record { call = c; reply = reply.Refused reason.Disk })
      own n s c = ap (λ b. if b then Some (record { call = c; reply = reply.Refused reason.Disk }) else None) (and_from (nat_eq n n) (nat_eq s s) (eq-eqb n n refl) (eq-eqb s s refl))

  few_at : ((disk_slot : DiskSlot) → of_disk disk_slot < last_count) → (s : Slot) → failures_in (steps_of s m.net.replicas.events) ≤ count_at state now (finite.get m.net.replicas.members s) s - now.counted (disk_slot_of s)
  few_at low s = by (finite.get m.net.replicas.members s) refl
    where
      by : (o : Option (Member D)) → finite.get m.net.replicas.members s ≡ o → failures_in (steps_of s m.net.replicas.events) ≤ count_at state now (finite.get m.net.replicas.members s) s - now.counted (disk_slot_of s)
      by None none = let zero : failures_in (steps_of s m.net.replicas.events) ≡ 0 = ap failures_in (rise.others s none) in omega (arith, zero)
      by (Some r) is =
          let count : count_at state now (finite.get m.net.replicas.members s) s ≡ (state r.machine.disk).faults = ap (λ o. count_at state now o s) is in
          let below : (state r.machine.disk).faults < last_count = subst (λ n. n < last_count) (back.counted s ∙ count) (low (disk_slot_of s)) in
          subst (λ n. failures_in (steps_of s m.net.replicas.events) ≤ n - now.counted (disk_slot_of s)) (sym count) (rose_by (failures_in (steps_of s m.net.replicas.events)) (now.counted (disk_slot_of s)) (state r.machine.disk).faults (rise.rose s r is) below)

  all_of : all < last_count → ((disk_slot : DiskSlot) → of_disk disk_slot < last_count) → now.faults + count_by (tells_of failing) m.net.replicas.events ≤ all
  all_of low each =
      let first = many m.slots.items m.net.replicas.events of_slots in
      let next = risen_all state now m.net.replicas.members m.net.replicas.events m.slots.items (few_at each) in
      let rose = back.rose h.apart in
      sum now.faults (count_by (tells_of failing) m.net.replicas.events) (in_all m.slots.items m.net.replicas.events) (risen state now m.net.replicas.members m.slots.items) all first next rose low
    where
      sum : (before told at_all rise all : ℕ) → told ≤ at_all → at_all ≤ rise → RoseBy rise before all → all < last_count → before + told ≤ all
      sum before told at_all rise all first next rose low = omega arith

module _ {D : Type 0} {G : Ghosts D} (state : D → DiskState) where
  told_by_all : (tells : Bool) (past : List Record) (start : Option MetaState) (now : Depot D) (turns : List Turn) (members : Option (Members D G)) → MayStandSo state tells past start now turns members → (all : ℕ) (of_disk : DiskSlot → ℕ) → AreGivenBack state now members all of_disk
      → all < last_count → ((disk_slot : DiskSlot) → of_disk disk_slot < last_count) → now.faults + count_by (tells_of failing) (events_of members) ≤ all
  told_by_all tells past start now turns None h all of_disk back low each = let later = back.later in omega (arith, later)
  told_by_all tells past start now turns (Some m) h all of_disk back low each = all_of state tells past start now turns m h all of_disk back low each

  none_damaged : ((d : D) → IsLawfulDisk (state d)) → (past : List Record) (start : Option MetaState) (members : Option (Members D G)) (now : Depot D) (turns : List Turn) → TellAll state → MayStandSo state true past start now turns members → HasNoDamage (events_of members)
  none_damaged lawful past start None now turns tell h = λ n s c damage i. i
  none_damaged lawful past start (Some m) now turns tell h = run_finds_no_damage state lawful m.net.replicas past start h.lay now tell (h.lain refl) h.run

  undamaged_all : ((d : D) → IsLawfulDisk (state d)) → (tells : Bool) (past : List Record) (start : Option MetaState) (first now : Depot D) (turns : List Turn) (members : Option (Members D G)) (calls : List ℕ) (t : Tracks state tells past start first now turns members calls) → tells ≡ true → (f : Fault) → IsIn (faults_of t) f → ¬ (f.kind ≡ Damaged)
  undamaged_all lawful tells past start first now turns members calls t e f i kind =
      elim (IsIn-append_cases t.taking (faults_told (t.served.0).ends (events_of members) (length turns)) f i) as (λ _. ⊥) [
        | inl untaken ↦ (let clash : Taking ≡ Damaged = sym (((t.served.1).answers).untaken f untaken).0 ∙ kind in cc)
        | inr told ↦ undamaged_told (t.served.0).ends (events_of members) (length turns) (none_damaged lawful past start members now turns (t.tell e) (subst (λ b. MayStandSo state b past start now turns members) e t.after)) f told kind
      ]

  pub shown_where_tracked : ((d : D) → IsLawfulDisk (state d)) → (members : Option (Members D G)) → ShownWhereTracked state members
  shown_where_tracked lawful members tells past start first now turns calls all of_disk t back = record {
    undamaged = undamaged_all lawful tells past start first now turns members calls t;
    of_lines = of_run (life_of past start turns None) (events_of members) t.served.0 t.taking t.delivered t.served.1;
    of_taking = taken first.faults now.faults all (length t.taking) (count_by (λ f. is_taking f.kind) (faults_of t)) t.untaken back.later (taken_few t.taking (t.served.0).ends (events_of members) (length turns));
    of_disks = λ disk_slot. shown_at state tells past start first now turns members all of_disk t.after back disk_slot (t.later disk_slot) (count_by (is_failed_at disk_slot) (faults_of t))
        (subst (λ n. count_by (is_failed_at disk_slot) (faults_of t) ≤ n) (at_slot disk_slot (events_of members))
        (few (life_of past start turns None) (events_of members) t.served.0 t.taking t.delivered t.served.1 (is_failed_at disk_slot) (λ f. refl) (λ f is. ap (λ k. is_failing k && (nat_eq f.node disk_slot.node && nat_eq f.shard disk_slot.shard)) is)));
    of_all = λ low each.
        whole first.faults now.faults all (length t.taking) (count_by (λ f. is_taking f.kind) (faults_of t)) (count_by failing (faults_of t)) (count_by is_fault (faults_of t)) (count_by (tells_of failing) (events_of members)) t.untaken
        (taken_few t.taking (t.served.0).ends (events_of members) (length turns))
        (few (life_of past start turns None) (events_of members) t.served.0 t.taking t.delivered t.served.1 failing (λ f. refl) (λ f is. ap is_failing is))
        (faults_sum (faults_of t)) (told_by_all tells past start now turns members t.after all of_disk back low each) low;
  }
    where
      taken : (before mid all many n : ℕ) → RoseBy many before mid → mid ≤ all → n ≤ many → RoseBy n before all
      taken before mid all many n rose later few = omega arith

      whole : (before mid all many taken failed faults told : ℕ) → RoseBy many before mid → taken ≤ many → failed ≤ told → faults ≡ taken + failed → mid + told ≤ all → all < last_count → before + faults ≤ all
      whole before mid all many taken failed faults told rose few less sum up low = omega arith
