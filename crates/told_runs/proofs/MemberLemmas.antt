-- Slots that are called had a replica: a Place gave them one before.
use Rattle.std.proofs.Common.{◌≡◌, ℕ, zero, suc, ◌<◌, ◌≤◌, List, ◌∷◌, take, length, refl, sym, ap, ◌∙◌, subst, inl, inr, arith, Bool, true}
use Rattle.std.specs.Prelude.{◌⊎◌, ⊤, Some, None, Option}
use Rattle.std.specs.Option.{option_or}
use Rattle.std.proofs.lemmas.Bool.{cases_lt}
use Rattle.std.proofs.lemmas.Option.{same_Some}
use Rattle.std.proofs.lemmas.List.{take-append-le}
use Rattle.m3_model.specs.Members.{IsIn}
use Rattle.m3_model.proofs.MemberLemmas.{IsIn-map}
use Rattle.m3_model.specs.declared.act.Act.{Act}
use Rattle.m3_model.specs.declared.act.Act.TheVariants as act
use Rattle.m3_model.specs.declared.placement.Assignment.{Assignment}
use Rattle.m3_model.specs.declared.placement.Placement.{Placement}
use Rattle.m3_model.specs.declared.reason.Damage.{Damage as Harm}
use Rattle.m3_model.specs.declared.reason.Reason.TheVariants as reason
use Rattle.m3_model.specs.declared.replica.Standing.{Standing}
use Rattle.m3_model.specs.declared.replica.Standing.TheVariants as standing
use Rattle.m3_model.specs.declared.rules.MetaState.{MetaState}
use Rattle.m3_model.specs.declared.turn.Turn.{Turn}
use Rattle.placement_core.specs.Shards.{is_available, nodes_of, shard_at}
use Rattle.placement_core.proofs.HolderLemmas.{chosen_node}
use Rattle.cluster_core.specs.Earlier.{HasTenure, GivesTenure, place_after}
use Rattle.cluster_core.specs.Legal.{Legal}
use Rattle.cluster_core.specs.Lists.{At}
use Rattle.cluster_core.specs.Refusals.{first_refusal, outdated, outside, reads_files, shut, unowned, untenured, uses_disk}
use Rattle.cluster_core.specs.Replicas.{replica}
use Rattle.cluster_core.specs.Rows.{IsTakenCall}
use Rattle.cluster_core.specs.declared.event.Asked.TheVariants as asked
use Rattle.cluster_core.specs.declared.event.Event.{Event}
use Rattle.cluster_core.specs.declared.event.Event.TheVariants as event
use Rattle.cluster_core.specs.declared.event.StepCall.{StepCall}
use Rattle.cluster_core.specs.declared.event.StepCall.TheVariants as call
use Rattle.cluster_core.specs.declared.event.StepReply.{StepReply}
use Rattle.cluster_core.specs.declared.event.StepReply.TheVariants as reply
use Rattle.cluster_core.specs.declared.replica_state.ReplicaState.{ReplicaState}
use Rattle.cluster_core.proofs.ListLemmas.{any_at, at_some, at_take, at_within, fold_suc}
use Rattle.cluster_core.proofs.TraceLemmas.{lawful_step, replica_suc, step_cases}
use Rattle.transcripts.specs.Caused.{HadBefore}
use Rattle.transcripts.specs.Faults.{Fault}
use Rattle.transcripts.specs.Placements.{HadReplica, IsCounted, has_replica, placements, printed}
use Rattle.transcripts.specs.Record.{TurnPosition, IsTurnPosition, inner_turns}
use Rattle.told_by.specs.Makes.{MayAsk}
use Rattle.told_by.specs.Told.{ToldBy}
use Rattle.told_by.proofs.LeaveLemmas.{place_there}
use Rattle.told_by.proofs.LineLemmas.{line_below}
use Rattle.told_causes.specs.Faults.{fault_of, faults_told}
use Rattle.told_causes.specs.Standing.{WasThere}
use Rattle.told_causes.proofs.AloneLemmas.{lines_before, take_none}
use Rattle.told_causes.proofs.FaultLemmas.{faults_steps}
use Rattle.told_causes.proofs.HaltLemmas.{late_step, opening_low}
use Rattle.told_causes.proofs.RefusalLemmas.{refused_law}
use Rattle.told_causes.proofs.RunLemmas.{open_by}
use Rattle.told_causes.proofs.StoodLemmas.{had_before as slot_before}
use Rattle.told_causes.proofs.WaitLemmas.{assigned_member, given_member as given_here, is_member_of, member_given}
use Rattle.told_moves.specs.Order.{IsInOrder}
use Rattle.told_moves.proofs.StoodLemmas.{known_before}
use Rattle.told_moves.proofs.AskLemmas.{begin_asked}

-- ---- members

pub counted_member : (place : Placement) (s n : ℕ) → IsCounted place s n → has_replica (Some place) s n ≡ true
counted_member place s n m = let a = chosen_node is_available (shard_at place s) n m in assigned_member place s n a.0 a.1 a.2

-- a node that has the shard has a replica of it
pub listed_member : (place : Placement) (s n : ℕ) → IsIn (nodes_of (shard_at place s)) n → has_replica (Some place) s n ≡ true
listed_member place s n m = let a = IsIn-map (λ (x : Assignment). x.node) (shard_at place s) n m in assigned_member place s n a.0 a.1 a.2

-- A Place before an event gives the slot a replica.
pub record HasMember (events : List Event) (i n s : ℕ) : Type 0 where
  pub place_at : ℕ
  pub place : Placement
  pub done : List (ℕ × ℕ)
  pub there : At events place_at (event.Place place done)
  pub before : place_at < i
  pub member : has_replica (Some place) s n ≡ true

sooner : (events : List Event) (i j n s : ℕ) → i ≤ j → HasMember events i n s → HasMember events j n s
sooner events i j n s low h = let early = h.before in record { place_at = h.place_at; place = h.place; done = h.done; there = h.there; before = omega (arith, early, low); member = h.member }

given_member : (events : List Event) (i n s tenure : ℕ) → HasTenure (take i events) n s tenure → HasMember events i n s
given_member events i n s tenure given =
    let x = any_at (GivesTenure n s tenure) (take i events) given in
    by x.0 x.1 x.2 x.3
  where
    by : (z : ℕ) (e : Event) → At (take i events) z e → GivesTenure n s tenure e → HasMember events i n s
    by z (event.Place place done) at gives =
        let there = at_take events z i (event.Place place done) at in
        record { place_at = z; place = place; done = done; there = there.0; before = there.1; member = given_here place n s gives.0 (λ t. t ≡ tenure) gives.1 gives.2 }
    by z _ at gives = absurd gives

-- ---- why a replica is open

shut_none : (x : Standing) → shut x ≡ None → x ≡ standing.Open
shut_none standing.Open e = refl
shut_none standing.Down e = cc
shut_none standing.Boot e = cc

or_none : {X : Type 0} (a b : Option X) → option_or a b ≡ None → a ≡ None
or_none None b e = refl
or_none (Some x) b e = cc

-- a call that uses the disk, but begins and restarts nothing, and that nothing stands against is of an open replica
abbrev IsForOpen : StepCall → Type 0
IsForOpen (call.Begin tenure) = ⊥
IsForOpen call.Restart = ⊥
IsForOpen call.Report = ⊥
IsForOpen call.End = ⊥
IsForOpen call.Stop = ⊥
IsForOpen _ = ⊤

taken_open : (r : ReplicaState) (c : StepCall) → IsForOpen c → first_refusal r c ≡ None → r.standing ≡ standing.Open
taken_open r (call.Begin tenure) kind e = absurd kind
taken_open r call.Restart kind e = absurd kind
taken_open r call.Report kind e = absurd kind
taken_open r call.End kind e = absurd kind
taken_open r call.Stop kind e = absurd kind
taken_open r (call.Put client number rules version point) kind e = shut_none r.standing (or_none (shut r.standing) (option_or (unowned r.tenure version) (option_or (outdated r.fence version) (outside rules point))) e)
taken_open r (call.Read client number rules version pick from to) kind e = shut_none r.standing (or_none (shut r.standing) (option_or (unowned r.tenure version) (outdated r.fence version)) e)
taken_open r (call.Fence version) kind e = shut_none r.standing (or_none (shut r.standing) (unowned r.tenure version) e)
taken_open r (call.Page from) kind e = shut_none r.standing (or_none (shut r.standing) (untenured r.tenure) e)
taken_open r (call.Block ns begin size from) kind e = shut_none r.standing (or_none (shut r.standing) (untenured r.tenure) e)
taken_open r (call.Digests rules) kind e = shut_none r.standing (or_none (shut r.standing) (untenured r.tenure) e)
taken_open r (call.Merge page) kind e = shut_none r.standing (or_none (shut r.standing) (untenured r.tenure) e)
taken_open r (call.Tick rules) kind e = shut_none r.standing e
taken_open r (call.Flush rules) kind e = shut_none r.standing e
taken_open r call.Snapshot kind e = shut_none r.standing e

module _ {tells : Bool} (start : Option MetaState) (turns : List Turn) (events : List Event) (legal : Legal tells events) (told : ToldBy start turns events) (order : IsInOrder start turns events told) where
  -- a replica that is begun is of a slot with a replica
  begin_member : (i n s tenure : ℕ) (a : StepReply) → At events i (event.Step n s (call.Begin tenure) a) → HasMember events i n s
  begin_member i n s tenure a there =
      let asked = begin_asked start turns events legal told i n s tenure a there in
      let ask = asked.2 in
      let place = place_there (take asked.0 events) ask.place ask.last in
      let at = at_take events place.0 asked.0 (event.Place ask.place place.1) place.2 in
      let given = ask.assigned in
      record { place_at = place.0; place = ask.place; done = place.1; there = at.0; before = omega (arith, at.1, asked.1); member = given_here ask.place n s given.0 (λ t. t ≡ tenure) given.1 given.2 }

  -- so is an open one
  open_member : (n s j : ℕ) → j ≤ length events → (replica n s (take j events)).standing ≡ standing.Open → HasMember events j n s
  open_member n s zero high open_ = let bad : standing.Boot ≡ standing.Open = sym (ap (λ es. (replica n s es).standing) (take_none events)) ∙ open_ in cc
  open_member n s (suc j) high open_ =
      let e = at_some events j (omega (arith, high)) in
      let r = replica n s (take j events) in
      let next = ap (λ (x : ReplicaState). x.standing) (replica_suc events legal n s j e.0 e.1) in
      elim (step_cases n s r e.0) as (λ _. HasMember events (suc j) n s) [
        | inl same ↦ sooner events j (suc j) n s (omega arith) (open_member n s j (omega (arith, high)) (sym (next ∙ ap (λ (x : ReplicaState). x.standing) same) ∙ open_))
        | inr own ↦ elim (open_by r own.0 own.1 (sym (next ∙ ap (λ (x : ReplicaState). x.standing) own.3) ∙ open_)) as (λ _. HasMember events (suc j) n s) [
          | inl was ↦ sooner events j (suc j) n s (omega arith) (open_member n s j (omega (arith, high)) was)
          | inr begins ↦
              sooner events j (suc j) n s (omega arith)
              (begin_member j n s begins.tenure own.1 (subst (λ c. At events j (event.Step n s c own.1)) begins.call_is (e.1 ∙ ap Some own.2)))
        ]
      ]

  -- ---- faults

  restart_member : (i n s : ℕ) (a : StepReply) → At events i (event.Step n s call.Restart a) → HasMember events i n s
  restart_member i n s a there =
      let late = late_step events legal i n s call.Restart a there in
      let above = opening_low start i late in
      by (told.makers i).turn.act ((told.tells).makes i (event.Step n s call.Restart a) above late there)
    where
      by : (x : Act) → MayAsk start (take i events) (told.makers i) x (asked.Step n s call.Restart) → HasMember events i n s
      by (act.Restart node pick) h = given_member events i n s (h.0).tenure (h.0).given
      by _ h = absurd h

  -- a step that its disk or its files failed is of a slot with a replica
  failed_member : (i n s : ℕ) (c : StepCall) (a : StepReply) → At events i (event.Step n s c a) → (IsForOpen c → (replica n s (take i events)).standing ≡ standing.Open) → (IsForOpen c ⊎ ((c ≡ call.Restart) ⊎ ((tenure : ℕ) × (c ≡ call.Begin tenure)))) → HasMember events i n s
  failed_member i n s c a there open_ (inl kind) = open_member n s i (let w = at_within events i (event.Step n s c a) there in omega (arith, w)) (open_ kind)
  failed_member i n s c a there open_ (inr (inl restarts)) = restart_member i n s a (subst (λ x. At events i (event.Step n s x a)) restarts there)
  failed_member i n s c a there open_ (inr (inr begins)) = begin_member i n s begins.0 a (subst (λ x. At events i (event.Step n s x a)) begins.1 there)

  abbrev Kinds : StepCall → Type 0
  Kinds c = IsForOpen c ⊎ ((c ≡ call.Restart) ⊎ ((tenure : ℕ) × (c ≡ call.Begin tenure)))

  by_use : (c : StepCall) → uses_disk c ≡ true → Kinds c
  by_use (call.Begin tenure) e = inr (inr (tenure, refl))
  by_use call.Restart e = inr (inl refl)
  by_use call.Report e = cc
  by_use call.End e = cc
  by_use call.Stop e = cc
  by_use (call.Put client number rules version point) e = inl tt
  by_use (call.Read client number rules version pick from to) e = inl tt
  by_use (call.Fence version) e = inl tt
  by_use (call.Page from) e = inl tt
  by_use (call.Block ns begin size from) e = inl tt
  by_use (call.Digests rules) e = inl tt
  by_use (call.Merge page) e = inl tt
  by_use (call.Tick rules) e = inl tt
  by_use (call.Flush rules) e = inl tt
  by_use call.Snapshot e = inl tt

  reads_use : (c : StepCall) → reads_files c ≡ true → uses_disk c ≡ true
  reads_use call.Report e = cc
  reads_use call.End e = cc
  reads_use call.Stop e = cc
  reads_use (call.Begin tenure) e = refl
  reads_use _ e = refl

  taken_free : (r : ReplicaState) (c : StepCall) → IsForOpen c → IsTakenCall tells r c → first_refusal r c ≡ None
  taken_free r (call.Begin tenure) kind h = absurd kind
  taken_free r (call.Put client number rules version point) kind h = h
  taken_free r _ kind h = h

  disk_member : (i n s : ℕ) (c : StepCall) → At events i (event.Step n s c (reply.Refused reason.Disk)) → HasMember events i n s
  disk_member i n s c there =
      let r = replica n s (take i events) in
      let law = refused_law tells (take i events) n s r c reason.Disk (lawful_step events legal i n s c (reply.Refused reason.Disk) there) in
      failed_member i n s c (reply.Refused reason.Disk) there (λ kind. taken_open r c kind (taken_free r c kind law.taken)) (by_use c law.uses)

  damage_member : (i n s : ℕ) (c : StepCall) (harm : Harm) → At events i (event.Step n s c (reply.Refused (reason.Corrupt harm))) → HasMember events i n s
  damage_member i n s c harm there =
      let r = replica n s (take i events) in
      let law = refused_law tells (take i events) n s r c (reason.Corrupt harm) (lawful_step events legal i n s c (reply.Refused (reason.Corrupt harm)) there) in
      failed_member i n s c (reply.Refused (reason.Corrupt harm)) there (λ kind. taken_open r c kind (taken_free r c kind law.taken)) (by_use c (reads_use c law.reads))

  fault_member : (i line : ℕ) (e : Event) (fault : Fault) → At events i e → fault_of line e ≡ Some fault → HasMember events i fault.node fault.shard
  fault_member i line (event.Step n s c (reply.Refused reason.Disk)) fault there tells = let same = same_Some _ fault tells in subst (λ (f : Fault). HasMember events i f.node f.shard) same (disk_member i n s c there)
  fault_member i line (event.Step n s c (reply.Refused (reason.Corrupt harm))) fault there tells = let same = same_Some _ fault tells in subst (λ (f : Fault). HasMember events i f.node f.shard) same (damage_member i n s c harm there)
  fault_member i line _ fault there tells = cc

  -- ---- transcripts

  -- what a Place before so many lines gave is known after them
  pub had_by : (k i n s : ℕ) → k ≤ length turns → i ≤ told.ends k → HasMember events i n s → HadReplica start (inner_turns (take k turns)) s n
  had_by k i n s high low h = let early = h.before in record { place = h.place; known = known_before start turns events legal told order k high h.place_at h.place h.done h.there (omega (arith, early, low)); member = h.member }

  -- the slot had a replica by each earlier fault of it
  pub was_there : (p : TurnPosition) → IsTurnPosition turns p → (n s : ℕ) → WasThere (faults_told told.ends events (length turns)) start p n s
  was_there p at n s fault m of_node of_shard early =
      let f = faults_steps told.ends events (length turns) fault m in
      let less : suc fault.line ≤ length turns = f.early in
      let high = f.high in
      let had = had_by (suc fault.line) f.position fault.node fault.shard less (omega (arith, high)) (fault_member f.position fault.line f.e fault f.there f.tells) in
      let front : take (suc fault.line) turns ≡ take (suc fault.line) p.lines = ap (take (suc fault.line)) at.in_run ∙ take-append-le (suc fault.line) p.lines (p.line ∷ at.after) early in
      subst (λ ls. HadReplica start (inner_turns ls) s n) front (subst (λ x. HadReplica start (inner_turns (take (suc fault.line) turns)) x n) of_shard (subst (HadReplica start (inner_turns (take (suc fault.line) turns)) fault.shard) of_node had))

  -- a slot that a restart asks had one before its line
  pub had_before : (p : TurnPosition) → IsTurnPosition turns p → printed p.turn.answer ≡ None → (i n s : ℕ) (a : StepReply) → i ≤ told.ends (suc (length p.lines)) → At events i (event.Step n s call.Restart a) → HadBefore start p s n
  had_before p at quiet i n s a high there =
      let h = restart_member i n s a there in
      let early = h.before in
      let less : length p.lines < length turns = line_below turns p at in
      elim (cases_lt h.place_at (told.ends (length p.lines))) as (λ _. HadBefore start p s n) [
        | inl lt ↦
            record {
              place = h.place;
              known = subst (λ ls. IsIn (placements start (inner_turns ls)) h.place) (lines_before start turns events legal told p at) (known_before start turns events legal told order (length p.lines) (omega (arith, less)) h.place_at h.place h.done h.there lt);
              member = h.member;
            }
        | inr ge ↦
            let was = slot_before start turns events legal told order.places p at quiet (suc h.place_at) (omega (arith, ge)) (omega (arith, early, high)) h.place (fold_suc place_after None events h.place_at (event.Place h.place h.done) h.there) in
            let given = member_given h.place s n h.member in
            let old = place_there (take (told.ends (length p.lines)) events) was.0 was.1 in
            let old_at = at_take events old.0 (told.ends (length p.lines)) (event.Place was.0 old.1) old.2 in
            record {
              place = was.0;
              known = subst (λ ls. IsIn (placements start (inner_turns ls)) was.0) (lines_before start turns events legal told p at) (known_before start turns events legal told order (length p.lines) (omega (arith, less)) old.0 was.0 old.1 old_at.0 old_at.1);
              member = is_member_of was.0 s n given.0 (was.3 n s given.0 given.1);
            }
      ]
