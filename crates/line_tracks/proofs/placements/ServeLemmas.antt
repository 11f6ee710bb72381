-- What lines that make a placement leave of the list tells of them, and serves them.
use Rattle.std.proofs.Common.{◌≡◌, ◌≤◌, ◌+◌, ℕ, List, [], ◌∷◌, ◌++◌, length, refl, sym, ap, subst, inl, inr, arith, Bool, true, false}
use Rattle.std.specs.Prelude.{Option, Some, not}
use Rattle.std.specs.List.{flat_map}
use Rattle.m3_model.specs.Members.{IsIn}
use Rattle.m3_model.specs.declared.act.Act.{Act}
use Rattle.m3_model.specs.declared.answer.Answer.{Answer}
use Rattle.m3_model.specs.declared.answer.Answer.TheVariants as answer
use Rattle.m3_model.specs.declared.limits.TheConstants.{MOST_REQUEST_EVENTS}
use Rattle.m3_model.specs.declared.placement.Placement.{Placement}
use Rattle.m3_model.specs.declared.rules.MetaState.{MetaState}
use Rattle.m3_model.specs.declared.turn.Request.{Request}
use Rattle.m3_model.specs.declared.turn.Turn.{Turn}
use Rattle.m3_model.proofs.MemberLemmas.{IsIn-append_right}
use Rattle.m3_outside.specs.Depots.{Depot}
use Rattle.m3_outside.specs.DiskState.{DiskState}
use Rattle.m3_outside.specs.declared.disk.Disk.{Ghosts}
use Rattle.placement_core.specs.Lawful.{IsLawful}
use Rattle.placement_core.proofs.ListLemmas.{chosen}
use Rattle.told_runs.specs.placement_acts.Acts.{LeadsNowhere, LeadsTo, is_step_act}
use Rattle.cluster_core.specs.Legal.{Legal}
use Rattle.cluster_core.specs.declared.event.Event.{Event}
use Rattle.node_calls.specs.replica_exchange.declared.slot.Slot.{Slot}
use Rattle.node_calls.specs.replica_calls.Calls.{Tracked}
use Rattle.told_runs.specs.told_by.Steps.{AddsStep, EndsGone}
use Rattle.told_runs.specs.Lines.{IsToldAndServed, delivered_on}
use Rattle.told_runs.specs.Steps.{MeetsStep, untaken_after}
use Rattle.told_runs.proofs.LineLemmas.{plain_serves}
use Rattle.told_runs.proofs.StepLemmas.{refused_steps_serve, steps_serve, untaken_steps_serve}
use Rattle.transcripts.specs.Caused.{kept_after}
use Rattle.transcripts.specs.Deliveries.{LateMessage}
use Rattle.transcripts.specs.Faults.{Fault}
use Rattle.transcripts.specs.Placements.{has_replica}
use Rattle.transcripts.specs.Record.{Record, TurnPosition, inner_turns, line_of}
use Rattle.line_tracks.specs.calls.Left.{WereDelivered}
use Rattle.node_calls.specs.cluster_members.declared.members.Members.{Members}
use Rattle.m3_model.proofs.Lists.{IsIn-flat_map}
use Rattle.node_calls.proofs.ListLemmas.{flat_long}
use Rattle.first_cluster.specs.Slots.{slots_of}
use Rattle.first_cluster.proofs.SlotLists.{slot_replica}
use Rattle.line_tracks.proofs.acts.NothingLemmas.{no_room_tells}
use Rattle.cluster_placements.specs.Slots.{left_slots, new_slots}
use Rattle.cluster_placements.specs.Steps.{IsAsItWas, IsChanged, LacksDisk, LacksRoom, LeadsOn, MakesNext, end_at, step_events, step_length}
use Rattle.cluster_placements.proofs.PlacedLemmas.{few_left, new_free, new_placed}
use Rattle.line_tracks.specs.placements.Serves.{ChangesServe, IsServedOn, MayComeNext}

-- ---- the events of a step

turned_off : (t : Bool) → not t ≡ true → t ≡ false
turned_off true e = cc
turned_off false e = refl

-- tenures end only of replicas that the placement takes away
ends_gone : (place next : Placement) (e : Event) → IsIn (flat_map end_at (left_slots place next)) e → EndsGone next e
ends_gone place next e i =
    let from = IsIn-flat_map end_at (left_slots place next) e i in
    let gone = turned_off (has_replica (Some next) (from.0).shard (from.0).node) (chosen (λ s. not (has_replica (Some next) s.shard s.node)) (slots_of place) from.0 from.1) in
    by from.0 gone from.2
  where
    by : (s : Slot) → has_replica (Some next) s.shard s.node ≡ false → IsIn (end_at s) e → EndsGone next e
    by s gone (inl is) = subst (EndsGone next) is gone
    by s gone (inr (inl is)) = subst (EndsGone next) is gone
    by s gone (inr (inr none)) = absurd none

adds_step : (place next : Placement) → AddsStep next (step_events next (left_slots place next))
adds_step place next = record { ends = flat_map end_at (left_slots place next); gone = ends_gone place next; adds = refl }

step_few : (place next : Placement) → IsLawful place → step_length (left_slots place next) + 2 ≤ MOST_REQUEST_EVENTS
step_few place next lawful = let few = few_left place next lawful in omega (arith, few)

step_short : (place next : Placement) → IsLawful place → length (step_events next (left_slots place next)) ≤ MOST_REQUEST_EVENTS
step_short place next lawful =
    let long = flat_long end_at (λ s. refl) (left_slots place next) in
    let few = few_left place next lawful in
    omega (arith, long, few)

-- ---- lines

module _ {D : Type 0} {G : Ghosts D} (state : D → DiskState) (old : Members D G) (tells : Bool) (past : List Record) (start : Option MetaState) (turns : List Turn) (unanswered later : Option Request) (taking : List Fault) (was : TurnPosition → List LateMessage)
    (kept : ℕ) (a : Act) (depot : Depot D) (answered : Answer) (after : Depot D) (new : Members D G) (told : IsToldAndServed tells taking was past start turns unanswered old.net.replicas.events) (were : WereDelivered turns was) (step : is_step_act a ≡ true)
    (comes : MayComeNext start turns kept old) (legal : Legal tells new.net.replicas.events) (no_fall : depot.faults ≤ after.faults) where
  abbrev place : Placement
  place = old.net.state.place

  abbrev events : List Event
  events = old.net.replicas.events

  abbrev none_now : TurnPosition → List LateMessage
  none_now p = []

  abbrev Served : Answer → Type 0
  Served b = IsServedOn tells taking was past start turns later a b depot.faults after.faults new.net.replicas.events

  abbrev IsOn : List Fault → Answer → List Event → Type 0
  IsOn untaken b es = IsToldAndServed tells (untaken ++ taking) (delivered_on turns was none_now) past start (turns ++ line_of a b ∷ []) later es

  meets : MeetsStep start turns place a
  meets = record { is_step = step; stands = comes.left }

  leads_here : (next : Placement) → LeadsOn place kept a next → LeadsTo (Some place) (kept_after start (inner_turns turns) place) a next
  leads_here next on = subst (λ k. LeadsTo (Some place) k a next) comes.kept_is on.leads

  -- no disk was missed
  without : (b : Answer) → IsOn [] b new.net.replicas.events → Served b
  without b on = record { untaken = []; served = on; rose = omega (arith, no_fall) }

  -- nothing came to the list
  still : (untaken : List Fault) (b : Answer) → IsAsItWas old new → IsOn untaken b events → IsOn untaken b new.net.replicas.events
  still untaken b same on = subst (IsOn untaken b) (sym (ap (λ (t : Tracked D). t.events) same.replicas)) on

  -- the placement stands
  next_served : MakesNext state kept a depot old answered after new → Served answered
  next_served h =
      let next = h.next in
      let more = step_events next (left_slots place next) in
      let grew = h.placed.ran.grew in
      subst Served (sym h.answer_is) (without (answer.Placed next next.version) (subst (IsOn [] (answer.Placed next next.version)) (sym grew)
      (steps_serve past start turns unanswered later events taking was told place a next more meets (record {
        opened = comes.opened;
        leads = leads_here next h.leads;
        lawful = h.leads.lawful;
        adds = adds_step place next;
        few = step_short place next comes.lawful;
        legal = subst (Legal tells) grew legal;
      }))))

  -- its act leads nowhere
  nowhere_served : (b : Answer) → IsAsItWas old new → LeadsNowhere (Some place) kept a b → Served b
  nowhere_served b same nowhere =
      without b (still [] b same (refused_steps_serve past start turns unanswered later events taking was told place a b meets (subst (λ k. LeadsNowhere (Some place) k a b) comes.kept_is nowhere)))

  -- a disk couldn't be taken
  untaken_served : LacksDisk state kept a depot old answered after new → Served answered
  untaken_served h =
      let next = h.next in
      let slot = h.slot in
      let b = answer.Disk (h.node).name slot.shard in
      let one = untaken_after turns slot.node slot.shard in
      let i : IsIn (new_slots old.net.replicas.members next) slot = subst (λ slots. IsIn slots slot) (sym h.untaken.parts) (IsIn-append_right h.untaken.first (slot ∷ h.untaken.rest) slot (inl refl)) in
      subst Served (sym h.answer_is) (record {
        untaken = one ∷ [];
        served = still (one ∷ []) b h.same (untaken_steps_serve past start turns unanswered later events taking was told place a next (h.node).name slot.node slot.shard meets (leads_here next h.leads) (record {
          node = slot.node;
          named = record { instance_ = h.node; stands = h.named; holds = refl };
          member = slot_replica next slot (new_placed old.net.replicas.members next slot i);
          is_new = comes.had_none slot (new_free old.net.replicas.members next slot i);
          untaken = inl refl;
        }));
        rose = h.untaken.rose;
      })

  -- the list had no room
  full_served : LacksRoom kept a depot old answered after new → Served answered
  full_served h =
      let left = left_slots place h.next in
      let nothing = no_room_tells start turns events a (step_length left) (step_few place h.next comes.lawful) h.no_room in
      let line = nothing.line in
      subst Served (sym h.answer_is) (without answer.Full (still [] answer.Full h.same (subst (IsOn [] answer.Full) (sym line.grew)
      (plain_serves past start turns unanswered later events a answer.Full line.more [] taking [] was told line.line (line.serves tells was past were)))))

  pub change_served : IsChanged state kept a depot old answered after new → Served answered
  change_served (inl made) = next_served made
  change_served (inr (inl none)) = nowhere_served answered none.same none.nowhere
  change_served (inr (inr (inl disk))) = untaken_served disk
  change_served (inr (inr (inr (inl room)))) = full_served room
  change_served (inr (inr (inr (inr memory)))) = nowhere_served answered memory.same (inl memory.answer_is)

pub changes_serve : {D : Type 0} {G : Ghosts D} (state : D → DiskState) (old : Members D G) → ChangesServe state old
changes_serve state old tells past start turns unanswered later taking was kept a depot answered after new told were step comes legal no_fall changed =
    change_served state old tells past start turns unanswered later taking was kept a depot answered after new told were step comes legal no_fall changed
