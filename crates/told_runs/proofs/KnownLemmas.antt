-- What is known of each call of a run, of each delivery and of each sweep: nodes have one name, slots had a replica, and moves explain their reasons.
use Rattle.std.proofs.Common.{◌≡◌, ◌≤◌, ◌<◌, ℕ, true, List, ◌∷◌, ◌++◌, take, length, refl, sym, ap, ◌∙◌, subst, inl, inr, arith, append_assoc, Bool}
use Rattle.std.specs.Prelude.{◌⊎◌, Some, None, Option, IsTrue, slice_get}
use Rattle.std.proofs.lemmas.List.{take-append-le}
use Rattle.m3_model.specs.Calls.{is_call}
use Rattle.m3_model.specs.Members.{IsIn}
use Rattle.m3_model.specs.declared.act.Act.{Act}
use Rattle.m3_model.specs.declared.act.Act.TheVariants as act
use Rattle.m3_model.specs.declared.placement.Instance.{Instance}
use Rattle.m3_model.specs.declared.placement.Placement.{Placement}
use Rattle.m3_model.specs.declared.reason.Reason.{Reason}
use Rattle.m3_model.specs.declared.reason.Reason.TheVariants as reason
use Rattle.m3_model.specs.declared.rules.MetaState.{MetaState}
use Rattle.m3_model.specs.declared.turn.Turn.{Turn}
use Rattle.placement_core.specs.Shards.{nodes_of, shard_at}
use Rattle.cluster_core.specs.Legal.{Legal}
use Rattle.cluster_core.specs.Lists.{At}
use Rattle.cluster_core.specs.declared.event.Event.{Event}
use Rattle.cluster_core.specs.declared.event.Event.TheVariants as event
use Rattle.cluster_core.specs.declared.event.StepCall.{StepCall}
use Rattle.cluster_core.specs.declared.event.StepCall.TheVariants as call
use Rattle.cluster_core.specs.declared.event.StepReply.TheVariants as reply
use Rattle.cluster_core.proofs.ListLemmas.{at_in}
use Rattle.transcripts.specs.Calls.{Call, call_of}
use Rattle.transcripts.specs.Deliveries.{IsBeside, IsLateMessage, LateMessage, shard_of_message}
use Rattle.transcripts.specs.Fates.{OfNode}
use Rattle.transcripts.specs.Faults.{Fault}
use Rattle.transcripts.specs.Peers.{IsJoinedWith}
use Rattle.transcripts.specs.Placements.{IsCounted, MayStand, has_replica, placement_after, printed, start_placement}
use Rattle.transcripts.specs.Reasons.{MayFail}
use Rattle.transcripts.specs.Record.{TurnPosition, IsTurnPosition, inner_turns}
use Rattle.told_by.specs.Hears.{HearsLate, IsHeard, IsLatePut, IsNamedBy, IsOwnCall}
use Rattle.told_by.specs.Told.{ToldBy}
use Rattle.told_by.proofs.LineLemmas.{line_below}
use Rattle.told_causes.specs.Boot.{IsBootAct, IsKnownMember, OwnsWhereBegun, WasMember}
use Rattle.told_causes.specs.Calls.{IsExplainedAt, IsExplained, IsKnownCall, IsNamedOnce, IsSteadyNode, IsUsedBy, Within}
use Rattle.told_causes.specs.Deliveries.{IsKnownDelivery}
use Rattle.told_causes.specs.Faults.{faults_told}
use Rattle.told_causes.specs.Standing.{HaltsAlone}
use Rattle.told_causes.specs.Peers.{IsKnownStream}
use Rattle.told_causes.specs.Sweeps.{IsKnownSweep, IsSweepAct}
use Rattle.told_causes.proofs.WaitLemmas.{member_at}
use Rattle.told_moves.specs.Moves.{IsAtVersion, IsPlacedIn, IsQuiet, IsRefusedAt, NotOwnedIsSaid, StaleIsSaid, StreamsAreOwned}
use Rattle.told_moves.specs.Order.{IsInOrder, OpensWithin}
use Rattle.told_moves.proofs.TenureLemmas.{member_named, name_everywhere}
use Rattle.told_runs.proofs.AnswerLemmas.{AreKnown}
use Rattle.told_runs.proofs.MemberLemmas.{counted_member, listed_member, was_there}
use Rattle.told_runs.proofs.UsedLemmas.{IsKnownPlace, used_known}

module _ {tells : Bool} (start : Option MetaState) (turns : List Turn) (events : List Event) (legal : Legal tells events) (told : ToldBy start turns events) (order : IsInOrder start turns events told) (halts : HaltsAlone turns) (opens : tells ≡ true → OpensWithin start events)
    (owns : tells ≡ true → (node shard : ℕ) → OwnsWhereBegun start turns events told node shard) (not_owned : NotOwnedIsSaid tells) (stale : StaleIsSaid) (streams : StreamsAreOwned tells) where
  abbrev faults : List Fault
  faults = faults_told told.ends events (length turns)

  -- a node of a lawful placement that has a shard has a name there
  member_called : (place : Placement) (z : ℕ) (done : List (ℕ × ℕ)) → At events z (event.Place place done) → (shard node : ℕ) → has_replica (Some place) shard node ≡ true → (i : Instance) × (slice_get place.instances node ≡ Some i)
  member_called place z done there shard node member =
      let m = member_at place shard node member in
      let listed = (order.lawful z place done there).spread m.shard (at_in place.shards shard m.shard m.there) in
      let own = listed.listed m.assigned m.among in
      (own.0, ap (slice_get place.instances) (sym m.of_node) ∙ own.1)

  placed_by : (p : TurnPosition) (place : Placement) → IsKnownPlace start turns events told p place → IsPlacedIn events place
  placed_by p place k = record { place_at = k.place_at; done = k.done; there = k.there }

  named_once : (place : Placement) (node : ℕ) → IsPlacedIn events place → (i : Instance) → slice_get place.instances node ≡ Some i → IsNamedOnce events place node
  named_once place node placed i stands =
      let named : OfNode place node (λ own. own ≡ i.name) = record { instance_ = i; stands = stands; holds = refl } in
      (i.name, named, name_everywhere events legal node place i.name placed named)

  -- ---- one turn

  module _ (p : TurnPosition) (at : IsTurnPosition turns p) (prints : printed p.turn.answer ≡ None) where
    -- a placement that is known, with a replica of the slot
    record IsSlotAt (place : Placement) (shard node : ℕ) : Type 0 where
      known : IsKnownPlace start turns events told p place
      member : has_replica (Some place) shard node ≡ true

    steady_at : (place : Placement) (shard node : ℕ) → IsSlotAt place shard node → IsSteadyNode start turns events told p place shard node
    steady_at place shard node slot =
        let k = slot.known in
        let i = member_called place k.place_at k.done k.there shard node slot.member in
        let once = named_once place node (placed_by p place k) i.0 i.1 in
        record { name = once.0; named = once.1; everywhere = once.2; there = was_there start turns events legal told order p at node shard }

    -- it was a member after so many lines
    was_member : (place : Placement) (shard node : ℕ) → IsSlotAt place shard node → WasMember start p shard node
    was_member place shard node slot =
        let w = (slot.known).members shard node slot.member in
        let front : take w.0 turns ≡ take w.0 p.lines = ap (take w.0) at.in_run ∙ take-append-le w.0 p.lines (p.line ∷ at.after) w.1 in
        record { lines = w.0; not_later = w.1; member = ap (λ o. has_replica o shard node) (ap (λ ls. placement_after (start_placement start) (inner_turns ls)) (sym front)) ∙ w.2 }

    known_member : tells ≡ true → (place : Placement) (shard node : ℕ) (slot : IsSlotAt place shard node) → (name : List ℕ) → IsNamedBy events node name → IsKnownMember start turns events told p shard node name
    known_member is place shard node slot name everywhere = record {
      places = order.places;
      slot = record {
        everywhere = everywhere;
        has_name = λ i other done there member. member_named start turns events legal told order i node shard other done name there everywhere member;
        owned = owns is node shard;
      };
      was = was_member place shard node slot;
    }

    refused_at : (place : Placement) (shard node : ℕ) → IsSlotAt place shard node → (steady : IsSteadyNode start turns events told p place shard node) → (c : StepCall) → IsAtVersion place.version c → (why : Reason)
        → (i : ℕ) × Within events told.spans p i (event.Step node shard c (reply.Refused why)) → IsRefusedAt start turns events told p place shard node why
    refused_at place shard node slot steady c version why step = record { placed = placed_by p place slot.known; name = steady.name; named = steady.named; asked = c; at_version = version; refused = step }

    -- what moves of the shard explain
    by_moves : (IsBootAct p.turn.act → ⊥) → (place : Placement) (shard node : ℕ) → IsSlotAt place shard node → IsSteadyNode start turns events told p place shard node → (c : StepCall) → IsAtVersion place.version c → (why : Reason)
        → (i : ℕ) × Within events told.spans p i (event.Step node shard c (reply.Refused why)) → IsExplained Unit (MayFail tells faults start p place shard node) why
    by_moves begins place shard node slot steady c version reason.NotOwned step = not_owned start turns events legal told order p at (record { begins_none = begins; prints_none = prints }) place shard node (refused_at place shard node slot steady c version reason.NotOwned step)
    by_moves begins place shard node slot steady c version (reason.Stale fence) step = λ is. stale start turns events (subst (λ (known : Bool). Legal known events) is legal) told order (opens is) p at (record { begins_none = begins; prints_none = prints }) place shard node fence (refused_at place shard node slot steady c version (reason.Stale fence) step)
    by_moves begins place shard node slot steady c version _ step = tt

    own_version : (version : ℕ) (c : StepCall) → IsOwnCall start p version c → IsAtVersion version c
    own_version version (call.Put client number rules at_version point) own = own.3
    own_version version (call.Read client number rules at_version pick from to) own = own.3
    own_version version _ own = absurd own

    late_version : (m : LateMessage) (c : StepCall) → IsLatePut start p m c → IsAtVersion (m.used).version c
    late_version m (call.Put client number rules version point) own = own.3
    late_version m _ own = absurd own

    -- why a replica of a known slot refused a call
    call_explained : (IsBootAct p.turn.act → ⊥) → (place : Placement) (shard node : ℕ) (slot : IsSlotAt place shard node) (steady : IsSteadyNode start turns events told p place shard node) (why : Reason) → IsHeard start (Within events told.spans p) p place shard node why
        → IsExplainedAt tells start turns events told p place shard node steady.name why
    call_explained begins place shard node slot steady reason.Boot h = λ is. known_member is place shard node slot steady.name steady.everywhere
    call_explained begins place shard node slot steady reason.NotOwned h = by_moves begins place shard node slot steady h.0 (own_version place.version h.0 h.1) reason.NotOwned h.2
    call_explained begins place shard node slot steady (reason.Stale fence) h = by_moves begins place shard node slot steady h.0 (own_version place.version h.0 h.1) (reason.Stale fence) h.2
    call_explained begins place shard node slot steady _ h = tt

    -- and a late message
    late_explained : (IsBootAct p.turn.act → ⊥) → (m : LateMessage) (shard : ℕ) (slot : IsSlotAt m.used shard m.node) (steady : IsSteadyNode start turns events told p m.used shard m.node) (why : Reason) → HearsLate start (Within events told.spans p) p m shard (Some why)
        → IsExplainedAt tells start turns events told p m.used shard m.node steady.name why
    late_explained begins m shard slot steady reason.Boot h = λ is. known_member is m.used shard m.node slot steady.name steady.everywhere
    late_explained begins m shard slot steady reason.NotOwned h = by_moves begins m.used shard m.node slot steady h.0 (late_version m h.0 h.1) reason.NotOwned h.2
    late_explained begins m shard slot steady (reason.Stale fence) h = by_moves begins m.used shard m.node slot steady h.0 (late_version m h.0 h.1) (reason.Stale fence) h.2
    late_explained begins m shard slot steady _ h = tt

    -- the placement that the turn's call uses
    used_slot : (place : Placement) → IsUsedBy start p place → (shard node : ℕ) → IsCounted place shard node → IsSlotAt place shard node
    used_slot place used shard node counted = record { known = used_known start turns events legal told order p at prints (used.call).version place used.may_use; member = counted_member place shard node counted }

    pub call_known : (IsBootAct p.turn.act → ⊥) → IsTrue (is_call p.turn.act) → IsKnownCall tells start turns events told p
    call_known begins calls = record {
      legal = legal;
      in_run = at;
      calls = calls;
      halts = halts;
      named = λ place used shard node h.
          let sent = h.3 in
          named_once place node (placed_by p place (used_known start turns events legal told order p at prints (used.call).version place used.may_use)) sent.instance_ sent.stands;
      explained = λ place used shard node why counted h.
          let slot = used_slot place used shard node counted in
          let steady = steady_at place shard node slot in
          (steady, call_explained begins place shard node slot steady why h);
    }

    -- ---- sweeps

    swept_slot : (place : Placement) → MayStand start p place → (shard node : ℕ) → IsIn (nodes_of (shard_at place shard)) node → IsSlotAt place shard node
    swept_slot place stands shard node among = record { known = used_known start turns events legal told order p at prints None place stands; member = listed_member place shard node among }

    pub sweep_known : IsSweepAct p.turn.act → (place : Placement) → MayStand start p place → IsKnownSweep tells start turns events told p place
    sweep_known sweeps place stands = record {
      legal = legal;
      in_run = at;
      sweeps = sweeps;
      explained = λ shard node among.
          let slot = swept_slot place stands shard node among in
          let steady = steady_at place shard node slot in
          (steady, λ is. known_member is place shard node slot steady.name steady.everywhere);
    }

    -- ---- streams

    pub stream_known : IsBootAct p.turn.act → (place moving : Placement) → MayStand start p place → MayStand start p moving → (shard version : ℕ) → IsJoinedWith moving shard version → IsKnownStream tells start turns events told p place shard version
    stream_known boots place moving stands goes_on shard version joins = record {
      legal = legal;
      in_run = at;
      boots = boots;
      explained = λ node among.
          let slot = swept_slot place stands shard node among in
          let steady = steady_at place shard node slot in
          (steady, λ is. known_member is place shard node slot steady.name steady.everywhere);
      unowned = λ node among h.
          let slot = swept_slot place stands shard node among in
          let steady = steady_at place shard node slot in
          record { tenure = version; moving = moving; stands = goes_on; joins = joins; unowned = streams start turns events legal told order p at prints place shard node version steady.name steady.named steady.everywhere h };
    }

    -- ---- late messages

    -- a late message's write is a turn of the run, not after this one
    made_in_run : (m : LateMessage) → IsLateMessage start p m → IsTurnPosition turns m.position × (length (m.position).lines ≤ length p.lines)
    made_in_run m late = by late.made
      where
        by : IsTurnPosition p.lines m.position ⊎ IsBeside p m.position → IsTurnPosition turns m.position × (length (m.position).lines ≤ length p.lines)
        by (inl before) =
            let q = m.position in
            let less : length q.lines < length p.lines = line_below p.lines q before in (
              record {
                after = before.after ++ p.line ∷ at.after;
                in_run = at.in_run ∙ ap (λ ls. ls ++ p.line ∷ at.after) before.in_run ∙ append_assoc q.lines (q.line ∷ before.after) (p.line ∷ at.after);
                stands = before.stands;
              },
              omega (arith, less),
            )
        by (inr beside) =
            let q = m.position in (
              record { after = at.after; in_run = at.in_run ∙ ap (λ ls. ls ++ p.line ∷ at.after) (sym beside.lines_are) ∙ ap (λ l. q.lines ++ l ∷ at.after) (sym beside.line_is); stands = beside.stands },
              omega (arith, ap length beside.lines_are),
            )

    module _ (silent : (q : TurnPosition) → IsTurnPosition turns q → IsTrue (is_call q.turn.act) → printed q.turn.answer ≡ None) where
      late_slot : (m : LateMessage) → IsLateMessage start p m → (shard : ℕ) → shard ≡ shard_of_message start m → IsSlotAt m.used shard m.node
      late_slot m late shard to =
          let made = made_in_run m late in
          let q = m.position in
          let calls : IsTrue (is_call q.turn.act) = call_is q.turn.act late.call late.of_call in
          let k = used_known start turns events legal told order q made.0 (silent q made.0 calls) (late.call).version m.used late.may_use in
          record {
            known = record { place_at = k.place_at; done = k.done; there = k.there; members = λ s n member. let w = k.members s n member in (w.0, omega (arith, w.1, made.1), w.2) };
            member = subst (λ s. has_replica (Some m.used) s m.node ≡ true) (sym to) late.member;
          }
        where
          call_is : (a : Act) (c : Call) → call_of a ≡ Some c → IsTrue (is_call a)
          call_is (act.Write ns id t v level version) c e = refl
          call_is (act.Fetch ns id from to level version) c e = refl
          call_is (act.Match ns wanted from to level version) c e = refl
          call_is _ c e = cc

      pub delivery_known : (IsBootAct p.turn.act → ⊥) → p.turn.act ≡ act.Deliver → IsKnownDelivery tells start turns events told p
      delivery_known begins delivers = record {
        legal = legal;
        in_run = at;
        delivers = delivers;
        halts = halts;
        named = λ m late shard h.
            let of_node = late.late in
            let k = (late_slot m late (shard_of_message start m) refl).known in
            named_once m.used m.node (placed_by p m.used k) of_node.instance_ of_node.stands;
        explained = λ m late shard to why h.
            let slot = late_slot m late shard to in
            let steady = steady_at m.used shard m.node slot in
            (steady, late_explained begins m shard slot steady why h);
      }

  -- ---- the run

  calls_quiet : (p : TurnPosition) → IsTrue (is_call p.turn.act) → printed p.turn.answer ≡ None → IsQuiet p
  calls_quiet p calls prints = record { begins_none = begins p.turn.act calls; prints_none = prints }
    where
      begins : (a : Act) → is_call a ≡ true → IsBootAct a → ⊥
      begins (act.Bootstrap node asked) e h = cc
      begins _ e h = h

  deliver_quiet : (p : TurnPosition) → p.turn.act ≡ act.Deliver → printed p.turn.answer ≡ None → IsQuiet p
  deliver_quiet p delivers prints = record { begins_none = λ h. subst IsBootAct delivers h; prints_none = prints }

  pub are_known : ((q : TurnPosition) → IsTurnPosition turns q → IsTrue (is_call q.turn.act) → printed q.turn.answer ≡ None) → AreKnown tells start turns events told
  are_known silent = record {
    calls = λ p at calls prints. call_known p at prints (calls_quiet p calls prints).begins_none calls;
    deliveries = λ p at delivers prints. delivery_known p at prints silent (deliver_quiet p delivers prints).begins_none delivers;
    sweeps = λ p at sweeps prints place stands. sweep_known p at prints sweeps place stands;
    streams = λ p at boots prints place moving stands goes_on shard version joins. stream_known p at prints boots place moving stands goes_on shard version joins;
  }
