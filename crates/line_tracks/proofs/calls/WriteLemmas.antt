-- A write's events tell of its line.
use Rattle.std.proofs.Common.{◌≡◌, ℕ, zero, suc, ◌+◌, ◌*◌, ◌<◌, ◌≤◌, List, [], ◌∷◌, ◌++◌, map, length, take, refl, sym, ap, ap₂, subst, ◌∙◌, inl, inr, arith, Bool, true, false, length-append, IsPermutation}
use Rattle.std.specs.Prelude.{◌⊎◌, ⊤, ℤ, Option, Some, None, Ok, IfSome, filter, slice_get, option_map}
use Rattle.std.proofs.lemmas.List.{append-nil, length-map}
use Rattle.std.proofs.lemmas.Bool.{cases_lt}
use Rattle.std.specs.List.{Any}
use Rattle.m3_model.specs.Levels.{needed_write}
use Rattle.m3_model.specs.Members.{IsIn}
use Rattle.m3_model.specs.Ascends.{Ascends}
use Rattle.m3_model.specs.Reads.{found_of}
use Rattle.m3_model.specs.Rules.{namespace_position}
use Rattle.m3_model.specs.declared.limits.TheConstants.{MOST_REQUEST_EVENTS}
use Rattle.m3_model.proofs.MemberLemmas.{IsIn-append_cases}
use Rattle.m3_model.specs.declared.placement.Assignment.{Assignment}
use Rattle.m3_model.specs.declared.act.Act.{Act}
use Rattle.m3_model.specs.declared.act.Act.TheVariants as act
use Rattle.m3_model.specs.declared.act.WriteLevel.{WriteLevel}
use Rattle.m3_model.specs.declared.act.WriteLevel.TheVariants as writing
use Rattle.m3_model.specs.declared.answer.Answer.{Answer}
use Rattle.m3_model.specs.declared.answer.Answer.TheVariants as answer
use Rattle.m3_model.specs.declared.placement.Instance.{Instance}
use Rattle.m3_model.specs.declared.placement.Placement.{Placement}
use Rattle.m3_model.specs.declared.point.Point.{Point}
use Rattle.m3_model.specs.declared.reason.Reason.{Reason}
use Rattle.m3_model.specs.declared.reason.Reason.TheVariants as reason
use Rattle.m3_model.specs.declared.rules.MetaState.{MetaState}
use Rattle.m3_model.specs.declared.rules.Rules.{Rules}
use Rattle.m3_model.specs.Hash.{shard_of}
use Rattle.m3_model.specs.declared.turn.Turn.{Turn}
use Rattle.m3_outside.specs.DiskState.{DiskState}
use Rattle.m3_outside.specs.declared.disk.Disk.{Ghosts}
use Rattle.cluster_core.specs.Legal.{Lawful, LawfulAt, Legal}
use Rattle.cluster_core.specs.Replicas.{replica}
use Rattle.cluster_core.specs.Rows.{ReplicaMayRefuse}
use Rattle.cluster_core.specs.declared.replica_state.ReplicaState.{ReplicaState}
use Rattle.cluster_core.specs.Lists.{At}
use Rattle.cluster_core.specs.declared.event.Event.{Event}
use Rattle.cluster_core.specs.declared.event.Event.TheVariants as event
use Rattle.cluster_core.specs.declared.event.StepCall.{StepCall}
use Rattle.cluster_core.specs.declared.event.StepCall.TheVariants as call
use Rattle.cluster_core.specs.declared.event.StepReply.{StepReply}
use Rattle.cluster_core.specs.declared.event.StepReply.TheVariants as reply
use Rattle.cluster_core.proofs.ListLemmas.{any_at, at_append, at_in, at_same, at_within, in_at, some_same, take_at}
use Rattle.placement_core.specs.NodeNames.{IsNamedBelow}
use Rattle.placement_core.specs.Shards.{Shard, counted, is_available, nodes_of, shard_at}
use Rattle.placement_core.proofs.OrderLemmas.{ascends-filter, ascends-map}
use Rattle.session_net.specs.replica_exchange.declared.call_id.CallId.{CallId}
use Rattle.session_net.specs.Messages.{Heard, fate_to}
use Rattle.session_net.specs.Outcomes.{answering, refusing}
use Rattle.session_net.specs.Ready.{Places}
use Rattle.session_net.specs.Writes.{IsSent, Sent, counted_among, put_of, send_of, shard_of_point, told_in}
use Rattle.session_net.specs.declared.net.Net.{Net}
use Rattle.session_net.proofs.ReadyLemmas.{placed_there}
use Rattle.told_runs.specs.told_by.Hears.{Happens, HasServed, HearsAcks, HearsBy, HearsShard, InStretch, IsOwnCall}
use Rattle.told_runs.specs.told_by.Clocks.{sets_rules}
use Rattle.told_runs.specs.told_by.Lines.{AreSteps, IsAskOrStep, WriteLine, ack_by, position_after}
use Rattle.told_runs.specs.told_by.Makes.{CountsOwnPuts, EndsRestart, IsPlaceOf, MayMake}
use Rattle.told_runs.specs.told_by.Spans.{From}
use Rattle.told_runs.specs.told_by.Writes.{IsSendOf}
use Rattle.told_runs.proofs.told_by_proofs.LineLemmas.{at_front}
use Rattle.told_runs.proofs.told_by_proofs.OneLemmas.{at_back, back_at}
use Rattle.told_runs.proofs.MemberLemmas.{listed_member}
use Rattle.told_runs.specs.Answers.{HearsOf, IsOfKind}
use Rattle.told_runs.specs.transcripts.Calls.{AsksShard}
use Rattle.told_runs.specs.transcripts.Fates.{call_number, fate_at, fate_in, numbering_after}
use Rattle.told_runs.specs.transcripts.Placements.{IsCounted, MayUse, printed, seed_at}
use Rattle.told_runs.specs.transcripts.Points.{point_of, was_sent}
use Rattle.told_runs.specs.transcripts.Record.{TurnPosition, inner_turns}
use Rattle.told_runs.specs.transcripts.Rules.{rules_at}
use Rattle.told_runs.proofs.transcripts_proofs.PlacementLemmas.{known_more, stood_known}
use Rattle.line_tracks.specs.calls.Laws.{IsCalm, IsWrite, LeavesLine, AcknowledgedTells, UnmetTells, UnsentTells}
use Rattle.line_tracks.specs.calls.Left.{NetIsLeftBy, NetIsUsable, IsNextCall, MayUseAfter}
use Rattle.line_tracks.proofs.calls.HeardLemmas.{IsExchangedBy, counted_nodes, each_came, events_are, few_events, heard_nodes, in_counted}
use Rattle.line_tracks.proofs.calls.ToldLemmas.{heard_ok}
use Rattle.line_tracks.proofs.calls.MemberLemmas.{counted_all, counted_many, counted_within, node_within}
use Rattle.line_tracks.proofs.calls.ServeLemmas.{answered, delivered_so, few_members, serves_so}
use Rattle.line_tracks.proofs.calls.ShardLemmas.{AreHeardOf, IsCallBy, MaySay, answering_by_name, answering_counted, answering_served, delivered_to, hears_shard}

-- ---- what a call of the next line meets

module _ {D : Type 0} {G : Ghosts D} (start : Option MetaState) (turns : List Turn) {version : Option ℕ} (net : Net D G) (id : CallId) (left : NetIsUsable start turns version net) (next : IsNextCall turns id) where
  pub number_here : (a : Act) (b : Answer) → id.number ≡ call_number (position_after turns a b)
  number_here a b = next.1 ∙ more_none (numbering_after 0 turns).calls
    where
      more_none : (n : ℕ) → n ≡ n + 0
      more_none n = omega arith

  pub fate_here : (a : Act) (b : Answer) (node : ℕ) (own : Instance) → slice_get net.state.place.instances node ≡ Some own → fate_to net.fates id node ≡ fate_at (position_after turns a b) own.name
  fate_here a b node own stands = left.fates id.client id.number node own stands ∙ ap₂ (λ client number. fate_in (numbering_after 0 turns).fates client number own.name) next.0 (number_here a b)

  pub may_use : (a : Act) (b : Answer) → MayUse start (position_after turns a b) version net.state.place
  may_use a b = by version left.place
    where
      by : (given : Option ℕ) → MayUseAfter start turns given net.state.place → MayUse start (position_after turns a b) given net.state.place
      by None stood = (inner_turns turns, record { others = []; some_of = tt; are = sym (append-nil (inner_turns turns)) }, stood)
      by (Some v) known = (known_more start (inner_turns turns) [] net.state.place known.0, known.1)

-- fields that the turns left may be used by a call that gives no version, or the one that stands
pub usable : {D : Type 0} {G : Ghosts D} (start : Option MetaState) (turns : List Turn) (net : Net D G) (version : Option ℕ) → IfSome version (λ v. v ≡ net.state.place.version) → NetIsLeftBy start turns net → NetIsUsable start turns version net
usable start turns net version given left = record { rules = left.rules; place = by version given; seed = left.seed; fates = left.fates; late = left.late }
  where
    by : (v : Option ℕ) → IfSome v (λ n. n ≡ net.state.place.version) → MayUseAfter start turns v net.state.place
    by None given = left.place
    by (Some n) given = (stood_known start (inner_turns turns) net.state.place left.place, sym given)

-- a placement of the list was placed
pub placed_in : (events : List Event) (place : Placement) → Any (Places place) events → (i : ℕ) × (done : List (ℕ × ℕ)) × At events i (event.Place place done)
placed_in events place is =
    let found = any_at (λ e. (done : List (ℕ × ℕ)) × (e ≡ event.Place place done)) events (placed_there (λ e. (done : List (ℕ × ℕ)) × (e ≡ event.Place place done)) events place is (λ done. (done, refl))) in
    (found.0, found.3.0, subst (At events found.0) found.3.1 found.2)

-- the identifier of a point is its act's
id_of : (ns : Option ℕ) (name : List ℕ) (t : ℕ) (v : ℤ) (point : Point) → option_map (λ k. record { ns = k; id = name; t = t; v = v }) ns ≡ Some point → point.id ≡ name
id_of None name t v point e = cc
id_of (Some k) name t v point e = sym (ap (λ (q : Point). q.id) (some_same (record { ns = k; id = name; t = t; v = v }) point e))

-- past the opening an event is lawful by its row
pub lawful_past : (tells : Bool) (i : ℕ) (past : List Event) (e : Event) → 2 ≤ i → LawfulAt tells i past e → Lawful tells past e
lawful_past tells zero past e le h = absurd (omega (arith, le))
lawful_past tells (suc zero) past e le h = absurd (omega (arith, le))
lawful_past tells (suc (suc i)) past e le h = h

-- a put is never refused for damage, nor by a message that was cut off
pub put_says : (tells : Bool) (past : List Event) (s : ℕ) (r : ReplicaState) (client number : ℕ) (rules : Rules) (version : ℕ) (point : Point) (why : Reason) → ReplicaMayRefuse tells past s r (call.Put client number rules version point) why → MaySay why
put_says tells past s r client number rules version point reason.Cut h = absurd h
put_says tells past s r client number rules version point (reason.Corrupt damage) h = let reads = h.reads in cc
put_says tells past s r client number rules version point _ h = tt

-- each level needs some
needs_some : (l : WriteLevel) (rf : ℕ) → 1 ≤ rf → 1 ≤ needed_write l rf
needs_some writing.One rf some = omega arith
needs_some writing.Majority rf some = omega arith
needs_some writing.All rf some = some

-- ---- the write

module _ {D : Type 0} {G : Ghosts D} (start : Option MetaState) (turns : List Turn) (net : Net D G) (id : CallId) (a : Act) (point : Point) (level : WriteLevel) (w : IsWrite start turns net id a point level) (b : Answer) where
  abbrev written : Act
  written = act.Write w.ns w.name w.t w.v level w.version

  abbrev here : TurnPosition
  here = position_after turns written b

  abbrev place : Placement
  place = net.state.place

  abbrev shard : ℕ
  shard = shard_of_point net.state point

  abbrev put : StepCall
  put = put_of id net.state.rules place.version point

  abbrev send : Event
  send = send_of net point

  abbrev events : List Event
  events = net.replicas.events

  of_written : point_of net.state.rules.spaces written ≡ Some point
  of_written = subst (λ x. point_of net.state.rules.spaces x ≡ Some point) w.act_is w.of_act

  rules_here : net.state.rules ≡ rules_at start here
  rules_here = sym (w.left).rules

  number_is : id.number ≡ call_number here
  number_is = number_here start turns net id w.left w.next written b

  own_put : IsOwnCall start here place.version put
  own_put = (w.next.0, number_is, rules_here, refl, of_written)

  known : IsCallBy here place net.fates id
  known = record { calls = refl; lawful = (w.ready).lawful; fates_are = fate_here start turns net id w.left w.next written b }

  placed : (i : ℕ) × (done : List (ℕ × ℕ)) × At events i (event.Place place done)
  placed = placed_in events place (w.ready).place

  opened : 0 < length events
  opened = let low = at_within events placed.0 (event.Place place placed.1) placed.2 in omega (arith, low)

  uses_it : MayUse start here w.version place
  uses_it = may_use start turns net id w.left w.next written b

  shard_is : shard ≡ shard_of point.id (seed_at start here) (length place.shards)
  shard_is = ap (λ seed. shard_of point.id seed (length place.shards)) (sym (w.left).seed)

  asked_itself : AsksShard start here place (Some w.name) shard
  asked_itself = shard_is ∙ ap (λ i. shard_of i (seed_at start here) (length place.shards)) (id_of (namespace_position w.ns net.state.rules.spaces) w.name w.t w.v point of_written)

  asked : (s : ℕ) → AsksShard start here place (Some w.name) s → shard ≡ s
  asked s h = asked_itself ∙ sym h

  is_send : was_sent b ≡ true → IsSendOf start events here place.version shard point
  is_send sent = record {
    call = record { id = Some w.name; version = w.version; needed = needed_write level };
    of_act = refl;
    of_point = ap (λ (r : Rules). point_of r.spaces written) (sym rules_here) ∙ of_written;
    sent = sent;
    place = place;
    uses = record { may_use = uses_it; place_at = placed.0; done = placed.1; there = placed.2 };
    version_is = refl;
    shard_is = shard_is;
  }

  module _ (members : Shard) (same : IsPermutation (shard_at place shard) members) (puts last : List Event) (each : (e : Event) → IsIn puts e → IsExchangedBy net.fates id shard put (nodes_of members) e) where
    abbrev more : List Event
    more = send ∷ (puts ++ last)

    abbrev all : List Event
    all = events ++ more

    there_send : At all (length events) send
    there_send = let none : length events + 0 ≡ length events = omega arith in subst (λ i. At all i send) none (back_at events more 0 send refl)

    past_send : (i : ℕ) → length events < i → At (take i all) (length events) send
    past_send i lt = take_at all (length events) i send there_send lt

    past_place : (i : ℕ) → length events < i → IsPlaceOf (take i all) place.version place
    past_place i lt = record {
      place_at = placed.0;
      done = placed.1;
      there = take_at all placed.0 i (event.Place place placed.1) (at_append events more placed.0 (event.Place place placed.1) placed.2) (let low = at_within events placed.0 (event.Place place placed.1) placed.2 in omega (arith, low, lt));
      version_is = refl;
    }

    make_put : (i : ℕ) → length events < i → (e : Event) → IsExchangedBy net.fates id shard put (nodes_of members) e → MayMake start (take i all) here e
    make_put i lt e x = elim x.is as (λ _. MayMake start (take i all) here e) [
      | inl is ↦ subst (MayMake start (take i all) here) (sym is) (record {
        of_call = record { client_is = w.next.0; number_is = number_is; rules_are = rules_here };
        of_point = of_written;
        send = length events;
        sent = past_send i lt;
        place = place;
        is_place = past_place i lt;
        member = listed_member place shard x.node (node_within (shard_at place shard) members same x.node x.among);
        delivered = delivered_to start (λ i e. ⊥) here place net.fates id known shard x.node (node_within (shard_at place shard) members same x.node x.among) x.delivered;
      })
      | inr is ↦ subst (MayMake start (take i all) here) (sym is.1) tt
    ]

    in_more : (i : ℕ) (e : Event) → length events ≤ i → At all i e → (e ≡ send) ⊎ ((k : ℕ) × (i ≡ length events + suc k) × At (puts ++ last) k e)
    in_more i e le at = let back = at_back events more i e at le in by back.0 back.1 back.2
      where
        by : (j : ℕ) → i ≡ length events + j → At more j e → (e ≡ send) ⊎ ((k : ℕ) × (i ≡ length events + suc k) × At (puts ++ last) k e)
        by zero is at = inl (sym (some_same send e at))
        by (suc k) is at = inr (k, is, at)

    happens : (e : Event) → IsIn puts e → (k : ℕ) × (k < length puts) × At all (length events + suc k) e
    happens e m = let at = in_at puts e m in (at.0, at_within puts at.0 e at.1, back_at events more (suc at.0) e (at_append puts last at.0 e at.1))

    in_stretch : (e : Event) → IsIn puts e → Happens (InStretch all (length events) (length all)) e
    in_stretch e m = let at = happens e m in (length events + suc at.0, (omega arith, at_within all (length events + suc at.0) e at.2, at.2))

    makes : ((k : ℕ) (e : Event) → At last k e → MayMake start (take (length events + suc (length puts + k)) all) here e) → (i : ℕ) (e : Event) → length events ≤ i → 2 ≤ i → At all i e → MayMake start (take i all) here e
    makes ends i e le two at = elim (in_more i e le at) as (λ _. MayMake start (take i all) here e) [
      | inl is ↦ subst (MayMake start (take i all) here) (sym is) tt
      | inr later ↦ elim (cases_lt later.0 (length puts)) as (λ _. MayMake start (take i all) here e) [
        | inl lt ↦ make_put i (let is = later.1 in omega (arith, is)) e (each e (at_in puts later.0 e (at_front puts last later.0 e later.2 lt)))
        | inr ge ↦ let back = at_back puts last later.0 e later.2 ge in
            subst (λ j. MayMake start (take j all) here e) (ap (λ k. length events + suc k) (sym back.1) ∙ sym later.1) (ends back.0 e back.2)
      ]
    ]

    not_restarted : (n s : ℕ) (r : StepReply) → IsExchangedBy net.fates id shard put (nodes_of members) (event.Step n s call.Restart r) → ⊥
    not_restarted n s r x = elim x.is as (λ _. ⊥) [ inl is ↦ cc | inr is ↦ (let clash : event.Step n s call.Restart r ≡ event.Step x.node shard put is.0 = is.1 in cc) ]

    restarts : ((k n s : ℕ) (r : StepReply) → At last k (event.Step n s call.Restart r) → ⊥) → (i n s : ℕ) (r : StepReply) → length events ≤ i → 2 ≤ i → At all i (event.Step n s call.Restart r) → EndsRestart (From (length events)) all (λ _. here) here i n s
    restarts none i n s r le two at = elim (in_more i (event.Step n s call.Restart r) le at) as (λ _. EndsRestart (From (length events)) all (λ _. here) here i n s) [
      | inl is ↦ cc
      | inr later ↦ elim (cases_lt later.0 (length puts)) as (λ _. EndsRestart (From (length events)) all (λ _. here) here i n s) [
        | inl lt ↦ absurd (not_restarted n s r (each (event.Step n s call.Restart r) (at_in puts later.0 (event.Step n s call.Restart r) (at_front puts last later.0 (event.Step n s call.Restart r) later.2 lt))))
        | inr ge ↦ let back = at_back puts last later.0 (event.Step n s call.Restart r) later.2 ge in absurd (none back.0 n s r back.2)
      ]
    ]

    steps : AreSteps puts
    steps e m = let x = each e m in elim x.is as (λ _. IsAskOrStep e) [ inl is ↦ subst IsAskOrStep (sym is) tt | inr is ↦ subst IsAskOrStep (sym is.1) tt ]

    puts_calm : (e : Event) → IsIn puts e → IsCalm e
    puts_calm e m = let x = each e m in elim x.is as (λ _. IsCalm e) [ inl is ↦ subst IsCalm (sym is) tt | inr is ↦ subst IsCalm (sym is.1) tt ]

    calm : ((e : Event) → IsIn last e → IsCalm e) → (e : Event) → IsIn more e → IsCalm e
    calm ends e m = elim m as (λ _. IsCalm e) [ inl is ↦ subst IsCalm is tt | inr rest ↦ elim (IsIn-append_cases puts last e rest) as (λ _. IsCalm e) [ inl l ↦ puts_calm e l | inr r ↦ ends e r ] ]

    few : length puts ≤ 4 * length members → length last ≤ 1 → length more ≤ MOST_REQUEST_EVENTS
    few low one = let six = few_members place (w.ready).lawful shard members same in let both = length-append puts last in omega (arith, six, low, one, both)

    -- where the list is legal, what refused a put may be said
    puts_say : (tells : Bool) → Legal tells all → (n : ℕ) (why : Reason) → IsIn puts (event.Step n shard put (reply.Refused why)) → MaySay why
    puts_say tells legal n why m =
        let at = happens (event.Step n shard put (reply.Refused why)) m in
        let i = length events + suc at.0 in
        let lawful = lawful_past tells i (take i all) (event.Step n shard put (reply.Refused why)) (let low = opened in omega (arith, low)) (legal i (event.Step n shard put (reply.Refused why)) at.2) in
        put_says tells (take i all) shard (replica n shard (take i all)) id.client id.number net.state.rules place.version point why lawful.1

    -- each node of an Ack at the end took the point as this very call
    ack_counts : (acks : List ℕ) → ((n : ℕ) → IsIn acks n → IsIn puts (event.Step n shard put reply.Done)) → (i : ℕ) → i ≡ length events + suc (length puts) → CountsOwnPuts start (take i all) here (length events) acks
    ack_counts acks took i is v s q there n m =
        let at = happens (event.Step n shard put reply.Done) (took n m) in
        let same : send ≡ event.Send v s q = at_same (take i all) (length events) send (event.Send v s q) (past_send i (omega (arith, is))) there in
        let step : event.Step n shard put reply.Done ≡ event.Step n s (call.Put here.client (call_number here) (rules_at start here) v q) reply.Done =
        λ j. event.Step n (shard_same shard s same j) (call.Put (w.next.0 j) (number_is j) (rules_here j) (version_same v same j) (point_same q same j)) reply.Done in
        record {
          position = length events + suc at.0;
          later = omega arith;
          took = subst (At (take i all) (length events + suc at.0)) step (take_at all (length events + suc at.0) i (event.Step n shard put reply.Done) at.2 (let low = at.1 in omega (arith, is, low)));
        }
      where
        shard_same : (x y : ℕ) {v v' : ℕ} {q q' : Point} → event.Send v x q ≡ event.Send v' y q' → x ≡ y
        shard_same x y e = cc

        version_same : (y : ℕ) {x s s' : ℕ} {q q' : Point} → event.Send x s q ≡ event.Send y s' q' → x ≡ y
        version_same y e = cc

        point_same : (y : Point) {v v' s s' : ℕ} {x : Point} → event.Send v s x ≡ event.Send v' s' y → x ≡ y
        point_same y e = cc

    -- the line, whatever came last
    line : last ≡ ack_by (length events) b → was_sent b ≡ true → found_of b ≡ None → sets_rules written b ≡ false → printed b ≡ None
        → ((k : ℕ) (e : Event) → At last k e → MayMake start (take (length events + suc (length puts + k)) all) here e) → ((k n s : ℕ) (r : StepReply) → At last k (event.Step n s call.Restart r) → ⊥)
        → HearsBy start events (InStretch all (length events) (length all)) here written b → WriteLine start turns events written b more
    line is was_sent no_found no_rules no_place ends none hears = record {
      makes = record { makes = makes ends; restarts = restarts none; hears = hears };
      version = place.version;
      s = shard;
      point = point;
      sends = is_send was_sent;
      no_found = no_found;
      no_rules = no_rules;
      no_place = no_place;
      opened = opened;
      puts = puts;
      steps = steps;
      adds = ap (λ es. send ∷ (puts ++ es)) is;
    }

  -- ---- what was heard

  module _ (sent : Sent) (is_sent : IsSent net id point sent) where
    abbrev counting : List (Heard ⊤)
    counting = counted_among (sent.members) (sent.heard)

    abbrev same_members : IsPermutation (shard_at place shard) sent.members
    same_members = (is_sent.members).same

    each_put : (e : Event) → IsIn sent.puts e → IsExchangedBy net.fates id shard put (nodes_of sent.members) e
    each_put = events_are (λ (u : ⊤). reply.Done) net.fates id shard put (nodes_of sent.members) sent.heard sent.puts is_sent.heard

    nodes_are : map (λ x. x.0) counting ≡ counted sent.members
    nodes_are = counted_nodes sent.members sent.heard (heard_nodes (λ (u : ⊤). reply.Done) net.fates id shard put (nodes_of sent.members) sent.heard sent.puts is_sent.heard)

    were_heard : AreHeardOf (λ (u : ⊤). reply.Done) place net.fates id shard put counting sent.puts
    were_heard = record {
      within = λ n m. counted_within (shard_at place shard) sent.members same_members n (subst (λ ns. IsIn ns n) nodes_are m);
      all = λ n m. subst (λ ns. IsIn ns n) (sym nodes_are) (counted_all (shard_at place shard) sent.members same_members n m);
      many = ap length nodes_are ∙ counted_many (shard_at place shard) sent.members same_members;
      by_name = subst (Ascends (IsNamedBelow place)) (sym nodes_are)
          (ascends-map (IsNamedBelow place) (λ (x : Assignment). x.node) (filter is_available sent.members) (ascends-filter (λ (x y : Assignment). IsNamedBelow place x.node y.node) is_available sent.members ((is_sent.members).by_name (w.ready).lawful)));
      came = λ x m. each_came (λ (u : ⊤). reply.Done) net.fates id shard put (nodes_of sent.members) sent.heard sent.puts is_sent.heard x (in_counted sent.members sent.heard x m);
    }

    few_puts : length sent.puts ≤ 4 * length sent.members
    few_puts = subst (λ n. length sent.puts ≤ 4 * n) (length-map sent.members (λ (x : Assignment). x.node)) (few_events (λ (u : ⊤). reply.Done) net.fates id shard put (nodes_of sent.members) sent.heard sent.puts is_sent.heard)

    took : (n : ℕ) → IsIn (answering (told_in sent)) n → IsIn sent.puts (event.Step n shard put reply.Done)
    took n m = let y = heard_ok counting n m in (were_heard.came (n, Ok y.0) y.1).1

    abbrev Here : List Event → ℕ → Event → Type 0
    Here last = InStretch (events ++ send ∷ (sent.puts ++ last)) (length events) (length (events ++ send ∷ (sent.puts ++ last)))

    happens_here : (last : List Event) (e : Event) → IsIn sent.puts e → Happens (Here last) e
    happens_here last = in_stretch sent.members same_members sent.puts last each_put

    hears_acks : (last : List Event) → needed_write level place.rf ≤ length (answering (told_in sent)) → HearsAcks start (Here last) here (answering (told_in sent))
    hears_acks last enough = record {
      call = record { id = Some w.name; version = w.version; needed = needed_write level };
      of_call = refl;
      place = place;
      may_use = uses_it;
      by_name = answering_by_name start (Here last) here place net.fates id known (λ (u : ⊤). reply.Done) shard put counting sent.puts own_put (happens_here last) (λ u. tt) were_heard;
      some = let some = needs_some level place.rf (((w.ready).lawful).limits).some_replicas in omega (arith, some, enough);
      enough = enough;
      counted = λ s asks n m. subst (λ k. IsCounted place k n) (asked s asks) (answering_counted start (Here last) here place net.fates id known (λ (u : ⊤). reply.Done) shard put counting sent.puts own_put (happens_here last) (λ u. tt) were_heard n m);
      served = λ s asks n m. subst (λ k. HasServed start (Here last) here place k n) (asked s asks) (answering_served start (Here last) here place net.fates id known (λ (u : ⊤). reply.Done) shard put counting sent.puts own_put (happens_here last) (λ u. tt) were_heard n m);
    }

    hears_shard_so : (tells : Bool) → Legal tells (events ++ send ∷ (sent.puts ++ [])) → HearsShard start (Here []) here place shard (length (answering (told_in sent))) (refusing (told_in sent))
    hears_shard_so tells legal =
        hears_shard start (Here []) here place net.fates id known (λ (u : ⊤). reply.Done) shard put counting sent.puts own_put (happens_here []) (λ u. tt) were_heard (λ n why i m. puts_say sent.members same_members sent.puts [] each_put tells legal n why m)

-- ---- the laws

-- no more than an Ack comes last
no_restart : (send : ℕ) (acks : List ℕ) (k n s : ℕ) (r : StepReply) → At (event.Ack send acks ∷ []) k (event.Step n s call.Restart r) → ⊥
no_restart send acks zero n s r at = cc
no_restart send acks (suc k) n s r at = cc

-- a write's line is served
serves_write : {D : Type 0} {G : Ghosts D} (start : Option MetaState) (turns : List Turn) (old new : Net D G) (id : CallId) (a : Act) (point : Point) (level : WriteLevel) (w : IsWrite start turns old id a point level) (b : Answer) (more : List Event) → ((e : Event) → IsIn more e → IsCalm e)
    → length more ≤ MOST_REQUEST_EVENTS → (b ≡ answer.Memory) ⊎ IsOfKind [] start (position_after turns (act.Write w.ns w.name w.t w.v level w.version) b) (act.Write w.ns w.name w.t w.v level w.version) b
    → HearsOf start (InStretch (old.replicas.events ++ more) (length old.replicas.events) (length (old.replicas.events ++ more))) (position_after turns (act.Write w.ns w.name w.t w.v level w.version) b) [] b → new.replicas.events ≡ old.replicas.events ++ more
    → WriteLine start turns old.replicas.events (act.Write w.ns w.name w.t w.v level w.version) b more → LeavesLine WriteLine start turns [] old a b new
serves_write {D} {G} start turns old new id a point level w b more calm few kind heard grew line =
    let written : Act = act.Write w.ns w.name w.t w.v level w.version in
    subst (λ x. LeavesLine WriteLine start turns [] old x b new) (sym w.act_is) (record {
      more = more;
      grew = grew;
      line = line;
      serves = λ none. serves_so start turns old.replicas.events written b more calm few [] heard (λ x m. absurd m) (answered start turns old.replicas.events written b more calm kind none);
      delivered = delivered_so turns written b [] (λ x m. absurd m);
    })

calm_ack : (at : ℕ) (acks : List ℕ) (e : Event) → IsIn (event.Ack at acks ∷ []) e → IsCalm e
calm_ack at acks e (inl is) = subst IsCalm is tt
calm_ack at acks e (inr none) = absurd none

pub acked_tells : {D : Type 0} {G : Ghosts D} (state : D → DiskState) (old : Net D G) → AcknowledgedTells state old
acked_tells {D} {G} state old start turns new id a point level acks w h =
    let b : Answer = answer.Acks acks in
    let last : List Event = event.Ack (length old.replicas.events) acks ∷ [] in
    let send = send_of old point in
    let same = ((h.is_sent).members).same in
    let each = each_put start turns old id a point level w b h.sent h.is_sent in
    let put = put_of id old.state.rules old.state.place.version point in
    let shard = shard_of_point old.state point in
    let took_it : (n : ℕ) → IsIn acks n → IsIn h.sent.puts (event.Step n shard put reply.Done) =
    λ n m. took start turns old id a point level w b h.sent h.is_sent n (subst (λ ns. IsIn ns n) h.acks_are m) in
    let all = old.replicas.events ++ send ∷ (h.sent.puts ++ last) in
    let here = position_after turns (act.Write w.ns w.name w.t w.v level w.version) b in
    let counts = ack_counts start turns old id a point level w b h.sent.members same h.sent.puts last each acks took_it in
    let ends : (k : ℕ) (e : Event) → At last k e → MayMake start (take (length old.replicas.events + suc (length h.sent.puts + k)) all) here e = by start (length old.replicas.events) (length h.sent.puts) acks all here counts in
    let enough : needed_write level old.state.place.rf ≤ length (answering (told_in h.sent)) = subst (λ ns. needed_write level old.state.place.rf ≤ length ns) h.acks_are h.enough in
    let hears = hears_acks start turns old id a point level w b h.sent h.is_sent last enough in
    serves_write start turns old new id a point level w b (send ∷ (h.sent.puts ++ last)) (calm start turns old id a point level w b h.sent.members same h.sent.puts last each (calm_ack (length old.replicas.events) acks))
    (few start turns old id a point level w b h.sent.members same h.sent.puts last each (few_puts start turns old id a point level w b h.sent h.is_sent) (omega arith)) (inr tt) tt (h.ran).grew
    (line start turns old id a point level w b h.sent.members same h.sent.puts last each refl refl refl refl refl ends (no_restart (length old.replicas.events) acks)
    (subst (λ ns. HearsAcks start (InStretch all (length old.replicas.events) (length all)) here ns) (sym h.acks_are) hears))
  where
    by : (start : Option MetaState) (low many : ℕ) (acks : List ℕ) (all : List Event) (here : TurnPosition) → ((i : ℕ) → i ≡ low + suc many → CountsOwnPuts start (take i all) here low acks)
        → (k : ℕ) (e : Event) → At (event.Ack low acks ∷ []) k e → MayMake start (take (low + suc (many + k)) all) here e
    by start low many acks all here counts zero e at = subst (MayMake start (take (low + suc (many + 0)) all) here) (some_same (event.Ack low acks) e at) (counts (low + suc (many + 0)) (omega arith))
    by start low many acks all here counts (suc k) e at = cc

pub unmet_tells : {D : Type 0} {G : Ghosts D} (state : D → DiskState) (old : Net D G) → UnmetTells state old
unmet_tells {D} {G} state old tells start turns new id a point level shard needed got reasons w legal h =
    let b : Answer = answer.Consistency got needed reasons shard in
    let send = send_of old point in
    let same = ((h.is_sent).members).same in
    let each = each_put start turns old id a point level w b h.sent h.is_sent in
    let own = shard_of_point old.state point in
    let all = old.replicas.events ++ send ∷ (h.sent.puts ++ []) in
    let here = position_after turns (act.Write w.ns w.name w.t w.v level w.version) b in
    let Here = InStretch all (length old.replicas.events) (length all) in
    let grew : new.replicas.events ≡ all = (h.ran).grew ∙ ap (λ es. old.replicas.events ++ send ∷ es) (sym (append-nil h.sent.puts)) in
    let heard = hears_shard_so start turns old id a point level w b h.sent h.is_sent tells (subst (Legal tells) grew legal) in
    let short = h.too_few in
    let asks : AsksShard start here old.state.place (Some w.name) shard = short.shard_is ∙ asked_itself start turns old id a point level w b in
    serves_write start turns old new id a point level w b (send ∷ (h.sent.puts ++ [])) (calm start turns old id a point level w b h.sent.members same h.sent.puts [] each (λ e m. absurd m))
    (few start turns old id a point level w b h.sent.members same h.sent.puts [] each (few_puts start turns old id a point level w b h.sent h.is_sent) (omega arith)) (inr tt) tt grew
    (line start turns old id a point level w b h.sent.members same h.sent.puts [] each refl refl refl refl refl (λ k e at. cc) (λ k n s r at. cc) (record {
      call = record { id = Some w.name; version = w.version; needed = needed_write level };
      of_call = refl;
      place = old.state.place;
      may_use = uses_it start turns old id a point level w b;
      asked = asks;
      needed_is = short.needed_is;
      fewer = short.fewer;
      hears = subst (λ s. HearsShard start Here here old.state.place s got reasons) (sym short.shard_is)
          (subst (λ n. HearsShard start Here here old.state.place own n reasons) (sym short.got_is) (subst (λ rs. HearsShard start Here here old.state.place own (length (answering (told_in h.sent))) rs) (sym short.reasons_are) heard));
      first = λ lower below also. absurd (let one : lower ≡ shard = also ∙ sym asks in omega (arith, one, below));
    }))

pub unsent_tells : {D : Type 0} {G : Ghosts D} (state : D → DiskState) (old : Net D G) → UnsentTells state old
unsent_tells {D} {G} state old start turns new id a point level w h =
    let send = send_of old point in
    serves_write start turns old new id a point level w answer.Memory (send ∷ []) (calm start turns old id a point level w answer.Memory h.members (h.are).same [] [] (λ e m. absurd m) (λ e m. absurd m)) (omega arith) (inl refl) tt (h.ran).grew
    (line start turns old id a point level w answer.Memory h.members (h.are).same [] [] (λ e m. absurd m) refl refl refl refl refl (λ k e at. cc) (λ k n s r at. cc) tt)
