-- The events of a delivery tell of its line.
use Rattle.std.proofs.Common.{◌≡◌, ℕ, suc, ◌+◌, ◌*◌, ◌<◌, ◌≤◌, List, [], ◌∷◌, ◌++◌, map, length, take, refl, sym, ap, subst, ◌∙◌, inl, inr, arith, Bool, true, false, cond, length-append}
use Rattle.std.specs.Prelude.{⊤, Option, Some, None, Result, Ok, Err, nat_eq, option_map, if◌then◌else◌}
use Rattle.std.specs.Cmp.Lexicographic.{pointwise}
use Rattle.std.specs.Result.{result_err}
use Rattle.std.proofs.lemmas.Bool.{lt-ltb}
use Rattle.m3_model.specs.Members.{IsIn}
use Rattle.m3_model.specs.Rules.{namespace_position}
use Rattle.m3_model.specs.declared.act.Act.{Act}
use Rattle.m3_model.specs.declared.act.Act.TheVariants as act
use Rattle.m3_model.specs.declared.act.Fate.TheVariants as fate
use Rattle.m3_model.specs.declared.answer.Answer.{Answer}
use Rattle.m3_model.specs.declared.answer.Answer.TheVariants as answer
use Rattle.m3_model.specs.declared.placement.Placement.{Placement}
use Rattle.m3_model.specs.declared.point.Point.{Point}
use Rattle.m3_model.specs.declared.reason.Reason.{Reason}
use Rattle.m3_model.specs.declared.reason.Reason.TheVariants as reason
use Rattle.m3_model.specs.declared.rules.MetaState.{MetaState}
use Rattle.m3_model.specs.declared.rules.Rules.{Rules}
use Rattle.m3_model.specs.declared.rules.Space.{Space}
use Rattle.m3_model.specs.declared.turn.Turn.{Turn}
use Rattle.m3_model.proofs.MemberLemmas.{IsIn-append_cases, IsIn-append_left, IsIn-append_right}
use Rattle.m3_outside.specs.DiskState.{DiskState}
use Rattle.m3_outside.specs.declared.disk.Disk.{Ghosts}
use Rattle.cluster_core.specs.Earlier.{clock_after, last_clock, last_place, place_after as place_by}
use Rattle.cluster_core.specs.Legal.{Legal}
use Rattle.cluster_core.specs.Lists.{At}
use Rattle.cluster_core.specs.Replicas.{replica}
use Rattle.cluster_core.specs.declared.event.Event.{Event}
use Rattle.cluster_core.specs.declared.event.Event.TheVariants as event
use Rattle.cluster_core.specs.declared.event.StepCall.TheVariants as call
use Rattle.cluster_core.specs.declared.event.StepReply.{StepReply}
use Rattle.cluster_core.specs.declared.event.StepReply.TheVariants as reply
use Rattle.cluster_core.proofs.ListLemmas.{at_in, in_at, some_same}
use Rattle.net_plan.specs.declared.late_write.LateWrite.{LateWrite}
use Rattle.session_net.specs.Deliveries.{AreDelivered, known, late_put, outcome_of}
use Rattle.session_net.specs.declared.net.Net.{Net}
use Rattle.told_runs.specs.told_by.Hears.{Happens, HasStep, HearsBy, HearsLate, HearsOutcome, HearsOutcomes, InStretch, IsLatePut}
use Rattle.told_runs.specs.told_by.Lines.{IsPlain, MayChange, PlainLine, PrintsPlace, position_after}
use Rattle.told_runs.specs.told_by.Makes.{MayMake}
use Rattle.told_runs.proofs.told_by_proofs.LineLemmas.{line_below, nothing_at}
use Rattle.told_runs.proofs.told_by_proofs.OneLemmas.{among_back, back_at}
use Rattle.told_runs.specs.transcripts.Deliveries.{IsLateMessage, LateMessage}
use Rattle.told_runs.specs.transcripts.Placements.{printed}
use Rattle.told_runs.specs.transcripts.Points.{point_of}
use Rattle.told_runs.specs.transcripts.Record.{TurnPosition}
use Rattle.told_runs.specs.transcripts.Rules.{rules_at}
use Rattle.told_joins.proofs.FrontLemmas.{some_events}
use Rattle.told_joins.proofs.LineLemmas.{in_stretch}
use Rattle.line_tracks.specs.calls.Laws.{DeliveredTells, IsCalm, NothingServes, NothingTells}
use Rattle.line_tracks.specs.calls.Left.{AreHeldBack, IsHeldBack, next_delivery}
use Rattle.line_tracks.proofs.calls.HeardLemmas.{CameSo, IsExchanged, came_once, few_delivered, in_delivery}
use Rattle.line_tracks.proofs.calls.IdleLemmas.{IsIdle, finds_nothing, given_up_idle, gives_no_acks, gives_no_boot, hears_nothing, not_unmet_so, prints_nothing, seeds_none, sets_none}
use Rattle.line_tracks.proofs.calls.ServeLemmas.{answered, delivered_so, held_one, serves_so}
use Rattle.line_tracks.proofs.calls.ShardLemmas.{MaySay}
use Rattle.line_tracks.proofs.calls.WriteLemmas.{lawful_past, put_says}

-- ---- namespaces

namespace_low : (name : List ℕ) (spaces : List Space) (k : ℕ) → namespace_position name spaces ≡ Some k → k < length spaces
namespace_low name [] k e = cc
namespace_low name (space ∷ spaces) k e = by (pointwise nat_eq name space.name) (namespace_position name spaces) (namespace_low name spaces) e
  where
    by : (b : Bool) (o : Option ℕ) → ((j : ℕ) → o ≡ Some j → j < length spaces) → (if b then Some 0 else option_map suc o) ≡ Some k → k < suc (length spaces)
    by true o low e = let first : 0 ≡ k = some_same 0 k e in omega (arith, first)
    by false None low e = cc
    by false (Some j) low e = let later : suc j ≡ k = some_same (suc j) k e in let below = low j refl in omega (arith, later, below)

-- the namespace of a write's point is there
point_low : (spaces : List Space) (a : Act) (p : Point) → point_of spaces a ≡ Some p → p.ns < length spaces
point_low spaces (act.Write ns id t v level version) p e = by (namespace_position ns spaces) (namespace_low ns spaces) e
  where
    by : (o : Option ℕ) → ((j : ℕ) → o ≡ Some j → j < length spaces) → option_map (λ k. record { ns = k; id = id; t = t; v = v }) o ≡ Some p → p.ns < length spaces
    by None low e = cc
    by (Some k) low e = subst (λ n. n < length spaces) (ap (λ (q : Point). q.ns) (some_same (record { ns = k; id = id; t = t; v = v }) p e)) (low k refl)
point_low spaces _ p e = cc

-- so all late writes are known
all_known : (start : Option MetaState) (turns : List Turn) (rules : Rules) → rules_at start (next_delivery turns) ≡ rules → (messages : List LateMessage) (bag : List LateWrite) → AreHeldBack start turns messages bag → known rules bag ≡ bag
all_known start turns rules are [] [] held = refl
all_known start turns rules are (message ∷ messages) (one ∷ bag) held =
    let of_act : point_of rules.spaces message.position.turn.act ≡ Some message.point = ap (λ (r : Rules). point_of r.spaces message.position.turn.act) (sym are) ∙ (held.0).is_late.of_act in
    let below : one.point.ns < length rules.spaces = subst (λ (p : Point). p.ns < length rules.spaces) (sym (held.0).point) (point_low rules.spaces message.position.turn.act message.point of_act) in
    ap (λ b. cond b (one ∷ known rules bag) (known rules bag)) (lt-ltb one.point.ns (length rules.spaces) below) ∙ ap (λ l. one ∷ l) (all_known start turns rules are messages bag held.1)
all_known start turns rules are [] (one ∷ bag) held = absurd held
all_known start turns rules are (message ∷ messages) [] held = absurd held

-- ---- one delivery after the other

-- an event of the delivery of a late message
pub record IsOfLate (start : Option MetaState) (turns : List Turn) (rules : Rules) (e : Event) : Type 0 where
  pub message : LateMessage
  pub late : LateWrite
  pub held : IsHeldBack start turns message late
  pub is : IsExchanged late.node late.shard (late_put rules late) e

module _ (start : Option MetaState) (turns : List Turn) (b : Answer) (rules : Rules) (rules_are : rules ≡ rules_at start (next_delivery turns)) where
  abbrev here : TurnPosition
  here = position_after turns act.Deliver b

  -- a late message is one of this turn
  late_here : (message : LateMessage) (late : LateWrite) → IsHeldBack start turns message late → IsLateMessage start here message
  late_here message late held =
      let h = held.is_late in
      record { made = inl held.made; of_act = h.of_act; was_sent = h.was_sent; call = h.call; of_call = h.of_call; may_use = h.may_use; member = h.member; late = h.late; not_yet = h.not_yet }

  events_are : (messages : List LateMessage) (bag : List LateWrite) (deliveries : List (LateWrite × Result ⊤ Reason)) (puts : List Event) → AreHeldBack start turns messages bag → AreDelivered rules bag deliveries puts → (e : Event) → IsIn puts e → IsOfLate start turns rules e
  events_are [] [] [] puts held h e m = absurd (subst (λ es. IsIn es e) h m)
  events_are [] [] (d ∷ deliveries) puts held h e m = absurd h
  events_are (message ∷ messages) (one ∷ bag) [] puts held h e m = absurd h
  events_are (message ∷ messages) (one ∷ bag) (d ∷ deliveries) puts held h e m = elim (IsIn-append_cases h.1 h.2 e (subst (λ es. IsIn es e) h.3 m)) as (λ _. IsOfLate start turns rules e) [
    | inl l ↦ record { message = message; late = one; held = held.0; is = in_delivery (λ (u : ⊤). reply.Done) one.node one.shard (late_put rules one) d.1 h.1 h.4 e l }
    | inr r ↦ events_are messages bag deliveries h.2 held.1 h.5 e r
  ]
  events_are [] (one ∷ bag) deliveries puts held h e m = absurd held
  events_are (message ∷ messages) [] deliveries puts held h e m = absurd held

  -- the Ask of one, and its step
  makes_late : (past : List Event) (e : Event) → IsOfLate start turns rules e → MayMake start past here e
  makes_late past e x = elim x.is as (λ _. MayMake start past here e) [
    | inl is ↦ subst (MayMake start past here) (sym is) (record {
      message = x.message;
      is_late = late_here x.message x.late x.held;
      node_is = (x.held).node;
      shard_is = (x.held).shard;
      client_is = (x.held).client;
      number_is = (x.held).number;
      rules_are = rules_are;
      version_is = (x.held).version;
      point_is = (x.held).point;
    })
    | inr is ↦ subst (MayMake start past here) (sym is.1) tt
  ]

  module _ (Here : ℕ → Event → Type 0) where
    refused_late : (message : LateMessage) (shard : ℕ) (why : Reason) → MaySay why → HasStep Here (IsLatePut start here message) message.node shard (reply.Refused why) → HearsLate start Here here message shard (Some why)
    refused_late message shard reason.Memory say step = tt
    refused_late message shard (reason.Corrupt damage) say step = (say, step)
    refused_late message shard _ say step = step

    heard_late : (message : LateMessage) (one : LateWrite) → IsHeldBack start turns message one → (said : Result ⊤ Reason) (events : List Event) → CameSo (λ (u : ⊤). reply.Done) fate.Deliver one.node one.shard (late_put rules one) said events → ((e : Event) → IsIn events e → Happens Here e)
        → ((why : Reason) → IsIn events (event.Step one.node one.shard (late_put rules one) (reply.Refused why)) → MaySay why) → HearsLate start Here here message one.shard (result_err said)
    heard_late message one held (Ok u) events came happens say =
        subst (λ n. HasStep Here (IsLatePut start here message) n one.shard reply.Done) held.node (late_put rules one, (held.client, held.number, rules_are, held.version, held.point), happens (event.Step one.node one.shard (late_put rules one) reply.Done) came.1)
    heard_late message one held (Err why) events came happens say = elim came as (λ _. HearsLate start Here here message one.shard (Some why)) [
      | inl cut ↦ cc
      | inr step ↦ refused_late message one.shard why (say why step.1)
          (subst (λ n. HasStep Here (IsLatePut start here message) n one.shard (reply.Refused why)) held.node (late_put rules one, (held.client, held.number, rules_are, held.version, held.point), happens (event.Step one.node one.shard (late_put rules one) (reply.Refused why)) step.1))
    ]

    hears_outcomes : (messages : List LateMessage) (bag : List LateWrite) (deliveries : List (LateWrite × Result ⊤ Reason)) (puts : List Event) → AreHeldBack start turns messages bag → AreDelivered rules bag deliveries puts → ((e : Event) → IsIn puts e → Happens Here e)
        → ((one : LateWrite) (why : Reason) → IsIn puts (event.Step one.node one.shard (late_put rules one) (reply.Refused why)) → MaySay why) → HearsOutcomes start Here here messages (map outcome_of deliveries)
    hears_outcomes [] [] [] puts held h happens say = tt
    hears_outcomes [] [] (d ∷ deliveries) puts held h happens say = absurd h
    hears_outcomes (message ∷ messages) (one ∷ bag) [] puts held h happens say = absurd h
    hears_outcomes (message ∷ messages) (one ∷ bag) (d ∷ deliveries) puts held h happens say = (
      subst (λ (x : LateWrite). HearsOutcome start Here here message (x.node, x.shard, result_err d.1)) (sym h.0) (record {
        message = late_here message one held.0;
        node_is = (held.0).node;
        shard_is = (held.0).shard;
        heard = heard_late message one held.0 d.1 h.1 (came_once (λ (u : ⊤). reply.Done) fate.Deliver one.node one.shard (late_put rules one) d.1 h.1 refl h.4) (λ e m. happens e (subst (λ es. IsIn es e) (sym h.3) (IsIn-append_left h.1 h.2 e m)))
            (λ why m. say one why (subst (λ es. IsIn es (event.Step one.node one.shard (late_put rules one) (reply.Refused why))) (sym h.3) (IsIn-append_left h.1 h.2 (event.Step one.node one.shard (late_put rules one) (reply.Refused why)) m)));
      }),
      hears_outcomes messages bag deliveries h.2 held.1 h.5 (λ e m. happens e (subst (λ es. IsIn es e) (sym h.3) (IsIn-append_right h.1 h.2 e m)))
          (λ x why m. say x why (subst (λ es. IsIn es (event.Step x.node x.shard (late_put rules x) (reply.Refused why))) (sym h.3) (IsIn-append_right h.1 h.2 (event.Step x.node x.shard (late_put rules x) (reply.Refused why)) m))),
    )
    hears_outcomes [] (one ∷ bag) deliveries puts held h happens say = absurd held
    hears_outcomes (message ∷ messages) [] deliveries puts held h happens say = absurd held

  -- ---- the line

  no_restart : (n s : ℕ) (r : StepReply) → IsOfLate start turns rules (event.Step n s call.Restart r) → ⊥
  no_restart n s r x = elim x.is as (λ _. ⊥) [ inl is ↦ cc | inr is ↦ (let late = x.late in let clash : event.Step n s call.Restart r ≡ event.Step late.node late.shard (call.Put late.client late.number rules late.version late.point) is.0 = is.1 in cc) ]

  only_asks : (past : List Event) (e : Event) → IsOfLate start turns rules e → MayChange here past e
  only_asks past e x = elim x.is as (λ _. MayChange here past e) [ inl is ↦ subst (MayChange here past) (sym is) tt | inr is ↦ subst (MayChange here past) (sym is.1) tt ]

calm_late : (start : Option MetaState) (turns : List Turn) (rules : Rules) (e : Event) → IsOfLate start turns rules e → IsCalm e
calm_late start turns rules e x = elim x.is as (λ _. IsCalm e) [ inl is ↦ subst IsCalm (sym is) tt | inr is ↦ subst IsCalm (sym is.1) tt ]

-- each delivery brings two events at most
few_puts : (rules : Rules) (bag : List LateWrite) (deliveries : List (LateWrite × Result ⊤ Reason)) (puts : List Event) → AreDelivered rules bag deliveries puts → length puts ≤ 2 * length bag
few_puts rules [] [] puts h = let none : length puts ≡ 0 = ap length h in omega (arith, none)
few_puts rules [] (d ∷ deliveries) puts h = absurd h
few_puts rules (one ∷ bag) [] puts h = absurd h
few_puts rules (one ∷ bag) (d ∷ deliveries) puts h =
    let both : length puts ≡ length h.1 + length h.2 = ap length h.3 ∙ length-append h.1 h.2 in
    let here = few_delivered (λ (u : ⊤). reply.Done) one.node one.shard (late_put rules one) d.1 h.1 h.4 in
    let rest = few_puts rules bag deliveries h.2 h.5 in
    omega (arith, both, here, rest)

-- ---- positions in the list

-- a list with a placement and a moment has two events
pub long_list : (events : List Event) (place : Placement) (rules : Rules) → last_place events ≡ Some place → last_clock events ≡ Some rules → 2 ≤ length events
long_list [] place rules e f = cc
long_list (x ∷ []) place rules e f = absurd (one x e f)
  where
    one : (x : Event) → place_by None x ≡ Some place → clock_after None x ≡ Some rules → ⊥
    one (event.Place p done) e f = cc
    one (event.Clock r) e f = cc
    one _ e f = cc
long_list (x ∷ y ∷ events) place rules e f = omega arith

module _ (tells : Bool) (events puts : List Event) (rules : Rules) (legal : Legal tells (events ++ puts)) where
  step_says : (one : LateWrite) (why : Reason) (k : ℕ) → 2 ≤ length events + k → At puts k (event.Step one.node one.shard (late_put rules one) (reply.Refused why)) → MaySay why
  step_says one why k two at =
      let i = length events + k in
      let e = event.Step one.node one.shard (late_put rules one) (reply.Refused why) in
      let past = take i (events ++ puts) in
      put_says tells past one.shard (replica one.node one.shard past) one.client one.number rules one.version one.point why (lawful_past tells i past e two (legal i e (back_at events puts k e at))).1

-- a delivery's answer is neither a write's nor a read's
delivered_plain : (outcomes : List (ℕ × ℕ × Option Reason)) → IsPlain act.Deliver (answer.Outcomes outcomes)
delivered_plain outcomes = record { no_acks = λ nodes e. cc; not_unmet = λ h. h; no_found = refl; no_rules = refl; no_seed = refl }

pub prints_none : (turns : List Turn) (events : List Event) (b : Answer) → printed b ≡ None → PrintsPlace turns events b
prints_none turns events b none = record {
  is_place = λ place e. absurd (let bad : None ≡ Some place = sym none ∙ e in cc);
  not_earlier = λ p at was is e f. absurd (let bad : None ≡ Some is = sym none ∙ f in cc);
}

pub delivered_tells : {D : Type 0} {G : Ghosts D} (state : D → DiskState) (old : Net D G) → DeliveredTells state old
delivered_tells {D} {G} state old tells start turns new outcomes left ready legal h =
    let b : Answer = answer.Outcomes outcomes in
    let rules = old.state.rules in
    let events = old.replicas.events in
    let messages = (left.late).messages in
    let held : AreHeldBack start turns messages old.bag = (left.late).held in
    let are : rules ≡ rules_at start (next_delivery turns) = sym left.rules in
    let delivered : AreDelivered rules old.bag h.deliveries h.puts = subst (λ bag. AreDelivered rules bag h.deliveries h.puts) (all_known start turns rules left.rules messages old.bag held) h.delivered in
    let all = events ++ h.puts in
    let each : (e : Event) → IsIn h.puts e → IsOfLate start turns rules e = events_are start turns b rules are messages old.bag h.deliveries h.puts held delivered in
    let opened : 0 < length events = some_events events old.state.place ready.place in
    let stretch : (e : Event) → IsIn h.puts e → Happens (InStretch all (length events) (length all)) e = in_stretch events h.puts in
    let say : (one : LateWrite) (why : Reason) → IsIn h.puts (event.Step one.node one.shard (late_put rules one) (reply.Refused why)) → MaySay why = λ one why m.
    let at = in_at h.puts (event.Step one.node one.shard (late_put rules one) (reply.Refused why)) m in
    step_says tells events h.puts rules (subst (Legal tells) (h.ran).grew legal) one why at.0 (let low = long_list events old.state.place old.state.rules ready.place ready.clock in omega (arith, low)) at.1
    in
    let outcomes_heard : HearsOutcomes start (InStretch all (length events) (length all)) (position_after turns act.Deliver b) messages outcomes = subst (HearsOutcomes start (InStretch all (length events) (length all)) (position_after turns act.Deliver b) messages) (sym h.outcomes_are)
    (hears_outcomes start turns b rules are (InStretch all (length events) (length all)) messages old.bag h.deliveries h.puts held delivered stretch say) in
    record {
      more = h.puts;
      grew = (h.ran).grew;
      line = record {
        makes = record {
          makes = λ i e le two at. makes_late start turns b rules are (take i all) e (each e (among_back events h.puts i e at le));
          restarts = λ i n s r le two at. absurd (no_restart start turns b rules are n s r (each (event.Step n s call.Restart r) (among_back events h.puts i (event.Step n s call.Restart r) at le)));
          hears = record {
            messages = messages;
            in_order = (left.late).in_order;
            each = outcomes_heard;
          };
        };
        plain = delivered_plain outcomes;
        opened = inl opened;
        adds = λ i e at. only_asks start turns b rules are (events ++ take i h.puts) e (each e (at_in h.puts i e at));
        prints = prints_none turns all b refl;
        ends = λ available boot x m. let bad : answer.Outcomes outcomes ≡ answer.Available available boot.place boot.version = boot.answered in cc;
      };
      serves = λ none. serves_so start turns events act.Deliver b h.puts (λ e m. calm_late start turns rules e (each e m)) (let low = few_puts rules old.bag h.deliveries h.puts delivered in let small = h.few in omega (arith, low, small)) messages ((left.late).in_order, outcomes_heard)
          (held_one start turns messages old.bag held) (answered start turns events act.Deliver b h.puts (λ e m. calm_late start turns rules e (each e m)) (inr tt) none);
      delivered = delivered_so turns act.Deliver b messages (λ m i. let late = held_one start turns messages old.bag held m i in (line_below turns m.position (late.1).made, refl));
    }

-- ---- lines by which nothing came

pub none_behind : (events : List Event) (i : ℕ) (e : Event) → length events ≤ i → At (events ++ []) i e → ⊥
none_behind events i e le at = let m : IsIn [] e = among_back events [] i e at le in m

-- no events tell of a line whose answer hears of none, and prints nothing
pub nothing_line : (start : Option MetaState) (turns : List Turn) (events : List Event) (a : Act) (b : Answer) → IsPlain a b → HearsBy start events (InStretch (events ++ []) (length events) (length (events ++ []))) (position_after turns a b) a b → printed b ≡ None
    → ((available : List (ℕ × List ℕ)) (place : Placement) (version : ℕ) → b ≡ answer.Available available place version → ⊥) → PlainLine start turns events a b []
nothing_line start turns events a b plain hears prints no_boot = record {
  makes = record {
    makes = λ i e le two at. absurd (none_behind events i e le at);
    restarts = λ i n s r le two at. absurd (none_behind events i (event.Step n s call.Restart r) le at);
    hears = hears;
  };
  plain = plain;
  opened = inr refl;
  adds = λ i e at. absurd (nothing_at i e at);
  prints = prints_none turns (events ++ []) b prints;
  ends = λ available boot x m. absurd (no_boot available boot.place boot.version boot.answered);
}

pub idle_line : (start : Option MetaState) (turns : List Turn) (events : List Event) (a : Act) (b : Answer) → IsIdle b → PlainLine start turns events a b []
idle_line start turns events a b h =
    nothing_line start turns events a b (record { no_acks = gives_no_acks b h; not_unmet = not_unmet_so a b h; no_found = finds_nothing b h; no_rules = sets_none a b h; no_seed = seeds_none a b h })
    (hears_nothing start events (InStretch (events ++ []) (length events) (length (events ++ []))) (position_after turns a b) a b h) (prints_nothing b h) (gives_no_boot b h)

pub nothing_tells : NothingTells
nothing_tells start turns events a b h = idle_line start turns events a b (given_up_idle b h)

pub nothing_serves : NothingServes
nothing_serves tells was past start turns events a were =
    serves_so start turns events a answer.Memory [] (λ e m. absurd m) (omega arith) [] tt (λ x m. absurd m) (inl refl) tells was past were
