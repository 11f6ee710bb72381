-- A run that is told and served stays so by a line that makes a placement, or is to make one and doesn't.
use Rattle.std.proofs.Common.{◌≡◌, ◌≤◌, ◌+◌, ◌*◌, ◌∙◌, ℕ, zero, suc, Bool, true, false, List, [], ◌∷◌, ◌++◌, length, take, Option, Some, None, refl, sym, ap, subst, inl, inr, arith, length-append}
use Rattle.std.specs.Prelude.{not, ◌&&◌, nat_le}
use Rattle.std.specs.Option.{option_or}
use Rattle.std.proofs.Math.Nat.{mul-le-mul_left}
use Rattle.std.proofs.lemmas.List.{append-nil}
use Rattle.std.proofs.lemmas.Option.{same_Some}
use Rattle.m3_model.specs.Members.{IsIn}
use Rattle.m3_model.specs.declared.act.Act.{Act}
use Rattle.m3_model.specs.declared.act.Act.TheVariants as act
use Rattle.m3_model.specs.declared.answer.Answer.{Answer}
use Rattle.m3_model.specs.declared.answer.Answer.TheVariants as answer
use Rattle.m3_model.specs.declared.limits.TheConstants.{MOST_NODES, MOST_REQUEST_EVENTS, MOST_VERSIONS}
use Rattle.m3_model.specs.declared.placement.Placement.{Placement}
use Rattle.m3_model.specs.declared.reason.Reason.TheVariants as reason
use Rattle.m3_model.specs.declared.rules.MetaState.{MetaState}
use Rattle.m3_model.specs.declared.turn.Request.{Request}
use Rattle.m3_model.specs.declared.turn.Turn.{Turn}
use Rattle.m3_model.proofs.Lists.{take_whole}
use Rattle.placement_core.specs.Lawful.{IsLawful}
use Rattle.placement_core.specs.NodeNames.{is_listed}
use Rattle.placement_acts.specs.Acts.{IsDueBy, IsInTheWay, LeadsNowhere, Plans, answer_if, is_known, is_step_act, names_due, order_due, refusal_due, unknown_due, versions_due}
use Rattle.placement_acts.proofs.ActLemmas.{by_step}
use Rattle.cluster_core.specs.Earlier.{last_place}
use Rattle.cluster_core.specs.Lists.{At}
use Rattle.cluster_core.specs.declared.event.Asked.TheVariants as asked
use Rattle.cluster_core.specs.declared.event.Event.{Event}
use Rattle.cluster_core.specs.declared.event.Event.TheVariants as event
use Rattle.cluster_core.specs.declared.event.StepCall.{StepCall}
use Rattle.cluster_core.specs.declared.event.StepCall.TheVariants as call
use Rattle.cluster_core.specs.declared.event.StepReply.{StepReply}
use Rattle.cluster_core.specs.declared.event.StepReply.TheVariants as reply
use Rattle.transcripts.specs.Caused.{IsStepOf, acts_in, kept_after}
use Rattle.transcripts.specs.Deliveries.{LateMessage}
use Rattle.transcripts.specs.Faults.{AreDifferent, Fault, Taking}
use Rattle.transcripts.specs.Placements.{has_replica, placement_at}
use Rattle.transcripts.specs.Record.{Record, TurnPosition, inner_turns, line_of}
use Rattle.transcripts.proofs.RefusalLemmas.{step_refusal}
use Rattle.told_by.specs.Hears.{InStretch}
use Rattle.told_by.specs.Lines.{position_after}
use Rattle.told_by.specs.Steps.{EndsGone, IsUnmoved}
use Rattle.told_by.proofs.KindLemmas.{taken}
use Rattle.told_by.proofs.LineLemmas.{nothing_at}
use Rattle.told_by.proofs.OneLemmas.{at_back}
use Rattle.told_by.proofs.StepLemmas.{ends_in, last_behind, steps_tell, unmoved_tell}
use Rattle.told_runs.specs.Answers.{HearsOf, IsAnswered, IsDecidedBy, IsOfKind}
use Rattle.told_runs.specs.Bounds.{writes_taken}
use Rattle.told_runs.specs.Lines.{Adds, AddsInOrder, IsToldAndServed, OpensNext, ServesOne, delivered_on}
use Rattle.told_runs.specs.Steps.{MeetsStep, RefusedStepsServe, StepsServe, UntakenStepsServe, untaken_after}
use Rattle.told_runs.proofs.LineLemmas.{plain_serves}

-- ---- answers

-- what is of a step is of the act's kind
kind_step : (taking : List Fault) (start : Option MetaState) (p : TurnPosition) (b : Answer) (a : Act) → is_step_act a ≡ true → IsStepOf taking start p a b → IsOfKind taking start p a b
kind_step taking start p b = by_step (λ a. IsStepOf taking start p a b → IsOfKind taking start p a b) (λ node group h. h) (λ node h. h) (λ node h. h) (λ node h. h) (λ node by group h. h)

module _ (taking : List Fault) (start : Option MetaState) (turns : List Turn) (place : Placement) (a : Act) (b : Answer) (meets : MeetsStep start turns place a) where
  abbrev own : TurnPosition
  own = position_after turns a b

  abbrev due : Option Answer
  due = refusal_due (Some place) (kept_after start (inner_turns turns) place) a

  -- the answer is decided by what is due
  decided_by : (end : ℕ) → IsDecidedBy taking start own due → IsAnswered taking start end own
  decided_by end h =
      inr (inr (inner_turns turns, record { others = []; some_of = tt; are = sym (append-nil (inner_turns turns)) }, subst (IsDecidedBy taking start own) (sym (step_refusal start own (inner_turns turns) place meets.stands meets.is_step)) h))

  -- an answer of the step, where nothing is due
  answered_step : (end : ℕ) → due ≡ None → IsStepOf taking start own a b → IsAnswered taking start end own
  answered_step end free h = decided_by end (subst (IsDecidedBy taking start own) (sym free) (kind_step taking start own b a meets.is_step h))

  -- a plan from the placement that stands
  plan_here : (next : Placement) → Plans (Some place) a next → Plans (placement_at start own) a next
  plan_here next plan = subst (λ (o : Option Placement). Plans o a next) (sym meets.stands) plan

  way_here : (c : Answer) → IsInTheWay (Some place) a c → IsInTheWay (placement_at start own) a c
  way_here c way = subst (λ (o : Option Placement). IsInTheWay o a c) (sym meets.stands) way

  -- what is in the way is the step's own answer
  way_step : (p : TurnPosition) (c : Answer) → IsInTheWay (placement_at start p) a c → IsStepOf taking start p a c
  way_step p (answer.Busy name shard) h = h
  way_step p (answer.Group shard) h = h
  way_step p _ h = absurd h

  -- a step that leads nowhere is answered
  nowhere_answered : (end : ℕ) → LeadsNowhere (Some place) (kept_after start (inner_turns turns) place) a b → IsAnswered taking start end own
  nowhere_answered end (inl memory) = inl memory
  nowhere_answered end (inr h) = by due refl h
    where
      by : (o : Option Answer) → due ≡ o → IsDueBy (Some place) a o b → IsAnswered taking start end own
      by (Some refusal) e is = decided_by end (subst (IsDecidedBy taking start own) (sym e) is)
      by None e way = answered_step end e (way_step own b (way_here b way))

-- ---- no placement

if_unmoved : (test : Bool) (one r : Answer) → IsUnmoved one → answer_if test one ≡ Some r → IsUnmoved r
if_unmoved true one r h e = subst IsUnmoved (same_Some one r e) h
if_unmoved false one r h e = cc

or_unmoved : (x y : Option Answer) (r : Answer) → ((s : Answer) → x ≡ Some s → IsUnmoved s) → ((s : Answer) → y ≡ Some s → IsUnmoved s) → option_or x y ≡ Some r → IsUnmoved r
or_unmoved (Some s) y r of_x of_y e = of_x r e
or_unmoved None y r of_x of_y e = of_y r e

module _ (place : Placement) (kept : ℕ) where
  order_unmoved : (name : List ℕ) (r : Answer) → order_due place name ≡ Some r → IsUnmoved r
  order_unmoved name r e = if_unmoved (is_listed name place) answer.Order r tt e

  unknown_unmoved : (name : List ℕ) (r : Answer) → unknown_due place name ≡ Some r → IsUnmoved r
  unknown_unmoved name r e = if_unmoved (not (is_listed name place)) (answer.Unknown name) r tt e

  names_unmoved : (name : List ℕ) (r : Answer) → names_due place name ≡ Some r → IsUnmoved r
  names_unmoved name r e = if_unmoved (not (is_known name place) && nat_le MOST_NODES (length place.instances)) (answer.Limit MOST_NODES) r tt e

  versions_unmoved : (a : Act) (r : Answer) → versions_due kept a ≡ Some r → IsUnmoved r
  versions_unmoved a r e = if_unmoved (is_step_act a && nat_le MOST_VERSIONS kept) (answer.Limit MOST_VERSIONS) r tt e

  due_unmoved : (r : Answer) (a : Act) → is_step_act a ≡ true → refusal_due (Some place) kept a ≡ Some r → IsUnmoved r
  due_unmoved r = by_step (λ a. refusal_due (Some place) kept a ≡ Some r → IsUnmoved r)
      (λ node group. or_unmoved (option_or (order_due place node) (names_due place node)) (versions_due kept (act.Add node group)) r (λ s. or_unmoved (order_due place node) (names_due place node) s (order_unmoved node) (names_unmoved node)) (versions_unmoved (act.Add node group)))
      (λ node. or_unmoved (unknown_due place node) (versions_due kept (act.Drain node)) r (unknown_unmoved node) (versions_unmoved (act.Drain node)))
      (λ node. or_unmoved (unknown_due place node) (versions_due kept (act.Cancel node)) r (unknown_unmoved node) (versions_unmoved (act.Cancel node)))
      (λ node. or_unmoved (unknown_due place node) (versions_due kept (act.Remove node)) r (unknown_unmoved node) (versions_unmoved (act.Remove node)))
      (λ node by group. or_unmoved (option_or (order_due place by) (option_or (unknown_due place node) (names_due place by))) (versions_due kept (act.Replace node by group)) r
      (λ s. or_unmoved (order_due place by) (option_or (unknown_due place node) (names_due place by)) s (order_unmoved by) (λ t. or_unmoved (unknown_due place node) (names_due place by) t (unknown_unmoved node) (names_unmoved by)))
      (versions_unmoved (act.Replace node by group)))

  way_unmoved : (a : Act) (b : Answer) → IsInTheWay (Some place) a b → IsUnmoved b
  way_unmoved a (answer.Busy name shard) h = tt
  way_unmoved a (answer.Group shard) h = tt
  way_unmoved a _ h = absurd h

  pub nowhere_unmoved : (a : Act) (b : Answer) → is_step_act a ≡ true → LeadsNowhere (Some place) kept a b → IsUnmoved b
  nowhere_unmoved a b step (inl memory) = subst IsUnmoved (sym memory) tt
  nowhere_unmoved a b step (inr h) = by (refusal_due (Some place) kept a) refl h
    where
      by : (o : Option Answer) → refusal_due (Some place) kept a ≡ o → IsDueBy (Some place) a o b → IsUnmoved b
      by (Some refusal) e is = subst IsUnmoved (sym is) (due_unmoved refusal a step e)
      by None e way = way_unmoved a b way

-- no outcome and no peer is heard in such an answer
unmoved_hears_none : (start : Option MetaState) (Here : ℕ → Event → Type 0) (p : TurnPosition) (b : Answer) → IsUnmoved b → HearsOf start Here p [] b
unmoved_hears_none start Here p (answer.Outcomes outcomes) h = absurd h
unmoved_hears_none start Here p (answer.Peers got needed reasons shard) h = absurd h
unmoved_hears_none start Here p _ h = tt

-- ---- bounds

fits : (a : Act) (b : Answer) (events more : List Event) → length more ≤ MOST_REQUEST_EVENTS → (writes : ℕ) → length (events ++ more) ≤ length events + (MOST_REQUEST_EVENTS * length (acts_in (line_of a b ∷ []))) * (writes + 1)
fits a b events more few writes =
    let one : 1 ≤ writes + 1 = omega arith in
    let some : (MOST_REQUEST_EVENTS * 1) * 1 ≤ (MOST_REQUEST_EVENTS * 1) * (writes + 1) = mul-le-mul_left (MOST_REQUEST_EVENTS * 1) one in
    omega (arith, length-append events more, few, some)

-- ---- lines that make a placement

module _ (next : Placement) (lawful : IsLawful next) (start : Option MetaState) (turns : List Turn) (events : List Event) (a : Act) (step : is_step_act a ≡ true) (ends : List Event) (gone : (e : Event) → IsIn ends e → EndsGone next e) where
  abbrev added : List Event
  added = event.Ask (asked.Place next []) ∷ event.Place next [] ∷ ends

  only_next : (k : ℕ) (place : Placement) (done : List (ℕ × ℕ)) → At added k (event.Place place done) → next ≡ place
  only_next zero place done there = cc
  only_next (suc zero) place done there = let e : event.Place next [] ≡ event.Place place done = same_Some _ _ there in cc
  only_next (suc (suc k)) place done there = absurd (gone (event.Place place done) (ends_in next k ends (event.Place place done) there))

  -- its steps end tenures
  only_ends : (k n s : ℕ) (c : StepCall) (r : StepReply) → At added k (event.Step n s c r) → (m : ℕ) × (k ≡ suc (suc m)) × EndsGone next (event.Step n s c r)
  only_ends zero n s c r there = cc
  only_ends (suc zero) n s c r there = cc
  only_ends (suc (suc k)) n s c r there = (k, refl, gone (event.Step n s c r) (ends_in next k ends (event.Step n s c r) there))

  last_here : (k : ℕ) → last_place (events ++ take (suc (suc k)) added) ≡ Some next
  last_here k = last_behind next start turns events a step ends gone k

  last_whole : last_place (events ++ added) ≡ Some next
  last_whole = ap (λ es. last_place (events ++ es)) (sym (take_whole added)) ∙ last_here (length ends)

  made_in_order : AddsInOrder events added
  made_in_order = record {
    lawful = λ i place done adds. let r = at_back events added i (event.Place place done) adds.1 adds.0 in subst IsLawful (only_next r.0 place done r.2) lawful;
    one = λ i place done adds. let r = at_back events added i (event.Place place done) adds.1 adds.0 in last_whole ∙ ap Some (only_next r.0 place done r.2);
    ends = λ i n s r adds place is.
        let b = at_back events added i (event.Step n s call.End r) adds.1 adds.0 in
        let m = only_ends b.0 n s call.End r b.2 in
        let front : take i (events ++ added) ≡ events ++ take (suc (suc m.0)) added = ap (λ k. take k (events ++ added)) b.1 ∙ taken start turns events a (answer.Placed next next.version) added b.0 ∙ ap (λ k. events ++ take k added) m.1 in
        subst (λ q. has_replica (Some q) s n ≡ false) (same_Some next place (sym (last_here m.0) ∙ ap last_place (sym front) ∙ is)) m.2;
  }

  opens_none : OpensNext start events added
  opens_none = record {
    fenced = λ i n s tenure fence points adds. let b = at_back events added i (event.Step n s (call.Begin tenure) (reply.Began fence points)) adds.1 adds.0 in absurd (only_ends b.0 n s (call.Begin tenure) (reply.Began fence points) b.2).2;
    owned = λ i n s tenure adds. let b = at_back events added i (event.Step n s (call.Begin tenure) (reply.Refused reason.NotOwned)) adds.1 adds.0 in absurd (only_ends b.0 n s (call.Begin tenure) (reply.Refused reason.NotOwned) b.2).2;
  }

pub steps_serve : {tells : Bool} → StepsServe tells
steps_serve {tells} past start turns unanswered later events taking was told place a next more meets makes =
    let b = answer.Placed next next.version in
    let added_are = makes.adds in
    let whole = steps_tell start turns events a next more meets.is_step makes.opened makes.legal told.0 added_are in
    plain_serves past start turns unanswered later events a b more [] taking [] was told whole (
    subst (λ es. ServesOne tells [] [] was past start turns events a b es) (sym added_are.adds) (record {
      adds = made_in_order next makes.lawful start turns events a meets.is_step added_are.ends added_are.gone;
      opens = λ is. opens_none next makes.lawful start turns events a meets.is_step added_are.ends added_are.gone;
      answered = answered_step [] start turns place a b meets (length (events ++ (event.Ask (asked.Place next []) ∷ event.Place next [] ∷ added_are.ends))) (makes.leads).free (refl, plan_here [] start turns place a b meets next (makes.leads).plan, refl);
      delivers = tt;
      not_again = λ q at x y m k. absurd m;
      untaken_are = λ fault m. absurd m;
      different = tt;
      bound = λ is. fits a b events (event.Ask (asked.Place next []) ∷ event.Place next [] ∷ added_are.ends) (subst (λ es. length es ≤ MOST_REQUEST_EVENTS) added_are.adds makes.few) (writes_taken past (turns ++ line_of a b ∷ []));
    }))

-- ---- lines that make none

module _ {tells : Bool} (past : List Record) (start : Option MetaState) (turns : List Turn) (unanswered later : Option Request) (events : List Event) (taking : List Fault) (was : TurnPosition → List LateMessage)
    (told : IsToldAndServed tells taking was past start turns unanswered events) (a : Act) (b : Answer) (step : is_step_act a ≡ true) (unmoved : IsUnmoved b) where
  none_added : (i : ℕ) (e : Event) → Adds events [] i e → ⊥
  none_added i e adds = let r = at_back events [] i e adds.1 adds.0 in nothing_at r.0 e r.2

  unmoved_serves : (untaken : List Fault) → ((fault : Fault) → IsIn untaken fault → (fault.kind ≡ Taking) × (fault.line ≡ length turns)) → AreDifferent untaken → ((end : ℕ) → IsAnswered untaken start end (position_after turns a b))
      → IsToldAndServed tells (untaken ++ taking) (delivered_on turns was (λ p. [])) past start (turns ++ line_of a b ∷ []) later events
  unmoved_serves untaken are different answered =
      subst (λ es. IsToldAndServed tells (untaken ++ taking) (delivered_on turns was (λ p. [])) past start (turns ++ line_of a b ∷ []) later es) (append-nil events) (
      plain_serves past start turns unanswered later events a b [] untaken taking [] was told (unmoved_tell start turns events a b step unmoved) (record {
        adds = record {
          lawful = λ i place done adds. absurd (none_added i (event.Place place done) adds);
          one = λ i place done adds. absurd (none_added i (event.Place place done) adds);
          ends = λ i n s r adds. absurd (none_added i (event.Step n s call.End r) adds);
        };
        opens = λ is. record {
          fenced = λ i n s tenure fence points adds. absurd (none_added i (event.Step n s (call.Begin tenure) (reply.Began fence points)) adds);
          owned = λ i n s tenure adds. absurd (none_added i (event.Step n s (call.Begin tenure) (reply.Refused reason.NotOwned)) adds);
        };
        answered = answered (length (events ++ []));
        delivers = unmoved_hears_none start (InStretch (events ++ []) (length events) (length (events ++ []))) (position_after turns a b) b unmoved;
        not_again = λ q at x y m k. absurd m;
        untaken_are = are;
        different = different;
        bound = λ is. fits a b events [] (omega arith) (writes_taken past (turns ++ line_of a b ∷ []));
      }))

pub refused_steps_serve : {tells : Bool} → RefusedStepsServe tells
refused_steps_serve past start turns unanswered later events taking was told place a b meets nowhere =
    unmoved_serves past start turns unanswered later events taking was told a b meets.is_step (nowhere_unmoved place (kept_after start (inner_turns turns) place) a b meets.is_step nowhere)
    [] (λ fault m. absurd m) tt (λ end. nowhere_answered [] start turns place a b meets end nowhere)

pub untaken_steps_serve : {tells : Bool} → UntakenStepsServe tells
untaken_steps_serve past start turns unanswered later events taking was told place a next name node shard meets leads slot =
    let b = answer.Disk name shard in
    let untaken = untaken_after turns node shard ∷ [] in
    unmoved_serves past start turns unanswered later events taking was told a b meets.is_step tt untaken
    (λ fault m. elim m as (λ _. (fault.kind ≡ Taking) × (fault.line ≡ length turns)) [ inl e ↦ subst (λ (f : Fault). (f.kind ≡ Taking) × (f.line ≡ length turns)) e (refl, refl) | inr none ↦ absurd none ])
    ((λ none. none), tt)
    (λ end. answered_step untaken start turns place a b meets end leads.free (next, plan_here untaken start turns place a b meets next leads.plan, slot))
