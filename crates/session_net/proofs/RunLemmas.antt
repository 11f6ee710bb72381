-- What calls leave of the replicas, one after the other.
use Rattle.std.proofs.Common.{◌≡◌, ℕ, List, [], ◌∷◌, ◌++◌, Bool, true, false, refl, sym, ap, ◌∙◌, subst, append_assoc}
use Rattle.std.specs.Prelude.{Option, Some, None, Result, nat_eq, ◌&&◌, if◌then◌else◌}
use Rattle.std.specs.FinMap as finite
use Rattle.std.specs.List.{cons_option}
use Rattle.std.proofs.lemmas.Bool.{and_parts, and_from, eq-eqb, eqb-true}
use Rattle.std.proofs.lemmas.List.{append-nil}
use Rattle.std.proofs.lemmas.List.Elements.{filter_map-append}
use Rattle.replica_calls.specs.m3_outside.DiskState.{DiskState}
use Rattle.replica_calls.specs.cluster_core.declared.event.Event.{Event}
use Rattle.replica_calls.specs.cluster_core.declared.event.Event.TheVariants as event
use Rattle.replica_calls.specs.cluster_core.declared.event.StepCall.{StepCall}
use Rattle.replica_calls.specs.cluster_core.declared.event.StepReply.{StepReply}
use Rattle.replica_calls.specs.Machines.{MachineState}
use Rattle.replica_calls.specs.Steps.{reply_by}
use Rattle.replica_calls.specs.MachineCalls.{Promise, AddsBoth}
use Rattle.replica_calls.specs.Exchanges.{ask_of, seen_in, IsNothing, HasAdded}
use Rattle.replica_calls.specs.CallErr.{CallErr}
use Rattle.replica_calls.specs.Member.{Member}
use Rattle.replica_calls.specs.Slot.{Slot}
use Rattle.replica_calls.specs.Calls.{Tracked, WasCalled, IsNoStep}
use Rattle.replica_calls.proofs.SlotLemmas.{get-insert_here, get-insert_other}
use Rattle.session_net.specs.Messages.{exchange}
use Rattle.session_net.specs.Runs.{Step, step_in, steps_of, TakesSteps, IsStepped, Ran}

module _ {D : Type 0} (state : D → DiskState) where
  stays : (o : Option (Member D)) → IsStepped state [] o o
  stays None = refl
  stays (Some m) = (m, refl, refl, refl)

  -- where nothing came, nothing changed
  pub ran_nothing : (t : Tracked D) → Ran state t [] t
  ran_nothing t = record { grew = sym (append-nil t.events); stepped = λ s. stays (finite.get t.members s); only = λ s none. refl }

  takes_then : (first next : List Step) (a b c : MachineState D) → TakesSteps state first a b → TakesSteps state next b c → TakesSteps state (first ++ next) a c
  takes_then [] next a b c same h = subst (λ m. TakesSteps state next m c) same h
  takes_then (step ∷ first) next a b c g h = (g.0, g.1, takes_then first next g.0 b c g.2 h)

  pub stepped_then : (first next : List Step) (a b c : Option (Member D)) → IsStepped state first a b → IsStepped state next b c → IsStepped state (first ++ next) a c
  stepped_then first next None b c gone h = subst (λ o. IsStepped state next o c) gone h
  stepped_then first next (Some m) b c g h =
      let k = subst (λ o. IsStepped state next o c) g.1 h in
      (k.0, k.1, k.2 ∙ g.2, takes_then first next m.machine (g.0).machine (k.0).machine g.3 k.3)

  -- where there was none, there is none
  none_then : (steps : List Step) (a b : Option (Member D)) → IsStepped state steps a b → a ≡ None → b ≡ None
  none_then steps a b h none = subst (λ o. IsStepped state steps o b) none h

  -- first these events came, and then those
  pub ran_then : (first next : List Event) (a b c : Tracked D) → Ran state a first b → Ran state b next c → Ran state a (first ++ next) c
  ran_then first next a b c g h = record {
    grew = h.grew ∙ ap (λ es. es ++ next) g.grew ∙ append_assoc a.events first next;
    stepped = λ s. subst (λ steps. IsStepped state steps (finite.get a.members s) (finite.get c.members s)) (sym (filter_map-append (step_in s) first next))
        (stepped_then (steps_of s first) (steps_of s next) (finite.get a.members s) (finite.get b.members s) (finite.get c.members s) (g.stepped s) (h.stepped s));
    only = λ s none. filter_map-append (step_in s) first next ∙ ap (λ xs. xs ++ steps_of s next) (g.only s none) ∙ h.only s (none_then (steps_of s first) (finite.get a.members s) (finite.get b.members s) (g.stepped s) none);
  }

  -- ---- one event

  no_step : (e : Event) → IsNoStep e → (s : Slot) → steps_of s (e ∷ []) ≡ []
  no_step (event.Step n sh c a) none s = absurd none
  no_step (event.Ask asked) none s = refl
  no_step (event.Place place done) none s = refl
  no_step (event.Clock rules) none s = refl
  no_step (event.Send version sh point) none s = refl
  no_step (event.Ack send nodes) none s = refl
  no_step (event.FetchStart version sh rules pick from to) none s = refl
  no_step (event.FetchDone start nodes series) none s = refl

  -- an event came that no replica makes
  pub ran_added : (e : Event) (position : ℕ) (old new : Tracked D) → IsNoStep e → HasAdded IsNothing e position (seen_in old.events) (seen_in new.events) → new.members ≡ old.members → Ran state old (e ∷ []) new
  ran_added e position old new none h same = record {
    grew = ap (λ x. x.events) h.after ∙ ap (λ b. (old.events ++ b) ++ e ∷ []) h.may_before ∙ ap (λ es. es ++ e ∷ []) (append-nil old.events);
    stepped = λ s. subst (λ steps. IsStepped state steps (finite.get old.members s) (finite.get new.members s)) (sym (no_step e none s))
        (subst (λ m. IsStepped state [] (finite.get old.members s) (finite.get m s)) (sym same) (stays (finite.get old.members s)));
    only = λ s nobody. no_step e none s;
  }

  -- ---- one call

  module _ {X Y : Type 0} (slot : Slot) (c : StepCall) (ok : X → StepReply) (Promised : Promise D X) (f : X → Y) (result : Result Y CallErr) (old new : Tracked D) (h : WasCalled state slot c ok Promised (AddsBoth slot) f result old new) where
    abbrev pub said : StepReply
    said = reply_by ok h.answered.said

    grew_so : new.events ≡ old.events ++ exchange slot.node slot.shard c said
    grew_so =
        let adds = h.answered.adds in
        let ask = ask_of slot.node slot.shard c ∷ [] in
        let step = event.Step slot.node slot.shard c said ∷ [] in
        ap (λ x. x.events) adds.after ∙ ap (λ b. (((old.events ++ b) ++ ask) ++ adds.between) ++ step) adds.may_before ∙ ap (λ b. (((old.events ++ []) ++ ask) ++ b) ++ step) adds.may_between
        ∙ ap (λ es. ((es ++ ask) ++ []) ++ step) (append-nil old.events) ∙ ap (λ es. es ++ step) (append-nil (old.events ++ ask)) ∙ append_assoc old.events ask step

    here : IsStepped state (record { call = c; reply = said } ∷ []) (finite.get old.members slot) (finite.get new.members slot)
    here = subst (λ o. IsStepped state (record { call = c; reply = said } ∷ []) o (finite.get new.members slot)) (sym h.there)
        (h.after, ap (λ m. finite.get m slot) h.members ∙ get-insert_here old.members slot h.after, h.answered.first, (h.after.machine, h.answered.step, refl))

    there : (s : Slot) → ¬ (s ≡ slot) → IsStepped state [] (finite.get old.members s) (finite.get new.members s)
    there s apart = subst (λ o. IsStepped state [] (finite.get old.members s) o) (sym (ap (λ m. finite.get m s) h.members ∙ get-insert_other old.members slot h.after s apart)) (stays (finite.get old.members s))

    same_by : (s : Slot) → (nat_eq slot.node s.node && nat_eq slot.shard s.shard) ≡ true → slot ≡ s
    same_by s is =
        let parts = and_parts (nat_eq slot.node s.node) (nat_eq slot.shard s.shard) is in
        λ i. record { shard = eqb-true slot.shard s.shard parts.1 i; node = eqb-true slot.node s.node parts.0 i }

    apart_by : (s : Slot) → (nat_eq slot.node s.node && nat_eq slot.shard s.shard) ≡ false → ¬ (s ≡ slot)
    apart_by s is e =
        let yes : (nat_eq slot.node s.node && nat_eq slot.shard s.shard) ≡ true =
        and_from (nat_eq slot.node s.node) (nat_eq slot.shard s.shard) (eq-eqb slot.node s.node (ap (λ (q : Slot). q.node) (sym e))) (eq-eqb slot.shard s.shard (ap (λ (q : Slot). q.shard) (sym e))) in
        let clash : true ≡ false = sym yes ∙ is in
        cc

    by_slot : (s : Slot) (b : Bool) → (nat_eq slot.node s.node && nat_eq slot.shard s.shard) ≡ b
        → IsStepped state (cons_option (if b then Some (record { call = c; reply = said }) else None) []) (finite.get old.members s) (finite.get new.members s)
    by_slot s true is = subst (λ q. IsStepped state (record { call = c; reply = said } ∷ []) (finite.get old.members q) (finite.get new.members q)) (same_by s is) here
    by_slot s false is = there s (apart_by s is)

    none_by : (s : Slot) (b : Bool) → (nat_eq slot.node s.node && nat_eq slot.shard s.shard) ≡ b → finite.get old.members s ≡ None → cons_option {X = Step} (if b then Some (record { call = c; reply = said }) else None) [] ≡ []
    none_by s true is none = let clash : None ≡ Some h.before = sym none ∙ ap (finite.get old.members) (sym (same_by s is)) ∙ h.there in cc
    none_by s false is none = refl

    -- an exchange came
    pub ran_called : Ran state old (exchange slot.node slot.shard c said) new
    ran_called = record {
      grew = grew_so;
      stepped = λ s. by_slot s (nat_eq slot.node s.node && nat_eq slot.shard s.shard) refl;
      only = λ s none. none_by s (nat_eq slot.node s.node && nat_eq slot.shard s.shard) refl none;
    }
