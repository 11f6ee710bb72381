-- Replicas that took the steps of the list since they were made.
use Rattle.std.specs.Prelude.{Some}
use Rattle.std.specs.FinMap as finite
use Rattle.std.proofs.lemmas.Option.{same_Some}
use Rattle.std.proofs.Common.{◌≡◌, List, ◌++◌, refl, sym, ap, subst, ◌∙◌}
use Rattle.m3_outside.specs.Causes.{RoseBy}
use Rattle.m3_outside.specs.Depots.{Depot}
use Rattle.m3_outside.specs.DiskState.{DiskState}
use Rattle.node_calls.specs.replica_exchange.declared.member.Member.{Member}
use Rattle.node_calls.specs.replica_exchange.declared.slot.Slot.{Slot}
use Rattle.node_calls.specs.replica_calls.Calls.{Tracked}
use Rattle.node_calls.specs.session_net.Runs.{IsStepped, Step, steps_of}
use Rattle.node_calls.proofs.session_net_proofs.RunLemmas.{stepped_then}
use Rattle.line_tracks.specs.tracks.Failures.{CountsFaults, failures_in}
use Rattle.line_tracks.specs.tracks.Runs.{HasRun, HaveRun, RoseByFailures, RunGoesOn, RunIsCounted}
use Rattle.line_tracks.proofs.tracks.FailureLemmas.{others_on, rises, stepped_from, steps_grew}
use Rattle.m3_outside.specs.Slots.{Held}
use Rattle.m3_outside.specs.declared.slot.DiskSlot.{DiskSlot}

module _ {D : Type 0} (state : D → DiskState) where
  -- it took further steps
  pub has_run_on : (lay : DiskSlot → Held D) (depot : Depot D) (s : Slot) (steps more : List Step) (before m : Member D) → HasRun state lay depot s steps before → IsStepped state more (Some before) (Some m) → HasRun state lay depot s (steps ++ more) m
  has_run_on lay depot s steps more before m r on = record { made = r.made; over = r.over; stepped = stepped_then state steps more (Some r.made) (Some before) (Some m) r.stepped on }

  pub run_goes_on : (old : Tracked D) → RunGoesOn state old
  run_goes_on old lay depot new more h ran came = record {
    place = h.place;
    rules = h.rules;
    later = h.later ++ more;
    opened = ran.grew ∙ ap (λ es. es ++ more) h.opened;
    each = λ s m is.
        let from = stepped_from state (steps_of s more) (finite.get old.members s) (finite.get new.members s) m (ran.stepped s) is in
        subst (λ steps. HasRun state lay depot s steps m) (sym (steps_grew state old new more ran s)) (has_run_on lay depot s (steps_of s old.events) (steps_of s more) from.before m (h.each s from.before from.was) (m, refl, from.first, from.takes));
    others = others_on state old new more ran h.others came;
  }

  module _ (lay : DiskSlot → Held D) (depot : Depot D) (t : Tracked D) (h : HaveRun state lay depot t) where
    -- from the disk over which it was made
    run_rose : (s : Slot) (steps : List Step) (m : Member D) (r : HasRun state lay depot s steps m) → RoseBy (failures_in steps) (state (r.over).disk).faults (state m.machine.disk).faults
    run_rose s steps m r =
        let now : (r.stepped).0 ≡ m = same_Some (r.stepped).0 m (sym (r.stepped).1) in
        let disk : (state (r.made).machine.disk).faults ≡ (state (r.over).disk).faults = ap (λ (x : Member D). (state x.machine.disk).faults) (r.over).is_first in
        subst (λ n. RoseBy (failures_in steps) n (state m.machine.disk).faults) disk
        (subst (λ (x : Member D). RoseBy (failures_in steps) (state (r.made).machine.disk).faults (state x.machine.disk).faults) now (rises state steps (r.made).machine ((r.stepped).0).machine (r.stepped).3))

    run_first : (s : Slot) (steps : List Step) (m : Member D) (r : HasRun state lay depot s steps m) → (state (m.first).value).faults ≡ (state (r.over).disk).faults
    run_first s steps m r =
        let now : (r.stepped).0 ≡ m = same_Some (r.stepped).0 m (sym (r.stepped).1) in
        ap (λ (x : Member D). (state (x.first).value).faults) (sym now) ∙ ap (λ f. (state f.value).faults) (r.stepped).2 ∙ ap (λ (x : Member D). (state (x.first).value).faults) (r.over).is_first

    counts : CountsFaults state t
    counts = record {
      counts = λ s m is. let r = h.each s m is in subst (λ n. RoseBy (failures_in (steps_of s t.events)) n (state m.machine.disk).faults) (sym (run_first s (steps_of s t.events) m r)) (run_rose s (steps_of s t.events) m r);
      others = h.others;
    }

    rose : RoseByFailures state depot t
    rose = record {
      rose = λ s m is. let r = h.each s m is in subst (λ n. RoseBy (failures_in (steps_of s t.events)) n (state m.machine.disk).faults) (r.over).counted (run_rose s (steps_of s t.events) m r);
      others = h.others;
    }

  pub run_is_counted : (t : Tracked D) → RunIsCounted state t
  run_is_counted t lay depot h = (counts lay depot t h, rose lay depot t h)
