-- What the last step of a line leaves of replicas, and what comes behind it.
use Rattle.std.proofs.Common.{◌≡◌, ℕ, List, [], ◌∷◌, ◌++◌, refl, sym, ◌∙◌, subst, inl, inr, arith, true}
use Rattle.std.specs.Prelude.{nat_eq, ◌&&◌, if◌then◌else◌, Bool, false, fold}
use Rattle.std.proofs.lemmas.Grind.{fold-append}
use Rattle.std.proofs.lemmas.List.{take-append-le}
use Rattle.m3_model.specs.Members.{IsIn}
use Rattle.m3_outside.specs.DiskState.{DiskState}
use Rattle.m3_outside.specs.Files.{Files}
use Rattle.cluster_core.specs.Replicas.{after, fresh, replica, step_of}
use Rattle.cluster_core.specs.declared.event.Event.{Event}
use Rattle.cluster_core.specs.declared.event.Event.TheVariants as event
use Rattle.cluster_core.specs.declared.event.StepCall.TheVariants as call
use Rattle.cluster_core.specs.declared.event.StepReply.{StepReply}
use Rattle.cluster_core.specs.declared.event.StepReply.TheVariants as reply
use Rattle.m3_model.specs.declared.reason.Reason.TheVariants as reason
use Rattle.cluster_core.specs.declared.replica_state.ReplicaState.{ReplicaState}
use Rattle.cluster_core.proofs.ListLemmas.{at_append, at_within}
use Rattle.replica_machine.specs.Machines.{IsHeldBy}
use Rattle.replica_machine.specs.Openings.{HoldAsMade}
use Rattle.told_by.proofs.LeaveLemmas.{legal_front}
use Rattle.life_ends.specs.Lies.{MayLie}
use Rattle.life_ends.specs.Runs.{BeginWithThese, IsLeftOf, ChangesNoContent, RunLeavesStandingBefore}
use Rattle.life_ends.proofs.EndLemmas.{run_leaves_standing}

-- what is known of the one is known of the other but for how it stands and its tenure
pub record HoldTheSame (r q : ReplicaState) : Type 0 where
  pub fence : q.fence ≡ r.fence
  pub sure : q.sure ≡ r.sure
  pub doubt : q.doubt ≡ r.doubt
  pub doubt_fences : q.doubt_fences ≡ r.doubt_fences
  pub ticks : q.ticks ≡ r.ticks
  pub begun : q.begun ≡ r.begun
  pub tried : q.tried ≡ r.tried

itself : (r : ReplicaState) → HoldTheSame r r
itself r = record { fence = refl; sure = refl; doubt = refl; doubt_fences = refl; ticks = refl; begun = refl; tried = refl }

on : (r q p : ReplicaState) → HoldTheSame r q → HoldTheSame q p → HoldTheSame r p
on r q p a b = record { fence = b.fence ∙ a.fence; sure = b.sure ∙ a.sure; doubt = b.doubt ∙ a.doubt; doubt_fences = b.doubt_fences ∙ a.doubt_fences; ticks = b.ticks ∙ a.ticks; begun = b.begun ∙ a.begun; tried = b.tried ∙ a.tried }

ended : (r : ReplicaState) (a : StepReply) → HoldTheSame r (after r call.End a)
ended r reply.Done = record { fence = refl; sure = refl; doubt = refl; doubt_fences = refl; ticks = refl; begun = refl; tried = refl }
ended r (reply.Refused reason.Disk) = record { fence = refl; sure = refl; doubt = refl; doubt_fences = refl; ticks = refl; begun = refl; tried = refl }
ended r (reply.Refused (reason.Corrupt damage)) = record { fence = refl; sure = refl; doubt = refl; doubt_fences = refl; ticks = refl; begun = refl; tried = refl }
ended r _ = itself r

quiet_step : (n s : ℕ) (r : ReplicaState) (e : Event) → ChangesNoContent e → HoldTheSame r (step_of n s r e)
quiet_step n s r (event.Ask asked) q = itself r
quiet_step n s r (event.Place placement done) q = itself r
quiet_step n s r (event.Clock rules) q = itself r
quiet_step n s r (event.Step m t call.End a) q = by (nat_eq m n && nat_eq t s)
  where
    by : (b : Bool) → HoldTheSame r (if b then after r call.End a else r)
    by true = ended r a
    by false = itself r
quiet_step n s r _ q = absurd q

quiet_from : (n s : ℕ) (later : List Event) → ((e : Event) → IsIn later e → ChangesNoContent e) → (r : ReplicaState) → HoldTheSame r (fold (step_of n s) r later)
quiet_from n s [] quiet r = itself r
quiet_from n s (e ∷ later) quiet r = on r (step_of n s r e) (fold (step_of n s) (step_of n s r e) later) (quiet_step n s r e (quiet e (inl refl))) (quiet_from n s later (λ x h. quiet x (inr h)) (step_of n s r e))

pub quiet_replica : (n s : ℕ) (front later : List Event) → ((e : Event) → IsIn later e → ChangesNoContent e) → HoldTheSame (replica n s front) (replica n s (front ++ later))
quiet_replica n s front later quiet = subst (HoldTheSame (replica n s front)) (sym (fold-append (step_of n s) fresh front later)) (quiet_from n s later quiet (replica n s front))

-- files that the one may begin with the other may, too
pub held_before : (r q : ReplicaState) (files : Files) → HoldTheSame r q → IsHeldBy q files → IsHeldBy r files
held_before r q files same h =
    subst (λ (x : ReplicaState). IsHeldBy x files) (like r q same)
    (record {
      points = h.points;
      tenure = h.tenure;
      fence = h.fence;
      held = h.held;
      source = h.source;
      all_there = h.all_there;
      none_higher = h.none_higher;
      known = h.known;
      fence_is = h.fence_is;
    })
  where
    like : (r q : ReplicaState) → HoldTheSame r q → record q { standing = r.standing; tenure = r.tenure } ≡ r
    like r q same = λ i. record { standing = r.standing; tenure = r.tenure; fence = same.fence i; sure = same.sure i; doubt = same.doubt i; doubt_fences = same.doubt_fences i; ticks = same.ticks i; begun = same.begun i; tried = same.tried i }

pub run_leaves_standing_before : {D : Type 0} (state : D → DiskState) → RunLeavesStandingBefore state
run_leaves_standing_before {D} state past start turns unanswered events more later left lay now legal told may_be quiet is_left stand begins ends =
    run_leaves_standing state past start turns unanswered events more left lay now (legal_front (events ++ more) later legal) told may_be is_left stand begins_front ends_front
  where
    begins_front : BeginWithThese state lay (events ++ more)
    begins_front i n s tenure fence points there none =
        let e = event.Step n s (call.Begin tenure) (reply.Began fence points) in
        begins i n s tenure fence points (at_append (events ++ more) later i e there) (subst (λ (es : List Event). (replica n s es).begun ≡ []) (sym (take-append-le i (events ++ more) later (omega (arith, at_within (events ++ more) i e there)))) none)

    ends_front : (n s : ℕ) (files : Files) → MayLie state (now n s) files → IsLeftOf state (lay n s) (replica n s (events ++ more)) files
    ends_front n s files mine =
        let same = quiet_replica n s (events ++ more) later quiet in
        let left = ends n s files mine in
        record {
          begun = λ some. held_before (replica n s (events ++ more)) (replica n s ((events ++ more) ++ later)) files same (left.begun (λ none. some (sym same.begun ∙ none)));
          unbegun = λ none. subst (λ (tried : List ℕ). HoldAsMade (MayLie state (lay n s)) tried files) same.tried (left.unbegun (same.begun ∙ none));
        }
