-- A machine is its replica's by whichever files it was made over: what a step says of disks it says of these.
use Rattle.std.proofs.Common.{◌≡◌, inl, inr, ⊎_elim, ℕ, max, true, List, [], ◌∷◌, sym, subst, ◌∙◌, arith}
use Rattle.m3_model.specs.Members.{IsIn}
use Rattle.m3_model.specs.declared.reason.Reason.TheVariants as reason
use Rattle.m3_model.proofs.MemberLemmas.{IsIn-append_left}
use Rattle.m3_outside.specs.Files.{Files}
use Rattle.m3_outside.specs.DiskState.{DiskState}
use Rattle.cluster_core.specs.Replicas.{after}
use Rattle.cluster_core.specs.declared.event.StepCall.{StepCall}
use Rattle.cluster_core.specs.declared.event.StepCall.TheVariants as call
use Rattle.cluster_core.specs.declared.event.StepReply.{StepReply}
use Rattle.cluster_core.specs.declared.event.StepReply.TheVariants as reply
use Rattle.cluster_core.specs.declared.replica_state.ReplicaState.{ReplicaState}
use Rattle.cluster_core.proofs.ReplicaLemmas.{after_begun, some_there}
use Rattle.replica_machine.specs.Bases.{CameFrom, HasOpening}
use Rattle.replica_machine.specs.Machines.{MachineState, IsMachineOf}
use Rattle.replica_machine.specs.Openings.{StepsOverFiles}
use Rattle.replica_machine.specs.Steps.{IsStep}
use Rattle.replica_machine.proofs.BaseLemmas.{IsTried, greater_of, held_at, came_itself}

-- a step takes back no begin that was tried
tried_stays : (r : ReplicaState) (c : StepCall) (a : StepReply) (n : ℕ) → IsIn r.tried n → IsIn (after r c a).tried n
tried_stays r (call.Begin tenure) (reply.Began fence points) n m = m
tried_stays r (call.Put client number rules version point) reply.Done n m = m
tried_stays r (call.Merge page) (reply.Count k) n m = m
tried_stays r (call.Fence version) reply.Done n m = m
tried_stays r (call.Tick rules) (reply.Count k) n m = m
tried_stays r call.End reply.Done n m = m
tried_stays r call.Stop reply.Done n m = m
tried_stays r call.Restart reply.Done n m = m
tried_stays r (call.Begin tenure) (reply.Refused reason.Disk) n m = IsIn-append_left r.tried (tenure ∷ []) n m
tried_stays r (call.Put client number rules version point) (reply.Refused reason.Disk) n m = m
tried_stays r (call.Merge page) (reply.Refused reason.Disk) n m = m
tried_stays r (call.Fence version) (reply.Refused reason.Disk) n m = m
tried_stays r (call.Tick rules) (reply.Refused reason.Disk) n m = m
tried_stays r (call.Tick rules) (reply.Refused (reason.Corrupt damage)) n m = m
tried_stays r _ (reply.Refused reason.Disk) n m = m
tried_stays r _ (reply.Refused (reason.Corrupt damage)) n m = m
tried_stays r _ _ n m = m

-- and no begin that was done
unbegun_before : (r : ReplicaState) (c : StepCall) (a : StepReply) → (after r c a).begun ≡ [] → r.begun ≡ []
unbegun_before r c a none =
    elim (after_begun r c a) as (λ _. r.begun ≡ []) [
      | inl same ↦ sym same ∙ none
      | inr b ↦ absurd (some_there r.begun b.0 (subst (λ x. (after r (call.Begin b.0) x).begun ≡ []) b.4 (subst (λ x. (after r x a).begun ≡ []) b.3 none)))
    ]

-- what came from files that came from these
came_through : (base between : Files → Type 0) (tried more : List ℕ) → ((n : ℕ) → IsIn tried n → IsIn more n) → ((c : Files) → between c → CameFrom base tried c) → (c : Files) → CameFrom between more c → CameFrom base more c
came_through base between tried more grows each c came =
    let was = each came.before came.was in
    record {
      before = was.before;
      was = was.was;
      stepped = λ before tenure fence held.
          let one = was.stepped before tenure fence held in
          let two = came.stepped one.points (max tenure one.raised_to) (max fence one.raised_to) one.held in
          let one_of : IsTried more one.raised_to = ⊎_elim (λ (none : one.raised_to ≡ 0). inl none) (λ (m : IsIn tried one.raised_to). inr (grows one.raised_to m)) one.one_of in
          record {
            points = two.points;
            raised_to = max one.raised_to two.raised_to;
            one_of = greater_of more one.raised_to two.raised_to one_of two.one_of;
            held = held_at two.points (max (max tenure one.raised_to) two.raised_to) (max tenure (max one.raised_to two.raised_to)) (max (max fence one.raised_to) two.raised_to) (max fence (max one.raised_to two.raised_to)) c (omega arith) (omega arith) two.held;
            same = λ p. (λ m. (one.same p).0 ((two.same p).0 m), λ m. (two.same p).1 ((one.same p).1 m));
          };
    }

module _ {D : Type 0} (state : D → DiskState) (base : Files → Type 0) (r : ReplicaState) (old : MachineState D) (h : IsMachineOf state base r old) where
  -- whatever it was made over, it may be taken as made over its own disk
  pub own : IsMachineOf state (state old.disk).images r old
  own = record { stands = h.stands; begun = h.begun; below = h.below; empty = h.empty; open_ = h.open_; files = h.files; unbegun = λ none tells c image. came_itself (state old.disk).images r.tried c image; snapshots = λ sound tells c image. sound c image }

  -- over more files
  pub wider : (more : Files → Type 0) → ((c : Files) → base c → more c) → IsMachineOf state more r old
  wider more into = record {
    stands = h.stands;
    begun = h.begun;
    below = h.below;
    empty = h.empty;
    open_ = h.open_;
    files = h.files;
    unbegun = λ none tells c image. let came = h.unbegun none tells c image in record { before = came.before; was = into came.before came.was; stepped = came.stepped };
    snapshots = λ sound. h.snapshots (λ c is. sound c (into c is));
  }

  module _ (c : StepCall) (a : StepReply) (new : MachineState D) (step : IsStep state old c a new) where
    pub follows_from : IsMachineOf state base (after r c a) new
    follows_from =
        let next = step.follows old.disk r own in
        record {
          stands = next.stands;
          begun = next.begun;
          below = next.below;
          empty = next.empty;
          open_ = next.open_;
          files = next.files;
          unbegun = λ none tells files image.
              came_through base (state old.disk).images r.tried (after r c a).tried (tried_stays r c a) (h.unbegun (unbegun_before r c a none) (sym step.tells ∙ tells)) files (next.unbegun none tells files image);
          snapshots = λ sound tells. next.snapshots (h.snapshots sound (sym step.tells ∙ tells)) tells;
        }

    pub opens_from : (state old.disk).tells ≡ true → r.begun ≡ [] → HasOpening base r.tried c a
    opens_from tells none = by c a (step.opens old.disk r own tells none)
      where
        by : (c : StepCall) (a : StepReply) → HasOpening (state old.disk).images r.tried c a → HasOpening base r.tried c a
        by (call.Begin tenure) (reply.Began fence points) opens = record {
          files = opens.files;
          came = came_through base (state old.disk).images r.tried r.tried (λ n m. m) (h.unbegun none tells) opens.files opens.came;
          all = opens.all;
          tenure_found = opens.tenure_found;
          fence_found = opens.fence_found;
          held = opens.held;
          once = opens.once;
          not_higher = opens.not_higher;
          fence_is = opens.fence_is;
        }
        by _ _ opens = tt

pub steps_over_files : {D : Type 0} (state : D → DiskState) → StepsOverFiles state
steps_over_files state = record {
  lawful = λ all r old new c a step h past n s given. step.lawful old.disk r (own state (IsIn all) r old h) past n s given;
  follows = λ all r old new c a step h. follows_from state (IsIn all) r old h c a new step;
  opens = λ all r old new c a step h tells none. opens_from state (IsIn all) r old h c a new step tells none;
}
