-- A write from its Send to its Ack.
use Rattle.std.proofs.Common.{◌≡◌, ℕ, ◌≤◌, List, [], ◌∷◌, ◌++◌, map, length, true, refl, sym, ◌∙◌, subst, inr, append_assoc}
use Rattle.std.specs.Prelude.{⊤, ◌≢◌, Result, Ok, Err, IfOk, IfErr}
use Rattle.std.proofs.lemmas.List.{append-nil}
use Rattle.m3_model.specs.Ascends.{Ascends}
use Rattle.m3_model.specs.Members.{IsIn}
use Rattle.m3_model.specs.declared.placement.Assignment.{Assignment}
use Rattle.m3_model.specs.declared.reason.Reason.{Reason}
use Rattle.m3_model.proofs.MemberLemmas.{IsIn-append_right}
use Rattle.session_net.specs.m3_outside.DiskState.{DiskState}
use Rattle.session_net.specs.cluster_core.Earlier.{AreCounted, CountsNodes, HasPut, TookPoint}
use Rattle.session_net.specs.cluster_core.Legal.{IsAck}
use Rattle.session_net.specs.cluster_core.Lists.{At}
use Rattle.session_net.specs.cluster_core.declared.event.Event.{Event}
use Rattle.session_net.specs.cluster_core.declared.event.Event.TheVariants as event
use Rattle.session_net.specs.cluster_core.declared.event.StepReply.TheVariants as reply
use Rattle.session_net.proofs.cluster_core_proofs.ExtendLemmas.{at_last}
use Rattle.session_net.proofs.cluster_core_proofs.ListLemmas.{at_append}
use Rattle.net_plan.specs.Fates.{FateMap}
use Rattle.net_plan.specs.declared.late_write.LateWrite.{LateWrite}
use Rattle.placement_core.specs.Shards.{Shard, counts, nodes_of}
use Rattle.placement_core.proofs.ListLemmas.{All-from_each}
use Rattle.session_net.specs.Calls.{Tracked}
use Rattle.session_net.specs.Messages.{Heard, AreHeard}
use Rattle.session_net.specs.Outcomes.{told_of, answering, refusing, IsShortOf}
use Rattle.session_net.specs.Runs.{Ran}
use Rattle.session_net.specs.Writes.{Putting, put_of, counted_among, late_among, filled, IsSettled, IsUnsettled}
use Rattle.session_net.specs.declared.session_err.SessionErr.{SessionErr}
use Rattle.session_net.specs.declared.session_err.SessionErr.TheVariants as err
use Rattle.session_net.proofs.ReadyLemmas.{any_after, any_in}
use Rattle.session_net.proofs.RunLemmas.{ran_then}
use Rattle.session_writes.proofs.AckLemmas.{took_of, took_answers, who_took, took_ascends}

module _ {D : Type 0} (disk : D → DiskState) (fates : FateMap) (w : Putting) (members : Shard) (old mid after : Tracked D) (heard : List (Heard ⊤)) (puts : List Event)
    (are : AreHeard (λ (u : ⊤). reply.Done) fates w.id w.shard (put_of w.id w.rules w.version w.point) (nodes_of members) heard puts)
    (sent : Ran disk old (event.Send w.version w.shard w.point ∷ []) mid) (put : Ran disk mid puts after) where
  abbrev sending : Event
  sending = event.Send w.version w.shard w.point

  -- the Send and what came of it
  ran_put : Ran disk old (event.Send w.version w.shard w.point ∷ puts) after
  ran_put = ran_then disk (sending ∷ []) puts old mid after sent put

  send_at : At after.events (length old.events) (event.Send w.version w.shard w.point)
  send_at =
      subst (λ es. At es (length old.events) sending) (append_assoc old.events (sending ∷ []) puts ∙ sym ran_put.grew)
      (at_append (old.events ++ sending ∷ []) puts (length old.events) sending (at_last old.events sending))

  has_put : (n : ℕ) → IsIn (took_of members heard) n → HasPut after.events n w.shard w.version w.point
  has_put n m =
      let t = who_took fates w.id w.shard (put_of w.id w.rules w.version w.point) members heard puts are n m in
      let step : Event = event.Step n w.shard (put_of w.id w.rules w.version w.point) reply.Done in
      any_in (TookPoint n w.shard w.version w.point) after.events step (subst (λ es. IsIn es step) (sym ran_put.grew) (IsIn-append_right old.events (sending ∷ puts) step (inr t.put))) (refl, refl, refl, refl)

  -- those that took it may be named by an Ack
  pub may_ack : ((nodes : List ℕ) → ((n : ℕ) → IsIn nodes n → (a : Assignment) × IsIn members a × (counts a.state ≡ true) × (a.node ≡ n)) → AreCounted old.events w.version w.shard nodes) → Ascends (λ a b. a.node ≢ b.node) members
      → (position : ℕ) → position ≡ length old.events → (acks : List ℕ) → acks ≡ answering (map told_of (counted_among members heard)) → IsAck after.events position acks
  may_ack counted differ position is acks acks_are =
      let took : List ℕ = took_of members heard in
      let same : took ≡ acks = took_answers members heard ∙ sym acks_are in
      let c = put_of w.id w.rules w.version w.point in
      subst (λ ns. IsAck after.events position ns) same (
        sending,
        subst (λ k. At after.events k sending) (sym is) send_at,
        (
          took_ascends fates w.id w.shard c ◌≢◌ members heard puts are differ,
          any_after disk (CountsNodes w.version w.shard took) old after (sending ∷ puts) ran_put
              (counted took (λ n m. let t = who_took fates w.id w.shard c members heard puts are n m in (t.a, t.member, t.counted, t.node))),
          All-from_each (λ n. HasPut after.events n w.shard w.version w.point) took has_put,
        ),
      )

  module _ (new : Tracked D) (needed : ℕ) (bag later : List LateWrite) (back : later ≡ filled bag (late_among fates w.id w.shard w.version w.point (nodes_of members))) (answered : List ℕ) (reasons : List (ℕ × Reason))
      (answered_are : answered ≡ answering (map told_of (counted_among members heard))) (reasons_are : reasons ≡ refusing (map told_of (counted_among members heard))) (position : ℕ) (is : position ≡ length old.events) where
    -- it is settled
    pub settled : (result : Result (List ℕ) SessionErr) → IfOk result (λ acks. (acks ≡ answered) × (needed ≤ length acks) × Ran disk after (event.Ack position acks ∷ []) new) → IfOk result (λ acks. IsSettled disk fates w members needed acks old new bag later)
    settled (Ok acks) h = record {
      sent = record { members = members; heard = heard; puts = puts };
      to = refl;
      has_sent = record {
        heard = are;
        ran = subst (λ k. Ran disk old (event.Send w.version w.shard w.point ∷ (puts ++ event.Ack k acks ∷ [])) new) is (ran_then disk (event.Send w.version w.shard w.point ∷ puts) (event.Ack position acks ∷ []) old after new ran_put h.2);
        held_back = back;
      };
      acks_are = h.0 ∙ answered_are;
      enough = h.1;
    }
    settled (Err e) h = h

    -- or it isn't
    pub unsettled : (result : Result (List ℕ) SessionErr) → IfErr result (λ e. IsShortOf needed w.shard answered reasons e × (new ≡ after)) → IfErr result (λ e. IsUnsettled disk fates w members needed old new bag later e)
    unsettled (Ok acks) h = h
    unsettled (Err (err.Consistency shard needed_is got others)) h = (
      record { members = members; heard = heard; puts = puts },
      refl,
      record {
        heard = are;
        ran = subst (λ es. Ran disk old (event.Send w.version w.shard w.point ∷ es) new) (sym (append-nil puts)) (subst (λ t. Ran disk old (event.Send w.version w.shard w.point ∷ puts) t) (sym h.1) ran_put);
        held_back = back;
      },
      subst (λ ns. IsShortOf needed w.shard ns (refusing (map told_of (counted_among members heard))) (err.Consistency shard needed_is got others)) answered_are
          (subst (λ rs. IsShortOf needed w.shard answered rs (err.Consistency shard needed_is got others)) reasons_are h.0),
    )
    unsettled (Err err.Memory) h = absurd h.0
    unsettled (Err err.Full) h = absurd h.0
