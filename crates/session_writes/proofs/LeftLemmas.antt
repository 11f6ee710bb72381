-- What a write leaves, whatever it answers: events of no moment and no placement, and late messages to members.
use Rattle.std.proofs.Common.{◌≡◌, ℕ, zero, suc, List, [], ◌∷◌, ◌++◌, length, take, Bool, true, false, cond, refl, sym, subst, inl, inr}
use Rattle.std.specs.Prelude.{⊤, ◌≢◌, ◌⊎◌, None, Result, Ok, Err, IfOk, IfErr, filter, nat_eq}
use Rattle.std.specs.FinMap as finite
use Rattle.std.specs.List.{All}
use Rattle.m3_model.specs.Members.{IsIn}
use Rattle.m3_model.specs.declared.limits.TheConstants.{MOST_LATE_WRITES}
use Rattle.m3_model.specs.declared.placement.Assignment.{Assignment}
use Rattle.m3_model.specs.declared.point.Point.{Point}
use Rattle.m3_model.specs.declared.rules.MetaState.{MetaState}
use Rattle.m3_model.proofs.MemberLemmas.{IsIn-append_right, IsIn-append_cases, IsIn-map}
use Rattle.session_net.specs.m3_outside.DiskState.{DiskState}
use Rattle.session_net.specs.wire_bytes.Entries.{IsBounded}
use Rattle.session_net.specs.cluster_core.Earlier.{IsSend, HasSend}
use Rattle.session_net.specs.cluster_core.declared.event.Event.{Event}
use Rattle.session_net.specs.cluster_core.declared.event.Event.TheVariants as event
use Rattle.session_net.specs.cluster_core.declared.event.StepReply.TheVariants as reply
use Rattle.net_plan.specs.Fates.{FateMap}
use Rattle.net_plan.specs.declared.late_write.LateWrite.{LateWrite}
use Rattle.placement_core.specs.Shards.{Shard, nodes_of}
use Rattle.placement_core.proofs.ListLemmas.{IsIn-filter, All-from_each, each-from_All}
use Rattle.session_net.specs.replica_exchange.declared.call_id.CallId.{CallId}
use Rattle.session_net.specs.Calls.{Tracked}
use Rattle.session_net.specs.Messages.{fate_to}
use Rattle.session_net.specs.Ready.{IsReady, IsLateSend, IsCallable}
use Rattle.session_net.specs.Runs.{Ran, slot_at}
use Rattle.session_net.specs.Writes.{Putting, Sent, HasSent, put_of, is_late, late_to, late_among, kept_in, filled, IsSettled, IsUnsettled}
use Rattle.session_net.specs.declared.session_err.SessionErr.{SessionErr}
use Rattle.session_net.specs.declared.session_err.SessionErr.TheVariants as err
use Rattle.session_net.proofs.ReadyLemmas.{IsQuiet, AreQuiet, any_in, there_after, ready_after, calls_after, quiet_none, quiet_between, quiet_messages}
use Rattle.session_net.proofs.RunLemmas.{ran_nothing}

-- ---- a bag after late messages

-- a late write's values are within their bounds
abbrev pub IsBoundedLate : LateWrite → Type 0
IsBoundedLate one = IsBounded one.point

kept_cases : (b : Bool) (bag : List LateWrite) (late one : LateWrite) → IsIn (cond b bag (bag ++ late ∷ [])) one → IsIn bag one ⊎ (late ≡ one)
kept_cases true bag late one m = inl m
kept_cases false bag late one m = elim (IsIn-append_cases bag (late ∷ []) one m) as (λ _. IsIn bag one ⊎ (late ≡ one)) [ inl before ↦ inl before | inr last ↦ elim last as (λ _. IsIn bag one ⊎ (late ≡ one)) [ inl is ↦ inr is | inr none ↦ absurd none ] ]

-- each was in it, or is one of them
filled_cases : (bag more : List LateWrite) (one : LateWrite) → IsIn (filled bag more) one → IsIn bag one ⊎ IsIn more one
filled_cases bag [] one m = inl m
filled_cases bag (late ∷ more) one m = elim (filled_cases (kept_in bag late) more one m) as (λ _. IsIn bag one ⊎ IsIn (late ∷ more) one) [
  | inl kept ↦ elim (kept_cases (nat_eq (length bag) MOST_LATE_WRITES) bag late one kept) as (λ _. IsIn bag one ⊎ IsIn (late ∷ more) one) [ inl before ↦ inl before | inr is ↦ inr (inl is) ]
  | inr later ↦ inr (inr later)
]

-- a late message is one to one of the nodes
late_from : (fates : FateMap) (id : CallId) (s version : ℕ) (p : Point) (nodes : List ℕ) (one : LateWrite) → IsIn (late_among fates id s version p nodes) one → (n : ℕ) × IsIn nodes n × (late_to id s version p n ≡ one)
late_from fates id s version p nodes one m =
    let from = IsIn-map (late_to id s version p) (filter (λ n. is_late (fate_to fates id n)) nodes) one m in
    (from.0, IsIn-filter (λ n. is_late (fate_to fates id n)) nodes from.0 from.1, from.2)

-- ---- what is left

quiet_ack : (position : ℕ) (acks : List ℕ) → AreQuiet (event.Ack position acks ∷ [])
quiet_ack position acks e (inl is) = subst IsQuiet is tt
quiet_ack position acks e (inr none) = absurd none

first_in : (k : ℕ) (members : Shard) (n : ℕ) → IsIn (nodes_of (take k members)) n → IsIn (nodes_of members) n
first_in zero [] n m = absurd m
first_in zero (a ∷ members) n m = absurd m
first_in (suc k) [] n m = absurd m
first_in (suc k) (a ∷ members) n (inl is) = inl is
first_in (suc k) (a ∷ members) n (inr later) = inr (first_in k members n later)

module _ {D : Type 0} (disk : D → DiskState) (fates : FateMap) (w : Putting) (members : Shard) (old new : Tracked D) (bag later : List LateWrite) where
  pub record IsLeft : Type 0 where
    pub more : List Event
    pub ran : Ran disk old more new
    pub quiet : AreQuiet more
    pub nodes : List ℕ
    pub within : (n : ℕ) → IsIn nodes n → IsIn (nodes_of members) n
    pub sent : (n : ℕ) → IsIn nodes n → HasSend new.events w.version w.shard w.point
    pub held_back : later ≡ filled bag (late_among fates w.id w.shard w.version w.point nodes)

  send_in : (rest : List Event) → Ran disk old (event.Send w.version w.shard w.point ∷ rest) new → HasSend new.events w.version w.shard w.point
  send_in rest ran =
      let e : Event = event.Send w.version w.shard w.point in
      any_in (IsSend w.version w.shard w.point) new.events e (subst (λ es. IsIn es e) (sym ran.grew) (IsIn-append_right old.events (e ∷ rest) e (inl refl))) refl

  left_sent : (sent : Sent) (last : List Event) → sent.members ≡ members → AreQuiet last → HasSent disk fates w sent last old new bag later → IsLeft
  left_sent sent last to quiet h = record {
    more = event.Send w.version w.shard w.point ∷ (sent.puts ++ last);
    ran = h.ran;
    quiet = quiet_between (event.Send w.version w.shard w.point) sent.puts last tt
        (quiet_messages (λ (u : ⊤). reply.Done) fates w.id w.shard (put_of w.id w.rules w.version w.point) (nodes_of sent.members) sent.heard sent.puts h.heard) quiet;
    nodes = nodes_of sent.members;
    within = λ n m. subst (λ ms. IsIn (nodes_of ms) n) to m;
    sent = λ n m. send_in (sent.puts ++ last) h.ran;
    held_back = h.held_back;
  }

  -- so it leaves them
  pub left : (needed : ℕ) (result : Result (List ℕ) SessionErr) → IfOk result (λ acks. IsSettled disk fates w members needed acks old new bag later) → IfErr result (λ e. IsUnsettled disk fates w members needed old new bag later e) → IsLeft
  left needed (Ok acks) h e = left_sent h.sent (event.Ack (length old.events) acks ∷ []) h.to (quiet_ack (length old.events) acks) h.has_sent
  left needed (Err (err.Consistency shard needed_is got others)) h e = left_sent e.0 [] e.1 quiet_none e.2
  left needed (Err err.Memory) h (inl same) = record {
    more = [];
    ran = subst (λ t. Ran disk old [] t) (sym same.0) (ran_nothing disk old);
    quiet = quiet_none;
    nodes = [];
    within = λ n m. absurd m;
    sent = λ n m. absurd m;
    held_back = same.1;
  }
  left needed (Err err.Memory) h (inr sent) = record {
    more = event.Send w.version w.shard w.point ∷ [];
    ran = sent.1;
    quiet = quiet_between (event.Send w.version w.shard w.point) [] [] tt quiet_none quiet_none;
    nodes = nodes_of (take sent.0 members);
    within = first_in sent.0 members;
    sent = λ n m. send_in [] sent.1;
    held_back = sent.2;
  }
  left needed (Err err.Full) h e = absurd e

  -- then calls may go on
  module _ (there : (a : Assignment) → IsIn members a → finite.get old.members (slot_at a.node w.shard) ≢ None) (h : IsLeft) where
    abbrev sent_late : List LateWrite
    sent_late = late_among fates w.id w.shard w.version w.point h.nodes

    late_sent : (one : LateWrite) → IsIn later one → IsIn bag one ⊎ IsLateSend new one
    late_sent one m = by_case (filled_cases bag sent_late one (subst (λ b. IsIn b one) h.held_back m))
      where
        by_case : IsIn bag one ⊎ IsIn sent_late one → IsIn bag one ⊎ IsLateSend new one
        by_case (inl before) = inl before
        by_case (inr late) =
            let from = late_from fates w.id w.shard w.version w.point h.nodes one late in
            let member = IsIn-map (λ (a : Assignment). a.node) members from.0 (h.within from.0 from.1) in
            inr (subst (IsLateSend new) from.2 (record {
              sent = h.sent from.0 from.1;
              there = there_after disk old new h.more (slot_at from.0 w.shard) h.ran (subst (λ n. finite.get old.members (slot_at n w.shard) ≢ None) member.2 (there member.0 member.1));
            }))

    pub left_ready : (state : MetaState) → IsReady state old bag → IsReady state new later
    left_ready state was = ready_after disk state old new bag later h.more was h.ran h.quiet late_sent

    pub left_callable : (state : MetaState) → IsCallable state old bag → IsCallable state new later
    left_callable state was = calls_after disk state old new bag later h.more was h.ran h.quiet late_sent

  -- and late writes are within their bounds
  pub left_bounded : IsBounded w.point → All IsBoundedLate bag → IsLeft → All IsBoundedLate later
  left_bounded bounded was h = All-from_each IsBoundedLate later (λ one m. by_case one (filled_cases bag sent_late one (subst (λ b. IsIn b one) h.held_back m)))
    where
      sent_late : List LateWrite
      sent_late = late_among fates w.id w.shard w.version w.point h.nodes

      by_case : (one : LateWrite) → IsIn bag one ⊎ IsIn sent_late one → IsBoundedLate one
      by_case one (inl before) = each-from_All IsBoundedLate bag was one before
      by_case one (inr late) = let from = late_from fates w.id w.shard w.version w.point h.nodes one late in subst IsBoundedLate from.2 bounded
