-- What the replicas of a node came to, in the words of what its bootstrap adds.
use Rattle.std.proofs.Common.{◌≡◌, ◌≢◌, ◌<◌, ◌≤◌, ◌+◌, ◌*◌, ℕ, zero, suc, List, [], ◌∷◌, ◌++◌, map, length, Bool, true, false, refl, sym, ap, ◌∙◌, subst, inl, inr, arith, append_assoc}
use Rattle.std.specs.Prelude.{◌⊎◌, Option, Some, None, Result, Ok, Err, nat_eq, slice_index_or}
use Rattle.std.specs.List.{flat_map}
use Rattle.std.proofs.lemmas.Bool.{cases_eq}
use Rattle.std.proofs.lemmas.List.{append-nil}
use Rattle.m3_model.specs.Ascends.{Ascends}
use Rattle.m3_model.specs.Members.{IsIn}
use Rattle.m3_model.specs.declared.answer.Answer.{Answer}
use Rattle.m3_model.specs.declared.answer.Answer.TheVariants as answer
use Rattle.m3_model.specs.declared.limits.TheConstants.{MOST_SHARDS}
use Rattle.m3_model.specs.declared.placement.Assignment.{Assignment}
use Rattle.m3_model.specs.declared.placement.Placement.{Placement}
use Rattle.m3_model.specs.declared.reason.Damage.{Damage}
use Rattle.m3_model.specs.declared.reason.Damage.TheVariants as wrong
use Rattle.m3_model.specs.declared.reason.Reason.{Reason}
use Rattle.m3_model.specs.declared.reason.Reason.TheVariants as reason
use Rattle.m3_outside.specs.DiskState.{DiskState}
use Rattle.m3_outside.specs.declared.disk.Disk.{Ghosts}
use Rattle.placement_core.specs.Shards.{Shard, nodes_of, shard_at}
use Rattle.peer_streams.specs.Joins.{AskedPeer, IsEnding, IsHeldUp, Opened, StopsShort, reasons_of}
use Rattle.cluster_core.specs.declared.event.Event.{Event}
use Rattle.node_calls.specs.cluster_members.declared.members.Members.{Members}
use Rattle.node_calls.specs.replica_calls.Calls.{Tracked}
use Rattle.node_calls.specs.replica_exchange.MachineCalls.{HasRoom}
use Rattle.node_calls.specs.replica_machine.Damages.{IsFileDamage}
use Rattle.node_calls.specs.session_net.Runs.{Ran}
use Rattle.node_calls.specs.transcripts.Reasons.{IsShown}
use Rattle.node_calls.specs.Nodes.{KeepsButBoots, MayBoot}
use Rattle.node_calls.proofs.session_net_proofs.RunLemmas.{ran_nothing, ran_then}
use Rattle.node_joins.specs.Joined.{JoinedOf}
use Rattle.node_joins.specs.Opens.{IsOpenTried, IsShort}
use Rattle.node_joins.specs.Shards.{AreOpenedBelow, AreTried, IsEndedAt, asked_at, covered_below, shard_if}
use Rattle.node_joins.specs.Unowned.{AreUnowned, CameUnowned}
use Rattle.node_joins.specs.declared.open_err.OpenErr.{OpenErr}
use Rattle.node_joins.specs.declared.open_err.OpenErr.TheVariants as open_err
use Rattle.node_joins.proofs.ShardLemmas.{covered_ascend, covered_is, is_covered}
use Rattle.told_joins.specs.Lines.{AddsHeldUp, AddsMissed, AddsPart, AreOpened, added_by}
use Rattle.cluster_joins.specs.Boots.{IsBooted, IsEndedBy}
use Rattle.cluster_joins.specs.Opened.{ended_answer}

-- ---- which were opened, and which are left

-- a shard that has a node is one of the placement's
low_by_node : (shards : List Shard) (s y : ℕ) → IsIn (nodes_of (slice_index_or shards s [])) y → s < length shards
low_by_node [] s y m = absurd m
low_by_node (shard ∷ shards) zero y m = omega arith
low_by_node (shard ∷ shards) (suc s) y m = let low = low_by_node shards s y m in omega (arith, low)

module _ (y : ℕ) (only : Option ℕ) (place : Placement) where
  -- behind one that is covered others may be left
  pub covered_on : (s n : ℕ) (own : Assignment) → s < n → asked_at y only place s ≡ Some own → (left : List ℕ) × (covered_below y only place n ≡ covered_below y only place s ++ s ∷ left)
  covered_on s zero own low asked = absurd (omega (arith, low))
  covered_on s (suc n) own low asked = by (cases_eq s n) (λ less. covered_on s n own less asked)
    where
      by : (s ≡ n) ⊎ (s ≢ n) → (s < n → (left : List ℕ) × (covered_below y only place n ≡ covered_below y only place s ++ s ∷ left)) → (left : List ℕ) × (covered_below y only place (suc n) ≡ covered_below y only place s ++ s ∷ left)
      by (inl same) before = ([], subst (λ k. covered_below y only place (suc k) ≡ covered_below y only place s ++ s ∷ []) same (ap (λ o. covered_below y only place s ++ shard_if s o) asked))
      by (inr other) before =
          let rest = before (omega (arith, low, other)) in
          let more = shard_if n (asked_at y only place n) in
          (rest.0 ++ more, ap (λ xs. xs ++ more) rest.1 ∙ append_assoc (covered_below y only place s) (s ∷ rest.0) more)

  pub are_opened : {D : Type 0} (state : D → DiskState) (s : ℕ) (joined : List JoinedOf) (old new : Tracked D) (left : List ℕ) → (h : AreOpenedBelow state y only place s joined old new) → covered_below y only place (length place.shards) ≡ covered_below y only place s ++ left → AreOpened place y only h.opened left
  are_opened state s joined old new left h all =
      let whole : map (λ (o : Opened). o.shard) h.opened ++ left ≡ covered_below y only place (length place.shards) = ap (λ xs. xs ++ left) h.shards ∙ sym all in
      record {
        by_number = subst (Ascends (λ a b. a < b)) (sym whole) (covered_ascend y only place (length place.shards));
        are = λ q. (
          λ m. (covered_is y only place (length place.shards) q (subst (λ l. IsIn l q) whole m)).1,
          λ c. subst (λ l. IsIn l q) (sym whole) (is_covered y only place (length place.shards) q (low_by_node place.shards q y c.1) c.0 c.1),
        );
        each = h.each;
      }

  -- all of them were
  pub all_opened : {D : Type 0} (state : D → DiskState) (joined : List JoinedOf) (old new : Tracked D) → (h : AreOpenedBelow state y only place (length place.shards) joined old new) → AreOpened place y only h.opened []
  all_opened state joined old new h = are_opened state (length place.shards) joined old new [] h (sym (append-nil (covered_below y only place (length place.shards))))

  -- none was
  pub none_opened : AreOpened place y only [] (covered_below y only place (length place.shards))
  none_opened = record {
    by_number = covered_ascend y only place (length place.shards);
    are = λ q. (λ m. (covered_is y only place (length place.shards) q m).1, λ c. is_covered y only place (length place.shards) q (low_by_node place.shards q y c.1) c.0 c.1);
    each = λ o m. absurd m;
  }

-- ---- where it ended early

-- damage of a file is shown
form_shown : (damage : Damage) → IsFileDamage damage → IsShown damage
form_shown (wrong.Digest file kept found) form = form.1
form_shown (wrong.Form file at) form = tt

-- room for a placement and for all ends of tenures is room for two calls
pub lacks_more : (events : List Event) → ¬ HasRoom 4 events → ¬ HasRoom (2 + 2 * MOST_SHARDS) events
lacks_more events none room = none (omega (arith, room))

module _ {D : Type 0} {G : Ghosts D} (state : D → DiskState) (old new : Members D G) (name : List ℕ) (asked : Option ℕ) (may : MayBoot old name asked) (keeps : KeepsButBoots old new) (came : CameUnowned state old.net.replicas new.net.replicas) where
  abbrev place : Placement
  place = old.net.state.place

  abbrev y : ℕ
  y = may.runs.node

  pub ended_by : (Adds : Placement → ℕ → Option ℕ → List Event → Type 0) (more : List Event) → Adds place y asked more → Ran state old.net.replicas more new.net.replicas → IsEndedBy state old name asked Adds new
  ended_by Adds more adds ran = record { may = may; more = more; adds = adds; unowned = came more ran.grew; ran = ran; keeps = keeps }

  -- at one of the shards
  module _ (why : OpenErr) (at : IsEndedAt state y asked place why old.net.replicas new.net.replicas) where
    abbrev opened : List Opened
    opened = (at.before).opened

    rest : (left : List ℕ) × (covered_below y asked place (length place.shards) ≡ covered_below y asked place at.shard ++ at.shard ∷ left)
    rest = covered_on y asked place at.shard (length place.shards) at.own at.below at.asked

    before : AreOpened place y asked opened (at.shard ∷ rest.0)
    before = are_opened y asked place state at.shard at.joined old.net.replicas at.mid (at.shard ∷ rest.0) at.before rest.1

    ran_on : (last : List Event) → Ran state at.mid last new.net.replicas → Ran state old.net.replicas (added_by opened ++ last) new.net.replicas
    ran_on last ran = ran_then state (added_by opened) last old.net.replicas at.mid new.net.replicas (at.before).ran ran

    part_at : (last : List Event) → ((last ≡ []) ⊎ ((s : ℕ) × (later : List ℕ) × (at.shard ∷ rest.0 ≡ s ∷ later) × StopsShort place s y last)) → Ran state at.mid last new.net.replicas → IsEndedBy state old name asked AddsPart new
    part_at last part ran = ended_by AddsPart (added_by opened ++ last) (record { opened = opened; left = at.shard ∷ rest.0; before = before; last = last; part = part; adds = refl }) (ran_on last ran)

    held_at : (shard : ℕ) (w : Reason) (last : List Event) → shard ≡ at.shard → IsHeldUp place at.shard y w last → Ran state at.mid last new.net.replicas → IsEndedBy state old name asked (λ p n only. AddsHeldUp p n only shard w) new
    held_at shard w last is held ran =
        subst (λ s. IsEndedBy state old name asked (λ p n only. AddsHeldUp p n only s w) new) (sym is)
        (ended_by (λ p n only. AddsHeldUp p n only at.shard w) (added_by opened ++ last) (record { opened = opened; left = rest.0; before = before; last = last; held = held; adds = refl }) (ran_on last ran))

    missed_at : (shard needed got : ℕ) (reasons : List (ℕ × Reason)) → shard ≡ at.shard → IsShort state place at.shard y needed got reasons at.mid new.net.replicas → IsBooted state old name asked (answer.Peers got needed reasons shard) new
    missed_at shard needed got reasons is short = (
      short.peers,
      (λ i. answer.Peers (short.got_is i) (short.needed_is i) (short.reasons_are i) shard),
      subst (λ s. IsEndedBy state old name asked (λ p n only. AddsMissed p n only s short.peers) new) (sym is)
          (ended_by (λ p n only. AddsMissed p n only at.shard short.peers) (added_by opened ++ short.events)
          (record {
            opened = opened;
            left = rest.0;
            before = before;
            last = short.events;
            misses = short.misses;
            shown = λ q damage m. form_shown damage (short.form q damage (subst (λ rs. IsIn rs (q, reason.Corrupt damage)) (sym short.reasons_are) m));
            adds = refl;
          }) (ran_on short.events short.ran)),
    )

  -- a replica of the node refused
  refused_booted : (shard : ℕ) (w : Reason) (at : IsEndedAt state y asked place (open_err.Refused shard w) old.net.replicas new.net.replicas) → IsBooted state old name asked (ended_answer name (open_err.Refused shard w)) new
  refused_booted shard w at = by w at (at.tried).2 (at.tried).1 (subst (λ n. IsHeldUp place at.shard n w (at.tried).2) at.of_node (at.tried).3) (at.tried).5
    where
      by : (w : Reason) (at : IsEndedAt state y asked place (open_err.Refused shard w) old.net.replicas new.net.replicas) (last : List Event) → ((damage : Damage) → w ≡ reason.Corrupt damage → IsFileDamage damage) → IsHeldUp place at.shard y w last → Ran state at.mid last new.net.replicas → IsBooted state old name asked (ended_answer name (open_err.Refused shard w)) new
      by reason.Disk at last form held ran = (refl, held_at (open_err.Refused shard reason.Disk) at shard reason.Disk last (at.tried).0 held ran)
      by (reason.Corrupt damage) at last form held ran = (refl, form damage refl, held_at (open_err.Refused shard (reason.Corrupt damage)) at shard (reason.Corrupt damage) last (at.tried).0 held ran)
      by reason.Memory at last form held ran = inr (inl (shard, held_at (open_err.Refused shard reason.Memory) at shard reason.Memory last (at.tried).0 held ran))
      by _ at last form held ran = absurd held.ends

  -- what was done where they weren't all opened is what the answer says
  pub err_booted : (why : OpenErr) → AreTried state y asked place old.net.replicas new.net.replicas (Err why) → IsBooted state old name asked (ended_answer name why) new
  err_booted why (inl early) =
      subst (λ w. IsBooted state old name asked (ended_answer name w) new) (sym early.0)
      (inr (inr (ended_by AddsPart [] (record { opened = []; left = covered_below y asked place (length place.shards); before = none_opened y asked place; last = []; part = inl refl; adds = refl }) (subst (Ran state old.net.replicas []) (sym early.1) (ran_nothing state old.net.replicas)))))
  err_booted (open_err.Refused shard w) (inr at) = refused_booted shard w at
  err_booted (open_err.Peers shard needed got reasons) (inr at) =
      missed_at (open_err.Peers shard needed got reasons) at shard needed got reasons (at.tried).0 (subst (λ n. IsShort state place at.shard n needed got reasons at.mid new.net.replicas) at.of_node (at.tried).1)
  err_booted open_err.Memory (inr at) = inr (inr (part_at open_err.Memory at [] (inl refl) (subst (Ran state at.mid []) (sym at.tried) (ran_nothing state at.mid))))
  err_booted open_err.Full (inr at) =
      let part = (at.tried).2 in (
        lacks_more new.net.replicas.events (at.tried).0,
        part_at open_err.Full at (at.tried).1 (elim part as (λ _. ((at.tried).1 ≡ []) ⊎ ((s : ℕ) × (later : List ℕ) × (at.shard ∷ (rest open_err.Full at).0 ≡ s ∷ later) × StopsShort place s y (at.tried).1)) [
          | inl nothing ↦ inl nothing
          | inr short ↦ inr (at.shard, (rest open_err.Full at).0, refl, subst (λ n. StopsShort place at.shard n (at.tried).1) at.of_node short)
        ]) (at.tried).3,
      )
