-- What former replicas leave that are asked one after the other.
use Rattle.std.proofs.Common.{◌≡◌, ℕ, suc, ◌+◌, ◌<◌, ◌≤◌, List, [], ◌∷◌, ◌++◌, map, filter, length, cond, Bool, true, false, refl, sym, ap, ◌∙◌, subst, inl, inr, arith, append_assoc, IsPermutation}
use Rattle.std.specs.Prelude.{◌⊎◌, ⊤, Option, Some, None, MatchOption, Result, Ok, Err, is_none, if◌then◌else◌}
use Rattle.std.specs.List.{cons_option, filter_map}
use Rattle.std.specs.Option.{option_map}
use Rattle.std.proofs.lemmas.List.{append-nil, map-append}
use Rattle.std.proofs.lemmas.List.Elements.{filter_map-append}
use Rattle.m3_model.specs.Ascends.{Ascends}
use Rattle.m3_model.specs.Levels.{majority}
use Rattle.m3_model.specs.Members.{IsIn}
use Rattle.m3_model.specs.declared.placement.Placement.{Placement}
use Rattle.m3_model.specs.declared.reason.Damage.{Damage}
use Rattle.m3_model.specs.declared.reason.Reason.{Reason}
use Rattle.m3_model.specs.declared.reason.Reason.TheVariants as reason
use Rattle.m3_model.proofs.MemberLemmas.{IsIn-append_cases, IsIn-map, map-IsIn}
use Rattle.placement_core.specs.NodeNames.{IsNamedBelow}
use Rattle.placement_core.specs.Shards.{Shard, former, holders, is_holder, is_steady, nodes_of, shard_at}
use Rattle.m3_model.specs.declared.placement.Assignment.{Assignment}
use Rattle.m3_model.proofs.Lists.{IsIn-filter}
use Rattle.cluster_core.specs.declared.event.Event.{Event}
use Rattle.session_net.specs.m3_outside.DiskState.{DiskState}
use Rattle.session_net.specs.replica_calls.Calls.{Tracked}
use Rattle.session_net.specs.replica_machine.Damages.{IsFileDamage}
use Rattle.session_net.specs.Outcomes.{NodeOutcome, answering, refusing}
use Rattle.session_net.specs.Runs.{Ran}
use Rattle.session_net.specs.Tallies.{HasRoom}
use Rattle.session_net.specs.declared.tally.Tally.{Tally}
use Rattle.session_net.proofs.RunLemmas.{ran_nothing, ran_then}
use Rattle.peer_streams.specs.Joins.{AreAsked, AskedPeer, is_streamed, reasons_of, streamed_of}
use Rattle.cluster_core.specs.declared.event.StepReply.TheVariants as reply
use Rattle.peer_streams.specs.Streams.{IsPartOfStream, replied}
use Rattle.peer_boot.specs.Asks.{AskedSoFar, HasAsked, IsCounted, told_peer}
use Rattle.peer_boot.specs.Merges.{MergedOf}
use Rattle.peer_boot.specs.Tries.{AreOfForm, EndsRefused, IsCutShort, IsJoinTried, IsJoined, IsMissed, IsOfForm, IsOwnRefused, IsStreamTried, asked_events}
use Rattle.peer_boot.specs.declared.boot_err.BootErr.{BootErr}
use Rattle.peer_boot.specs.declared.boot_err.BootErr.TheVariants as boot_err
use Rattle.peer_boot.specs.declared.stream_err.StreamErr.TheVariants as stream_err
use Rattle.peer_boot.proofs.PageLemmas.{added_last, asked_next, none_asked, permuted_in}

-- ---- how they are counted

name_by : (b : Bool) (p : AskedPeer) (told : List NodeOutcome) (peers : List AskedPeer) → map (λ (x : NodeOutcome). x.0) told ≡ map (λ (x : AskedPeer). x.node) peers
    → map (λ (x : NodeOutcome). x.0) (cond b (told_peer p ∷ told) told) ≡ map (λ (x : AskedPeer). x.node) (cond b (p ∷ peers) peers)
name_by true p told peers e = ap (λ ns. p.node ∷ ns) e
name_by false p told peers e = e

pub names_told : (peers : List AskedPeer) → answering (map told_peer peers) ≡ streamed_of peers
names_told [] = refl
names_told (p ∷ peers) = name_by (is_none p.why) p (filter (λ (x : NodeOutcome). is_none x.1) (map told_peer peers)) (filter is_streamed peers) (names_told peers)

pub reasons_told : (peers : List AskedPeer) → refusing (map told_peer peers) ≡ reasons_of peers
reasons_told [] = refl
reasons_told (p ∷ peers) = ap (cons_option (option_map (λ why. (p.node, why)) p.why)) (reasons_told peers)

told_last : (peers : List AskedPeer) (p : AskedPeer) (q : ℕ) → p.node ≡ q → map told_peer peers ++ (q, p.why) ∷ [] ≡ map told_peer (peers ++ p ∷ [])
told_last peers p q is = ap (λ n. map told_peer peers ++ (n, p.why) ∷ []) (sym is) ∙ sym (map-append told_peer peers (p ∷ []))

form_one : (p : AskedPeer) (o : Option Reason) → p.why ≡ o → MatchOption o ⊤ IsOfForm → (q : ℕ) (damage : Damage) → IsIn {X = ℕ × Reason} (cons_option (option_map (λ why. (p.node, why)) o) []) (q, reason.Corrupt damage) → IsFileDamage damage
form_one p None is form q damage m = absurd m
form_one p (Some why) is form q damage (inl e) = form damage (ap (λ (x : ℕ × Reason). x.1) e)
form_one p (Some why) is form q damage (inr none) = absurd none

form_last : (peers : List AskedPeer) (p : AskedPeer) → AreOfForm (reasons_of peers) → MatchOption p.why ⊤ IsOfForm → AreOfForm (reasons_of (peers ++ p ∷ []))
form_last peers p h form q damage m =
    by (IsIn-append_cases (reasons_of peers) (reasons_of (p ∷ [])) (q, reason.Corrupt damage) (subst (λ xs. IsIn xs (q, reason.Corrupt damage)) (filter_map-append (λ (x : AskedPeer). option_map (λ why. (x.node, why)) x.why) peers (p ∷ [])) m))
  where
    by : IsIn (reasons_of peers) (q, reason.Corrupt damage) ⊎ IsIn (reasons_of (p ∷ [])) (q, reason.Corrupt damage) → IsFileDamage damage
    by (inl there) = h q damage there
    by (inr last) = form_one p p.why refl form q damage last

-- ---- one

module _ {D : Type 0} (state : D → DiskState) (s q y tenure n : ℕ) (before after : Tally) (old new : Tracked D) (room : (k : ℕ) → HasRoom (suc k) before → HasRoom k after) where
  -- it streamed whole, and is counted
  pub counted_whole : (peer : ℕ) → n ≡ peer → IsStreamTried state s q y tenure old new (Ok peer) → ((told : List NodeOutcome) → before.answered.items ≡ answering told → after.answered.items ≡ answering (told ++ (n, None) ∷ []))
      → ((told : List NodeOutcome) → before.reasons.items ≡ refusing told → after.reasons.items ≡ refusing (told ++ (n, None) ∷ [])) → IsCounted state s q y tenure before after old new
  counted_whole peer of h names reasons =
      let same : n ≡ q = of ∙ h.0 in
      record {
        peer = record { node = q; why = None; added = h.1 };
        of_node = refl;
        answered = h.2;
        form = tt;
        refused = tt;
        ran = h.3;
        names = λ told is. names told is ∙ ap (λ m. answering (told ++ (m, None) ∷ [])) same;
        reasons = λ told is. reasons told is ∙ ap (λ m. refusing (told ++ (m, None) ∷ [])) same;
        room = room;
      }

  -- or refused
  pub counted_broken : (why : Reason) → n ≡ q → IsStreamTried state s q y tenure old new (Err (stream_err.From why)) → ((told : List NodeOutcome) → before.answered.items ≡ answering told → after.answered.items ≡ answering (told ++ (n, Some why) ∷ []))
      → ((told : List NodeOutcome) → before.reasons.items ≡ refusing told → after.reasons.items ≡ refusing (told ++ (n, Some why) ∷ [])) → IsCounted state s q y tenure before after old new
  counted_broken why same h names reasons = record {
    peer = record { node = q; why = Some why; added = h.1 };
    of_node = refl;
    answered = h.2;
    form = h.0;
    refused = h.3;
    ran = h.4;
    names = λ told is. names told is ∙ ap (λ m. answering (told ++ (m, Some why) ∷ [])) same;
    reasons = λ told is. reasons told is ∙ ap (λ m. refusing (told ++ (m, Some why) ∷ [])) same;
    room = room;
  }

-- ---- one after the other

module _ {D : Type 0} (state : D → DiskState) (place : Placement) (s y tenure : ℕ) where
  -- none was asked yet
  pub asks_none : (peers : List ℕ) (tally : Tally) (old : Tracked D) → IsPermutation (former (shard_at place s)) peers → Ascends (IsNamedBelow place) peers → tally.answered.items ≡ [] → tally.reasons.items ≡ [] → AskedSoFar state place s y tenure peers tally old old
  asks_none peers tally old same ascend none_answered none_refused = record {
    peers = [];
    asked = none_asked place s (shard_at place s) y tenure peers same ascend;
    names = none_answered;
    reasons = none_refused;
    refused = λ p m. absurd m;
    form = λ q damage m. absurd m;
    ran = ran_nothing state old;
  }

  module _ (q : ℕ) (left : List ℕ) (before after : Tally) (old mid new : Tracked D) (was : AskedSoFar state place s y tenure (q ∷ left) before old mid) (fewer : length before.answered.items < majority place.rf) where
    fewer_streamed : length (streamed_of was.peers) < majority place.rf
    fewer_streamed = subst (λ names. length names < majority place.rf) (was.names ∙ names_told was.peers) fewer

    -- one more was asked
    pub asks_more : IsCounted state s q y tenure before after mid new → AskedSoFar state place s y tenure left after old new
    asks_more h = record {
      peers = was.peers ++ h.peer ∷ [];
      asked = asked_next place s (shard_at place s) y tenure was.peers h.peer left (subst (λ n. AreAsked place s (shard_at place s) y tenure was.peers (n ∷ left)) (sym h.of_node) was.asked) fewer_streamed h.answered;
      names = h.names (map told_peer was.peers) was.names ∙ ap answering (told_last was.peers h.peer q h.of_node);
      reasons = h.reasons (map told_peer was.peers) was.reasons ∙ ap refusing (told_last was.peers h.peer q h.of_node);
      refused = λ p m. refused_each p (IsIn-append_cases was.peers (h.peer ∷ []) p m);
      form = form_last was.peers h.peer was.form h.form;
      ran = subst (λ es. Ran state old es new) (added_last was.peers h.peer) (ran_then state (asked_events was.peers) (h.peer).added old mid new was.ran h.ran);
    }
      where
        refused_each : (p : AskedPeer) → IsIn was.peers p ⊎ IsIn (h.peer ∷ []) p → MatchOption p.why ⊤ (λ why. EndsRefused p.node s why p.added)
        refused_each p (inl m) = was.refused p m
        refused_each p (inr (inl e)) = subst (λ (x : AskedPeer). MatchOption x.why ⊤ (λ why. EndsRefused x.node s why x.added)) e h.refused
        refused_each p (inr (inr none)) = absurd none

    -- the joining one refused
    pub asks_refused : (why : Reason) → IsStreamTried state s q y tenure mid new (Err (stream_err.To why)) → IsOwnRefused state place s y tenure why old new
    asks_refused why h = record {
      form = h.0;
      merge = h.1;
      events = asked_events was.peers ++ h.2;
      broken = record { peers = was.peers; left = left; peer = q; asked = was.asked; fewer = fewer_streamed; last = h.2; refused = h.3; are = refl };
      ends = ((asked_events was.peers) ++ (h.4).0, (h.4).1, ap (λ es. asked_events was.peers ++ es) (h.4).2 ∙ sym (append_assoc (asked_events was.peers) (h.4).0 (replied y s (h.4).1 (reply.Refused why))));
      ran = ran_then state (asked_events was.peers) h.2 old mid new was.ran h.5;
    }

    -- the list lacked room
    pub asks_cut : IsStreamTried state s q y tenure mid new (Err stream_err.Full) → IsCutShort state place s y tenure old new
    asks_cut h = record {
      peers = was.peers;
      left = q ∷ left;
      asked = was.asked;
      last = h.1;
      part = by h.2;
      ran = ran_then state (asked_events was.peers) h.1 old mid new was.ran h.3;
      room = h.0;
    }
      where
        by : (h.1 ≡ []) ⊎ IsPartOfStream s q y tenure h.1 → (h.1 ≡ []) ⊎ ((n : ℕ) × (later : List ℕ) × (q ∷ left ≡ n ∷ later) × IsPartOfStream s n y tenure h.1)
        by (inl none) = inl none
        by (inr part) = inr (q, left, refl, part)

    -- either
    pub asks_failed : (e : BootErr) → HasAsked state s q y tenure before after mid new (Err e) → IsJoinTried state place s y tenure old new (Err e)
    asks_failed (boot_err.Own why) h = asks_refused why h
    asks_failed boot_err.Full h = asks_cut h
    asks_failed (boot_err.Peers needed got reasons) h = absurd h

  -- a majority streamed whole
  pub asks_enough : (left : List ℕ) (tally : Tally) (merged : MergedOf) (old new : Tracked D) → AskedSoFar state place s y tenure left tally old new → majority place.rf ≤ length tally.answered.items
      → merged ≡ record { shard = s; node = y; tenure = tenure; peers = tally.answered.items } → IsJoinTried state place s y tenure old new (Ok merged)
  asks_enough left tally merged old new was enough is = (
    ap (λ (m : MergedOf). m.shard) is,
    ap (λ (m : MergedOf). m.node) is,
    ap (λ (m : MergedOf). m.tenure) is,
    record {
      peers = was.peers;
      left = left;
      asked = was.asked;
      enough = subst (λ names. majority place.rf ≤ length names) (was.names ∙ names_told was.peers) enough;
      streamed = ap (λ (m : MergedOf). m.peers) is ∙ was.names ∙ names_told was.peers;
      refused = was.refused;
      ran = was.ran;
    },
  )

  -- all were asked, and too few did
  pub asks_missed : (tally : Tally) (needed : ℕ) (old new : Tracked D) → AskedSoFar state place s y tenure [] tally old new → length tally.answered.items < majority place.rf → needed ≡ majority place.rf
      → IsMissed state place s y tenure needed (length tally.answered.items) tally.reasons.items old new
  asks_missed tally needed old new was fewer is =
      let names = was.names ∙ names_told was.peers in
      let reasons = was.reasons ∙ reasons_told was.peers in
      record {
        peers = was.peers;
        asked = was.asked;
        fewer = subst (λ ns. length ns < majority place.rf) names fewer;
        needed_is = is;
        got_is = ap length names;
        reasons_are = reasons;
        refused = was.refused;
        form = subst AreOfForm (sym reasons) was.form;
        ran = was.ran;
      }

-- ---- the former replicas of a shard

-- each of them has it
pub former_there : (shard : Shard) (peers : List ℕ) → IsPermutation (former shard) peers → (n : ℕ) → IsIn peers n → IsIn (nodes_of shard) n
former_there shard peers same n m = by (is_steady shard) (permuted_in (former shard) peers same n m)
  where
    by : (b : Bool) → IsIn (if b then [] else holders shard) n → IsIn (nodes_of shard) n
    by true m = absurd m
    by false m =
        let found = IsIn-map (λ (a : Assignment). a.node) (filter is_holder shard) n m in
        subst (IsIn (nodes_of shard)) found.2 (map-IsIn (λ (a : Assignment). a.node) shard found.0 (IsIn-filter is_holder shard found.0 found.1))
