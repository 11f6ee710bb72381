use Rattle.std.proofs.Common.{◌≡◌, ◌+◌, ◌<◌, ◌≤◌, ℕ, suc, List, ◌∷◌, drop, length, get_or, sym, ap, subst, arith, Err}
use Rattle.std.proofs.lemmas.List.{drop_all, drop_more}
use Rattle.m3_model.specs.Levels.{majority}
use Rattle.placement_core.proofs.ListLemmas.{IsIn-from_index}
use Rattle.session_net.specs.Runs.{slot_at}
use Rattle.session_net.proofs.ReadyLemmas.{there_after}
use Rattle.peer_boot.specs.Asks.{AskedSoFar}
use Rattle.peer_boot.specs.Tries.{IsJoinTried, asked_events}
use Rattle.peer_boot.specs.declared.boot_err.BootErr.{BootErr}
use Rattle.peer_boot.proofs.JoinLemmas.{asks_enough, asks_failed, asks_missed, asks_more, asks_none}
use Rattle.peer_boot.proofs.ResultLemmas.{passed_on}
use Rattle.peer_boot.proofs.joins.join_from.Goals as goal

pub loop-peer-init : goal.loop-peer-init
loop-peer-init g c =
    let none = ap length c.requires.none_answered in
    record {
      so_far =
          asks_none g.D.Disk.state c.args.place.now c.args.to.shard c.args.to.node c.args.tenure c.args.peers.now c.args.empty c.args.replicas.now c.requires.same c.requires.by_name c.requires.none_answered c.requires.none_refused;
      fewer = omega (arith, none);
      room = λ n fits. record { for_answers = let room = c.requires.counts.for_answers in omega (arith, fits, room); for_reasons = let room = c.requires.counts.for_reasons in omega (arith, fits, room) };
    }

pub ask-requires-clause-from_there : goal.ask-requires-clause-from_there
ask-requires-clause-from_there g c =
    let was = c.loop-peer.invariant.so_far in
    let q : ℕ = get_or c.args.peers.now c.loop-peer.peer-index 0 in
    there_after g.D.Disk.state c.args.replicas.now c.loop-peer.replicas (asked_events was.peers) (slot_at q c.args.to.shard) was.ran (c.requires.there q (IsIn-from_index c.args.peers.now c.loop-peer.peer-index 0 c.loop-peer-test.true))

pub ask-requires-clause-to_there : goal.ask-requires-clause-to_there
ask-requires-clause-to_there g c =
    let was = c.loop-peer.invariant.so_far in
    there_after g.D.Disk.state c.args.replicas.now c.loop-peer.replicas (asked_events was.peers) c.args.to was.ran c.requires.to_there

pub ask-requires-clause-counts : goal.ask-requires-clause-counts
ask-requires-clause-counts g c = let below = c.loop-peer-test.true in c.loop-peer.invariant.room 1 (omega (arith, below))

pub returns-in_err-ask : goal.returns-in_err-ask
returns-in_err-ask g c =
    let state = g.D.Disk.state in
    let place = c.args.place.now in
    let s = c.args.to.shard in
    let y = c.args.to.node in
    let i = c.loop-peer.peer-index in
    let peers = c.args.peers.now in
    let old = c.args.replicas.now in
    let mid = c.loop-peer.replicas in
    let e = c.in_err-ask.field-0.0 in
    let was = subst (λ (l : List ℕ). AskedSoFar state place s y c.args.tenure l c.loop-peer.tally old mid) (drop_more peers i 0 c.loop-peer-test.true) c.loop-peer.invariant.so_far in
    passed_on c.from_residual.result e (IsJoinTried state place s y c.args.tenure old c.ask.new.replicas) c.from_residual.ensures.1
    (asks_failed state place s y c.args.tenure (get_or peers i 0) (drop (i + 1) peers) c.loop-peer.tally c.ask.new.tally old mid c.ask.new.replicas was c.loop-peer.invariant.fewer e c.in_err-ask.ensures)

pub returns-then-needed-len : goal.returns-then-needed-len
returns-then-needed-len g c =
    let state = g.D.Disk.state in
    let place = c.args.place.now in
    let s = c.args.to.shard in
    let y = c.args.to.node in
    let i = c.loop-peer.peer-index in
    let peers = c.args.peers.now in
    let old = c.args.replicas.now in
    let mid = c.loop-peer.replicas in
    let was = subst (λ (l : List ℕ). AskedSoFar state place s y c.args.tenure l c.loop-peer.tally old mid) (drop_more peers i 0 c.loop-peer-test.true) c.loop-peer.invariant.so_far in
    let now = asks_more state place s y c.args.tenure (get_or peers i 0) (drop (i + 1) peers) c.loop-peer.tally c.ask.new.tally old mid c.ask.new.replicas was c.loop-peer.invariant.fewer c.in_ok-ask.ensures in
    let needed = c.majority-needed.ensures in
    let enough : majority (c.args.place.now).rf ≤ length c.ask.new.tally.answered.items = let is = c.if-needed-len.true in omega (arith, needed, is) in
    asks_enough state place s y c.args.tenure (drop (i + 1) peers) c.ask.new.tally c.merged.result old c.ask.new.replicas now enough c.merged.ensures

pub loop-peer-preserved : goal.loop-peer-preserved
loop-peer-preserved g c =
    let state = g.D.Disk.state in
    let place = c.args.place.now in
    let s = c.args.to.shard in
    let y = c.args.to.node in
    let i = c.loop-peer.peer-index in
    let peers = c.args.peers.now in
    let old = c.args.replicas.now in
    let mid = c.loop-peer.replicas in
    let was = subst (λ (l : List ℕ). AskedSoFar state place s y c.args.tenure l c.loop-peer.tally old mid) (drop_more peers i 0 c.loop-peer-test.true) c.loop-peer.invariant.so_far in
    let needed = c.majority-needed.ensures in
    let asked = c.in_ok-ask.ensures in
    record {
      so_far = asks_more state place s y c.args.tenure (get_or peers i 0) (drop (i + 1) peers) c.loop-peer.tally c.ask.new.tally old mid c.ask.new.replicas was c.loop-peer.invariant.fewer asked;
      fewer = let is = c.if-needed-len.false in omega (arith, needed, is);
      room = λ n fits. asked.room n (c.loop-peer.invariant.room (suc n) (omega (arith, fits)));
    }

pub returns : goal.returns
returns g c =
    let state = g.D.Disk.state in
    let place = c.args.place.now in
    let s = c.args.to.shard in
    let y = c.args.to.node in
    let i = c.loop-peer.peer-index in
    let peers = c.args.peers.now in
    let old = c.args.replicas.now in
    let new = c.loop-peer.replicas in
    let was = subst (λ (l : List ℕ). AskedSoFar state place s y c.args.tenure l c.loop-peer.tally old new) (drop_all i peers c.loop-peer-test.false) c.loop-peer.invariant.so_far in
    subst (λ (e : BootErr). IsJoinTried state place s y c.args.tenure old new (Err e)) (sym c.missed.ensures) (asks_missed state place s y c.args.tenure c.loop-peer.tally c.majority-needed.result old new was c.loop-peer.invariant.fewer c.majority-needed.ensures)
