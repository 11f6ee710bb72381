use Rattle.std.proofs.Common.{◌≡◌, ◌+◌, ◌<◌, suc, [], ◌∷◌, ◌++◌, length, map, take, get_or, refl, sym, ap, ◌∙◌, subst, arith}
use Rattle.std.specs.List.{flat_map}
use Rattle.std.proofs.lemmas.List.{take_all}
use Rattle.m3_model.proofs.Lists.{IsIn-get_or}
use Rattle.cluster_core.specs.Earlier.{IsClock}
use Rattle.node_calls.proofs.session_net_proofs.ReadyLemmas.{any_after, there_after}
use Rattle.node_calls.proofs.session_net_proofs.RunLemmas.{ran_nothing}
use Rattle.cluster_upkeep.specs.Findings.{entry_at}
use Rattle.cluster_upkeep.specs.Rows.{slot_in}
use Rattle.cluster_upkeep.specs.Sweeps.{asked_at, call_by}
use Rattle.cluster_upkeep.specs.declared.rows.Row.{Row}
use Rattle.cluster_upkeep.proofs.SweepLemmas.{files_more, ran_more, room_here, slots_more}
use Rattle.cluster_upkeep.proofs.sweeps.run_all.Goals as goal

pub loop-row-init : goal.loop-row-init
loop-row-init g c = record {
  room = λ n fits. record { for_done = let room = c.requires.counts.for_done in omega (arith, fits, room); for_failed = let room = c.requires.counts.for_failed in omega (arith, fits, room) };
  entries = [];
  of_rows = refl;
  ran = ran_nothing g.D.Disk.state c.args.replicas.now;
  files = λ e m. absurd m;
  done_are = c.requires.none_done;
  failed_are = c.requires.none_failed;
}

pub run_one-said-requires-clause-clock : goal.run_one-said-requires-clause-clock
run_one-said-requires-clause-clock g c =
    let was = c.loop-row.invariant in
    any_after g.D.Disk.state (IsClock c.args.rules.now) c.args.replicas.now c.loop-row.replicas (flat_map (asked_at (call_by c.args.job c.args.rules.now)) was.entries) was.ran c.requires.clock

pub run_one-said-requires-clause-there : goal.run_one-said-requires-clause-there
run_one-said-requires-clause-there g c =
    let was = c.loop-row.invariant in
    let r : Row = get_or c.args.rows.now c.loop-row.row-index _ in
    there_after g.D.Disk.state c.args.replicas.now c.loop-row.replicas (flat_map (asked_at (call_by c.args.job c.args.rules.now)) was.entries) r.slot was.ran (c.requires.there r (IsIn-get_or c.args.rows.now c.loop-row.row-index _ c.loop-row-test.true))

pub run_one-said-requires-clause-room : goal.run_one-said-requires-clause-room
run_one-said-requires-clause-room g c =
    let was = c.loop-row.invariant in
    room_here g.D.Disk.state (call_by c.args.job c.args.rules.now) c.args.rows.now c.loop-row.row-index c.loop-row-test.true was.entries was.of_rows c.args.replicas.now c.loop-row.replicas was.ran c.requires.room

pub add-requires : goal.add-requires
add-requires g c = c.loop-row.invariant.room 1 (omega arith)

pub loop-row-preserved : goal.loop-row-preserved
loop-row-preserved g c =
    let was = c.loop-row.invariant in
    let rows = c.args.rows.now in
    let i = c.loop-row.row-index in
    let low : i < length rows = c.loop-row-test.true in
    let asked = call_by c.args.job c.args.rules.now in
    let said = c.run_one-said.result in
    record {
      room = λ n fits. c.add.ensures.room n (was.room (suc n) (omega (arith, fits)));
      entries = was.entries ++ entry_at (get_or rows i _).slot said ∷ [];
      of_rows = slots_more rows i _ was.entries said low was.of_rows;
      ran = ran_more g.D.Disk.state asked rows i low was.entries was.of_rows c.args.replicas.now c.loop-row.replicas was.ran _ said c.run_one-said.new.replicas c.run_one-said.ensures;
      files = files_more g.D.Disk.state asked rows i low was.entries was.of_rows c.args.replicas.now c.loop-row.replicas was.ran _ said c.run_one-said.new.replicas c.run_one-said.ensures was.files;
      done_are = c.add.ensures.done was.entries was.done_are;
      failed_are = c.add.ensures.failed was.entries was.failed_are;
    }

pub returns : goal.returns
returns g c =
    let was = c.loop-row.invariant in
    record {
      entries = was.entries;
      of_rows = was.of_rows ∙ ap (map slot_in) (take_all c.loop-row.row-index c.args.rows.now c.loop-row-test.false);
      ran = was.ran;
      files = was.files;
      done_are = was.done_are;
      failed_are = was.failed_are;
    }
