use Rattle.std.proofs.Common.{◌<◌, ◌≤◌, length, [], ◌∷◌, ◌++◌, List, refl, sym, subst, arith, length-append}
use Rattle.std.proofs.lemmas.Bool.{lt-ltb}
use Rattle.std.proofs.lemmas.List.{take_all}
use Rattle.m3_model.specs.Members.{IsIn}
use Rattle.session_net.specs.cluster_core.Earlier.{IsClock, IsSend}
use Rattle.net_plan.specs.declared.late_write.LateWrite.{LateWrite}
use Rattle.placement_core.proofs.ListLemmas.{IsIn-from_index}
use Rattle.session_net.specs.Deliveries.{known, AreDelivered}
use Rattle.session_net.specs.Runs.{slot_at}
use Rattle.session_net.proofs.RunLemmas.{ran_nothing, ran_then}
use Rattle.session_net.proofs.ReadyLemmas.{any_after, there_after}
use Rattle.session_writes.proofs.LateLemmas.{above_test, delivered_pass, delivered_more, outcomes_more}
use Rattle.session_writes.proofs.deliver.put_late.Goals as goal
use Rattle.session_writes.proofs.deliver.put_late.Goals.{then-one-len, else-one-len}

pub loop-one-init : goal.loop-one-init
loop-one-init g c = record {
  room = omega arith;
  deliveries = [];
  puts = [];
  are = refl;
  ran = ran_nothing g.D.Disk.state c.args.replicas.now;
  few = omega arith;
  outcomes_are = c.requires.none;
}

pub put_once-said-requires-clause-clock : goal.put_once-said-requires-clause-clock
put_once-said-requires-clause-clock g c =
    let was = c.loop-one.invariant in
    any_after g.D.Disk.state (IsClock c.args.rules.now) c.args.replicas.now c.loop-one.replicas was.puts was.ran c.requires.clock

pub put_once-said-requires-clause-sent : goal.put_once-said-requires-clause-sent
put_once-said-requires-clause-sent g c =
    let was = c.loop-one.invariant in
    let one = c.one-item.result in
    let i = c.loop-one.one-index in
    let member : IsIn c.args.late.now one = subst (IsIn c.args.late.now) (sym c.one-item.is) (IsIn-from_index c.args.late.now i one (omega arith)) in
    any_after g.D.Disk.state (IsSend one.version one.shard one.point) c.args.replicas.now c.loop-one.replicas was.puts was.ran (c.requires.sent one member)

pub put_once-said-requires-clause-there : goal.put_once-said-requires-clause-there
put_once-said-requires-clause-there g c =
    let was = c.loop-one.invariant in
    let one = c.one-item.result in
    let i = c.loop-one.one-index in
    let member : IsIn c.args.late.now one = subst (IsIn c.args.late.now) (sym c.one-item.is) (IsIn-from_index c.args.late.now i one (omega arith)) in
    there_after g.D.Disk.state c.args.replicas.now c.loop-one.replicas was.puts (slot_at one.node one.shard) was.ran (c.requires.there one member)

pub loop-one-preserved : goal.loop-one-preserved
loop-one-preserved g c =
    let was = c.loop-one.invariant in
    let one = c.one-item.result in
    let rules = c.args.rules.now in
    let late = c.args.late.now in
    let i = c.loop-one.one-index in
    let below : i < length late = omega arith in
    let size = c.len.ensures in
    let room = was.room in
    let low = was.few in
    elim c.if-one-len.branch [
      | then-one-len w ↦
          let said = w.put_once-said.result in
          let brought = w.put_once-said.ensures in
          let test : one.point.ns < length rules.spaces = let less = w.if-one-len.true in omega arith in
          let more = w.push_reserved.ensures.len in
          let wide = w.push_reserved.ensures.capacity in
          let few = brought.few in
          let sum = length-append was.puts brought.more in
          record {
            room = rw w.outcomes-is (omega arith);
            deliveries = was.deliveries ++ (one, said) ∷ [];
            puts = was.puts ++ brought.more;
            are = delivered_more rules late i one was.deliveries was.puts said brought.more below c.one-item.is (lt-ltb one.point.ns (length rules.spaces) test) was.are brought.is;
            ran = rw w.replicas-is (ran_then g.D.Disk.state was.puts brought.more c.args.replicas.now c.loop-one.replicas w.put_once-said.new.replicas was.ran brought.ran);
            few = omega (arith, sum, low, few);
            outcomes_are = rw w.outcomes-is (outcomes_more was.deliveries one said w.err.result c.loop-one.outcomes.items w.push_reserved.new.self.items was.outcomes_are w.err.ensures.value w.push_reserved.ensures.items);
          }
      | else-one-len w ↦
          let test : length rules.spaces ≤ one.point.ns = let more = w.if-one-len.false in omega arith in
          record {
            room = rw w.outcomes-is (omega arith);
            deliveries = was.deliveries;
            puts = was.puts;
            are = delivered_pass rules late i one was.deliveries was.puts below c.one-item.is (above_test one.point.ns (length rules.spaces) test) was.are;
            ran = rw w.replicas-is was.ran;
            few = omega (arith, low);
            outcomes_are = rw w.outcomes-is was.outcomes_are;
          }
    ]

pub returns : goal.returns
returns g c =
    let was = c.loop-one.invariant in (
      was.deliveries,
      was.puts,
      subst (λ (xs : List LateWrite). AreDelivered c.args.rules.now (known c.args.rules.now xs) was.deliveries was.puts) (take_all c.loop-one.one-index c.args.late.now (omega arith)) was.are,
      was.ran,
      was.outcomes_are,
    )
