use Rattle.std.proofs.Common.{ap, ◌∙◌}
use Rattle.first_cluster.specs.Slots.{slots_in}
use Rattle.first_cluster.proofs.ListLemmas.{take_whole}
use Rattle.first_cluster.proofs.PlacedSlots.{slot_pushed}
use Rattle.first_cluster.proofs.plan.slots_in.Goals as goal

pub loop-start-preserved : goal.loop-start-preserved
loop-start-preserved c = slot_pushed c.args.starts.now c.loop-start.start-index _ c.loop-start.slots.items c.push.new.self.items c.loop-start-test.true c.loop-start.invariant c.in_ok-push.ensures.items

pub returns : goal.returns
returns c = c.loop-start.invariant ∙ ap slots_in (take_whole c.args.starts.now c.loop-start.start-index c.loop-start-test.false)
