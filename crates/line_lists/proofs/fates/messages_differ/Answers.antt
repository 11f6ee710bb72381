use Rattle.std.proofs.Common.{sym, ◌∙◌}
use Rattle.std.proofs.lemmas.Bool.{not-true}
use Rattle.line_lists.proofs.Messages.{none_seen, one_more_fate}
use Rattle.line_lists.proofs.fates.messages_differ.Goals as goal

pub loop-fate-init : goal.loop-fate-init
loop-fate-init c = none_seen c.new-seen.result c.new-seen.ensures.empty c.args.fates.now

pub loop-fate-preserved : goal.loop-fate-preserved
loop-fate-preserved c =
    one_more_fate c.args.fates.now c.loop-fate.fate-index c.fate-item.result c.loop-fate.seen c.insert.new.self c.in_ok-node.node c.loop-fate-test.true c.fate-item.is c.in_ok-node.ensures
    c.in_ok-insert.ensures.updates.0 (not-true _ (sym c.in_ok-insert.ensures.added ∙ c.if-not-branch.false)) c.loop-fate.invariant
