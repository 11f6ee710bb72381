use Rattle.std.proofs.Common.{◌≡◌, List, ◌++◌, ap, ◌∙◌, max, arith}
use Rattle.commit_log.specs.m3_model.declared.point.Point.{Point}
use Rattle.shard_files.specs.HeldEntries.{tenure_in, fence_in}
use Rattle.shard_files.proofs.AmountLemmas.{amount_more, order_of}
use Rattle.shard_files.proofs.amount.join_entries.Goals as goal

pub loop-entry-preserved : goal.loop-entry-preserved
loop-entry-preserved c =
    let e = c.in-Some.entry in
    let tenure : c.greater-tenure.result ≡ max c.loop-entry.tenure (tenure_in e) = omega (arith, c.greater-tenure.ensures, c.tenure.ensures) in
    let fence : c.greater-fence.result ≡ max c.loop-entry.fence (fence_in e) = omega (arith, c.greater-fence.ensures, c.fence.ensures) in
    amount_more c.loop-entry.points.items c.append.new.self.items c.loop-entry.tenure c.loop-entry.fence c.greater-tenure.result c.greater-fence.result c.loop-entry.yielded e c.loop-entry.invariant
    (c.in_ok-append.ensures.items ∙ ap (λ (ps : List Point). c.loop-entry.points.items ++ ps) c.into_points.ensures) tenure fence

pub returns-clause-order : goal.returns-clause-order
returns-clause-order c = order_of c.loop-entry.points.items c.loop-entry.tenure c.loop-entry.fence _ c.loop-entry.invariant
