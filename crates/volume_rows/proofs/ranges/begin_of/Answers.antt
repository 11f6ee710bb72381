use Rattle.std.proofs.Common.{ℕ, List, subst, ◌∙◌}
use Rattle.fileset_lookup.specs.Runs.{FindsStart}
use Rattle.volume_rows.proofs.RangeLemmas.{begins_at}
use Rattle.volume_rows.proofs.ranges.begin_of.Goals as goal

pub returns : goal.returns
returns c = λ v rows is k.
    let start = c.in_ok-from_summary.ensures v rows is (c.as_slice.ensures ∙ k.summaries) in
    begins_at v.format c.args.id.now rows c.in_ok-from_summary.field-0 c.unwrap_or.result (subst (λ (i : List ℕ). FindsStart v.format i rows c.in_ok-from_summary.field-0) c.as_bytes.ensures.value start) c.unwrap_or.ensures
