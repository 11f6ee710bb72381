use Rattle.std.proofs.Common.{ℕ, List, Option, Some, None, sym, ap, subst, ◌∙◌}
use Rattle.std.specs.Option.{option_copied}
use Rattle.fileset_lookup.specs.Runs.{AreAbove, FindsPiece}
use Rattle.volume_rows.specs.Stretches.{EndsAt}
use Rattle.volume_rows.proofs.RangeLemmas.{ends_before_all, ends_behind_all, ends_behind_piece}
use Rattle.volume_rows.proofs.ranges.end_of.Goals as goal

pub returns-in_default : goal.returns-in_default
returns-in_default c = λ v rows is k.
    let len = c.args.seeker.now.index_len in
    subst (λ (o : Option (List ℕ)). EndsAt v.format o rows len) (sym (ap option_copied c.in_default.is)) (ends_behind_all v.format rows len k.index)

pub returns-in-Some-2 : goal.returns-in-Some-2
returns-in-Some-2 c = λ v rows is k.
    let piece = c.in-Some-2.piece in
    let to = c.unwrap_or.result in
    let found : FindsPiece v.format c.as_bytes.result.now rows (Some piece) = subst (FindsPiece v.format c.as_bytes.result.now rows) c.in-Some-2.is (c.in_ok-piece.ensures v rows is (c.as_slice.ensures ∙ k.summaries)) in
    let named = subst (λ (i : List ℕ). FindsPiece v.format i rows (Some piece)) c.as_bytes.ensures.value found in
    subst (λ (o : Option (List ℕ)). EndsAt v.format o rows to) (sym (ap option_copied c.in-Some.is))
    (ends_behind_piece v.format c.in-Some.last.now rows piece c.args.seeker.now.index_len to named k.index c.unwrap_or.ensures)

pub returns-in-None : goal.returns-in-None
returns-in-None c = λ v rows is k.
    let found : FindsPiece v.format c.as_bytes.result.now rows None = subst (FindsPiece v.format c.as_bytes.result.now rows) c.in-None.is (c.in_ok-piece.ensures v rows is (c.as_slice.ensures ∙ k.summaries)) in
    let above = subst (λ (i : List ℕ). AreAbove i rows) c.as_bytes.ensures.value found in
    subst (λ (o : Option (List ℕ)). EndsAt v.format o rows 0) (sym (ap option_copied c.in-Some.is)) (ends_before_all v.format c.in-Some.last.now rows above)
