use Rattle.std.proofs.Common.{ℕ, List, Some, None, refl, subst, ◌∙◌, arith}
use Rattle.fileset_lookup.specs.Runs.{FindsPiece, AreAbove}
use Rattle.volume_rows.proofs.StretchLemmas.{above_have_not, piece_to}
use Rattle.volume_rows.proofs.entries.find_entries.Goals as goal

pub returns-in_default : goal.returns-in_default
returns-in_default c = λ v rows is k.
    let found : FindsPiece v.format c.as_bytes-2.result.now rows None = subst (FindsPiece v.format c.as_bytes-2.result.now rows) c.in_default.is (c.in_ok-piece.ensures v rows is (c.as_slice-2.ensures ∙ k.summaries)) in
    above_have_not c.args.id.now rows (subst (λ (i : List ℕ). AreAbove i rows) c.as_bytes-2.ensures.value found)

pub returns-then-to-piece : goal.returns-then-to-piece
returns-then-to-piece c = λ v rows is k.
    let found : FindsPiece v.format c.as_bytes-2.result.now rows (Some c.in-Some.piece) = subst (FindsPiece v.format c.as_bytes-2.result.now rows) c.in-Some.is (c.in_ok-piece.ensures v rows is (c.as_slice-2.ensures ∙ k.summaries)) in
    let p = piece_to v.format c.as_bytes-2.result.now rows c.in-Some.piece c.args.seeker.now.index_len c.unwrap_or-to.result found k.index c.unwrap_or-to.ensures in
    let order = p.order in
    let short = c.if-to-piece.true in
    omega (arith, order, short)

pub returns : goal.returns
returns c = λ v rows is k.
    let found : FindsPiece v.format c.as_bytes-2.result.now rows (Some c.in-Some.piece) = subst (FindsPiece v.format c.as_bytes-2.result.now rows) c.in-Some.is (c.in_ok-piece.ensures v rows is (c.as_slice-2.ensures ∙ k.summaries)) in
    let named = subst (λ (i : List ℕ). FindsPiece v.format i rows (Some c.in-Some.piece)) c.as_bytes-2.ensures.value found in
    (piece_to v.format c.args.id.now rows c.in-Some.piece c.args.seeker.now.index_len c.unwrap_or-to.result named k.index c.unwrap_or-to.ensures).has _ refl refl
