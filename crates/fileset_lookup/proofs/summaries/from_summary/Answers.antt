use Rattle.std.proofs.Common.{Some, subst}
use Rattle.fileset_lookup.specs.Runs.{FindsPiece}
use Rattle.fileset_lookup.proofs.summaries.from_summary.Goals as goal

pub returns-in-Some : goal.returns-in-Some
returns-in-Some c = λ v rows is bytes.
    let found : FindsPiece v.format c.args.id.now rows (Some c.in-Some.piece) = subst (FindsPiece v.format c.args.id.now rows) c.in-Some.is (c.in_ok-piece.ensures v rows is bytes) in
    record { run = found.run; is = found.from }
