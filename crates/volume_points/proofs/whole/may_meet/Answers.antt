use Rattle.std.proofs.Common.{◌∙◌, sym}
use Rattle.fileset_check.specs.volume_bytes.Heads.{head_of}
use Rattle.volume_points.proofs.VolumeLemmas.{answer_of_none}
use Rattle.volume_points.proofs.whole.may_meet.Goals as goal

pub returns-clause-outside : goal.returns-clause-outside
returns-clause-outside c = λ out rows is.
    answer_of_none (head_of c.args.head.now) rows is c.args.pick.now c.args.from c.args.to
    (λ at space low high time from to. c.meets.ensures.outside out at (space ∙ sym c.space_of.ensures) low high time from to)
