use Rattle.std.proofs.Common.{ℕ, List}
use Rattle.std.proofs.lemmas.Result.{IfOk-weaker}
use Rattle.m3_model.specs.Answers.{IsAnswer}
use Rattle.m3_model.specs.Contents.{Contents, content_of}
use Rattle.m3_model.specs.declared.point.Pick.{Pick}
use Rattle.m3_model.specs.declared.point.Point.{Point}
use Rattle.held_points.specs.block_buffer.Joins.{joined}
use Rattle.series_merge.specs.Merges.{IsMergeOf}
use Rattle.volume_points.proofs.AnswerLemmas.{answers_join}
use Rattle.volume_points.proofs.joining.join.Goals as goal

pub returns-clause-answer : goal.returns-clause-answer
returns-clause-answer c =
    let one = c.args.one in
    let other = c.args.other in
    IfOk-weaker c.merge.result (IsMergeOf one other)
    (λ series. (d : Contents) (points : List Point) (pick : Pick) (from to : ℕ) → IsAnswer d pick from to one → IsAnswer (content_of points) pick from to other → IsAnswer (joined d points) pick from to series)
    (λ series merge d points pick from to a b. answers_join d points pick from to one other series a b merge) c.merge.ensures
