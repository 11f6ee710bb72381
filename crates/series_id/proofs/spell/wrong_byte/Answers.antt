use Rattle.std.proofs.Common.{sym, ◌∙◌, arith}
use Rattle.series_id.proofs.Wrong.{right_name, wrong_some}
use Rattle.series_id.proofs.spell.wrong_byte.Goals as goal
use Rattle.series_id.proofs.spell.wrong_byte.Goals.{else-name-gt0-via-then-name-gt0+else-at-name, else-name-gt0-via-else-name-gt0}

pub returns-then-at-name : goal.returns-then-at-name
returns-then-at-name c = right_name c.args.name.now c.if-name-gt0.true (sym c.wrong_at-at.ensures.exact ∙ c.if-at-name.true)

pub returns-else-name-gt0 : goal.returns-else-name-gt0
returns-else-name-gt0 c =
    let e = c.wrong_at-at.ensures in
    elim c.else-name-gt0.branch [
      | else-name-gt0-via-then-name-gt0+else-at-name w ↦ (wrong_some c.args.name.now c.wrong_at-at.result e.exact e.within (λ h. w.if-at-name.false), e.exact, e.within)
      | else-name-gt0-via-else-name-gt0 w ↦ (wrong_some c.args.name.now c.wrong_at-at.result e.exact e.within (λ h. absurd (omega (arith, w.if-name-gt0.false))), e.exact, e.within)
    ]
