use Rattle.std.proofs.Common.{◌≡◌, ◌++◌, ◌∙◌, ◌<◌, ℕ, ℤ, ap, sym, subst, take, get_or, rules}
use Rattle.std.specs.Option.{option_copied}
use Rattle.m3_model.specs.Ascends.{Ascends}
use Rattle.m3_model.specs.Members.{IsIn}
use Rattle.m3_model.specs.Reads.{points_in}
use Rattle.m3_model.specs.declared.point.Series.{Series}
use Rattle.m3_model.proofs.Lists.{IsIn-get_or}
use Rattle.first_points.specs.Bounds.{points_up_to}
use Rattle.first_points.specs.Rows.{points_at}
use Rattle.first_points.proofs.TakeLemmas.{pushed_row, full_rows}
use Rattle.first_points.proofs.rows.push_rows.Goals as goal

pub push_pairs-requires : goal.push_pairs-requires
push_pairs-requires c =
    let row = c.row-item.result in
    subst (Ascends (λ (a b : ℕ × ℤ). a.0 < b.0)) (sym c.as_slice-pairs.ensures) (c.requires row (subst (IsIn c.args.rows.now) (sym c.row-item.is) (IsIn-get_or c.args.rows.now c.loop-row.row-index row (search rules))))

pub returns-then-len-limit : goal.returns-then-len-limit
returns-then-len-limit c points is =
    full_rows (option_copied c.args.last) c.args.limit points c.args.ns c.args.rows.now c.loop-row.row-index c.loop-row.first.items (search rules) (c.loop-row.invariant points is)

pub loop-row-preserved : goal.loop-row-preserved
loop-row-preserved c points is =
    let i = c.loop-row.row-index in
    let rows = c.args.rows.now in
    let row = c.row-item.result in
    let last = option_copied c.args.last in
    let done = points ++ points_up_to last (points_in c.args.ns (take i rows)) in
    c.in_ok-push_pairs.ensures done (c.loop-row.invariant points is)
    ∙ ap (take c.args.limit) (ap (λ ps. done ++ points_up_to last (points_at c.args.ns row.id ps)) c.as_slice-pairs.ensures ∙ ap (λ (s : Series). done ++ points_up_to last (points_at c.args.ns s.id s.points)) c.row-item.is
    ∙ pushed_row last points c.args.ns rows i row (search rules))
