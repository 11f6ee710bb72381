use Rattle.std.proofs.Common.{◌≡◌, ◌++◌, ◌∙◌, ◌<◌, ◌≤◌, ap, sym, length, take, arith, append-nil, rules}
use Rattle.first_points.proofs.TakeLemmas.{pushed_pair, full_pairs}
use Rattle.first_points.proofs.rows.push_pairs.Goals as goal

pub loop-t-init : goal.loop-t-init
loop-t-init c points is = is ∙ ap (take c.args.limit) (sym (append-nil points))

pub returns-then-len-limit : goal.returns-then-len-limit
returns-then-len-limit c points is =
    full_pairs c.args.limit points c.args.ns c.args.id.now c.pairs_up_to-within.result.now c.loop-t.t-index c.loop-t.first.items (search rules) (c.loop-t.invariant points is) ∙ ap (λ ps. take c.args.limit (points ++ ps)) c.pairs_up_to-within.ensures
