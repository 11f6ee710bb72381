use Rattle.std.proofs.Common.{◌≡◌, ◌*◌, length, ap, ◌∙◌, arith}
use Rattle.volume_bytes.proofs.RowLemmas.{length_row}
use Rattle.fileset_lookup.proofs.extents.points_of.Goals as goal

pub returns : goal.returns
returns c = λ s named long.
    let row = long ∙ length_row s in
    let same = ap length named in
    let from = c.from.ensures in
    let less = c.saturating_sub.ensures in
    let left : c.saturating_sub.result ≡ 16 * length s.points = omega (arith, row, same, from, less) in
    omega (arith, left)
