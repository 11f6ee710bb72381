use Rattle.std.proofs.Common.{◌<◌, ◌^◌, length, refl, arith, rules}
use Rattle.fileset_read.specs.volume_bytes.Heads.{head_of}
use Rattle.fileset_check.proofs.LawfulLemmas.{IsEnd, to_volume, of_volume}
use Rattle.fileset_check.proofs.lawful.has_rows.Goals as goal

pub returns : goal.returns
returns c =
    let v = head_of c.args.head.now in
    let rows = c.args.rows.now in
    let end = c.min-end.result in
    let is = c.min-end.ensures in
    let ends : IsEnd v.start v.size end = record { block = omega (arith, is); time = omega (arith, is); one = λ t a b. omega (arith, is, a, b) } in
    let some : 0 < length rows = search rules in
    let few : length rows < 2 ^ 28 = search rules in
    (λ t. to_volume v rows end refl c.requires ends some few (c.are_rows.ensures.0 t), λ volume. c.are_rows.ensures.1 (of_volume v rows end ends volume))
