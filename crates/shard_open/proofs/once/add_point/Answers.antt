use Rattle.std.proofs.Common.{ap, ◌∙◌, rules, w64}
use Rattle.std.specs.Prelude.{ℤ, FitsSigned}
use Rattle.std.specs.BTreeSet.{insert_key}
use Rattle.std.proofs.lemmas.Int.{to_z-of_z}
use Rattle.m3_model.specs.Contents.{key_of}
use Rattle.shard_open.specs.Ranks.{rank_cmp}
use Rattle.shard_open.proofs.once.add_point.Goals as goal

pub returns : goal.returns
returns c =
    let fits : FitsSigned w64 c.args.point.v = search rules in
    c.in_ok-insert.ensures.keys ∙ ap (λ (v : ℤ). insert_key rank_cmp c.args.points.now.keys (key_of c.args.point, v)) (to_z-of_z w64 c.args.point.v fits)
