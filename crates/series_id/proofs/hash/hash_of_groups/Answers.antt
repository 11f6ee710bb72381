use Rattle.std.proofs.Common.{◌-◌, ap, ◌∙◌, length, take, drop}
use Rattle.m3_model.specs.Hash.{stirred, hash_of_groups}
use Rattle.series_id.proofs.Groups.{groups_more}
use Rattle.series_id.proofs.hash.hash_of_groups.Goals as goal

pub loop-rest-preserved : goal.loop-rest-preserved
loop-rest-preserved c =
    let xs = c.loop-rest.rest.now in
    ap (λ h. hash_of_groups h (take (length xs - 4) (drop 4 xs))) (c.stirred-hash.ensures ∙ ap (stirred c.loop-rest.hash) c.group_of.ensures)
    ∙ groups_more c.loop-rest.hash xs c.in-len4-up.len_at_least ∙ c.loop-rest.invariant
