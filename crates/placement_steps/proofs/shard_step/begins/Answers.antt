use Rattle.std.proofs.Common.{length, take, get_or, ◌-◌, arith, None}
use Rattle.m3_model.specs.declared.placement.Assignment.{Assignment}
use Rattle.m3_model.specs.declared.placement.ShardState.TheVariants.{Initializing}
use Rattle.placement_core.proofs.ListLemmas.{last_of}
use Rattle.placement_core.proofs.StepLemmas.{begins_decided}
use Rattle.placement_steps.proofs.shard_step.begins.Goals as goal

-- the assignment of zeros, which stands where a list has ended
abbrev blank : Assignment
blank = record { node = 0; tenure = 0; state = Initializing; source = None }

pub returns-in-Some : goal.returns-in-Some
returns-in-Some c =
    let next = c.args.next.now in
    let last = length c.args.next.now - 1 in
    begins_decided c.args.version c.args.old.now next (take last next) (get_or next last blank) c.in-Some.from c.begins_with.result (last_of next last blank (omega (arith, c.in-len1-up.len_at_least))) c.in-Some.is c.begins_with.ensures
