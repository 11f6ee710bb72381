use Rattle.std.proofs.Common.{◌≡◌, ℕ, ◌+◌, ◌<◌, ◌≤◌, ◌^◌, sym, subst, rules, arith}
use Rattle.std.specs.BTreeSet.{contains}
use Rattle.block_buffer.specs.Blocks.{block_cmp, block_start}
use Rattle.block_buffer.proofs.BlockLemmas.{AreAdded, none_added, more_added, whole_added, past_added}
use Rattle.block_buffer.proofs.blocks.add_series.Goals as goal

pub loop-spot-init : goal.loop-spot-init
loop-spot-init c = none_added c.args.all.now c.args.ns c.args.size c.args.last c.args.position (contains block_cmp c.args.starts.now)

pub loop-spot-preserved : goal.loop-spot-preserved
loop-spot-preserved c =
    let end : c.in-Some-checked_add.end ≡ block_start c.args.size c.in-Some.spot.t + c.args.size = search rules in
    subst (λ (low : ℕ). AreAdded c.args.all.now c.args.ns c.args.size c.args.last c.args.position low (contains block_cmp c.args.starts.now) (contains block_cmp c.insert.new.self)) (sym end)
    (more_added c.args.all.now c.args.ns c.args.size c.args.last c.args.position c.loop-spot.low c.in-Some.spot.position c.in-Some.spot.t c.in-Some.spot.v (contains block_cmp c.args.starts.now) (contains block_cmp c.loop-spot.starts) (contains block_cmp c.insert.new.self)
    c.requires.size c.loop-spot.invariant c.in-Some.ensures.some c.in-Some.ensures.first c.in_ok-insert.ensures.updates.0)

pub returns-in-None-clause-kept : goal.returns-in-None-clause-kept
returns-in-None-clause-kept c =
    (more_added c.args.all.now c.args.ns c.args.size c.args.last c.args.position c.loop-spot.low c.in-Some.spot.position c.in-Some.spot.t c.in-Some.spot.v (contains block_cmp c.args.starts.now) (contains block_cmp c.loop-spot.starts) (contains block_cmp c.insert.new.self)
    c.requires.size c.loop-spot.invariant c.in-Some.ensures.some c.in-Some.ensures.first c.in_ok-insert.ensures.updates.0).kept

pub returns-in-None-clause-held : goal.returns-in-None-clause-held
returns-in-None-clause-held c =
    (more_added c.args.all.now c.args.ns c.args.size c.args.last c.args.position c.loop-spot.low c.in-Some.spot.position c.in-Some.spot.t c.in-Some.spot.v (contains block_cmp c.args.starts.now) (contains block_cmp c.loop-spot.starts) (contains block_cmp c.insert.new.self)
    c.requires.size c.loop-spot.invariant c.in-Some.ensures.some c.in-Some.ensures.first c.in_ok-insert.ensures.updates.0).held

pub returns-in-None-clause-whole : goal.returns-in-None-clause-whole
returns-in-None-clause-whole c =
    let past : 2 ^ 64 ≤ block_start c.args.size c.in-Some.spot.t + c.args.size = search rules in
    let short : c.args.last < 2 ^ 64 = search rules in
    past_added c.args.all.now c.args.ns c.args.size c.args.last c.args.position (block_start c.args.size c.in-Some.spot.t + c.args.size) (contains block_cmp c.args.starts.now) (contains block_cmp c.insert.new.self)
    (more_added c.args.all.now c.args.ns c.args.size c.args.last c.args.position c.loop-spot.low c.in-Some.spot.position c.in-Some.spot.t c.in-Some.spot.v (contains block_cmp c.args.starts.now) (contains block_cmp c.loop-spot.starts) (contains block_cmp c.insert.new.self)
    c.requires.size c.loop-spot.invariant c.in-Some.ensures.some c.in-Some.ensures.first c.in_ok-insert.ensures.updates.0) (omega (arith, past, short))

pub returns-clause-whole : goal.returns-clause-whole
returns-clause-whole c =
    whole_added c.args.all.now c.args.ns c.args.size c.args.last c.args.position c.loop-spot.low (contains block_cmp c.args.starts.now) (contains block_cmp c.loop-spot.starts) c.loop-spot.invariant
    (c.within_at.ensures.none c.in_default.is)
