use Rattle.std.proofs.Common.{◌+◌, refl, false, sym, subst, All, get_or, None}
use Rattle.std.proofs.lemmas.Option.{slice_get-get_or}
use Rattle.std.proofs.lemmas.List.{take_rest}
use Rattle.m3_model.specs.declared.placement.Assignment.{Assignment}
use Rattle.m3_model.specs.declared.placement.ShardState.TheVariants.{Initializing}
use Rattle.placement_core.proofs.StepLemmas.{no_true}
use Rattle.placement_core.specs.LawfulParts.{ApartBefore, ApartAfter}
use Rattle.placement_core.proofs.AscendLemmas.{ascends_next}
use Rattle.placement_core.proofs.lawful.are_spread.Goals as goal

-- the assignment of zeros, which stands where a list has ended
abbrev blank : Assignment
blank = record { node = 0; tenure = 0; state = Initializing; source = None }

pub returns-then-not-is_spread_from : goal.returns-then-not-is_spread_from
returns-then-not-is_spread_from c =
    let shard = c.args.shard.now in
    let position = c.loop-position.position in
    let a = get_or shard position blank in
    let Apart : Assignment → Assignment → Type 0 = λ x y. ApartBefore c.args.instances.now x y × ApartAfter c.args.instances.now x y in
    let next = ascends_next Apart shard position a (slice_get-get_or shard position blank c.loop-position-test.true) in
    (λ t. absurd (no_true false refl t), λ h. absurd (no_true c.is_spread_from.result c.if-not-is_spread_from.true (c.is_spread_from.ensures.1 (subst (All (Apart a)) (sym (take_rest shard (position + 1))) (next.0 (c.loop-position.invariant.0 h)).0))))

pub loop-position-preserved : goal.loop-position-preserved
loop-position-preserved c =
    let shard = c.args.shard.now in
    let position = c.loop-position.position in
    let a = get_or shard position blank in
    let Apart : Assignment → Assignment → Type 0 = λ x y. ApartBefore c.args.instances.now x y × ApartAfter c.args.instances.now x y in
    let next = ascends_next Apart shard position a (slice_get-get_or shard position blank c.loop-position-test.true) in
    (λ h. (next.0 (c.loop-position.invariant.0 h)).1, λ h. c.loop-position.invariant.1 (next.1 (subst (All (Apart a)) (take_rest shard (position + 1)) (c.is_spread_from.ensures.0 c.if-not-is_spread_from.false), h)))
