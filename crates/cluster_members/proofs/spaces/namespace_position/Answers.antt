use Rattle.std.proofs.Common.{◌≡◌, arith, sym, ap, ◌∙◌, true, false}
use Rattle.std.specs.Prelude.{nat_eq}
use Rattle.std.specs.Cmp.Lexicographic.{pointwise}
use Rattle.cluster_members.proofs.SpaceLemmas.{position_here, position_later}
use Rattle.cluster_members.proofs.spaces.namespace_position.Goals as goal

pub returns-then-eq-clause-position : goal.returns-then-eq-clause-position
returns-then-eq-clause-position c =
    let test : pointwise nat_eq c.args.name.now c.index-spaces-position.result.name ≡ true =
    ap (pointwise nat_eq c.args.name.now) (sym c.as_str.ensures) ∙ sym c.eq.ensures ∙ c.if-eq.true in
    position_here c.args.name.now c.args.spaces.now c.loop-position.position c.index-spaces-position.result (omega arith) c.index-spaces-position.is test c.loop-position.invariant

pub loop-position-preserved : goal.loop-position-preserved
loop-position-preserved c =
    let test : pointwise nat_eq c.args.name.now c.index-spaces-position.result.name ≡ false =
    ap (pointwise nat_eq c.args.name.now) (sym c.as_str.ensures) ∙ sym c.eq.ensures ∙ c.if-eq.false in
    position_later c.args.name.now c.args.spaces.now c.loop-position.position c.index-spaces-position.result (omega arith) c.index-spaces-position.is test c.loop-position.invariant
