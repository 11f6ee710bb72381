use Rattle.std.proofs.Common.{◌<◌, ◌^◌, inl, inr, rules, arith}
use Rattle.std.proofs.lemmas.Bool.{cases_lt}
use Rattle.block_buffer.specs.Bounds.{bound_in}
use Rattle.block_buffer.proofs.TreeLemmas.{above_next, no_place}
use Rattle.block_buffer.proofs.bounds.next_in.Goals as goal

pub loop-position-preserved : goal.loop-position-preserved
loop-position-preserved c =
    let from = c.loop-position.invariant.from in
    let short : c.args.high < 2 ^ 64 = search rules in
    record {
      from = omega (arith, from);
      above = λ q low upto. elim (cases_lt q c.loop-position.position) as (λ _. c.args.high < bound_in c.args.nodes.now q) [
        | inl before ↦ c.loop-position.invariant.above q low before
        | inr after ↦ above_next c.args.nodes.now c.loop-position.position c.width-position.result c.args.high q short c.width-position.ensures.above after upto
      ];
    }

pub returns-clause-none : goal.returns-clause-none
returns-clause-none c e q low = elim (cases_lt q c.loop-position.position) as (λ _. c.args.high < bound_in c.args.nodes.now q) [
  | inl before ↦ c.loop-position.invariant.above q low before
  | inr after ↦
      let short : c.args.high < 2 ^ 64 = search rules in
      let past = c.loop-position-test.false in
      let none = no_place c.args.nodes.now q c.requires.even (omega (arith, past, after)) in
      omega (arith, short, none)
]
