use Rattle.std.proofs.Common.{◌≡◌, ◌+◌, [], ◌++◌, drop, sym, ap, ◌∙◌, subst, arith, inl, inr}
use Rattle.std.specs.Prelude.{◌⊎◌}
use Rattle.std.proofs.lemmas.List.{drop_all, take_rest}
use Rattle.series_merge.specs.Pairs.{IsMergeOfPairs, IsPartOfPairs}
use Rattle.series_merge.proofs.PairLemmas.{pairs_step, pairs_whole}
use Rattle.series_merge.proofs.pairs.merge_pairs.Goals as goal

pub loop-first-preserved : goal.loop-first-preserved
loop-first-preserved c =
    let next = c.in-Some.ensures in
    let was = c.loop-first.invariant in
    let one = c.args.one.now in
    let other = c.args.other.now in
    record {
      in_one = let here = next.in_one in let most = next.of_one in omega (arith, here, most);
      in_other = let here = next.in_other in let most = next.of_other in omega (arith, here, most);
      part = λ one_ascends other_ascends.
          subst (λ done. IsPartOfPairs one other done (drop (c.loop-first.i + c.in-Some.first.of_one) one) (drop (c.loop-first.j + c.in-Some.first.of_other) other)) (sym c.in_ok-push.ensures.items)
          (pairs_step one other c.loop-first.pairs.items c.loop-first.i c.loop-first.j c.in-Some.first next (was.part one_ascends other_ascends));
    }

pub returns : goal.returns
returns c one_ascends other_ascends =
    let was = c.loop-first.invariant in
    let one = c.args.one.now in
    let other = c.args.other.now in
    let none : (drop c.loop-first.i one ≡ []) ⊎ (drop c.loop-first.j other ≡ []) =
    elim c.in_default.ensures as (λ _. (drop c.loop-first.i one ≡ []) ⊎ (drop c.loop-first.j other ≡ [])) [ inl e ↦ inl (drop_all c.loop-first.i one e) | inr e ↦ inr (drop_all c.loop-first.j other e) ] in
    let done = c.loop-first.pairs.items in
    let first : c.extend_from_slice.new.self.items ≡ done ++ drop c.loop-first.i one = c.in_ok-extend_from_slice.ensures.items ∙ ap (λ xs. done ++ xs) (take_rest one c.loop-first.i) in
    let both : c.extend_from_slice-2.new.self.items ≡ (done ++ drop c.loop-first.i one) ++ drop c.loop-first.j other =
    c.in_ok-extend_from_slice-2.ensures.items ∙ ap (λ xs. c.extend_from_slice.new.self.items ++ xs) (take_rest other c.loop-first.j) ∙ ap (λ xs. xs ++ drop c.loop-first.j other) first in
    subst (IsMergeOfPairs one other) (sym (c.from_vec.ensures ∙ both))
    (pairs_whole one other done (drop c.loop-first.i one) (drop c.loop-first.j other) (was.part one_ascends other_ascends) none)
