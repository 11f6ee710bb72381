use Rattle.std.proofs.Common.{◌≡◌, ◌<◌, ◌+◌, ◌∷◌, ◌++◌, [], drop, get_or, subst, true, false, ℕ, sym, ap, ◌∙◌, List, Bool, cond}
use Rattle.std.proofs.lemmas.List.{append-nil, drop_more}
use mathlib.Core.Bool.{beq}
use Rattle.m3_model.specs.Ascends.{Ascends}
use Rattle.tag_query.specs.Lists.{sifted, is_first, not_below}
use Rattle.tag_query.proofs.Sifting.{one_more, ascends_above, same_wanted}
use Rattle.tag_query.proofs.postings.sifted.Goals as goal
use Rattle.tag_query.proofs.postings.sifted.Goals.{then-is_first-wanted+in_ok-push, else-is_first-wanted}

pub loop-x-preserved : goal.loop-x-preserved
loop-x-preserved c =
    let x : ℕ = get_or c.args.a.now c.loop-x.x-index 0 in
    let later : List ℕ = drop (c.loop-x.x-index + 1) c.args.a.now in
    let ascends : Ascends ◌<◌ (x ∷ later) = subst (Ascends ◌<◌) (drop_more c.args.a.now c.loop-x.x-index 0 c.loop-x-test.true) c.loop-x.invariant.later_ascend in
    let first : c.is_first.result ≡ is_first (not_below x c.loop-x.rest.now) x = c.is_first.ensures ∙ ap (λ ys. is_first ys x) c.not_below-rest.ensures in
    let step : (t : Bool) (kept : List ℕ) → beq c.is_first.result c.args.wanted ≡ t → kept ≡ c.loop-x.kept.items ++ cond t (x ∷ []) [] → kept ++ sifted c.args.wanted later c.not_below-rest.result.now ≡ sifted c.args.wanted c.args.a.now c.args.b.now =
    λ t kept test is. ap (λ ks. ks ++ sifted c.args.wanted later c.not_below-rest.result.now) is
    ∙ ap (λ ys. (c.loop-x.kept.items ++ cond t (x ∷ []) []) ++ sifted c.args.wanted later ys) c.not_below-rest.ensures
    ∙ one_more c.args.wanted t c.loop-x.kept.items later c.loop-x.rest.now x ascends c.loop-x.invariant.rest_ascends (sym test ∙ ap (λ r. beq r c.args.wanted) first ∙ same_wanted _ c.args.wanted)
    ∙ ap (λ ys. c.loop-x.kept.items ++ sifted c.args.wanted ys c.loop-x.rest.now) (sym (drop_more c.args.a.now c.loop-x.x-index 0 c.loop-x-test.true))
    ∙ c.loop-x.invariant.kept_is in
    record {
      kept_is = elim c.if-is_first-wanted.branch [
        | then-is_first-wanted+in_ok-push w ↦ step true c.if-is_first-wanted.kept.items w.if-is_first-wanted.true (ap (λ v. v.items) w.kept-is ∙ w.in_ok-push.ensures.items)
        | else-is_first-wanted w ↦ step false c.if-is_first-wanted.kept.items w.if-is_first-wanted.false (ap (λ v. v.items) w.kept-is ∙ sym (append-nil c.loop-x.kept.items))
      ];
      later_ascend = ascends.1;
      rest_ascends = subst (Ascends ◌<◌) (sym c.not_below-rest.ensures) (ascends_above x c.loop-x.rest.now c.loop-x.invariant.rest_ascends);
    }
