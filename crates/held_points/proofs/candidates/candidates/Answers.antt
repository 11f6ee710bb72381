use Rattle.std.proofs.Common.{◌+◌, ◌∷◌, List, drop, ap, sym, ◌∙◌, subst}
use Rattle.m3_model.specs.Members.{IsIn}
use Rattle.m3_model.specs.declared.point.Matcher.{Matcher}
use Rattle.tag_query.proofs.Members.{drop_at, IsIn-get_or}
use Rattle.held_points.proofs.CandidateLemmas.{AreFoundBefore, unequal_next, equal_next}
use Rattle.held_points.proofs.candidates.candidates.Goals as goal
use Rattle.held_points.proofs.candidates.candidates.Goals.{then-matcher+in_ok-narrowed, else-matcher}

pub loop-matcher-preserved : goal.loop-matcher-preserved
loop-matcher-preserved c =
    let index = c.args.index.now in
    let wanted = c.args.wanted.now in
    let i = c.loop-matcher.matcher-index in
    let rest = drop (i + 1) wanted in
    let m = c.matcher-item.result in
    let here : AreFoundBefore index wanted (m ∷ rest) c.loop-matcher.found = subst (λ (r : List Matcher). AreFoundBefore index wanted r c.loop-matcher.found) (drop_at wanted i m c.loop-matcher-test.true ∙ ap (λ (x : Matcher). x ∷ rest) (sym c.matcher-item.is)) c.loop-matcher.invariant in
    let there : IsIn wanted m = subst (IsIn wanted) (sym c.matcher-item.is) (IsIn-get_or wanted i m c.loop-matcher-test.true) in
    elim c.if-matcher.branch [
      | then-matcher+in_ok-narrowed w ↦ subst (AreFoundBefore index wanted rest) (sym w.found-is) (equal_next index wanted rest m c.loop-matcher.found _ there w.if-matcher.true here w.in_ok-narrowed.ensures.ascends w.in_ok-narrowed.ensures.exact)
      | else-matcher w ↦ subst (AreFoundBefore index wanted rest) (sym w.found-is) (unequal_next index wanted rest m c.loop-matcher.found w.if-matcher.false here)
    ]
