use Rattle.std.proofs.Common.{◌≡◌, ◌+◌, ℤ, [], ◌∷◌, ap, ap₂, sym, subst, ◌∙◌, rules, w64}
use Rattle.std.specs.Prelude.{FitsSigned, None, int_lt, slice_get, drop}
use Rattle.std.proofs.lemmas.Int.{to_z-of_z}
use Rattle.m3_model.specs.Answers.{IsAnswer}
use Rattle.m3_model.specs.Contents.{is_higher}
use Rattle.m3_model.specs.declared.point.Pick.TheVariants as pick
use Rattle.m3_model.specs.declared.point.Series.{Series}
use Rattle.held_pages.proofs.RiseLemmas.{answer_none, answer_some, answer_empty, first_is, nothing_first}
use Rattle.held_pages.proofs.rising.is_above.Goals as goal

pub returns-in_default : goal.returns-in_default
returns-in_default c d p same answer =
    let none : slice_get c.as_slice.result.now 0 ≡ None = search rules in
    let empty : c.args.found.now ≡ [] = sym c.as_slice.ensures ∙ nothing_first c.as_slice.result.now none in
    sym (ap (λ o. is_higher o p.v) (answer_none d p (subst (IsAnswer d (pick.One p.ns p.id) p.t (p.t + 1)) empty answer)))

pub returns-in-Some-first : goal.returns-in-Some-first
returns-in-Some-first c d p same answer =
    let s : Series = c.in-Some.series.now in
    let x = c.in-Some-first.field-0.now in
    let all : c.args.found.now ≡ s ∷ drop 1 c.as_slice.result.now = sym c.as_slice.ensures ∙ first_is c.as_slice.result.now s (sym c.in-Some.ensures.value) in
    let pairs = sym c.as_slice-2.ensures ∙ first_is c.as_slice-2.result.now x (sym c.in-Some-first.ensures.value) in
    let got = answer_some d p s (drop 1 c.as_slice.result.now) x.0 x.1 (drop 1 c.as_slice-2.result.now) (subst (IsAnswer d (pick.One p.ns p.id) p.t (p.t + 1)) all answer) pairs in
    let stands : FitsSigned w64 x.1 = search rules in
    let given : FitsSigned w64 c.args.v = search rules in
    ap₂ (λ (a b : ℤ). int_lt a b) (to_z-of_z w64 x.1 stands) (to_z-of_z w64 c.args.v given ∙ sym same) ∙ sym (ap (λ o. is_higher o p.v) got)

pub returns-in-None : goal.returns-in-None
returns-in-None c d p same answer =
    let s : Series = c.in-Some.series.now in
    let all : c.args.found.now ≡ s ∷ drop 1 c.as_slice.result.now = sym c.as_slice.ensures ∙ first_is c.as_slice.result.now s (sym c.in-Some.ensures.value) in
    let none : slice_get c.as_slice-2.result.now 0 ≡ None = search rules in
    let empty : s.points ≡ [] = sym c.as_slice-2.ensures ∙ nothing_first c.as_slice-2.result.now none in
    absurd (answer_empty d p s (drop 1 c.as_slice.result.now) (subst (IsAnswer d (pick.One p.ns p.id) p.t (p.t + 1)) all answer) empty)
