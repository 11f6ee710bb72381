use Rattle.std.proofs.Common.{◌≡◌, List, [], ◌∷◌, get_or, take, ap, ◌∙◌, subst, arith, inl, inr}
use Rattle.std.proofs.lemmas.List.{take_more}
use Rattle.m3_model.specs.Members.{IsIn}
use Rattle.m3_model.specs.declared.placement.Placement.{Placement}
use Rattle.m3_model.proofs.MemberLemmas.{IsIn-append_cases}
use Rattle.cluster_members.proofs.kept.version_position.Goals as goal

pub loop-position-preserved : goal.loop-position-preserved
loop-position-preserved c place m is =
    let past = c.args.past.now in
    let i = c.loop-position.position in
    let x = c.index-past-position.result in
    elim (IsIn-append_cases (take i past) (get_or past i x ∷ []) place (subst (λ xs. IsIn xs place) (take_more past i x (omega arith)) m)) as (λ _. ⊥) [
      | inl before ↦ c.loop-position.invariant place before is
      | inr last ↦ elim last as (λ _. ⊥) [
        | inl same ↦ c.if-place-version.false (ap (λ (p : Placement). p.version) (c.index-past-position.is ∙ same) ∙ is)
        | inr none ↦ none
      ]
    ]
