use Rattle.std.proofs.Common.{◌≡◌, ℕ, List, ap, sym, ◌∙◌, subst, inl, inr}
use Rattle.std.specs.Prelude.{◌⊎◌, Some}
use Rattle.std.specs.FinMap.{nat_cmp-IsAntisymmetric, slice_cmp-IsAntisymmetric}
use Rattle.std.specs.Ordering.{nat_cmp}
use Rattle.std.specs.Cmp.Lexicographic.{slice_cmp}
use Rattle.m3_model.specs.Members.{IsIn}
use Rattle.tag_index.specs.Listed.{id_at, IsAt}
use Rattle.held_points.specs.Matched.{MeetsUnequal}
use Rattle.held_points.proofs.ListLemmas.{insert_key-IsIn, IsIn-insert_key}
use Rattle.held_points.proofs.candidates.add_name.Goals as goal

pub returns-in_ok-insert : goal.returns-in_ok-insert
returns-in_ok-insert c = λ id.
    let old = c.args.ids.now.keys in
    let index = c.args.index.now in
    let wanted = c.args.wanted.now in
    let name = c.in-Some.id.now in
    let key : c.in_ok-copy.field-0 ≡ name = c.in_ok-copy.ensures in
    let at : id_at index c.args.ordinal ≡ Some name = sym c.in-Some.ensures in
    let met : MeetsUnequal wanted name = subst (MeetsUnequal wanted) c.as_str.ensures (c.meets_unequal.ensures.0 c.if-meets_unequal.true) in
    let anti = slice_cmp-IsAntisymmetric nat_cmp-IsAntisymmetric in (
      (λ m. elim (insert_key-IsIn (slice_cmp nat_cmp) anti old c.in_ok-copy.field-0 id (subst (λ (ks : List (List ℕ)). IsIn ks id) c.in_ok-insert.ensures.keys m)) as (λ _. IsIn old id ⊎ (IsAt index c.args.ordinal id × MeetsUnequal wanted id)) [
        | inl before ↦ inl before
        | inr new ↦ let same : name ≡ id = sym key ∙ new in inr (at ∙ ap Some same, subst (MeetsUnequal wanted) same met)
      ]),
      (λ h. subst (λ (ks : List (List ℕ)). IsIn ks id) (sym c.in_ok-insert.ensures.keys) (IsIn-insert_key (slice_cmp nat_cmp) anti old c.in_ok-copy.field-0 id
          (elim h as (λ _. IsIn old id ⊎ (c.in_ok-copy.field-0 ≡ id)) [
            | inl before ↦ inl before
            | inr new ↦ let twice : Some name ≡ Some id = sym at ∙ new.0 in inr (let same : name ≡ id = cc in key ∙ same)
          ]))),
    )
