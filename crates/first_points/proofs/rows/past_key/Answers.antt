use Rattle.std.proofs.Common.{◌≡◌, ◌∷◌, ◌++◌, ℕ, ℤ, ◌<◌, [], List, ap, sym, subst, take, drop, length, ◌-◌, ◌∙◌, inl, inr, refl, arith, true, false, rules}
use Rattle.std.specs.Prelude.{Some}
use Rattle.std.specs.FinMap.{slice_cmp-IsAntisymmetric, nat_cmp-IsAntisymmetric}
use Rattle.std.specs.Ordering.{nat_cmp, is_eq}
use Rattle.std.specs.Cmp.Lexicographic.{slice_cmp}
use Rattle.std.specs.declared.cmp.Ordering.TheVariants.{Equal}
use Rattle.m3_model.specs.Ascends.{Ascends}
use Rattle.m3_model.specs.Members.{IsIn}
use Rattle.m3_model.specs.declared.point.Series.{Series}
use Rattle.m3_model.proofs.Keyed.{equal_of}
use Rattle.m3_model.proofs.MemberLemmas.{IsIn-append_right}
use Rattle.first_points.specs.Rows.{EndsPast, AreFrom, AreLater}
use Rattle.first_points.proofs.PartitionLemmas.{back_ascends}
use Rattle.first_points.proofs.RowLemmas.{NoneHas, ends_with, ends_without, none_of_none, others_behind}
use Rattle.first_points.proofs.TakeLemmas.{opened}
use Rattle.first_points.proofs.rows.past_key.Goals as goal
use Rattle.first_points.proofs.rows.past_key.Goals.{in_default-via-then-rows_from-lt1, in_default-via-in-len1-up+else-is_eq}

pub later_pairs-requires : goal.later_pairs-requires
later_pairs-requires c =
    let row = c.row-item.result in
    let from = c.rows_from.ensures in
    let is = opened c.rows_from.result.now row c.in-len1-up.len_at_least c.row-item.is in
    let inside : IsIn c.args.rows.now row = subst (λ l. IsIn l row) (sym from.parts) (IsIn-append_right from.early c.rows_from.result.now row (subst (λ l. IsIn l row) (sym is) (inl refl))) in
    subst (Ascends (λ (a b : ℕ × ℤ). a.0 < b.0)) (sym c.as_slice.ensures) (c.requires.times row inside)

pub returns-in-len1-up-clause-ends : goal.returns-in-len1-up-clause-ends
returns-in-len1-up-clause-ends c =
    let key = c.args.key.now in
    let rows = c.args.rows.now in
    let row = c.row-item.result in
    let later = take (length c.rows_from.result.now - 1) (drop 1 c.rows_from.result.now) in
    let is = opened c.rows_from.result.now row c.in-len1-up.len_at_least c.row-item.is in
    let same : row.id ≡ key.id = slice_cmp-IsAntisymmetric nat_cmp-IsAntisymmetric row.id key.id (equal_of (slice_cmp nat_cmp row.id key.id) (search rules)) in
    ends_with key rows c.requires.ids row later c.later_pairs.result.now (subst (AreFrom key.id rows) is c.rows_from.ensures) same (subst (λ (l : List (ℕ × ℤ)). AreLater key.t l c.later_pairs.result.now) c.as_slice.ensures c.later_pairs.ensures)

pub returns-in-len1-up-clause-pairs : goal.returns-in-len1-up-clause-pairs
returns-in-len1-up-clause-pairs c =
    let row = c.row-item.result in
    let from = c.rows_from.ensures in
    let is = opened c.rows_from.result.now row c.in-len1-up.len_at_least c.row-item.is in
    let inside : IsIn c.args.rows.now row = subst (λ l. IsIn l row) (sym from.parts) (IsIn-append_right from.early c.rows_from.result.now row (subst (λ l. IsIn l row) (sym is) (inl refl))) in
    let split = subst (λ (l : List (ℕ × ℤ)). AreLater c.args.key.now.t l c.later_pairs.result.now) c.as_slice.ensures c.later_pairs.ensures in
    back_ascends (λ (a b : ℕ × ℤ). a.0 < b.0) split.early c.later_pairs.result.now (subst (Ascends (λ (a b : ℕ × ℤ). a.0 < b.0)) split.parts (c.requires.times row inside))

pub returns-in-len1-up-clause-later : goal.returns-in-len1-up-clause-later
returns-in-len1-up-clause-later c s m =
    let row = c.row-item.result in
    let from = c.rows_from.ensures in
    let is = opened c.rows_from.result.now row c.in-len1-up.len_at_least c.row-item.is in
    subst (λ l. IsIn l s) (sym from.parts) (IsIn-append_right from.early c.rows_from.result.now s (subst (λ l. IsIn l s) (sym is) (inr m)))

pub returns-in_default-clause-later : goal.returns-in_default-clause-later
returns-in_default-clause-later c s m = let from = c.rows_from.ensures in subst (λ l. IsIn l s) (sym from.parts) (IsIn-append_right from.early c.rows_from.result.now s m)

pub returns-in_default-clause-ends : goal.returns-in_default-clause-ends
returns-in_default-clause-ends c =
    let key = c.args.key.now in
    let rows = c.args.rows.now in
    ends_without key rows c.requires.ids c.rows_from.result.now c.rows_from.ensures
    (elim c.in_default-1.branch as (λ _. NoneHas key.id c.rows_from.result.now) [
      | in_default-via-then-rows_from-lt1 w ↦ none_of_none key.id c.rows_from.result.now (search rules)
      | in_default-via-in-len1-up+else-is_eq w ↦
          let row = w.row-item.result in
          let later = take (length c.rows_from.result.now - 1) (drop 1 c.rows_from.result.now) in
          let is = opened c.rows_from.result.now row w.in-len1-up.len_at_least w.row-item.is in
          subst (NoneHas key.id) (sym is) (others_behind key rows c.requires.ids row later (subst (AreFrom key.id rows) is c.rows_from.ensures) (λ tie. (let bad : false ≡ true = sym w.if-is_eq.false ∙ w.is_eq.ensures ∙ ap is_eq (w.cmp.ensures ∙ tie) in cc)))
    ])
