use Rattle.std.proofs.Common.{◌≡◌, [], ◌∷◌, length, sym, ap, ◌∙◌, arith, append-nil}
use Rattle.std.specs.Prelude.{vec_len}
use Rattle.std.proofs.lemmas.Bool.{eqb-false}
use Rattle.fileset_read.specs.m3_model.declared.point.Series.{Series}
use Rattle.fileset_read.specs.wire_bytes.Volumes.{row_bytes}
use Rattle.fileset_read.proofs.LeftLemmas.{passed}
use Rattle.volume_rows.proofs.StretchLemmas.{one_spelled, last_of_one}
use Rattle.volume_rows.proofs.records.row_in.Goals as goal
use Rattle.volume_rows.proofs.records.row_in.Goals.{then-not-is_empty-via-then-not-is_empty, then-not-is_empty-via-else-not-is_empty+then-not-equals}

pub returns-in_err-rows_in-clause-whole : goal.returns-in_err-rows_in-clause-whole
returns-in_err-rows_in-clause-whole c = λ s spelled named is.
    passed c.from_residual.result c.in_err-rows_in.field-0.0 _ _ c.from_residual.ensures.1 (c.in_err-rows_in.ensures (s ∷ []) (one_spelled s spelled) (is ∙ sym (append-nil (row_bytes s))))

pub returns-in_default-clause-whole : goal.returns-in_default-clause-whole
returns-in_default-clause-whole c = λ s spelled named is.
    let read = c.in_ok-rows_in.ensures (s ∷ []) (one_spelled s spelled) (is ∙ sym (append-nil (row_bytes s))) in
    let one : length c.into_vec-rows.result.items ≡ 1 = ap length (c.into_vec-rows.ensures ∙ read) in
    let none = c.in_default.ensures.cases.0 in
    let count = c.into_vec-rows.result.ok.0 in
    omega (arith, one, none, count)

pub returns-then-not-is_empty-clause-whole : goal.returns-then-not-is_empty-clause-whole
returns-then-not-is_empty-clause-whole c = λ s spelled named is.
    let read = c.in_ok-rows_in.ensures (s ∷ []) (one_spelled s spelled) (is ∙ sym (append-nil (row_bytes s))) in
    let last = last_of_one c.pop.new.self.items c.in-Some.row s (sym c.in-Some.ensures.items ∙ c.into_vec-rows.ensures ∙ read) in
    elim c.then-not-is_empty.branch [
      | then-not-is_empty-via-then-not-is_empty w ↦ (let some = eqb-false (vec_len c.pop.new.self) 0 (sym c.is_empty.ensures ∙ w.if-not-is_empty.true) in let count = c.pop.new.self.ok.0 in let none : length c.pop.new.self.items ≡ 0 = ap length last.0 in omega (arith, some, count, none))
      | then-not-is_empty-via-else-not-is_empty+then-not-equals w ↦ (let yes = w.equals.ensures.1 (ap (λ (r : Series). r.id) last.1 ∙ named) in let other = w.if-not-equals.true in absurd (cc))
    ]

pub returns-clause-whole : goal.returns-clause-whole
returns-clause-whole c = λ s spelled named is.
    let read = c.in_ok-rows_in.ensures (s ∷ []) (one_spelled s spelled) (is ∙ sym (append-nil (row_bytes s))) in
    (last_of_one c.pop.new.self.items c.in-Some.row s (sym c.in-Some.ensures.items ∙ c.into_vec-rows.ensures ∙ read)).1
