use Rattle.std.proofs.Common.{◌≡◌, ◌++◌, ◌∙◌, ◌<◌, ◌≤◌, ℕ, [], List, Bor, Vec, Global, ap, sym, subst, take, arith, rules}
use Rattle.std.specs.Prelude.{Some, None, Option}
use Rattle.std.specs.Option.{option_copied}
use Rattle.std.proofs.lemmas.List.{take_all}
use Rattle.m3_model.specs.Contents.{content_of}
use Rattle.m3_model.specs.Members.{IsIn}
use Rattle.m3_model.specs.Reads.{points_in}
use Rattle.m3_model.specs.declared.point.Key.{Key}
use Rattle.m3_model.specs.declared.point.Point.{Point}
use Rattle.m3_model.specs.declared.point.Series.{Series}
use Rattle.first_points.specs.Bounds.{points_up_to}
use Rattle.first_points.specs.Firsts.{AreFirst}
use Rattle.first_points.specs.Rows.{EndsPast, points_at}
use Rattle.first_points.proofs.RowLemmas.{first_from_end, first_from_none, first_from_above, first_below}
use Rattle.first_points.proofs.rows.first_of_rows.Goals as goal
use Rattle.first_points.proofs.rows.first_of_rows.Goals.{in-Some, in-Some-2+in_ok-push_pairs-in-Some-2+in_ok-push_rows-in-Some-2, in_default+in_ok-push_rows-in_default, in_default-via-in-Some-2+else-ns-key-2, in_default-via-in_default}

-- ---- what is asked

pub past_key-requires-clause-times : goal.past_key-requires-clause-times
past_key-requires-clause-times c s m = c.requires.times s (c.rows_up_to-within.ensures.rows s m)

pub push_rows-requires : goal.push_rows-requires
push_rows-requires c s m = c.requires.times s (c.rows_up_to-within.ensures.rows s (c.past_key.ensures.later s m))

pub push_rows-requires-in_default : goal.push_rows-requires-in_default
push_rows-requires-in_default c s m = c.requires.times s (c.rows_up_to-within.ensures.rows s m)

-- ---- what is found

pub returns : goal.returns
returns c =
    let ns = c.args.ns in
    let rows = c.rows_up_to-within.result.now in
    let limit = c.args.limit in
    let last = option_copied c.args.last in
    let ids = c.rows_up_to-within.ensures.ids in
    let times = λ (s : Series) (m : IsIn c.rows_up_to-within.result.now s). c.requires.times s (c.rows_up_to-within.ensures.rows s m) in
    let content = content_of (points_up_to last (points_in ns rows)) in
    subst (λ (l : List Point). AreFirst (content_of l) (option_copied c.args.after) limit c.from_vec.result) c.rows_up_to-within.ensures.points
    (subst (AreFirst content (option_copied c.args.after) limit) (sym c.from_vec.ensures)
    (elim c.match-after.branch as (λ _. AreFirst content (option_copied c.args.after) limit c.match-after.first.items) [
      | in-Some w ↦
          let key = w.in-Some.key.now in
          subst (λ l. AreFirst content (option_copied c.args.after) limit l) (sym (ap (λ (v : Vec Point Global). v.items) w.first-is ∙ c.new-first.ensures.items ∙ nothing limit))
          (subst (λ (o : Option Key). AreFirst content o limit (take limit [])) (sym (ap option_copied w.in-Some.is)) (first_below ns rows ids times last limit key w.if-ns-key.true))
      | in-Some-2+in_ok-push_pairs-in-Some-2+in_ok-push_rows-in-Some-2 w ↦
          let key = w.in-Some-2.key.now in
          let pairs = w.past_key.result.0.now in
          let later = w.past_key.result.1.now in
          let pushed = w.in_ok-push_rows-in-Some-2.ensures (points_up_to last (points_at ns key.id pairs)) (w.in_ok-push_pairs-in-Some-2.ensures [] (c.new-first.ensures.items ∙ nothing limit)) in
          let space : key.ns ≡ ns = sym w.if-ns-key-2.true in
          let ends : EndsPast ns rows (Some key) key.id pairs later = subst (λ n. EndsPast n rows (Some key) key.id pairs later) space w.past_key.ensures.ends in
          subst (λ l. AreFirst content (option_copied c.args.after) limit l) (sym (ap (λ (v : Vec Point Global). v.items) w.first-is ∙ pushed))
          (subst (λ (o : Option Key). AreFirst content o limit (take limit (points_up_to last (points_at ns key.id pairs) ++ points_up_to last (points_in ns later)))) (sym (ap option_copied w.in-Some-2.is))
          (first_from_end ns rows ids times last limit (Some key) key.id pairs later ends))
      | in_default+in_ok-push_rows-in_default w ↦
          let pushed = w.in_ok-push_rows-in_default.ensures [] (c.new-first.ensures.items ∙ nothing limit) in
          subst (λ l. AreFirst content (option_copied c.args.after) limit l) (sym (ap (λ (v : Vec Point Global). v.items) w.first-is ∙ pushed))
          (elim w.in_default.branch as (λ _. AreFirst content (option_copied c.args.after) limit (take limit (points_up_to last (points_in ns rows)))) [
            | in_default-via-in-Some-2+else-ns-key-2 x ↦
                let key = x.in-Some-2.key.now in
                let e : Some x.in-Some.key ≡ Some x.in-Some-2.key = sym x.in-Some.is ∙ x.in-Some-2.is in
                let one : x.in-Some.key ≡ x.in-Some-2.key = cc in
                subst (λ (o : Option Key). AreFirst content o limit (take limit (points_up_to last (points_in ns rows)))) (sym (ap option_copied x.in-Some-2.is))
                (first_from_above ns rows ids times last limit key (above ns key.ns (subst (λ (k : Bor Key). k.now.ns ≤ ns) one x.if-ns-key.false) (λ same. x.if-ns-key-2.false same)))
            | in_default-via-in_default x ↦
                subst (λ (o : Option Key). AreFirst content o limit (take limit (points_up_to last (points_in ns rows)))) (sym (ap option_copied x.in_default.is)) (first_from_none ns rows ids times last limit)
          ])
    ]))
  where
    nothing : (n : ℕ) → ◌≡◌ {A = List Point} [] (take n [])
    nothing n = sym (take_all n [] (omega arith))

    above : (m n : ℕ) → n ≤ m → (m ≡ n → ⊥) → n < m
    above m n low same = grind arith
