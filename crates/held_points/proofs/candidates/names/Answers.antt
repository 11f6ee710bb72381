use Rattle.std.proofs.Common.{ℕ, ◌+◌, List, drop, get_or, sym, subst, inl, inr}
use Rattle.std.specs.Prelude.{◌⊎◌}
use Rattle.std.proofs.lemmas.List.{drop_all}
use Rattle.std.proofs.lemmas.Result.{IfOk-weaker}
use Rattle.m3_model.specs.Members.{IsIn}
use Rattle.tag_index.specs.Listed.{IsAt}
use Rattle.tag_query.proofs.Members.{at_or_later, IsIn-get_or}
use Rattle.held_points.specs.Matched.{IsMatchedBy}
use Rattle.held_points.proofs.candidates.names.Goals as goal

pub loop-ordinal-preserved : goal.loop-ordinal-preserved
loop-ordinal-preserved c =
    let index = c.args.index.now in
    let ordinals = c.args.ordinals.now in
    let i = c.loop-ordinal.ordinal-index in
    let ids = c.add_name.new.ids.keys in
    let added = c.in_ok-add_name.ensures in
    record {
      sound = λ id m. elim ((added id).0 m) as (λ _. IsMatchedBy index c.args.wanted.now ordinals id) [
        | inl old ↦ c.loop-ordinal.invariant.sound id old
        | inr new ↦ (get_or ordinals i 0, IsIn-get_or ordinals i 0 c.loop-ordinal-test.true, new.0, new.1)
      ];
      whole = λ o id there at met. elim (c.loop-ordinal.invariant.whole o id there at met) as (λ _. IsIn ids id ⊎ IsIn (drop (i + 1) ordinals) o) [
        | inl old ↦ inl ((added id).1 (inl old))
        | inr rest ↦ elim (at_or_later ordinals i 0 o c.loop-ordinal-test.true rest) as (λ _. IsIn ids id ⊎ IsIn (drop (i + 1) ordinals) o) [
          | inl same ↦ inl ((added id).1 (inr (subst (λ (x : ℕ). IsAt index x id) (sym same) at, met)))
          | inr later ↦ inr later
        ]
      ];
    }

pub returns-clause-exact : goal.returns-clause-exact
returns-clause-exact c =
    IfOk-weaker c.ascending.result _ _
    (λ listed all id. (
      (λ m. c.loop-ordinal.invariant.sound id (subst (λ (ids : List (List ℕ)). IsIn ids id) all m)),
      (λ is. subst (λ (ids : List (List ℕ)). IsIn ids id) (sym all) (elim (c.loop-ordinal.invariant.whole is.0 id is.1 is.2 is.3) as (λ _. IsIn c.loop-ordinal.ids.keys id) [
        | inl there ↦ there
        | inr rest ↦ absurd (subst (λ (os : List ℕ). IsIn os is.0) (drop_all c.loop-ordinal.ordinal-index c.args.ordinals.now c.loop-ordinal-test.false) rest)
      ])),
    ))
    c.ascending.ensures.all
