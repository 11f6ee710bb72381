use Rattle.std.proofs.Common.{◌≡◌, ◌∙◌, ap, sym, Some, Ok, inl, refl, ℕ}
use Rattle.std.specs.Prelude.{Option}
use Rattle.std.specs.HashMap.{get_by_text}
use Rattle.tag_index.proofs.IndexLemmas.{number_at, at_number, absent}
use Rattle.tag_index.proofs.index.Index.add.Goals as goal

pub add_absent-requires : goal.add_absent-requires
add_absent-requires c = absent _ c.self.inside.slots _ c.args.self.now c.self.view_is c.self.invariant c.args.id.now (ap (get_by_text c.self.inside.numbers) (sym c.as_str.ensures) ∙ sym c.in-None.ensures.value)

pub returns-in-Some-clause-present : goal.returns-in-Some-clause-present
returns-in-Some-clause-present c o at =
    let number : ◌≡◌ {A = Option ℕ} (Some c.in-Some.ordinal.now) (Some o) = c.in-Some.ensures.value ∙ ap (get_by_text c.self.inside.numbers) c.as_str.ensures ∙ at_number _ c.self.inside.slots _ c.args.self.now c.self.view_is c.self.invariant c.args.id.now o at in
    let same : c.in-Some.ordinal.now ≡ o = cc in
    ap Ok same

pub returns-in-Some-clause-ok : goal.returns-in-Some-clause-ok
returns-in-Some-clause-ok c =
    inl (record {
      at = number_at _ c.self.inside.slots _ c.args.self.now c.self.view_is c.self.invariant c.args.id.now c.in-Some.ordinal.now (ap (get_by_text c.self.inside.numbers) (sym c.as_str.ensures) ∙ sym c.in-Some.ensures.value);
      unchanged = refl;
    })

pub returns-in-None-clause-present : goal.returns-in-None-clause-present
returns-in-None-clause-present c o at =
    absurd (absent _ c.self.inside.slots _ c.args.self.now c.self.view_is c.self.invariant c.args.id.now (ap (get_by_text c.self.inside.numbers) (sym c.as_str.ensures) ∙ sym c.in-None.ensures.value) (o, at))
