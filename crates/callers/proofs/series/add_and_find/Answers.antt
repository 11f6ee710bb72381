use Rattle.std.proofs.Common.{◌≡◌, ℕ, List, sym, ap, ◌∙◌, subst, ⊎_elim, cond}
use Rattle.std.specs.Prelude.{◌⊎◌, Some, Result, Ok, Err, OnOk, option_map}
use Rattle.std.specs.FinMap as finite
use Rattle.std.specs.FinMap.{get-insert}
use Rattle.std.specs.Cmp.{nat_cmp_total, tied_itself}
use Rattle.std.specs.Ordering.{is_eq}
use Rattle.tag_index.specs.declared.entry.Entry.{Entry}
use Rattle.tag_index.specs.Listed.{Listed, Tags, IsAt, IsPresent, IsFound, IsAdded}
use Rattle.callers.proofs.series.add_and_find.Goals as goal

at_new : (index : Listed) (o : ℕ) (e : Entry) → finite.get (finite.insert index o e) o ≡ Some e
at_new index o e = get-insert nat_cmp_total index o e o ∙ ap (λ b. cond b (Some e) (finite.get index o)) (ap is_eq (tied_itself nat_cmp_total o))

present_after : (old new : Listed) (id : List ℕ) (tags : Tags) (o : ℕ) → IsFound old new id o ⊎ IsAdded old new id tags o → IsPresent new id
present_after old new id tags o found_or_added =
    ⊎_elim (λ (found : IsFound old new id o). (o, subst (λ (m : Listed). IsAt m o id) (sym found.unchanged) found.at))
    (λ (add : IsAdded old new id tags o). (o, subst (λ (m : Listed). IsAt m o id) (sym add.added) (ap (option_map (λ (e : Entry). e.id)) (at_new old o (record { id = id; tags = tags })))))
    found_or_added

always : {T E P : Type 0} (r : Result T E) → P → OnOk r P
always (Ok x) p = p
always (Err e) p = tt

pub returns-clause-present : goal.returns-clause-present
returns-clause-present c = always c.posting.result (present_after c.args.index.now c.add.new.self c.args.id.now c.args.tags.now c.in_ok-add.field-0 c.in_ok-add.ensures.ok)
