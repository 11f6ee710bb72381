use Rattle.std.proofs.Common.{◌≡◌, ◌∙◌, ◌&&◌, ap, not, sym, Some, None, cond, refl, true≢false, ℕ}
use Rattle.std.specs.Prelude.{Option}
use Rattle.std.specs.FinMap as finite
use Rattle.std.specs.HashMap.{get_by_text}
use Rattle.std.specs.Str.{bytes_eq}
use Rattle.std.proofs.lemmas.Map.Text.{hash_map_updates_text}
use Rattle.slab.specs.Slab.{get}
use Rattle.tag_index.specs.Links.{is_link_of, is_linked_in}
use Rattle.tag_index.proofs.SlotLemmas.{listed-remove, updated_at}
use Rattle.tag_index.proofs.SoundLemmas.{sound_removed, turned}
use Rattle.tag_index.proofs.IndexLemmas.{has_slot, slot_id, number_at, at_number, absent}
use Rattle.tag_index.proofs.index.Index.remove.Goals as goal

pub remove-entry-requires : goal.remove-entry-requires
remove-entry-requires c = has_slot _ c.self.inside.slots _ c.args.self.now c.self.view_is c.self.invariant c.args.id.now c.in-Some.ordinal (sym c.swap_remove.ensures.value ∙ c.in-Some.is)

pub invariant_of-self : goal.invariant_of-self
invariant_of-self c =
    let number : get_by_text c.self.inside.numbers c.args.id.now ≡ Some c.in-Some.ordinal = sym c.swap_remove.ensures.value ∙ c.in-Some.is in
    let id : c.remove-entry.result.id ≡ c.args.id.now = slot_id _ c.self.inside.slots _ c.args.self.now c.self.view_is c.self.invariant c.args.id.now c.in-Some.ordinal c.remove-entry.result number c.remove-entry.ensures.value in
    sound_removed _ _ (get c.self.inside.slots) _ (is_linked_in c.self.inside.links) _ c.remove-entry.result c.in-Some.ordinal c.self.invariant c.remove-entry.ensures.value
    (λ t. hash_map_updates_text c.args.id.now c.self.inside.numbers c.swap_remove.new.self None c.swap_remove.ensures.updates t
    ∙ ap (λ b. cond b None (get_by_text c.self.inside.numbers t)) (turned c.args.id.now t ∙ ap (bytes_eq t) (sym id)))
    (updated_at c.self.inside.slots c.remove-entry.new.self c.in-Some.ordinal None c.remove-entry.ensures.updates)
    (λ q. c.unlink.ensures q ∙ ap (λ tags. is_linked_in c.self.inside.links q && not (is_link_of tags c.in-Some.ordinal q)) c.as_slice.ensures)

pub returns-in-Some-clause-exact : goal.returns-in-Some-clause-exact
returns-in-Some-clause-exact c =
    ((λ _. (c.in-Some.ordinal, number_at _ c.self.inside.slots _ c.args.self.now c.self.view_is c.self.invariant c.args.id.now c.in-Some.ordinal (sym c.swap_remove.ensures.value ∙ c.in-Some.is))), (λ _. refl))

pub returns-in-Some-clause-removed : goal.returns-in-Some-clause-removed
returns-in-Some-clause-removed c o at =
    let same : ◌≡◌ {A = Option ℕ} (Some c.in-Some.ordinal) (Some o) = sym (sym c.swap_remove.ensures.value ∙ c.in-Some.is) ∙ at_number _ c.self.inside.slots _ c.args.self.now c.self.view_is c.self.invariant c.args.id.now o at in
    let position : c.in-Some.ordinal ≡ o = cc in
    listed-remove c.self.inside.slots c.remove-entry.new.self c.in-Some.ordinal c.remove-entry.ensures.updates
    ∙ ap (λ m. finite.remove m c.in-Some.ordinal) c.self.view_is ∙ ap (finite.remove c.args.self.now) position

pub returns-in-None-clause-exact : goal.returns-in-None-clause-exact
returns-in-None-clause-exact c =
    ((λ is. absurd (true≢false (sym is))), (λ present. absurd (absent _ c.self.inside.slots _ c.args.self.now c.self.view_is c.self.invariant c.args.id.now (sym c.swap_remove.ensures.value ∙ c.in-None.is) present)))

pub returns-in-None-clause-removed : goal.returns-in-None-clause-removed
returns-in-None-clause-removed c o at =
    absurd (absent _ c.self.inside.slots _ c.args.self.now c.self.view_is c.self.invariant c.args.id.now (sym c.swap_remove.ensures.value ∙ c.in-None.is) (o, at))
