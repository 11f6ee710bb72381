use Rattle.std.proofs.Common.{◌≡◌, ◌∙◌, ◌||◌, ap, sym, subst, Some, cond, ℕ}
use Rattle.std.specs.Prelude.{nat_eq}
use Rattle.std.specs.FinMap as finite
use Rattle.std.specs.HashMap.{get_by_text}
use Rattle.std.specs.Str.{bytes_eq}
use Rattle.slab.specs.Slab.{Slab, Updates, get}
use Rattle.tag_index.specs.declared.entry.Entry.{Entry}
use Rattle.tag_index.specs.Links.{is_link_of, is_linked_in}
use Rattle.tag_index.specs.Sound.{listed}
use Rattle.tag_index.proofs.SlotLemmas.{listed-insert, updated_at}
use Rattle.tag_index.proofs.SoundLemmas.{sound_added}
use Rattle.tag_index.proofs.IndexLemmas.{slot_at, unnumbered}
use Rattle.tag_index.proofs.index.Index.add_absent.Goals as goal

pub invariant_of-self-2 : goal.invariant_of-self-2
invariant_of-self-2 c =
    let o : ℕ = c.in_ok-ordinal.ordinal in
    let back = c.in_ok-entry.ensures.back in
    let id : c.in_ok-entry.entry.id ≡ c.args.id.now = ap (λ (e : Entry). e.id) back ∙ c.in_ok-copy.ensures in
    let key : c.insert_reserved.result ≡ o = c.insert_reserved.ensures.key ∙ ap (λ (s : Slab Entry). s.vacant_key) c.reserve.ensures.rest_kept ∙ sym c.in_ok-ordinal.ensures.next in
    let updates : Updates c.reserve.new.self c.insert_reserved.new.self o (Some c.in_ok-entry.entry) = subst (λ k. Updates c.reserve.new.self c.insert_reserved.new.self k (Some c.in_ok-entry.entry)) key c.insert_reserved.ensures.updates in
    sound_added (get_by_text c.self.inside.numbers) _ (get c.self.inside.slots) _ (is_linked_in c.self.inside.links) _ c.in_ok-entry.entry o c.self.invariant
    (ap (get_by_text c.self.inside.numbers) id ∙ unnumbered _ c.self.inside.slots _ c.args.self.now c.self.view_is c.self.invariant c.args.id.now c.requires)
    c.in_ok-ordinal.ensures.free
    c.in_ok-ordinal.ensures.small
    (λ t. c.in_ok-entry.ensures.numbered t ∙ ap (λ (e : Entry). cond (bytes_eq t e.id) (Some o) (get_by_text c.self.inside.numbers t)) (sym back))
    (λ k. updated_at c.reserve.new.self c.insert_reserved.new.self o (Some c.in_ok-entry.entry) updates k ∙ ap (λ (s : Slab Entry). cond (nat_eq k o) (Some c.in_ok-entry.entry) (get s k)) c.reserve.ensures.rest_kept)
    (λ q. c.in_ok-entry.ensures.linked q ∙ ap (λ (e : Entry). is_linked_in c.self.inside.links q || is_link_of e.tags o q) (sym back))

pub returns-clause-ok : goal.returns-clause-ok
returns-clause-ok c =
    let o : ℕ = c.in_ok-ordinal.ordinal in
    let entry : c.in_ok-entry.entry ≡ record { id = c.args.id.now; tags = c.args.tags.now } = c.in_ok-entry.ensures.back ∙ (λ i. record { id = c.in_ok-copy.ensures i; tags = c.in_ok-copy-2.ensures i }) in
    let key : c.insert_reserved.result ≡ o = c.insert_reserved.ensures.key ∙ ap (λ (s : Slab Entry). s.vacant_key) c.reserve.ensures.rest_kept ∙ sym c.in_ok-ordinal.ensures.next in
    let updates : Updates c.reserve.new.self c.insert_reserved.new.self o (Some c.in_ok-entry.entry) = subst (λ k. Updates c.reserve.new.self c.insert_reserved.new.self k (Some c.in_ok-entry.entry)) key c.insert_reserved.ensures.updates in
    record {
      absent = c.requires;
      free = slot_at _ c.self.inside.slots _ c.args.self.now c.self.view_is c.self.invariant o ∙ c.in_ok-ordinal.ensures.free;
      added =
          listed-insert c.reserve.new.self c.insert_reserved.new.self o c.in_ok-entry.entry updates
          ∙ ap (λ m. finite.insert m o c.in_ok-entry.entry) (ap listed c.reserve.ensures.rest_kept ∙ c.self.view_is)
          ∙ ap (finite.insert c.args.self.now o) entry;
    }
