-- What the calls of an index say, by its parts.
use Rattle.std.proofs.Common.{◌≡◌, ℕ, ◌<◌, ◌^◌, List, [], ◌∷◌, map, refl, sym, ap, ◌∙◌, subst, Bool, true, false, arith, get_or, IsTrue, ◌↔◌, true≢false}
use Rattle.std.specs.Prelude.{Option, Some, None, option_map, IsSome, is_some}
use Rattle.std.specs.FinMap as finite
use Rattle.std.specs.FinMap.{nat_cmp-IsAntisymmetric, same_map, get-empty}
use Rattle.std.specs.Cmp.{nat_cmp_total}
use Rattle.std.specs.Ordering.{nat_cmp}
use Rattle.std.specs.declared.cmp.Ordering.TheVariants.{Less}
use Rattle.std.proofs.lemmas.Bool.Decides.{nat_tests}
use Rattle.slab.specs.Slab.{Slab, entries, get}
use Rattle.m3_model.specs.Ascends.{Ascends}
use Rattle.m3_model.specs.Members.{IsIn}
use Rattle.m3_model.proofs.MemberLemmas.{IsIn-map, map-IsIn}
use Rattle.m3_model.proofs.FindLemmas.{get-IsIn, IsIn-get, entries_ascend}
use Rattle.tag_index.specs.declared.entry.Entry.{Entry}
use Rattle.tag_index.specs.Links.{link_of, is_linked}
use Rattle.tag_index.specs.Listed.{Listed, IsAt, IsPresent, HasTagAt, AreDistinct}
use Rattle.tag_index.specs.Sound.{listed, IsSound}
use Rattle.tag_links.proofs.LinkLemmas.{link_names, names_link}
use Rattle.tag_index.proofs.SlotLemmas.{get-listed, entries-listed}
use Rattle.tag_index.proofs.SoundLemmas.{Numbers, Linked}

is_there : {X : Type 0} (o : Option X) (x : X) → o ≡ Some x → IsSome o
is_there o x e = ap is_some e

module _ (n : Numbers) (s : Slab Entry) (l : Linked) (m : Listed) (view : listed s ≡ m) (sound : IsSound n (get s) l) where
  -- what the map has at an ordinal is what its slot has
  pub slot_at : (o : ℕ) → finite.get m o ≡ get s o
  slot_at o = ap (λ m. finite.get m o) (sym view) ∙ get-listed s o

  pub number_at : (id : List ℕ) (o : ℕ) → n id ≡ Some o → IsAt m o id
  number_at id o e = ap (option_map (λ (e : Entry). e.id)) (slot_at o) ∙ sound.named id o e

  pub at_number : (id : List ℕ) (o : ℕ) → IsAt m o id → n id ≡ Some o
  at_number id o e = by_slot (get s o) refl (sym (ap (option_map (λ (e : Entry). e.id)) (slot_at o)) ∙ e)
    where
      by_slot : (slot : Option Entry) → get s o ≡ slot → option_map (λ (e : Entry). e.id) slot ≡ Some id → n id ≡ Some o
      by_slot None at e = cc
      by_slot (Some f) at e = let same : f.id ≡ id = cc in ap n (sym same) ∙ sound.numbered o f at

  pub distinct : AreDistinct m
  distinct o p id at there = let same : Some o ≡ Some p = sym (at_number id o at) ∙ at_number id p there in cc

  pub absent : (id : List ℕ) → n id ≡ None → IsPresent m id → ⊥
  absent id e present = let wrong : ◌≡◌ {A = Option ℕ} None (Some present.0) = sym e ∙ at_number id present.0 present.1 in cc

  pub unnumbered : (id : List ℕ) → (IsPresent m id → ⊥) → n id ≡ None
  unnumbered id none = by_number (n id) refl
    where
      by_number : (o : Option ℕ) → n id ≡ o → o ≡ None
      by_number None e = refl
      by_number (Some o) e = absurd (none (o, number_at id o e))

  pub present_where : (id : List ℕ) (r : Bool) → r ≡ is_some (n id) → IsTrue r ↔ IsPresent m id
  present_where id r e = by_number (n id) refl
    where
      by_number : (o : Option ℕ) → n id ≡ o → IsTrue r ↔ IsPresent m id
      by_number None f = ((λ is. absurd (true≢false (sym is ∙ e ∙ ap is_some f))), (λ present. absurd (absent id f present)))
      by_number (Some o) f = ((λ _. (o, number_at id o f)), (λ _. e ∙ ap is_some f))

  -- a number's slot has its series
  pub has_slot : (id : List ℕ) (o : ℕ) → n id ≡ Some o → IsSome (get s o)
  has_slot id o e = by_slot (get s o) (sound.named id o e)
    where
      by_slot : (slot : Option Entry) → option_map (λ (e : Entry). e.id) slot ≡ Some id → IsSome slot
      by_slot None e = cc
      by_slot (Some f) e = refl

  pub slot_id : (id : List ℕ) (o : ℕ) (f : Entry) → n id ≡ Some o → get s o ≡ Some f → f.id ≡ id
  slot_id id o f e at = let ids : Some f.id ≡ Some id = sym (ap (option_map (λ (e : Entry). e.id)) at) ∙ sound.named id o e in cc

  -- the entries of the slots are those of the map
  entry_at : (x : ℕ × Entry) → IsIn (entries s) x → get s x.0 ≡ Some x.1
  entry_at x h = sym (get-listed s x.0) ∙ IsIn-get nat_cmp nat_cmp_total nat_cmp-IsAntisymmetric (listed s) x.0 x.1 (subst (λ es. IsIn es x) (sym (entries-listed s)) h)

  pub entry_small : (x : ℕ × Entry) → IsIn (entries s) x → x.0 < 2 ^ 32
  entry_small x h = sound.small x.0 x.1 (entry_at x h)

  pub all_present : (o : ℕ) → IsIn (map (λ (e : ℕ × Entry). e.0) (entries s)) o ↔ IsSome (finite.get m o)
  all_present o = (
    (λ h. let found = IsIn-map (λ (e : ℕ × Entry). e.0) (entries s) o h in
        subst (λ p. IsSome (finite.get m p)) found.2 (is_there _ _ (slot_at found.0.0 ∙ entry_at found.0 found.1))),
    (λ h. by_slot (finite.get m o) refl h),
  )
    where
      by_slot : (slot : Option Entry) → finite.get m o ≡ slot → IsSome slot → IsIn (map (λ (e : ℕ × Entry). e.0) (entries s)) o
      by_slot None at is = cc
      by_slot (Some f) at is =
          let entry : IsIn (entries s) (o, f) = subst (λ es. IsIn es (o, f)) (entries-listed s) (get-IsIn nat_cmp nat_cmp_total nat_cmp-IsAntisymmetric (listed s) o f (ap (λ m. finite.get m o) view ∙ at)) in
          map-IsIn (λ (e : ℕ × Entry). e.0) (entries s) (o, f) entry

  pub all_ascend : Ascends ◌<◌ (map (λ (e : ℕ × Entry). e.0) (entries s))
  all_ascend = keys_ascend (entries s) (subst (Ascends (λ (a b : ℕ × Entry). nat_cmp a.0 b.0 ≡ Less)) (entries-listed s) (entries_ascend nat_cmp nat_cmp_total nat_cmp-IsAntisymmetric (listed s)))
    where
      less : (a b : ℕ) → nat_cmp a b ≡ Less → a < b
      less a b e = grind (arith, nat_tests)

      keys_ascend : (es : List (ℕ × Entry)) → Ascends (λ (a b : ℕ × Entry). nat_cmp a.0 b.0 ≡ Less) es → Ascends ◌<◌ (map (λ (e : ℕ × Entry). e.0) es)
      keys_ascend [] h = tt
      keys_ascend (e ∷ es) h =
          ((λ o m. let found = IsIn-map (λ (e : ℕ × Entry). e.0) es o m in subst (λ p. e.0 < p) found.2 (less e.0 found.0.0 (h.0 found.0 found.1))), keys_ascend es h.1)

  -- a tag is linked to the ordinals of the series that have it
  pub posted : (name value : List ℕ) (o : ℕ) → IsTrue (l (link_of o (name, value))) ↔ HasTagAt m name value o
  posted name value o = (
    (λ h. by_slot (get s o) refl (sym (sound.links (link_of o (name, value))) ∙ h)),
    (λ has. let at = sym (slot_at o) ∙ has.1 in
        sound.links (link_of o (name, value)) ∙ ap (λ slot. is_linked slot (link_of o (name, value))) at ∙ names_link has.0.tags o (name, value) has.2),
  )
    where
      by_slot : (slot : Option Entry) → get s o ≡ slot → is_linked (get s o) (link_of o (name, value)) ≡ true → HasTagAt m name value o
      by_slot None at e = let wrong : false ≡ true = sym (ap (λ slot. is_linked slot (link_of o (name, value))) at) ∙ e in cc
      by_slot (Some f) at e =
          (f, slot_at o ∙ at, (link_names f.tags o (link_of o (name, value)) (sym (ap (λ slot. is_linked slot (link_of o (name, value))) at) ∙ e)).0)

-- slots without series are the empty map
pub listed_empty : (s : Slab Entry) → s.slots ≡ [] → listed s ≡ finite.empty
listed_empty s e = same_map nat_cmp_total nat_cmp-IsAntisymmetric _ _ (λ q. get-listed s q ∙ ap (λ slots. get_or slots q None) e ∙ sym (get-empty nat_cmp q))
