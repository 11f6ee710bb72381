-- How the parts of an index go on to agree.
use Rattle.std.proofs.Common.{◌≡◌, ℕ, ◌<◌, ◌^◌, List, refl, sym, ap, ◌∙◌, subst, Bool, true, false, not, cond, ◌||◌, ◌&&◌, true≢false}
use Rattle.std.specs.Prelude.{Option, Some, None, option_map, nat_eq}
use Rattle.std.specs.Str.{bytes_eq}
use Rattle.std.proofs.lemmas.Slice.Eq.{bytes_eq-Decides}
use Rattle.std.proofs.lemmas.Bool.{eqb-true, eq-eqb}
use Rattle.std.proofs.Math.Bool.{and-true, or-false}
use Rattle.tag_index.specs.declared.entry.Entry.{Entry}
use Rattle.tag_index.specs.Links.{Link, is_link_of, is_linked}
use Rattle.tag_index.specs.Sound.{IsSound}
use Rattle.tag_links.proofs.LinkLemmas.{other_ordinal}

abbrev pub Numbers : Type 0
Numbers = List ℕ → Option ℕ

abbrev pub Slots : Type 0
Slots = ℕ → Option Entry

abbrev pub Linked : Type 0
Linked = Link → Bool

-- the parts of an index without series agree
pub sound_empty : (n : Numbers) (s : Slots) (l : Linked) → ((t : List ℕ) → n t ≡ None) → ((k : ℕ) → s k ≡ None) → ((q : Link) → l q ≡ false) → IsSound n s l
sound_empty n s l no_number no_slot no_link = record {
  named = λ id o e. let wrong : ◌≡◌ {A = Option ℕ} None (Some o) = sym (no_number id) ∙ e in cc;
  numbered = λ o e is. let wrong : ◌≡◌ {A = Option Entry} None (Some e) = sym (no_slot o) ∙ is in cc;
  small = λ o e is. let wrong : ◌≡◌ {A = Option Entry} None (Some e) = sym (no_slot o) ∙ is in cc;
  links = λ q. no_link q ∙ sym (ap (λ o. is_linked o q) (no_slot q.ordinal));
}

-- parts that answer alike agree alike
pub sound_same : (n n' : Numbers) (s s' : Slots) (l l' : Linked) → ((t : List ℕ) → n' t ≡ n t) → ((k : ℕ) → s' k ≡ s k) → ((q : Link) → l' q ≡ l q) → IsSound n s l → IsSound n' s' l'
sound_same n n' s s' l l' numbers slots links sound = record {
  named = λ id o e. ap (option_map (λ (e : Entry). e.id)) (slots o) ∙ sound.named id o (sym (numbers id) ∙ e);
  numbered = λ o e is. numbers e.id ∙ sound.numbered o e (sym (slots o) ∙ is);
  small = λ o e is. sound.small o e (sym (slots o) ∙ is);
  links = λ q. links q ∙ sound.links q ∙ sym (ap (λ o. is_linked o q) (slots q.ordinal));
}

-- a free ordinal has no links
pub free_unlinked : (n : Numbers) (s : Slots) (l : Linked) (o : ℕ) → IsSound n s l → s o ≡ None → (q : Link) → q.ordinal ≡ o → l q ≡ false
free_unlinked n s l o sound free q at = sound.links q ∙ ap (λ e. is_linked e q) (ap s at ∙ free)

-- a series was added
pub sound_added : (n n' : Numbers) (s s' : Slots) (l l' : Linked) (e : Entry) (o : ℕ) → IsSound n s l → n e.id ≡ None → s o ≡ None → o < 2 ^ 32
    → ((t : List ℕ) → n' t ≡ cond (bytes_eq t e.id) (Some o) (n t)) → ((k : ℕ) → s' k ≡ cond (nat_eq k o) (Some e) (s k))
    → ((q : Link) → l' q ≡ (l q || is_link_of e.tags o q)) → IsSound n' s' l'
sound_added n n' s s' l l' e o sound absent free small numbers slots links = record {
  named = λ id p is. named id p (bytes_eq id e.id) refl (sym (numbers id) ∙ is);
  numbered = λ p f is. numbered p f (nat_eq p o) refl (sym (slots p) ∙ is);
  small = λ p f is. fits p f (nat_eq p o) refl (sym (slots p) ∙ is);
  links = λ q. links q ∙ linked q (nat_eq q.ordinal o) refl ∙ sym (ap (λ o. is_linked o q) (slots q.ordinal));
}
  where
    named : (id : List ℕ) (p : ℕ) (b : Bool) → bytes_eq id e.id ≡ b → cond b (Some o) (n id) ≡ Some p → option_map (λ (e : Entry). e.id) (s' p) ≡ Some id
    named id p true t is =
        let at : p ≡ o = cc in
        let same : id ≡ e.id = (bytes_eq-Decides id e.id).0 t in
        ap (option_map (λ (e : Entry). e.id)) (slots p ∙ ap (λ b. cond b (Some e) (s p)) (eq-eqb p o at)) ∙ ap Some (sym same)
    named id p false t is =
        let stood = sound.named id p is in
        let apart : nat_eq p o ≡ false = by_position p id stood (nat_eq p o) refl in
        ap (option_map (λ (e : Entry). e.id)) (slots p ∙ ap (λ b. cond b (Some e) (s p)) apart) ∙ stood
      where
        by_position : (p : ℕ) (id : List ℕ) → option_map (λ (e : Entry). e.id) (s p) ≡ Some id → (b : Bool) → nat_eq p o ≡ b → b ≡ false
        by_position p id stood true t = let wrong : option_map (λ (e : Entry). e.id) None ≡ Some id = sym (ap (option_map (λ (e : Entry). e.id)) (ap s (eqb-true p o t) ∙ free)) ∙ stood in cc
        by_position p id stood false t = refl

    numbered : (p : ℕ) (f : Entry) (b : Bool) → nat_eq p o ≡ b → cond b (Some e) (s p) ≡ Some f → n' f.id ≡ Some p
    numbered p f true t is =
        let same : e ≡ f = cc in
        numbers f.id ∙ ap (λ b. cond b (Some o) (n f.id)) ((bytes_eq-Decides f.id e.id).1 (ap (λ (e : Entry). e.id) (sym same))) ∙ ap Some (sym (eqb-true p o t))
    numbered p f false t is =
        let had : n f.id ≡ Some p = sound.numbered p f is in
        numbers f.id ∙ ap (λ b. cond b (Some o) (n f.id)) (by_id (bytes_eq f.id e.id) refl had) ∙ had
      where
        by_id : (b : Bool) → bytes_eq f.id e.id ≡ b → n f.id ≡ Some p → b ≡ false
        by_id true u had = let wrong : ◌≡◌ {A = Option ℕ} None (Some p) = sym absent ∙ ap n (sym ((bytes_eq-Decides f.id e.id).0 u)) ∙ had in cc
        by_id false u had = refl

    fits : (p : ℕ) (f : Entry) (b : Bool) → nat_eq p o ≡ b → cond b (Some e) (s p) ≡ Some f → p < 2 ^ 32
    fits p f true t is = subst (λ k. k < 2 ^ 32) (sym (eqb-true p o t)) small
    fits p f false t is = sound.small p f is

    linked : (q : Link) (b : Bool) → nat_eq q.ordinal o ≡ b → (l q || is_link_of e.tags o q) ≡ is_linked (cond b (Some e) (s q.ordinal)) q
    linked q true t =
        let at : q.ordinal ≡ o = eqb-true q.ordinal o t in
        ap (λ c. c || is_link_of e.tags o q) (free_unlinked n s l o sound free q at) ∙ ap (λ k. is_link_of e.tags k q) (sym at)
    linked q false t =
        let apart : is_link_of e.tags o q ≡ false = other_ordinal e.tags o q (λ at. true≢false (sym (eq-eqb q.ordinal o (sym at)) ∙ t)) in
        ap (λ c. l q || c) apart ∙ or-false (l q) ∙ sound.links q

-- a series was removed
pub sound_removed : (n n' : Numbers) (s s' : Slots) (l l' : Linked) (e : Entry) (o : ℕ) → IsSound n s l → s o ≡ Some e
    → ((t : List ℕ) → n' t ≡ cond (bytes_eq t e.id) None (n t)) → ((k : ℕ) → s' k ≡ cond (nat_eq k o) None (s k))
    → ((q : Link) → l' q ≡ (l q && not (is_link_of e.tags o q))) → IsSound n' s' l'
sound_removed n n' s s' l l' e o sound at numbers slots links = record {
  named = λ id p is. named id p (bytes_eq id e.id) refl (sym (numbers id) ∙ is);
  numbered = λ p f is. numbered p f (nat_eq p o) refl (sym (slots p) ∙ is);
  small = λ p f is. fits p f (nat_eq p o) refl (sym (slots p) ∙ is);
  links = λ q. links q ∙ linked q (nat_eq q.ordinal o) refl ∙ sym (ap (λ o. is_linked o q) (slots q.ordinal));
}
  where
    named : (id : List ℕ) (p : ℕ) (b : Bool) → bytes_eq id e.id ≡ b → cond b None (n id) ≡ Some p → option_map (λ (e : Entry). e.id) (s' p) ≡ Some id
    named id p true t is = cc
    named id p false t is =
        let stood = sound.named id p is in
        ap (option_map (λ (e : Entry). e.id)) (slots p ∙ ap (λ b. cond b None (s p)) (by_position (nat_eq p o) refl stood)) ∙ stood
      where
        by_position : (b : Bool) → nat_eq p o ≡ b → option_map (λ (e : Entry). e.id) (s p) ≡ Some id → b ≡ false
        by_position true u stood =
            let ids : Some e.id ≡ Some id = sym (ap (option_map (λ (e : Entry). e.id)) (ap s (eqb-true p o u) ∙ at)) ∙ stood in
            let same : id ≡ e.id = cc in
            sym ((bytes_eq-Decides id e.id).1 same) ∙ t
        by_position false u stood = refl

    numbered : (p : ℕ) (f : Entry) (b : Bool) → nat_eq p o ≡ b → cond b None (s p) ≡ Some f → n' f.id ≡ Some p
    numbered p f true t is = cc
    numbered p f false t is =
        let had : n f.id ≡ Some p = sound.numbered p f is in
        numbers f.id ∙ ap (λ b. cond b None (n f.id)) (by_id (bytes_eq f.id e.id) refl had) ∙ had
      where
        by_id : (b : Bool) → bytes_eq f.id e.id ≡ b → n f.id ≡ Some p → b ≡ false
        by_id true u had =
            let positions : Some o ≡ Some p = sym (sound.numbered o e at) ∙ ap n (sym ((bytes_eq-Decides f.id e.id).0 u)) ∙ had in
            let same : p ≡ o = cc in
            sym (eq-eqb p o same) ∙ t
        by_id false u had = refl

    fits : (p : ℕ) (f : Entry) (b : Bool) → nat_eq p o ≡ b → cond b None (s p) ≡ Some f → p < 2 ^ 32
    fits p f true t is = cc
    fits p f false t is = sound.small p f is

    gone : (b c : Bool) → b ≡ c → (b && not c) ≡ false
    gone true c e = ap (λ d. true && not d) (sym e)
    gone false c e = refl

    linked : (q : Link) (b : Bool) → nat_eq q.ordinal o ≡ b → (l q && not (is_link_of e.tags o q)) ≡ is_linked (cond b None (s q.ordinal)) q
    linked q true t =
        let position : q.ordinal ≡ o = eqb-true q.ordinal o t in
        gone (l q) (is_link_of e.tags o q) (sound.links q ∙ ap (λ f. is_linked f q) (ap s position ∙ at) ∙ ap (λ k. is_link_of e.tags k q) position)
    linked q false t =
        let apart : is_link_of e.tags o q ≡ false = other_ordinal e.tags o q (λ position. true≢false (sym (eq-eqb q.ordinal o (sym position)) ∙ t)) in
        ap (λ c. l q && not c) apart ∙ and-true (l q) ∙ sound.links q

pub turned : (a b : List ℕ) → bytes_eq a b ≡ bytes_eq b a
turned a b = by_tests (bytes_eq a b) (bytes_eq b a) refl refl
  where
    by_tests : (x y : Bool) → bytes_eq a b ≡ x → bytes_eq b a ≡ y → x ≡ y
    by_tests true true p q = refl
    by_tests false false p q = refl
    by_tests true false p q = sym ((bytes_eq-Decides b a).1 (sym ((bytes_eq-Decides a b).0 p))) ∙ q
    by_tests false true p q = sym p ∙ (bytes_eq-Decides a b).1 (sym ((bytes_eq-Decides b a).0 q))
