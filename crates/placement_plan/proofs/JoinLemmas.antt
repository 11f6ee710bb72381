-- Nodes that come.
use Rattle.std.proofs.Common.{◌≡◌, ◌≢◌, ℕ, zero, suc, List, [], ◌∷◌, ◌++◌, length, slice_get, slice_set, Some, true, false, nat_eq, ◌&&◌, refl, sym, ap, subst, inl, inr, ◌∙◌, IsTrue, arith, length-append}
use Rattle.std.specs.Cmp.Lexicographic.{pointwise}
use Rattle.std.specs.List.{list_any}
use Rattle.std.proofs.lemmas.Bool.{cases_eq}
use Rattle.std.proofs.lemmas.List.{length-set}
use Rattle.std.proofs.lemmas.Option.{slice_get_within}
use Rattle.placement_core.specs.m3_model.Names.{is_name}
use Rattle.placement_core.proofs.m3_model_proofs.MemberLemmas.{IsIn-append_cases}
use Rattle.placement_core.proofs.m3_model_proofs.Ascending.{Ascends-push}
use Rattle.placement_core.specs.m3_model.declared.placement.Instance.{Instance}
use Rattle.placement_core.specs.Steps.{KeepsNames}
use Rattle.placement_core.proofs.ListLemmas.{same_at}
use Rattle.placement_core.proofs.OrderLemmas.{at_in}
use Rattle.placement_plan.specs.Nodes.{IsNodeNamed, IsNewName, Joins, fresh_node}
use Rattle.placement_plan.specs.Plans.{HasRoom}
use Rattle.placement_plan.proofs.PlaceLemmas.{in_at}
use Rattle.placement_plan.proofs.NodeLemmas.{unlisted_at}
use Rattle.placement_plan.proofs.PlanLemmas.{AreNodes, distinct_same, set_cases}

pub set_here : {X : Type 0} (xs : List X) (n : ℕ) (x y : X) → slice_get xs n ≡ Some x → slice_get (slice_set xs n y) n ≡ Some y
set_here [] n x y e = cc
set_here (z ∷ zs) zero x y e = refl
set_here (z ∷ zs) (suc n) x y e = set_here zs n x y e

pub set_there : {X : Type 0} (xs : List X) (n : ℕ) (y : X) (k : ℕ) → k ≢ n → slice_get (slice_set xs n y) k ≡ slice_get xs k
set_there [] n y k ne = refl
set_there (z ∷ zs) zero y zero ne = absurd (ne refl)
set_there (z ∷ zs) zero y (suc k) ne = refl
set_there (z ∷ zs) (suc n) y zero ne = refl
set_there (z ∷ zs) (suc n) y (suc k) ne = set_there zs n y k (λ e. ne (ap suc e))

pub push_here : {X : Type 0} (xs : List X) (y : X) → slice_get (xs ++ y ∷ []) (length xs) ≡ Some y
push_here [] y = refl
push_here (z ∷ zs) y = push_here zs y

pub push_there : {X : Type 0} (xs : List X) (y : X) (k : ℕ) (x : X) → slice_get xs k ≡ Some x → slice_get (xs ++ y ∷ []) k ≡ Some x
push_there [] y k x e = cc
push_there (z ∷ zs) y zero x e = e
push_there (z ∷ zs) y (suc k) x e = push_there zs y k x e

-- what is so of the nodes with one that has come: they are nodes, the one that came has its number, and those that were listed stay as they were
pub record HaveJoined (old : List Instance) (name group : List ℕ) (next : List Instance) (node : ℕ) : Type 0 where
  pub nodes : AreNodes next
  pub names : KeepsNames old next
  pub at : slice_get next node ≡ Some (fresh_node name group)
  pub other : (n : ℕ) (i : Instance) → slice_get old n ≡ Some i → i.listed ≡ true → n ≢ node
  pub kept : (n : ℕ) (i : Instance) → slice_get old n ≡ Some i → i.listed ≡ true → slice_get next n ≡ Some i

module _ (old : List Instance) (name group : List ℕ) (node : ℕ) (nodes : AreNodes old) (is_named : IsTrue (is_name name)) (is_grouped : IsTrue (is_name group)) (none : list_any (λ i. i.listed && pointwise nat_eq name i.name) old ≡ false) where
  known_joined : IsNodeNamed old name node → HaveJoined old name group (slice_set old node (fresh_node name group)) node
  known_joined h =
      let other : (n : ℕ) (i : Instance) → slice_get old n ≡ Some i → i.listed ≡ true → n ≢ node = λ n i at listed e.
      unlisted_at old name n i none at (ap (λ (z : Instance). z.name) (same_at old n i h.instance at (ap (slice_get old) e ∙ h.stands)) ∙ h.named) listed in
      record {
        nodes = record {
          few = omega (arith, length-set old node (fresh_node name group), nodes.few);
          named = λ i m. let p = in_at (slice_set old node (fresh_node name group)) i m in
              elim (set_cases old node (fresh_node name group) p.0 i p.2) as (λ _. IsTrue (is_name i.name) × IsTrue (is_name i.group)) [
                | inl c ↦ subst (λ (z : Instance). IsTrue (is_name z.name) × IsTrue (is_name z.group)) (sym c.1) (is_named, is_grouped)
                | inr c ↦ nodes.named i (at_in old p.0 i c.1)
              ];
          distinct = distinct_same old (slice_set old node (fresh_node name group)) (length-set old node (fresh_node name group)) (λ n a b ea eb.
              elim (set_cases old node (fresh_node name group) n b eb) as (λ _. b.name ≡ a.name) [
                | inl c ↦ ap (λ (z : Instance). z.name) c.1 ∙ sym h.named ∙ ap (λ (z : Instance). z.name) (same_at old n h.instance a (ap (slice_get old) c.0 ∙ h.stands) ea)
                | inr c ↦ ap (λ (z : Instance). z.name) (same_at old n b a c.1 ea)
              ]) nodes.distinct;
        };
        names = λ n was at. elim (cases_eq n node) as (λ _. (is : Instance) × (slice_get (slice_set old node (fresh_node name group)) n ≡ Some is) × (is.name ≡ was.name)) [
          | inl e ↦ (
            fresh_node name group,
            ap (slice_get (slice_set old node (fresh_node name group))) e ∙ set_here old node h.instance (fresh_node name group) h.stands,
            sym h.named ∙ ap (λ (z : Instance). z.name) (same_at old n h.instance was (ap (slice_get old) e ∙ h.stands) at),
          )
          | inr ne ↦ (was, set_there old node (fresh_node name group) n ne ∙ at, refl)
        ];
        at = set_here old node h.instance (fresh_node name group) h.stands;
        other = other;
        kept = λ n i at listed. set_there old node (fresh_node name group) n (other n i at listed) ∙ at;
      }

  new_joined : IsNewName old name → HasRoom old name → HaveJoined old name group (old ++ fresh_node name group ∷ []) (length old)
  new_joined new room = record {
    nodes = record {
      few = omega (arith, length-append old (fresh_node name group ∷ []), room new);
      named = λ i m. elim (IsIn-append_cases old (fresh_node name group ∷ []) i m) as (λ _. IsTrue (is_name i.name) × IsTrue (is_name i.group)) [
        | inl h ↦ nodes.named i h
        | inr h ↦ elim h as (λ _. IsTrue (is_name i.name) × IsTrue (is_name i.group)) [ inl e ↦ subst (λ (z : Instance). IsTrue (is_name z.name) × IsTrue (is_name z.group)) e (is_named, is_grouped) | inr none ↦ absurd none ]
      ];
      distinct = Ascends-push (λ (a b : Instance). a.name ≢ b.name) old (fresh_node name group) nodes.distinct new;
    };
    names = λ n was at. (was, push_there old (fresh_node name group) n was at, refl);
    at = push_here old (fresh_node name group);
    other = λ n i at listed e. absurd (omega (arith, slice_get_within old n i at, e));
    kept = λ n i at listed. push_there old (fresh_node name group) n i at;
  }

  pub have_joined : (next : List Instance) → HasRoom old name → Joins old name group next node → HaveJoined old name group next node
  have_joined next room joins = elim joins as (λ _. HaveJoined old name group next node) [
    | inl h ↦ subst (λ xs. HaveJoined old name group xs node) (sym h.1) (known_joined h.0)
    | inr h ↦ subst (λ xs. HaveJoined old name group xs node) (sym h.2) (subst (HaveJoined old name group (old ++ fresh_node name group ∷ [])) (sym h.1) (new_joined h.0 room))
  ]
