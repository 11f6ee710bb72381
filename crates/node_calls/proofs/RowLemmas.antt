-- Fates with the numbers of nodes in place of their names.
use Rattle.std.proofs.Common.{◌≡◌, ◌≢◌, ◌<◌, ℕ, List, [], ◌∷◌, ◌++◌, length, take, get_or, refl, sym, ap, subst, ◌∙◌, inl, inr, arith, Bool, true, false, ◌&&◌}
use Rattle.std.specs.Prelude.{Some, None, nat_eq}
use Rattle.std.specs.Cmp.Lexicographic.{pointwise, same_text}
use Rattle.std.proofs.lemmas.List.Quantifiers.{position-Some}
use Rattle.m3_model.specs.Ascends.{Ascends}
use Rattle.m3_model.specs.Limits.{IsFateOfSameMessage, MeetsLimits}
use Rattle.m3_model.specs.Members.{IsIn}
use Rattle.m3_model.specs.declared.act.Act.TheVariants as act
use Rattle.m3_model.specs.declared.act.Fate.{Fate}
use Rattle.m3_model.specs.declared.placement.Instance.{Instance}
use Rattle.net_plan.specs.Fates.{Item, key_of, IsFatesRow}
use Rattle.net_plan.specs.declared.fate_key.FateKey.{FateKey}
use Rattle.cluster_members.specs.Names.{AreNumbered, first_missing, node_named}

-- a fate as a request gives it, with its node by name
abbrev pub Fated : Type 0
Fated = ℕ × ℕ × List ℕ × Fate

-- the same message and fate, with the number of the node
pub record IsNumbered (instances : List Instance) (fate : Fated) (item : Item) : Type 0 where
  pub client : item.0 ≡ fate.0
  pub call : item.1 ≡ fate.1
  pub node : node_named fate.2 instances ≡ Some item.2
  pub becomes : item.3 ≡ fate.3

-- one more has its number
pub numbered_push : (instances : List Instance) (done : List Fated) (items : List Item) (fate : Fated) (item : Item) → AreNumbered instances done items → IsNumbered instances fate item → AreNumbered instances (done ++ fate ∷ []) (items ++ item ∷ [])
numbered_push instances [] [] fate item h is = (is.client, is.call, is.node, is.becomes, tt)
numbered_push instances [] (i ∷ items) fate item h is = absurd h
numbered_push instances (f ∷ done) [] fate item h is = absurd h
numbered_push instances (f ∷ done) (i ∷ items) fate item h is = (h.0, h.1, h.2, h.3, numbered_push instances done items fate item h.4 is)

missing_here : (instances : List Instance) (fate : Fated) (list : List Fated) → node_named fate.2 instances ≡ None → first_missing instances (fate ∷ list) ≡ Some fate.2
missing_here instances fate list none = rw none

missing_later : (instances : List Instance) (fate : Fated) (list : List Fated) (node : ℕ) → node_named fate.2 instances ≡ Some node → first_missing instances (fate ∷ list) ≡ first_missing instances list
missing_later instances fate list node found = rw found

-- the first name without a number, behind those that have theirs
pub missing_at : (instances : List Instance) (done : List Fated) (items : List Item) (all : List Fated) (fate : Fated) → AreNumbered instances done items → done ≡ take (length done) all → length done < length all → fate ≡ get_or all (length done) fate
    → node_named fate.2 instances ≡ None → first_missing instances all ≡ Some fate.2
missing_at instances [] [] [] fate h so_far low at none = absurd (omega (arith, low))
missing_at instances [] [] (y ∷ all) fate h so_far low at none = subst (λ (z : Fated). first_missing instances (z ∷ all) ≡ Some fate.2) at (missing_here instances fate all none)
missing_at instances [] (i ∷ items) all fate h so_far low at none = absurd h
missing_at instances (f ∷ done) [] all fate h so_far low at none = absurd h
missing_at instances (f ∷ done) (i ∷ items) [] fate h so_far low at none = absurd (omega (arith, low))
missing_at instances (f ∷ done) (i ∷ items) (y ∷ all) fate h so_far low at none =
    let first : f ≡ y = cc in
    let rest : done ≡ take (length done) all = cc in
    missing_later instances y all i.2 (ap (λ (z : Fated). node_named z.2 instances) (sym first) ∙ h.2) ∙ missing_at instances done items all fate h.4 rest (omega (arith, low)) at none

-- ---- rows of fates

-- what an item was before it had a number
pub fate_of_item : (instances : List Instance) (list : List Fated) (items : List Item) (item : Item) → AreNumbered instances list items → IsIn items item → (fate : Fated) × IsIn list fate × IsNumbered instances fate item
fate_of_item instances [] [] item h i = absurd i
fate_of_item instances [] (x ∷ items) item h i = absurd h
fate_of_item instances (f ∷ list) [] item h i = absurd h
fate_of_item instances (f ∷ list) (x ∷ items) item h i =
    elim i as (λ _. (fate : Fated) × IsIn (f ∷ list) fate × IsNumbered instances fate item) [
      | inl e ↦ (f, inl refl, subst (IsNumbered instances f) e (record { client = h.0; call = h.1; node = h.2; becomes = h.3 }))
      | inr r ↦ let found = fate_of_item instances list items item h.4 r in (found.0, inr found.1, found.2)
    ]

and_second : (a b : Bool) → (a && b) ≡ true → b ≡ true
and_second true b e = e
and_second false b e = cc

-- the node of a number has the name
name_at : (name : List ℕ) (instances : List Instance) (node : ℕ) (d : Instance) → node_named name instances ≡ Some node → name ≡ (get_or instances node d).name
name_at name instances node d found =
    let test : Instance → Bool = λ x. x.listed && pointwise nat_eq name x.name in
    let stands = get_or instances node d in
    same_text name stands.name (sym (and_second stands.listed (pointwise nat_eq name stands.name) (position-Some test instances node d found).1))

-- nodes of one number have one name
same_name : (a b : List ℕ) (instances : List Instance) (node : ℕ) → node_named a instances ≡ Some node → node_named b instances ≡ Some node → a ≡ b
same_name a b instances node of_a of_b =
    let d : Instance = record { name = []; group = []; listed = false; drained = false } in
    name_at a instances node d of_a ∙ sym (name_at b instances node d of_b)

-- items of different messages by name are of different messages by number
distinct_numbers : (instances : List Instance) (list : List Fated) (items : List Item) → AreNumbered instances list items → Ascends (λ a b. ¬ IsFateOfSameMessage a b) list → Ascends (λ a b. key_of a ≢ key_of b) items
distinct_numbers instances [] [] h apart = tt
distinct_numbers instances [] (x ∷ items) h apart = absurd h
distinct_numbers instances (f ∷ list) [] h apart = absurd h
distinct_numbers instances (f ∷ list) (x ∷ items) h apart = (
  λ y i same.
      let g = fate_of_item instances list items y h.4 i in
      let by_client : x.0 ≡ y.0 = ap (λ (k : FateKey). k.client) same in
      let by_call : x.1 ≡ y.1 = ap (λ (k : FateKey). k.call) same in
      let by_node : x.2 ≡ y.2 = ap (λ (k : FateKey). k.node) same in
      apart.0 g.0 g.1 (sym h.0 ∙ by_client ∙ (g.2).client, sym h.1 ∙ by_call ∙ (g.2).call, same_name f.2 g.0.2 instances x.2 h.2 ((g.2).node ∙ ap Some (sym by_node))),
  distinct_numbers instances list items h.4 apart.1,
)

-- the fates of a request that keeps to the limits, with numbers in place of names
pub row_by_number : (instances : List Instance) (list : List Fated) (items : List Item) → AreNumbered instances list items → MeetsLimits (act.Fates list) → IsFatesRow items
row_by_number instances list items numbered limits = record {
  distinct = distinct_numbers instances list items numbered limits.2;
  none_delivered = λ item i delivered. let was = fate_of_item instances list items item numbered i in (limits.1 was.0 was.1).not_deliver (sym (was.2).becomes ∙ delivered);
}
