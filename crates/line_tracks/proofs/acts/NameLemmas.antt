-- Nodes by their names: which are listed, which is the first that isn't, and the fates of messages to them by number.
use Rattle.std.proofs.Common.{◌≡◌, ◌≢◌, ◌+◌, ℕ, List, [], ◌∷◌, map, refl, sym, ap, ap₂, subst, ◌∙◌, Bool, true, false, cond, ◌&&◌, ◌||◌, unwrap_or}
use Rattle.std.specs.Prelude.{Option, Some, None, is_some, nat_eq, slice_get}
use Rattle.std.specs.Cmp.Lexicographic.{pointwise}
use Rattle.std.specs.List.{list_any, position, position_from}
use Rattle.std.specs.Map.{lookup}
use Rattle.std.specs.Option.{option_or}
use Rattle.std.proofs.lemmas.Bool.{eqb-true, eq-eqb}
use Rattle.std.proofs.lemmas.Iterator.Adapters.{position_from-zero}
use Rattle.std.proofs.lemmas.Slice.Eq.{bytes_eq-Decides}
use Rattle.m3_model.specs.Ascends.{Ascends}
use Rattle.m3_model.specs.declared.act.Fate.{Fate}
use Rattle.m3_model.specs.declared.act.Fate.TheVariants.{Deliver}
use Rattle.m3_model.specs.declared.placement.Instance.{Instance}
use Rattle.m3_model.specs.declared.placement.Placement.{Placement}
use Rattle.net_plan.specs.Fates.{Item, key_of, entry_of}
use Rattle.net_plan.specs.declared.fate_key.FateKey.{FateKey}
use Rattle.net_plan.proofs.KeyLemmas.{own_key, keys_apart}
use Rattle.net_plan.proofs.RowLemmas.{same}
use Rattle.placement_core.specs.NodeNames.{is_listed}
use Rattle.placement_core.proofs.ListLemmas.{same_at}
use Rattle.transcripts.specs.Fates.{fate_in, is_fate_of}
use Rattle.transcripts.specs.Refusals.{missing_in}
use Rattle.node_calls.specs.cluster_members.Names.{AreNumbered, first_missing, node_named}
use Rattle.node_calls.proofs.cluster_members_proofs.NameLemmas.{NamedNode, node_found, same_node}

-- ---- listed nodes

any_from : {X : Type 0} (test : X → Bool) (xs : List X) (i : ℕ) → list_any test xs ≡ is_some (position_from test i xs)
any_from test [] i = refl
any_from test (x ∷ xs) i = by_test (test x) (any_from test xs (i + 1))
  where
    by_test : (here : Bool) → list_any test xs ≡ is_some (position_from test (i + 1) xs) → (here || list_any test xs) ≡ is_some (cond here (Some i) (position_from test (i + 1) xs))
    by_test true later = refl
    by_test false later = later

-- an element passes the test where there is a first one
any_position : {X : Type 0} (test : X → Bool) (xs : List X) → list_any test xs ≡ is_some (position test xs)
any_position test xs = any_from test xs 0 ∙ ap is_some (sym (position_from-zero test xs))

-- a node is listed under the name where it has a number
listed_is : (place : Placement) (name : List ℕ) → is_listed name place ≡ is_some (node_named name place.instances)
listed_is place name = any_position (λ (node : Instance). node.listed && pointwise nat_eq name node.name) place.instances

pub listed_where : (place : Placement) (name : List ℕ) (node : ℕ) → node_named name place.instances ≡ Some node → is_listed name place ≡ true
listed_where place name node found = listed_is place name ∙ ap is_some found

pub unlisted_where : (place : Placement) (name : List ℕ) → node_named name place.instances ≡ None → is_listed name place ≡ false
unlisted_where place name none = listed_is place name ∙ ap is_some none

-- ---- the first name that is missing

pub missing_same : (place : Placement) (list : List (ℕ × ℕ × List ℕ × Fate)) → first_missing place.instances list ≡ missing_in (Some place) list
missing_same place [] = refl
missing_same place (fate ∷ list) = by_node (node_named fate.2 place.instances) refl (missing_same place list)
  where
    by_node : (o : Option ℕ) → node_named fate.2 place.instances ≡ o → first_missing place.instances list ≡ missing_in (Some place) list → first_missing place.instances (fate ∷ list) ≡ missing_in (Some place) (fate ∷ list)
    by_node None away later = rw away (sym (ap (λ b. option_or (cond b None (Some fate.2)) (missing_in (Some place) list)) (unlisted_where place fate.2 away)))
    by_node (Some node) found later = rw found (later ∙ sym (ap (λ b. option_or (cond b None (Some fate.2)) (missing_in (Some place) list)) (listed_where place fate.2 node found)))

-- none is missing where each name has its number
pub none_missing : (instances : List Instance) (list : List (ℕ × ℕ × List ℕ × Fate)) (items : List Item) → AreNumbered instances list items → first_missing instances list ≡ None
none_missing instances [] [] h = refl
none_missing instances (fate ∷ list) (item ∷ items) h = let found : node_named fate.2 instances ≡ Some item.2 = h.2 in rw found (none_missing instances list items h.4)
none_missing instances [] (item ∷ items) h = absurd h
none_missing instances (fate ∷ list) [] h = absurd h

-- ---- fates by number

pub fate_test : (client call : ℕ) (name : List ℕ) (f : ℕ × ℕ × List ℕ × Fate) → is_fate_of client call name f ≡ true → (f.0 ≡ client) × (f.1 ≡ call) × (f.2 ≡ name)
fate_test client call name f e = by_parts (nat_eq f.0 client) (nat_eq f.1 call) (pointwise nat_eq f.2 name) refl refl refl e
  where
    by_parts : (a b n : Bool) → nat_eq f.0 client ≡ a → nat_eq f.1 call ≡ b → pointwise nat_eq f.2 name ≡ n → ((a && b) && n) ≡ true → (f.0 ≡ client) × (f.1 ≡ call) × (f.2 ≡ name)
    by_parts true true true ea eb en t = (eqb-true f.0 client ea, eqb-true f.1 call eb, (bytes_eq-Decides f.2 name).0 en)
    by_parts true true false ea eb en t = cc
    by_parts true false n ea eb en t = cc
    by_parts false b n ea eb en t = cc

is_of : (client call : ℕ) (name : List ℕ) (f : ℕ × ℕ × List ℕ × Fate) → f.0 ≡ client → f.1 ≡ call → f.2 ≡ name → is_fate_of client call name f ≡ true
is_of client call name f a b n = ap₂ (λ (x y : Bool). (x && y) && pointwise nat_eq f.2 name) (eq-eqb f.0 client a) (eq-eqb f.1 call b) ∙ (bytes_eq-Decides f.2 name).1 n

-- a list with numbers in place of names finds the same fates
pub numbered_fate : (instances : List Instance) (list : List (ℕ × ℕ × List ℕ × Fate)) (items : List Item) → Ascends (λ x y. x.name ≢ y.name) instances → AreNumbered instances list items → (client call node : ℕ) (one : Instance) → slice_get instances node ≡ Some one
    → unwrap_or (lookup (same (record { client = client; call = call; node = node })) (map entry_of items)) Deliver ≡ fate_in list client call one.name
numbered_fate instances [] [] distinct h client call node one there = refl
numbered_fate instances (f ∷ list) (item ∷ items) distinct h client call node one there = by_test (is_fate_of client call one.name f) refl (numbered_fate instances list items distinct h.4 client call node one there)
  where
    key : FateKey
    key = record { client = client; call = call; node = node }

    rest : Fate
    rest = unwrap_or (lookup (same key) (map entry_of items)) Deliver

    found : NamedNode f.2 instances item.2
    found = node_found f.2 instances item.2 h.2

    looked : (t : Bool) → same key (key_of item) ≡ t → unwrap_or (lookup (same key) (map entry_of (item ∷ items))) Deliver ≡ cond t item.3 rest
    looked true e = ap (λ t. unwrap_or (cond t (Some item.3) (lookup (same key) (map entry_of items))) Deliver) e
    looked false e = ap (λ t. unwrap_or (cond t (Some item.3) (lookup (same key) (map entry_of items))) Deliver) e

    its_own : (f.0 ≡ client) × (f.1 ≡ call) × (f.2 ≡ one.name) → key ≡ key_of item
    its_own is =
        let number : node ≡ item.2 = same_node instances node item.2 one found.instance_ distinct there found.stands (sym is.2 ∙ sym found.name_is) in
        let of_client : client ≡ item.0 = sym is.0 ∙ sym h.0 in
        let of_call : call ≡ item.1 = sym is.1 ∙ sym h.1 in
        λ k. record { client = of_client k; call = of_call k; node = number k }

    not_its_own : is_fate_of client call one.name f ≡ false → key ≢ key_of item
    not_its_own other e =
        let number : node ≡ item.2 = ap (λ (x : FateKey). x.node) e in
        let named : one.name ≡ f.2 = ap (λ (x : Instance). x.name) (same_at instances item.2 one found.instance_ (subst (λ n. slice_get instances n ≡ Some one) number there) found.stands) ∙ found.name_is in
        let bad = is_of client call one.name f (sym h.0 ∙ sym (ap (λ (x : FateKey). x.client) e)) (sym h.1 ∙ sym (ap (λ (x : FateKey). x.call) e)) (sym named) in
        let clash : true ≡ false = sym bad ∙ other in
        cc

    by_test : (t : Bool) → is_fate_of client call one.name f ≡ t → rest ≡ fate_in list client call one.name → unwrap_or (lookup (same key) (map entry_of (item ∷ items))) Deliver ≡ fate_in (f ∷ list) client call one.name
    by_test true e later = looked true (ap (same key) (sym (its_own (fate_test client call one.name f e))) ∙ own_key key) ∙ h.3 ∙ sym (ap (λ t. cond t f.3 (fate_in list client call one.name)) e)
    by_test false e later = looked false (keys_apart key (key_of item) (not_its_own e)) ∙ later ∙ sym (ap (λ t. cond t f.3 (fate_in list client call one.name)) e)
numbered_fate instances [] (item ∷ items) distinct h client call node one there = absurd h
numbered_fate instances (f ∷ list) [] distinct h client call node one there = absurd h
