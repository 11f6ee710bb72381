-- Rows of fates: their order doesn't matter, and a search finds what their map has.
use Rattle.std.proofs.Common.{◌≡◌, ◌≢◌, ℕ, ◌<◌, ◌+◌, List, [], ◌∷◌, map, length, get_or, Bool, false, cond, Option, Some, None, unwrap_or, ◌↔◌, suc, zero, refl, sym, ap, subst, ◌∙◌, inl, inr, arith, IsPermutation, IsSortedByKey, Contains, slice_get, HoldsAt}
use Rattle.std.specs.FinMap as finite
use Rattle.std.specs.FinMap.{find, same_map, get-from_entries}
use Rattle.std.specs.List.{IsDistinct, AllByRecursion}
use Rattle.std.specs.List.Sorted.{IsStrictlySortedBy, IsPartitionPoint, IsNonDecreasingBy}
use Rattle.std.specs.Map.{lookup, keys_of}
use Rattle.std.specs.Ordering.{eq_by_cmp, is_lt, is_eq, ordering_reverse, ordering_index}
use Rattle.std.specs.declared.cmp.Ordering.{Ordering}
use Rattle.std.specs.declared.cmp.Ordering.TheVariants.{Less, Equal, Greater}
use Rattle.std.proofs.lemmas.Cmp.{eq_by_cmp_equiv}
use Rattle.std.proofs.lemmas.List.{get_or-map, length-map}
use Rattle.std.proofs.lemmas.List.Sorted.{IsPermutation-map, IsPermutation-sym, Contains-permutation, All-permutation, searchable_from_sorted}
use Rattle.std.proofs.lemmas.Map.Keys.{IsDistinct-cons, IsDistinct-IsPermutation, sorted_from_all_adjacent, apart_from_distinct}
use Rattle.std.proofs.lemmas.Map.Entries.{lookup_at_gap}
use Rattle.std.proofs.lemmas.Map.Views.{Contains-from_lookup, lookup-from_Contains}
use Rattle.m3_model.specs.Ascends.{Ascends}
use Rattle.m3_model.proofs.MemberLemmas.{IsIn-map, map-IsIn}
use Rattle.m3_model.proofs.Lists.{All-from_each}
use Rattle.m3_model.specs.Members.{IsIn}
use Rattle.m3_model.specs.declared.act.Fate.{Fate}
use Rattle.m3_model.specs.declared.act.Fate.TheVariants.{Deliver}
use Rattle.net_plan.specs.FateKeys.{fate_key_cmp}
use Rattle.net_plan.specs.Fates.{Item, key_of, entry_of, FateMap, fates_of, fate_of, IsFatesRow, IsSortedRow}
use Rattle.net_plan.specs.Laws.{FindsListed, DeliversOthers, ListsFound}
use Rattle.net_plan.specs.declared.fate_key.FateKey.{FateKey}
use Rattle.net_plan.proofs.KeyLemmas.{fate_key_cmp_total, fate_key_cmp-IsAntisymmetric, same_key, keys_apart}
use Rattle.net_plan.proofs.ListLemmas.{IsIn-from_Contains, Contains-from_IsIn}

abbrev pub same : FateKey → FateKey → Bool
same = eq_by_cmp fate_key_cmp

pub keys-entries : (list : List Item) → keys_of (map entry_of list) ≡ map key_of list
keys-entries [] = refl
keys-entries (x ∷ xs) = ap (λ (ks : List FateKey). key_of x ∷ ks) (keys-entries xs)

apart_later : (x : Item) (xs : List Item) → ((y : Item) → IsIn xs y → key_of x ≢ key_of y) → AllByRecursion (λ k. same (key_of x) k ≡ false) (map key_of xs)
apart_later x [] h = tt
apart_later x (y ∷ ys) h = (keys_apart (key_of x) (key_of y) (h y (inl refl)), apart_later x ys (λ z m. h z (inr m)))

-- messages that differ have keys that differ
pub distinct_keys : (list : List Item) → Ascends (λ a b. key_of a ≢ key_of b) list → IsDistinct same (map key_of list)
unfolding IsDistinct
distinct_keys [] h = tt
distinct_keys (x ∷ xs) h = IsDistinct-cons same (key_of x) (map key_of xs) (apart_later x xs h.0) (distinct_keys xs h.1)

pub distinct_moved : (xs ys : List Item) → IsPermutation xs ys → IsDistinct same (map key_of xs) → IsDistinct same (map key_of ys)
distinct_moved xs ys moved h = IsDistinct-IsPermutation same (eq_by_cmp_equiv fate_key_cmp_total).symm (map key_of xs) (map key_of ys) (IsPermutation-map key_of xs ys moved) h

find-lookup : (q : FateKey) (es : List (FateKey × Fate)) → find fate_key_cmp q es ≡ lookup (same q) es
find-lookup q [] = refl
find-lookup q (e ∷ es) = ap (cond (same q e.0) (Some e.1)) (find-lookup q es)

-- what the map of a row has at a message is what a scan of the row finds
pub get-fates : (list : List Item) (q : FateKey) → finite.get (fates_of list) q ≡ lookup (same q) (map entry_of list)
get-fates list q = get-from_entries fate_key_cmp_total (map entry_of list) q ∙ find-lookup q (map entry_of list)

pub get-from_member : (list : List Item) (q : FateKey) (fate : Fate) → IsDistinct same (map key_of list) → Contains (map entry_of list) (q, fate) → finite.get (fates_of list) q ≡ Some fate
get-from_member list q fate apart h =
    get-fates list q ∙ lookup-from_Contains (eq_by_cmp_equiv fate_key_cmp_total) q fate (map entry_of list) (subst (IsDistinct same) (sym (keys-entries list)) apart) h

pub member-from_get : (list : List Item) (q : FateKey) (fate : Fate) → finite.get (fates_of list) q ≡ Some fate → Contains (map entry_of list) (q, fate)
member-from_get list q fate e = Contains-from_lookup same_key q fate (map entry_of list) (sym (get-fates list q) ∙ e)

same_get : (xs ys : List Item) → IsPermutation xs ys → IsDistinct same (map key_of xs) → IsDistinct same (map key_of ys) → (q : FateKey)
    → (o p : Option Fate) → finite.get (fates_of xs) q ≡ o → finite.get (fates_of ys) q ≡ p → p ≡ o
same_get xs ys moved dx dy q (Some v) p e f =
    sym f ∙ get-from_member ys q v dy (Contains-permutation (map entry_of xs) (map entry_of ys) (q, v) (IsPermutation-map entry_of xs ys moved) (member-from_get xs q v e))
same_get xs ys moved dx dy q None None e f = refl
same_get xs ys moved dx dy q None (Some w) e f =
    let back = IsPermutation-sym (map entry_of xs) (map entry_of ys) (IsPermutation-map entry_of xs ys moved) in
    sym (get-from_member xs q w dx (Contains-permutation (map entry_of ys) (map entry_of xs) (q, w) back (member-from_get ys q w f))) ∙ e

-- rows that differ in their order alone have one map
pub fates_of-moved : (xs ys : List Item) → IsPermutation xs ys → IsDistinct same (map key_of xs) → fates_of ys ≡ fates_of xs
fates_of-moved xs ys moved apart =
    same_map fate_key_cmp_total fate_key_cmp-IsAntisymmetric (fates_of ys) (fates_of xs)
    (λ q. same_get xs ys moved apart (distinct_moved xs ys moved apart) q (finite.get (fates_of xs) q) (finite.get (fates_of ys) q) refl refl)

less_of : (o : Ordering) → is_eq o ≡ false → is_lt (ordering_reverse o) ≡ false → o ≡ Less
less_of Less e f = refl
less_of Equal e f = cc
less_of Greater e f = cc

no_key : FateKey
no_key = record { client = 0; call = 0; node = 0 }

no_item : Item
no_item = (0, 0, 0, Deliver)

rises : (a b x y : FateKey) → x ≡ a → y ≡ b → is_lt (fate_key_cmp b a) ≡ false → same x y ≡ false → fate_key_cmp x y ≡ Less
rises a b x y p q up apart =
    less_of (fate_key_cmp x y) apart (ap is_lt (sym (fate_key_cmp_total.antisymm y x)) ∙ ap (λ (k : FateKey). is_lt (fate_key_cmp k x)) q ∙ ap (λ (k : FateKey). is_lt (fate_key_cmp b k)) p ∙ up)

-- keys that don't fall and differ rise
pub strictly_sorted : (list : List Item) → IsSortedByKey key_of fate_key_cmp list → IsDistinct same (map key_of list) → IsStrictlySortedBy fate_key_cmp (map key_of list)
strictly_sorted list up apart =
    sorted_from_all_adjacent fate_key_cmp_total (map key_of list) no_key (λ k lt.
    let last : k + 1 < length list = simp length-map at lt in
    rises (key_of (get_or list k no_item)) (key_of (get_or list (k + 1) no_item)) _ _ (get_or-map key_of list k no_item no_key (omega arith)) (get_or-map key_of list (k + 1) no_item no_key last)
    (up k no_item (omega arith) last) (apart_from_distinct same (map key_of list) k (k + 1) no_key apart (omega arith) lt))

-- a search that hits finds what the map has
pub get-at_position : (list items : List Item) (q : FateKey) (i : ℕ) (item : Item) → items ≡ list → IsDistinct same (map key_of list) → i < length items → item ≡ get_or list i item
    → HoldsAt (λ (y : Item). fate_key_cmp (key_of y) q ≡ Equal) items i → finite.get (fates_of list) q ≡ Some item.3
get-at_position list items q i item are apart lt is tied =
    let inside : i < length list = subst (λ (xs : List Item). i < length xs) are lt in
    let key : key_of item ≡ q = ap key_of is ∙ fate_key_cmp-IsAntisymmetric _ q (subst (λ (xs : List Item). fate_key_cmp (key_of (get_or xs i item)) q ≡ Equal) are (tied item)) in
    get-from_member list q item.3 apart
    (i, simp length-map inside, get_or-map entry_of list i item (q, item.3) inside ∙ ap entry_of (sym is) ∙ (λ j. (key j, item.3)))

entry_at : (list : List Item) (j : ℕ) (e : FateKey × Fate) (d : Item) → slice_get (map entry_of list) j ≡ Some e → (j < length list) × (entry_of (get_or list j d) ≡ e)
entry_at [] j e d h = cc
entry_at (x ∷ xs) zero e d h = (omega arith, cc)
entry_at (x ∷ xs) (suc j) e d h = let later = entry_at xs j e d h in (omega (arith, later.0), later.1)

above : (x : Item) (q : FateKey) (e : FateKey × Fate) → entry_of x ≡ e → (o : Ordering) → fate_key_cmp (key_of x) q ≡ o → fate_key_cmp q e.0 ≡ ordering_reverse o
above x q e is o h = fate_key_cmp_total.antisymm q e.0 ∙ ap ordering_reverse (ap (λ (p : FateKey × Fate). fate_key_cmp p.0 q) (sym is) ∙ h)

-- a search that misses finds that the map has nothing
pub get-at_gap : (list items : List Item) (q : FateKey) (i : ℕ) → items ≡ list → IsSortedByKey key_of fate_key_cmp list → IsDistinct same (map key_of list)
    → (IsNonDecreasingBy (λ y. ordering_index (fate_key_cmp (key_of y) q)) items → IsPartitionPoint (λ y. fate_key_cmp (key_of y) q ≡ Less) (λ y. fate_key_cmp (key_of y) q ≡ Greater) items i)
    → finite.get (fates_of list) q ≡ None
get-at_gap list items q i are up apart point =
    let sorted = subst (λ (xs : List Item). IsSortedByKey key_of fate_key_cmp xs) (sym are) up in
    let parts = point (searchable_from_sorted fate_key_cmp_total key_of items q sorted) in
    get-fates list q
    ∙ lookup_at_gap fate_key_cmp_total q (map entry_of list) i (subst (IsStrictlySortedBy fate_key_cmp) (sym (keys-entries list)) (strictly_sorted list up apart))
    (λ j e lt h. above _ q e (entry_at list j e no_item h).1 Less (subst (λ (xs : List Item). fate_key_cmp (key_of (get_or xs j no_item)) q ≡ Less) are (parts.0 j no_item (omega arith) lt)))
    (λ e h. above _ q e (entry_at list i e no_item h).1 Greater
    (subst (λ (xs : List Item). fate_key_cmp (key_of (get_or xs i no_item)) q ≡ Greater) are
    (parts.1 i no_item (omega arith) (subst (λ (xs : List Item). i < length xs) (sym are) (entry_at list i e no_item h).0))))

pub empty_is_sorted : IsSortedRow []
unfolding IsDistinct
empty_is_sorted = record { sorted = λ k d low high. absurd (omega arith); distinct = tt; none_delivered = λ k d h. absurd (omega arith) }

pub sorted_row : (xs ys : List Item) → IsFatesRow xs → IsPermutation xs ys → IsSortedByKey key_of fate_key_cmp ys → IsSortedRow ys
sorted_row xs ys row moved up = record {
  sorted = up;
  distinct = distinct_moved xs ys moved (distinct_keys xs row.distinct);
  none_delivered = All-permutation (λ (item : Item). item.3 ≢ Deliver) xs ys moved (All-from_each (λ (item : Item). item.3 ≢ Deliver) xs row.none_delivered);
}

pub finds_listed : FindsListed
finds_listed list row item h =
    ap (λ (o : Option Fate). unwrap_or o Deliver)
    (get-from_member list (key_of item) item.3 (distinct_keys list row.distinct) (Contains-from_IsIn (map entry_of list) (entry_of item) (map-IsIn entry_of list item h)))

listed_by : (list : List Item) (key : FateKey) (o : Option Fate) → finite.get (fates_of list) key ≡ o → unwrap_or o Deliver ≢ Deliver
    → IsIn list (key.client, key.call, key.node, unwrap_or o Deliver)
listed_by list key None e other = absurd (other refl)
listed_by list key (Some fate) e other =
    let found = IsIn-map entry_of list (key, fate) (IsIn-from_Contains (map entry_of list) (key, fate) (member-from_get list key fate e)) in
    subst (IsIn list) (λ i. ((found.2 i).0.client, (found.2 i).0.call, (found.2 i).0.node, (found.2 i).1)) found.1

pub lists_found : ListsFound
lists_found list key other = listed_by list key (finite.get (fates_of list) key) refl other

unlisted_by : (list : List Item) (key : FateKey) → ((item : Item) → IsIn list item → key_of item ≢ key) → (o : Option Fate) → finite.get (fates_of list) key ≡ o → unwrap_or o Deliver ≡ Deliver
unlisted_by list key none None e = refl
unlisted_by list key none (Some fate) e =
    let found = IsIn-map entry_of list (key, fate) (IsIn-from_Contains (map entry_of list) (key, fate) (member-from_get list key fate e)) in
    absurd (none found.0 found.1 (λ i. (found.2 i).0))

pub delivers_others : DeliversOthers
delivers_others list key none = unlisted_by list key none (finite.get (fates_of list) key) refl

-- what a call answers where a fate is listed, and where none is
abbrev pub Told : FateMap → FateKey → Fate → Type 0
Told fates key fate = (fate ≡ fate_of fates key) × ((fate ≡ Deliver) ↔ (finite.get fates key ≡ None))

pub told_listed : (fates : FateMap) (key : FateKey) (fate : Fate) → fate ≢ Deliver → finite.get fates key ≡ Some fate → Told fates key fate
told_listed fates key fate other e =
    (sym (ap (λ (o : Option Fate). unwrap_or o Deliver) e), ((λ is. absurd (other is)), (λ none. let clash : None ≡ Some fate = sym none ∙ e in cc)))

pub told_none : (fates : FateMap) (key : FateKey) → finite.get fates key ≡ None → Told fates key Deliver
told_none fates key e = (sym (ap (λ (o : Option Fate). unwrap_or o Deliver) e), ((λ _. e), (λ _. refl)))
