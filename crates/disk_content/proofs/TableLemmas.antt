-- The entries of a hash map as a table of files.
use Rattle.std.proofs.Common.{◌≡◌, ◌+◌, ◌≤◌, ℕ, List, [], ◌∷◌, length, map as each, refl, sym, ap, subst, ◌∙◌, true, false, cond, ◌&&◌, ◌||◌, Bool, T, IsPermutation, IsSorted, is_some}
use Rattle.std.specs.Prelude.{Some, None, nat_eq}
use Rattle.std.specs.FinMap as map
use Rattle.std.specs.FinMap.{find, is_sorted, from_entries, get-from_entries, contains_key-keys, entries_sorted, get-insert, get-remove, same_map}
use Rattle.std.specs.FinMap.Entries.{below_all, same_entries, is_some-find}
use Rattle.std.specs.Map.{keys_of, lookup}
use Rattle.std.specs.HashMap.{HashMap, get_by, WritesThrough}
use Rattle.std.specs.Cmp.{eq_by_cmp_equiv}
use Rattle.std.specs.List.{AllByRecursion, IsDistinct, dedup_from, list_any}
use Rattle.std.specs.List.Sorted.{IsStrictlySortedBy}
use Rattle.std.specs.Ordering.{is_lt, is_eq, eq_by_cmp, nat_cmp}
use Rattle.std.specs.declared.cmp.Ordering.TheVariants.{Less}
use Rattle.std.proofs.lemmas.List.Kept.{IsStrictlySortedBy-dedup}
use Rattle.std.proofs.lemmas.List.Sorted.{list_any-IsPermutation}
use Rattle.std.proofs.lemmas.Map.Keys.{IsDistinct-IsPermutation}
use Rattle.m3_model.proofs.Orders.{is_eq-nat_cmp, is_eq-then}
use Rattle.m3_outside.specs.declared.file_name.FileName.{FileName}
use Rattle.m3_outside.specs.Files.{Files, IsInside, name_cmp, patched}
use Rattle.m3_outside.proofs.Names.{name_total, name_same, is_remove, get_apart}
use Rattle.disk_content.specs.Tables.{with_file, patched_file, with_bytes}

abbrev pub Entries : Type 0
Entries = List (FileName × List ℕ)

-- a table of entries in any order
abbrev pub table : Entries → Files
table es = from_entries es

-- `==` of names
abbrev pub name_eq : FileName → FileName → Bool
name_eq m n = nat_eq m.kind n.kind && (nat_eq m.ns n.ns && (nat_eq m.block n.block && nat_eq m.number n.number))

-- names tie just where they are equal
name_tie : (m n : FileName) → eq_by_cmp name_cmp m n ≡ name_eq m n
name_tie m n =
    is_eq-then (nat_cmp m.kind n.kind) _
    ∙ ap (λ b. is_eq (nat_cmp m.kind n.kind) && b) (is_eq-then (nat_cmp m.ns n.ns) _ ∙ ap (λ b. is_eq (nat_cmp m.ns n.ns) && b) (is_eq-then (nat_cmp m.block n.block) _))
    ∙ (λ i. is_eq-nat_cmp m.kind n.kind i && (is_eq-nat_cmp m.ns n.ns i && (is_eq-nat_cmp m.block n.block i && is_eq-nat_cmp m.number n.number i)))

name_flips : (m n : FileName) → name_eq m n ≡ name_eq n m
name_flips m n = sym (name_tie m n) ∙ (eq_by_cmp_equiv name_total).symm m n ∙ name_tie n m

find-lookup : (q : FileName) (es : Entries) → find name_cmp q es ≡ lookup (name_eq q) es
find-lookup q [] = refl
find-lookup q (e ∷ es) = ap (λ b. cond b (Some e.1) (find name_cmp q es)) (name_tie q e.0) ∙ ap (λ o. cond (name_eq q e.0) (Some e.1) o) (find-lookup q es)

-- what the table has at a name
pub get_of : (es : Entries) (q : FileName) → map.get (table es) q ≡ lookup (name_eq q) es
get_of es q = get-from_entries name_total es q ∙ find-lookup q es

pub inserted : (es ns : Entries) (k : FileName) (v : List ℕ) → ((q : FileName) → lookup (name_eq q) ns ≡ cond (name_eq k q) (Some v) (lookup (name_eq q) es)) → table ns ≡ map.insert (table es) k v
inserted es ns k v at =
    same_map name_total name_same _ _ (λ q. get_of ns q ∙ at q ∙ ap (λ o. cond (name_eq k q) (Some v) o) (sym (get_of es q))
    ∙ ap (λ b. cond b (Some v) (map.get (table es) q)) (name_flips k q ∙ sym (name_tie q k)) ∙ sym (get-insert name_total (table es) k v q))

pub removed : (es ns : Entries) (k : FileName) → ((q : FileName) → lookup (name_eq q) ns ≡ cond (name_eq k q) None (lookup (name_eq q) es)) → table ns ≡ map.remove (table es) k
removed es ns k at =
    same_map name_total name_same _ _ (λ q. get_of ns q ∙ at q ∙ ap (λ o. cond (name_eq k q) None o) (sym (get_of es q))
    ∙ ap (λ b. cond b None (map.get (table es) q)) (name_flips k q ∙ sym (name_tie q k)) ∙ sym (get-remove name_total (table es) k q))

-- what was written through a `&mut` to a file
pub record Wrote (es ns : Entries) (k : FileName) (v w : List ℕ) : Type 0 where
  pub found : map.get (table es) k ≡ Some v
  pub after : table ns ≡ map.insert (table es) k w

pub wrote : {S : Type 0} (m n : HashMap FileName (List ℕ) S) (k : FileName) (v w : List ℕ) → WritesThrough name_eq (name_eq k) m w n
    → Some v ≡ get_by (name_eq k) m → Wrote m.entries n.entries k v w
wrote m n k v w through is = record {
  found = get_of m.entries k ∙ sym is;
  after = inserted m.entries n.entries k w (through.3 (ap is_some (sym is))).0;
}

-- names that all differ lose none by `dedup`
dedup_none : (k : FileName) (ks : List FileName) → IsDistinct name_eq (k ∷ ks) → dedup_from name_eq k ks ≡ k ∷ ks
unfolding IsDistinct
dedup_none k [] h = refl
dedup_none k (x ∷ ks) h = ap (λ b. cond b (dedup_from name_eq k ks) (k ∷ dedup_from name_eq x ks)) (name_flips x k ∙ h.0.0) ∙ ap (λ (l : List FileName). k ∷ l) (dedup_none x ks h.1)

strictly : (ks : List FileName) → IsSorted name_cmp ks → IsDistinct name_eq ks → IsStrictlySortedBy name_cmp ks
unfolding IsStrictlySortedBy
strictly [] sorted apart = tt
strictly (k ∷ ks) sorted apart = subst (IsStrictlySortedBy name_cmp) (dedup_none k ks apart) (IsStrictlySortedBy-dedup name_total {E = name_eq} (λ x y. sym (name_tie x y)) (k ∷ ks) sorted)

-- names as the entries of a map that has them alone
abbrev named : List FileName → List (FileName × Bool)
named ks = each (λ k. (k, true)) ks

keys-named : (ks : List FileName) → each (λ e. e.0) (named ks) ≡ ks
keys-named [] = refl
keys-named (k ∷ ks) = ap (λ (l : List FileName). k ∷ l) (keys-named ks)

find-named : (q : FileName) (ks : List FileName) → find name_cmp q (named ks) ≡ cond (list_any (eq_by_cmp name_cmp q) ks) (Some true) None
find-named q [] = refl
find-named q (k ∷ ks) =
    elim (eq_by_cmp name_cmp q k) as (λ b. cond b (Some true) (find name_cmp q (named ks)) ≡ cond (b || list_any (eq_by_cmp name_cmp q) ks) (Some true) None) [
      | true ↦ refl
      | false ↦ find-named q ks
    ]

below-named : (x : FileName) (ks : List FileName) → AllByRecursion (λ y. name_cmp x y ≡ Less) ks → below_all name_cmp x (named ks) ≡ true
below-named x [] h = refl
below-named x (k ∷ ks) h = ap (λ o. is_lt o && below_all name_cmp x (named ks)) h.0 ∙ below-named x ks h.1

sorted-named : (ks : List FileName) → IsStrictlySortedBy name_cmp ks → is_sorted name_cmp (named ks) ≡ true
unfolding IsStrictlySortedBy
sorted-named [] h = refl
sorted-named (k ∷ ks) h = ap (λ b. b && is_sorted name_cmp (named ks)) (below-named k ks h.0) ∙ sorted-named ks h.1

below-keys : {X : Type 0} (x : FileName) (es : List (FileName × X)) → below_all name_cmp x (named (each (λ e. e.0) es)) ≡ below_all name_cmp x es
below-keys x [] = refl
below-keys x (e ∷ es) = ap (λ b. is_lt (name_cmp x e.0) && b) (below-keys x es)

sorted-keys : {X : Type 0} (es : List (FileName × X)) → is_sorted name_cmp (named (each (λ e. e.0) es)) ≡ is_sorted name_cmp es
sorted-keys [] = refl
sorted-keys (e ∷ es) = (λ i. below-keys e.0 es i && sorted-keys es i)

-- the names of a hash map, once they are sorted, are those of the table
pub sorted_names : (es : Entries) (ks : List FileName) → IsDistinct name_eq (keys_of es) → IsPermutation (keys_of es) ks → IsSorted name_cmp ks → ks ≡ map.keys (table es)
sorted_names es ks apart moved sorted =
    let strict : IsStrictlySortedBy name_cmp ks = strictly ks sorted (IsDistinct-IsPermutation name_eq name_flips (keys_of es) ks moved apart) in
    let ours : T (is_sorted name_cmp (named ks)) = subst T (sym (sorted-named ks strict)) tt in
    let theirs : T (is_sorted name_cmp (named (map.keys (table es)))) = subst T (sym (sorted-keys (map.entries (table es)))) (entries_sorted (table es)) in
    let any : (q : FileName) → list_any (eq_by_cmp name_cmp q) ks ≡ list_any (eq_by_cmp name_cmp q) (map.keys (table es)) =
    λ q. sym (list_any-IsPermutation (eq_by_cmp name_cmp q) (keys_of es) ks moved) ∙ sym (is_some-find name_cmp q es)
    ∙ ap is_some (sym (get-from_entries name_total es q)) ∙ contains_key-keys (table es) q in
    let same : named ks ≡ named (map.keys (table es)) =
    same_entries name_cmp name_total name_same (named ks) (named (map.keys (table es))) ours theirs
    (λ q. find-named q ks ∙ ap (λ b. cond b (Some true) None) (any q) ∙ sym (find-named q (map.keys (table es)))) in
    sym (keys-named ks) ∙ ap (λ (l : List (FileName × Bool)). each (λ e. e.0) l) same ∙ keys-named (map.keys (table es))

-- a file found by two ways
pub same_found : (files : Files) (k : FileName) (v w : List ℕ) → map.get files k ≡ Some v → map.get files k ≡ Some w → v ≡ w
same_found files k v w a b = let e : Some v ≡ Some w = sym a ∙ b in cc

pub inside_found : (files : Files) (k : FileName) (at n : ℕ) (v : List ℕ) → IsInside k at n files → map.get files k ≡ Some v → at + n ≤ length v
inside_found files k at n v inside found = subst (λ (l : List ℕ). at + n ≤ length l) (same_found files k inside.file v inside.there found) inside.within

pub not_missing : (files : Files) (k : FileName) (at n : ℕ) → IsInside k at n files → map.get files k ≡ None → ⊥
not_missing files k at n inside none = let e : Some inside.file ≡ None = sym inside.there ∙ none in cc

pub with_bytes_found : (files : Files) (k : FileName) (at : ℕ) (bytes v : List ℕ) → map.get files k ≡ Some v → map.insert files k (patched v at bytes) ≡ with_bytes k at bytes files
with_bytes_found files k at bytes v found = sym (ap (λ o. with_file k (patched_file at bytes o) files) found)

pub remove_insert : (files : Files) (k : FileName) (v : List ℕ) → map.get files k ≡ None → map.remove (map.insert files k v) k ≡ files
remove_insert files k v none = sym (is_remove (map.insert files k v) files k none (λ q apart. sym (get_apart files k v q apart)))
