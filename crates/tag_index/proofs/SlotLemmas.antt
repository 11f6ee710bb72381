-- The slots of a slab as a finite map.
use Rattle.std.proofs.Common.{◌≡◌, ℕ, ◌<◌, ◌+◌, List, [], ◌∷◌, get_or, refl, sym, ap, ◌∙◌, Bool, true, false, cond, ◌&&◌, arith, zero, suc}
use Rattle.std.specs.Prelude.{Option, Some, None, nat_eq}
use Rattle.std.specs.FinMap as finite
use Rattle.std.specs.FinMap.{find, is_sorted, nat_cmp-IsAntisymmetric, same_map, get-from_sorted, get-insert, get-remove, entries-from_sorted}
use Rattle.std.specs.FinMap.Entries.{below_all}
use Rattle.std.specs.Cmp.{nat_cmp_total}
use Rattle.std.specs.Ordering.{nat_cmp, eq_by_cmp, is_lt}
use Rattle.std.proofs.lemmas.Bool.{eqb-true}
use Rattle.std.proofs.lemmas.Bool.Decides.{nat_tests}
use Rattle.m3_model.proofs.Keyed.{holds_of}
use Rattle.slab.specs.Slab.{Slab, Updates, entries, entries_from, get}
use Rattle.tag_index.specs.declared.entry.Entry.{Entry}
use Rattle.tag_index.specs.Sound.{listed}

below_from : (x n : ℕ) (slots : List (Option Entry)) → x < n → below_all nat_cmp x (entries_from n slots) ≡ true
below_from x n [] h = refl
below_from x n (None ∷ rest) h = below_from x (n + 1) rest (omega arith)
below_from x n (Some e ∷ rest) h =
    let less : is_lt (nat_cmp x n) ≡ true = grind (arith, nat_tests) in
    ap (λ b. b && below_all nat_cmp x (entries_from (n + 1) rest)) less ∙ below_from x (n + 1) rest (omega arith)

sorted_from : (n : ℕ) (slots : List (Option Entry)) → is_sorted nat_cmp (entries_from n slots) ≡ true
sorted_from n [] = refl
sorted_from n (None ∷ rest) = sorted_from (n + 1) rest
sorted_from n (Some e ∷ rest) = ap (λ b. b && is_sorted nat_cmp (entries_from (n + 1) rest)) (below_from n (n + 1) rest (omega arith)) ∙ sorted_from (n + 1) rest

none_below : (q n : ℕ) (slots : List (Option Entry)) → q < n → find nat_cmp q (entries_from n slots) ≡ None
none_below q n [] h = refl
none_below q n (None ∷ rest) h = none_below q (n + 1) rest (omega arith)
none_below q n (Some e ∷ rest) h =
    let apart : eq_by_cmp nat_cmp q n ≡ false = grind (arith, nat_tests) in
    ap (λ b. cond b (Some e) (find nat_cmp q (entries_from (n + 1) rest))) apart ∙ none_below q (n + 1) rest (omega arith)

find_from : (n k q : ℕ) (slots : List (Option Entry)) → q ≡ n + k → find nat_cmp q (entries_from n slots) ≡ get_or slots k None
find_from n k q [] is = refl
find_from n zero q (None ∷ rest) is = none_below q (n + 1) rest (omega arith)
find_from n (suc k) q (None ∷ rest) is = find_from (n + 1) k q rest (omega arith)
find_from n zero q (Some e ∷ rest) is =
    let same : eq_by_cmp nat_cmp q n ≡ true = grind (arith, nat_tests) in
    ap (λ b. cond b (Some e) (find nat_cmp q (entries_from (n + 1) rest))) same
find_from n (suc k) q (Some e ∷ rest) is =
    let apart : eq_by_cmp nat_cmp q n ≡ false = grind (arith, nat_tests) in
    ap (λ b. cond b (Some e) (find nat_cmp q (entries_from (n + 1) rest))) apart ∙ find_from (n + 1) k q rest (omega arith)

pub entries_sorted : (s : Slab Entry) → is_sorted nat_cmp (entries s) ≡ true
entries_sorted s = sorted_from 0 s.slots

-- the map has what the slots have
pub get-listed : (s : Slab Entry) (k : ℕ) → finite.get (listed s) k ≡ get s k
get-listed s k = get-from_sorted nat_cmp (entries s) k (holds_of _ (entries_sorted s)) ∙ find_from 0 k k s.slots (omega arith)

pub entries-listed : (s : Slab Entry) → finite.entries (listed s) ≡ entries s
entries-listed s = entries-from_sorted nat_cmp (entries s) (holds_of _ (entries_sorted s))

same_number : (q k : ℕ) → eq_by_cmp nat_cmp q k ≡ nat_eq q k
same_number q k = grind (arith, nat_tests)

-- a slot that took this content, by a test
pub updated_at : (old new : Slab Entry) (k : ℕ) (slot : Option Entry) → Updates old new k slot → (q : ℕ) → get new q ≡ cond (nat_eq q k) slot (get old q)
updated_at old new k slot updates q = by_test (nat_eq q k) refl
  where
    by_test : (b : Bool) → nat_eq q k ≡ b → get new q ≡ cond b slot (get old q)
    by_test true e = ap (get new) (eqb-true q k e) ∙ updates.changed
    by_test false e = updates.others q (λ same. grind (arith, nat_tests))

pub listed-insert : (old new : Slab Entry) (k : ℕ) (e : Entry) → Updates old new k (Some e) → listed new ≡ finite.insert (listed old) k e
listed-insert old new k e updates =
    same_map nat_cmp_total nat_cmp-IsAntisymmetric _ _
    (λ q. get-listed new q ∙ updated_at old new k (Some e) updates q ∙ ap (λ b. cond b (Some e) (get old q)) (sym (same_number q k))
    ∙ ap (λ o. cond (eq_by_cmp nat_cmp q k) (Some e) o) (sym (get-listed old q)) ∙ sym (get-insert nat_cmp_total (listed old) k e q))

pub listed-remove : (old new : Slab Entry) (k : ℕ) → Updates old new k None → listed new ≡ finite.remove (listed old) k
listed-remove old new k updates =
    same_map nat_cmp_total nat_cmp-IsAntisymmetric _ _
    (λ q. get-listed new q ∙ updated_at old new k None updates q ∙ ap (λ b. cond b None (get old q)) (sym (same_number q k))
    ∙ ap (λ o. cond (eq_by_cmp nat_cmp q k) None o) (sym (get-listed old q)) ∙ sym (get-remove nat_cmp_total (listed old) k q))
