-- The files that count, by their names.
use Rattle.std.proofs.Common.{◌≡◌, inl, inr, ℕ, List, [], ◌∷◌, ◌++◌, map, refl, sym, ap, ◌∙◌, Bool, true, ◌&&◌, Some, None, Option}
use Rattle.std.specs.Prelude.{filter}
use Rattle.std.specs.FinMap.{get, keys, entries}
use Rattle.std.specs.declared.cmp.Ordering.TheVariants.{Less}
use Rattle.std.proofs.lemmas.Bool.{and_parts}
pub use Rattle.std.proofs.lemmas.Bool.{and_parts as both}
use Rattle.commit_log.specs.m3_model.Members.{IsIn}
use Rattle.commit_log.specs.m3_model.Ascends.{Ascends}
use Rattle.commit_log.proofs.m3_model_proofs.FindLemmas.{get-IsIn, IsIn-get, entries_ascend}
use Rattle.commit_log.proofs.m3_model_proofs.MemberLemmas.{IsIn-map, map-IsIn, IsIn-push}
use Rattle.commit_log.proofs.m3_model_proofs.Lists.{IsIn-filter_passes}
pub use Rattle.commit_log.proofs.m3_model_proofs.Lists.{IsIn-filter, IsIn-filter_passes as chosen, filter-IsIn}
use Rattle.commit_log.proofs.m3_model_proofs.Ascending.{Ascends-filter}
pub use Rattle.commit_log.proofs.m3_model_proofs.Ascending.{Ascends-filter as filter_ascends}
use Rattle.commit_log.specs.m3_outside.declared.file_name.FileName.{FileName}
use Rattle.commit_log.specs.m3_outside.Files.{Files, IsPresent, name_cmp}
use Rattle.commit_log.proofs.m3_outside_proofs.Names.{name_total, name_same}
use Rattle.shard_files.specs.Parts.{is_open, counts, counted}

-- ---- names in their order

abbrev pub Before : FileName → FileName → Type 0
Before a b = name_cmp a b ≡ Less

pub not_itself : (a : FileName) → Before a a → ⊥
not_itself a one = let back = name_total.antisymm a a in cc

pub not_both : (a b : FileName) → Before a b → Before b a → ⊥
not_both a b one two = let back = name_total.antisymm a b in cc

-- two ascending lists of the same names are one
pub same_names : (ms ns : List FileName) → Ascends Before ms → Ascends Before ns → ((n : FileName) → IsIn ms n → IsIn ns n) → ((n : FileName) → IsIn ns n → IsIn ms n) → ms ≡ ns
same_names [] [] a b to back = refl
same_names [] (n ∷ ns) a b to back = absurd (back n (inl refl))
same_names (m ∷ ms) [] a b to back = absurd (to m (inl refl))
same_names (m ∷ ms) (n ∷ ns) a b to back =
    let first : m ≡ n = heads (to m (inl refl)) (back n (inl refl)) in
    let rest : ms ≡ ns = same_names ms ns a.1 b.1 (λ k h. later n ns k (λ e. not_itself k (ap (λ q. name_cmp q k) (sym (first ∙ e)) ∙ a.0 k h)) (to k (inr h)))
    (λ k h. later m ms k (λ e. not_itself k (ap (λ q. name_cmp q k) (sym (sym first ∙ e)) ∙ b.0 k h)) (back k (inr h))) in
    λ i. first i ∷ rest i
  where
    heads : IsIn (n ∷ ns) m → IsIn (m ∷ ms) n → m ≡ n
    heads (inl e) h = sym e
    heads (inr f) (inl e) = e
    heads (inr f) (inr g) = absurd (not_both m n (a.0 n g) (b.0 m f))

    later : (x : FileName) (xs : List FileName) (k : FileName) → (x ≡ k → ⊥) → IsIn (x ∷ xs) k → IsIn xs k
    later x xs k apart (inl e) = absurd (apart e)
    later x xs k apart (inr h) = h

names_ascend : (es : List (FileName × List ℕ)) → Ascends (λ (a b : FileName × List ℕ). name_cmp a.0 b.0 ≡ Less) es → Ascends Before (map (λ (f : FileName × List ℕ). f.0) es)
names_ascend [] up = tt
names_ascend (x ∷ es) up = ((λ n m. let e = IsIn-map (λ (f : FileName × List ℕ). f.0) es n m in ap (name_cmp x.0) (sym e.2) ∙ up.0 e.0 e.1), names_ascend es up.1)

pub keys_ascend : (x : Files) → Ascends Before (keys x)
keys_ascend x = names_ascend (entries x) (entries_ascend name_cmp name_total name_same x)

-- a name is listed where its file is there, and only there
pub key_there : (x : Files) (q : FileName) → IsIn (keys x) q → IsPresent q x
key_there x q m =
    let e = IsIn-map (λ (f : FileName × List ℕ). f.0) (entries x) q m in
    record { file = e.0.1; there = ap (get x) (sym e.2) ∙ IsIn-get name_cmp name_total name_same x e.0.0 e.0.1 e.1 }

pub there_key : (x : Files) (q : FileName) (file : List ℕ) → get x q ≡ Some file → IsIn (keys x) q
there_key x q file e = map-IsIn (λ (f : FileName × List ℕ). f.0) (entries x) (q, file) (get-IsIn name_cmp name_total name_same x q file e)

-- the last of an ascending list is not below any other
pub last_is_last : (xs : List FileName) (n m : FileName) → Ascends Before (xs ++ n ∷ []) → IsIn (xs ++ n ∷ []) m → Before n m → ⊥
last_is_last [] n m up (inl e) lt = not_itself m (ap (λ q. name_cmp q m) (sym e) ∙ lt)
last_is_last [] n m up (inr none) lt = absurd none
last_is_last (x ∷ xs) n m up (inl e) lt = not_both m n (ap (λ q. name_cmp q n) (sym e) ∙ up.0 n (IsIn-push xs n)) lt
last_is_last (x ∷ xs) n m up (inr rest) lt = last_is_last xs n m up.1 rest lt

-- ---- names that count

module _ (is_asked : FileName → Bool) where
  -- a name counts where it is asked for and its file's gate is open, and only there
  pub counted_asked : (x : Files) (n : FileName) → IsIn (counted is_asked x) n → is_asked n ≡ true
  counted_asked x n m =
      let e = IsIn-map (λ (f : FileName × List ℕ). f.0) (filter (counts is_asked) (entries x)) n m in
      let c = and_parts (is_asked e.0.0) (is_open (Some e.0.1)) (IsIn-filter_passes (counts is_asked) (entries x) e.0 e.1) in
      ap is_asked (sym e.2) ∙ c.0

  pub counted_open : (x : Files) (n : FileName) → IsIn (counted is_asked x) n → is_open (get x n) ≡ true
  counted_open x n m =
      let e = IsIn-map (λ (f : FileName × List ℕ). f.0) (filter (counts is_asked) (entries x)) n m in
      let c = and_parts (is_asked e.0.0) (is_open (Some e.0.1)) (IsIn-filter_passes (counts is_asked) (entries x) e.0 e.1) in
      let there : get x e.0.0 ≡ Some e.0.1 = IsIn-get name_cmp name_total name_same x e.0.0 e.0.1 (IsIn-filter (counts is_asked) (entries x) e.0 e.1) in
      ap is_open (ap (get x) (sym e.2) ∙ there) ∙ c.1

  pub is_counted : (x : Files) (n : FileName) → is_asked n ≡ true → is_open (get x n) ≡ true → IsIn (counted is_asked x) n
  is_counted x n asked open_ = by (get x n) refl
    where
      by : (o : Option (List ℕ)) → get x n ≡ o → IsIn (counted is_asked x) n
      by None e = absurd (let never : is_open None ≡ true = ap is_open (sym e) ∙ open_ in cc)
      by (Some file) e =
          let gate : is_open (Some file) ≡ true = ap is_open (sym e) ∙ open_ in
          let test : (is_asked n && is_open (Some file)) ≡ true = ap (λ b. b && is_open (Some file)) asked ∙ gate in
          map-IsIn (λ (f : FileName × List ℕ). f.0) (filter (counts is_asked) (entries x)) (n, file) (filter-IsIn (counts is_asked) (entries x) (n, file) (get-IsIn name_cmp name_total name_same x n file e) test)

  pub counted_ascend : (x : Files) → Ascends Before (counted is_asked x)
  counted_ascend x = names_ascend (filter (counts is_asked) (entries x)) (Ascends-filter (λ (a b : FileName × List ℕ). name_cmp a.0 b.0 ≡ Less) (counts is_asked) (entries x) (entries_ascend name_cmp name_total name_same x))

  -- which names count is a matter of the files asked for
  pub counted_same : (x y : Files) → ((q : FileName) → is_asked q ≡ true → get y q ≡ get x q) → counted is_asked y ≡ counted is_asked x
  counted_same x y same = same_names (counted is_asked y) (counted is_asked x) (counted_ascend y) (counted_ascend x)
      (λ n m. let a = counted_asked y n m in is_counted x n a (ap is_open (sym (same n a)) ∙ counted_open y n m))
      (λ n m. let a = counted_asked x n m in is_counted y n a (ap is_open (same n a) ∙ counted_open x n m))
