-- The blocks of which no write is taken any more, among all that have points.
use Rattle.std.proofs.Common.{◌≡◌, ℕ, ℤ, List, [], ◌∷◌, refl, sym, ap, subst, ◌∙◌, inl, inr, Bool, true, false, cond, arith}
use Rattle.std.specs.Prelude.{⊤, Option, Some, None, is_some, IsSome, option_map, map, filter}
use Rattle.std.specs.List.{filter_map, cons_option}
use Rattle.std.specs.FinMap as finite
use Rattle.std.specs.FinMap.{find, from_entries, entries, entries_sorted, is_sorted, get-entries, get-from_entries}
use Rattle.std.specs.FinMap.Entries.{below_all}
use Rattle.std.specs.Cmp.{tied_itself}
use Rattle.std.specs.Ordering.{is_eq, is_lt}
use Rattle.std.specs.declared.cmp.Ordering.{Ordering}
use Rattle.std.specs.declared.cmp.Ordering.TheVariants.{Less, Equal, Greater}
use Rattle.m3_model.specs.declared.point.Key.{Key}
use Rattle.m3_model.specs.declared.rules.Rules.{Rules}
use Rattle.m3_model.specs.Ascends.{Ascends}
use Rattle.m3_model.specs.Members.{IsIn}
use Rattle.m3_model.specs.Contents.{Contents, key_of, point_at}
use Rattle.m3_model.specs.Keys.{key_cmp, key_cmp_total}
use Rattle.m3_model.proofs.Keyed.{true_of}
use Rattle.m3_model.proofs.RangeLemmas.{both_true}
use Rattle.block_buffer.specs.Blocks.{block_of, block_cmp, has_closed, IsBefore, IsBlocksOf, IsClosedBlocksOf}
use Rattle.block_buffer.proofs.BlockLemmas.{block_cmp_total, same_block, before_of}
use Rattle.block_buffer.proofs.ContentLemmas.{tied_key}

abbrev Marks : Type 0
Marks = List ((ℕ × ℕ) × ⊤)

-- the block of an entry of a content
abbrev mark : Rules → Key × ℤ → Option ((ℕ × ℕ) × ⊤)
mark rules e = option_map (λ (q : ℕ × ℕ). (q, tt)) (block_of rules e.0)

abbrev starts_in : Marks → List (ℕ × ℕ)
starts_in es = map (λ (e : (ℕ × ℕ) × ⊤). e.0) es

less_of : (o : Ordering) → is_lt o ≡ true → o ≡ Less
less_of Less e = refl
less_of Equal e = cc
less_of Greater e = cc

-- ---- blocks in order

each_after : (q : ℕ × ℕ) (es : Marks) → below_all block_cmp q es ≡ true → (y : ℕ × ℕ) → IsIn (starts_in es) y → IsBefore q y
each_after q [] h y m = absurd m
each_after q (e ∷ es) h y m =
    let parts = both_true (is_lt (block_cmp q e.0)) (below_all block_cmp q es) h in
    elim m as (λ _. IsBefore q y) [
      | inl is ↦ subst (IsBefore q) is (before_of q e.0 (less_of (block_cmp q e.0) parts.0))
      | inr rest ↦ each_after q es parts.1 y rest
    ]

in_order : (es : Marks) → is_sorted block_cmp es ≡ true → Ascends IsBefore (starts_in es)
in_order [] h = tt
in_order (e ∷ es) h =
    let parts = both_true (below_all block_cmp e.0 es) (is_sorted block_cmp es) h in
    (each_after e.0 es parts.0, in_order es parts.1)

found_first : {K X : Type 0} (R : K → K → Ordering) (tied : (k : K) → R k k ≡ Equal) (e : K × X) (es : List (K × X)) → IsSome (find R e.0 (e ∷ es))
found_first R tied e es = ap is_some (ap (λ b. cond b (Some e.1) (find R e.0 es)) (ap is_eq (tied e.0)))

found_later : {K X : Type 0} (R : K → K → Ordering) (k : K) (e : K × X) (es : List (K × X)) → IsSome (find R k es) → IsSome (find R k (e ∷ es))
found_later R k e es some = by (is_eq (R k e.0))
  where
    by : (b : Bool) → IsSome (cond b (Some e.1) (find R k es))
    by true = refl
    by false = some

found_start : (q : ℕ × ℕ) (es : Marks) → IsIn (starts_in es) q → IsSome (find block_cmp q es)
found_start q [] m = absurd m
found_start q (e ∷ es) m = elim m as (λ _. IsSome (find block_cmp q (e ∷ es))) [
  | inl is ↦ subst (λ (s : ℕ × ℕ). IsSome (find block_cmp s (e ∷ es))) is (found_first block_cmp (tied_itself block_cmp_total) e es)
  | inr rest ↦ found_later block_cmp q e es (found_start q es rest)
]

start_found : (q : ℕ × ℕ) (es : Marks) → IsSome (find block_cmp q es) → IsIn (starts_in es) q
start_found q [] h = cc
start_found q (e ∷ es) h = by (is_eq (block_cmp q e.0)) refl (start_found q es) h
  where
    by : (b : Bool) → is_eq (block_cmp q e.0) ≡ b → (IsSome (find block_cmp q es) → IsIn (starts_in es) q) → IsSome (cond b (Some e.1) (find block_cmp q es)) → IsIn (starts_in (e ∷ es)) q
    by true t rest some = inl (sym (same_block q e.0 t))
    by false t rest some = inr (rest some)

-- ---- all blocks that have points

module _ (rules : Rules) where
  -- an entry of the list has the block
  abbrev HasEntryOf : ℕ × ℕ → List (Key × ℤ) → Type 0
  HasEntryOf q es = (k : Key) × IsSome (find key_cmp k es) × (block_of rules k ≡ Some q)

  -- a block that was marked is that of an entry
  entry_of : (q : ℕ × ℕ) (es : List (Key × ℤ)) → IsSome (find block_cmp q (filter_map (mark rules) es)) → HasEntryOf q es
  entry_of q [] h = cc
  entry_of q (e ∷ es) h = by (block_of rules e.0) refl (λ some. let found = entry_of q es some in (found.0, found_later key_cmp found.0 e es found.1, found.2)) h
    where
      by_tie : (s : ℕ × ℕ) (b : Bool) → block_of rules e.0 ≡ Some s → is_eq (block_cmp q s) ≡ b → (IsSome (find block_cmp q (filter_map (mark rules) es)) → HasEntryOf q (e ∷ es))
          → IsSome (cond b (Some tt) (find block_cmp q (filter_map (mark rules) es))) → HasEntryOf q (e ∷ es)
      by_tie s true is t later some = (e.0, found_first key_cmp (tied_itself key_cmp_total) e es, is ∙ ap Some (sym (same_block q s t)))
      by_tie s false is t later some = later some

      by : (o : Option (ℕ × ℕ)) → block_of rules e.0 ≡ o → (IsSome (find block_cmp q (filter_map (mark rules) es)) → HasEntryOf q (e ∷ es))
          → IsSome (find block_cmp q (cons_option (option_map (λ (s : ℕ × ℕ). (s, tt)) o) (filter_map (mark rules) es))) → HasEntryOf q (e ∷ es)
      by None is later some = later some
      by (Some s) is later some = by_tie s (is_eq (block_cmp q s)) is refl later some

  -- the block of an entry was marked
  marked : (q : ℕ × ℕ) (k : Key) (es : List (Key × ℤ)) → IsSome (find key_cmp k es) → block_of rules k ≡ Some q → IsSome (find block_cmp q (filter_map (mark rules) es))
  marked q k [] h is = cc
  marked q k (e ∷ es) h is = by (is_eq (key_cmp k e.0)) refl (λ some. marked q k es some is) h
    where
      more : (o : Option ((ℕ × ℕ) × ⊤)) → IsSome (find block_cmp q (filter_map (mark rules) es)) → IsSome (find block_cmp q (cons_option o (filter_map (mark rules) es)))
      more None some = some
      more (Some m) some = found_later block_cmp q m (filter_map (mark rules) es) some

      by : (b : Bool) → is_eq (key_cmp k e.0) ≡ b → (IsSome (find key_cmp k es) → IsSome (find block_cmp q (filter_map (mark rules) es))) → IsSome (cond b (Some e.1) (find key_cmp k es))
          → IsSome (find block_cmp q (filter_map (mark rules) (e ∷ es)))
      by true t later some =
          let here : mark rules e ≡ Some (q, tt) = ap (option_map (λ (s : ℕ × ℕ). (s, tt))) (ap (block_of rules) (sym (tied_key k e.0 t)) ∙ is) in
          subst (λ o. IsSome (find block_cmp q (cons_option o (filter_map (mark rules) es)))) (sym here) (found_first block_cmp (tied_itself block_cmp_total) (q, tt) (filter_map (mark rules) es))
      by false t later some = more (mark rules e) (later some)

  module _ (c : Contents) where
    abbrev marks : finite.FinMap block_cmp ⊤
    marks = from_entries {R = block_cmp} (filter_map (mark rules) (entries c))

    abbrev pub all_blocks : List (ℕ × ℕ)
    all_blocks = starts_in (entries marks)

    found_mark : (q : ℕ × ℕ) → find block_cmp q (entries marks) ≡ find block_cmp q (filter_map (mark rules) (entries c))
    found_mark q = sym (get-entries marks q) ∙ get-from_entries block_cmp_total (filter_map (mark rules) (entries c)) q

    some_value : (o : Option ℤ) → IsSome o → (v : ℤ) × (o ≡ Some v)
    some_value None h = cc
    some_value (Some v) h = (v, refl)

    pub all_are : IsBlocksOf rules c all_blocks
    all_are = record {
      ascend = in_order (entries marks) (true_of _ (entries_sorted marks));
      held = λ q m.
          let entry = entry_of q (entries c) (subst IsSome (found_mark q) (found_start q (entries marks) m)) in
          let value = some_value (finite.get c entry.0) (subst IsSome (sym (get-entries c entry.0)) entry.1) in
          (point_at entry.0 value.0, value.1, entry.2);
      whole = λ q p stands is.
          start_found q (entries marks) (subst IsSome (sym (found_mark q)) (marked q (key_of p) (entries c) (subst IsSome (get-entries c (key_of p)) (ap is_some stands)) is));
    }

-- ---- lists in one order with the same elements

not_before : (q : ℕ × ℕ) → IsBefore q q → ⊥
not_before q h = elim h as (λ _. ⊥) [ inl less ↦ omega (arith, less) | inr same ↦ let less = same.1 in omega (arith, less) ]

not_both : (a b : ℕ × ℕ) → IsBefore a b → IsBefore b a → ⊥
not_both a b (inl x) (inl y) = omega (arith, x, y)
not_both a b (inl x) (inr y) = let e = y.0 in omega (arith, x, e)
not_both a b (inr x) (inl y) = let e = x.0 in omega (arith, y, e)
not_both a b (inr x) (inr y) =
    let g = x.1 in
    let h = y.1 in
    omega (arith, g, h)

same_lists : (xs ys : List (ℕ × ℕ)) → Ascends IsBefore xs → Ascends IsBefore ys → ((q : ℕ × ℕ) → IsIn xs q → IsIn ys q) → ((q : ℕ × ℕ) → IsIn ys q → IsIn xs q) → xs ≡ ys
same_lists [] [] a b to from = refl
same_lists [] (y ∷ ys) a b to from = absurd (from y (inl refl))
same_lists (x ∷ xs) [] a b to from = absurd (to x (inl refl))
same_lists (x ∷ xs) (y ∷ ys) a b to from = ap (λ (q : ℕ × ℕ). q ∷ xs) heads ∙ ap (λ (l : List (ℕ × ℕ)). y ∷ l) (same_lists xs ys a.1 b.1 tail_to tail_from)
  where
    heads : x ≡ y
    heads = elim (to x (inl refl)) as (λ _. x ≡ y) [
      | inl is ↦ sym is
      | inr after ↦ elim (from y (inl refl)) as (λ _. x ≡ y) [ inl is ↦ is | inr before ↦ absurd (not_both x y (a.0 y before) (b.0 x after)) ]
    ]

    tail_to : (q : ℕ × ℕ) → IsIn xs q → IsIn ys q
    tail_to q m = elim (to q (inr m)) as (λ _. IsIn ys q) [ inl is ↦ absurd (not_before x (subst (IsBefore x) (sym is ∙ sym heads) (a.0 q m))) | inr rest ↦ rest ]

    tail_from : (q : ℕ × ℕ) → IsIn ys q → IsIn xs q
    tail_from q m = elim (from q (inr m)) as (λ _. IsIn xs q) [ inl is ↦ absurd (not_before y (subst (IsBefore y) (sym is ∙ heads) (b.0 q m))) | inr rest ↦ rest ]

module _ (f : ℕ × ℕ → Bool) where
  filter_in : (xs : List (ℕ × ℕ)) (q : ℕ × ℕ) → IsIn (filter f xs) q → IsIn xs q × (f q ≡ true)
  filter_in [] q m = absurd m
  filter_in (x ∷ xs) q m = by (f x) refl (filter_in xs q) m
    where
      by : (b : Bool) → f x ≡ b → (IsIn (filter f xs) q → IsIn xs q × (f q ≡ true)) → IsIn (cond b (x ∷ filter f xs) (filter f xs)) q → IsIn (x ∷ xs) q × (f q ≡ true)
      by true t later (inl is) = (inl is, ap f (sym is) ∙ t)
      by true t later (inr rest) = let found = later rest in (inr found.0, found.1)
      by false t later rest = let found = later rest in (inr found.0, found.1)

  in_filter : (xs : List (ℕ × ℕ)) (q : ℕ × ℕ) → IsIn xs q → f q ≡ true → IsIn (filter f xs) q
  in_filter [] q m t = absurd m
  in_filter (x ∷ xs) q (inl is) t = subst (λ b. IsIn (cond b (x ∷ filter f xs) (filter f xs)) q) (sym (ap f is ∙ t)) (inl is)
  in_filter (x ∷ xs) q (inr rest) t = by (f x) (in_filter xs q rest t)
    where
      by : (b : Bool) → IsIn (filter f xs) q → IsIn (cond b (x ∷ filter f xs) (filter f xs)) q
      by true there = inr there
      by false there = there

  filter_ascends : (xs : List (ℕ × ℕ)) → Ascends IsBefore xs → Ascends IsBefore (filter f xs)
  filter_ascends [] h = tt
  filter_ascends (x ∷ xs) h = by (f x) (filter_ascends xs h.1)
    where
      by : (b : Bool) → Ascends IsBefore (filter f xs) → Ascends IsBefore (cond b (x ∷ filter f xs) (filter f xs))
      by true rest = ((λ q m. h.0 q (filter_in xs q m).0), rest)
      by false rest = rest

-- the blocks of which no write is taken any more are those of all that pass the test
pub closed_are : (rules : Rules) (c : Contents) (blocks : List (ℕ × ℕ)) → IsClosedBlocksOf rules c blocks → blocks ≡ filter (has_closed rules) (all_blocks rules c)
closed_are rules c blocks h =
    let all = all_are rules c in
    same_lists blocks (filter (has_closed rules) (all_blocks rules c)) h.ascend (filter_ascends (has_closed rules) (all_blocks rules c) all.ascend)
    (λ q m. let held = h.held q m in in_filter (has_closed rules) (all_blocks rules c) q (all.whole q held.0 held.1 held.2) held.3)
    (λ q m.
    let found = filter_in (has_closed rules) (all_blocks rules c) q m in
    let held = all.held q found.0 in
    h.whole q held.0 held.1 held.2 found.1)
