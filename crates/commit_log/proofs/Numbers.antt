-- The numbers of the segments of a disk's files: they ascend, and are those of the segments that are there.
use Rattle.std.proofs.Common.{◌≡◌, inl, inr, ℕ, ◌<◌, ◌≤◌, List, [], ◌∷◌, map, refl, sym, ap, ◌∙◌, Bool, true, false, cond, ◌&&◌, Some, None, Option, arith, max, subst}
use Rattle.std.specs.Prelude.{nat_lt, ◌==◌}
use Rattle.std.specs.List.{filter}
use Rattle.std.proofs.lemmas.Bool.{eqb-true, ltb-true, and_parts}
use Rattle.std.specs.FinMap.{get, keys, entries}
use Rattle.std.specs.Ordering.{nat_cmp}
use Rattle.std.specs.Cmp.{ranked}
use Rattle.std.specs.declared.cmp.Ordering.TheVariants.{Less}
use Rattle.log_chunks.specs.m3_model.Members.{IsIn}
use Rattle.log_chunks.specs.m3_model.Ascends.{Ascends}
use Rattle.log_chunks.proofs.m3_model_proofs.FindLemmas.{get-IsIn, IsIn-get, entries_ascend}
use Rattle.log_chunks.proofs.m3_model_proofs.MemberLemmas.{IsIn-map, map-IsIn}
use Rattle.log_chunks.specs.m3_outside.declared.file_name.FileName.{FileName}
use Rattle.log_chunks.specs.m3_outside.Files.{Files, IsAbsent, name_cmp}
use Rattle.log_chunks.proofs.m3_outside_proofs.Names.{name_total, name_same}
use Rattle.commit_log.specs.Segment.{segment}
use Rattle.commit_log.specs.LogEnd.{NoneFrom}
use Rattle.commit_log.specs.Contents.{is_segment, numbers_of, numbers, next_after}

-- a segment's name is that of its number
pub named : (name : FileName) → is_segment name ≡ true → name ≡ segment name.number
named name e =
    let first = and_parts (name.kind == 0) ((name.ns == 0) && (name.block == 0)) e in
    let second = and_parts (name.ns == 0) (name.block == 0) first.1 in
    let kind = eqb-true name.kind 0 first.0 in
    let ns = eqb-true name.ns 0 second.0 in
    let block = eqb-true name.block 0 second.1 in
    λ i. record { kind = kind i; ns = ns i; block = block i; number = name.number }

number_names : (names : List FileName) (n : ℕ) → IsIn (numbers_of names) n → IsIn names (segment n)
number_names [] n m = absurd m
number_names (name ∷ names) n m = by (is_segment name) refl (number_names names n) m
  where
    by : (b : Bool) → is_segment name ≡ b → (IsIn (numbers_of names) n → IsIn names (segment n)) → IsIn (map (λ (x : FileName). x.number) (cond b (name ∷ filter is_segment names) (filter is_segment names))) n → IsIn (name ∷ names) (segment n)
    by true e later (inl same) = inl (named name e ∙ ap segment same)
    by true e later (inr rest) = inr (later rest)
    by false e later rest = inr (later rest)

names_number : (names : List FileName) (n : ℕ) → IsIn names (segment n) → IsIn (numbers_of names) n
names_number [] n m = absurd m
names_number (name ∷ names) n m = by (is_segment name) refl (names_number names n) m
  where
    by : (b : Bool) → is_segment name ≡ b → (IsIn names (segment n) → IsIn (numbers_of names) n) → IsIn (name ∷ names) (segment n) → IsIn (map (λ (x : FileName). x.number) (cond b (name ∷ filter is_segment names) (filter is_segment names))) n
    by true e later (inl same) = inl (ap (λ (x : FileName). x.number) same)
    by true e later (inr rest) = inr (later rest)
    by false e later (inl same) = absurd (let never : true ≡ false = sym (ap is_segment same) ∙ e in cc)
    by false e later (inr rest) = later rest

-- a number among them is a segment's that is there, and of each that is there it is
pub in_there : (files : Files) (n : ℕ) → IsIn (numbers files) n → (file : List ℕ) × (get files (segment n) ≡ Some file)
in_there files n m =
    let name = number_names (keys files) n m in
    let e = IsIn-map (λ (x : FileName × List ℕ). x.0) (entries files) (segment n) name in
    (e.0.1, ap (get files) (sym e.2) ∙ IsIn-get name_cmp name_total name_same files e.0.0 e.0.1 e.1)

pub there_in : (files : Files) (n : ℕ) (file : List ℕ) → get files (segment n) ≡ Some file → IsIn (numbers files) n
there_in files n file e =
    names_number (keys files) n (map-IsIn (λ (x : FileName × List ℕ). x.0) (entries files) (segment n, file) (get-IsIn name_cmp name_total name_same files (segment n) file e))

pub absent_not_in : (files : Files) (n : ℕ) → IsAbsent (segment n) files → IsIn (numbers files) n → ⊥
absent_not_in files n gone m = let there = in_there files n m in cc

less_number : (a b : ℕ) → nat_cmp a b ≡ Less → a < b
less_number a b e = ranked a b Less (sym e)

numbers_ascend : (es : List (FileName × List ℕ)) → Ascends (λ (a b : FileName × List ℕ). name_cmp a.0 b.0 ≡ Less) es → Ascends (λ a b. a < b) (numbers_of (map (λ (x : FileName × List ℕ). x.0) es))
numbers_ascend [] h = tt
numbers_ascend (x ∷ es) h = by (is_segment x.0) refl (numbers_ascend es h.1)
  where
    by : (b : Bool) → is_segment x.0 ≡ b → Ascends (λ a b. a < b) (numbers_of (map (λ (y : FileName × List ℕ). y.0) es)) → Ascends (λ a b. a < b) (map (λ (y : FileName). y.number) (cond b (x.0 ∷ filter is_segment (map (λ (y : FileName × List ℕ). y.0) es)) (filter is_segment (map (λ (y : FileName × List ℕ). y.0) es))))
    by true e rest = (
      (λ n m.
          let found = IsIn-map (λ (y : FileName × List ℕ). y.0) es (segment n) (number_names (map (λ (y : FileName × List ℕ). y.0) es) n m) in
          let less : name_cmp (segment x.0.number) (segment n) ≡ Less = ap (λ (y : FileName). name_cmp y (segment n)) (sym (named x.0 e)) ∙ ap (λ (y : FileName). name_cmp x.0 y) (sym found.2) ∙ h.0 found.0 found.1 in
          less_number x.0.number n less),
      rest,
    )
    by false e rest = rest

-- the numbers of the segments ascend
pub ascend : (files : Files) → Ascends (λ a b. a < b) (numbers files)
ascend files = numbers_ascend (entries files) (entries_ascend name_cmp name_total name_same files)

below_next : (ns : List ℕ) (n : ℕ) → IsIn ns n → n < next_after ns
below_next [] n m = absurd m
below_next (k ∷ ns) n (inl same) = omega (arith, same)
below_next (k ∷ ns) n (inr rest) = let h = below_next ns n rest in omega (arith, h)

none_of : (o : Option (List ℕ)) → ((file : List ℕ) → o ≡ Some file → ⊥) → o ≡ None
none_of None never = refl
none_of (Some file) never = absurd (never file refl)

-- no segment has the next number or a higher one
pub none_from_after : (files : Files) (next : ℕ) → next ≡ next_after (numbers files) → NoneFrom next files
none_from_after files next is = λ n le. none_of (get files (segment n)) (λ file there. let h = below_next (numbers files) n (there_in files n file there) in omega (arith, is))

-- two lists of the same members are one, where both ascend and of no two elements each is before the other
pub ascending_is_one : {X : Type 0} (Before : X → X → Type 0) → ((x y : X) → Before x y → Before y x → ⊥) → (xs ys : List X) → Ascends Before xs → Ascends Before ys → ((x : X) → IsIn xs x → IsIn ys x) → ((x : X) → IsIn ys x → IsIn xs x) → xs ≡ ys
ascending_is_one Before apart [] [] a b to back = refl
ascending_is_one Before apart [] (y ∷ ys) a b to back = absurd (back y (inl refl))
ascending_is_one Before apart (x ∷ xs) [] a b to back = absurd (to x (inl refl))
ascending_is_one {X} Before apart (x ∷ xs) (y ∷ ys) a b to back =
    let first : x ≡ y = heads (to x (inl refl)) (back y (inl refl)) in
    let rest : xs ≡ ys =
    ascending_is_one Before apart xs ys a.1 b.1 (λ z m. later y ys z (λ e. itself z (subst (λ (w : X). Before w z) (first ∙ e) (a.0 z m))) (to z (inr m)))
    (λ z m. later x xs z (λ e. itself z (subst (λ (w : X). Before w z) (sym first ∙ e) (b.0 z m))) (back z (inr m))) in
    λ i. first i ∷ rest i
  where
    itself : (z : X) → Before z z → ⊥
    itself z h = apart z z h h

    heads : IsIn (y ∷ ys) x → IsIn (x ∷ xs) y → x ≡ y
    heads (inl e) h = sym e
    heads (inr f) (inl e) = e
    heads (inr f) (inr g) = absurd (apart x y (a.0 y g) (b.0 x f))

    later : (w : X) (ws : List X) (z : X) → (w ≡ z → ⊥) → IsIn (w ∷ ws) z → IsIn ws z
    later w ws z other (inl e) = absurd (other e)
    later w ws z other (inr m) = m

-- two ascending lists of numbers with the same members are one
pub same_members : (ms ns : List ℕ) → Ascends (λ a b. a < b) ms → Ascends (λ a b. a < b) ns → ((n : ℕ) → IsIn ms n → IsIn ns n) → ((n : ℕ) → IsIn ns n → IsIn ms n) → ms ≡ ns
same_members ms ns a b to back = ascending_is_one (λ a b. a < b) (λ x y h g. omega arith) ms ns a b to back

-- what an ascending list keeps of its members below a number
pub in_below : (ns : List ℕ) (number k : ℕ) → IsIn (filter (λ n. nat_lt n number) ns) k → IsIn ns k × (k < number)
in_below [] number k m = absurd m
in_below (n ∷ ns) number k m = by (nat_lt n number) refl (in_below ns number k) m
  where
    by : (b : Bool) → nat_lt n number ≡ b → (IsIn (filter (λ n. nat_lt n number) ns) k → IsIn ns k × (k < number)) → IsIn (cond b (n ∷ filter (λ n. nat_lt n number) ns) (filter (λ n. nat_lt n number) ns)) k → IsIn (n ∷ ns) k × (k < number)
    by true e later (inl same) = (inl same, let h = ltb-true n number e in omega (arith, h, same))
    by true e later (inr rest) = let h = later rest in (inr h.0, h.1)
    by false e later rest = let h = later rest in (inr h.0, h.1)

pub below_ascend : (ns : List ℕ) (number : ℕ) → Ascends (λ a b. a < b) ns → Ascends (λ a b. a < b) (filter (λ n. nat_lt n number) ns)
below_ascend [] number h = tt
below_ascend (n ∷ ns) number h = by (nat_lt n number) (below_ascend ns number h.1)
  where
    by : (b : Bool) → Ascends (λ a b. a < b) (filter (λ n. nat_lt n number) ns) → Ascends (λ a b. a < b) (cond b (n ∷ filter (λ n. nat_lt n number) ns) (filter (λ n. nat_lt n number) ns))
    by true rest = ((λ k m. h.0 k (in_below ns number k m).0), rest)
    by false rest = rest

pub next_least : (ns : List ℕ) → 1 ≤ next_after ns
next_least [] = omega arith
next_least (n ∷ ns) = let h = next_least ns in omega (arith, h)

pub next_at_least : (ns : List ℕ) → max 1 (next_after ns) ≡ next_after ns
next_at_least ns = let h = next_least ns in omega (arith, h)
