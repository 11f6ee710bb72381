-- Lists in the order of names.
use Rattle.std.proofs.Common.{◌≡◌, ◌≢◌, ◌<◌, ℕ, zero, suc, List, [], ◌∷◌, length, get_or, map, filter, slice_get, Some, Option, Bool, true, false, refl, sym, ap, subst, inl, inr, ◌∙◌, arith, IsPermutation, IsSortedByKey, swap, ◌⊎◌, Result, Ok, Err, IfOk}
use Rattle.std.specs.Option.{option_map_or}
use Rattle.std.specs.Cmp.Lexicographic.{slice_cmp}
use Rattle.std.specs.Ordering.{nat_cmp, is_lt, ordering_reverse}
use Rattle.std.specs.FinMap.{nat_cmp-IsAntisymmetric, slice_cmp-IsAntisymmetric}
use Rattle.std.specs.declared.cmp.Ordering.{Ordering}
use Rattle.std.specs.declared.cmp.Ordering.TheVariants.{Less, Equal, Greater}
use Rattle.std.proofs.lemmas.Bool.{cases_eq, cases_lt}
use Rattle.std.proofs.lemmas.Cmp.{nat_list_cmp_total}
use Rattle.std.proofs.lemmas.List.Edits.{swapped_from_swap, length-swap}
use Rattle.std.proofs.lemmas.List.Sorted.{IsPermutation-keeps, sorted_far, ranks_by}
use Rattle.m3_model.specs.Ascends.{Ascends}
use Rattle.m3_model.specs.Members.{IsIn}
use Rattle.m3_model.proofs.MemberLemmas.{IsIn-map}
use Rattle.m3_model.proofs.Lists.{IsIn-get_or}
use Rattle.m3_model.proofs.Ascending.{Ascends-filter}
pub use Rattle.m3_model.proofs.Ascending.{Ascends-filter as ascends-filter}
use Rattle.placement_core.specs.NodeNames.{IsNamedBelow, name_of}
use Rattle.m3_model.specs.Tags.{IsBelow}
use Rattle.m3_model.specs.declared.placement.Assignment.{Assignment}
use Rattle.m3_model.specs.declared.placement.Instance.{Instance}
use Rattle.m3_model.specs.declared.placement.Placement.{Placement}
use Rattle.placement_core.specs.Shards.{Shard, shard_at, nodes_of}
use Rattle.placement_core.specs.Lawful.{IsLawful}
use Rattle.placement_core.proofs.ListLemmas.{index-from_IsIn}

-- ---- lists in strict order

pub ascends-at : {X : Type 0} (R : X → X → Type 0) (xs : List X) (i j : ℕ) (d : X) → Ascends R xs → i < j → j < length xs → R (get_or xs i d) (get_or xs j d)
ascends-at R [] i j d h lt within = absurd (omega arith)
ascends-at R (x ∷ xs) zero zero d h lt within = absurd (omega arith)
ascends-at R (x ∷ xs) zero (suc j) d h lt within = h.0 (get_or xs j d) (IsIn-get_or xs j d (omega arith))
ascends-at R (x ∷ xs) (suc i) zero d h lt within = absurd (omega arith)
ascends-at R (x ∷ xs) (suc i) (suc j) d h lt within = ascends-at R xs i j d h.1 (omega arith) (omega arith)

pub ascends-from_at : {X : Type 0} (R : X → X → Type 0) (xs : List X) → ((i j : ℕ) (d : X) → i < j → j < length xs → R (get_or xs i d) (get_or xs j d)) → Ascends R xs
ascends-from_at R [] h = tt
ascends-from_at R (x ∷ xs) h = (
  λ y m. let i = index-from_IsIn xs y m in subst (R x) (i.2 x) (h 0 (suc i.0) x (omega arith) (omega (arith, i.1))),
  ascends-from_at R xs (λ i j d lt within. h (suc i) (suc j) d (omega (arith, lt)) (omega (arith, within))),
)

-- R holds of each two
abbrev pub Apart : {X : Type 0} → (X → X → Type 0) → List X → Type 0
Apart {X} R xs = (i j : ℕ) (d : X) → i < length xs → j < length xs → i ≢ j → R (get_or xs i d) (get_or xs j d)

pub apart_of : {X : Type 0} (R : X → X → Type 0) (flip : (x y : X) → R x y → R y x) (xs : List X) → Ascends R xs → Apart R xs
apart_of R flip xs h i j d below within ne =
    elim (cases_lt i j) as (λ _. R (get_or xs i d) (get_or xs j d)) [
      | inl lt ↦ ascends-at R xs i j d h lt within
      | inr ge ↦ flip (get_or xs j d) (get_or xs i d) (ascends-at R xs j i d h (omega (arith, ge, ne)) below)
    ]

-- the position from which an exchange takes an element
abbrev Way : ℕ → ℕ → ℕ → ℕ → Type 0
Way a b m n = ((m ≡ a) × (n ≡ b)) ⊎ ((m ≢ a) × (((m ≡ b) × (n ≡ a)) ⊎ ((m ≢ b) × (n ≡ m))))

ways_differ : (a b i j p q : ℕ) → Way a b i p → Way a b j q → i ≢ j → p ≢ q
ways_differ a b i j p q v w ne =
    elim v as (λ _. p ≢ q) [
      | inl f ↦ elim w as (λ _. p ≢ q) [
        | inl g ↦ λ e. absurd (omega (arith, f.0, g.0, ne))
        | inr g ↦ elim g.1 as (λ _. p ≢ q) [ inl h ↦ λ e. absurd (omega (arith, f.0, f.1, g.0, h.0, h.1, e, ne)) | inr h ↦ λ e. absurd (omega (arith, f.0, f.1, g.0, h.0, h.1, e)) ]
      ]
      | inr f ↦ elim f.1 as (λ _. p ≢ q) [
        | inl k ↦ elim w as (λ _. p ≢ q) [
          | inl g ↦ λ e. absurd (omega (arith, f.0, k.0, k.1, g.0, g.1, e, ne))
          | inr g ↦ elim g.1 as (λ _. p ≢ q) [ inl h ↦ λ e. absurd (omega (arith, k.0, h.0, ne)) | inr h ↦ λ e. absurd (omega (arith, k.1, h.1, g.0, e)) ]
        ]
        | inr k ↦ elim w as (λ _. p ≢ q) [
          | inl g ↦ λ e. absurd (omega (arith, k.0, k.1, g.1, e))
          | inr g ↦ elim g.1 as (λ _. p ≢ q) [ inl h ↦ λ e. absurd (omega (arith, f.0, k.1, h.1, e)) | inr h ↦ λ e. absurd (omega (arith, k.1, h.1, e, ne)) ]
        ]
      ]
    ]

pub came : {X : Type 0} (xs : List X) (a b m : ℕ) (d : X) → a < length xs → b < length xs → m < length xs → (n : ℕ) × (n < length xs) × Way a b m n × (get_or (swap xs a b) m d ≡ get_or xs n d)
came xs a b m d la lb lm =
    let s = swapped_from_swap xs (swap xs a b) a b d la lb refl in
    elim (cases_eq m a) as (λ _. (n : ℕ) × (n < length xs) × Way a b m n × (get_or (swap xs a b) m d ≡ get_or xs n d)) [
      | inl e ↦ (b, lb, inl (e, refl), ap (λ k. get_or (swap xs a b) k d) e ∙ s.0)
      | inr na ↦ elim (cases_eq m b) as (λ _. (n : ℕ) × (n < length xs) × Way a b m n × (get_or (swap xs a b) m d ≡ get_or xs n d)) [
        | inl e ↦ (a, la, inr (na, inl (e, refl)), ap (λ k. get_or (swap xs a b) k d) e ∙ s.1)
        | inr nb ↦ (m, lm, inr (na, inr (nb, refl)), s.2 m na nb)
      ]
    ]

-- exchanges keep each two apart
apart_swap : {X : Type 0} (R : X → X → Type 0) (xs : List X) (a b : ℕ) → a < length xs → b < length xs → Apart R xs → Apart R (swap xs a b)
apart_swap R xs a b la lb h i j d li lj ne =
    let p = came xs a b i d la lb (omega (arith, li, length-swap xs a b)) in
    let q = came xs a b j d la lb (omega (arith, lj, length-swap xs a b)) in
    subst (λ x. R x (get_or (swap xs a b) j d)) (sym p.3) (subst (R (get_or xs p.0 d)) (sym q.3) (h p.0 q.0 d p.1 q.1 (ways_differ a b i j p.0 q.0 p.2 q.2 ne)))

pub apart_permutation : {X : Type 0} (R : X → X → Type 0) (xs ys : List X) → Apart R xs → IsPermutation xs ys → Apart R ys
apart_permutation R xs ys h p = IsPermutation-keeps xs (Apart R) h (λ l i j li lj k. apart_swap R l i j li lj k) ys p

-- ---- nodes with different names

-- both nodes are there, and their names differ
pub record Differ (instances : List Instance) (a b : ℕ) : Type 0 where
  pub one : Instance
  pub other : Instance
  pub of_one : slice_get instances a ≡ Some one
  pub of_other : slice_get instances b ≡ Some other
  pub names : one.name ≢ other.name

pub differ_flip : (instances : List Instance) (a b : ℕ) → Differ instances a b → Differ instances b a
differ_flip instances a b h = record { one = h.other; other = h.one; of_one = h.of_other; of_other = h.of_one; names = λ e. h.names (sym e) }

name_is : (instances : List Instance) (n : ℕ) (x : Instance) → slice_get instances n ≡ Some x → name_of instances n ≡ x.name
name_is instances n x e = ap (λ (o : Option Instance). option_map_or (λ (i : Instance). i.name) o []) e

-- of two texts that differ, the second isn't below the first exactly where the first is below the second
below_by : (o p : Ordering) → p ≡ ordering_reverse o → is_lt p ≡ false → (o ≡ Equal → ⊥) → o ≡ Less
below_by Less p e f ne = refl
below_by Equal p e f ne = absurd (ne refl)
below_by Greater p e f ne = let g : true ≡ false = ap is_lt (sym e) ∙ f in cc

text_below : (a b : List ℕ) → a ≢ b → is_lt (slice_cmp nat_cmp b a) ≡ false → IsBelow a b
text_below a b ne f = below_by (slice_cmp nat_cmp a b) (slice_cmp nat_cmp b a) ((nat_list_cmp_total).antisymm b a) f (λ e. ne (slice_cmp-IsAntisymmetric nat_cmp-IsAntisymmetric a b e))

named_below : (place : Placement) (a b : ℕ) → Differ place.instances a b → is_lt (slice_cmp nat_cmp (name_of place.instances b) (name_of place.instances a)) ≡ false → IsNamedBelow place a b
named_below place a b h f =
    let ea = name_is place.instances a h.one h.of_one in
    let eb = name_is place.instances b h.other h.of_other in
    record {
      one = h.one;
      other = h.other;
      of_one = h.of_one;
      of_other = h.of_other;
      below = text_below (h.one).name (h.other).name h.names (subst (λ x. is_lt (slice_cmp nat_cmp x (h.one).name) ≡ false) eb (subst (λ x. is_lt (slice_cmp nat_cmp (name_of place.instances b) x) ≡ false) ea f));
    }

-- what is sorted by names that all differ stands by name
pub by_name : {X : Type 0} (place : Placement) (node : X → ℕ) (items ordered : List X) → Ascends (λ a b. Differ place.instances (node a) (node b)) items → IsPermutation items ordered
    → IsSortedByKey (λ x. name_of place.instances (node x)) (slice_cmp nat_cmp) ordered → Ascends (λ a b. IsNamedBelow place (node a) (node b)) ordered
by_name {X} place node items ordered differ same up =
    let R : X → X → Type 0 = λ a b. Differ place.instances (node a) (node b) in
    let apart = apart_permutation R items ordered (apart_of R (λ x y h. differ_flip place.instances (node x) (node y) h) items differ) same in
    let key : X → List ℕ = λ x. name_of place.instances (node x) in
    ascends-from_at (λ a b. IsNamedBelow place (node a) (node b)) ordered (λ i j d lt within.
    let far = sorted_far (λ x y. is_lt (slice_cmp nat_cmp (key x) (key y))) (ranks_by nat_list_cmp_total key) ordered up i j d (omega (arith, lt)) within in
    named_below place (node (get_or ordered i d)) (node (get_or ordered j d)) (apart i j d (omega (arith, lt, within)) within (omega (arith, lt))) far)

-- ---- the nodes of a shard of a lawful placement

pub at_in : {X : Type 0} (xs : List X) (i : ℕ) (x : X) → slice_get xs i ≡ Some x → IsIn xs x
at_in [] i x e = cc
at_in (y ∷ ys) zero x e = let same : y ≡ x = cc in inl same
at_in (y ∷ ys) (suc i) x e = inr (at_in ys i x e)

pub names_at : (instances : List Instance) (i j : ℕ) (x y : Instance) → Ascends (λ a b. a.name ≢ b.name) instances → slice_get instances i ≡ Some x → slice_get instances j ≡ Some y → i ≢ j → x.name ≢ y.name
names_at [] i j x y h ei ej ne = cc
names_at (z ∷ zs) zero zero x y h ei ej ne = absurd (ne refl)
names_at (z ∷ zs) zero (suc j) x y h ei ej ne = let same : z ≡ x = cc in subst (λ w. w.name ≢ y.name) same (h.0 y (at_in zs j y ej))
names_at (z ∷ zs) (suc i) zero x y h ei ej ne = let same : z ≡ y = cc in λ e. subst (λ w. w.name ≢ x.name) same (h.0 x (at_in zs i x ei)) (sym e)
names_at (z ∷ zs) (suc i) (suc j) x y h ei ej ne = names_at zs i j x y h.1 ei ej (λ e. ne (ap suc e))

-- each assignment's node is there
abbrev Exist : List Instance → Shard → Type 0
Exist instances shard = (a : Assignment) → IsIn shard a → (node : Instance) × (slice_get instances a.node ≡ Some node)

pub differ_all : (instances : List Instance) (shard : Shard) → Ascends (λ a b. a.name ≢ b.name) instances → Exist instances shard → Ascends (λ a b. a.node ≢ b.node) shard → Ascends (λ a b. Differ instances a.node b.node) shard
differ_all instances [] names there distinct = tt
differ_all instances (a ∷ rest) names there distinct = (
  λ b m. let one = there a (inl refl) in let other = there b (inr m) in
      record { one = one.0; other = other.0; of_one = one.1; of_other = other.1; names = names_at instances a.node b.node one.0 other.0 names one.1 other.1 (distinct.0 b m) },
  differ_all instances rest names (λ b m. there b (inr m)) distinct.1,
)

pub ascends-map : {X Y : Type 0} (R : Y → Y → Type 0) (f : X → Y) (xs : List X) → Ascends (λ a b. R (f a) (f b)) xs → Ascends R (map f xs)
ascends-map R f [] h = tt
ascends-map R f (x ∷ xs) h = (λ y m. let from = IsIn-map f xs y m in subst (R (f x)) from.2 (h.0 from.0 from.1), ascends-map R f xs h.1)

-- the assignments of a shard of a lawful placement
pub shard_differs : (place : Placement) (shard : ℕ) → IsLawful place → shard < length place.shards → Ascends (λ a b. Differ place.instances a.node b.node) (shard_at place shard)
shard_differs place shard lawful lt =
    let here = IsIn-get_or place.shards shard [] lt in
    let spread = lawful.spread (shard_at place shard) here in
    differ_all place.instances (shard_at place shard) (lawful.limits).distinct (λ a m. let l = spread.listed a m in (l.0, l.1)) (lawful.shards (shard_at place shard) here).distinct

pub nodes_differ : (place : Placement) (p : Assignment → Bool) (shard : Shard) → Ascends (λ a b. Differ place.instances a.node b.node) shard → Ascends (Differ place.instances) (nodes_of (filter p shard))
nodes_differ place p shard h = ascends-map (Differ place.instances) (λ a. a.node) (filter p shard) (Ascends-filter (λ a b. Differ place.instances a.node b.node) p shard h)

-- the same of a list that was made, where it was
pub result_by_name : {X E : Type 0} (place : Placement) (node : X → ℕ) (items : List X) (made : Result (List X) E) → Ascends (λ a b. Differ place.instances (node a) (node b)) items
    → IfOk made (λ ordered. IsPermutation items ordered) → IfOk made (λ ordered. IsSortedByKey (λ x. name_of place.instances (node x)) (slice_cmp nat_cmp) ordered) → IfOk made (λ ordered. Ascends (λ a b. IsNamedBelow place (node a) (node b)) ordered)
result_by_name place node items (Ok ordered) differ same up = by_name place node items ordered differ same up
result_by_name place node items (Err e) differ same up = tt
