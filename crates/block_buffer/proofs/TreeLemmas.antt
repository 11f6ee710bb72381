-- What stands under a node of a tree, and at the positions of trees.
use Rattle.std.proofs.Common.{◌≡◌, ℕ, zero, suc, ◌+◌, ◌*◌, ◌/◌, ◌%◌, ◌^◌, ◌<◌, ◌≤◌, List, [], ◌∷◌, ◌++◌, length, get_or, refl, sym, ap, subst, ◌∙◌, inl, inr, arith}
use Rattle.std.proofs.lemmas.Bool.{cases_lt}
use Rattle.std.proofs.lemmas.List.{get_or_past, get_or_default}
use native.Mathlib.Numerals.{unary_clauses}
use Rattle.block_buffer.specs.Bounds.{IsTree, bound_in, bound_at, HasGroup}

twice : (node w : ℕ) → node * (2 * w) ≡ 2 * (node * w)
twice node w = grind arith

-- half of what lies in a span of twice the width lies in that of the width
halved : (node w j : ℕ) → node * (2 * w) ≤ j → j < (node + 1) * (2 * w) → (node * w ≤ j / 2) × (j / 2 < (node + 1) * w)
halved node w j low high =
    let a = twice node w in
    let b = twice (node + 1) w in
    (omega (arith, low, a), omega (arith, high, b))

power_after : (n : ℕ) → 2 ^ suc n ≡ 2 ^ n * 2
power_after n = simp unary_clauses refl

pub next_power : (n : ℕ) → 2 ^ suc n ≡ 2 * 2 ^ n
next_power n = let e = power_after n in omega (arith, e)

some_power : (n : ℕ) → 1 ≤ 2 ^ n
some_power zero = omega arith
some_power (suc n) =
    let h = some_power n in
    let e = next_power n in
    omega (arith, h, e)

positive : (a w b : ℕ) → 1 ≤ a → 1 ≤ w → a * w ≤ b → 1 ≤ b
positive zero w b h g low = absurd (omega (arith, h))
positive (suc a) w b h g low =
    let e : suc a * w ≡ w + a * w = grind arith in
    omega (arith, g, low, e)

-- what stands under a node, so many levels below it, is no less
pub under : (nodes : List ℕ) (level node j : ℕ) → IsTree nodes → 1 ≤ node → node * 2 ^ level ≤ j → j < (node + 1) * 2 ^ level → j < length nodes → get_or nodes node 0 ≤ get_or nodes j 0
under nodes zero node j tree some low high inside =
    let same : node ≡ j = omega (arith, low, high) in
    subst (λ (n : ℕ). get_or nodes node 0 ≤ get_or nodes n 0) same (le_refl (get_or nodes node 0))
  where
    le_refl : (a : ℕ) → a ≤ a
    le_refl a = omega arith
under nodes (suc level) node j tree some low high inside =
    let wide = next_power level in
    let from : node * (2 * 2 ^ level) ≤ j = subst (λ (w : ℕ). node * w ≤ j) wide low in
    let upto : j < (node + 1) * (2 * 2 ^ level) = subst (λ (w : ℕ). j < (node + 1) * w) wide high in
    let h = halved node (2 ^ level) j from upto in
    let above : 1 ≤ j / 2 = positive node (2 ^ level) (j / 2) some (some_power level) h.0 in
    let up : get_or nodes node 0 ≤ get_or nodes (j / 2) 0 = under nodes level node (j / 2) tree some h.0 h.1 (omega (arith, inside)) in
    let step : get_or nodes (j / 2) 0 ≤ get_or nodes j 0 = tree j (omega (arith, above)) inside in
    omega (arith, up, step)

-- the nodes that stand under one that is above a time are above it
pub spanned : (nodes : List ℕ) (leaf node width level high : ℕ) → IsTree nodes → width ≡ 2 ^ level → node * width ≡ leaf → 1 ≤ node → high < get_or nodes node 0
    → (j : ℕ) → leaf ≤ j → j < leaf + width → j < length nodes → high < get_or nodes j 0
spanned nodes leaf node width level high tree wide first some above j low upto inside =
    let start : node * 2 ^ level ≡ leaf = ap (λ (w : ℕ). node * w) (sym wide) ∙ first in
    let end : (node + 1) * 2 ^ level ≡ node * 2 ^ level + 2 ^ level = grind arith in
    let no_less = under nodes level node j tree some (omega (arith, low, start)) (omega (arith, upto, start, end, wide)) inside in
    omega (arith, above, no_less)

-- the node above one that is the first of two
pub halves : (node width leaf : ℕ) → node % 2 ≡ 0 → node * width ≡ leaf → node / 2 * (width * 2) ≡ leaf
halves node width leaf even first = by (node / 2) (omega (arith, even))
  where
    by : (m : ℕ) → node ≡ 2 * m → m * (width * 2) ≡ leaf
    by m e =
        let same : m * (width * 2) ≡ 2 * m * width = grind arith in
        same ∙ ap (λ (n : ℕ). n * width) (sym e) ∙ first

-- ---- positions

-- the positions of a span of nodes that are above a time
pub above_next : (nodes : List ℕ) (position width high q : ℕ) → high < 2 ^ 64 → ((j : ℕ) → length nodes / 2 + position ≤ j → j < length nodes / 2 + position + width → j < length nodes → high < get_or nodes j 0)
    → position ≤ q → q < position + width → high < bound_in nodes q
above_next nodes position width high q short above low upto = elim (cases_lt (length nodes / 2 + q) (length nodes)) as (λ _. high < bound_in nodes q) [
  | inl inside ↦
      let node = above (length nodes / 2 + q) (omega (arith, low)) (omega (arith, upto)) inside in
      let same = get_or_default nodes (length nodes / 2 + q) 0 (2 ^ 64) inside in
      omega (arith, node, same)
  | inr past ↦
      let none = get_or_past nodes (length nodes / 2 + q) (2 ^ 64) past in
      omega (arith, short, none)
]

-- beyond the positions there is none
pub no_place : (nodes : List ℕ) (q : ℕ) → length nodes ≡ 2 * (length nodes / 2) → length nodes / 2 ≤ q → bound_in nodes q ≡ 2 ^ 64
no_place nodes q even past = get_or_past nodes (length nodes / 2 + q) (2 ^ 64) (omega (arith, even, past))

-- a group with a time of 64 bits is there
pub has_group : (spaces : List (List ℕ)) (ns group : ℕ) → bound_at spaces ns group < 2 ^ 64 → HasGroup spaces ns group
has_group spaces ns group short = elim (cases_lt (length (get_or spaces ns []) / 2 + group) (length (get_or spaces ns []))) as (λ _. HasGroup spaces ns group) [
  | inl inside ↦ inside
  | inr past ↦
      let none = get_or_past (get_or spaces ns []) (length (get_or spaces ns []) / 2 + group) (2 ^ 64) past in
      absurd (omega (arith, short, none))
]

-- a namespace without groups changes nothing
pub pushed : (spaces : List (List ℕ)) (n : ℕ) → get_or (spaces ++ [] ∷ []) n [] ≡ get_or spaces n []
pushed [] zero = refl
pushed [] (suc n) = refl
pushed (x ∷ xs) zero = refl
pushed (x ∷ xs) (suc n) = pushed xs n
