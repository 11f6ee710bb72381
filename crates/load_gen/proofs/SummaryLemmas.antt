-- What replies come to, one after the other.
use Rattle.std.proofs.Common.{◌≡◌, ℕ, ◌+◌, ◌-◌, ◌<◌, ◌≤◌, ◌^◌, Bool, List, [], ◌∷◌, ◌++◌, length, length-append, drop, get_or, refl, sym, ap, subst, ◌∙◌, arith, ℤ, ◌+ℤ◌, pos, cond, true, false, FitsSigned, to_z, of_z}
use Rattle.std.specs.Int.{w64, w128}
use mir.Val.{bool_byte}
use Rattle.std.specs.Prelude.{Option, Some, None}
use Rattle.std.specs.List.{last_or}
use Rattle.std.proofs.Math.IntN.{+ℤ_assoc, +ℤ_comm, +ℤ_idr}
use Rattle.std.proofs.lemmas.Int.{ints, to_z-of_z}
use Rattle.std.proofs.lemmas.List.{drop_more}
use Rattle.std.proofs.lemmas.List.Sums.{count_by-le-length, sum_by_push}
use Rattle.m3_model.specs.declared.point.Series.{Series}
use Rattle.m3_model.specs.declared.turn.Reply.{Reply}
use Rattle.load_gen.specs.Summaries.{Counts, last_points, line_of, points_at, points_by, all_points, says_ok, sum_of, summary_line, times_ok}
use Rattle.load_gen.specs.Sums.{IsSumOfFew}
use Rattle.load_gen.specs.declared.summary.Summary.{Summary}

-- nothing is added
pub sum_none : (a : ℤ) → a +ℤ pos 0 ≡ a
sum_none a = +ℤ_idr a

pub none_sum : (a : ℤ) → pos 0 +ℤ a ≡ a
none_sum a = +ℤ_comm (pos 0) a ∙ +ℤ_idr a

pub sum_of-append : (xs ys : List (ℕ × ℤ)) → sum_of (xs ++ ys) ≡ sum_of xs +ℤ sum_of ys
sum_of-append [] ys = sym (none_sum (sum_of ys))
sum_of-append (x ∷ xs) ys = ap (λ s. x.1 +ℤ s) (sum_of-append xs ys) ∙ sym (+ℤ_assoc x.1 (sum_of xs) (sum_of ys))

-- one more point was added
pub sum_more : (points : List (ℕ × ℤ)) (i : ℕ) (d : ℕ × ℤ) (sum v next total : ℤ) → i < length points → sum +ℤ sum_of (drop i points) ≡ total → v ≡ (get_or points i d).1 → FitsSigned w128 v
    → FitsSigned w128 (sum +ℤ to_z w128 (of_z w128 v)) × (next ≡ sum +ℤ to_z w128 (of_z w128 v)) → to_z w128 (of_z w128 next) +ℤ sum_of (drop (i + 1) points) ≡ total
sum_more points i d sum v next total low was is fits (room, made) =
    let x = get_or points i d in
    let plain : next ≡ sum +ℤ x.1 = made ∙ ap (λ y. sum +ℤ y) (to_z-of_z w128 v fits ∙ is) in
    let kept : to_z w128 (of_z w128 next) ≡ sum +ℤ x.1 = to_z-of_z w128 next (subst (FitsSigned w128) (sym made) room) ∙ plain in
    ap (λ y. y +ℤ sum_of (drop (i + 1) points)) kept ∙ +ℤ_assoc sum x.1 (sum_of (drop (i + 1) points)) ∙ ap (λ l. sum +ℤ sum_of l) (sym (drop_more points i d low)) ∙ was

-- a sum of few fits
few_fits : (count : ℕ) (sum : ℤ) → count ≤ 2 ^ 63 → IsSumOfFew count sum → FitsSigned w128 sum
few_fits count sum few was = let a = was.0 in let b = was.1 in omega (arith, ints, few, a, b)

-- one more 64-bit value was added to it
few_sum : (count : ℕ) (sum v : ℤ) → IsSumOfFew count sum → FitsSigned w64 v → IsSumOfFew (count + 1) (sum +ℤ v)
few_sum count sum v was small = (let a = was.0 in omega (arith, ints, a, small), let b = was.1 in omega (arith, ints, b, small))

pub few_more : (count i : ℕ) (sum v next : ℤ) → IsSumOfFew (count + i) sum → FitsSigned w64 v → FitsSigned w128 v → FitsSigned w128 (sum +ℤ to_z w128 (of_z w128 v)) × (next ≡ sum +ℤ to_z w128 (of_z w128 v))
    → IsSumOfFew (count + (i + 1)) (to_z w128 (of_z w128 next))
few_more count i sum v next was small fits (room, made) =
    let plain : next ≡ sum +ℤ v = made ∙ ap (λ y. sum +ℤ y) (to_z-of_z w128 v fits) in
    let kept : to_z w128 (of_z w128 next) ≡ sum +ℤ v = to_z-of_z w128 next (subst (FitsSigned w128) (sym made) room) ∙ plain in
    subst (λ n. IsSumOfFew n (to_z w128 (of_z w128 next))) (append_one count i) (subst (IsSumOfFew (count + i + 1)) (sym kept) (few_sum (count + i) sum v was small))
  where
    append_one : (a b : ℕ) → a + b + 1 ≡ a + (b + 1)
    append_one a b = omega arith

-- which fits, unless they were many
pub few_fit : (count i most : ℕ) (sum v : ℤ) → IsSumOfFew (count + i) sum → FitsSigned w64 v → FitsSigned w128 v → i < most → count + most ≤ 2 ^ 63 → FitsSigned w128 (sum +ℤ to_z w128 (of_z w128 v))
few_fit count i most sum v was small fits low few =
    subst (λ y. FitsSigned w128 (sum +ℤ y)) (sym (to_z-of_z w128 v fits)) (few_fits (count + i + 1) (sum +ℤ v) (omega (arith, low, few)) (few_sum (count + i) sum v was small))

-- the points of one more series were added
pub left_in : (series : List Series) (i : ℕ) (s : Series) → i < length series → s ≡ get_or series i s → all_points (drop i series) ≡ s.points ++ all_points (drop (i + 1) series)
left_in series i s low is = ap all_points (drop_more series i s low) ∙ ap (λ x. x.points ++ all_points (drop (i + 1) series)) (sym is)

pub count_more : (series : List Series) (i : ℕ) (s : Series) (count next : ℕ) (own : List (ℕ × ℤ)) (total : ℕ) → i < length series → s ≡ get_or series i s → own ≡ s.points
    → count + length (all_points (drop i series)) ≡ total → next ≡ count + length own → next + length (all_points (drop (i + 1) series)) ≡ total
count_more series i s count next own total low is same was made =
    let whole = ap length (left_in series i s low is) ∙ length-append s.points (all_points (drop (i + 1) series)) in
    let size = ap length same in
    omega (arith, whole, size, was, made)

-- there were no fewer
pub own_below : (series : List Series) (i : ℕ) (s : Series) (count : ℕ) (own : List (ℕ × ℤ)) (total : ℕ) → i < length series → s ≡ get_or series i s → own ≡ s.points
    → count + length (all_points (drop i series)) ≡ total → count + length own ≤ total
own_below series i s count own total low is same was =
    let whole = ap length (left_in series i s low is) ∙ length-append s.points (all_points (drop (i + 1) series)) in
    let size = ap length same in
    omega (arith, whole, size, was)

pub total_more : (series : List Series) (i : ℕ) (s : Series) (sum next : ℤ) (own : List (ℕ × ℤ)) (total : ℤ) → i < length series → s ≡ get_or series i s → own ≡ s.points
    → sum +ℤ sum_of (all_points (drop i series)) ≡ total → next ≡ sum +ℤ sum_of own → next +ℤ sum_of (all_points (drop (i + 1) series)) ≡ total
total_more series i s sum next own total low is same was made =
    let rest = all_points (drop (i + 1) series) in
    ap (λ y. y +ℤ sum_of rest) (made ∙ ap (λ l. sum +ℤ sum_of l) same) ∙ +ℤ_assoc sum (sum_of s.points) (sum_of rest) ∙ ap (λ y. sum +ℤ y) (sym (sum_of-append s.points rest))
    ∙ ap (λ l. sum +ℤ sum_of l) (sym (left_in series i s low is)) ∙ was

last_or-push : (o : Option Reply) (rs : List Reply) (r : Reply) → last_or o (rs ++ r ∷ []) ≡ Some r
last_or-push o [] r = refl
last_or-push o (x ∷ rs) r = last_or-push (Some x) rs r

-- the last reply is the one that came last
pub last_points-push : (rs : List Reply) (r : Reply) → last_points (rs ++ r ∷ []) ≡ points_by r
last_points-push rs r = ap points_at (last_or-push None rs r)

pub times_ok-push : (rs : List Reply) (r : Reply) → times_ok (rs ++ r ∷ []) ≡ times_ok rs + cond (says_ok r) 1 0
times_ok-push rs r = sum_by_push (λ q. cond (says_ok q) 1 0) rs r

-- no more say ok than there are
pub few_ok : (rs : List Reply) (is : Bool) → times_ok rs + bool_byte is ≤ length rs + 1
few_ok rs true = let few = count_by-le-length says_ok rs in omega (arith, few)
few_ok rs false = let few = count_by-le-length says_ok rs in omega (arith, few)

-- a test as a number
byte_is : (b : Bool) → bool_byte b ≡ cond b 1 0
byte_is true = refl
byte_is false = refl

-- one more reply
pub counts_more : (rs : List Reply) (r : Reply) (old new : Summary) (is : Bool) → Counts rs old → is ≡ says_ok r → new.lines ≡ old.lines + 1 → new.ok ≡ old.ok + bool_byte is
    → new.points ≡ length (points_by r) → new.sum ≡ sum_of (points_by r) → Counts (rs ++ r ∷ []) new
counts_more rs r old new is was same lines ok points sum = record {
  lines = (let a = was.lines in let b = length-append rs (r ∷ []) in omega (arith, a, b, lines));
  ok = ok ∙ ap (λ n. old.ok + n) (byte_is is) ∙ ap (λ n. n + cond is 1 0) was.ok ∙ ap (λ b. times_ok rs + cond b 1 0) same ∙ sym (times_ok-push rs r);
  points = points ∙ ap length (sym (last_points-push rs r));
  sum = sum ∙ ap sum_of (sym (last_points-push rs r));
}

-- the line of the numbers of these replies
pub line_is : (rs : List Reply) (s : Summary) (refused : ℕ) → Counts rs s → refused ≡ s.lines - s.ok → line_of s.lines s.ok s.points refused s.sum ≡ summary_line rs
line_is rs s refused counts is = rw (is, counts.lines, counts.ok, counts.points, counts.sum) refl
