-- Two lists of pairs of one identifier are merged.
use Rattle.std.proofs.Common.{◌≡◌, ℕ, zero, suc, ◌+◌, ◌-◌, ◌<◌, ◌≤◌, ℤ, pos, List, [], ◌∷◌, ◌++◌, length, drop, get_or, fold, refl, sym, ap, ◌∙◌, subst, inl, inr, arith, add-zero}
use Rattle.std.specs.Prelude.{◌⊎◌, Some, Result, Ok, Err, IfOk, ⊤}
use Rattle.std.specs.FinMap.{empty}
use Rattle.std.specs.Ordering.{nat_cmp, match_ordering}
use Rattle.std.specs.declared.cmp.Ordering.{Ordering}
use Rattle.std.specs.declared.cmp.Ordering.TheVariants.{Less, Equal, Greater}
use Rattle.std.proofs.lemmas.Cmp.{ranked}
use Rattle.std.proofs.lemmas.List.{map-append, drop_more}
use Rattle.m3_model.specs.Ascends.{Ascends}
use Rattle.m3_model.specs.Contents.{higher, raised}
use Rattle.m3_model.specs.Members.{IsIn}
use Rattle.m3_model.specs.declared.memory.Memory.{Memory}
use Rattle.m3_model.specs.declared.point.Point.{Point}
use Rattle.m3_model.proofs.Ascending.{Ascends-append}
use Rattle.series_merge.specs.Parts.{JoinAlike}
use Rattle.series_merge.specs.Pairs.{IsEarlier, points_at, IsMergeOfPairs, first_pair, IsNext, IsPartOfPairs}
use Rattle.series_merge.specs.declared.pairs.First.{First}
use Rattle.series_merge.proofs.JoinLemmas.{raised_twice, append_swap, joined_has, nothing_held}
use Rattle.series_merge.proofs.PartLemmas.{of_one, of_other, of_both, whole_ascends}

earlier_trans : (x y z : ℕ × ℤ) → IsEarlier x y → IsEarlier y z → IsEarlier x z
earlier_trans x y z p q = omega arith

pub points_apart : (key : ℕ × List ℕ) (xs ys : List (ℕ × ℤ)) → points_at key (xs ++ ys) ≡ points_at key xs ++ points_at key ys
points_apart key xs ys = map-append (λ (x : ℕ × ℤ). record { ns = key.0; id = key.1; t = x.0; v = x.1 }) xs ys

-- ---- steps

-- two pairs at one time are joined to one
same_time : (a b : ℕ × ℤ) → a.0 ≡ b.0 → (key : ℕ × List ℕ) → JoinAlike (points_at key ((a.0, higher (Some a.1) b.1) ∷ [])) (points_at key (a ∷ []) ++ points_at key (b ∷ []))
same_time a b e key c =
    let p : Point = record { ns = key.0; id = key.1; t = a.0; v = a.1 } in
    sym (raised_twice c p b.1) ∙ ap (λ t. raised (raised c p) (record { ns = key.0; id = key.1; t = t; v = b.1 })) e

-- what is known of pairs beside their order: nothing
abbrev pub IsAny : ℕ × ℤ → Type 0
IsAny _ = ⊤

module _ (one other : List (ℕ × ℤ)) where
  module _ (done xs ys : List (ℕ × ℤ)) (a b : ℕ × ℤ) (was : IsPartOfPairs one other done (a ∷ xs) (b ∷ ys)) where
    earlier_one : a.0 < b.0 → IsPartOfPairs one other (done ++ a ∷ []) xs (b ∷ ys)
    earlier_one below = of_one IsEarlier IsAny points_at earlier_trans points_apart one other done a xs (b ∷ ys) was below

    earlier_other : b.0 < a.0 → IsPartOfPairs one other (done ++ b ∷ []) (a ∷ xs) ys
    earlier_other below = of_other IsEarlier IsAny points_at earlier_trans points_apart one other done b (a ∷ xs) ys was below

    both_alike : a.0 ≡ b.0 → IsPartOfPairs one other (done ++ (a.0, higher (Some a.1) b.1) ∷ []) xs ys
    both_alike e =
        of_both IsEarlier IsAny points_at earlier_trans points_apart one other done a b (a.0, higher (Some a.1) b.1) xs ys
        (λ w below. below) (λ w below. below) (λ w below. subst (λ t. w.0 < t) (sym e) below) (λ w below. subst (λ t. t < w.0) (sym e) below)
        tt (same_time a b e) was

  -- the first of both is done; what is left of a list when so many pairs are taken is a function of that number
  took : (done : List (ℕ × ℤ)) (left_one left_other : ℕ → List (ℕ × ℤ)) (a b : ℕ × ℤ) (first : First) → left_one 0 ≡ a ∷ left_one 1 → left_other 0 ≡ b ∷ left_other 1 → IsPartOfPairs one other done (left_one 0) (left_other 0)
      → first ≡ first_pair a b → IsPartOfPairs one other (done ++ first.pair ∷ []) (left_one first.of_one) (left_other first.of_other)
  took done left_one left_other a b first one_is other_is was is = by (nat_cmp a.0 b.0) refl is
    where
      opened : IsPartOfPairs one other done (a ∷ left_one 1) (b ∷ left_other 1)
      opened = subst (λ xs. IsPartOfPairs one other done xs (b ∷ left_other 1)) one_is (subst (IsPartOfPairs one other done (left_one 0)) other_is was)

      by : (o : Ordering) → nat_cmp a.0 b.0 ≡ o
          → first ≡ match_ordering o (record { pair = a; of_one = 1; of_other = 0 }) (record { pair = (a.0, higher (Some a.1) b.1); of_one = 1; of_other = 1 }) (record { pair = b; of_one = 0; of_other = 1 })
          → IsPartOfPairs one other (done ++ first.pair ∷ []) (left_one first.of_one) (left_other first.of_other)
      by Less t e =
          subst (λ (f : First). IsPartOfPairs one other (done ++ f.pair ∷ []) (left_one f.of_one) (left_other f.of_other)) (sym e)
          (subst (IsPartOfPairs one other (done ++ a ∷ []) (left_one 1)) (sym other_is) (earlier_one done (left_one 1) (left_other 1) a b opened (ranked a.0 b.0 Less (sym t))))
      by Equal t e =
          subst (λ (f : First). IsPartOfPairs one other (done ++ f.pair ∷ []) (left_one f.of_one) (left_other f.of_other)) (sym e)
          (both_alike done (left_one 1) (left_other 1) a b opened (ranked a.0 b.0 Equal (sym t)))
      by Greater t e =
          subst (λ (f : First). IsPartOfPairs one other (done ++ f.pair ∷ []) (left_one f.of_one) (left_other f.of_other)) (sym e)
          (subst (λ xs. IsPartOfPairs one other (done ++ b ∷ []) xs (left_other 1)) (sym one_is) (earlier_other done (left_one 1) (left_other 1) a b opened (ranked a.0 b.0 Greater (sym t))))

  -- one more is
  pub pairs_step : (done : List (ℕ × ℤ)) (i j : ℕ) (first : First) → IsNext one other i j first → IsPartOfPairs one other done (drop i one) (drop j other)
      → IsPartOfPairs one other (done ++ first.pair ∷ []) (drop (i + first.of_one) one) (drop (j + first.of_other) other)
  pairs_step done i j first next was =
      let one_here : drop (i + 0) one ≡ drop i one = ap (λ n. drop n one) (add-zero i) in
      let other_here : drop (j + 0) other ≡ drop j other = ap (λ n. drop n other) (add-zero j) in
      took done (λ n. drop (i + n) one) (λ n. drop (j + n) other) (get_or one i (0, pos 0)) (get_or other j (0, pos 0)) first
      (one_here ∙ drop_more one i (0, pos 0) next.in_one) (other_here ∙ drop_more other j (0, pos 0) next.in_other)
      (subst (λ xs. IsPartOfPairs one other done xs (drop (j + 0) other)) (sym one_here) (subst (IsPartOfPairs one other done (drop i one)) (sym other_here) was)) next.first_is

  -- where one list is used up, the rest of the other comes behind
  pub pairs_whole : (done xs ys : List (ℕ × ℤ)) → IsPartOfPairs one other done xs ys → (xs ≡ []) ⊎ (ys ≡ []) → IsMergeOfPairs one other ((done ++ xs) ++ ys)
  pairs_whole done xs ys was none = record { ascend = whole_ascends IsEarlier IsAny points_at earlier_trans points_apart one other done xs ys was none; alike = was.alike }

  -- ---- appends

  pub one_first : Ascends IsEarlier (one ++ other) → IsMergeOfPairs one other (one ++ other)
  one_first ascend = record { ascend = ascend; alike = λ key c. refl }

  pub other_first : Ascends IsEarlier (other ++ one) → IsMergeOfPairs one other (other ++ one)
  other_first ascend = record {
    ascend = ascend;
    alike = λ key c. ap (fold raised c) (points_apart key other one) ∙ append_swap (points_at key other) (points_at key one) c ∙ ap (fold raised c) (sym (points_apart key one other));
  }

ok_is : {X E : Type 0} (P : X → Type 0) (x : X) (r : Result X E) → IfOk r (λ y. y ≡ x) → P x → IfOk r P
ok_is P x (Ok y) e h = subst P (sym e) h
ok_is P x (Err y) e h = e

-- the one list appended to the other; a, b and c are the lists as they were passed
pub appended : (one other a b c : List (ℕ × ℤ)) (r : Result (List (ℕ × ℤ)) Memory) → a ≡ other → b ≡ one → c ≡ one → (Ascends IsEarlier a → Ascends IsEarlier b → Ascends IsEarlier (a ++ b)) → IfOk r (λ pairs. pairs ≡ other ++ c)
    → Ascends IsEarlier one → Ascends IsEarlier other → IfOk r (IsMergeOfPairs one other)
appended one other a b c r a_is b_is c_is apart is one_ascends other_ascends =
    let ascend : Ascends IsEarlier (other ++ one) =
    subst (λ xs. Ascends IsEarlier (xs ++ one)) a_is (subst (λ ys. Ascends IsEarlier (a ++ ys)) b_is (apart (subst (Ascends IsEarlier) (sym a_is) other_ascends) (subst (Ascends IsEarlier) (sym b_is) one_ascends))) in
    ok_is (IsMergeOfPairs one other) (other ++ c) r is (subst (λ xs. IsMergeOfPairs one other (other ++ xs)) (sym c_is) (other_first one other ascend))

-- a merge with pairs has pairs
pub merge_some : (one other pairs : List (ℕ × ℤ)) → IsMergeOfPairs one other pairs → 0 < length one → 0 < length pairs
merge_some [] other pairs h some = absurd (omega arith)
merge_some (a ∷ one) other [] h some =
    let p : Point = record { ns = 0; id = []; t = a.0; v = a.1 } in
    let held = joined_has (points_at (0, []) ((a ∷ one) ++ other)) empty p (inl refl) in
    absurd (nothing_held (fold raised empty (points_at (0, []) ((a ∷ one) ++ other))) (sym (h.alike (0, []) empty)) (record p { v = held.value }) held.stands)
merge_some (a ∷ one) other (b ∷ pairs) h some = omega arith

-- ---- the ends

member_at : (xs : List (ℕ × ℤ)) (i : ℕ) (d : ℕ × ℤ) → i < length xs → IsIn xs (get_or xs i d)
member_at [] i d h = absurd (omega arith)
member_at (y ∷ xs) zero d h = inl refl
member_at (y ∷ xs) (suc i) d h = inr (member_at xs i d (omega arith))

-- no time is above the last
below_last : (xs : List (ℕ × ℤ)) (n : ℕ) (d x : ℕ × ℤ) → length xs ≡ suc n → Ascends IsEarlier xs → IsIn xs x → x.0 ≤ (get_or xs n d).0
below_last [] n d x long h m = absurd m
below_last (w ∷ xs) zero d x long h (inl e) = let same : w.0 ≡ x.0 = ap (λ (p : ℕ × ℤ). p.0) e in omega arith
below_last (w ∷ []) zero d x long h (inr m) = absurd m
below_last (w ∷ v ∷ xs) zero d x long h (inr m) = absurd (omega arith)
below_last (w ∷ xs) (suc n) d x long h (inl e) =
    let same : w.0 ≡ x.0 = ap (λ (p : ℕ × ℤ). p.0) e in
    let below : w.0 < (get_or xs n d).0 = h.0 (get_or xs n d) (member_at xs n d (omega arith)) in
    omega arith
below_last (w ∷ xs) (suc n) d x long h (inr m) = below_last xs n d x (omega arith) h.1 m

-- no time is below the first
above_first : (xs : List (ℕ × ℤ)) (d x : ℕ × ℤ) → Ascends IsEarlier xs → IsIn xs x → (get_or xs 0 d).0 ≤ x.0
above_first [] d x h m = absurd m
above_first (w ∷ xs) d x h (inl e) = let same : w.0 ≡ x.0 = ap (λ (p : ℕ × ℤ). p.0) e in omega arith
above_first (w ∷ xs) d x h (inr m) = let below : w.0 < x.0 = h.0 x m in omega arith

-- where the last of one list is earlier than the first of another, the one stands before the other
pub ends_apart : (one other : List (ℕ × ℤ)) (last first : ℕ × ℤ) → 0 < length one → last ≡ get_or one (length one - 1) last → first ≡ get_or other 0 first → last.0 < first.0
    → Ascends IsEarlier one → Ascends IsEarlier other → Ascends IsEarlier (one ++ other)
ends_apart one other last first some last_is first_is below one_ascends other_ascends =
    Ascends-append IsEarlier one other one_ascends other_ascends
    (λ x y m n.
    let low : x.0 ≤ (get_or one (length one - 1) last).0 = below_last one (length one - 1) last x (omega arith) one_ascends m in
    let high : (get_or other 0 first).0 ≤ y.0 = above_first other first y other_ascends n in
    let a : last.0 ≡ (get_or one (length one - 1) last).0 = ap (λ (p : ℕ × ℤ). p.0) last_is in
    let b : first.0 ≡ (get_or other 0 first).0 = ap (λ (p : ℕ × ℤ). p.0) first_is in
    omega arith)
