-- The points of an ordered list of series are those that it stands for.
use Rattle.std.proofs.Common.{◌≡◌, ℕ, ◌<◌, ℤ, List, [], ◌∷◌, fold, refl, sym, ap, ◌∙◌, subst, inl, inr, arith}
use Rattle.std.specs.Prelude.{◌⊎◌}
use Rattle.std.specs.FinMap.{empty}
use Rattle.std.specs.Ordering.{nat_cmp}
use Rattle.std.specs.Cmp.{tied_itself}
use Rattle.std.specs.Cmp.Lexicographic.{slice_cmp}
use Rattle.std.specs.declared.cmp.Ordering.TheVariants.{Less, Equal}
use Rattle.std.proofs.lemmas.Cmp.{nat_list_cmp_total}
use Rattle.std.proofs.lemmas.List.Sums.{fold-append}
use Rattle.m3_model.specs.Answers.{HasPoint}
use Rattle.m3_model.specs.Ascends.{Ascends}
use Rattle.m3_model.specs.Contents.{content_of, raised}
use Rattle.m3_model.specs.Members.{IsIn}
use Rattle.m3_model.specs.Reads.{IsOrdered, points_in}
use Rattle.m3_model.specs.Tags.{IsBelow}
use Rattle.m3_model.specs.declared.point.Point.{Point}
use Rattle.m3_model.specs.declared.point.Series.{Series}
use Rattle.m3_model.proofs.MemberLemmas.{IsIn-append_cases, IsIn-map}
use Rattle.series_merge.specs.Merges.{IsMergeOf}
use Rattle.series_merge.specs.Pairs.{IsEarlier, points_at}
use Rattle.series_merge.proofs.JoinLemmas.{joined_has, joined_from, nothing_held}

-- of two pairs at one time in an ascending list there is one
same_pair : (xs : List (ℕ × ℤ)) (a b : ℕ × ℤ) → Ascends IsEarlier xs → IsIn xs a → IsIn xs b → a.0 ≡ b.0 → a ≡ b
same_pair [] a b h m n e = absurd m
same_pair (x ∷ xs) a b h (inl d) (inl f) e = sym d ∙ f
same_pair (x ∷ xs) a b h (inl d) (inr n) e = let below : x.0 < b.0 = h.0 b n in let same : x.0 ≡ a.0 = ap (λ (p : ℕ × ℤ). p.0) d in absurd (omega arith)
same_pair (x ∷ xs) a b h (inr m) (inl f) e = let below : x.0 < a.0 = h.0 a m in let same : x.0 ≡ b.0 = ap (λ (p : ℕ × ℤ). p.0) f in absurd (omega arith)
same_pair (x ∷ xs) a b h (inr m) (inr n) e = same_pair xs a b h.1 m n e

-- a point of a list is of one of its series
of_series : (ns : ℕ) (series : List Series) (p : Point) → IsIn (points_in ns series) p → (s : Series) × IsIn series s × (s.id ≡ p.id)
of_series ns [] p m = absurd m
of_series ns (s ∷ series) p m = elim (IsIn-append_cases (points_at (ns, s.id) s.points) (points_in ns series) p m) as (λ _. (r : Series) × ((s ≡ r) ⊎ IsIn series r) × (r.id ≡ p.id)) [
  | inl here ↦ let pair = IsIn-map (λ (x : ℕ × ℤ). record { ns = ns; id = s.id; t = x.0; v = x.1 }) s.points p here in (s, inl refl, ap (λ (q : Point). q.id) pair.2)
  | inr later ↦ let found = of_series ns series p later in (found.0, inr found.1, found.2)
]

not_below : (x : List ℕ) → IsBelow x x → ⊥
not_below x h = let tied : slice_cmp nat_cmp x x ≡ Equal = tied_itself nat_list_cmp_total x in let bad : Less ≡ Equal = sym h ∙ tied in cc

rest_ordered : (s : Series) (series : List Series) → IsOrdered (s ∷ series) → IsOrdered series
rest_ordered s series h = record { ids = h.ids.1; times = λ r m. h.times r (inr m); none_empty = λ r m. h.none_empty r (inr m) }

-- a point of the first series and one of a later series have two identifiers
apart : (ns : ℕ) (s : Series) (series : List Series) (p q : Point) → IsOrdered (s ∷ series) → IsIn (points_at (ns, s.id) s.points) p → IsIn (points_in ns series) q → p.id ≡ q.id → ⊥
apart ns s series p q h m n e =
    let pair = IsIn-map (λ (x : ℕ × ℤ). record { ns = ns; id = s.id; t = x.0; v = x.1 }) s.points p m in
    let later = of_series ns series q n in
    let same : s.id ≡ later.0.id = ap (λ (r : Point). r.id) pair.2 ∙ e ∙ sym later.2 in
    not_below s.id (subst (IsBelow s.id) (sym same) (h.ids.0 later.0 later.1))

-- of two points at one key in an ordered list there is one
pub same_point : (ns : ℕ) (series : List Series) (p q : Point) → IsOrdered series → IsIn (points_in ns series) p → IsIn (points_in ns series) q → p.id ≡ q.id → p.t ≡ q.t → p ≡ q
same_point ns [] p q h m n i t = absurd m
same_point ns (s ∷ series) p q h m n i t =
    by (λ a b. same_point ns series p q (rest_ordered s series h) a b i t) (IsIn-append_cases (points_at (ns, s.id) s.points) (points_in ns series) p m) (IsIn-append_cases (points_at (ns, s.id) s.points) (points_in ns series) q n)
  where
    by : (IsIn (points_in ns series) p → IsIn (points_in ns series) q → p ≡ q) → IsIn (points_at (ns, s.id) s.points) p ⊎ IsIn (points_in ns series) p → IsIn (points_at (ns, s.id) s.points) q ⊎ IsIn (points_in ns series) q → p ≡ q
    by later (inl a) (inl b) =
        let x = IsIn-map (λ (x : ℕ × ℤ). record { ns = ns; id = s.id; t = x.0; v = x.1 }) s.points p a in
        let y = IsIn-map (λ (x : ℕ × ℤ). record { ns = ns; id = s.id; t = x.0; v = x.1 }) s.points q b in
        let time : x.0.0 ≡ y.0.0 = ap (λ (r : Point). r.t) x.2 ∙ t ∙ sym (ap (λ (r : Point). r.t) y.2) in
        let pair : x.0 ≡ y.0 = same_pair s.points x.0 y.0 (h.times s (inl refl)) x.1 y.1 time in
        sym x.2 ∙ ap (λ (z : ℕ × ℤ). record { ns = ns; id = s.id; t = z.0; v = z.1 }) pair ∙ y.2
    by later (inl a) (inr b) = absurd (apart ns s series p q h a b i)
    by later (inr a) (inl b) = absurd (apart ns s series q p h b a (sym i))
    by later (inr a) (inr b) = later a b

-- what a list of points stands for is in the list
pub content_in : (points : List Point) (p : Point) → HasPoint (content_of points) p → IsIn points p
content_in points p h = elim (joined_from points empty p h) as (λ _. IsIn points p) [ inl none ↦ absurd (nothing_held empty refl p none) | inr m ↦ m ]

-- an ordered list of series stands for each of its points
pub ordered_has : (ns : ℕ) (series : List Series) (p : Point) → IsOrdered series → IsIn (points_in ns series) p → HasPoint (content_of (points_in ns series)) p
ordered_has ns series p h m =
    let held = joined_has (points_in ns series) empty p m in
    let there : IsIn (points_in ns series) (record p { v = held.value }) = content_in (points_in ns series) (record p { v = held.value }) held.stands in
    let same : record p { v = held.value } ≡ p = same_point ns series (record p { v = held.value }) p h there m refl refl in
    subst (λ (q : Point). HasPoint (content_of (points_in ns series)) q) same held.stands

-- what one list and another stand for together: the one, with the points of the other joined
pub merge_joins : (ns : ℕ) (one other series : List Series) → IsMergeOf one other series → content_of (points_in ns series) ≡ fold raised (content_of (points_in ns one)) (points_in ns other)
merge_joins ns one other series merge = merge.content ns ∙ fold-append raised empty (points_in ns one) (points_in ns other)
