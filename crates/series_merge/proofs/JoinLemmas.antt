-- Points joined to a content, in any order.
use Rattle.std.proofs.Common.{◌≡◌, ℤ, List, [], ◌∷◌, ◌++◌, fold, refl, sym, ap, ◌∙◌, subst, inl, inr, Bool, true, false, cond, arith}
use Rattle.std.specs.Prelude.{◌⊎◌, Option, Some, None}
use Rattle.std.specs.FinMap as map
use Rattle.std.specs.FinMap.{get-insert, same_map}
use Rattle.std.specs.Ordering.{eq_by_cmp}
use Rattle.std.proofs.lemmas.Int.{ints}
use Rattle.std.proofs.lemmas.List.Sums.{fold-append}
use Rattle.m3_model.specs.Answers.{HasPoint}
use Rattle.m3_model.specs.Contents.{Contents, Holds, higher, key_of, raised}
use Rattle.m3_model.specs.Keys.{key_cmp, key_cmp_total}
use Rattle.m3_model.specs.Members.{IsIn}
use Rattle.m3_model.specs.declared.point.Key.{Key}
use Rattle.m3_model.specs.declared.point.Point.{Point}
use Rattle.m3_model.proofs.JoinLemmas.{raised_holds, raised_keeps, raised_source}
use Rattle.m3_model.proofs.Keyed.{key_cmp-IsAntisymmetric, equal_of}
use Rattle.series_merge.specs.Parts.{JoinAlike}

-- ---- two values at one key

higher_swap : (o : Option ℤ) (u v : ℤ) → higher (Some (higher o u)) v ≡ higher (Some (higher o v)) u
higher_swap None u v = grind (arith, ints)
higher_swap (Some w) u v = grind (arith, ints)

higher_twice : (o : Option ℤ) (u v : ℤ) → higher (Some (higher o u)) v ≡ higher o (higher (Some u) v)
higher_twice None u v = refl
higher_twice (Some w) u v = grind (arith, ints)

-- a value where one is raised
abbrev put_at : Bool → Option ℤ → ℤ → Option ℤ
put_at b o v = cond b (Some (higher o v)) o

put_swap : (a b : Bool) (o : Option ℤ) (u v : ℤ) → put_at b (put_at a o u) v ≡ put_at a (put_at b o v) u
put_swap true true o u v = ap Some (higher_swap o u v)
put_swap true false o u v = refl
put_swap false true o u v = refl
put_swap false false o u v = refl

put_twice : (b : Bool) (o : Option ℤ) (u v : ℤ) → put_at b (put_at b o u) v ≡ put_at b o (higher (Some u) v)
put_twice true o u v = ap Some (higher_twice o u v)
put_twice false o u v = refl

abbrev is_at : Key → Point → Bool
is_at k p = eq_by_cmp key_cmp k (key_of p)

get-raised : (c : Contents) (p : Point) (k : Key) → map.get (raised c p) k ≡ put_at (is_at k p) (map.get c k) p.v
get-raised c p k = get-insert key_cmp_total c (key_of p) (higher (map.get c (key_of p)) p.v) k ∙ by (is_at k p) refl
  where
    by : (b : Bool) → is_at k p ≡ b → cond b (Some (higher (map.get c (key_of p)) p.v)) (map.get c k) ≡ put_at b (map.get c k) p.v
    by true t = ap (λ (q : Key). Some (higher (map.get c q) p.v)) (sym (key_cmp-IsAntisymmetric k (key_of p) (equal_of _ t)))
    by false t = refl

-- two points are joined in either order
raised_swap : (c : Contents) (p q : Point) → raised (raised c p) q ≡ raised (raised c q) p
raised_swap c p q =
    same_map key_cmp_total key_cmp-IsAntisymmetric _ _
    (λ k. get-raised (raised c p) q k ∙ ap (λ o. put_at (is_at k q) o q.v) (get-raised c p k) ∙ put_swap (is_at k p) (is_at k q) (map.get c k) p.v q.v
    ∙ ap (λ o. put_at (is_at k p) o p.v) (sym (get-raised c q k)) ∙ sym (get-raised (raised c q) p k))

-- of two points at one key the higher is joined
pub raised_twice : (c : Contents) (p : Point) (v : ℤ) → raised (raised c p) (record p { v = v }) ≡ raised c (record p { v = higher (Some p.v) v })
raised_twice c p v =
    same_map key_cmp_total key_cmp-IsAntisymmetric _ _
    (λ k. get-raised (raised c p) (record p { v = v }) k ∙ ap (λ o. put_at (is_at k p) o v) (get-raised c p k) ∙ put_twice (is_at k p) (map.get c k) p.v v
    ∙ sym (get-raised c (record p { v = higher (Some p.v) v }) k))

-- ---- lists of points

join_one_swap : (ps : List Point) (c : Contents) (q : Point) → fold raised (raised c q) ps ≡ raised (fold raised c ps) q
join_one_swap [] c q = refl
join_one_swap (p ∷ ps) c q = ap (λ d. fold raised d ps) (raised_swap c q p) ∙ join_one_swap ps (raised c p) q

-- two lists are joined in either order
pub join_swap : (ps qs : List Point) (c : Contents) → fold raised (fold raised c ps) qs ≡ fold raised (fold raised c qs) ps
join_swap [] qs c = refl
join_swap (p ∷ ps) qs c = join_swap ps qs (raised c p) ∙ ap (λ d. fold raised d ps) (join_one_swap qs c p)

raised_again : (c : Contents) (p : Point) → raised (raised c p) p ≡ raised c p
raised_again c p = raised_twice c p p.v ∙ ap (λ v. raised c (record p { v = v })) (higher_again p.v)
  where
    higher_again : (v : ℤ) → higher (Some v) v ≡ v
    higher_again v = grind (arith, ints)

-- a list that is joined twice is joined once
pub join_again : (ps : List Point) (c : Contents) → fold raised (fold raised c ps) ps ≡ fold raised c ps
join_again [] c = refl
join_again (p ∷ ps) c =
    ap (λ d. fold raised d ps) (sym (join_one_swap ps (raised c p) p)) ∙ ap (λ d. fold raised (fold raised d ps) ps) (raised_again c p) ∙ join_again ps (raised c p)

pub append_swap : (ps qs : List Point) → JoinAlike (ps ++ qs) (qs ++ ps)
append_swap ps qs c = fold-append raised c ps qs ∙ join_swap ps qs c ∙ sym (fold-append raised c qs ps)

-- a list that is joined first is joined later
pub moved : (a b x y : List Point) → JoinAlike (((a ++ b) ++ x) ++ y) ((a ++ x) ++ (b ++ y))
moved a b x y c =
    fold-append raised c ((a ++ b) ++ x) y
    ∙ ap (λ d. fold raised d y) (fold-append raised c (a ++ b) x ∙ ap (λ d. fold raised d x) (fold-append raised c a b) ∙ join_swap b x (fold raised c a)
    ∙ ap (λ d. fold raised d b) (sym (fold-append raised c a x)))
    ∙ sym (fold-append raised (fold raised c (a ++ x)) b y) ∙ sym (fold-append raised c (a ++ x) (b ++ y))

-- ---- what is held

-- what was held stays held
pub joined_stays : (points : List Point) (c : Contents) (p : Point) → Holds c p → Holds (fold raised c points) p
joined_stays [] c p h = h
joined_stays (q ∷ points) c p h = joined_stays points (raised c q) p (raised_keeps c q p h)

-- each of the points is held
pub joined_has : (points : List Point) (c : Contents) (p : Point) → IsIn points p → Holds (fold raised c points) p
joined_has [] c p m = absurd m
joined_has (q ∷ points) c p m = elim m as (λ _. Holds (fold raised (raised c q) points) p) [
  | inl same ↦ joined_stays points (raised c q) p (subst (λ x. Holds (raised c q) x) same (raised_holds c q))
  | inr rest ↦ joined_has points (raised c q) p rest
]

-- nothing else is
pub joined_from : (points : List Point) (c : Contents) (p : Point) → HasPoint (fold raised c points) p → HasPoint c p ⊎ IsIn points p
joined_from [] c p h = inl h
joined_from (q ∷ points) c p h = elim (joined_from points (raised c q) p h) as (λ _. HasPoint c p ⊎ ((q ≡ p) ⊎ IsIn points p)) [
  | inl here ↦ elim (raised_source c q (key_of p) p.v here) as (λ _. HasPoint c p ⊎ ((q ≡ p) ⊎ IsIn points p)) [
    | inl same ↦ inr (inl same)
    | inr before ↦ inl before
  ]
  | inr rest ↦ inr (inr rest)
]

-- an empty content has no points
pub nothing_held : (c : Contents) → c ≡ map.empty → (p : Point) → HasPoint c p → ⊥
nothing_held c is p here = let none = map.get-empty {X = ℤ} key_cmp (key_of p) in let bad : None ≡ Some p.v = sym none ∙ ap (λ (b : Contents). map.get b (key_of p)) (sym is) ∙ here in cc
