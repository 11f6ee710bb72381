-- Answers, and the contents that they stand for.
use Rattle.std.proofs.Common.{◌≡◌, ℕ, ◌+◌, ℤ, List, [], fold, refl, sym, ap, ◌∙◌, inl, inr, Bool, true, false, cond}
use Rattle.std.specs.Prelude.{◌⊎◌, Option, Some, None, nat_eq, nat_le, nat_lt}
use Rattle.std.specs.FinMap as map
use Rattle.std.specs.FinMap.{get-retain_keys}
use Rattle.std.proofs.lemmas.Bool.{eqb-true, eq-eqb, leb-true, le-leb, ltb-true, lt-ltb}
use Rattle.m3_model.specs.Answers.{HasPoint, IsAnswer, IsWanted}
use Rattle.m3_model.specs.Contents.{Contents, content_of, key_of, point_at, raised}
use Rattle.m3_model.specs.Members.{IsIn}
use Rattle.m3_model.specs.Reads.{InRange, Matches, points_in, space_picked}
use Rattle.m3_model.specs.declared.point.Key.{Key}
use Rattle.m3_model.specs.declared.point.Pick.{Pick}
use Rattle.m3_model.specs.declared.point.Pick.TheVariants as pick
use Rattle.m3_model.specs.declared.point.Point.{Point}
use Rattle.m3_model.specs.declared.point.Series.{Series}
use Rattle.m3_model.proofs.Keyed.{key_cmp-IsAntisymmetric}
use Rattle.m3_model.proofs.RangeLemmas.{both_true}
use Rattle.held_points.specs.block_buffer.Held.{is_in_block}
use Rattle.held_points.specs.block_buffer.Joins.{joined}
use Rattle.series_merge.proofs.JoinLemmas.{joined_from, nothing_held}
use Rattle.series_merge.proofs.OrderLemmas.{content_in, merge_joins, ordered_has}
use Rattle.volume_points.specs.Laws.{AnswersJoin, BlockIsRange}
use Rattle.volume_points.proofs.JoinedLemmas.{get-joined, higher_of, same_content}

-- whether a pick asks for a point isn't a matter of its value
matches_at : (pick : Pick) (p : Point) (v : ℤ) → Matches pick p → Matches pick (record p { v = v })
matches_at (pick.One ns id) p v m = m
matches_at (pick.Match ns wanted) p v m = m

module _ (c : Contents) (pick : Pick) (from to : ℕ) (series : List Series) (a : IsAnswer c pick from to series) where
  -- at a key that is asked for stands in the answer what stands in the content
  pub same_at : (p : Point) → Matches pick p → InRange from to p → map.get (content_of (points_in (space_picked pick) series)) (key_of p) ≡ map.get c (key_of p)
  same_at p m r = by (map.get c (key_of p)) (map.get (content_of (points_in (space_picked pick) series)) (key_of p)) refl refl
    where
      by : (o found : Option ℤ) → map.get c (key_of p) ≡ o → map.get (content_of (points_in (space_picked pick) series)) (key_of p) ≡ found → found ≡ o
      by (Some v) found stands is =
          let q : Point = record p { v = v } in
          let there = a.whole q (record { stands = stands; matches = matches_at pick p v m; in_range = r }) in
          sym is ∙ ordered_has (space_picked pick) series q a.ordered there
      by None None none is = refl
      by None (Some v) none is =
          let q : Point = record p { v = v } in
          let wanted = a.nothing_else q (content_in (points_in (space_picked pick) series) q is) in
          let bad : None ≡ Some v = sym none ∙ wanted.stands in cc

pub answers_join : AnswersJoin
answers_join c points pick from to one other series a b merge = record {
  ordered = merge.ordered;
  nothing_else = λ p m. by p (joined_from (points_in ns other) (content_of (points_in ns one)) p (here p m)) (here p m);
  whole = λ p w. content_in (points_in ns series) p (ap (λ (d : Contents). map.get d (key_of p)) (merge_joins ns one other series merge) ∙ at_both p w.matches w.in_range ∙ w.stands);
}
  where
    ns : ℕ
    ns = space_picked pick

    here : (p : Point) → IsIn (points_in ns series) p → map.get (fold raised (content_of (points_in ns one)) (points_in ns other)) (key_of p) ≡ Some p.v
    here p m = sym (ap (λ (d : Contents). map.get d (key_of p)) (merge_joins ns one other series merge)) ∙ ordered_has ns series p merge.ordered m

    at_both : (p : Point) → Matches pick p → InRange from to p → map.get (fold raised (content_of (points_in ns one)) (points_in ns other)) (key_of p) ≡ map.get (joined c points) (key_of p)
    at_both p m r =
        get-joined (content_of (points_in ns one)) (points_in ns other) (key_of p)
        ∙ (λ i. higher_of (same_at c pick from to one a p m r i) (same_at (content_of points) pick from to other b p m r i))
        ∙ sym (get-joined c points (key_of p))

    by : (p : Point) → HasPoint (content_of (points_in ns one)) p ⊎ IsIn (points_in ns other) p → map.get (fold raised (content_of (points_in ns one)) (points_in ns other)) (key_of p) ≡ Some p.v → IsWanted (joined c points) pick from to p
    by p (inl h) is = let w = a.nothing_else p (content_in (points_in ns one) p h) in record { stands = sym (at_both p w.matches w.in_range) ∙ is; matches = w.matches; in_range = w.in_range }
    by p (inr m) is = let w = b.nothing_else p m in record { stands = sym (at_both p w.matches w.in_range) ∙ is; matches = w.matches; in_range = w.in_range }

-- where nothing is, nothing is found
pub nothing_found : (pick : Pick) (from to : ℕ) → IsAnswer map.empty pick from to []
nothing_found pick from to = record {
  ordered = record { ids = tt; times = λ s m. absurd m; none_empty = λ s m. absurd m };
  nothing_else = λ p m. absurd m;
  whole = λ p w. absurd (nothing_held map.empty refl p w.stands);
}

-- ---- without matchers

-- without matchers each point of the namespace is asked for
all_match : (ns : ℕ) (p : Point) → p.ns ≡ ns → Matches (pick.Match ns []) p
all_match ns p e = (e, λ tags has m none. absurd none)

-- an answer that has all of a content stands for it
pub stands_for_all : (c : Contents) (ns from to : ℕ) (series : List Series) → IsAnswer c (pick.Match ns []) from to series → ((p : Point) → HasPoint c p → (p.ns ≡ ns) × InRange from to p)
    → content_of (points_in ns series) ≡ c
stands_for_all c ns from to series a all = same_content _ _ (λ k. by k (map.get c k) (map.get (content_of (points_in ns series)) k) refl refl)
  where
    by : (k : Key) (o found : Option ℤ) → map.get c k ≡ o → map.get (content_of (points_in ns series)) k ≡ found → map.get (content_of (points_in ns series)) k ≡ map.get c k
    by k (Some v) found stands is =
        let p = point_at k v in
        let where_is = all p stands in
        same_at c (pick.Match ns []) from to series a p (all_match ns p where_is.0) where_is.1
    by k None None none is = is ∙ sym none
    by k None (Some v) none is =
        let wanted = a.nothing_else (point_at k v) (content_in (points_in ns series) (point_at k v) is) in
        let bad : None ≡ Some v = sym none ∙ wanted.stands in cc

-- the keys of a block
abbrev of_block : Contents → ℕ → ℕ → ℕ → Contents
of_block c ns start size = map.retain_keys c (is_in_block ns start size)

module _ (c : Contents) (ns start size : ℕ) where
  get-of_block : (k : Key) → map.get (of_block c ns start size) k ≡ cond (is_in_block ns start size k) (map.get c k) None
  get-of_block k = get-retain_keys c (is_in_block ns start size) k (λ x e. ap (is_in_block ns start size) (sym (key_cmp-IsAntisymmetric k x e)))

  in_block : (p : Point) → p.ns ≡ ns → InRange start (start + size) p → is_in_block ns start size (key_of p) ≡ true
  in_block p e r =
      let a : nat_eq ns p.ns ≡ true = eq-eqb ns p.ns (sym e) in
      let b : nat_le start p.t ≡ true = le-leb start p.t r.0 in
      let d : nat_lt p.t (start + size) ≡ true = lt-ltb p.t (start + size) r.1 in
      cc

  of_in_block : (p : Point) → is_in_block ns start size (key_of p) ≡ true → (p.ns ≡ ns) × InRange start (start + size) p
  of_in_block p t =
      let outer = both_true (nat_eq ns p.ns) _ t in
      let inner = both_true (nat_le start p.t) (nat_lt p.t (start + size)) outer.1 in
      (sym (eqb-true ns p.ns outer.0), (leb-true start p.t inner.0, ltb-true p.t (start + size) inner.1))

  of_block_has : (p : Point) → HasPoint c p → p.ns ≡ ns → InRange start (start + size) p → HasPoint (of_block c ns start size) p
  of_block_has p h e r = get-of_block (key_of p) ∙ ap (λ b. cond b (map.get c (key_of p)) None) (in_block p e r) ∙ h

  has_of_block : (p : Point) → HasPoint (of_block c ns start size) p → HasPoint c p × (p.ns ≡ ns) × InRange start (start + size) p
  has_of_block p h = by (is_in_block ns start size (key_of p)) refl
    where
      by : (b : Bool) → is_in_block ns start size (key_of p) ≡ b → HasPoint c p × (p.ns ≡ ns) × InRange start (start + size) p
      by true t = let where_is = of_in_block p t in (sym (get-of_block (key_of p) ∙ ap (λ b. cond b (map.get c (key_of p)) None) t) ∙ h, where_is.0, where_is.1)
      by false t = let bad : None ≡ Some p.v = sym (get-of_block (key_of p) ∙ ap (λ b. cond b (map.get c (key_of p)) None) t) ∙ h in cc

pub block_is_range : BlockIsRange
block_is_range c ns start size rows ranges =
    let range = ranges [] in
    stands_for_all (of_block c ns start size) ns start (start + size) rows
    (record {
      ordered = range.ordered;
      nothing_else = λ p m. let w = range.nothing_else p m in record { stands = of_block_has c ns start size p w.0 w.1 w.2; matches = all_match ns p w.1; in_range = w.2 };
      whole = λ p w. let h = has_of_block c ns start size p w.stands in range.whole p h.0 h.1 h.2;
    })
    (λ p h. let w = has_of_block c ns start size p h in (w.1, w.2))
