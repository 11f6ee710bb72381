-- A page that a replica may give is that of some content that shows it.
use Rattle.std.proofs.Common.{◌≡◌, ℕ, zero, suc, ℤ, ◌≤ℤ◌, List, [], ◌∷◌, ◌++◌, length, map, refl, sym, ap, ◌∙◌, subst, inl, inr, arith, ◌+◌}
use Rattle.std.specs.Prelude.{◌⊎◌, ⊤, Option, Some, None, MatchOption}
use Rattle.std.specs.FinMap as finite
use Rattle.std.specs.FinMap.{entries}
use Rattle.std.specs.declared.cmp.Ordering.TheVariants.{Less}
use Rattle.std.proofs.lemmas.Bool.{cases_eq, cases_lt}
use Rattle.std.proofs.lemmas.Int.{ints}
use Rattle.std.proofs.lemmas.Option.{same_Some}
use Rattle.m3_model.specs.Ascends.{Ascends}
use Rattle.m3_model.specs.Contents.{Contents, Holds, key_of, point_at}
use Rattle.m3_model.specs.Keys.{key_cmp, key_cmp_total}
use Rattle.m3_model.specs.Members.{IsIn}
use Rattle.m3_model.specs.Reads.{Covers}
use Rattle.m3_model.specs.declared.point.Key.{Key}
use Rattle.m3_model.specs.declared.point.Page.{Page}
use Rattle.m3_model.specs.declared.point.Point.{Point}
use Rattle.m3_model.proofs.FindLemmas.{IsIn-get, entries_ascend, get-IsIn}
use Rattle.m3_model.proofs.Keyed.{key_cmp-IsAntisymmetric}
use Rattle.m3_model.proofs.MemberLemmas.{IsIn-append_cases, IsIn-append_left, IsIn-append_right, IsIn-map, map-IsIn}
use Rattle.m3_model.proofs.Ascending.{Ascends-append}
use Rattle.m3_model.proofs.Lists.{nil_from_no_member}
use Rattle.placement_core.proofs.ListLemmas.{IsIn-from_Any, each-from_All}
use Rattle.cluster_core.specs.Answers.{AsksFor, GoesOn, IsKeyBelow, IsInBlock, IsPage, IsPastKey, IsUpTo}
use Rattle.cluster_core.specs.Lists.{At}
use Rattle.cluster_core.specs.Replicas.{IsGone, Shows}
use Rattle.cluster_core.specs.Shown.{IsPageOf, Says}
use Rattle.cluster_core.specs.declared.event.StepCall.{StepCall}
use Rattle.cluster_core.specs.declared.event.StepCall.TheVariants as call
use Rattle.cluster_core.specs.declared.replica_state.ReplicaState.{ReplicaState}
use Rattle.cluster_core.proofs.ListLemmas.{at_in, at_within, in_at}
use Rattle.told_by.specs.Shown.{PageIsShown}
use Rattle.told_by.proofs.ContentLemmas.{Goes, Parted, Stays, by_key, below_not_same, below_or_not, content_by, exact_by, has_key, holds_by, left, part, source_by}

-- ---- tests of what a page asks for

past_or_not : (from : Option Key) (k : Key) → IsPastKey from k ⊎ (IsPastKey from k → ⊥)
past_or_not None k = inl tt
past_or_not (Some a) k = below_or_not a k

in_block_or_not : (ns start size : ℕ) (p : Point) → IsInBlock ns start size p ⊎ (IsInBlock ns start size p → ⊥)
in_block_or_not ns start size p =
    elim (cases_eq p.ns ns) as (λ _. IsInBlock ns start size p ⊎ (IsInBlock ns start size p → ⊥)) [
      | inl same ↦ elim (cases_lt p.t start) as (λ _. IsInBlock ns start size p ⊎ (IsInBlock ns start size p → ⊥)) [
        | inl below ↦ inr (λ h. omega (arith, below, h.low))
        | inr low ↦ elim (cases_lt p.t (start + size)) as (λ _. IsInBlock ns start size p ⊎ (IsInBlock ns start size p → ⊥)) [
          | inl high ↦ inl (record { space = same; low = omega (arith, low); high = high })
          | inr above ↦ inr (λ h. omega (arith, above, h.high))
        ]
      ]
      | inr other ↦ inr (λ h. omega (arith, other, h.space))
    ]

asks_or_not : (c : StepCall) (p : Point) → AsksFor c p ⊎ (AsksFor c p → ⊥)
asks_or_not (call.Page from) p = past_or_not from (key_of p)
asks_or_not (call.Block ns start size from) p =
    elim (past_or_not from (key_of p)) as (λ _. AsksFor (call.Block ns start size from) p ⊎ (AsksFor (call.Block ns start size from) p → ⊥)) [
      | inl past ↦ elim (in_block_or_not ns start size p) as (λ _. AsksFor (call.Block ns start size from) p ⊎ (AsksFor (call.Block ns start size from) p → ⊥)) [
        | inl inside ↦ inl (past, inside)
        | inr outside ↦ inr (λ h. outside h.1)
      ]
      | inr not_past ↦ inr (λ h. not_past h.0)
    ]
asks_or_not _ p = inr (λ h. h)

-- what is asked for doesn't depend on the value
asks_at : (c : StepCall) (p : Point) (v : ℤ) → AsksFor c p → AsksFor c (record p { v = v })
asks_at (call.Page from) p v h = h
asks_at (call.Block ns start size from) p v h = (h.0, record { space = (h.1).space; low = (h.1).low; high = (h.1).high })
asks_at _ p v h = absurd h

-- ---- lists in order

-- all elements but the last stand before it
last_top : (Before : Point → Point → Type 0) (xs : List Point) (n : ℕ) (last : Point) → Ascends Before xs → At xs n last → length xs ≡ suc n → (x : Point) → IsIn xs x → (x ≡ last) ⊎ Before x last
last_top Before [] n last a there whole x m = absurd m
last_top Before (y ∷ ys) zero last a there whole x (inl e) = inl (sym e ∙ same_Some y last there)
last_top Before (y ∷ ys) zero last a there whole x (inr m) = let at = in_at ys x m in absurd (omega (arith, at_within ys at.0 x at.1, whole))
last_top Before (y ∷ ys) (suc n) last a there whole x (inl e) = inr (subst (λ z. Before z last) e (a.0 last (at_in ys n last there)))
last_top Before (y ∷ ys) (suc n) last a there whole x (inr m) = last_top Before ys n last a.1 there (omega (arith, whole)) x m

-- the points of the entries of a content, in order
abbrev point_by : Key × ℤ → Point
point_by e = point_at e.0 e.1

points_ascend : (es : List (Key × ℤ)) → Ascends (λ a b. key_cmp a.0 b.0 ≡ Less) es → Ascends by_key (map point_by es)
points_ascend [] a = tt
points_ascend (e ∷ es) a = ((λ q m. let o = IsIn-map point_by es q m in subst (λ z. IsKeyBelow e.0 (key_of z)) o.2 (a.0 o.0 o.1)), points_ascend es a.1)

module _ (r : ReplicaState) (c : StepCall) (page : Page) (is : IsPage r c page) where
  abbrev rest : Parted (Stays r page.points) (Goes r page.points) by_key r.sure
  rest = left r page.points

  asked_in : (p : Point) → IsIn page.points p → IsIn r.sure p × AsksFor c p
  asked_in p m = each-from_All (λ q. IsIn r.sure q × AsksFor c q) page.points is.nothing_else p m

  covered : (p : Point) → IsIn r.sure p → ¬ IsGone r p → AsksFor c p → IsUpTo page.next (key_of p) → Covers page.points p
  covered p m stays asks up = each-from_All (λ q. ¬ IsGone r q → AsksFor c q → IsUpTo page.next (key_of q) → Covers page.points q) r.sure is.all_there p m stays asks up

  -- a point that the page leaves and that is asked for lies past it
  not_up : (p : Point) → IsIn rest.kept p → AsksFor c p → IsUpTo page.next (key_of p) → ⊥
  not_up p m asks up = let s = rest.sound p m in let h = covered p s.0 (s.1).0 asks up in (s.1).1 (record p { v = h.value }) h.stands refl

  one_key : (xs : List Point) → Ascends by_key xs → (p q : Point) → IsIn xs p → IsIn xs q → key_of q ≡ key_of p → q.v ≡ p.v
  one_key [] a p q mp mq same = absurd mp
  one_key (x ∷ xs) a p q (inl e) (inl f) same = ap (λ (z : Point). z.v) (sym f ∙ e)
  one_key (x ∷ xs) a p q (inl e) (inr k) same = absurd (below_not_same (key_of x) (key_of q) (a.0 q k) (ap key_of e ∙ sym same))
  one_key (x ∷ xs) a p q (inr k) (inl f) same = absurd (below_not_same (key_of x) (key_of p) (a.0 p k) (ap key_of f ∙ same))
  one_key (x ∷ xs) a p q (inr k) (inr l) same = one_key xs a.1 p q k l same

  -- what stands past the page: points that it leaves, and some more sure ones
  module _ (extra : List Point) (sure : (y : Point) → IsIn extra y → IsIn r.sure y) (apart : (y : Point) → IsIn extra y → (x : Point) → IsIn page.points x → key_of x ≡ key_of y → ⊥)
      (up : (x : Point) → IsIn page.points x → IsUpTo page.next (key_of x)) (above : (y : Point) → IsIn (rest.kept ++ extra) y → AsksFor c y → (x : Point) → IsIn page.points x → by_key x y) where
    abbrev others : List Point
    others = rest.kept ++ extra

    abbrev shown : List Point
    shown = page.points ++ others

    abbrev content : Contents
    content = content_by shown

    other_key : (y : Point) → IsIn others y → (x : Point) → IsIn page.points x → key_of x ≡ key_of y → ⊥
    other_key y m x k same = elim (IsIn-append_cases rest.kept extra y m) as (λ _. ⊥) [ inl kept ↦ ((rest.sound y kept).1).1 x k same | inr more ↦ apart y more x k same ]

    -- asked for, and not on the page
    abbrev Follows : Point → Type 0
    Follows p = AsksFor c p × ((q : Point) → IsIn page.points q → key_of q ≡ key_of p → ⊥)

    abbrev Other : Point → Type 0
    Other p = (AsksFor c p → ⊥) ⊎ ((q : Point) × IsIn page.points q × (key_of q ≡ key_of p))

    follows_or_not : (p : Point) → Follows p ⊎ Other p
    follows_or_not p =
        elim (asks_or_not c p) as (λ _. Follows p ⊎ Other p) [
          | inl asks ↦ elim (has_key page.points (key_of p)) as (λ _. Follows p ⊎ Other p) [ inl k ↦ inr (inr k) | inr nk ↦ inl (asks, nk) ]
          | inr not ↦ inr (inl not)
        ]

    behind : Parted Follows Other by_key (map point_by (entries content))
    behind = part Follows Other by_key follows_or_not (map point_by (entries content))

    stands_in : (p : Point) → IsIn (map point_by (entries content)) p → finite.get content (key_of p) ≡ Some p.v
    stands_in p m = let e = IsIn-map point_by (entries content) p m in subst (λ z. finite.get content (key_of z) ≡ Some z.v) e.2 (IsIn-get key_cmp key_cmp_total key_cmp-IsAntisymmetric content (e.0).0 (e.0).1 e.1)

    behind_other : (y : Point) → IsIn behind.kept y → IsIn others y × AsksFor c y
    behind_other y m =
        let s = behind.sound y m in
        elim (IsIn-append_cases page.points others y (source_by shown (key_of y) y.v (stands_in y s.0))) as (λ _. IsIn others y × AsksFor c y) [
          | inl front ↦ absurd ((s.1).1 y front refl)
          | inr back ↦ (back, (s.1).0)
        ]

    is_behind : (k : Key) (v : ℤ) → finite.get content k ≡ Some v → IsIn others (point_at k v) → AsksFor c (point_at k v) → IsIn behind.kept (point_at k v)
    is_behind k v e m asks =
        elim (behind.all (point_at k v) (map-IsIn point_by (entries content) (k, v) (get-IsIn key_cmp key_cmp_total key_cmp-IsAntisymmetric content k v e))) as (λ _. IsIn behind.kept (point_at k v)) [
          | inl kept ↦ kept
          | inr other ↦ elim other as (λ _. IsIn behind.kept (point_at k v)) [ inl not ↦ absurd (not asks) | inr q ↦ absurd (other_key (point_at k v) m q.0 q.1 q.2) ]
        ]

    covered_holds : (p : Point) → Covers page.points p → Holds content p
    covered_holds p cover =
        let h = holds_by shown (record p { v = cover.value }) (IsIn-append_left page.points others (record p { v = cover.value }) cover.stands) in
        let low : p.v ≤ℤ cover.value = cover.at_least in
        let high : cover.value ≤ℤ h.value = h.at_least in
        record { value = h.value; at_least = grind (arith, ints); stands = h.stands }

    shows : Shows r content
    shows = record {
      sure = λ k v e. elim (IsIn-append_cases page.points others (point_at k v) (source_by shown k v e)) as (λ _. IsIn r.sure (point_at k v)) [
        | inl front ↦ (asked_in (point_at k v) front).0
        | inr back ↦ elim (IsIn-append_cases rest.kept extra (point_at k v) back) as (λ _. IsIn r.sure (point_at k v)) [ inl kept ↦ (rest.sound (point_at k v) kept).0 | inr more ↦ sure (point_at k v) more ]
      ];
      all = λ p m stays. elim (rest.all p m) as (λ _. Holds content p) [
        | inl kept ↦ holds_by shown p (IsIn-append_right page.points others p (IsIn-append_left rest.kept extra p kept))
        | inr goes ↦ elim goes as (λ _. Holds content p) [
          | inl g ↦ absurd (stays g)
          | inr q ↦
              let same : record q.0 { v = p.v } ≡ p = ap (λ (k : Key). point_at k p.v) q.2 in
              covered_holds p (covered p m stays (subst (AsksFor c) same (asks_at c q.0 p.v (asked_in q.0 q.1).1)) (subst (IsUpTo page.next) q.2 (up q.0 q.1)))
        ]
      ];
    }

    one_at : (p : Point) → IsIn page.points p → (q : Point) → IsIn shown q → key_of q ≡ key_of p → q.v ≡ p.v
    one_at p m q k same =
        elim (IsIn-append_cases page.points others q k) as (λ _. q.v ≡ p.v) [ inl front ↦ one_key page.points is.ascending p q m front same | inr back ↦ absurd (other_key q back p m (sym same)) ]

    page_by : Says page behind.kept → (shown : Contents) × Shows r shown × IsPageOf shown c page
    page_by says = (
      content,
      shows,
      record {
        rest = behind.kept;
        sound = λ p m. elim (IsIn-append_cases page.points behind.kept p m) as (λ _. (finite.get content (key_of p) ≡ Some p.v) × AsksFor c p) [
          | inl front ↦ (exact_by shown p (IsIn-append_left page.points others p front) (one_at p front), (asked_in p front).1)
          | inr back ↦ let s = behind.sound p back in (stands_in p s.0, (s.1).0)
        ];
        all = λ k v e asks. elim (IsIn-append_cases page.points others (point_at k v) (source_by shown k v e)) as (λ _. IsIn (page.points ++ behind.kept) (point_at k v)) [
          | inl front ↦ IsIn-append_left page.points behind.kept (point_at k v) front
          | inr back ↦ IsIn-append_right page.points behind.kept (point_at k v) (is_behind k v e back asks)
        ];
        ascending = Ascends-append by_key page.points behind.kept is.ascending
            (behind.order (points_ascend (entries content) (entries_ascend key_cmp key_cmp_total key_cmp-IsAntisymmetric content)))
            (λ x y mx my. let o = behind_other y my in above y o.0 o.1 x mx);
        few = is.few;
        next = says;
      },
    )

  -- where nothing follows, the page has all
  by_none : page.next ≡ None → (shown : Contents) × Shows r shown × IsPageOf shown c page
  by_none e =
      let over : (y : Point) → IsIn (rest.kept ++ []) y → AsksFor c y → ⊥ =
      λ y m asks. elim (IsIn-append_cases rest.kept [] y m) as (λ _. ⊥) [ inl kept ↦ not_up y kept asks (subst (λ n. IsUpTo n (key_of y)) (sym e) tt) | inr none ↦ none ] in
      let none : (y : Point) → IsIn [] y → IsIn r.sure y = λ y n. absurd n in
      let apart : (y : Point) → IsIn [] y → (x : Point) → IsIn page.points x → key_of x ≡ key_of y → ⊥ = λ y n x m same. n in
      let up : (x : Point) → IsIn page.points x → IsUpTo page.next (key_of x) = λ x m. subst (λ n. IsUpTo n (key_of x)) (sym e) tt in
      let above : (y : Point) → IsIn (rest.kept ++ []) y → AsksFor c y → (x : Point) → IsIn page.points x → by_key x y = λ y m asks x k. absurd (over y m asks) in
      page_by [] none apart up above (inl (nil_from_no_member _ (λ y m. let o = behind_other [] none apart up above y m in over y o.0 o.1), e))

  -- where it goes on, some point that is asked for follows
  by_some : (next : Key) → page.next ≡ Some next → GoesOn r c page next → (shown : Contents) × Shows r shown × IsPageOf shown c page
  by_some next e g =
      let m = IsIn-from_Any (λ p. AsksFor c p × IsKeyBelow next (key_of p)) r.sure g.more in
      let more = m.0 in
      let below : (x : Point) → IsIn page.points x → (k : Key) → IsKeyBelow next k → IsKeyBelow (key_of x) k =
      λ x mx k past. elim (last_top by_key page.points 63 g.last is.ascending g.at_end g.full x mx) as (λ _. IsKeyBelow (key_of x) k) [
        | inl same ↦ subst (λ z. IsKeyBelow z k) (sym (ap key_of same ∙ g.next_is)) past
        | inr before ↦ key_cmp_total.trans (key_of x) next k (subst (IsKeyBelow (key_of x)) g.next_is before) past
      ] in
      let sure : (y : Point) → IsIn (more ∷ []) y → IsIn r.sure y = λ y k. elim k as (λ _. IsIn r.sure y) [ inl same ↦ subst (IsIn r.sure) same m.1 | inr none ↦ absurd none ] in
      let apart : (y : Point) → IsIn (more ∷ []) y → (x : Point) → IsIn page.points x → key_of x ≡ key_of y → ⊥ =
      λ y k x mx same. elim k as (λ _. ⊥) [ inl is_more ↦ below_not_same (key_of x) (key_of y) (below x mx (key_of y) (subst (λ z. IsKeyBelow next (key_of z)) is_more (m.2).1)) same | inr none ↦ none ] in
      let up : (x : Point) → IsIn page.points x → IsUpTo page.next (key_of x) = λ x mx. subst (λ n. IsUpTo n (key_of x)) (sym e) (λ past. below_not_same (key_of x) (key_of x) (below x mx (key_of x) past) refl) in
      let past_next : (y : Point) → IsIn (rest.kept ++ more ∷ []) y → AsksFor c y → IsKeyBelow next (key_of y) =
      λ y k asks. elim (IsIn-append_cases rest.kept (more ∷ []) y k) as (λ _. IsKeyBelow next (key_of y)) [
        | inl kept ↦ elim (below_or_not next (key_of y)) as (λ _. IsKeyBelow next (key_of y)) [ inl past ↦ past | inr not ↦ absurd (not_up y kept asks (subst (λ n. IsUpTo n (key_of y)) (sym e) not)) ]
        | inr last ↦ elim last as (λ _. IsKeyBelow next (key_of y)) [ inl is_more ↦ subst (λ z. IsKeyBelow next (key_of z)) is_more (m.2).1 | inr none ↦ absurd none ]
      ] in
      let above : (y : Point) → IsIn (rest.kept ++ more ∷ []) y → AsksFor c y → (x : Point) → IsIn page.points x → by_key x y = λ y k asks x mx. below x mx (key_of y) (past_next y k asks) in
      by_more next e g more (more ∷ []) (inl refl) (m.2).0 sure apart up above
    where
      by_more : (next : Key) → page.next ≡ Some next → (g : GoesOn r c page next) → (more : Point) (extra : List Point) → IsIn extra more → AsksFor c more → (sure : (y : Point) → IsIn extra y → IsIn r.sure y)
          → (apart : (y : Point) → IsIn extra y → (x : Point) → IsIn page.points x → key_of x ≡ key_of y → ⊥) → (up : (x : Point) → IsIn page.points x → IsUpTo page.next (key_of x))
          → (above : (y : Point) → IsIn (rest.kept ++ extra) y → AsksFor c y → (x : Point) → IsIn page.points x → by_key x y) → (shown : Contents) × Shows r shown × IsPageOf shown c page
      by_more next e g more extra among asks sure apart up above =
          let h = holds_by (shown extra sure apart up above) more (IsIn-append_right page.points (rest.kept ++ extra) more (IsIn-append_right rest.kept extra more among)) in
          let there = point_at (key_of more) h.value in
          let other : IsIn (rest.kept ++ extra) there =
          elim (IsIn-append_cases page.points (rest.kept ++ extra) there (source_by (shown extra sure apart up above) (key_of more) h.value h.stands)) as (λ _. IsIn (rest.kept ++ extra) there) [
            | inl front ↦ absurd (apart more among there front refl)
            | inr back ↦ back
          ] in
          page_by extra sure apart up above
          (inr (there, is_behind extra sure apart up above (key_of more) h.value h.stands other (asks_at c more h.value asks), g.full, g.last, g.at_end, e ∙ ap Some (sym g.next_is)))

  page_shown : (o : Option Key) → page.next ≡ o → MatchOption o ⊤ (λ k. GoesOn r c page k) → (shown : Contents) × Shows r shown × IsPageOf shown c page
  page_shown None e g = by_none e
  page_shown (Some next) e g = by_some next e g

pub page_is_shown : PageIsShown
page_is_shown r c page is = page_shown r c page is page.next refl is.next
