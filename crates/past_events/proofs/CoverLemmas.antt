-- Covers in a list of events, looked for in one pass: the keys from which a page may go on.
use Rattle.std.proofs.Common.{◌≡◌, ◌⊎◌, ◌↔◌, ℕ, suc, List, [], ◌∷◌, ◌++◌, drop, refl, sym, ap, ◌∙◌, subst, inl, inr, Any, ◌+◌, ◌≤◌, length, add-one}
use Rattle.std.specs.Prelude.{Option, Some, None, MatchOption}
use Rattle.std.proofs.lemmas.List.{drop_all}
use Rattle.m3_model.specs.Members.{IsIn}
use Rattle.m3_model.proofs.MemberLemmas.{IsIn-append_left, IsIn-append_right, IsIn-append_cases}
use Rattle.m3_model.specs.declared.point.Key.{Key}
use Rattle.m3_model.specs.declared.point.Page.{Page}
use Rattle.placement_core.proofs.ListLemmas.{IsIn-from_Any, Any-from_IsIn}
use Rattle.cluster_core.specs.Answers.{PageAsked, IsCoverFrom}
use Rattle.past_events.specs.Joining.{IsNext, IsNoNext}
use Rattle.cluster_core.specs.Joins.{GaveAsked, MergedPage, GavePages, HasCover}
use Rattle.cluster_core.specs.Lists.{At}
use Rattle.cluster_core.specs.declared.event.Event.{Event}
use Rattle.cluster_core.specs.declared.event.Event.TheVariants as event
use Rattle.cluster_core.specs.declared.event.StepCall.TheVariants as call
use Rattle.cluster_core.specs.declared.event.StepReply.TheVariants as reply
use Rattle.placement_core.proofs.AscendLemmas.{drop_here}

-- an event gives one page, asked for in one way
pub one_asked : (q s : ℕ) (p r : PageAsked) (e : Event) → GaveAsked q s p e → GaveAsked q s r e → (p.0 ≡ r.0) × (p.1 ≡ r.1)
one_asked q s p r (event.Step node shard (call.Page from) (reply.Paged page)) g h = (sym g.2 ∙ h.2, sym g.3 ∙ h.3)
one_asked q s p r _ g h = absurd g

module _ (s q y : ℕ) (since : List Event) where
  abbrev pub Merged : Page → Type 0
  Merged page = Any (MergedPage y s page) since

  -- pages from the key on, given in the events and merged
  pub record CoverFrom (from : Option Key) (events : List Event) : Type 0 where
    pub pages : List PageAsked
    pub cover : IsCoverFrom from pages
    pub given : GavePages q s pages events
    pub merged : (p : PageAsked) → IsIn pages p → Merged p.1

  pub cover_first : (later : List Event) → HasCover s q y since later ↔ CoverFrom None later
  cover_first later = (λ h. record { pages = h.pages; cover = h.cover; given = h.given; merged = h.merged }, λ h. record { pages = h.pages; cover = h.cover; given = h.given; merged = h.merged })

  pub cover_none : (from : Option Key) → CoverFrom from [] → ⊥
  cover_none from h = by h.pages h.cover h.given
    where
      by : (pages : List PageAsked) → IsCoverFrom from pages → GavePages q s pages [] → ⊥
      by [] c g = c
      by (p ∷ pages) c g = g

  cover_skip : (from : Option Key) (e : Event) (es : List Event) → CoverFrom from es → CoverFrom from (e ∷ es)
  cover_skip from e es h = record { pages = h.pages; cover = h.cover; given = by h.pages h.given; merged = h.merged }
    where
      by : (pages : List PageAsked) → GavePages q s pages es → GavePages q s pages (e ∷ es)
      by [] g = tt
      by (p ∷ pages) g = inr g

  cover_last : (from : Option Key) (page : Page) (e : Event) (es : List Event) → GaveAsked q s (from, page) e → Merged page → page.next ≡ None → CoverFrom from (e ∷ es)
  cover_last from page e es gave merged ends = record {
    pages = (from, page) ∷ [];
    cover = (refl, ending page.next ends);
    given = inl (gave, tt);
    merged = λ p m. elim m as (λ _. Merged p.1) [ inl same ↦ subst (λ (z : PageAsked). Merged z.1) same merged | inr none ↦ absurd none ];
  }
    where
      left : List PageAsked
      left = []

      ending : (next : Option Key) → next ≡ None → MatchOption next (left ≡ []) (λ k. IsCoverFrom (Some k) left)
      ending None is = refl
      ending (Some k) is = cc

  cover_on : (from : Option Key) (page : Page) (n : Key) (e : Event) (es : List Event) → GaveAsked q s (from, page) e → Merged page → page.next ≡ Some n → CoverFrom (Some n) es → CoverFrom from (e ∷ es)
  cover_on from page n e es gave merged next h = record {
    pages = (from, page) ∷ h.pages;
    cover = (refl, subst (λ o. MatchOption o (h.pages ≡ []) (λ k. IsCoverFrom (Some k) h.pages)) (sym next) h.cover);
    given = inl (gave, h.given);
    merged = λ p m. elim m as (λ _. Merged p.1) [ inl same ↦ subst (λ (z : PageAsked). Merged z.1) same merged | inr later ↦ h.merged p later ];
  }

  -- what begins a cover from the key
  record Begins (from : Option Key) (e : Event) (es : List Event) : Type 0 where
    page : Page
    gave : GaveAsked q s (from, page) e
    merged : Merged page
    next : (page.next ≡ None) ⊎ ((n : Key) × (page.next ≡ Some n) × CoverFrom (Some n) es)

  cover_cases : (from : Option Key) (e : Event) (es : List Event) → CoverFrom from (e ∷ es) → CoverFrom from es ⊎ Begins from e es
  cover_cases from e es h = by h.pages h.cover h.given h.merged
    where
      goes : (next : Option Key) (pages : List PageAsked) → MatchOption next (pages ≡ []) (λ k. IsCoverFrom (Some k) pages) → GavePages q s pages es → ((p : PageAsked) → IsIn pages p → Merged p.1)
          → (next ≡ None) ⊎ ((n : Key) × (next ≡ Some n) × CoverFrom (Some n) es)
      goes None pages c g m = inl refl
      goes (Some k) pages c g m = inr (k, refl, record { pages = pages; cover = c; given = g; merged = m })

      by : (pages : List PageAsked) → IsCoverFrom from pages → GavePages q s pages (e ∷ es) → ((p : PageAsked) → IsIn pages p → Merged p.1) → CoverFrom from es ⊎ Begins from e es
      by [] c g m = absurd c
      by (p ∷ pages) c g m =
          elim g as (λ _. CoverFrom from es ⊎ Begins from e es) [
            | inl here ↦ inr (record {
              page = p.1;
              gave = subst (λ k. GaveAsked q s (k, p.1) e) c.0 here.0;
              merged = m p (inl refl);
              next = goes (p.1).next pages c.1 here.1 (λ r k. m r (inr k));
            })
            | inr later ↦ inl (record { pages = p ∷ pages; cover = c; given = later; merged = m })
          ]

  -- from one of the keys on
  abbrev pub FromSome : List (Option Key) → List Event → Type 0
  FromSome keys events = Any (λ k. CoverFrom k events) keys

  to_some : (keys : List (Option Key)) (k : Option Key) (events : List Event) → IsIn keys k → CoverFrom k events → FromSome keys events
  to_some keys k events m h = Any-from_IsIn (λ j. CoverFrom j events) keys k m h

  of_some : (keys : List (Option Key)) (events : List Event) → FromSome keys events → (k : Option Key) × IsIn keys k × CoverFrom k events
  of_some keys events h = IsIn-from_Any (λ j. CoverFrom j events) keys h

  -- an event that gives no page from a key that was merged leaves the keys
  pub keys_stay : (keys : List (Option Key)) (later : List Event) (i : ℕ) (e : Event) → At later i e → ((k : Option Key) (page : Page) → IsIn keys k → GaveAsked q s (k, page) e → Merged page → ⊥)
      → FromSome keys (drop i later) ↔ FromSome keys (drop (suc i) later)
  keys_stay keys later i e at none =
      let here : drop i later ≡ e ∷ drop (suc i) later = drop_here later i e at in (
        λ h.
            let k = of_some keys (drop i later) h in
            elim (cover_cases k.0 e (drop (suc i) later) (subst (CoverFrom k.0) here k.2)) as (λ _. FromSome keys (drop (suc i) later)) [
              | inl on ↦ to_some keys k.0 (drop (suc i) later) k.1 on
              | inr b ↦ absurd (none k.0 b.page k.1 b.gave b.merged)
            ],
        λ h. let k = of_some keys (drop (suc i) later) h in to_some keys k.0 (drop i later) k.1 (subst (CoverFrom k.0) (sym here) (cover_skip k.0 e (drop (suc i) later) k.2)),
      )

  -- a merged page from one of the keys adds the key from which it goes on
  pub keys_grow : (keys : List (Option Key)) (later : List Event) (i : ℕ) (e : Event) (from : Option Key) (page : Page) (n : Key) → At later i e → IsIn keys from → GaveAsked q s (from, page) e → Merged page → page.next ≡ Some n
      → FromSome keys (drop i later) ↔ FromSome (keys ++ Some n ∷ []) (drop (suc i) later)
  keys_grow keys later i e from page n at key gave merged next =
      let here : drop i later ≡ e ∷ drop (suc i) later = drop_here later i e at in (
        λ h.
            let k = of_some keys (drop i later) h in
            elim (cover_cases k.0 e (drop (suc i) later) (subst (CoverFrom k.0) here k.2)) as (λ _. FromSome (keys ++ Some n ∷ []) (drop (suc i) later)) [
              | inl on ↦ to_some (keys ++ Some n ∷ []) k.0 (drop (suc i) later) (IsIn-append_left keys (Some n ∷ []) k.0 k.1) on
              | inr b ↦
                  let same = one_asked q s (k.0, b.page) (from, page) e b.gave gave in
                  elim b.next as (λ _. FromSome (keys ++ Some n ∷ []) (drop (suc i) later)) [
                    | inl ends ↦ let clash : None ≡ Some n = sym ends ∙ ap (λ (z : Page). z.next) same.1 ∙ next in cc
                    | inr goes ↦
                        let is : Some goes.0 ≡ Some n = sym goes.1 ∙ ap (λ (z : Page). z.next) same.1 ∙ next in
                        to_some (keys ++ Some n ∷ []) (Some n) (drop (suc i) later) (IsIn-append_right keys (Some n ∷ []) (Some n) (inl refl)) (subst (λ o. CoverFrom o (drop (suc i) later)) is goes.2)
                  ]
            ],
        λ h.
            let k = of_some (keys ++ Some n ∷ []) (drop (suc i) later) h in
            elim (IsIn-append_cases keys (Some n ∷ []) k.0 k.1) as (λ _. FromSome keys (drop i later)) [
              | inl m ↦ to_some keys k.0 (drop i later) m (subst (CoverFrom k.0) (sym here) (cover_skip k.0 e (drop (suc i) later) k.2))
              | inr m ↦ elim m as (λ _. FromSome keys (drop i later)) [
                | inl is ↦ to_some keys from (drop i later) key (subst (CoverFrom from) (sym here) (cover_on from page n e (drop (suc i) later) gave merged next (subst (λ o. CoverFrom o (drop (suc i) later)) (sym is) k.2)))
                | inr none ↦ absurd none
              ]
            ],
      )

  -- a merged page from one of the keys that is the last ends a cover
  pub keys_end : (keys : List (Option Key)) (later : List Event) (i : ℕ) (e : Event) (from : Option Key) (page : Page) → At later i e → IsIn keys from → GaveAsked q s (from, page) e → Merged page → page.next ≡ None → FromSome keys (drop i later)
  keys_end keys later i e from page at key gave merged next = to_some keys from (drop i later) key (subst (CoverFrom from) (sym (drop_here later i e at)) (cover_last from page e (drop (suc i) later) gave merged next))

  pub keys_none : (keys : List (Option Key)) → FromSome keys [] → ⊥
  keys_none keys h = let k = of_some keys [] h in cover_none k.0 k.2

  -- one event further, in the words of the loop
  pub stay_on : (keys : List (Option Key)) (later : List Event) (i : ℕ) (e : Event) → At later i e → IsNoNext s q y since keys e → (HasCover s q y since later ↔ FromSome keys (drop i later)) → HasCover s q y since later ↔ FromSome keys (drop (i + 1) later)
  stay_on keys later i e at none was =
      let step = keys_stay keys later i e at (λ k page m gave merged. none page (record { from = k; known = Any-from_IsIn (λ j. j ≡ k) keys k m refl; gave = gave; merged = merged })) in
      let next : drop (i + 1) later ≡ drop (suc i) later = ap (λ n. drop n later) (add-one i) in
      (λ h. subst (FromSome keys) (sym next) (step.0 (was.0 h)), λ h. was.1 (step.1 (subst (FromSome keys) next h)))

  known_in : (keys : List (Option Key)) (e : Event) (page : Page) → (h : IsNext s q y since keys e page) → IsIn keys h.from
  known_in keys e page h = let k = IsIn-from_Any (λ j. j ≡ h.from) keys h.known in subst (IsIn keys) k.2 k.1

  pub grow_on : (keys : List (Option Key)) (later : List Event) (i : ℕ) (e : Event) (page : Page) (n : Key) → At later i e → IsNext s q y since keys e page → page.next ≡ Some n → (HasCover s q y since later ↔ FromSome keys (drop i later))
      → HasCover s q y since later ↔ FromSome (keys ++ Some n ∷ []) (drop (i + 1) later)
  grow_on keys later i e page n at is goes was =
      let step = keys_grow keys later i e is.from page n at (known_in keys e page is) is.gave is.merged goes in
      let next : drop (i + 1) later ≡ drop (suc i) later = ap (λ m. drop m later) (add-one i) in
      (λ h. subst (FromSome (keys ++ Some n ∷ [])) (sym next) (step.0 (was.0 h)), λ h. was.1 (step.1 (subst (FromSome (keys ++ Some n ∷ [])) next h)))

  pub end_on : (keys : List (Option Key)) (later : List Event) (i : ℕ) (e : Event) (page : Page) → At later i e → IsNext s q y since keys e page → page.next ≡ None → (HasCover s q y since later ↔ FromSome keys (drop i later)) → HasCover s q y since later
  end_on keys later i e page at is ends was = was.1 (keys_end keys later i e is.from page at (known_in keys e page is) is.gave is.merged ends)

  pub first_on : (later : List Event) → HasCover s q y since later ↔ FromSome (None ∷ []) (drop 0 later)
  first_on later = (
    λ h. to_some (None ∷ []) None (drop 0 later) (inl refl) ((cover_first later).0 h),
    λ h. let k = of_some (None ∷ []) (drop 0 later) h in elim k.1 as (λ _. HasCover s q y since later) [ inl is ↦ (cover_first later).1 (subst (λ o. CoverFrom o later) (sym is) k.2) | inr none ↦ absurd none ],
  )

  pub none_on : (keys : List (Option Key)) (later : List Event) (i : ℕ) → length later ≤ i → (HasCover s q y since later ↔ FromSome keys (drop i later)) → ¬ HasCover s q y since later
  none_on keys later i le was h = keys_none keys (subst (FromSome keys) (drop_all i later le) (was.0 h))

  -- what an event tells of the next page
  pub none_given : (keys : List (Option Key)) (e : Event) → ((p : PageAsked) → ¬ GaveAsked q s p e) → IsNoNext s q y since keys e
  none_given keys e none page n = none (n.from, page) n.gave

  pub none_known : (keys : List (Option Key)) (e : Event) (p : PageAsked) → GaveAsked q s p e → ¬ Any (λ k. k ≡ p.0) keys → IsNoNext s q y since keys e
  none_known keys e p gave other page n =
      let same = one_asked q s (n.from, page) p e n.gave gave in
      other (subst (λ (k : Option Key). Any (λ j. j ≡ k) keys) same.0 n.known)

  pub none_merged : (keys : List (Option Key)) (e : Event) (p : PageAsked) → GaveAsked q s p e → ¬ Merged p.1 → IsNoNext s q y since keys e
  none_merged keys e p gave other page n =
      let same = one_asked q s (n.from, page) p e n.gave gave in
      other (subst Merged same.1 n.merged)
