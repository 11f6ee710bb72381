-- Pages of a list that ascends.
use Rattle.std.proofs.Common.{◌≡◌, ◌++◌, ◌-◌, ◌<◌, ◌≤◌, ℕ, suc, zero, List, [], ◌∷◌, true, false, Option, Some, None, length, take, cond, refl, sym, ap, subst, ◌∙◌, inl, inr, arith, append_assoc, length-append}
use Rattle.std.specs.Option.{option_map}
use Rattle.std.proofs.lemmas.Bool.{leb-true, leb-false, cases_Bool}
use Rattle.std.specs.Prelude.{MatchOption, OnSome, nat_le, slice_get}
use Rattle.std.specs.List.{flat_map}
use Rattle.std.proofs.lemmas.List.{append-nil, length-take-le}
use Rattle.m3_model.specs.Ascends.{Ascends}
use Rattle.m3_model.specs.Contents.{key_of}
use Rattle.m3_model.specs.declared.point.Key.{Key}
use Rattle.m3_model.specs.declared.point.Page.{Page}
use Rattle.m3_model.specs.declared.point.Point.{Point}
use Rattle.page_cut.specs.Pages.{IsBefore, points_past, page_from, page_of, ArePagesFrom}
use Rattle.page_cut.proofs.PastLemmas.{past_is_end, past_point}

-- the last of the first points, where more follow: the list up to it, it, and what follows
record Split (limit : ℕ) (rest : List Point) : Type 0 where
  front : List Point
  last : Point
  back : List Point
  whole : rest ≡ front ++ last ∷ back
  first : take limit rest ≡ front ++ last ∷ []
  got : slice_get rest (limit - 1) ≡ Some last

split_at : (limit : ℕ) (rest : List Point) → 1 ≤ limit → limit < length rest → Split limit rest
split_at zero rest some more = absurd (omega arith)
split_at (suc n) [] some more = absurd (omega arith)
split_at (suc zero) (x ∷ xs) some more = record { front = []; last = x; back = xs; whole = refl; first = refl; got = refl }
split_at (suc (suc n)) (x ∷ xs) some more =
    let later = split_at (suc n) xs (omega arith) (omega arith) in
    let next : suc (suc n) - 1 ≡ suc n = omega arith in
    let this : n ≡ suc n - 1 = omega arith in
    record {
      front = x ∷ later.front;
      last = later.last;
      back = later.back;
      whole = ap (λ ys. x ∷ ys) later.whole;
      first = ap (λ ys. x ∷ ys) later.first;
      got = ap (λ k. slice_get (x ∷ xs) k) next ∙ ap (λ k. slice_get xs k) this ∙ later.got;
    }

-- a page, by whether points follow it
last_page : (limit : ℕ) (rest : List Point) → nat_le (length rest) limit ≡ true → page_from limit rest ≡ record { points = rest; next = None }
last_page limit rest h = ap (λ b. cond b (record { points = rest; next = None }) (record { points = take limit rest; next = option_map key_of (slice_get rest (limit - 1)) })) h

-- a page that points follow, whatever its last point is
more_points : (limit : ℕ) (rest : List Point) → nat_le (length rest) limit ≡ false → page_from limit rest ≡ record { points = take limit rest; next = option_map key_of (slice_get rest (limit - 1)) }
more_points limit rest h = ap (λ b. cond b (record { points = rest; next = None }) (record { points = take limit rest; next = option_map key_of (slice_get rest (limit - 1)) })) h

-- the same with its last point
more_page : (limit : ℕ) (rest : List Point) (s : Split limit rest) → nat_le (length rest) limit ≡ false → page_from limit rest ≡ record { points = take limit rest; next = Some (key_of s.last) }
more_page limit rest s h =
    more_points limit rest h ∙ ap (λ (o : Option Point). record { points = take limit rest; next = option_map key_of o }) s.got

-- the points above the last one's key are those behind the page
behind : (points : List Point) (limit : ℕ) (after : Option Key) (s : Split limit (points_past after points)) → Ascends IsBefore points → points_past (Some (key_of s.last)) points ≡ s.back
behind points limit after s up =
    let end = past_is_end after points up in
    let is : points ≡ (end.0 ++ s.front) ++ s.last ∷ s.back = end.1 ∙ ap (λ ys. end.0 ++ ys) s.whole ∙ sym (append_assoc end.0 s.front (s.last ∷ s.back)) in
    ap (points_past (Some (key_of s.last))) is ∙ past_point (end.0 ++ s.front) s.last s.back (subst (Ascends IsBefore) is up)

pub whole_from : (points : List Point) (limit : ℕ) (after : Option Key) (pages : List Page) → 1 ≤ limit → Ascends IsBefore points → ArePagesFrom points limit after pages
    → flat_map (λ page. page.points) pages ≡ points_past after points
whole_from points limit after [] some up h = absurd h
whole_from points limit after (page ∷ pages) some up h =
    let rest = points_past after points in
    elim (cases_Bool (nat_le (length rest) limit)) as (λ _. flat_map (λ (p : Page). p.points) (page ∷ pages) ≡ rest) [
      | inl few ↦
          let is : page ≡ record { points = rest; next = None } = h.0 ∙ last_page limit rest few in
          let none : pages ≡ [] = subst (λ (o : Option Key). MatchOption o (pages ≡ []) (λ k. ArePagesFrom points limit (Some k) pages)) (ap (λ (p : Page). p.next) is) h.1 in
          ap (λ (p : Page). p.points ++ flat_map (λ (q : Page). q.points) pages) is ∙ ap (λ (ps : List Page). rest ++ flat_map (λ (q : Page). q.points) ps) none ∙ append-nil rest
      | inr more ↦
          let s = split_at limit rest some (leb-false (length rest) limit more) in
          let is : page ≡ record { points = take limit rest; next = Some (key_of s.last) } = h.0 ∙ more_page limit rest s more in
          let on : ArePagesFrom points limit (Some (key_of s.last)) pages = subst (λ (o : Option Key). MatchOption o (pages ≡ []) (λ k. ArePagesFrom points limit (Some k) pages)) (ap (λ (p : Page). p.next) is) h.1 in
          ap (λ (p : Page). p.points ++ flat_map (λ (q : Page). q.points) pages) is
          ∙ ap (λ ys. take limit rest ++ ys) (whole_from points limit (Some (key_of s.last)) pages some up on ∙ behind points limit after s up)
          ∙ ap (λ ys. ys ++ s.back) s.first ∙ append_assoc s.front (s.last ∷ []) s.back ∙ sym s.whole
    ]

shorter : (limit : ℕ) (rest : List Point) (s : Split limit rest) → length s.back < length rest
shorter limit rest s =
    let whole = ap length s.whole in
    omega (arith, whole, length-append s.front (s.last ∷ s.back))

one_page : (points : List Point) (limit : ℕ) (after : Option Key) → nat_le (length (points_past after points)) limit ≡ true → ((pages : List Page) × ArePagesFrom points limit after pages)
one_page points limit after few =
    let next : None ≡ (page_of points limit after).next = sym (ap (λ (p : Page). p.next) (last_page limit (points_past after points) few)) in
    let End : Option Key → Type 0 = λ o. MatchOption o (◌≡◌ {A = List Page} [] []) (λ k. ArePagesFrom points limit (Some k) []) in
    (page_of points limit after ∷ [], (refl, subst End next refl))

pub pages_from : (most : ℕ) (points : List Point) (limit : ℕ) (after : Option Key) → 1 ≤ limit → Ascends IsBefore points → length (points_past after points) ≤ most
    → ((pages : List Page) × ArePagesFrom points limit after pages)
pages_from zero points limit after some up few_left =
    elim (cases_Bool (nat_le (length (points_past after points)) limit)) as (λ _. (pages : List Page) × ArePagesFrom points limit after pages) [
      | inl few ↦ one_page points limit after few
      | inr more ↦ absurd (omega (arith, leb-false (length (points_past after points)) limit more))
    ]
pages_from (suc most) points limit after some up few_left =
    elim (cases_Bool (nat_le (length (points_past after points)) limit)) as (λ _. (pages : List Page) × ArePagesFrom points limit after pages) [
      | inl few ↦ one_page points limit after few
      | inr more ↦
          let rest = points_past after points in
          let s = split_at limit rest some (leb-false (length rest) limit more) in
          let left = ap length (behind points limit after s up) in
          let later = pages_from most points limit (Some (key_of s.last)) some up (omega (arith, shorter limit rest s, left)) in
          let next : Some (key_of s.last) ≡ (page_of points limit after).next = sym (ap (λ (p : Page). p.next) (more_page limit rest s more)) in
          let On : Option Key → Type 0 = λ o. MatchOption o (later.0 ≡ []) (λ k. ArePagesFrom points limit (Some k) later.0) in
          (page_of points limit after ∷ later.0, (refl, subst On next later.1))
    ]

pub limited : (limit : ℕ) (rest : List Point) → length (page_from limit rest).points ≤ limit
limited limit rest =
    elim (cases_Bool (nat_le (length rest) limit)) as (λ _. length (page_from limit rest).points ≤ limit) [
      | inl few ↦ subst (λ (p : Page). length p.points ≤ limit) (sym (last_page limit rest few)) (leb-true (length rest) limit few)
      | inr more ↦ omega (arith, ap (λ (p : Page). length p.points) (more_points limit rest more), length-take-le limit rest (omega (arith, leb-false (length rest) limit more)))
    ]

pub filled : (limit : ℕ) (rest : List Point) → OnSome (page_from limit rest).next (length (page_from limit rest).points ≡ limit)
filled limit rest =
    elim (cases_Bool (nat_le (length rest) limit)) as (λ _. OnSome (page_from limit rest).next (length (page_from limit rest).points ≡ limit)) [
      | inl few ↦ subst (λ (p : Page). OnSome p.next (length p.points ≡ limit)) (sym (last_page limit rest few)) tt
      | inr more ↦ always (page_from limit rest).next (ap (λ (p : Page). length p.points) (more_points limit rest more) ∙ length-take-le limit rest (omega (arith, leb-false (length rest) limit more)))
    ]
  where
    always : (o : Option Key) {P : Type 0} → P → OnSome o P
    always None h = tt
    always (Some k) h = h
