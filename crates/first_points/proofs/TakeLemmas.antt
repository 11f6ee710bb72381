-- The first elements of a list that grows.
use Rattle.std.proofs.Common.{◌≡◌, ℕ, zero, suc, ◌+◌, ◌-◌, ◌<◌, ◌≤◌, ℤ, List, [], ◌∷◌, ◌++◌, length, take, drop, map, get_or, refl, sym, ap, ◌∙◌, arith, append_assoc, append-nil}
use Rattle.std.specs.Prelude.{Option}
use Rattle.std.proofs.lemmas.List.{take_all, take_more, map_push, map-append, take-append-drop, length-drop}
use Rattle.std.proofs.lemmas.List.Concat.{flat_map-append}
use Rattle.m3_model.specs.Reads.{points_in}
use Rattle.m3_model.specs.declared.point.Point.{Point}
use Rattle.m3_model.specs.declared.point.Series.{Series}
use Rattle.first_points.specs.Bounds.{points_up_to}
use Rattle.first_points.specs.Rows.{points_at}
use Rattle.first_points.proofs.BoundLemmas.{up_to_apart}

pub take_push : {X : Type 0} (n : ℕ) (xs : List X) (y : X) → length (take n xs) < n → take n (xs ++ y ∷ []) ≡ take n xs ++ y ∷ []
take_push zero xs y h = absurd (omega (arith, h))
take_push (suc n) [] y h = ap (λ ys. y ∷ ys) (take_all n [] (omega arith))
take_push (suc n) (x ∷ xs) y h = ap (λ ys. x ∷ ys) (take_push n xs y (omega (arith, h)))

pub take_full : {X : Type 0} (n : ℕ) (xs ys : List X) → n ≤ length (take n xs) → take n (xs ++ ys) ≡ take n xs
take_full zero xs ys h = refl
take_full (suc n) [] ys h = absurd (omega (arith, h))
take_full (suc n) (x ∷ xs) ys h = ap (λ zs. x ∷ zs) (take_full n xs ys (omega (arith, h)))

pub rest_whole : {X : Type 0} (i : ℕ) (xs : List X) → take (length xs - i) (drop i xs) ≡ drop i xs
rest_whole i xs = take_all (length xs - i) (drop i xs) (let l = length-drop i xs in omega (arith, l))

pub opened : {X : Type 0} (xs : List X) (x : X) → 1 ≤ length xs → x ≡ get_or xs 0 x → xs ≡ x ∷ take (length xs - 1) (drop 1 xs)
opened [] x some e = absurd (omega (arith, some))
opened (y ∷ xs) x some e = ap (λ z. z ∷ xs) (sym e) ∙ ap (λ zs. x ∷ zs) (sym (rest_whole 1 (y ∷ xs)))

abbrev timed : ℕ → List ℕ → ℕ × ℤ → Point
timed ns id x = record { ns = ns; id = id; t = x.0; v = x.1 }

-- one more pair
pub pushed_pair : (limit : ℕ) (points : List Point) (ns : ℕ) (id : List ℕ) (pairs : List (ℕ × ℤ)) (i : ℕ) (d : ℕ × ℤ) (first : List Point) → i < length pairs → length first < limit
    → first ≡ take limit (points ++ points_at ns id (take i pairs)) → first ++ timed ns id (get_or pairs i d) ∷ [] ≡ take limit (points ++ points_at ns id (take (i + 1) pairs))
pushed_pair limit points ns id pairs i d first inside few is =
    let done = points ++ points_at ns id (take i pairs) in
    let p = timed ns id (get_or pairs i d) in
    let count = ap length is in
    ap (λ xs. xs ++ p ∷ []) is
    ∙ sym (take_push limit done p (omega (arith, count, few)))
    ∙ ap (take limit) (append_assoc points (points_at ns id (take i pairs)) (p ∷ [])
    ∙ ap (λ xs. points ++ xs) (sym (map_push (timed ns id) (take i pairs) (get_or pairs i d)) ∙ ap (points_at ns id) (sym (take_more pairs i d inside))))

-- no more where it is full
pub full_pairs : (limit : ℕ) (points : List Point) (ns : ℕ) (id : List ℕ) (pairs : List (ℕ × ℤ)) (i : ℕ) (first : List Point) → limit ≤ length first
    → first ≡ take limit (points ++ points_at ns id (take i pairs)) → first ≡ take limit (points ++ points_at ns id pairs)
full_pairs limit points ns id pairs i first full is =
    let done = points ++ points_at ns id (take i pairs) in
    let count = ap length is in
    is ∙ sym (take_full limit done (points_at ns id (drop i pairs)) (omega (arith, count, full)))
    ∙ ap (take limit) (append_assoc points (points_at ns id (take i pairs)) (points_at ns id (drop i pairs))
    ∙ ap (λ xs. points ++ xs) (sym (map-append (timed ns id) (take i pairs) (drop i pairs)) ∙ ap (points_at ns id) (take-append-drop i pairs)))

row_more : (ns : ℕ) (rows : List Series) (i : ℕ) (d : Series) → i < length rows → points_in ns (take i rows) ++ points_at ns (get_or rows i d).id (get_or rows i d).points ≡ points_in ns (take (i + 1) rows)
row_more ns rows i d inside =
    let row = get_or rows i d in
    ap (λ xs. points_in ns (take i rows) ++ xs) (sym (append-nil (points_at ns row.id row.points)))
    ∙ sym (flat_map-append (λ (s : Series). points_at ns s.id s.points) (take i rows) (row ∷ []))
    ∙ ap (points_in ns) (sym (take_more rows i d inside))

-- one more row
pub pushed_row : (last : Option Point) (points : List Point) (ns : ℕ) (rows : List Series) (i : ℕ) (d : Series) → i < length rows
    → (points ++ points_up_to last (points_in ns (take i rows))) ++ points_up_to last (points_at ns (get_or rows i d).id (get_or rows i d).points) ≡ points ++ points_up_to last (points_in ns (take (i + 1) rows))
pushed_row last points ns rows i d inside =
    let done = points_in ns (take i rows) in
    let more = points_at ns (get_or rows i d).id (get_or rows i d).points in
    append_assoc points (points_up_to last done) (points_up_to last more) ∙ ap (λ xs. points ++ xs) (sym (up_to_apart last done more) ∙ ap (points_up_to last) (row_more ns rows i d inside))

-- no more where it is full
pub full_rows : (last : Option Point) (limit : ℕ) (points : List Point) (ns : ℕ) (rows : List Series) (i : ℕ) (first : List Point) → limit ≤ length first
    → first ≡ take limit (points ++ points_up_to last (points_in ns (take i rows))) → first ≡ take limit (points ++ points_up_to last (points_in ns rows))
full_rows last limit points ns rows i first full is =
    let front = points_in ns (take i rows) in
    let back = points_in ns (drop i rows) in
    let count = ap length is in
    is ∙ sym (take_full limit (points ++ points_up_to last front) (points_up_to last back) (omega (arith, count, full)))
    ∙ ap (take limit) (append_assoc points (points_up_to last front) (points_up_to last back)
    ∙ ap (λ xs. points ++ xs) (sym (up_to_apart last front back) ∙ ap (points_up_to last) (sym (flat_map-append (λ (s : Series). points_at ns s.id s.points) (take i rows) (drop i rows)) ∙ ap (points_in ns) (take-append-drop i rows))))
