-- The points of rows above a key.
use Rattle.std.proofs.Common.{◌≡◌, ℕ, ◌+◌, ◌<◌, ◌≤◌, ℤ, List, [], ◌∷◌, ◌++◌, Bool, true, false, length, take, drop, map, refl, sym, ap, ◌∙◌, subst, inl, inr, arith, append_assoc, append-nil}
use Rattle.std.specs.Prelude.{◌⊎◌, Option, Some, None, not}
use Rattle.std.specs.FinMap.{slice_cmp-IsAntisymmetric, nat_cmp-IsAntisymmetric}
use Rattle.std.specs.Ordering.{nat_cmp, ordering_reverse, ordering_then, is_lt}
use Rattle.std.specs.Cmp.{tied_itself}
use Rattle.std.specs.Cmp.Lexicographic.{slice_cmp}
use Rattle.std.specs.declared.cmp.Ordering.{Ordering}
use Rattle.std.specs.declared.cmp.Ordering.TheVariants.{Less, Equal, Greater}
use Rattle.std.proofs.lemmas.Cmp.{nat_list_cmp_total}
use Rattle.std.proofs.lemmas.List.{map-append, take-append-drop}
use Rattle.std.proofs.lemmas.List.Concat.{flat_map-append}
use Rattle.m3_model.specs.Ascends.{Ascends}
use Rattle.m3_model.specs.Contents.{content_of, key_of}
use Rattle.m3_model.specs.Keys.{key_cmp}
use Rattle.m3_model.specs.Members.{IsIn}
use Rattle.m3_model.specs.Reads.{points_in}
use Rattle.m3_model.specs.Tags.{IsBelow}
use Rattle.m3_model.specs.declared.point.Key.{Key}
use Rattle.m3_model.specs.declared.point.Point.{Point}
use Rattle.m3_model.specs.declared.point.Series.{Series}
use Rattle.m3_model.proofs.Ascending.{Ascends-append, Ascends-filter}
use Rattle.m3_model.proofs.Lists.{IsIn-filter}
use Rattle.m3_model.proofs.MemberLemmas.{IsIn-append_cases, IsIn-append_left, IsIn-append_right, IsIn-map}
use Rattle.page_cut.specs.Pages.{IsBefore}
use Rattle.first_points.specs.Bounds.{is_up_to, points_up_to}
use Rattle.first_points.specs.Firsts.{IsPast, AreFirst}
use Rattle.first_points.specs.Rows.{points_at, EndsPast, AreLater, AreFrom}
use Rattle.first_points.proofs.BoundLemmas.{none_up_to, series_above, time_within, up_to_apart, up_to_front, up_to_whole_front}
use Rattle.first_points.proofs.KeyOrder.{by_space, by_id, by_time, not_by_time}
use Rattle.first_points.proofs.TurnLemmas.{not_both}
use Rattle.first_points.proofs.ListedLemmas.{first_ends}

abbrev timed : ℕ → List ℕ → ℕ × ℤ → Point
timed ns id x = record { ns = ns; id = id; t = x.0; v = x.1 }

-- ---- which points rows have

-- a point of pairs
record IsPair (ns : ℕ) (id : List ℕ) (pairs : List (ℕ × ℤ)) (p : Point) : Type 0 where
  space : p.ns ≡ ns
  named : p.id ≡ id
  pair : IsIn pairs (p.t, p.v)

pair_of : (ns : ℕ) (id : List ℕ) (pairs : List (ℕ × ℤ)) (p : Point) → IsIn (points_at ns id pairs) p → IsPair ns id pairs p
pair_of ns id pairs p m =
    let at = IsIn-map (timed ns id) pairs p m in
    record {
      space = ap (λ (q : Point). q.ns) (sym at.2);
      named = ap (λ (q : Point). q.id) (sym at.2);
      pair = subst (λ (q : Point). IsIn pairs (q.t, q.v)) at.2 at.1;
    }

-- a point of rows is of one of them
record IsOfRow (ns : ℕ) (rows : List Series) (p : Point) : Type 0 where
  space : p.ns ≡ ns
  row : Series
  is_in : IsIn rows row
  named : p.id ≡ row.id

row_of : (ns : ℕ) (rows : List Series) (p : Point) → IsIn (points_in ns rows) p → IsOfRow ns rows p
row_of ns [] p m = absurd m
row_of ns (s ∷ rows) p m = elim (IsIn-append_cases (points_at ns s.id s.points) (points_in ns rows) p m) as (λ _. IsOfRow ns (s ∷ rows) p) [
  | inl here ↦ let pair = pair_of ns s.id s.points p here in record { space = pair.space; row = s; is_in = inl refl; named = pair.named }
  | inr later ↦ let of = row_of ns rows p later in record { space = of.space; row = of.row; is_in = inr of.is_in; named = of.named }
]

-- ---- their order

pairs_ascend : (ns : ℕ) (id : List ℕ) (pairs : List (ℕ × ℤ)) → Ascends (λ a b. a.0 < b.0) pairs → Ascends IsBefore (points_at ns id pairs)
pairs_ascend ns id [] h = tt
pairs_ascend ns id (x ∷ pairs) h = (
  λ q m. let pair = pair_of ns id pairs q m in by_time (key_of (timed ns id x)) (key_of q) (sym pair.space) (sym pair.named) (h.0 (q.t, q.v) pair.pair),
  pairs_ascend ns id pairs h.1,
)

pub rows_ascend : (ns : ℕ) (rows : List Series) → Ascends (λ (a b : Series). IsBelow a.id b.id) rows → ((s : Series) → IsIn rows s → Ascends (λ (a b : ℕ × ℤ). a.0 < b.0) s.points) → Ascends IsBefore (points_in ns rows)
rows_ascend ns [] ids times = tt
rows_ascend ns (s ∷ rows) ids times =
    Ascends-append IsBefore (points_at ns s.id s.points) (points_in ns rows) (pairs_ascend ns s.id s.points (times s (inl refl))) (rows_ascend ns rows ids.1 (λ r m. times r (inr m)))
    (λ p q m n.
    let pair = pair_of ns s.id s.points p m in
    let of = row_of ns rows q n in
    by_id (key_of p) (key_of q) (pair.space ∙ sym of.space) (subst (λ (x : List ℕ). IsBelow x q.id) (sym pair.named) (subst (IsBelow s.id) (sym of.named) (ids.0 of.row of.is_in))))

-- ---- above a key of their namespace

points_apart : (ns : ℕ) (xs ys : List Series) → points_in ns (xs ++ ys) ≡ points_in ns xs ++ points_in ns ys
points_apart ns xs ys = flat_map-append (λ (s : Series). points_at ns s.id s.points) xs ys

-- no row has this identifier
abbrev pub NoneHas : List ℕ → List Series → Type 0
NoneHas id rows = (s : Series) → IsIn rows s → slice_cmp nat_cmp s.id id ≡ Equal → ⊥

pub none_of_none : (id : List ℕ) (rows : List Series) → length rows < 1 → NoneHas id rows
none_of_none id [] few s m = absurd m
none_of_none id (row ∷ rows) few s m = absurd (omega (arith, few))

-- neither less nor equal is greater
above_from : (x y : List ℕ) → (IsBelow x y → ⊥) → (slice_cmp nat_cmp x y ≡ Equal → ⊥) → IsBelow y x
above_from x y not_less not_equal = by (slice_cmp nat_cmp x y) refl
  where
    by : (o : Ordering) → slice_cmp nat_cmp x y ≡ o → IsBelow y x
    by Less e = absurd (not_less e)
    by Equal e = absurd (not_equal e)
    by Greater e = nat_list_cmp_total.antisymm y x ∙ ap ordering_reverse e

module _ (key : Key) (rows : List Series) (ids : Ascends (λ (a b : Series). IsBelow a.id b.id) rows) where
  early_not_past : (early : List Series) → ((s : Series) → IsIn early s → IsBelow s.id key.id) → (p : Point) → IsIn (points_in key.ns early) p → key_cmp key (key_of p) ≡ Less → ⊥
  early_not_past early below p m past =
      let of = row_of key.ns early p m in not_both key (key_of p) past (by_id (key_of p) key of.space (subst (λ (x : List ℕ). IsBelow x key.id) (sym of.named) (below of.row of.is_in)))

  rows_past : (later : List Series) → ((s : Series) → IsIn later s → IsBelow key.id s.id) → (p : Point) → IsIn (points_in key.ns later) p → key_cmp key (key_of p) ≡ Less
  rows_past later above p m = let of = row_of key.ns later p m in by_id key (key_of p) (sym of.space) (subst (IsBelow key.id) (sym of.named) (above of.row of.is_in))

  -- no row has the key's identifier
  pub ends_without : (later : List Series) → AreFrom key.id rows later → NoneHas key.id later → EndsPast key.ns rows (Some key) key.id [] later
  ends_without later from none = record {
    front = points_in key.ns from.early;
    parts = ap (points_in key.ns) from.parts ∙ points_apart key.ns from.early later;
    not_past = early_not_past from.early from.below;
    past = rows_past later (λ s m. above_from s.id key.id (from.not_below s m) (none s m));
  }

  -- the first one has it
  pub ends_with : (row : Series) (later : List Series) (pairs : List (ℕ × ℤ)) → AreFrom key.id rows (row ∷ later) → row.id ≡ key.id → AreLater key.t row.points pairs → EndsPast key.ns rows (Some key) key.id pairs later
  ends_with row later pairs from same split =
      let early = points_in key.ns from.early in
      let earlier = points_at key.ns key.id split.early in
      let back = points_at key.ns key.id pairs ++ points_in key.ns later in
      record {
        front = early ++ earlier;
        parts =
            ap (points_in key.ns) from.parts ∙ points_apart key.ns from.early (row ∷ later)
            ∙ ap (λ (l : List Point). early ++ (l ++ points_in key.ns later))
            (ap (λ (x : List ℕ). points_at key.ns x row.points) same ∙ ap (points_at key.ns key.id) split.parts ∙ map-append (timed key.ns key.id) split.early pairs)
            ∙ ap (λ (l : List Point). early ++ l) (append_assoc earlier (points_at key.ns key.id pairs) (points_in key.ns later))
            ∙ sym (append_assoc early earlier back);
        not_past = λ p m past.
            elim (IsIn-append_cases early earlier p m) as (λ _. ⊥) [
              | inl n ↦ early_not_past from.early from.below p n past
              | inr n ↦ let pair = pair_of key.ns key.id split.early p n in not_by_time key (key_of p) (sym pair.space) (sym pair.named) (split.not_later (p.t, p.v) pair.pair) past
            ];
        past = λ p m.
            elim (IsIn-append_cases (points_at key.ns key.id pairs) (points_in key.ns later) p m) as (λ _. key_cmp key (key_of p) ≡ Less) [
              | inl n ↦ let pair = pair_of key.ns key.id pairs p n in by_time key (key_of p) (sym pair.space) (sym pair.named) (split.all_later (p.t, p.v) pair.pair)
              | inr n ↦ rows_past later (λ s l. subst (λ (x : List ℕ). IsBelow x s.id) same (behind from.early (subst (Ascends (λ (a b : Series). IsBelow a.id b.id)) from.parts ids) s l)) p n
            ];
      }
    where
      behind : (early : List Series) → Ascends (λ (a b : Series). IsBelow a.id b.id) (early ++ row ∷ later) → (s : Series) → IsIn later s → IsBelow row.id s.id
      behind [] h s m = h.0 s m
      behind (x ∷ early) h s m = behind early h.1 s m

  -- those behind the first one have others
  pub others_behind : (row : Series) (later : List Series) → AreFrom key.id rows (row ∷ later) → (slice_cmp nat_cmp row.id key.id ≡ Equal → ⊥) → NoneHas key.id (row ∷ later)
  others_behind row later from other s m same =
      let id_is : s.id ≡ key.id = slice_cmp-IsAntisymmetric nat_cmp-IsAntisymmetric s.id key.id same in
      by s m id_is
    where
      behind : (early : List Series) → Ascends (λ (a b : Series). IsBelow a.id b.id) (early ++ row ∷ later) → (s : Series) → IsIn later s → IsBelow row.id s.id
      behind [] h s m = h.0 s m
      behind (x ∷ early) h s m = behind early h.1 s m

      by : (r : Series) → IsIn (row ∷ later) r → r.id ≡ key.id → ⊥
      by r (inl e) id_is = other (ap (λ (x : List ℕ). slice_cmp nat_cmp x key.id) (ap (λ (q : Series). q.id) e ∙ id_is) ∙ tied_itself nat_list_cmp_total key.id)
      by r (inr n) id_is = from.not_below row (inl refl) (subst (IsBelow row.id) id_is (behind from.early (subst (Ascends (λ (a b : Series). IsBelow a.id b.id)) from.parts ids) r n))

-- ---- the first points

module _ (ns : ℕ) (rows : List Series) (ids : Ascends (λ (a b : Series). IsBelow a.id b.id) rows) (times : (s : Series) → IsIn rows s → Ascends (λ (a b : ℕ × ℤ). a.0 < b.0) s.points) (last : Option Point) (limit : ℕ) where
  ends_up_to : (front back : List Point) (after : Option Key) → points_in ns rows ≡ front ++ back → ((p : Point) → IsIn front p → IsPast after (key_of p) → ⊥) → ((p : Point) → IsIn back p → IsPast after (key_of p))
      → AreFirst (content_of (points_up_to last (points_in ns rows))) after limit (take limit (points_up_to last back))
  ends_up_to front back after parts low high =
      first_ends limit (points_up_to last (points_in ns rows)) (points_up_to last front) (points_up_to last back) after (Ascends-filter IsBefore (λ p. is_up_to last (key_of p)) (points_in ns rows) (rows_ascend ns rows ids times))
      (ap (points_up_to last) parts ∙ up_to_apart last front back) (λ p m. low p (IsIn-filter (λ p. is_up_to last (key_of p)) front p m)) (λ p m. high p (IsIn-filter (λ p. is_up_to last (key_of p)) back p m))

  pub first_from_end : (after : Option Key) (id : List ℕ) (pairs : List (ℕ × ℤ)) (later : List Series) → EndsPast ns rows after id pairs later
      → AreFirst (content_of (points_up_to last (points_in ns rows))) after limit (take limit (points_up_to last (points_at ns id pairs) ++ points_up_to last (points_in ns later)))
  first_from_end after id pairs later h =
      subst (λ (l : List Point). AreFirst (content_of (points_up_to last (points_in ns rows))) after limit (take limit l)) (up_to_apart last (points_at ns id pairs) (points_in ns later))
      (ends_up_to h.front (points_at ns id pairs ++ points_in ns later) after h.parts h.not_past h.past)

  pub first_from_none : AreFirst (content_of (points_up_to last (points_in ns rows))) None limit (take limit (points_up_to last (points_in ns rows)))
  first_from_none = ends_up_to [] (points_in ns rows) None refl (λ p m. absurd m) (λ p m. tt)

  pub first_from_above : (key : Key) → key.ns < ns → AreFirst (content_of (points_up_to last (points_in ns rows))) (Some key) limit (take limit (points_up_to last (points_in ns rows)))
  first_from_above key low = ends_up_to [] (points_in ns rows) (Some key) refl (λ p m. absurd m) (λ p m. by_space key (key_of p) (subst (λ n. key.ns < n) (sym (row_of ns rows p m).space) low))

  pub first_below : (key : Key) → ns < key.ns → AreFirst (content_of (points_up_to last (points_in ns rows))) (Some key) limit (take limit [])
  first_below key high =
      ends_up_to (points_in ns rows) [] (Some key) (sym (append-nil (points_in ns rows)))
      (λ p m past. not_both key (key_of p) past (by_space (key_of p) key (subst (λ n. n < key.ns) (sym (row_of ns rows p m).space) high))) (λ p m. absurd m)

-- of a namespace above the last point's none
pub none_of_space : (last : Point) (ns : ℕ) (rows : List Series) → last.ns < ns → points_up_to (Some last) (points_in ns rows) ≡ []
none_of_space last ns rows low = none_up_to (Some last) (points_in ns rows) (λ p m. ap (λ o. not (is_lt o)) (by_space (key_of last) (key_of p) (subst (λ n. last.ns < n) (sym (row_of ns rows p m).space) low)))

-- ---- what a search for the last point finds

-- where the time of a pair of a series of this order is above the last one, or isn't
abbrev pub is_time_within : Ordering → Point → ℕ → Bool
is_time_within series last t = not (is_lt (ordering_then series (nat_cmp last.t t)))

abbrev pub series_order : Point → ℕ → List ℕ → Ordering
series_order last ns id = ordering_then (nat_cmp last.ns ns) (slice_cmp nat_cmp last.id id)

pairs_within : (last : Point) (ns : ℕ) (id : List ℕ) (pairs : List (ℕ × ℤ)) (b : Bool) → ((x : ℕ × ℤ) → IsIn pairs x → is_time_within (series_order last ns id) last x.0 ≡ b) → (p : Point) → IsIn (points_at ns id pairs) p → is_up_to (Some last) (key_of p) ≡ b
pairs_within last ns id pairs b each p m =
    let pair = pair_of ns id pairs p m in
    time_within last p b (ap (λ (n : ℕ). is_time_within (series_order last n p.id) last p.t) pair.space ∙ ap (λ (x : List ℕ). is_time_within (series_order last ns x) last p.t) pair.named ∙ each (p.t, p.v) pair.pair)

pub pairs_found : (last : Point) (ns : ℕ) (id : List ℕ) (series : Ordering) → series ≡ series_order last ns id → (pairs : List (ℕ × ℤ)) (i : ℕ) → ((x : ℕ × ℤ) → IsIn (take i pairs) x → is_time_within series last x.0 ≡ true)
    → ((x : ℕ × ℤ) → IsIn (drop i pairs) x → is_time_within series last x.0 ≡ false) → points_at ns id (take i pairs) ≡ points_up_to (Some last) (points_at ns id pairs)
pairs_found last ns id series is pairs i before behind =
    let front = points_at ns id (take i pairs) in
    let back = points_at ns id (drop i pairs) in
    sym (ap (λ (l : List (ℕ × ℤ)). points_up_to (Some last) (points_at ns id l)) (sym (take-append-drop i pairs))
    ∙ ap (points_up_to (Some last)) (map-append (timed ns id) (take i pairs) (drop i pairs))
    ∙ up_to_whole_front (Some last) front back (pairs_within last ns id (take i pairs) true (λ x m. ap (λ s. is_time_within s last x.0) (sym is) ∙ before x m))
    (pairs_within last ns id (drop i pairs) false (λ x m. ap (λ s. is_time_within s last x.0) (sym is) ∙ behind x m)))

-- the points of rows whose series are above the last one are
rows_above : (last : Point) (ns : ℕ) (rows : List Series) → ((s : Series) → IsIn rows s → not (is_lt (series_order last ns s.id)) ≡ false) → (p : Point) → IsIn (points_in ns rows) p → is_up_to (Some last) (key_of p) ≡ false
rows_above last ns rows above p m =
    let of = row_of ns rows p m in
    series_above last p (ap (λ (n : ℕ). not (is_lt (series_order last n p.id))) of.space ∙ ap (λ (x : List ℕ). not (is_lt (series_order last ns x))) of.named ∙ above of.row of.is_in)

pub rows_found : (last : Point) (ns : ℕ) (rows : List Series) (i : ℕ) → ((s : Series) → IsIn (drop i rows) s → not (is_lt (series_order last ns s.id)) ≡ false) → points_up_to (Some last) (points_in ns (take i rows)) ≡ points_up_to (Some last) (points_in ns rows)
rows_found last ns rows i behind =
    sym (ap (λ (l : List Series). points_up_to (Some last) (points_in ns l)) (sym (take-append-drop i rows)) ∙ ap (points_up_to (Some last)) (points_apart ns (take i rows) (drop i rows))
    ∙ up_to_front (Some last) (points_in ns (take i rows)) (points_in ns (drop i rows)) (rows_above last ns (drop i rows) behind))
