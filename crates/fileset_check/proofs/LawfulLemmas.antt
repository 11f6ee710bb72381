-- Series one after another, and all of a volume.
use Rattle.std.proofs.Common.{◌≡◌, ◌↔◌, inl, inr, ℕ, ℤ, ◌+◌, ◌*◌, ◌<◌, ◌≤◌, ◌^◌, List, [], ◌∷◌, length, drop, get_or, refl, sym, subst, ◌∙◌, arith, length-append, FitsSigned, w64}
use Rattle.std.proofs.lemmas.List.{drop_more}
use Rattle.std.proofs.Math.ListN.{drop_of_length-le}
use Rattle.std.proofs.lemmas.List.Sums.{sum_by-cons}
use Rattle.std.specs.Cmp.Lexicographic.{nat_list_cmp_total}
use Rattle.fileset_read.specs.m3_model.Ascends.{Ascends}
use Rattle.fileset_read.specs.m3_model.Members.{IsIn}
use Rattle.fileset_read.specs.m3_model.Tags.{IsBelow}
use Rattle.fileset_read.specs.m3_model.declared.point.Series.{Series}
use Rattle.fileset_read.specs.wire_bytes.Volumes.{VolumeHead, IsVolume, IsHead, count_of, row_bytes, data_bytes}
use Rattle.fileset_read.proofs.volume_bytes_proofs.RowLemmas.{length_row}
use Rattle.fileset_check.specs.Lawful.{AreTimes, IsRowIn, AreRows}

-- ---- times

times_low : (least end : ℕ) (xs : List (ℕ × ℤ)) → AreTimes least end xs → (x : ℕ × ℤ) → IsIn xs x → least ≤ x.0
times_low least end [] t x m = absurd m
times_low least end (y ∷ xs) t x (inl e) = subst (λ (z : ℕ × ℤ). least ≤ z.0) e t.0
times_low least end (y ∷ xs) t x (inr m) = let later = times_low (y.0 + 1) end xs t.3 x m in let first = t.0 in omega (arith, later, first)

times_high : (least end : ℕ) (xs : List (ℕ × ℤ)) → AreTimes least end xs → (x : ℕ × ℤ) → IsIn xs x → x.0 < end
times_high least end [] t x m = absurd m
times_high least end (y ∷ xs) t x (inl e) = subst (λ (z : ℕ × ℤ). z.0 < end) e t.1
times_high least end (y ∷ xs) t x (inr m) = times_high (y.0 + 1) end xs t.3 x m

times_ascend : (least end : ℕ) (xs : List (ℕ × ℤ)) → AreTimes least end xs → Ascends (λ (a b : ℕ × ℤ). a.0 < b.0) xs
times_ascend least end [] t = tt
times_ascend least end (y ∷ xs) t = ((λ x m. let later = times_low (y.0 + 1) end xs t.3 x m in omega (arith, later)), times_ascend (y.0 + 1) end xs t.3)

times_value : (least end : ℕ) (xs : List (ℕ × ℤ)) → AreTimes least end xs → (x : ℕ × ℤ) → IsIn xs x → FitsSigned w64 x.1
times_value least end [] t x m = absurd m
times_value least end (y ∷ xs) t x (inl e) = subst (λ (z : ℕ × ℤ). FitsSigned w64 z.1) e t.2
times_value least end (y ∷ xs) t x (inr m) = times_value (y.0 + 1) end xs t.3 x m

are_times : (least end : ℕ) (xs : List (ℕ × ℤ)) → ((x : ℕ × ℤ) → IsIn xs x → least ≤ x.0) → ((x : ℕ × ℤ) → IsIn xs x → x.0 < end) → ((x : ℕ × ℤ) → IsIn xs x → FitsSigned w64 x.1) → Ascends (λ (a b : ℕ × ℤ). a.0 < b.0) xs → AreTimes least end xs
are_times least end [] low high value up = tt
are_times least end (y ∷ xs) low high value up =
    (low y (inl refl), high y (inl refl), value y (inl refl), are_times (y.0 + 1) end xs (λ x m. let after = up.0 x m in omega (arith, after)) (λ x m. high x (inr m)) (λ x m. value x (inr m)) up.1)

-- one pair more is looked at
module _ (xs : List (ℕ × ℤ)) (i : ℕ) (d : ℕ × ℤ) (lt : i < length xs) (least end : ℕ) {All : Type 0} (left : AreTimes least end (drop i xs) ↔ All) where
  pub time_more : least ≤ (get_or xs i d).0 → (get_or xs i d).0 < end → FitsSigned w64 (get_or xs i d).1 → AreTimes ((get_or xs i d).0 + 1) end (drop (i + 1) xs) ↔ All
  time_more low high value = (
    λ a. left.0 (subst (AreTimes least end) (sym (drop_more xs i d lt)) (low, high, value, a)),
    λ all. (subst (AreTimes least end) (drop_more xs i d lt) (left.1 all)).3,
  )

  pub time_low : All → least ≤ (get_or xs i d).0
  time_low all = (subst (AreTimes least end) (drop_more xs i d lt) (left.1 all)).0

  pub time_high : All → (get_or xs i d).0 < end
  time_high all = (subst (AreTimes least end) (drop_more xs i d lt) (left.1 all)).1

pub times_end : (xs : List (ℕ × ℤ)) (i least end : ℕ) → {All : Type 0} → length xs ≤ i → AreTimes least end (drop i xs) ↔ All → All
times_end xs i least end all left = left.0 (subst (AreTimes least end) (sym (drop_of_length-le xs all)) tt)

-- ---- series

rows_row : (start end : ℕ) (last : List ℕ) (rows : List Series) → AreRows start end last rows → (s : Series) → IsIn rows s → IsRowIn start end s
rows_row start end last [] a s m = absurd m
rows_row start end last (r ∷ rows) a s (inl e) = subst (IsRowIn start end) e a.1
rows_row start end last (r ∷ rows) a s (inr m) = rows_row start end r.id rows a.2 s m

rows_above : (start end : ℕ) (last : List ℕ) (rows : List Series) → AreRows start end last rows → (s : Series) → IsIn rows s → IsBelow last s.id
rows_above start end last [] a s m = absurd m
rows_above start end last (r ∷ rows) a s (inl e) = subst (λ (z : Series). IsBelow last z.id) e a.0
rows_above start end last (r ∷ rows) a s (inr m) = nat_list_cmp_total.trans last r.id s.id a.0 (rows_above start end r.id rows a.2 s m)

rows_ascend : (start end : ℕ) (last : List ℕ) (rows : List Series) → AreRows start end last rows → Ascends (λ (a b : Series). IsBelow a.id b.id) rows
rows_ascend start end last [] a = tt
rows_ascend start end last (r ∷ rows) a = ((λ s m. rows_above start end r.id rows a.2 s m), rows_ascend start end r.id rows a.2)

are_rows : (start end : ℕ) (last : List ℕ) (rows : List Series) → ((s : Series) → IsIn rows s → IsRowIn start end s) → ((s : Series) → IsIn rows s → IsBelow last s.id) → Ascends (λ (a b : Series). IsBelow a.id b.id) rows → AreRows start end last rows
are_rows start end last [] each above up = tt
are_rows start end last (r ∷ rows) each above up = (above r (inl refl), each r (inl refl), are_rows start end r.id rows (λ s m. each s (inr m)) up.0 up.1)

-- one series more is looked at
module _ (rows : List Series) (i : ℕ) (d : Series) (lt : i < length rows) (start end : ℕ) (last : List ℕ) {All : Type 0} (left : AreRows start end last (drop i rows) ↔ All) where
  pub row_more : IsBelow last (get_or rows i d).id → IsRowIn start end (get_or rows i d) → AreRows start end (get_or rows i d).id (drop (i + 1) rows) ↔ All
  row_more above is = (
    λ a. left.0 (subst (AreRows start end last) (sym (drop_more rows i d lt)) (above, is, a)),
    λ all. (subst (AreRows start end last) (drop_more rows i d lt) (left.1 all)).2,
  )

  pub row_above : All → IsBelow last (get_or rows i d).id
  row_above all = (subst (AreRows start end last) (drop_more rows i d lt) (left.1 all)).0

  pub row_is : All → IsRowIn start end (get_or rows i d)
  row_is all = (subst (AreRows start end last) (drop_more rows i d lt) (left.1 all)).1

pub rows_end : (rows : List Series) (i start end : ℕ) (last : List ℕ) → {All : Type 0} → length rows ≤ i → AreRows start end last (drop i rows) ↔ All → All
rows_end rows i start end last all left = left.0 (subst (AreRows start end last) (sym (drop_of_length-le rows all)) tt)

-- an identifier that has a byte is above the empty one
empty_below : (id : List ℕ) → 1 ≤ length id → IsBelow [] id
empty_below [] some = absurd (omega (arith, some))
empty_below (b ∷ id) some = refl

-- ---- a volume

-- the numbers of points and of bytes of such series
count_fits : (start end : ℕ) (last : List ℕ) (rows : List Series) → AreRows start end last rows → count_of rows ≤ 2 ^ 28 * length rows
count_fits start end last [] a = omega arith
count_fits start end last (r ∷ rows) a =
    let sum : count_of (r ∷ rows) ≡ length r.points + count_of rows = sum_by-cons (λ (s : Series). length s.points) r rows in
    let few = a.1.counted in
    let later = count_fits start end r.id rows a.2 in
    omega (arith, sum, few, later)

bytes_fit : (start end : ℕ) (last : List ℕ) (rows : List Series) → AreRows start end last rows → length (data_bytes rows) ≤ 2 ^ 32 * length rows
bytes_fit start end last [] a = omega arith
bytes_fit start end last (r ∷ rows) a =
    let sum = length-append (row_bytes r) (data_bytes rows) in
    let long = length_row r in
    let few = a.1.long in
    let later = bytes_fit start end r.id rows a.2 in
    omega (arith, sum, long, few, later)

-- the end of the block, or of all times
pub record IsEnd (start size end : ℕ) : Type 0 where
  pub block : end ≤ start + size
  pub time : end ≤ 2 ^ 62
  pub one : (t : ℕ) → t < start + size → t < 2 ^ 62 → t < end

pub to_volume : (v : VolumeHead) (rows : List Series) (end : ℕ) → v.format ≡ 1 → IsHead v → IsEnd v.start v.size end → 0 < length rows → length rows < 2 ^ 28 → AreRows v.start end [] rows → IsVolume v rows
to_volume v rows end format head ends some few a = record {
  head = head;
  some = omega (arith, some);
  counted = omega (arith, few);
  points = (let c = count_fits v.start end [] rows a in omega (arith, c, few));
  row = λ s m.
      let r = rows_row v.start end [] rows a s m in
      let high = times_high v.start end s.points r.times in
      let before = ends.block in
      let first = ends.time in
      let long = r.long in
      record {
        some = r.some;
        most = r.most;
        utf8 = r.utf8;
        counted = (let c = r.counted in omega (arith, c));
        long = long;
        low = times_low v.start end s.points r.times;
        high = λ x i. let h = high x i in omega (arith, h, before);
        time = λ x i. let h = high x i in omega (arith, h, first);
        value = times_value v.start end s.points r.times;
        times = times_ascend v.start end s.points r.times;
      };
  filled = λ s m two. absurd (let e : 1 ≡ 2 = sym format ∙ two in omega (arith, e));
  small = (let b = bytes_fit v.start end [] rows a in omega (arith, b, few));
  ids = rows_ascend v.start end [] rows a;
}

pub of_volume : (v : VolumeHead) (rows : List Series) (end : ℕ) → IsEnd v.start v.size end → IsVolume v rows → AreRows v.start end [] rows
of_volume v rows end ends is = are_rows v.start end [] rows
    (λ s m.
    let r = is.row s m in
    let long = r.long in
    record {
      some = r.some;
      most = r.most;
      utf8 = r.utf8;
      counted = omega (arith, long);
      long = long;
      times = are_times v.start end s.points r.low (λ x i. ends.one x.0 (r.high x i) (r.time x i)) r.value r.times;
    })
    (λ s m. empty_below s.id (is.row s m).some)
    is.ids
