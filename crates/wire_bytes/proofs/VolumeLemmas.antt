-- Volumes and snapshots by their bytes: one spelling of each.
use Rattle.std.proofs.Common.{◌≡◌, ◌⊎◌, inl, inr, ⊎_elim, ℕ, ℤ, ◌+◌, ◌<◌, ◌≤◌, ◌^◌, List, [], ◌∷◌, ◌++◌, length, refl, sym, ap, ◌∙◌, arith, append_assoc, length-append, FitsSigned, w64}
use Rattle.std.proofs.Math.Facts.{Fits-of_z}
use Rattle.std.proofs.lemmas.Int.{to_z-of_z}
use Rattle.std.proofs.lemmas.List.{append_cancel_left}
use Rattle.std.specs.Prelude.{flat_map}
use Rattle.std.specs.Int.{cast_unsigned, cast_signed}
use Rattle.byteorder.specs.Endian.{big_bytes}
use Rattle.m3_model.specs.Members.{IsIn}
use Rattle.m3_model.specs.declared.point.Point.{Point}
use Rattle.m3_model.specs.declared.point.Series.{Series}
use Rattle.wire_bytes.specs.Points.{APoint}
use Rattle.wire_bytes.specs.Entries.{IsBounded, bytes_of_point, points_bytes, AllBounded}
use Rattle.wire_bytes.specs.Volumes.{VolumeHead, IsRow, IsVolume, pair_bytes, id_bytes, row_bytes, data_bytes, info_bytes}
use Rattle.wire_bytes.specs.ByteLaws.{VolumesAreOne, SnapshotsAreOne}
use Rattle.wire_bytes.proofs.FieldLemmas.{one_front}
use Rattle.wire_bytes.proofs.NumberLemmas.{length_number}
use Rattle.wire_bytes.proofs.PointLemmas.{point_ends, number_parts, both_parts, same_bytes, word_fits}

-- ---- points

pub point_bytes_are : (p : Point) → IsBounded p → APoint (bytes_of_point p)
point_bytes_are p b = record { ns = p.ns; id = p.id; t = p.t; v = p.v; values = b; spelled = refl }

-- points of the same bytes are one
pub same_point : (p q : Point) → IsBounded p → IsBounded q → bytes_of_point p ≡ bytes_of_point q → p ≡ q
same_point p q a b e =
    let parts = same_bytes p.ns q.ns p.id q.id p.t q.t p.v q.v a b e in
    λ i. record { ns = parts.0 i; id = parts.1 i; t = parts.2 i; v = parts.3 i }

-- as many points at the head of one list are the same
pub points_front : (ps qs : List Point) (b d : List ℕ) → AllBounded ps → AllBounded qs → length ps ≡ length qs → points_bytes ps ++ b ≡ points_bytes qs ++ d → (ps ≡ qs) × (b ≡ d)
points_front [] [] b d f g same e = (refl, e)
points_front [] (q ∷ qs) b d f g same e = absurd (omega arith)
points_front (p ∷ ps) [] b d f g same e = absurd (omega arith)
points_front (p ∷ ps) (q ∷ qs) b d f g same e =
    let joined : bytes_of_point p ++ (points_bytes ps ++ b) ≡ bytes_of_point q ++ (points_bytes qs ++ d) =
    sym (append_assoc (bytes_of_point p) (points_bytes ps) b) ∙ e ∙ append_assoc (bytes_of_point q) (points_bytes qs) d in
    let front : bytes_of_point p ≡ bytes_of_point q = one_front APoint point_ends (bytes_of_point p) (bytes_of_point q) _ _ (point_bytes_are p f.0) (point_bytes_are q g.0) joined in
    let first : p ≡ q = same_point p q f.0 g.0 front in
    let later : points_bytes ps ++ b ≡ points_bytes qs ++ d = append_cancel_left (bytes_of_point q) _ _ (ap (λ (l : List ℕ). l ++ (points_bytes ps ++ b)) (sym front) ∙ joined) in
    let counts : length ps ≡ length qs = omega arith in
    let rest = points_front ps qs b d f.1 g.1 counts later in
    ((λ i. first i ∷ rest.0 i), rest.1)

-- ---- rows

value_parts : (u v : ℤ) (b d : List ℕ) → FitsSigned w64 u → FitsSigned w64 v → big_bytes 8 (cast_unsigned w64 u) ++ b ≡ big_bytes 8 (cast_unsigned w64 v) ++ d → (u ≡ v) × (b ≡ d)
value_parts u v b d f g e =
    let n = number_parts 8 (cast_unsigned w64 u) (cast_unsigned w64 v) b d (word_fits (cast_unsigned w64 u) (Fits-of_z f)) (word_fits (cast_unsigned w64 v) (Fits-of_z g)) e in
    (sym (to_z-of_z w64 u f) ∙ ap (cast_signed w64) n.0 ∙ to_z-of_z w64 v g, n.1)

-- a time and a value within their bounds
record IsPair (x : ℕ × ℤ) : Type 0 where
  pub time : x.0 < 2 ^ 62
  pub value : FitsSigned w64 x.1

pair_front : (x y : ℕ × ℤ) (b d : List ℕ) → IsPair x → IsPair y → pair_bytes x ++ b ≡ pair_bytes y ++ d → (x ≡ y) × (b ≡ d)
pair_front x y b d f g e =
    let joined = sym (append_assoc (big_bytes 8 x.0) (big_bytes 8 (cast_unsigned w64 x.1)) b) ∙ e ∙ append_assoc (big_bytes 8 y.0) (big_bytes 8 (cast_unsigned w64 y.1)) d in
    let t = number_parts 8 x.0 y.0 _ _ (omega (arith, f.time)) (omega (arith, g.time)) joined in
    let v = value_parts x.1 y.1 b d f.value g.value t.1 in
    ((λ i. (t.0 i, v.0 i)), v.1)

pairs_front : (xs ys : List (ℕ × ℤ)) (b d : List ℕ) → ((x : ℕ × ℤ) → IsIn xs x → IsPair x) → ((y : ℕ × ℤ) → IsIn ys y → IsPair y) → length xs ≡ length ys → flat_map pair_bytes xs ++ b ≡ flat_map pair_bytes ys ++ d → (xs ≡ ys) × (b ≡ d)
pairs_front [] [] b d f g same e = (refl, e)
pairs_front [] (y ∷ ys) b d f g same e = absurd (omega arith)
pairs_front (x ∷ xs) [] b d f g same e = absurd (omega arith)
pairs_front (x ∷ xs) (y ∷ ys) b d f g same e =
    let joined : pair_bytes x ++ (flat_map pair_bytes xs ++ b) ≡ pair_bytes y ++ (flat_map pair_bytes ys ++ d) =
    sym (append_assoc (pair_bytes x) (flat_map pair_bytes xs) b) ∙ e ∙ append_assoc (pair_bytes y) (flat_map pair_bytes ys) d in
    let first = pair_front x y _ _ (f x (inl refl)) (g y (inl refl)) joined in
    let counts : length xs ≡ length ys = omega arith in
    let rest = pairs_front xs ys b d (λ z m. f z (inr m)) (λ z m. g z (inr m)) counts first.1 in
    ((λ i. first.0 i ∷ rest.0 i), rest.1)

-- an identifier behind its length
id_front : (a c b d : List ℕ) → length a ≤ 512 → length c ≤ 512 → id_bytes a ++ b ≡ id_bytes c ++ d → (a ≡ c) × (b ≡ d)
id_front a c b d f g e =
    let joined = sym (append_assoc (big_bytes 2 (length a)) a b) ∙ e ∙ append_assoc (big_bytes 2 (length c)) c d in
    let n = number_parts 2 (length a) (length c) _ _ (omega (arith, f)) (omega (arith, g)) joined in
    both_parts a b c d n.0 n.1

module _ (start size : ℕ) where
  pairs_of : (s : Series) → IsRow start size s → (x : ℕ × ℤ) → IsIn s.points x → IsPair x
  pairs_of s row x m = record { time = row.time x m; value = row.value x m }

  row_front : (s u : Series) (b d : List ℕ) → IsRow start size s → IsRow start size u → row_bytes s ++ b ≡ row_bytes u ++ d → (s ≡ u) × (b ≡ d)
  row_front s u b d f g e =
      let joined : id_bytes s.id ++ ((big_bytes 4 (length s.points) ++ flat_map pair_bytes s.points) ++ b) ≡ id_bytes u.id ++ ((big_bytes 4 (length u.points) ++ flat_map pair_bytes u.points) ++ d) =
      sym (append_assoc (id_bytes s.id) (big_bytes 4 (length s.points) ++ flat_map pair_bytes s.points) b) ∙ e ∙ append_assoc (id_bytes u.id) (big_bytes 4 (length u.points) ++ flat_map pair_bytes u.points) d in
      let id = id_front s.id u.id _ _ f.most g.most joined in
      let behind = sym (append_assoc (big_bytes 4 (length s.points)) (flat_map pair_bytes s.points) b) ∙ id.1 ∙ append_assoc (big_bytes 4 (length u.points)) (flat_map pair_bytes u.points) d in
      let n = number_parts 4 (length s.points) (length u.points) _ _ (omega (arith, f.counted)) (omega (arith, g.counted)) behind in
      let ps = pairs_front s.points u.points b d (pairs_of s f) (pairs_of u g) n.0 n.1 in
      ((λ i. record { id = id.0 i; points = ps.0 i }), ps.1)

  not_none : (s : Series) (b : List ℕ) → row_bytes s ++ b ≡ [] → ⊥
  not_none s b e =
      let front : row_bytes s ++ b ≡ big_bytes 2 (length s.id) ++ ((s.id ++ (big_bytes 4 (length s.points) ++ flat_map pair_bytes s.points)) ++ b) =
      ap (λ (l : List ℕ). l ++ b) (append_assoc (big_bytes 2 (length s.id)) s.id (big_bytes 4 (length s.points) ++ flat_map pair_bytes s.points)) ∙ append_assoc (big_bytes 2 (length s.id)) _ b in
      let long : length (big_bytes 2 (length s.id) ++ ((s.id ++ (big_bytes 4 (length s.points) ++ flat_map pair_bytes s.points)) ++ b)) ≡ 0 = ap length (sym front ∙ e) in
      let sum = length-append (big_bytes 2 (length s.id)) ((s.id ++ (big_bytes 4 (length s.points) ++ flat_map pair_bytes s.points)) ++ b) in
      let two = length_number 2 (length s.id) in
      omega (arith, long, sum, two)

  pub same_rows : (rows others : List Series) → ((s : Series) → IsIn rows s → IsRow start size s) → ((s : Series) → IsIn others s → IsRow start size s) → data_bytes rows ≡ data_bytes others → rows ≡ others
  same_rows [] [] f g e = refl
  same_rows [] (u ∷ others) f g e = absurd (not_none u (data_bytes others) (sym e))
  same_rows (s ∷ rows) [] f g e = absurd (not_none s (data_bytes rows) e)
  same_rows (s ∷ rows) (u ∷ others) f g e =
      let first = row_front s u (data_bytes rows) (data_bytes others) (f s (inl refl)) (g u (inl refl)) e in
      let rest = same_rows rows others (λ x m. f x (inr m)) (λ x m. g x (inr m)) first.1 in
      λ i. first.0 i ∷ rest i

-- ---- volumes

small_format : (n : ℕ) → (n ≡ 1) ⊎ (n ≡ 2) → n < 256
small_format n (inl e) = omega (arith, e)
small_format n (inr e) = omega (arith, e)

pub same_head : (v w : VolumeHead) (rows others : List Series) → IsVolume v rows → IsVolume w others → info_bytes v rows ≡ info_bytes w others → v ≡ w
same_head v w rows others f g e =
    let format = number_parts 1 v.format w.format _ _ (let h = small_format v.format f.head.format in omega (arith, h)) (let h = small_format w.format g.head.format in omega (arith, h)) e in
    let ns = number_parts 1 v.ns w.ns _ _ (omega (arith, f.head.ns)) (omega (arith, g.head.ns)) format.1 in
    let start = number_parts 8 v.start w.start _ _ (omega (arith, f.head.start)) (omega (arith, g.head.start)) ns.1 in
    let size = number_parts 8 v.size w.size _ _ (omega (arith, f.head.size_high)) (omega (arith, g.head.size_high)) start.1 in
    let number = number_parts 8 v.number w.number _ _ (omega (arith, f.head.number)) (omega (arith, g.head.number)) size.1 in
    λ i. record { format = format.0 i; ns = ns.0 i; start = start.0 i; size = size.0 i; number = number.0 i }

pub volumes_are_one : VolumesAreOne
volumes_are_one v w rows others f g info same =
    let head = same_head v w rows others f g info in
    let start : v.start ≡ w.start = ap (λ (h : VolumeHead). h.start) head in
    let size : v.size ≡ w.size = ap (λ (h : VolumeHead). h.size) head in
    let of_w : (s : Series) → IsIn rows s → IsRow w.start w.size s = λ s m. subst_row start size s (f.row s m) in
    (head, same_rows w.start w.size rows others of_w g.row same)
  where
    subst_row : v.start ≡ w.start → v.size ≡ w.size → (s : Series) → IsRow v.start v.size s → IsRow w.start w.size s
    subst_row start size s row = Rattle.std.proofs.Common.subst (λ (n : ℕ). IsRow w.start n s) size (Rattle.std.proofs.Common.subst (λ (n : ℕ). IsRow n v.size s) start row)

-- ---- snapshots

pub snapshots_are_one : SnapshotsAreOne
snapshots_are_one s t f g e =
    let format = number_parts 1 1 1 _ _ (omega arith) (omega arith) e in
    let number = number_parts 8 s.number t.number _ _ (omega (arith, f.number)) (omega (arith, g.number)) format.1 in
    let tenure = number_parts 8 s.tenure t.tenure _ _ (omega (arith, f.tenure)) (omega (arith, g.tenure)) number.1 in
    let fence = number_parts 8 s.fence t.fence _ _ (omega (arith, f.fence)) (omega (arith, g.fence)) tenure.1 in
    let first = number_parts 8 s.first_segment t.first_segment _ _ (omega (arith, f.first_segment)) (omega (arith, g.first_segment)) fence.1 in
    let count = number_parts 4 (length s.points) (length t.points) _ _ (omega (arith, f.counted)) (omega (arith, g.counted)) first.1 in
    let points = points_front s.points t.points [] [] f.bounded g.bounded count.0 (ap (λ (l : List ℕ). l ++ []) count.1) in
    λ i. record { number = number.0 i; tenure = tenure.0 i; fence = fence.0 i; first_segment = first.0 i; points = points.0 i }
