-- An entry's fields, one after another.
use Rattle.std.proofs.Common.{◌≡◌, ℕ, suc, zero, ◌+◌, ◌-◌, ◌<◌, ◌≤◌, ◌^◌, List, [], ◌∷◌, ◌++◌, get_or, length, refl, sym, ap, subst, ◌∙◌, arith, append_assoc, append-nil, Result, Ok, Err, IfOk, IfErr}
use Rattle.byteorder.specs.Endian.{big_bytes}
use Rattle.m3_model.specs.declared.point.Point.{Point}
use Rattle.wire_bytes.specs.Fields.{Stands, IsFault}
use Rattle.wire_bytes.specs.Numbers.{ANumber}
use Rattle.std.specs.Int.{cast_signed}
use Rattle.std.proofs.Common.{w64}
use Rattle.std.proofs.Math.Facts.{sfits_to_z}
use Rattle.wire_bytes.specs.Points.{APoint, PointStands, point_bytes}
use Rattle.wire_bytes.specs.Bodies.{PointThen, SomePoints, SomeCounted}
use Rattle.wire_bytes.specs.Entries.{IsBounded, bytes_of_point, points_bytes, AllBounded, points_entry, fence_entry, tenure_entry, AnEntry, OfPoints, OfFence, OfTenure, PointsStand, PointsEntryStands, EntryStands}
use Rattle.wire_bytes.specs.declared.wire_err.WireErr.{WireErr}
use Rattle.wire_bytes.specs.declared.points.PointAt.{PointAt}
use Rattle.wire_bytes.specs.declared.entry_read.EntryAt.{EntryAt}
use Rattle.wire_bytes.specs.declared.entry_read.EntryAt.TheVariants as found
use Rattle.wire_bytes.proofs.FieldLemmas.{EndsItself, Then, Some_of, first_fault, second_fault, then_ends, fault_as, fault_one, no_fault, one_stands, stands_both}
use Rattle.std.proofs.lemmas.Str.{IsUtf8-nil}
use Rattle.wire_bytes.proofs.Characters.{with_first1}
use Rattle.wire_bytes.proofs.NumberLemmas.{number_ends, bytes_one}
use Rattle.wire_bytes.proofs.PointLemmas.{Counted, counted_ends, counted_one, counted_fault, point_ends, number_parts, fits_word}

-- a point, as a field without a value
pub record Pointed (x : ℕ) (bytes : List ℕ) : Type 0 where
  pub none : x ≡ 0
  pub point : APoint bytes

pointed_ends : EndsItself (Some_of Pointed)
pointed_ends a r f g = point_ends a r f.1.point g.1.point

pointed_one : (x y : ℕ) (a : List ℕ) → Pointed x a → Pointed y a → x ≡ y
pointed_one x y a f g = f.none ∙ sym g.none

then_point : (Later : List ℕ → Type 0) (b : List ℕ) → Then Pointed (λ x. Later) b → PointThen Later b
then_point Later b t = record { a = t.a; b = t.b; point = t.first.point; later = t.second; joined = t.joined }

point_then : (Later : List ℕ → Type 0) (b : List ℕ) → PointThen Later b → Then Pointed (λ x. Later) b
point_then Later b t = record { x = 0; a = t.a; b = t.b; first = record { none = refl; point = t.point }; second = t.later; joined = t.joined }

-- some point, and so many of them
a_point : (b : List ℕ) × APoint b
a_point = (point_bytes 0 (97 ∷ []) 0 (cast_signed w64 0), record { ns = 0; id = 97 ∷ []; t = 0; v = cast_signed w64 0; values = record { namespace = omega arith; some = omega arith; most = omega arith; utf8 = with_first1 97 [] (omega arith) IsUtf8-nil; time = omega arith; value = sfits_to_z (fits_word 0 (omega arith)) }; spelled = refl })

pub many_points : (n : ℕ) → (b : List ℕ) × SomePoints n b
many_points zero = ([], refl)
many_points (suc n) = let l = many_points n in (a_point.0 ++ l.0, record { a = a_point.0; b = l.0; point = a_point.1; later = l.1; joined = refl })

-- a fault of the first of some points, and of the later ones
pub first_point_fault : (n : ℕ) (bytes : List ℕ) (at : ℕ) (e : WireErr) → IsFault APoint bytes at e → IsFault (SomePoints (suc n)) bytes at e
first_point_fault n bytes at e a =
    fault_as (Then Pointed (λ x. SomePoints n)) (PointThen (SomePoints n)) bytes at e (then_point (SomePoints n)) (point_then (SomePoints n))
    (first_fault Pointed (λ x. SomePoints n) pointed_ends bytes at e (λ x b f. many_points n)
    (fault_as APoint (Some_of Pointed) bytes at e (λ b f. (0, record { none = refl; point = f })) (λ b f. f.1.point) a))

pub later_point_fault : (n : ℕ) (bytes : List ℕ) (at : ℕ) (p : PointAt) (e : WireErr) → PointStands bytes at p → IsFault (SomePoints n) bytes p.next e → IsFault (SomePoints (suc n)) bytes at e
later_point_fault n bytes at p e st a =
    fault_as (Then Pointed (λ x. SomePoints n)) (PointThen (SomePoints n)) bytes at e (then_point (SomePoints n)) (point_then (SomePoints n))
    (second_fault Pointed (λ x. SomePoints n) pointed_ends pointed_one 0 _ (record { none = refl; point = record { ns = p.ns; id = st.id; t = p.t; v = p.v; values = st.values; spelled = refl } })
    bytes at p.next e st.stands a)

-- one point more at the end
pub points_more : (ps : List Point) (p : Point) → points_bytes (ps ++ p ∷ []) ≡ points_bytes ps ++ bytes_of_point p
points_more [] p = append-nil (bytes_of_point p)
points_more (q ∷ ps) p = ap (λ (l : List ℕ). bytes_of_point q ++ l) (points_more ps p) ∙ sym (append_assoc (bytes_of_point q) (points_bytes ps) (bytes_of_point p))

pub bounded_more : (ps : List Point) (p : Point) → AllBounded ps → IsBounded p → AllBounded (ps ++ p ∷ [])
bounded_more [] p all one = (one, tt)
bounded_more (q ∷ ps) p all one = (all.0, bounded_more ps p all.1 one)

pub stands_more : (ps : List Point) (bytes : List ℕ) (from : ℕ) (offset : ℕ) (p : PointAt) → PointsStand ps bytes from offset → (st : PointStands bytes offset p) → PointsStand (ps ++ record { ns = p.ns; id = st.id; t = p.t; v = p.v } ∷ []) bytes from p.next
stands_more ps bytes from offset p all st =
    let q : Point = record { ns = p.ns; id = st.id; t = p.t; v = p.v } in
    record {
      bounded = bounded_more ps q all.bounded st.values;
      stands = subst (λ (l : List ℕ). Stands l bytes from p.next) (sym (points_more ps q)) (stands_both (points_bytes ps) (bytes_of_point q) bytes from offset p.next all.stands st.stands);
    }

pub stands_none : (bytes : List ℕ) (from : ℕ) → from ≤ length bytes → PointsStand [] bytes from from
stands_none bytes from within = record { bounded = tt; stands = record { split = refl; ends = omega arith; within = within } }

-- a list of points as a field
pub some_points : (ps : List Point) → AllBounded ps → SomePoints (length ps) (points_bytes ps)
some_points [] all = refl
some_points (p ∷ ps) all = record { a = bytes_of_point p; b = points_bytes ps; point = record { ns = p.ns; id = p.id; t = p.t; v = p.v; values = all.0; spelled = refl }; later = some_points ps all.1; joined = refl }

of_points : (n : ℕ) (b : List ℕ) → SomePoints n b → (ps : List Point) × (length ps ≡ n) × AllBounded ps × (b ≡ points_bytes ps)
of_points zero b s = ([], refl, tt, s)
of_points (suc n) b s =
    let r = of_points n s.b s.later in
    let p : Point = record { ns = s.point.ns; id = s.point.id; t = s.point.t; v = s.point.v } in
    (p ∷ r.0, ap suc r.1, (s.point.values, r.2), s.joined ∙ ap (λ (l : List ℕ). l ++ s.b) s.point.spelled ∙ ap (λ (l : List ℕ). bytes_of_point p ++ l) r.3)

points_end : (n : ℕ) → EndsItself (SomePoints n)
points_end zero a r f g = sym (ap (λ (l : List ℕ). l ++ r) f) ∙ g
points_end (suc n) a r f g =
    then_ends Pointed (λ x. SomePoints n) pointed_ends pointed_one (λ x b h. points_end n) a r (point_then (SomePoints n) a f) (point_then (SomePoints n) (a ++ r) g)

-- a count and its points
abbrev OfCount : ℕ → List ℕ → Type 0
OfCount = Counted 2 1 64

counted_then : (b : List ℕ) → SomeCounted b → Then OfCount SomePoints b
counted_then b c = record { x = c.n; a = big_bytes 2 c.n; b = c.b; first = record { least = c.least; most = c.most; spelled = refl }; second = c.points; joined = c.joined }

then_counted : (b : List ℕ) → Then OfCount SomePoints b → SomeCounted b
then_counted b t = record { n = t.x; b = t.b; least = t.first.least; most = t.first.most; points = t.second; joined = t.joined ∙ ap (λ (l : List ℕ). l ++ t.b) t.first.spelled }

pub count_fault : (bytes : List ℕ) (at : ℕ) (e : WireErr) → IsFault (ANumber 2 1 64) bytes at e → IsFault SomeCounted bytes at e
count_fault bytes at e a = fault_as (Then OfCount SomePoints) SomeCounted bytes at e then_counted counted_then
    (first_fault OfCount SomePoints (counted_ends 2 1 64) bytes at e (λ x l f. many_points x) (counted_fault 2 1 64 bytes at e a))

pub behind_count : (bytes : List ℕ) (at n : ℕ) (e : WireErr) → 1 ≤ n → n ≤ 64 → Stands (big_bytes 2 n) bytes at (at + 2) → IsFault (SomePoints n) bytes (at + 2) e → IsFault SomeCounted bytes at e
behind_count bytes at n e least most st a = fault_as (Then OfCount SomePoints) SomeCounted bytes at e then_counted counted_then
    (second_fault OfCount SomePoints (counted_ends 2 1 64) (counted_one 2 1 64 (omega arith)) n (big_bytes 2 n) (record { least = least; most = most; spelled = refl }) bytes at (at + 2) e st a)

counted_end : EndsItself SomeCounted
counted_end a r f g = then_ends OfCount SomePoints (counted_ends 2 1 64) (counted_one 2 1 64 (omega arith)) (λ n b h. points_end n) a r (counted_then a f) (counted_then (a ++ r) g)

-- what follows an entry's first byte
abbrev Word : List ℕ → Type 0
Word = ANumber 8 0 (256 ^ 8 - 1)

abbrev pub Body : ℕ → List ℕ → Type 0
Body zero b = ⊥
Body (suc zero) b = SomeCounted b
Body (suc (suc zero)) b = Word b
Body (suc (suc (suc zero))) b = Word b
Body (suc (suc (suc (suc n)))) b = ⊥

abbrev OfTag : ℕ → List ℕ → Type 0
OfTag = Counted 1 1 3

some_word : Word (big_bytes 8 0)
some_word = record { n = 0; least = omega arith; most = omega arith; spelled = refl }

some_body : (x : ℕ) (a : List ℕ) → OfTag x a → (b : List ℕ) × Body x b
some_body zero a f = absurd (omega (arith, f.least))
some_body (suc zero) a f = let l = many_points 1 in (big_bytes 2 1 ++ l.0, record { n = 1; b = l.0; least = omega arith; most = omega arith; points = l.1; joined = refl })
some_body (suc (suc zero)) a f = (big_bytes 8 0, some_word)
some_body (suc (suc (suc zero))) a f = (big_bytes 8 0, some_word)
some_body (suc (suc (suc (suc n)))) a f = absurd (omega (arith, f.most))

body_ends : (x : ℕ) → EndsItself (Body x)
body_ends zero a r f g = absurd f
body_ends (suc zero) a r f g = counted_end a r f g
body_ends (suc (suc zero)) a r f g = number_ends 8 0 (256 ^ 8 - 1) a r f g
body_ends (suc (suc (suc zero))) a r f g = number_ends 8 0 (256 ^ 8 - 1) a r f g
body_ends (suc (suc (suc (suc n)))) a r f g = absurd f

entry_then : (b : List ℕ) → AnEntry b → Then OfTag Body b
entry_then b (OfPoints ps are is) = record {
  x = 1;
  a = big_bytes 1 1;
  b = big_bytes 2 (length ps) ++ points_bytes ps;
  first = record { least = omega arith; most = omega arith; spelled = refl };
  second = record { n = length ps; b = points_bytes ps; least = are.some; most = are.most; points = some_points ps are.bounded; joined = refl };
  joined = is;
}
entry_then b (OfFence n fits is) = record {
  x = 2;
  a = big_bytes 1 2;
  b = big_bytes 8 n;
  first = record { least = omega arith; most = omega arith; spelled = refl };
  second = record { n = n; least = omega arith; most = omega arith; spelled = refl };
  joined = is;
}
entry_then b (OfTenure n fits is) = record {
  x = 3;
  a = big_bytes 1 3;
  b = big_bytes 8 n;
  first = record { least = omega arith; most = omega arith; spelled = refl };
  second = record { n = n; least = omega arith; most = omega arith; spelled = refl };
  joined = is;
}

then_entry : (b : List ℕ) → Then OfTag Body b → AnEntry b
then_entry b t = by t.x t.first t.second
  where
    by : (x : ℕ) → OfTag x t.a → Body x t.b → AnEntry b
    by zero f s = absurd s
    by (suc zero) f s =
        let r = of_points s.n s.b s.points in
        OfPoints r.0 (record { some = omega (arith, r.1, s.least); most = omega (arith, r.1, s.most); bounded = r.2 })
        (t.joined ∙ ap (λ (l : List ℕ). l ++ t.b) f.spelled ∙ ap (λ (l : List ℕ). big_bytes 1 1 ++ l) (s.joined ∙ ap (λ (n : ℕ). big_bytes 2 n ++ s.b) (sym r.1) ∙ ap (λ (l : List ℕ). big_bytes 2 (length r.0) ++ l) r.3))
    by (suc (suc zero)) f s = OfFence s.n (omega (arith, s.most)) (t.joined ∙ ap (λ (l : List ℕ). l ++ t.b) f.spelled ∙ ap (λ (l : List ℕ). big_bytes 1 2 ++ l) s.spelled)
    by (suc (suc (suc zero))) f s = OfTenure s.n (omega (arith, s.most)) (t.joined ∙ ap (λ (l : List ℕ). l ++ t.b) f.spelled ∙ ap (λ (l : List ℕ). big_bytes 1 3 ++ l) s.spelled)
    by (suc (suc (suc (suc n)))) f s = absurd s

pub tag_fault : (bytes : List ℕ) (at : ℕ) (e : WireErr) → IsFault (ANumber 1 1 3) bytes at e → IsFault AnEntry bytes at e
tag_fault bytes at e a = fault_as (Then OfTag Body) AnEntry bytes at e then_entry entry_then
    (first_fault OfTag Body (counted_ends 1 1 3) bytes at e some_body (counted_fault 1 1 3 bytes at e a))

pub behind_tag : (bytes : List ℕ) (at x : ℕ) (e : WireErr) → 1 ≤ x → x ≤ 3 → Stands (big_bytes 1 x) bytes at (at + 1) → IsFault (Body x) bytes (at + 1) e → IsFault AnEntry bytes at e
behind_tag bytes at x e least most st a = fault_as (Then OfTag Body) AnEntry bytes at e then_entry entry_then
    (second_fault OfTag Body (counted_ends 1 1 3) (counted_one 1 1 3 (omega arith)) x (big_bytes 1 x) (record { least = least; most = most; spelled = refl }) bytes at (at + 1) e st a)

pub number_body : (bytes : List ℕ) (at x : ℕ) (e : WireErr) → 1 ≤ x → x ≤ 3 → (x ≡ 1 → ⊥) → IsFault Word bytes at e → IsFault (Body x) bytes at e
number_body bytes at zero e least most other a = absurd (omega arith)
number_body bytes at (suc zero) e least most other a = absurd (other refl)
number_body bytes at (suc (suc zero)) e least most other a = a
number_body bytes at (suc (suc (suc zero))) e least most other a = a
number_body bytes at (suc (suc (suc (suc n)))) e least most other a = absurd (omega arith)

pub entry_ends : EndsItself AnEntry
entry_ends a r f g = then_ends OfTag Body (counted_ends 1 1 3) (counted_one 1 1 3 (omega arith)) (λ x b h. body_ends x) a r (entry_then a f) (entry_then (a ++ r) g)

-- the bytes of an entry that stands
abbrev said : (bytes : List ℕ) (at : ℕ) (e : EntryAt) → EntryStands bytes at e → List ℕ
said bytes at (found.Points count from next) st = points_entry st.ps
said bytes at (found.Fence n next) st = fence_entry n
said bytes at (found.Tenure n next) st = tenure_entry n

abbrev end_of : EntryAt → ℕ
end_of (found.Points count from next) = next
end_of (found.Fence n next) = next
end_of (found.Tenure n next) = next

entry_said : (bytes : List ℕ) (at : ℕ) (e : EntryAt) (st : EntryStands bytes at e) → AnEntry (said bytes at e st) × Stands (said bytes at e st) bytes at (end_of e)
entry_said bytes at (found.Points count from next) st = (OfPoints st.ps st.values refl, st.stands)
entry_said bytes at (found.Fence n next) st = (OfFence n st.0 refl, st.1)
entry_said bytes at (found.Tenure n next) st = (OfTenure n st.0 refl, st.1)

other_tag : (m n : ℕ) (b d : List ℕ) → m < 256 → n < 256 → (m ≡ n → ⊥) → big_bytes 1 m ++ b ≡ big_bytes 1 n ++ d → ⊥
other_tag m n b d p q other e = other (number_parts 1 m n b d p q e).0

pub one_entry : (bytes : List ℕ) (at : ℕ) (e f : EntryAt) → EntryStands bytes at e → EntryStands bytes at f → e ≡ f
one_entry bytes at e f s t = by e f s t (one_stands AnEntry entry_ends (said bytes at e s) (said bytes at f t) bytes at (end_of e) (end_of f) (entry_said bytes at e s).0 (entry_said bytes at f t).0 (entry_said bytes at e s).1 (entry_said bytes at f t).1)
  where
    by : (e f : EntryAt) (s : EntryStands bytes at e) (t : EntryStands bytes at f) → said bytes at e s ≡ said bytes at f t → e ≡ f
    by (found.Points c i m) (found.Points d j n) s t same =
        let body = (number_parts 1 1 1 _ _ (omega arith) (omega arith) same).1 in
        let count : c ≡ d = sym s.count_is ∙ (number_parts 2 (length s.ps) (length t.ps) _ _ (omega (arith, s.values.most)) (omega (arith, t.values.most)) body).0 ∙ t.count_is in
        let from : i ≡ j = s.from_is ∙ sym t.from_is in
        let next : m ≡ n = omega (arith, s.stands.ends, t.stands.ends, ap length same) in
        λ k. found.Points (count k) (from k) (next k)
    by (found.Points c i m) (found.Fence d n) s t same = absurd (other_tag 1 2 _ _ (omega arith) (omega arith) (λ e. omega arith) same)
    by (found.Points c i m) (found.Tenure d n) s t same = absurd (other_tag 1 3 _ _ (omega arith) (omega arith) (λ e. omega arith) same)
    by (found.Fence c m) (found.Points d j n) s t same = absurd (other_tag 2 1 _ _ (omega arith) (omega arith) (λ e. omega arith) same)
    by (found.Fence c m) (found.Fence d n) s t same =
        let body = (number_parts 1 2 2 _ _ (omega arith) (omega arith) same).1 in
        let is : c ≡ d = bytes_one 8 c d s.0 t.0 body in
        let next : m ≡ n = omega (arith, s.1.ends, t.1.ends, ap length same) in
        λ k. found.Fence (is k) (next k)
    by (found.Fence c m) (found.Tenure d n) s t same = absurd (other_tag 2 3 _ _ (omega arith) (omega arith) (λ e. omega arith) same)
    by (found.Tenure c m) (found.Points d j n) s t same = absurd (other_tag 3 1 _ _ (omega arith) (omega arith) (λ e. omega arith) same)
    by (found.Tenure c m) (found.Fence d n) s t same = absurd (other_tag 3 2 _ _ (omega arith) (omega arith) (λ e. omega arith) same)
    by (found.Tenure c m) (found.Tenure d n) s t same =
        let body = (number_parts 1 3 3 _ _ (omega arith) (omega arith) same).1 in
        let is : c ≡ d = bytes_one 8 c d s.0 t.0 body in
        let next : m ≡ n = omega (arith, s.1.ends, t.1.ends, ap length same) in
        λ k. found.Tenure (is k) (next k)

-- what the answer of a reading settles
entry_no_fault : (bytes : List ℕ) (at : ℕ) (f : EntryAt) (e : WireErr) → EntryStands bytes at f → IsFault AnEntry bytes at e → ⊥
entry_no_fault bytes at f e st a = no_fault AnEntry entry_ends (said bytes at f st) bytes at (end_of f) e (entry_said bytes at f st).0 (entry_said bytes at f st).1 a

pub whole_entry : (r : Result EntryAt WireErr) (bytes : List ℕ) (at : ℕ) → IfOk r (λ p. EntryStands bytes at p) → IfErr r (λ e. IsFault AnEntry bytes at e) → (p : EntryAt) → EntryStands bytes at p → r ≡ Ok p
whole_entry (Ok q) bytes at ok err p st = ap Ok (one_entry bytes at q p ok st)
whole_entry (Err e) bytes at ok err p st = absurd (entry_no_fault bytes at p e st err)

pub fault_entry : (r : Result EntryAt WireErr) (bytes : List ℕ) (at : ℕ) → IfOk r (λ p. EntryStands bytes at p) → IfErr r (λ e. IsFault AnEntry bytes at e) → (e : WireErr) → IsFault AnEntry bytes at e → r ≡ Err e
fault_entry (Ok p) bytes at ok err e f = absurd (entry_no_fault bytes at p e ok f)
fault_entry (Err d) bytes at ok err e f = ap Err (fault_one AnEntry bytes at d e err f)

-- a first byte and a number
pub tagged_stands : (x n at : ℕ) (bytes : List ℕ) → Stands (big_bytes 1 x) bytes at (at + 1) → Stands (big_bytes 8 n) bytes (at + 1) (at + 1 + 8) → Stands (big_bytes 1 x ++ big_bytes 8 n) bytes at (at + 9)
tagged_stands x n at bytes a b =
    let e : at + 1 + 8 ≡ at + 9 = omega arith in
    stands_both (big_bytes 1 x) (big_bytes 8 n) bytes at (at + 1) (at + 9) a (subst (λ (k : ℕ). Stands (big_bytes 8 n) bytes (at + 1) k) e b)

pub points_entry_stands : (x n at next : ℕ) (bytes : List ℕ) → x ≡ 1 → 1 ≤ n → n ≤ 64 → Stands (big_bytes 1 x) bytes at (at + 1)
    → ((ps : List Point) × (length ps ≡ n) × Stands (big_bytes 2 n) bytes (at + 1) (at + 1 + 2) × PointsStand ps bytes (at + 1 + 2) next) → PointsEntryStands bytes at n (at + 3) next
points_entry_stands x n at next bytes tag least most a r =
    let e : at + 1 + 2 ≡ at + 3 = omega arith in
    let points = subst (λ (k : ℕ). Stands (points_bytes r.0) bytes k next) e r.3.stands in
    let count = subst (λ (k : ℕ). Stands (big_bytes 2 k) bytes (at + 1) (at + 3)) (sym r.1) (subst (λ (k : ℕ). Stands (big_bytes 2 n) bytes (at + 1) k) e r.2) in
    let first = subst (λ (k : ℕ). Stands (big_bytes 1 k) bytes at (at + 1)) tag a in
    record {
      ps = r.0;
      count_is = r.1;
      values = record { some = omega (arith, r.1); most = omega (arith, r.1); bounded = r.3.bounded };
      from_is = refl;
      points = points;
      stands = stands_both (big_bytes 1 1) _ bytes at (at + 1) next first (stands_both (big_bytes 2 (length r.0)) (points_bytes r.0) bytes (at + 1) (at + 3) next count points);
    }

-- the bounds of each of the points
pub bounded_at : (ps : List Point) (i : ℕ) (p : Point) → AllBounded ps → i < length ps → get_or ps i p ≡ p → IsBounded p
bounded_at [] i p all lt e = absurd (omega arith)
bounded_at (q ∷ ps) zero p all lt e = subst IsBounded e all.0
bounded_at (q ∷ ps) (suc i) p all lt e = bounded_at ps i p all.1 (omega arith) e
