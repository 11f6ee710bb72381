-- What stands at an offset of some bytes, and where bytes break.
use Rattle.std.proofs.Common.{◌≡◌, ℕ, suc, ◌+◌, ◌-◌, ◌<◌, List, [], ◌∷◌, ◌++◌, length, take, drop, refl, sym, ap, subst, ◌∙◌, arith, append_assoc, append-nil, length-append, length-take, length-drop}
use Rattle.std.proofs.lemmas.List.{take_at, drop_at, drop-drop, take-take, take-append-drop}
use Rattle.std.proofs.Math.ListN.{drop_of_length-le}
use Rattle.commit_log.specs.m3_model.declared.point.Point.{Point}
use Rattle.commit_log.specs.wire_bytes.Fields.{Stands, Begins, Misfits, IsFault, StopsAt}
use Rattle.commit_log.specs.wire_bytes.Points.{APoint, PointStands}
use Rattle.commit_log.specs.wire_bytes.Entries.{IsBounded, bytes_of_point, points_bytes, AllBounded, ArePoints, points_entry, AnEntry, OfPoints, OfFence, OfTenure, PointsStand, EntryStands}
use Rattle.commit_log.specs.wire_bytes.declared.wire_err.WireErr.TheVariants as errors
use Rattle.commit_log.specs.wire_bytes.declared.points.PointAt.{PointAt}
use Rattle.commit_log.specs.wire_bytes.declared.entry_read.EntryAt.{EntryAt}
use Rattle.commit_log.specs.wire_bytes.declared.entry_read.EntryAt.TheVariants as found
use Rattle.commit_log.proofs.wire_bytes_proofs.FieldLemmas.{begins_goes, begins_take, one_stands, stands_both}
use Rattle.commit_log.proofs.wire_bytes_proofs.PointLemmas.{point_ends}
use Rattle.commit_log.proofs.wire_bytes_proofs.VolumeLemmas.{point_bytes_are, points_front}
use Rattle.commit_log.proofs.wire_bytes_proofs.EntryLemmas.{entry_ends, points_more, bounded_more, stands_none}
use Rattle.shard_files.specs.declared.entries.LogEntry.TheVariants as entry
use Rattle.shard_files.specs.Entries.{IsEntry, HasPoint, HavePoints, end_of}

-- two fields that stand one after the other
pub stands_apart : (a b bytes : List ℕ) (at next : ℕ) → Stands (a ++ b) bytes at next → Stands a bytes at (at + length a) × Stands b bytes (at + length a) next
stands_apart a b bytes at next st =
    let whole : drop at bytes ≡ a ++ (b ++ drop next bytes) = st.split ∙ append_assoc a b (drop next bytes) in
    let later : drop (at + length a) bytes ≡ b ++ drop next bytes = sym (drop-drop (length a) at bytes) ∙ ap (λ (l : List ℕ). drop (length a) l) whole ∙ drop_at a (b ++ drop next bytes) (length a) refl in
    let sum : length (a ++ b) ≡ length a + length b = length-append a b in
    let ends : next ≡ at + length a + length b = omega (arith, st.ends, sum) in (
      record { split = whole ∙ ap (λ (l : List ℕ). a ++ l) (sym later); ends = refl; within = omega (arith, st.within, ends) },
      record { split = later; ends = ends; within = st.within },
    )

-- a field that is all of some bytes
pub whole_stands : (s bytes : List ℕ) (next : ℕ) → Stands s bytes 0 next → next ≡ length bytes → bytes ≡ s
whole_stands s bytes next st all = st.split ∙ ap (λ (l : List ℕ). s ++ l) (drop_of_length-le bytes (omega (arith, all))) ∙ append-nil s

-- the first of some points that stand at an offset, and the others
pub first_of : (n : ℕ) (bytes : List ℕ) (at : ℕ) → HavePoints (suc n) bytes at → HasPoint bytes at
first_of n bytes at h = by h.ps h.counted h.stand.bounded h.stand.stands
  where
    by : (ps : List Point) → length ps ≡ suc n → AllBounded ps → Stands (points_bytes ps) bytes at h.next → HasPoint bytes at
    by [] c b st = absurd (omega arith)
    by (q ∷ qs) c b st =
        let head = (stands_apart (bytes_of_point q) (points_bytes qs) bytes at h.next st).0 in
        let behind = (stands_apart (_ ∷ _ ∷ _ ∷ []) _ bytes at (at + length (bytes_of_point q)) head).1 in
        let named = (stands_apart q.id _ bytes (at + 3) (at + length (bytes_of_point q)) behind).0 in
        record {
          p = record { ns = q.ns; id_from = at + 3; id_to = at + 3 + length q.id; t = q.t; v = q.v; next = at + length (bytes_of_point q) };
          stands = record { id = q.id; values = b.0; stands = head; named = named; from = refl };
        }

pub others_of : (n : ℕ) (bytes : List ℕ) (at next : ℕ) (p : Point) → HavePoints (suc n) bytes at → IsBounded p → Stands (bytes_of_point p) bytes at next → HavePoints n bytes next
others_of n bytes at next p h bounded st = by h.ps h.counted h.stand.bounded h.stand.stands
  where
    by : (ps : List Point) → length ps ≡ suc n → AllBounded ps → Stands (points_bytes ps) bytes at h.next → HavePoints n bytes next
    by [] c b all = absurd (omega arith)
    by (q ∷ qs) c b all =
        let parts = stands_apart (bytes_of_point q) (points_bytes qs) bytes at h.next all in
        let same = one_stands APoint point_ends (bytes_of_point p) (bytes_of_point q) bytes at next (at + length (bytes_of_point q)) (point_bytes_are p bounded) (point_bytes_are q b.0) st parts.0 in
        let offset : at + length (bytes_of_point q) ≡ next = ap (λ (l : List ℕ). at + length l) (sym same) ∙ sym st.ends in
        record {
          ps = qs;
          next = h.next;
          counted = omega (arith, c);
          stand = record { bounded = b.1; stands = subst (λ (k : ℕ). Stands (points_bytes qs) bytes k h.next) offset parts.1 };
        }

pub read_none : (count : ℕ) (bytes : List ℕ) (from : ℕ) → HavePoints count bytes from → PointsStand [] bytes from from
read_none count bytes from h = stands_none bytes from (omega (arith, h.stand.stands.ends, h.stand.stands.within))

pub read_more : (ps : List Point) (p : Point) (bytes : List ℕ) (from at next : ℕ) → PointsStand ps bytes from at → IsBounded p → Stands (bytes_of_point p) bytes at next → PointsStand (ps ++ p ∷ []) bytes from next
read_more ps p bytes from at next st bounded more = record {
  bounded = bounded_more ps p st.bounded bounded;
  stands = subst (λ (l : List ℕ). Stands l bytes from next) (sym (points_more ps p)) (stands_both (points_bytes ps) (bytes_of_point p) bytes from at next st.stands more);
}

-- the point that was read where one stands
pub point_read : (bytes : List ℕ) (at : ℕ) (f : PointAt) (p : Point) → (st : PointStands bytes at f) → p.ns ≡ f.ns → p.id ≡ take (f.id_to - f.id_from) (drop f.id_from bytes) → p.t ≡ f.t → p.v ≡ f.v → IsBounded p × Stands (bytes_of_point p) bytes at f.next
point_read bytes at f p st ns id t v =
    let count : f.id_to - f.id_from ≡ length st.id = omega (arith, st.named.ends) in
    let named : p.id ≡ st.id = id ∙ ap (λ (n : ℕ). take n (drop f.id_from bytes)) count ∙ ap (λ (l : List ℕ). take (length st.id) l) st.named.split ∙ take_at st.id (drop f.id_to bytes) (length st.id) refl in
    let q : Point = record { ns = f.ns; id = st.id; t = f.t; v = f.v } in
    let same : q ≡ p = λ i. record { ns = sym ns i; id = sym named i; t = sym t i; v = sym v i } in
    (subst IsBounded same st.values, subst (λ (r : Point). Stands (bytes_of_point r) bytes at f.next) same st.stands)

-- the bytes of an entry that stands
record Said (bytes : List ℕ) (at next : ℕ) : Type 0 where
  pub s : List ℕ
  pub are : AnEntry s
  pub stands : Stands s bytes at next

said : (bytes : List ℕ) (at : ℕ) (e : EntryAt) → EntryStands bytes at e → Said bytes at (end_of e)
said bytes at (found.Points count from next) st = record { s = points_entry st.ps; are = OfPoints st.ps st.values refl; stands = st.stands }
said bytes at (found.Fence n next) st = record { s = _; are = OfFence n st.0 refl; stands = st.1 }
said bytes at (found.Tenure n next) st = record { s = _; are = OfTenure n st.0 refl; stands = st.1 }

-- more behind an entry is no entry
too_long : (s r : List ℕ) → AnEntry s → AnEntry (s ++ r) → 0 < length r → ⊥
too_long s r a b some = let none : length r ≡ 0 = ap length (entry_ends s r a b) in omega (arith, none)

begun : (bytes : List ℕ) → AnEntry bytes → Begins AnEntry bytes
begun bytes a = record { rest = []; whole = subst AnEntry (sym (append-nil bytes)) a }

-- something stands behind the entry
pub breaks_behind : (bytes : List ℕ) (e : EntryAt) → EntryStands bytes 0 e → end_of e < length bytes → StopsAt AnEntry bytes (end_of e)
breaks_behind bytes e st lt =
    let w = said bytes 0 e st in
    let n = end_of e in
    let ends : n ≡ length w.s = omega (arith, w.stands.ends) in
    let front : take n bytes ≡ w.s = ap (λ (l : List ℕ). take n l) w.stands.split ∙ take_at w.s (drop n bytes) n (sym ends) in
    record {
      inside = omega (arith, lt);
      begins = begun (take n bytes) (subst AnEntry (sym front) w.are);
      stops = λ _ b.
          let longer : take (suc n) bytes ≡ w.s ++ drop n (take (suc n) bytes) =
          sym (take-append-drop n (take (suc n) bytes)) ∙ ap (λ (l : List ℕ). l ++ drop n (take (suc n) bytes)) (take-take n (suc n) bytes (omega arith) ∙ front) in
          let whole : AnEntry (w.s ++ (drop n (take (suc n) bytes) ++ b.rest)) = subst AnEntry (ap (λ (l : List ℕ). l ++ b.rest) longer ∙ append_assoc w.s (drop n (take (suc n) bytes)) b.rest) b.whole in
          too_long w.s (drop n (take (suc n) bytes) ++ b.rest) w.are whole
          (let a = length-append (drop n (take (suc n) bytes)) b.rest in let d = length-drop n (take (suc n) bytes) in let t = length-take (suc n) bytes in omega (arith, lt));
      none = λ whole. too_long w.s (drop n bytes) w.are (subst AnEntry w.stands.split whole) (let d = length-drop n bytes in omega (arith, lt));
    }

-- an entry goes on beyond the bytes
pub breaks_short : (bytes : List ℕ) → IsFault AnEntry bytes 0 errors.Short → StopsAt AnEntry bytes (length bytes)
breaks_short bytes g = record {
  inside = omega arith;
  begins = begins_take AnEntry (length bytes) bytes (begins_goes AnEntry bytes g);
  stops = λ lt b. absurd (omega (arith, lt));
  none = λ whole. too_long bytes (g.next ∷ g.rest) whole g.whole (omega arith);
}

-- no entry has the byte at the offset
pub breaks_bad : (bytes : List ℕ) (at : ℕ) → IsFault AnEntry bytes 0 (errors.Bad at) → StopsAt AnEntry bytes at
breaks_bad bytes at f =
    let same : at - 0 ≡ at = omega arith in
    let m : Misfits AnEntry bytes at = subst (Misfits AnEntry bytes) same f.1 in
    record {
      inside = omega (arith, m.within);
      begins = begins_goes AnEntry (take at bytes) m.fits;
      stops = λ _ b. m.none b;
      none = λ whole. m.none (begins_take AnEntry (suc at) bytes (begun bytes whole));
    }

-- an entry that is all of some bytes
pub points_whole : (bytes : List ℕ) (count from next last : ℕ) (ps : List Point) → EntryStands bytes 0 (found.Points count from next) → next ≡ length bytes → length ps ≡ count → PointsStand ps bytes from last → IsEntry bytes (entry.Points ps)
points_whole bytes count from next last ps st all counted read =
    let same = (points_front st.ps ps (drop next bytes) (drop last bytes) st.values.bounded read.bounded (st.count_is ∙ sym counted) (sym st.points.split ∙ read.stands.split)).0 in
    record { within = subst ArePoints same st.values; is = whole_stands (points_entry st.ps) bytes next st.stands all ∙ ap points_entry same }

pub points_there : (bytes : List ℕ) (count from next : ℕ) → EntryStands bytes 0 (found.Points count from next) → HavePoints count bytes from
points_there bytes count from next st = record { ps = st.ps; next = next; counted = st.count_is; stand = record { bounded = st.values.bounded; stands = st.points } }

pub fence_whole : (bytes : List ℕ) (n next : ℕ) → EntryStands bytes 0 (found.Fence n next) → next ≡ length bytes → IsEntry bytes (entry.Fence n)
fence_whole bytes n next st all = record { within = st.0; is = whole_stands _ bytes next st.1 all }

pub tenure_whole : (bytes : List ℕ) (n next : ℕ) → EntryStands bytes 0 (found.Tenure n next) → next ≡ length bytes → IsEntry bytes (entry.Tenure n)
tenure_whole bytes n next st all = record { within = st.0; is = whole_stands _ bytes next st.1 all }
