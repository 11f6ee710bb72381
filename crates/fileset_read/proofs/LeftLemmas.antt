-- What is left of pairs and of rows while they are read.
use Rattle.std.proofs.Common.{◌≡◌, inl, inr, ℕ, ℤ, ◌+◌, ◌-◌, ◌<◌, ◌≤◌, ◌^◌, List, [], ◌∷◌, ◌++◌, length, take, drop, flat_map, Result, Err, IsErrAnd, refl, sym, ap, subst, ◌∙◌, arith, append_assoc, append-nil, length-append, length-drop, w64, FitsSigned}
use Rattle.std.proofs.Math.Facts.{Fits-of_z}
use Rattle.std.proofs.Math.ListN.{drop_of_length-le}
use Rattle.std.specs.Int.{cast_unsigned}
use Rattle.byteorder.specs.Endian.{big_bytes}
use Rattle.shard_files.specs.m3_model.Members.{IsIn}
use Rattle.shard_files.proofs.m3_model_proofs.MemberLemmas.{IsIn-append_right}
use Rattle.shard_files.specs.m3_model.declared.point.Series.{Series}
use Rattle.shard_files.specs.wire_bytes.Fields.{Stands}
use Rattle.shard_files.specs.wire_bytes.Volumes.{pair_bytes, row_bytes, data_bytes}
use Rattle.shard_files.proofs.wire_bytes_proofs.PointLemmas.{word_fits}
use Rattle.volume_bytes.proofs.RowLemmas.{length_row}
use Rattle.std.proofs.lemmas.Result.{err_from_is_err_and}
use Rattle.fileset_read.specs.Rows.{ArePairs, IsSpelled, AreSpelled, Gives, RowStands}
use Rattle.fileset_read.specs.declared.row_at.RowAt.{RowAt}
use Rattle.fileset_read.specs.declared.row_err.RowErr.{RowErr}
use Rattle.fileset_read.specs.declared.row_err.RowErr.TheVariants as errors
use Rattle.fileset_read.proofs.RowLemmas.{number_stands}

-- ---- pairs

-- some of the pairs are read, and the others stand from the offset on
pub record PairsLeft (xs done : List (ℕ × ℤ)) (rest bytes : List ℕ) (at : ℕ) : Type 0 where
  pub later : List (ℕ × ℤ)
  pub split : xs ≡ done ++ later
  pub pairs : ArePairs later
  pub stands : drop at bytes ≡ flat_map pair_bytes later ++ rest

-- one of them stands at the offset
pub record NextPair (xs done : List (ℕ × ℤ)) (rest bytes : List ℕ) (at : ℕ) : Type 0 where
  pub one : ℕ × ℤ
  pub later : List (ℕ × ℤ)
  pub split : xs ≡ done ++ one ∷ later
  pub fits : one.0 < 2 ^ 64
  pub signed : FitsSigned w64 one.1
  pub word : cast_unsigned w64 one.1 < 2 ^ 64
  pub pairs : ArePairs later
  pub time : Stands (big_bytes 8 one.0) bytes at (at + 8)
  pub value : Stands (big_bytes 8 (cast_unsigned w64 one.1)) bytes (at + 8) (at + 8 + 8)
  pub stands : drop (at + 8 + 8) bytes ≡ flat_map pair_bytes later ++ rest

pub next_pair : (xs done : List (ℕ × ℤ)) (rest bytes : List ℕ) (at : ℕ) → PairsLeft xs done rest bytes at → length done < length xs → at ≤ length bytes → NextPair xs done rest bytes at
next_pair xs done rest bytes at left more inside = by left.later left.split left.pairs left.stands
  where
    by : (later : List (ℕ × ℤ)) → xs ≡ done ++ later → ArePairs later → drop at bytes ≡ flat_map pair_bytes later ++ rest → NextPair xs done rest bytes at
    by [] split pairs stands = absurd (let e : length xs ≡ length done = ap length (split ∙ append-nil done) in omega (arith, e, more))
    by (x ∷ later) split pairs stands =
        let word = cast_unsigned w64 x.1 in
        let is = pairs x (inl refl) in
        let apart : drop at bytes ≡ big_bytes 8 x.0 ++ (big_bytes 8 word ++ (flat_map pair_bytes later ++ rest)) =
        stands ∙ append_assoc (pair_bytes x) (flat_map pair_bytes later) rest ∙ append_assoc (big_bytes 8 x.0) (big_bytes 8 word) (flat_map pair_bytes later ++ rest) in
        let time = number_stands 8 x.0 _ bytes at inside apart in
        let value = number_stands 8 word _ bytes (at + 8) time.0.within time.1 in
        record {
          one = x;
          later = later;
          split = split;
          fits = is.time;
          signed = is.value;
          word = word_fits word (Fits-of_z is.value);
          pairs = λ z m. pairs z (inr m);
          time = time.0;
          value = value.0;
          stands = value.1;
        }

-- none is read yet
pub pairs_begin : (xs : List (ℕ × ℤ)) (rest bytes : List ℕ) (at : ℕ) → ArePairs xs → drop at bytes ≡ flat_map pair_bytes xs ++ rest → PairsLeft xs [] rest bytes at
pairs_begin xs rest bytes at pairs stands = record { later = xs; split = refl; pairs = pairs; stands = stands }

-- one more is read
pub pair_read : (xs done : List (ℕ × ℤ)) (rest bytes : List ℕ) (at t : ℕ) (v : ℤ) → (n : NextPair xs done rest bytes at) → t ≡ n.one.0 → v ≡ n.one.1 → PairsLeft xs (done ++ (t, v) ∷ []) rest bytes (at + 16)
pair_read xs done rest bytes at t v n a b = record {
  later = n.later;
  split = n.split ∙ (λ i. done ++ (sym a i, sym b i) ∷ n.later) ∙ sym (append_assoc done ((t, v) ∷ []) n.later);
  pairs = n.pairs;
  stands = (let sum : at + 16 ≡ at + 8 + 8 = omega arith in ap (λ (k : ℕ). drop k bytes) sum) ∙ n.stands;
}

-- all are read
pub pairs_end : (xs done : List (ℕ × ℤ)) (rest bytes : List ℕ) (at : ℕ) → PairsLeft xs done rest bytes at → length done ≡ length xs → done ≡ xs
pairs_end xs done rest bytes at left same = by left.later left.split
  where
    by : (later : List (ℕ × ℤ)) → xs ≡ done ++ later → done ≡ xs
    by [] split = sym (split ∙ append-nil done)
    by (x ∷ later) split = absurd (let e : length xs ≡ length (done ++ x ∷ later) = ap length split in let sum = length-append done (x ∷ later) in omega (arith, e, sum, same))

-- ---- rows

-- some of the rows are passed, and the others stand from the offset on
pub record RowsLeft (rows done : List Series) (bytes : List ℕ) (at : ℕ) : Type 0 where
  pub later : List Series
  pub split : rows ≡ done ++ later
  pub spelled : AreSpelled later
  pub stands : drop at bytes ≡ data_bytes later

-- one of them stands at the offset
pub record NextRow (rows done : List Series) (bytes : List ℕ) (at : ℕ) : Type 0 where
  pub one : Series
  pub later : List Series
  pub split : rows ≡ done ++ one ∷ later
  pub is : IsSpelled one
  pub spelled : AreSpelled later
  pub stands : drop at bytes ≡ row_bytes one ++ data_bytes later

pub next_row : (rows done : List Series) (bytes : List ℕ) (at : ℕ) → RowsLeft rows done bytes at → at < length bytes → NextRow rows done bytes at
next_row rows done bytes at left more = by left.later left.split left.spelled left.stands
  where
    by : (later : List Series) → rows ≡ done ++ later → AreSpelled later → drop at bytes ≡ data_bytes later → NextRow rows done bytes at
    by [] split spelled stands = absurd (let e : length bytes - at ≡ 0 = sym (length-drop at bytes) ∙ ap length stands in omega (arith, e, more))
    by (s ∷ later) split spelled stands = record { one = s; later = later; split = split; is = spelled s (inl refl); spelled = λ z m. spelled z (inr m); stands = stands }

-- one more is passed
pub row_passed : (rows done : List Series) (bytes : List ℕ) (at next : ℕ) (s : Series) → (n : NextRow rows done bytes at) → s ≡ n.one → drop next bytes ≡ data_bytes n.later → RowsLeft rows (done ++ s ∷ []) bytes next
row_passed rows done bytes at next s n is stands = record {
  later = n.later;
  split = n.split ∙ ap (λ (r : Series). done ++ r ∷ n.later) (sym is) ∙ sym (append_assoc done (s ∷ []) n.later);
  spelled = n.spelled;
  stands = stands;
}

pub rows_begin : (rows : List Series) (bytes : List ℕ) → AreSpelled rows → bytes ≡ data_bytes rows → RowsLeft rows [] bytes 0
rows_begin rows bytes spelled is = record { later = rows; split = refl; spelled = spelled; stands = is }

-- all are passed
pub rows_end : (rows done : List Series) (bytes : List ℕ) (at : ℕ) → RowsLeft rows done bytes at → length bytes ≤ at → done ≡ rows
rows_end rows done bytes at left all = by left.later left.split left.stands
  where
    by : (later : List Series) → rows ≡ done ++ later → drop at bytes ≡ data_bytes later → done ≡ rows
    by [] split stands = sym (split ∙ append-nil done)
    by (s ∷ later) split stands = absurd (
        let e : 0 ≡ length (row_bytes s ++ data_bytes later) = ap length (sym (drop_of_length-le bytes all) ∙ stands) in
        let sum = length-append (row_bytes s) (data_bytes later) in
        let long = length_row s in
        omega (arith, e, sum, long)
        )

-- the rows before the offset are passed, and none of them has the identifier
pub record RowsSkipped (id : List ℕ) (rows : List Series) (bytes : List ℕ) (at : ℕ) : Type 0 where
  pub done : List Series
  pub left : RowsLeft rows done bytes at
  pub none : (s : Series) → IsIn done s → ¬ (s.id ≡ id)

pub skipped_begin : (id : List ℕ) (rows : List Series) (bytes : List ℕ) → AreSpelled rows → bytes ≡ data_bytes rows → RowsSkipped id rows bytes 0
skipped_begin id rows bytes spelled is = record { done = []; left = rows_begin rows bytes spelled is; none = λ s m e. m }

pub row_skipped : (id : List ℕ) (rows : List Series) (bytes : List ℕ) (at next : ℕ) → (k : RowsSkipped id rows bytes at) → (n : NextRow rows k.done bytes at) → ¬ (n.one.id ≡ id) → drop next bytes ≡ data_bytes n.later → RowsSkipped id rows bytes next
row_skipped id rows bytes at next k n other stands = record {
  done = k.done ++ n.one ∷ [];
  left = row_passed rows k.done bytes at next n.one n refl stands;
  none = none_more k.done k.none;
}
  where
    none_more : (done : List Series) → ((s : Series) → IsIn done s → ¬ (s.id ≡ id)) → (s : Series) → IsIn (done ++ n.one ∷ []) s → ¬ (s.id ≡ id)
    none_more [] none s (inr m) e = absurd m
    none_more [] none s (inl is) e = other (ap (λ (r : Series). r.id) is ∙ e)
    none_more (d ∷ done) none s (inl is) e = none s (inl is) e
    none_more (d ∷ done) none s (inr m) e = none_more done (λ r i. none r (inr i)) s m e

-- all are passed
pub skipped_end : (id : List ℕ) (rows : List Series) (bytes : List ℕ) (at : ℕ) → RowsSkipped id rows bytes at → length bytes ≤ at → (s : Series) → IsIn rows s → ¬ (s.id ≡ id)
skipped_end id rows bytes at k all = subst (λ (l : List Series). (s : Series) → IsIn l s → ¬ (s.id ≡ id)) (rows_end rows k.done bytes at k.left all) k.none

-- the next one is among them
pub next_is_in : (rows done : List Series) (bytes : List ℕ) (at : ℕ) → (n : NextRow rows done bytes at) → IsIn rows n.one
next_is_in rows done bytes at n = subst (λ (l : List Series). IsIn l n.one) (sym n.split) (IsIn-append_right done (n.one ∷ n.later) n.one (inl refl))

-- whether the next one has the identifier is a matter of the bytes between its two offsets
pub same_id : (s : Series) (rest bytes : List ℕ) (r : RowAt) → RowStands s rest bytes r → take (r.id_to - r.id_from) (drop r.id_from bytes) ≡ s.id
same_id s rest bytes r st =
    let long : r.id_to - r.id_from ≡ length s.id = let e = st.id_to in omega (arith, e) in
    ap (λ (n : ℕ). take n (drop r.id_from bytes)) long ∙ st.id

-- what is told of the read of a series is told of the whole read
pub passed : {X Y : Type 0} (r : Result X RowErr) (e : RowErr) (P : Y → Type 0) (Q : X → Type 0) → IsErrAnd r (λ d. d ≡ e) → Gives {X = Y} (Err e) P → Gives r Q
passed {X} {Y} r e P Q is g = let q = err_from_is_err_and r is in by r q.0 q.1 e q.2 g
  where
    by : (r : Result X RowErr) (d : RowErr) → r ≡ Err d → (e : RowErr) → d ≡ e → Gives {X = Y} (Err e) P → Gives r Q
    by r d was errors.Memory same g = subst (λ (s : Result X RowErr). Gives s Q) (sym (was ∙ ap Err same)) tt
    by r d was errors.Form same g = absurd g
