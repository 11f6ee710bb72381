-- Rows one after another.
use Rattle.std.proofs.Common.{add-one, ◌≡◌, ℕ, ℤ, ◌+◌, ◌*◌, ◌<◌, List, [], ◌∷◌, ◌++◌, length, flat_map, drop, get_or, refl, sym, ap, ◌∙◌, arith, append_assoc, length-append, All, FitsSigned, pos, to_z, of_z}
use Rattle.std.proofs.lemmas.Int.{to_z-of_z}
use Rattle.std.proofs.lemmas.List.Elements.{All-get_or}
use Rattle.std.proofs.lemmas.List.{append-nil}
use Rattle.std.proofs.Math.Seq.{drop-cons}
use Rattle.std.proofs.lemmas.List.Sums.{sum_by-cons}
use Rattle.std.proofs.lemmas.List.Concat.{flat_map-cons}
use Rattle.std.specs.Int.{w64, cast_unsigned}
use Rattle.byteorder.specs.Endian.{big_bytes}
use Rattle.wire_bytes.specs.m3_model.declared.point.Series.{Series}
use Rattle.wire_bytes.specs.Volumes.{id_bytes, pair_bytes, row_bytes, data_bytes, index_entry, index_from, span_bytes, summaries_from, count_of}
use Rattle.wire_bytes.proofs.NumberLemmas.{length_number}

-- what is left from the offset of an item
pub left_at : {X : Type 0} (xs : List X) (i : ℕ) (x : X) → i < length xs → x ≡ get_or xs i x → drop i xs ≡ x ∷ drop (i + 1) xs
left_at xs i x lt is = rw add-one (drop-cons xs i x lt) ∙ ap (λ y. y ∷ drop (i + 1) xs) (sym is)

length_pair : (x : ℕ × ℤ) → length (pair_bytes x) ≡ 16
length_pair x =
    let a = length_number 8 x.0 in
    let b = length_number 8 (cast_unsigned w64 x.1) in
    length-append (big_bytes 8 x.0) (big_bytes 8 (cast_unsigned w64 x.1)) ∙ omega (arith, a, b)

length_pairs : (xs : List (ℕ × ℤ)) → length (flat_map pair_bytes xs) ≡ 16 * length xs
length_pairs [] = refl
length_pairs (x ∷ xs) =
    let rest = length_pairs xs in
    let one = length_pair x in
    ap length (flat_map-cons pair_bytes x xs) ∙ length-append (pair_bytes x) (flat_map pair_bytes xs) ∙ omega (arith, rest, one)

length_id : (id : List ℕ) → length (id_bytes id) ≡ 2 + length id
length_id id = let a = length_number 2 (length id) in length-append (big_bytes 2 (length id)) id ∙ omega (arith, a)

pub length_row : (s : Series) → length (row_bytes s) ≡ 6 + length s.id + 16 * length s.points
length_row s =
    let a = length_id s.id in
    let b = length_number 4 (length s.points) in
    let d = length_pairs s.points in
    length-append (id_bytes s.id) (big_bytes 4 (length s.points) ++ flat_map pair_bytes s.points)
    ∙ ap (λ n. length (id_bytes s.id) + n) (length-append (big_bytes 4 (length s.points)) (flat_map pair_bytes s.points))
    ∙ omega (arith, a, b, d)

-- an entry of the index is as long wherever its series stands
pub length_entry : (at : ℕ) (s : Series) → length (index_entry 1 at s) ≡ length (index_entry 1 0 s)
length_entry at s =
    let more : List ℕ = big_bytes 4 (length (row_bytes s)) ++ span_bytes 1 s in
    let a = length_number 8 at in
    let b = length_number 8 0 in
    length-append (id_bytes s.id) (big_bytes 8 at ++ more)
    ∙ ap (λ n. length (id_bytes s.id) + n) (length-append (big_bytes 8 at) more ∙ ap (λ n. n + length more) (a ∙ sym b) ∙ sym (length-append (big_bytes 8 0) more))
    ∙ sym (length-append (id_bytes s.id) (big_bytes 8 0 ++ more))

-- ---- one series more

pub entry_is : (old a b d id : List ℕ) (at offset len : ℕ) (s : Series) → a ≡ old ++ id_bytes id → id ≡ s.id → b ≡ a ++ big_bytes 8 at → at ≡ offset → d ≡ b ++ big_bytes 4 len → len ≡ length (row_bytes s) → d ≡ old ++ index_entry 1 offset s
entry_is old a b d id at offset len s first named second stands third long =
    let x = id_bytes s.id in
    let y = big_bytes 8 offset in
    let z = big_bytes 4 (length (row_bytes s)) in
    let none : List ℕ = [] in
    third
    ∙ ap (λ (n : ℕ). b ++ big_bytes 4 n) long
    ∙ ap (λ (l : List ℕ). l ++ z) (second ∙ ap (λ (n : ℕ). a ++ big_bytes 8 n) stands ∙ ap (λ (l : List ℕ). l ++ y) (first ∙ ap (λ (l : List ℕ). old ++ id_bytes l) named))
    ∙ append_assoc (old ++ x) y z
    ∙ append_assoc old x (y ++ z)
    ∙ ap (λ (l : List ℕ). old ++ (x ++ (y ++ l))) (sym (append-nil z))

module _ (rows : List Series) (i : ℕ) (s : Series) (left : drop i rows ≡ s ∷ drop (i + 1) rows) where
  abbrev rest : List Series
  rest = drop (i + 1) rows

  pub body_more : (old new whole : List ℕ) → new ≡ old ++ row_bytes s → old ++ data_bytes (drop i rows) ≡ whole → new ++ data_bytes rest ≡ whole
  body_more old new whole more before =
      ap (λ (l : List ℕ). l ++ data_bytes rest) more
      ∙ append_assoc old (row_bytes s) (data_bytes rest)
      ∙ ap (λ (l : List ℕ). old ++ l) (sym (flat_map-cons row_bytes s rest))
      ∙ ap (λ (l : List Series). old ++ data_bytes l) (sym left)
      ∙ before

  pub index_more : (old new whole : List ℕ) (at next : ℕ) → new ≡ old ++ index_entry 1 at s → next ≡ at + length (row_bytes s) → old ++ index_from 1 at (drop i rows) ≡ whole → new ++ index_from 1 next rest ≡ whole
  index_more old new whole at next more offset before =
      ap (λ (l : List ℕ). l ++ index_from 1 next rest) more
      ∙ append_assoc old (index_entry 1 at s) (index_from 1 next rest)
      ∙ ap (λ (n : ℕ). old ++ (index_entry 1 at s ++ index_from 1 n rest)) offset
      ∙ ap (λ (l : List Series). old ++ index_from 1 at l) (sym left)
      ∙ before

  pub count_more : (points n : ℕ) → n ≡ length s.points → points + count_of (drop i rows) ≡ count_of rows → points + n + count_of rest ≡ count_of rows
  count_more points n is before =
      let one = ap count_of left ∙ sum_by-cons (λ (r : Series). length r.points) s rest in
      omega (arith, is, before, one)

  pub summaries_more : (old new whole : List ℕ) (others next offset after : ℕ) → ((l : List Series) → new ++ summaries_from 1 next (offset + length (index_entry 1 0 s)) l ≡ old ++ summaries_from 1 others offset (s ∷ l))
      → after ≡ offset + length (index_entry 1 0 s) → old ++ summaries_from 1 others offset (drop i rows) ≡ whole → new ++ summaries_from 1 next after rest ≡ whole
  summaries_more old new whole others next offset after more is before =
      ap (λ (n : ℕ). new ++ summaries_from 1 next n rest) is ∙ more rest ∙ ap (λ (l : List Series). old ++ summaries_from 1 others offset l) (sym left) ∙ before

-- one pair more
pub pair_more : (pairs : List (ℕ × ℤ)) (i : ℕ) (old a new whole : List ℕ) (v : ℕ) → i < length pairs → All (λ (x : ℕ × ℤ). FitsSigned w64 x.1) pairs
    → a ≡ old ++ big_bytes 8 (get_or pairs i (0, pos 0)).0 → new ≡ a ++ big_bytes 8 v → v ≡ of_z w64 (to_z w64 (of_z w64 (get_or pairs i (0, pos 0)).1))
    → old ++ flat_map pair_bytes (drop i pairs) ≡ whole → new ++ flat_map pair_bytes (drop (i + 1) pairs) ≡ whole
pair_more pairs i old a new whole v lt fits first second is before =
    let x = get_or pairs i (0, pos 0) in
    let value : of_z w64 (to_z w64 (of_z w64 x.1)) ≡ of_z w64 x.1 = ap (of_z w64) (to_z-of_z w64 x.1 (All-get_or (λ (x : ℕ × ℤ). FitsSigned w64 x.1) pairs i (0, pos 0) lt fits)) in
    let left : drop i pairs ≡ x ∷ drop (i + 1) pairs = rw add-one (drop-cons pairs i (0, pos 0) lt) in
    let rest = flat_map pair_bytes (drop (i + 1) pairs) in
    ap (λ (l : List ℕ). l ++ rest) (second ∙ ap (λ (n : ℕ). a ++ big_bytes 8 n) (is ∙ value) ∙ ap (λ (l : List ℕ). l ++ big_bytes 8 (of_z w64 x.1)) first ∙ append_assoc old (big_bytes 8 x.0) (big_bytes 8 (of_z w64 x.1)))
    ∙ append_assoc old (pair_bytes x) rest
    ∙ ap (λ (l : List ℕ). old ++ l) (sym (flat_map-cons pair_bytes x (drop (i + 1) pairs)))
    ∙ ap (λ (l : List (ℕ × ℤ)). old ++ flat_map pair_bytes l) (sym left)
    ∙ before
