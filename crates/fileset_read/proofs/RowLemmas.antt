-- The parts of a series' record, one after another.
use Rattle.std.proofs.Common.{◌≡◌, ℕ, ◌+◌, ◌*◌, ◌-◌, ◌≤◌, List, ◌++◌, length, take, drop, flat_map, refl, sym, ap, subst, ◌∙◌, arith, append_assoc, length-append, length-drop}
use Rattle.std.proofs.lemmas.List.{take_at, drop_at, drop-drop}
use Rattle.byteorder.specs.Endian.{big_bytes}
use Rattle.shard_files.specs.m3_model.declared.point.Series.{Series}
use Rattle.shard_files.specs.wire_bytes.Fields.{Stands}
use Rattle.shard_files.specs.wire_bytes.Volumes.{id_bytes, pair_bytes, row_bytes}
use Rattle.shard_files.proofs.wire_bytes_proofs.NumberLemmas.{length_number}
use Rattle.volume_bytes.proofs.RowLemmas.{length_row}
use Rattle.fileset_read.specs.Rows.{RowStands}

-- the first of two parts, and what is behind it
pub front_stands : (a b bytes : List ℕ) (at : ℕ) → at ≤ length bytes → drop at bytes ≡ a ++ b → Stands a bytes at (at + length a) × (drop (at + length a) bytes ≡ b)
front_stands a b bytes at inside e =
    let later : drop (at + length a) bytes ≡ b = sym (drop-drop (length a) at bytes) ∙ ap (λ (l : List ℕ). drop (length a) l) e ∙ drop_at a b (length a) refl in
    let long : length bytes - at ≡ length (a ++ b) = sym (length-drop at bytes) ∙ ap length e in
    let sum = length-append a b in
    (record { split = e ∙ ap (λ (l : List ℕ). a ++ l) (sym later); ends = refl; within = omega (arith, long, sum, inside) }, later)

pub number_stands : (w n : ℕ) (b bytes : List ℕ) (at : ℕ) → at ≤ length bytes → drop at bytes ≡ big_bytes w n ++ b → Stands (big_bytes w n) bytes at (at + w) × (drop (at + w) bytes ≡ b)
number_stands w n b bytes at inside e =
    subst (λ (k : ℕ). Stands (big_bytes w n) bytes at (at + k) × (drop (at + k) bytes ≡ b)) (length_number w n) (front_stands (big_bytes w n) b bytes at inside e)

-- where the parts of the record stand
pub record RowParts (s : Series) (rest bytes : List ℕ) (at : ℕ) : Type 0 where
  pub head : Stands (big_bytes 2 (length s.id)) bytes at (at + 2)
  pub id : drop (at + 2) bytes ≡ s.id ++ (big_bytes 4 (length s.points) ++ (flat_map pair_bytes s.points ++ rest))
  pub counted : Stands (big_bytes 4 (length s.points)) bytes (at + 2 + length s.id) (at + 2 + length s.id + 4)
  pub points : drop (at + 2 + length s.id + 4) bytes ≡ flat_map pair_bytes s.points ++ rest
  pub next : drop (at + 2 + length s.id + 4 + 16 * length s.points) bytes ≡ rest
  pub within : at + 2 + length s.id + 4 + 16 * length s.points ≤ length bytes

row_split : (s : Series) (rest : List ℕ) → row_bytes s ++ rest ≡ big_bytes 2 (length s.id) ++ (s.id ++ (big_bytes 4 (length s.points) ++ (flat_map pair_bytes s.points ++ rest)))
row_split s rest =
    let count = big_bytes 4 (length s.points) in
    let pairs = flat_map pair_bytes s.points in
    append_assoc (id_bytes s.id) (count ++ pairs) rest
    ∙ append_assoc (big_bytes 2 (length s.id)) s.id ((count ++ pairs) ++ rest)
    ∙ ap (λ (l : List ℕ). big_bytes 2 (length s.id) ++ (s.id ++ l)) (append_assoc count pairs rest)

pub row_parts : (s : Series) (rest bytes : List ℕ) (at : ℕ) → at ≤ length bytes → drop at bytes ≡ row_bytes s ++ rest → RowParts s rest bytes at
row_parts s rest bytes at inside e =
    let head = number_stands 2 (length s.id) _ bytes at inside (e ∙ row_split s rest) in
    let id = front_stands s.id _ bytes (at + 2) head.0.within head.1 in
    let count = number_stands 4 (length s.points) _ bytes (at + 2 + length s.id) id.0.within id.1 in
    let all = front_stands (row_bytes s) rest bytes at inside e in
    let long = length_row s in
    let ends : at + length (row_bytes s) ≡ at + 2 + length s.id + 4 + 16 * length s.points = omega (arith, long) in
    record {
      head = head.0;
      id = head.1;
      counted = count.0;
      points = count.1;
      next = ap (λ (n : ℕ). drop n bytes) (sym ends) ∙ all.1;
      within = subst (λ (n : ℕ). n ≤ length bytes) ends all.0.within;
    }

pub row_found : (s : Series) (rest bytes : List ℕ) (at len count : ℕ) → RowParts s rest bytes at → len ≡ length s.id → count ≡ length s.points
    → RowStands s rest bytes (record { id_from = at + 2; id_to = at + 2 + len; count = count; from = at + 2 + len + 4; next = at + 2 + len + 4 + 16 * count })
row_found s rest bytes at len count p a b = record {
  id = ap (λ (l : List ℕ). take (length s.id) l) p.id ∙ take_at s.id _ (length s.id) refl;
  id_to = ap (λ (n : ℕ). at + 2 + n) a;
  count = b;
  points = ap (λ (n : ℕ). drop (at + 2 + n + 4) bytes) a ∙ p.points;
  next = ap (λ (n : ℕ). drop (at + 2 + n + 4 + 16 * count) bytes) a ∙ ap (λ (n : ℕ). drop (at + 2 + length s.id + 4 + 16 * n) bytes) b ∙ p.next;
}
