-- Pieces of an index and of data, and the rows whose entries and records they are.
use Rattle.std.proofs.Common.{◌≡◌, ◌⊎◌, inl, inr, ℕ, ◌+◌, ◌-◌, ◌≤◌, List, [], ◌∷◌, ◌++◌, length, take, drop, Option, Some, None, refl, sym, ap, subst, ◌∙◌, arith, append_assoc, length-append}
use Rattle.std.specs.Option.{unwrap_or}
use Rattle.std.proofs.lemmas.List.{take_at, drop_at}
use Rattle.std.proofs.lemmas.List.Concat.{flat_map-append}
use Rattle.fileset_read.specs.m3_model.Members.{IsIn}
use Rattle.fileset_read.specs.m3_model.declared.point.Series.{Series}
use Rattle.fileset_read.proofs.m3_model_proofs.MemberLemmas.{IsIn-append_right, IsIn-append_cases}
use Rattle.fileset_read.specs.wire_bytes.Volumes.{row_bytes, data_bytes, index_bytes, index_entry, index_from}
use Rattle.fileset_lookup.specs.Runs.{AreAbove, IsPiece, offset_of}
use Rattle.fileset_lookup.specs.Spots.{FindsSpot}
use Rattle.fileset_lookup.specs.declared.entries.Spot.{Spot}
use Rattle.fileset_lookup.specs.declared.summaries.Piece.{Piece}
use Rattle.fileset_lookup.proofs.OrderLemmas.{not_below_itself}
use Rattle.fileset_lookup.proofs.SizeLemmas.{size, size_append, length_from}
use Rattle.fileset_read.specs.Rows.{IsSpelled, AreSpelled}
use Rattle.volume_rows.specs.Stretches.{HaveNot, HasEntries, HasRecord, FindsRecord}
use Rattle.volume_rows.specs.declared.entries.Stretch.{Stretch}

-- ---- pieces of an index

pub above_have_not : (id : List ℕ) (rows : List Series) → AreAbove id rows → HaveNot id rows
above_have_not id rows above s m = not_below_itself id s.id (above s m)

pub index_size : (format : ℕ) (xs : List Series) → length (index_bytes format xs) ≡ size format xs
index_size format xs = length_from format 0 xs

-- where a piece ends
end_of : (later : List Series) (offset len : ℕ) → (later ≡ [] → len ≡ offset) → unwrap_or (offset_of later offset) len ≡ offset
end_of [] offset len is = is refl
end_of (s ∷ later) offset len is = refl

-- it ends where the entries of its run do
pub piece_end : (format : ℕ) (id : List ℕ) (rows : List Series) (piece : Piece) (index_len to : ℕ) → (is : IsPiece format id rows piece) → index_len ≡ length (index_bytes format rows) → to ≡ unwrap_or piece.to index_len
    → to ≡ length (index_bytes format (is.run.before ++ is.run.first ∷ is.run.others))
piece_end format id rows piece index_len to is whole ends =
    let r = is.run in
    let run : List Series = r.first ∷ r.others in
    let offset = length (index_bytes format (r.before ++ run)) in
    let all_rows : size format rows ≡ size format r.before + size format (run ++ r.later) = ap (size format) r.split ∙ size_append format r.before (run ++ r.later) in
    let tail = size_append format run r.later in
    let front = size_append format r.before run in
    let d = index_size format (r.before ++ run) in
    let e = index_size format rows in
    let last : r.later ≡ [] → index_len ≡ offset = λ none.
    let nothing : size format r.later ≡ 0 = ap (size format) none in
    omega (arith, all_rows, tail, front, d, e, whole, nothing) in
    ends ∙ ap (λ (o : Option ℕ). unwrap_or o index_len) is.to ∙ end_of r.later offset index_len last

-- the piece that is found by summaries, up to its end
pub record IsPieceTo (format : ℕ) (id : List ℕ) (rows : List Series) (from to : ℕ) : Type 0 where
  pub order : from ≤ to
  pub has : (stretch : Stretch) → stretch.at ≡ from → stretch.len ≡ to - from → HasEntries format id rows stretch

pub piece_to : (format : ℕ) (id : List ℕ) (rows : List Series) (piece : Piece) (index_len to : ℕ) → IsPiece format id rows piece → index_len ≡ length (index_bytes format rows) → to ≡ unwrap_or piece.to index_len → IsPieceTo format id rows piece.from to
piece_to format id rows piece index_len to is whole ends =
    let r = is.run in
    let run : List Series = r.first ∷ r.others in
    let front = size_append format r.before run in
    let a = index_size format r.before in
    let b = index_size format run in
    let d = index_size format (r.before ++ run) in
    let end = piece_end format id rows piece index_len to is whole ends in
    let from = is.from in
    record {
      order = omega (arith, end, from, front, a, d);
      has = λ p at len. record {
        before = r.before;
        run = run;
        later = r.later;
        split = r.split;
        at = at ∙ from;
        len = omega (arith, len, end, from, front, a, b, d);
        all = λ s m named. by (IsIn-append_cases r.before (run ++ r.later) s (subst (λ (l : List Series). IsIn l s) r.split m)) named;
      };
    }
  where
    inner : (s : Series) → IsIn (is.run.first ∷ is.run.others) s ⊎ IsIn is.run.later s → s.id ≡ id → IsIn (is.run.first ∷ is.run.others) s
    inner s (inl m) named = m
    inner s (inr m) named = absurd (not_below_itself id s.id (is.run.above s m) named)

    by : {s : Series} → IsIn is.run.before s ⊎ IsIn ((is.run.first ∷ is.run.others) ++ is.run.later) s → s.id ≡ id → IsIn (is.run.first ∷ is.run.others) s
    by {s} (inl m) named = absurd (not_below_itself s.id id (is.run.below s m) (sym named))
    by {s} (inr m) named = inner s (IsIn-append_cases (is.run.first ∷ is.run.others) is.run.later s m) named

index_append : (format at : ℕ) (xs ys : List Series) → index_from format at (xs ++ ys) ≡ index_from format at xs ++ index_from format (at + length (data_bytes xs)) ys
index_append format at [] ys = let e : at ≡ at + 0 = omega arith in ap (λ (n : ℕ). index_from format n ys) e
index_append format at (x ∷ xs) ys =
    let next = at + length (row_bytes x) in
    let sum = length-append (row_bytes x) (data_bytes xs) in
    let e : next + length (data_bytes xs) ≡ at + length (data_bytes (x ∷ xs)) = omega (arith, sum) in
    ap (λ (l : List ℕ). index_entry format at x ++ l) (index_append format next xs ys)
    ∙ ap (λ (n : ℕ). index_entry format at x ++ (index_from format next xs ++ index_from format n ys)) e
    ∙ sym (append_assoc (index_entry format at x) (index_from format next xs) (index_from format (at + length (data_bytes (x ∷ xs))) ys))

-- what comes between two parts
pub between : (a b c all : List ℕ) (at len : ℕ) → all ≡ a ++ (b ++ c) → at ≡ length a → len ≡ length b → (at + len ≤ length all) × (take len (drop at all) ≡ b)
between a b c all at len is from long =
    let x = length-append a (b ++ c) in
    let y = length-append b c in
    let z : length all ≡ length (a ++ (b ++ c)) = ap length is in (
      omega (arith, x, y, z, from, long),
      ap (λ (l : List ℕ). take len (drop at l)) is ∙ ap (take len) (drop_at a (b ++ c) at (sym from)) ∙ take_at b c len (sym long),
    )

-- entries of rows stand there, and they alone
pub run_stands : (format : ℕ) (rows before run later : List Series) (at len : ℕ) → rows ≡ before ++ (run ++ later) → at ≡ length (index_bytes format before) → len ≡ length (index_bytes format run)
    → (at + len ≤ length (index_bytes format rows)) × (take len (drop at (index_bytes format rows)) ≡ index_from format (length (data_bytes before)) run)
run_stands format rows before run later at len split from long =
    let next = 0 + length (data_bytes before) in
    let here : next ≡ length (data_bytes before) = omega arith in
    let same : length (index_from format next run) ≡ length (index_bytes format run) = length_from format next run ∙ sym (index_size format run) in
    let parts : index_bytes format rows ≡ index_bytes format before ++ (index_from format next run ++ index_from format (next + length (data_bytes run)) later) =
    ap (index_bytes format) split ∙ index_append format 0 before (run ++ later) ∙ ap (λ (l : List ℕ). index_bytes format before ++ l) (index_append format next run later) in
    let r = between (index_bytes format before) (index_from format next run) (index_from format (next + length (data_bytes run)) later) (index_bytes format rows) at len parts from (long ∙ sym same) in
    (r.0, r.1 ∙ ap (λ (n : ℕ). index_from format n run) here)

pub entries_stand : (format : ℕ) (id : List ℕ) (rows : List Series) (stretch : Stretch) → (h : HasEntries format id rows stretch)
    → (stretch.at + stretch.len ≤ length (index_bytes format rows)) × (take stretch.len (drop stretch.at (index_bytes format rows)) ≡ index_from format (length (data_bytes h.before)) h.run)
entries_stand format id rows stretch h = run_stands format rows h.before h.run h.later stretch.at stretch.len h.split h.at h.len

-- ---- records

-- the spot among the run is one among all rows
pub record_found : (format : ℕ) (id : List ℕ) (rows : List Series) (stretch : Stretch) → (h : HasEntries format id rows stretch) → (found : Option Spot) → FindsSpot id h.before h.run found → FindsRecord id rows found
record_found format id rows stretch h None none = λ s m named. none s (h.all s m named) named
record_found format id rows stretch h (Some spot) is = record {
  before = h.before ++ is.front;
  one = is.one;
  later = is.back ++ h.later;
  split = h.split
      ∙ ap (λ (l : List Series). h.before ++ (l ++ h.later)) is.split
      ∙ ap (λ (l : List Series). h.before ++ l) (append_assoc is.front (is.one ∷ is.back) h.later)
      ∙ sym (append_assoc h.before is.front (is.one ∷ (is.back ++ h.later)));
  named = is.named;
  at = is.at;
  len = is.len;
}

pub record_stands : (id : List ℕ) (rows : List Series) (spot : Spot) → (h : HasRecord id rows spot) → (spot.at + spot.len ≤ length (data_bytes rows)) × (take spot.len (drop spot.at (data_bytes rows)) ≡ row_bytes h.one)
record_stands id rows spot h =
    let split : data_bytes rows ≡ data_bytes h.before ++ (row_bytes h.one ++ data_bytes h.later) = ap data_bytes h.split ∙ flat_map-append row_bytes h.before (h.one ∷ h.later) in
    between (data_bytes h.before) (row_bytes h.one) (data_bytes h.later) (data_bytes rows) spot.at spot.len split h.at h.len

pub record_in : (id : List ℕ) (rows : List Series) (spot : Spot) → (h : HasRecord id rows spot) → IsIn rows h.one
record_in id rows spot h = subst (λ (l : List Series). IsIn l h.one) (sym h.split) (IsIn-append_right h.before (h.one ∷ h.later) h.one (inl refl))

-- ---- lists of one element

pub one_spelled : (s : Series) → IsSpelled s → AreSpelled (s ∷ [])
one_spelled s spelled r (inl same) = subst IsSpelled same spelled
one_spelled s spelled r (inr m) = absurd m

-- from its end
pub last_of_one : (rest : List Series) (x s : Series) → rest ++ x ∷ [] ≡ s ∷ [] → (rest ≡ []) × (x ≡ s)
last_of_one [] x s e = (refl, cc)
last_of_one (y ∷ rest) x s e = absurd (
    let long : length (y ∷ (rest ++ x ∷ [])) ≡ 1 = ap length e in
    let one : List Series = x ∷ [] in
    let sum = length-append rest one in
    omega (arith, long, sum)
    )
