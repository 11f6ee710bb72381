-- Summaries passed one after another, up to the first that is above an identifier.
use Rattle.std.proofs.Common.{◌≡◌, inl, ℕ, suc, ◌+◌, ◌%◌, ◌<◌, ◌≤◌, ◌^◌, List, [], ◌∷◌, ◌++◌, length, take, drop, Option, Some, None, refl, sym, ap, subst, ◌∙◌, arith, append_assoc, length-append, length-drop}
use Rattle.std.proofs.lemmas.List.{length-take, take-append-drop}
use Rattle.byteorder.specs.Endian.{big_bytes}
use Rattle.wire_bytes.specs.m3_model.Ascends.{Ascends}
use Rattle.wire_bytes.specs.m3_model.Members.{IsIn}
use Rattle.wire_bytes.specs.m3_model.Tags.{IsBelow}
use Rattle.wire_bytes.specs.m3_model.declared.point.Series.{Series}
use Rattle.wire_bytes.proofs.m3_model_proofs.MemberLemmas.{IsIn-append_right}
use Rattle.wire_bytes.specs.Volumes.{VolumeHead, IsVolume, id_bytes, index_entry, summaries_from}
use Rattle.fileset_lookup.specs.Runs.{Run, AreAbove, offset_of, piece_from, FindsPiece}
use Rattle.fileset_lookup.proofs.OrderLemmas.{Before, below_reached, ascends_before, above_from}
use Rattle.fileset_lookup.proofs.SizeLemmas.{length_id, length_from, size, size_append, skip, offsets_fit}

-- the rows of the last summary that is passed
pub record LastRun (format : ℕ) (id : List ℕ) (done : List Series) (offset : ℕ) : Type 0 where
  pub before : List Series
  pub first : Series
  pub others : List Series
  pub split : done ≡ before ++ first ∷ others
  pub named : length before % 16 ≡ 0
  pub few : length others ≤ 15
  pub reached : ¬ IsBelow id first.id
  pub is : offset ≡ size format before

abbrev pub LastIs : ℕ → List ℕ → List Series → Option ℕ → Type 0
LastIs format id done None = done ≡ []
LastIs format id done (Some offset) = LastRun format id done offset

-- some rows are passed, and the summaries of the others are left
pub record Passed (format : ℕ) (id : List ℕ) (rows : List Series) (rest : List ℕ) (last : Option ℕ) : Type 0 where
  pub done : List Series
  pub later : List Series
  pub split : rows ≡ done ++ later
  pub whole : 1 ≤ length later → length done % 16 ≡ 0
  pub stands : rest ≡ summaries_from format 0 (size format done) later
  pub last_is : LastIs format id done last

pub none_passed : (format : ℕ) (id : List ℕ) (rows : List Series) (rest : List ℕ) → rest ≡ summaries_from format 0 0 rows → Passed format id rows rest None
none_passed format id rows rest is = record { done = []; later = rows; split = refl; whole = λ _. refl; stands = is; last_is = refl }

-- the summary that stands first
pub record NextSummary (format : ℕ) (done later : List Series) (rest : List ℕ) : Type 0 where
  pub one : Series
  pub after : List Series
  pub later_is : later ≡ one ∷ after
  pub short : length one.id < 2 ^ 16
  pub fits : size format done < 2 ^ 64
  pub stands : rest ≡ (id_bytes one.id ++ big_bytes 8 (size format done)) ++ summaries_from format 15 (size format done + length (index_entry format 0 one)) after

pub next_summary : (v : VolumeHead) (id : List ℕ) (rows : List Series) (rest : List ℕ) (last : Option ℕ) → IsVolume v rows → (k : Passed v.format id rows rest last) → 0 < length rest → NextSummary v.format k.done k.later rest
next_summary v id rows rest last is k more = by k.later k.split k.stands
  where
    by : (later : List Series) → rows ≡ k.done ++ later → rest ≡ summaries_from v.format 0 (size v.format k.done) later → NextSummary v.format k.done later rest
    by [] split stands = absurd (let e : length rest ≡ 0 = ap length stands in omega (arith, e, more))
    by (s ∷ after) split stands = record {
      one = s;
      after = after;
      later_is = refl;
      short = (let most = (is.row s (subst (λ (l : List Series). IsIn l s) (sym split) (IsIn-append_right k.done (s ∷ after) s (inl refl)))).most in omega (arith, most));
      fits = offsets_fit v rows k.done (s ∷ after) is split;
      stands = stands;
    }

-- one more is passed
pub summary_passed : (v : VolumeHead) (id : List ℕ) (rows : List Series) (rest new : List ℕ) (last : Option ℕ) (offset : ℕ) → (k : Passed v.format id rows rest last) → (n : NextSummary v.format k.done k.later rest)
    → ¬ IsBelow id n.one.id → offset ≡ size v.format k.done → new ≡ summaries_from v.format 15 (size v.format k.done + length (index_entry v.format 0 n.one)) n.after → Passed v.format id rows new (Some offset)
summary_passed v id rows rest new last offset k n reached here left =
    let others = take 15 n.after in
    let later = drop 15 n.after in
    let long = length-drop 15 n.after in
    let taken = length-take 15 n.after in
    let all = length-append k.done (n.one ∷ others) in
    let count : length (n.one ∷ n.after) ≡ suc (length n.after) = refl in
    let was : length k.later ≡ suc (length n.after) = ap length n.later_is in
    record {
      done = k.done ++ n.one ∷ others;
      later = later;
      split = k.split ∙ ap (λ (l : List Series). k.done ++ l) (n.later_is ∙ ap (λ (l : List Series). n.one ∷ l) (sym (take-append-drop 15 n.after))) ∙ sym (append_assoc k.done (n.one ∷ others) later);
      whole = λ some. let whole = k.whole (omega (arith, was)) in omega (arith, some, long, taken, all, whole);
      stands = (let sum = size_append v.format k.done (n.one ∷ others) in
          let e : size v.format k.done + length (index_entry v.format 0 n.one) + size v.format others ≡ size v.format (k.done ++ n.one ∷ others) = omega (arith, sum) in
          left ∙ skip v.format 15 (size v.format k.done + length (index_entry v.format 0 n.one)) n.after ∙ ap (λ (m : ℕ). summaries_from v.format 0 m later) e);
      last_is = record {
        before = k.done;
        first = n.one;
        others = others;
        split = refl;
        named = k.whole (omega (arith, was));
        few = omega (arith, taken);
        reached = reached;
        is = here;
      };
    }

run_of : (v : VolumeHead) (id : List ℕ) (rows : List Series) (rest : List ℕ) (offset : ℕ) → IsVolume v rows → (k : Passed v.format id rows rest (Some offset)) → AreAbove id k.later → Run id rows
run_of v id rows rest offset is k above =
    let r = k.last_is in
    let split : rows ≡ r.before ++ (r.first ∷ r.others ++ k.later) = k.split ∙ ap (λ (l : List Series). l ++ k.later) r.split ∙ append_assoc r.before (r.first ∷ r.others) k.later in
    record {
      before = r.before;
      first = r.first;
      others = r.others;
      later = k.later;
      split = split;
      named = r.named;
      few = r.few;
      full = λ some.
          let whole = k.whole some in
          let count : length k.done ≡ length (r.before ++ r.first ∷ r.others) = ap length r.split in
          let sum = length-append r.before (r.first ∷ r.others) in
          let named = r.named in
          let few = r.few in
          omega (arith, whole, count, sum, named, few);
      below = λ s m. below_reached s.id r.first.id id (ascends_before r.before r.first (r.others ++ k.later) (subst (Ascends Before) split is.ids) s m) r.reached;
      reached = r.reached;
      above = above;
    }

-- where none of the summaries that are left is reached, the last that is passed is found
pub piece_found : (v : VolumeHead) (id : List ℕ) (rows : List Series) (rest : List ℕ) (last to : Option ℕ) → IsVolume v rows → (k : Passed v.format id rows rest last) → AreAbove id k.later → to ≡ offset_of k.later (size v.format k.done)
    → FindsPiece v.format id rows (piece_from last to)
unfolding run_of
piece_found v id rows rest None to is k above ends =
    subst (AreAbove id) (sym (k.split ∙ ap (λ (l : List Series). l ++ k.later) k.last_is)) above
piece_found v id rows rest (Some offset) to is k above ends =
    let r = k.last_is in
    record {
      run = run_of v id rows rest offset is k above;
      from = r.is ∙ sym (length_from v.format 0 r.before);
      to = ends ∙ ap (offset_of k.later) (ap (size v.format) r.split ∙ sym (length_from v.format 0 (r.before ++ r.first ∷ r.others)));
    }

-- the first of those left is above
pub piece_before : (v : VolumeHead) (id : List ℕ) (rows : List Series) (rest : List ℕ) (last : Option ℕ) (offset : ℕ) → IsVolume v rows → (k : Passed v.format id rows rest last) → (n : NextSummary v.format k.done k.later rest)
    → IsBelow id n.one.id → offset ≡ size v.format k.done → FindsPiece v.format id rows (piece_from last (Some offset))
piece_before v id rows rest last offset is k n below here =
    let split : rows ≡ k.done ++ n.one ∷ n.after = k.split ∙ ap (λ (l : List Series). k.done ++ l) n.later_is in
    piece_found v id rows rest last (Some offset) is k
    (subst (AreAbove id) (sym n.later_is) (above_from id k.done n.one n.after (subst (Ascends Before) split is.ids) below))
    (ap Some here ∙ ap (λ (l : List Series). offset_of l (size v.format k.done)) (sym n.later_is))

-- none is left
pub piece_at_end : (v : VolumeHead) (id : List ℕ) (rows : List Series) (rest : List ℕ) (last : Option ℕ) → IsVolume v rows → (k : Passed v.format id rows rest last) → length rest ≡ 0 → FindsPiece v.format id rows (piece_from last None)
piece_at_end v id rows rest last is k all =
    piece_found v id rows rest last None is k (subst (AreAbove id) (sym none) (λ s m. absurd m)) (ap (λ (l : List Series). offset_of l (size v.format k.done)) (sym none))
  where
    by : (later : List Series) → rest ≡ summaries_from v.format 0 (size v.format k.done) later → later ≡ []
    by [] stands = refl
    by (s ∷ after) stands = absurd (
        let e : length rest ≡ length ((id_bytes s.id ++ big_bytes 8 (size v.format k.done)) ++ summaries_from v.format 15 (size v.format k.done + length (index_entry v.format 0 s)) after) = ap length stands in
        let x = length-append (id_bytes s.id ++ big_bytes 8 (size v.format k.done)) (summaries_from v.format 15 (size v.format k.done + length (index_entry v.format 0 s)) after) in
        let y = length-append (id_bytes s.id) (big_bytes 8 (size v.format k.done)) in
        let z = length_id s.id in
        omega (arith, e, x, y, z, all)
        )

    none : k.later ≡ []
    none = by k.later k.stands
