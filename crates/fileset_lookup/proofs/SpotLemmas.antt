-- Entries of an index passed one after another, up to that of an identifier.
use Rattle.std.proofs.Common.{◌≡◌, ◌⊎◌, inl, inr, ℕ, ◌+◌, ◌<◌, ◌^◌, List, [], ◌∷◌, ◌++◌, length, refl, sym, ap, subst, ◌∙◌, arith, append_assoc, append-nil, length-append}
use Rattle.std.proofs.lemmas.List.Concat.{flat_map-append}
use Rattle.byteorder.specs.Endian.{big_bytes}
use Rattle.wire_bytes.specs.m3_model.Ascends.{Ascends}
use Rattle.wire_bytes.specs.m3_model.Members.{IsIn}
use Rattle.wire_bytes.specs.m3_model.Tags.{IsBelow}
use Rattle.wire_bytes.specs.m3_model.declared.point.Series.{Series}
use Rattle.wire_bytes.proofs.m3_model_proofs.MemberLemmas.{IsIn-append_left, IsIn-append_right, IsIn-append_cases}
use Rattle.wire_bytes.specs.Volumes.{VolumeHead, IsVolume, id_bytes, row_bytes, data_bytes, index_entry, index_from}
use Rattle.volume_bytes.proofs.RowLemmas.{length_row}
use Rattle.fileset_lookup.specs.Spots.{IsSpot}
use Rattle.fileset_lookup.specs.declared.entries.Spot.{Spot}
use Rattle.fileset_lookup.proofs.OrderLemmas.{Before, not_below_itself, above_from}
use Rattle.fileset_lookup.proofs.SizeLemmas.{length_entry}

-- some of the rows are passed, and none of them has the identifier; the entries of the others are left
pub record EntriesLeft (id : List ℕ) (before rows : List Series) (rest : List ℕ) : Type 0 where
  pub done : List Series
  pub later : List Series
  pub split : rows ≡ done ++ later
  pub none : (s : Series) → IsIn done s → ¬ (s.id ≡ id)
  pub stands : rest ≡ index_from 1 (length (data_bytes (before ++ done))) later

pub entries_begin : (id : List ℕ) (before rows : List Series) (rest : List ℕ) → rest ≡ index_from 1 (length (data_bytes before)) rows → EntriesLeft id before rows rest
entries_begin id before rows rest is = record {
  done = [];
  later = rows;
  split = refl;
  none = λ s m. absurd m;
  stands = is ∙ ap (λ (l : List Series). index_from 1 (length (data_bytes l)) rows) (sym (append-nil before));
}

-- the entry that stands first of those of the rows that are left
pub record NextEntry (before done later : List Series) (rest : List ℕ) : Type 0 where
  pub one : Series
  pub after : List Series
  pub later_is : later ≡ one ∷ after
  pub short : length one.id < 2 ^ 16
  pub at : length (data_bytes (before ++ done)) < 2 ^ 64
  pub len : length (row_bytes one) < 2 ^ 32
  pub stands : rest ≡ id_bytes one.id ++ (big_bytes 8 (length (data_bytes (before ++ done))) ++ (big_bytes 4 (length (row_bytes one)) ++ index_from 1 (length (data_bytes (before ++ done)) + length (row_bytes one)) after))

module _ (v : VolumeHead) (before rows behind : List Series) (is : IsVolume v (before ++ (rows ++ behind))) (rest : List ℕ) where
  one_in : (done after : List Series) (s : Series) → rows ≡ done ++ s ∷ after → IsIn (before ++ (rows ++ behind)) s
  one_in done after s split = IsIn-append_right before (rows ++ behind) s (IsIn-append_left rows behind s (subst (λ (l : List Series). IsIn l s) (sym split) (IsIn-append_right done (s ∷ after) s (inl refl))))

  -- the volume's data has what comes before these, and more
  pub all_data : (done after : List Series) → rows ≡ done ++ after → length (data_bytes (before ++ done)) < 2 ^ 64
  all_data done after split =
      let whole : before ++ (rows ++ behind) ≡ (before ++ done) ++ (after ++ behind) =
      ap (λ (l : List Series). before ++ (l ++ behind)) split ∙ ap (λ (l : List Series). before ++ l) (append_assoc done after behind) ∙ sym (append_assoc before done (after ++ behind)) in
      let all : length (data_bytes (before ++ (rows ++ behind))) ≡ length (data_bytes (before ++ done) ++ data_bytes (after ++ behind)) = ap (λ (l : List Series). length (data_bytes l)) whole ∙ ap length (flat_map-append row_bytes (before ++ done) (after ++ behind)) in
      let sum = length-append (data_bytes (before ++ done)) (data_bytes (after ++ behind)) in
      let small = is.small in
      omega (arith, all, sum, small)

  -- of so many rows that are left, whichever were passed
  pub next_of : (done later : List Series) → rows ≡ done ++ later → rest ≡ index_from 1 (length (data_bytes (before ++ done))) later → 0 < length rest → NextEntry before done later rest
  next_of done [] split stands more = absurd (let e : length rest ≡ 0 = ap length stands in omega (arith, e, more))
  next_of done (s ∷ after) split stands more =
      let row = is.row s (one_in done after s split) in
      let at = length (data_bytes (before ++ done)) in
      let later = index_from 1 (at + length (row_bytes s)) after in
      let none : List ℕ = [] in
      record {
        one = s;
        after = after;
        later_is = refl;
        short = (let most = row.most in omega (arith, most));
        at = all_data done (s ∷ after) split;
        len = (let long = row.long in let is_long = length_row s in omega (arith, long, is_long));
        stands = stands
            ∙ append_assoc (id_bytes s.id) (big_bytes 8 at ++ (big_bytes 4 (length (row_bytes s)) ++ none)) later
            ∙ ap (λ (l : List ℕ). id_bytes s.id ++ l) (append_assoc (big_bytes 8 at) (big_bytes 4 (length (row_bytes s)) ++ none) later)
            ∙ ap (λ (l : List ℕ). id_bytes s.id ++ (big_bytes 8 at ++ (l ++ later))) (append-nil (big_bytes 4 (length (row_bytes s))));
      }

  -- the next row stands behind those passed, and the entries behind its own are those of the rows after it
  pub split_passed : (done later : List Series) (n : NextEntry before done later rest) → rows ≡ done ++ later → rows ≡ (done ++ n.one ∷ []) ++ n.after
  split_passed done later n split =
      let none : List Series = [] in split ∙ ap (λ (l : List Series). done ++ l) n.later_is ∙ sym (append_assoc done (n.one ∷ none) n.after)

  pub stands_passed : (new : List ℕ) (done later : List Series) (n : NextEntry before done later rest)
      → new ≡ index_from 1 (length (data_bytes (before ++ done)) + length (row_bytes n.one)) n.after → new ≡ index_from 1 (length (data_bytes (before ++ (done ++ n.one ∷ [])))) n.after
  stands_passed new done later n left =
      let none : List Series = [] in
      let all : length (data_bytes (before ++ done)) + length (row_bytes n.one) ≡ length (data_bytes (before ++ (done ++ n.one ∷ []))) =
      (let e : data_bytes (before ++ (done ++ n.one ∷ [])) ≡ data_bytes (before ++ done) ++ data_bytes (n.one ∷ none) = ap data_bytes (sym (append_assoc before done (n.one ∷ none))) ∙ flat_map-append row_bytes (before ++ done) (n.one ∷ none) in
      let long : length (data_bytes (before ++ (done ++ n.one ∷ []))) ≡ length (data_bytes (before ++ done) ++ data_bytes (n.one ∷ none)) = ap length e in
      let sum = length-append (data_bytes (before ++ done)) (data_bytes (n.one ∷ none)) in
      let one : length (data_bytes (n.one ∷ none)) ≡ length (row_bytes n.one) = ap length (append-nil (row_bytes n.one)) in
      omega (arith, long, sum, one)) in
      left ∙ ap (λ (m : ℕ). index_from 1 m n.after) all

  -- where no bytes are left, no rows are
  pub no_later : (done later : List Series) → rest ≡ index_from 1 (length (data_bytes (before ++ done))) later → length rest ≡ 0 → later ≡ []
  no_later done [] stands all = refl
  no_later done (r ∷ after) stands all = absurd (
      let at = length (data_bytes (before ++ done)) in
      let e : length rest ≡ length (index_entry 1 at r ++ index_from 1 (at + length (row_bytes r)) after) = ap length stands in
      let x = length-append (index_entry 1 at r) (index_from 1 (at + length (row_bytes r)) after) in
      let y = length_entry 1 at r in
      omega (arith, e, x, y, all)
      )

module _ (v : VolumeHead) (before rows behind : List Series) (is : IsVolume v (before ++ (rows ++ behind))) (id rest : List ℕ) where
  pub next_entry : (k : EntriesLeft id before rows rest) → 0 < length rest → NextEntry before k.done k.later rest
  next_entry k more = next_of v before rows behind is rest k.done k.later k.split k.stands more

  -- one more is passed
  pub entry_passed : (new : List ℕ) (k : EntriesLeft id before rows rest) (n : NextEntry before k.done k.later rest) → ¬ (n.one.id ≡ id)
      → new ≡ index_from 1 (length (data_bytes (before ++ k.done)) + length (row_bytes n.one)) n.after → EntriesLeft id before rows new
  entry_passed new k n other left =
      let none : List Series = [] in
      record {
        done = k.done ++ n.one ∷ [];
        later = n.after;
        split = split_passed v before rows behind is rest k.done k.later n k.split;
        none = λ s m e. by s (IsIn-append_cases k.done (n.one ∷ none) s m) e;
        stands = stands_passed v before rows behind is rest new k.done k.later n left;
      }
    where
      by : (s : Series) → IsIn k.done s ⊎ IsIn (n.one ∷ []) s → s.id ≡ id → ⊥
      by s (inl m) e = k.none s m e
      by s (inr (inl same)) e = other (ap (λ (r : Series). r.id) same ∙ e)
      by s (inr (inr m)) e = absurd m

  -- the next one has the identifier
  pub spot_found : (spot : Spot) (k : EntriesLeft id before rows rest) (n : NextEntry before k.done k.later rest) → n.one.id ≡ id → spot.at ≡ length (data_bytes (before ++ k.done)) → spot.len ≡ length (row_bytes n.one) → IsSpot id before rows spot
  spot_found spot k n same at len = record {
    front = k.done;
    one = n.one;
    back = n.after;
    split = k.split ∙ ap (λ (l : List Series). k.done ++ l) n.later_is;
    named = same;
    at = at;
    len = len;
  }

  -- the next one is above it, and so are all that are left
  pub none_found : (k : EntriesLeft id before rows rest) (n : NextEntry before k.done k.later rest) → IsBelow id n.one.id → (s : Series) → IsIn rows s → ¬ (s.id ≡ id)
  none_found k n below s m e = by (IsIn-append_cases k.done (n.one ∷ n.after) s (subst (λ (l : List Series). IsIn l s) split m))
    where
      split : rows ≡ k.done ++ n.one ∷ n.after
      split = k.split ∙ ap (λ (l : List Series). k.done ++ l) n.later_is

      whole : before ++ (rows ++ behind) ≡ (before ++ k.done) ++ n.one ∷ (n.after ++ behind)
      whole = ap (λ (l : List Series). before ++ (l ++ behind)) split ∙ ap (λ (l : List Series). before ++ l) (append_assoc k.done (n.one ∷ n.after) behind) ∙ sym (append_assoc before k.done (n.one ∷ (n.after ++ behind)))

      by : IsIn k.done s ⊎ IsIn (n.one ∷ n.after) s → ⊥
      by (inl l) = k.none s l e
      by (inr l) = not_below_itself id s.id (above_from id (before ++ k.done) n.one (n.after ++ behind) (subst (Ascends Before) whole is.ids) below s (IsIn-append_left (n.one ∷ n.after) behind s l)) e

  -- none is left
  pub none_left : (k : EntriesLeft id before rows rest) → length rest ≡ 0 → (s : Series) → IsIn rows s → ¬ (s.id ≡ id)
  none_left k all s m = k.none s (subst (λ (l : List Series). IsIn l s) (k.split ∙ ap (λ (l : List Series). k.done ++ l) (no_later v before rows behind is rest k.done k.later k.stands all) ∙ append-nil k.done) m)
