-- Rows passed that are below an identifier, and rows taken from there up to another.
use Rattle.std.proofs.Common.{◌≡◌, ◌⊎◌, inl, inr, ℕ, ◌+◌, ◌<◌, ◌≤◌, ◌^◌, Bool, true, false, List, [], ◌∷◌, ◌++◌, length, take, drop, Option, Some, None, Result, Ok, Err, refl, sym, ap, subst, ◌∙◌, arith, append_assoc, append-nil, length-append}
use Rattle.std.proofs.lemmas.List.{length_push, take_at}
use Rattle.std.proofs.lemmas.List.Concat.{flat_map-append, flat_map-cons}
use Rattle.std.proofs.lemmas.List.Sums.{sum_by-append, sum_by_push, sum_by-take-drop}
use Rattle.wire_bytes.specs.m3_model.Ascends.{Ascends}
use Rattle.wire_bytes.specs.m3_model.Members.{IsIn}
use Rattle.wire_bytes.specs.m3_model.Tags.{IsBelow}
use Rattle.wire_bytes.specs.m3_model.declared.point.Series.{Series}
use Rattle.wire_bytes.proofs.m3_model_proofs.MemberLemmas.{IsIn-append_left, IsIn-append_cases}
use Rattle.wire_bytes.specs.Volumes.{VolumeHead, IsVolume, row_bytes, data_bytes, index_from, count_of}
use Rattle.volume_bytes.proofs.RowLemmas.{length_row}
use Rattle.wire_bytes.specs.declared.wire_err.WireErr.{WireErr}
use Rattle.fileset_lookup.specs.Runs.{Gives}
use Rattle.fileset_lookup.specs.Extents.{AreBelow, IsBeyond, AreBeyond, AreEnough, NoneIsBeyond, AreNeeded, AreTaken, AreSkipped, IsExtent}
use Rattle.fileset_lookup.specs.declared.extents.Extent.{Extent}
use Rattle.fileset_lookup.proofs.OrderLemmas.{Before, below_trans, ascends_later}
use Rattle.fileset_lookup.proofs.SpotLemmas.{NextEntry, all_data, next_of, split_passed, stands_passed, no_later}

-- some of the rows are passed, and each of them is below the identifier; the entries of the others are left
pub record RowsSkipped (id : List ℕ) (before rows : List Series) (rest : List ℕ) : Type 0 where
  pub done : List Series
  pub later : List Series
  pub split : rows ≡ done ++ later
  pub below : AreBelow id done
  pub stands : rest ≡ index_from 1 (length (data_bytes (before ++ done))) later

pub skip_begins : (id : List ℕ) (before rows : List Series) (rest : List ℕ) → rest ≡ index_from 1 (length (data_bytes before)) rows → RowsSkipped id before rows rest
skip_begins id before rows rest is = record {
  done = [];
  later = rows;
  split = refl;
  below = λ s m. absurd m;
  stands = is ∙ ap (λ (l : List Series). index_from 1 (length (data_bytes l)) rows) (sym (append-nil before));
}

-- some of the rows are taken, and the extent is where their records stand; behind the first of them come so many points
pub record RowsTaken (last : Option (List ℕ)) (most : ℕ) (before rows : List Series) (taken : Extent) (points : ℕ) (rest : List ℕ) : Type 0 where
  pub some : List Series
  pub later : List Series
  pub split : rows ≡ some ++ later
  pub stands : rest ≡ index_from 1 (length (data_bytes (before ++ some))) later
  pub at : 1 ≤ length some → taken.at ≡ length (data_bytes before)
  pub len : taken.len ≡ length (data_bytes some)
  pub whole : taken.whole ≡ true
  pub counted : points ≡ count_of (drop 1 some)
  pub within : NoneIsBeyond last some
  pub needed : AreNeeded most some

no_end : (rows : List Series) (one : Series) → ¬ ([] ≡ rows ++ one ∷ [])
no_end rows one e =
    let long : 0 ≡ length (rows ++ one ∷ []) = ap length e in
    let sum = length_push rows one in
    omega (arith, long, sum)

pub take_begins : (last : Option (List ℕ)) (most : ℕ) (before rows : List Series) (taken : Extent) (points : ℕ) (rest : List ℕ) → taken.len ≡ 0 → taken.whole ≡ true → points ≡ 0 → rest ≡ index_from 1 (length (data_bytes before)) rows → RowsTaken last most before rows taken points rest
take_begins last most before rows taken points rest none whole zero is = record {
  some = [];
  later = rows;
  split = refl;
  stands = is ∙ ap (λ (l : List Series). index_from 1 (length (data_bytes l)) rows) (sym (append-nil before));
  at = λ more. absurd (omega (arith, more));
  len = none;
  whole = whole;
  counted = zero;
  within = λ s m. absurd m;
  needed = λ front one e. absurd (no_end front one e);
}

-- a record is never empty
data_length : (one : Series) (rows : List Series) → length (data_bytes (rows ++ one ∷ [])) ≡ length (data_bytes rows) + length (row_bytes one)
data_length one rows =
    let none : List Series = [] in
    let sum = length-append (data_bytes rows) (data_bytes (one ∷ none)) in
    let last : length (data_bytes (one ∷ none)) ≡ length (row_bytes one) = ap length (append-nil (row_bytes one)) in
    ap length (flat_map-append row_bytes rows (one ∷ none)) ∙ omega (arith, sum, last)

no_data : (rows : List Series) → length (data_bytes rows) ≡ 0 → rows ≡ []
no_data [] none = refl
no_data (s ∷ rows) none = absurd (
    let e : length (data_bytes (s ∷ rows)) ≡ length (row_bytes s ++ data_bytes rows) = ap length (flat_map-cons row_bytes s rows) in
    let sum = length-append (row_bytes s) (data_bytes rows) in
    let row = length_row s in
    omega (arith, none, e, sum, row)
    )

same_front : (xs ys : List Series) (x y : Series) → xs ++ x ∷ [] ≡ ys ++ y ∷ [] → xs ≡ ys
same_front xs ys x y e =
    let long : length (xs ++ x ∷ []) ≡ length (ys ++ y ∷ []) = ap length e in
    let a = length_push xs x in
    let b = length_push ys y in
    let same : length ys ≡ length xs = omega (arith, long, a, b) in
    let none : List Series = [] in
    sym (take_at xs (x ∷ none) (length xs) refl) ∙ ap (λ (l : List Series). take (length xs) l) e ∙ take_at ys (y ∷ none) (length xs) same

drop_first : (rows : List Series) (one : Series) → ¬ (rows ≡ []) → drop 1 (rows ++ one ∷ []) ≡ drop 1 rows ++ one ∷ []
drop_first [] one other = absurd (other refl)
drop_first (s ∷ rows) one other = refl

is_some : (rows : List Series) → ¬ (rows ≡ []) → 1 ≤ length rows
is_some [] other = absurd (other refl)
is_some (s ∷ rows) other = omega arith

module _ (v : VolumeHead) (before rows behind : List Series) (is : IsVolume v (before ++ (rows ++ behind))) (rest : List ℕ) where
  -- the rows behind the next one are above it
  above_next : (done later : List Series) (n : NextEntry before done later rest) → rows ≡ done ++ later → (s : Series) → IsIn n.after s → IsBelow n.one.id s.id
  above_next done later n split s m = (ascends_later (before ++ done) (n.one ∷ (n.after ++ behind)) (subst (Ascends Before) whole is.ids)).0 s (IsIn-append_left n.after behind s m)
    where
      whole : before ++ (rows ++ behind) ≡ (before ++ done) ++ n.one ∷ (n.after ++ behind)
      whole = ap (λ (l : List Series). before ++ (l ++ behind)) (split ∙ ap (λ (l : List Series). done ++ l) n.later_is) ∙ ap (λ (l : List Series). before ++ l) (append_assoc done (n.one ∷ n.after) behind) ∙ sym (append_assoc before done (n.one ∷ (n.after ++ behind)))

  -- the points of all rows fit eight bytes
  all_points : (some later : List Series) → rows ≡ some ++ later → count_of (drop 1 some) < 2 ^ 64
  all_points some later split =
      let count = λ (s : Series). length s.points in
      let a = sum_by-append count before (rows ++ behind) in
      let b = sum_by-append count rows behind in
      let c : count_of rows ≡ count_of some + count_of later = ap count_of split ∙ sum_by-append count some later in
      let d = sum_by-take-drop count some 1 in
      let all = is.points in
      omega (arith, a, b, c, d, all)

  -- the data of the rows has no more bytes than that of the volume
  some_data : (some later : List Series) → rows ≡ some ++ later → length (data_bytes some) < 2 ^ 64
  some_data some later split =
      let e : length (data_bytes (before ++ some)) ≡ length (data_bytes before ++ data_bytes some) = ap length (flat_map-append row_bytes before some) in
      let sum = length-append (data_bytes before) (data_bytes some) in
      let all = all_data v before rows behind is rest some later split in
      omega (arith, e, sum, all)

  module _ (id : List ℕ) (k : RowsSkipped id before rows rest) where
    pub skip_next : 0 < length rest → NextEntry before k.done k.later rest
    skip_next more = next_of v before rows behind is rest k.done k.later k.split k.stands more

    -- the next one is below the identifier too
    pub skip_goes_on : (new : List ℕ) (n : NextEntry before k.done k.later rest) → IsBelow n.one.id id
        → new ≡ index_from 1 (length (data_bytes (before ++ k.done)) + length (row_bytes n.one)) n.after → RowsSkipped id before rows new
    skip_goes_on new n less left =
        let none : List Series = [] in
        record {
          done = k.done ++ n.one ∷ [];
          later = n.after;
          split = split_passed v before rows behind is rest k.done k.later n k.split;
          below = λ s m. by s (IsIn-append_cases k.done (n.one ∷ none) s m);
          stands = stands_passed v before rows behind is rest new k.done k.later n left;
        }
      where
        by : (s : Series) → IsIn k.done s ⊎ IsIn (n.one ∷ []) s → IsBelow s.id id
        by s (inl m) = k.below s m
        by s (inr (inl same)) = subst (λ (r : Series). IsBelow r.id id) same less
        by s (inr (inr m)) = absurd m

    -- the next one isn't, and none of the others is
    pub skip_ends : (n : NextEntry before k.done k.later rest) → ¬ IsBelow n.one.id id → AreSkipped id before rows rest
    skip_ends n other = record {
      early = k.done;
      others = k.later;
      split = k.split;
      below = k.below;
      reached = λ s m less. by s (subst (λ (l : List Series). IsIn l s) n.later_is m) less;
      stands = k.stands;
    }
      where
        by : (s : Series) → IsIn (n.one ∷ n.after) s → IsBelow s.id id → ⊥
        by s (inl same) less = other (subst (λ (r : Series). IsBelow r.id id) (sym same) less)
        by s (inr m) less = other (below_trans n.one.id s.id id (above_next k.done k.later n k.split s m) less)

    pub all_skipped : length rest ≡ 0 → AreSkipped id before rows rest
    all_skipped all = record {
      early = k.done;
      others = k.later;
      split = k.split;
      below = k.below;
      reached = λ s m less. absurd (subst (λ (l : List Series). IsIn l s) (no_later v before rows behind is rest k.done k.later k.stands all) m);
      stands = k.stands;
    }

  module _ (last : Option (List ℕ)) (most : ℕ) (taken : Extent) (points : ℕ) (k : RowsTaken last most before rows taken points rest) where
    pub take_next : 0 < length rest → NextEntry before k.some k.later rest
    take_next more = next_of v before rows behind is rest k.some k.later k.split k.stands more

    -- such rows are whole
    whole_taken : AreBeyond last k.later → AreTaken last most before rows taken
    whole_taken beyond = record {
      some = k.some;
      later = k.later;
      split = k.split;
      at = k.at;
      len = k.len;
      enough = subst (λ (w : Bool). AreEnough last most k.some k.later w) (sym k.whole) beyond;
      within = k.within;
      needed = k.needed;
      part = λ part. absurd (let whole = k.whole in cc);
    }

    -- the next one is beyond the last identifier, and so are the others
    pub take_ends : (n : NextEntry before k.some k.later rest) → IsBeyond last n.one.id → AreTaken last most before rows taken
    take_ends n beyond = whole_taken (λ s m. by last beyond s (subst (λ (l : List Series). IsIn l s) n.later_is m))
      where
        by : (some : Option (List ℕ)) → IsBeyond some n.one.id → (s : Series) → IsIn (n.one ∷ n.after) s → IsBeyond some s.id
        by None never s m = absurd never
        by (Some l) less s (inl same) = subst (λ (r : Series). IsBelow l r.id) same less
        by (Some l) less s (inr m) = below_trans l n.one.id s.id less (above_next k.some k.later n k.split s m)

    pub all_taken : length rest ≡ 0 → AreTaken last most before rows taken
    all_taken all = whole_taken (λ s m. absurd (subst (λ (l : List Series). IsIn l s) (no_later v before rows behind is rest k.some k.later k.stands all) m))

    -- there are points enough, and more rows
    pub enough_taken : (end : Extent) (n : NextEntry before k.some k.later rest) → end.at ≡ taken.at → end.len ≡ taken.len → end.whole ≡ false → most ≤ points → ¬ IsBeyond last n.one.id → AreTaken last most before rows end
    enough_taken end n at len part enough other = record {
      some = k.some;
      later = k.later;
      split = k.split;
      at = λ more. at ∙ k.at more;
      len = len ∙ k.len;
      enough = subst (λ (w : Bool). AreEnough last most k.some k.later w) (sym part) (let counted = k.counted in omega (arith, counted, enough));
      within = k.within;
      needed = k.needed;
      part = λ is beyond. other (beyond n.one (subst (λ (l : List Series). IsIn l n.one) (sym n.later_is) (inl refl)));
    }

    -- one more is taken
    module _ (new : Extent) (count : ℕ) (left : List ℕ) (n : NextEntry before k.some k.later rest) (other : ¬ IsBeyond last n.one.id) (few : points < most) where
      abbrev more : List Series
      more = k.some ++ n.one ∷ []

      more_split : rows ≡ more ++ n.after
      more_split = split_passed v before rows behind is rest k.some k.later n k.split

      take_goes_on : new.at ≡ length (data_bytes before) → count ≡ count_of (drop 1 more) → new.len ≡ taken.len + length (row_bytes n.one) → new.whole ≡ taken.whole
          → left ≡ index_from 1 (length (data_bytes (before ++ k.some)) + length (row_bytes n.one)) n.after → RowsTaken last most before rows new count left
      take_goes_on at counted len whole stands = record {
        some = more;
        later = n.after;
        split = more_split;
        stands = stands_passed v before rows behind is rest left k.some k.later n stands;
        at = λ some. at;
        len = (let old = k.len in let sum = data_length n.one k.some in omega (arith, len, old, sum));
        whole = whole ∙ k.whole;
        counted = counted;
        within = λ s m. by s (IsIn-append_cases k.some (n.one ∷ none) s m);
        needed = λ front one e.
            let same : count_of (drop 1 k.some) ≡ count_of (drop 1 front) = ap (λ (l : List Series). count_of (drop 1 l)) (same_front k.some front n.one one e) in
            let old = k.counted in
            omega (arith, same, old, few);
      }
        where
          none : List Series
          none = []

          by : (s : Series) → IsIn k.some s ⊎ IsIn (n.one ∷ []) s → ¬ IsBeyond last s.id
          by s (inl m) beyond = k.within s m beyond
          by s (inr (inl same)) beyond = other (subst (λ (r : Series). IsBeyond last r.id) (sym same) beyond)
          by s (inr (inr m)) beyond = absurd m

      -- it is the first one
      pub first_taken : taken.len ≡ 0 → new.at ≡ length (data_bytes (before ++ k.some)) → count ≡ points → new.len ≡ taken.len + length (row_bytes n.one) → new.whole ≡ taken.whole
          → left ≡ index_from 1 (length (data_bytes (before ++ k.some)) + length (row_bytes n.one)) n.after → RowsTaken last most before rows new count left
      first_taken zero at counted =
          let none = no_data k.some (sym k.len ∙ zero) in
          take_goes_on
          (at ∙ ap (λ (l : List Series). length (data_bytes (before ++ l))) none ∙ ap (λ (l : List Series). length (data_bytes l)) (append-nil before))
          (counted ∙ k.counted ∙ ap (λ (l : List Series). count_of (drop 1 l)) none ∙ sym (ap (λ (l : List Series). count_of (drop 1 (l ++ n.one ∷ []))) none))

      isnt_first : ¬ (taken.len ≡ 0) → ¬ (k.some ≡ [])
      isnt_first some e = some (k.len ∙ ap (λ (l : List Series). length (data_bytes l)) e)

      count_more : ¬ (taken.len ≡ 0) → points + length n.one.points ≡ count_of (drop 1 more)
      count_more some =
          let e = ap count_of (drop_first k.some n.one (isnt_first some)) ∙ sum_by_push (λ (s : Series). length s.points) (drop 1 k.some) n.one in
          let counted = k.counted in
          omega (arith, e, counted)

      -- it comes behind the first one
      pub later_taken : ¬ (taken.len ≡ 0) → new.at ≡ taken.at → count ≡ points + length n.one.points → new.len ≡ taken.len + length (row_bytes n.one) → new.whole ≡ taken.whole
          → left ≡ index_from 1 (length (data_bytes (before ++ k.some)) + length (row_bytes n.one)) n.after → RowsTaken last most before rows new count left
      later_taken some at counted = take_goes_on (at ∙ k.at (is_some k.some (isnt_first some))) (counted ∙ count_more some)

      -- neither sum is cut off
      pub len_fits : taken.len + length (row_bytes n.one) < 2 ^ 64
      len_fits = let len = k.len in let sum = data_length n.one k.some in let most = some_data more n.after more_split in omega (arith, len, sum, most)

      pub count_fits : ¬ (taken.len ≡ 0) → points + length n.one.points < 2 ^ 64
      count_fits some = let e = count_more some in let most = all_points more n.after more_split in omega (arith, e, most)

-- the rows from the first one on that isn't below the identifier are rows of the volume
pub skipped_volume : (v : VolumeHead) (id : List ℕ) (before rows behind : List Series) (rest : List ℕ) (k : AreSkipped id before rows rest) → IsVolume v (before ++ (rows ++ behind)) → IsVolume v ((before ++ k.early) ++ (k.others ++ behind))
skipped_volume v id before rows behind rest k is =
    let e : before ++ (rows ++ behind) ≡ (before ++ k.early) ++ (k.others ++ behind) =
    ap (λ (l : List Series). before ++ (l ++ behind)) k.split ∙ ap (λ (l : List Series). before ++ l) (append_assoc k.early k.others behind) ∙ sym (append_assoc before k.early (k.others ++ behind)) in
    subst (IsVolume v) e is

pub gives_extent : (id : List ℕ) (last : Option (List ℕ)) (most : ℕ) (before rows : List Series) (rest : List ℕ) (k : AreSkipped id before rows rest) (read : Result Extent WireErr)
    → Gives read (AreTaken last most (before ++ k.early) k.others) → Gives read (IsExtent id last most before rows)
gives_extent id last most before rows rest k (Ok extent) t = record {
  early = k.early;
  some = t.some;
  later = t.later;
  split = k.split ∙ ap (λ (l : List Series). k.early ++ l) t.split;
  below = k.below;
  reached = λ s m. k.reached s (subst (λ (l : List Series). IsIn l s) (sym t.split) (IsIn-append_left t.some t.later s m));
  at = t.at;
  len = t.len;
  enough = t.enough;
  within = t.within;
  needed = t.needed;
  part = t.part;
}
gives_extent id last most before rows rest k (Err e) t = absurd t
