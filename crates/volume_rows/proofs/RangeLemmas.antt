-- Rows from an identifier on: where their entries and their records stand.
use Rattle.std.proofs.Common.{◌≡◌, ◌⊎◌, inl, inr, ℕ, ◌+◌, ◌-◌, ◌≤◌, Bool, true, false, List, [], ◌∷◌, ◌++◌, length, take, drop, Option, Some, None, refl, sym, ap, subst, ◌∙◌, arith, append_assoc, append-nil, length-append}
use Rattle.std.specs.Option.{unwrap_or}
use Rattle.std.proofs.lemmas.List.Concat.{flat_map-append}
use Rattle.std.specs.FinMap.{get}
use Rattle.std.specs.Prelude.{flat_map}
use Rattle.byteorder.specs.Endian.{big_bytes}
use Rattle.fileset_read.specs.m3_model.Members.{IsIn}
use Rattle.fileset_read.specs.m3_model.Tags.{IsBelow}
use Rattle.fileset_read.specs.m3_model.declared.point.Series.{Series}
use Rattle.fileset_read.specs.m3_outside.Files.{Files, IsInside}
use Rattle.fileset_read.specs.m3_outside.declared.file_name.FileName.{FileName}
use Rattle.fileset_read.proofs.m3_model_proofs.MemberLemmas.{IsIn-append_left, IsIn-append_right, IsIn-append_cases}
use Rattle.fileset_read.specs.wire_bytes.Volumes.{VolumeHead, IsVolume, Data, Index, id_bytes, pair_bytes, row_bytes, data_bytes, index_bytes, index_from}
use Rattle.fileset_read.specs.shard_files.Parts.{VolumeHolds, part_of}
use Rattle.fileset_read.specs.Rows.{AreSpelled}
use Rattle.fileset_read.proofs.FileLemmas.{rows_spelled}
use Rattle.fileset_lookup.specs.Runs.{AreAbove, FindsStart, IsPiece}
use Rattle.fileset_lookup.specs.Extents.{AreBeyond, AreEnough, AreNeeded, IsBeyond, IsExtent, NoneIsBelow, NoneIsBeyond}
use Rattle.fileset_lookup.specs.declared.extents.Extent.{Extent}
use Rattle.fileset_lookup.specs.declared.summaries.Piece.{Piece}
use Rattle.fileset_lookup.proofs.SizeLemmas.{length_entry, length_id, size, size_append}
use Rattle.volume_rows.specs.Ranges.{AreRowsFrom}
use Rattle.volume_rows.specs.declared.ranges.RowRange.{RowRange}
use Rattle.volume_rows.specs.declared.entries.Stretch.{Stretch}
use Rattle.volume_rows.specs.Stretches.{AreOfExtent, BeginsAt, EndsAt, HasEntriesFrom, HasRecords, HasRecordsFrom, StandAt}
use Rattle.volume_rows.proofs.StretchLemmas.{between, index_size, piece_end, run_stands}
use Rattle.volume_rows.proofs.DiskLemmas.{index_there, part_there}

-- ---- where the entries begin, and where they end

pub begins_at : (format : ℕ) (id : List ℕ) (rows : List Series) (found : Option ℕ) (at : ℕ) → FindsStart format id rows found → at ≡ unwrap_or found 0 → BeginsAt format id rows at
begins_at format id rows None at above is = record { before = []; others = rows; split = refl; is = is; below = λ s m. absurd m }
begins_at format id rows (Some from) at start is =
    let r = start.run in
    record { before = r.before; others = r.first ∷ r.others ++ r.later; split = r.split; is = is ∙ start.is; below = r.below }

-- where there is no last identifier, all entries are wanted
pub ends_behind_all : (format : ℕ) (rows : List Series) (to : ℕ) → to ≡ length (index_bytes format rows) → EndsAt format None rows to
ends_behind_all format rows to is = record { front = rows; later = []; split = sym (append-nil rows); is = is; beyond = λ s m. absurd m }

pub ends_before_all : (format : ℕ) (last : List ℕ) (rows : List Series) → AreAbove last rows → EndsAt format (Some last) rows 0
ends_before_all format last rows above = record { front = []; later = rows; split = refl; is = refl; beyond = above }

pub ends_behind_piece : (format : ℕ) (last : List ℕ) (rows : List Series) (piece : Piece) (index_len to : ℕ) → IsPiece format last rows piece → index_len ≡ length (index_bytes format rows) → to ≡ unwrap_or piece.to index_len
    → EndsAt format (Some last) rows to
ends_behind_piece format last rows piece index_len to is whole ends =
    let r = is.run in
    record {
      front = r.before ++ r.first ∷ r.others;
      later = r.later;
      split = r.split ∙ sym (append_assoc r.before (r.first ∷ r.others) r.later);
      is = piece_end format last rows piece index_len to is whole ends;
      beyond = r.above;
    }

-- ---- the entries between

-- of two ways to split a list one front is the other with some behind it
data Overlap (xs ys us vs : List Series) : Type 0 where
  Longer : (more : List Series) → us ≡ xs ++ more → ys ≡ more ++ vs → Overlap xs ys us vs
  Shorter : (more : List Series) → xs ≡ us ++ more → vs ≡ more ++ ys → Overlap xs ys us vs

with_first : (x u : Series) (xs ys us vs : List Series) → x ≡ u → Overlap xs ys us vs → Overlap (x ∷ xs) ys (u ∷ us) vs
with_first x u xs ys us vs first (Longer more p q) = Longer more (cc) q
with_first x u xs ys us vs first (Shorter more p q) = Shorter more (cc) q

overlap : (xs ys us vs : List Series) → xs ++ ys ≡ us ++ vs → Overlap xs ys us vs
overlap [] ys us vs e = Longer us refl e
overlap (x ∷ xs) ys [] vs e = Shorter (x ∷ xs) refl (sym e)
overlap (x ∷ xs) ys (u ∷ us) vs e =
    let first : x ≡ u = cc in
    let rest : xs ++ ys ≡ us ++ vs = cc in
    with_first x u xs ys us vs first (overlap xs ys us vs rest)

pub entries_between : (format : ℕ) (id : List ℕ) (last : Option (List ℕ)) (rows : List Series) (at to : ℕ) (stretch : Stretch) → BeginsAt format id rows at → EndsAt format last rows to → stretch.at ≡ at → stretch.len ≡ to - at
    → HasEntriesFrom format id last rows stretch
entries_between format id last rows at to stretch b e from long = by (overlap b.before b.others e.front e.later (sym b.split ∙ e.split))
  where
    before_size : at ≡ size format b.before
    before_size = b.is ∙ index_size format b.before

    front_size : to ≡ size format e.front
    front_size = e.is ∙ index_size format e.front

    by : Overlap b.before b.others e.front e.later → HasEntriesFrom format id last rows stretch
    by (Longer more p q) = record {
      before = b.before;
      run = more;
      later = e.later;
      split = b.split ∙ ap (λ (l : List Series). b.before ++ l) q;
      at = from ∙ b.is;
      len = (let f : size format e.front ≡ size format b.before + size format more = ap (size format) p ∙ size_append format b.before more in
          let m = index_size format more in
          omega (arith, long, before_size, front_size, f, m));
      below = b.below;
      beyond = e.beyond;
    }
    by (Shorter more p q) = record {
      before = b.before;
      run = [];
      later = b.others;
      split = b.split;
      at = from ∙ b.is;
      len = (let f : size format b.before ≡ size format e.front + size format more = ap (size format) p ∙ size_append format e.front more in
          omega (arith, long, before_size, front_size, f));
      below = b.below;
      beyond = λ s m. e.beyond s (subst (λ (l : List Series). IsIn l s) (sym q) (IsIn-append_right more b.others s m));
    }

-- ---- a piece of the index

module _ (v : VolumeHead) (id : List ℕ) (last : Option (List ℕ)) (rows : List Series) (files : Files) (file : FileName) (holds : VolumeHolds v rows files) (stretch : Stretch) where
  pub range_inside : file ≡ part_of Index v → HasEntriesFrom v.format id last rows stretch → IsInside file stretch.at stretch.len files
  range_inside named h = record {
    file = index_bytes v.format rows;
    there = index_there v id rows files file holds named;
    within = (run_stands v.format rows h.before h.run h.later stretch.at stretch.len h.split h.at h.len).0;
  }

  pub range_read : (bytes : List ℕ) → file ≡ part_of Index v → (h : HasEntriesFrom v.format id last rows stretch)
      → ((whole : List ℕ) → get files file ≡ Some whole → bytes ≡ take stretch.len (drop stretch.at whole)) → bytes ≡ index_from v.format (length (data_bytes h.before)) h.run
  range_read bytes named h read =
      read (index_bytes v.format rows) (index_there v id rows files file holds named) ∙ (run_stands v.format rows h.before h.run h.later stretch.at stretch.len h.split h.at h.len).1

  pub range_values : (h : HasEntriesFrom v.format id last rows stretch) → IsVolume v (h.before ++ (h.run ++ h.later))
  range_values h = subst (IsVolume v) h.split holds.values

enough_with : (last : Option (List ℕ)) (most : ℕ) (some later more : List Series) (whole : Bool) → AreEnough last most some later whole → AreBeyond last more → AreEnough last most some (later ++ more) whole
enough_with last most some later more true enough beyond = λ s m. by s (IsIn-append_cases later more s m)
  where
    by : (s : Series) → IsIn later s ⊎ IsIn more s → IsBeyond last s.id
    by s (inl n) = enough s n
    by s (inr n) = beyond s n
enough_with last most some later more false enough beyond = enough

-- what stands among the entries of some rows stands among all
pub extent_found : (format : ℕ) (id : List ℕ) (last : Option (List ℕ)) (most : ℕ) (rows : List Series) (stretch : Stretch) (extent : Extent) → (h : HasEntriesFrom format id last rows stretch)
    → IsExtent id last most h.before h.run extent → HasRecordsFrom id last most rows extent
extent_found format id last most rows stretch extent h is = record {
  before = h.before ++ is.early;
  some = is.some;
  later = is.later ++ h.later;
  split = h.split
      ∙ ap (λ (l : List Series). h.before ++ (l ++ h.later)) is.split
      ∙ ap (λ (l : List Series). h.before ++ l) (append_assoc is.early (is.some ++ is.later) h.later ∙ ap (λ (l : List Series). is.early ++ l) (append_assoc is.some is.later h.later))
      ∙ sym (append_assoc h.before is.early (is.some ++ (is.later ++ h.later)));
  below = λ s m. by s (IsIn-append_cases h.before is.early s m);
  reached = is.reached;
  at = is.at;
  len = is.len;
  enough = enough_with last most is.some is.later h.later extent.whole is.enough h.beyond;
  within = is.within;
  needed = is.needed;
  part = λ not beyond. is.part not (λ s m. beyond s (IsIn-append_left is.later h.later s m));
}
  where
    by : (s : Series) → IsIn h.before s ⊎ IsIn is.early s → IsBelow s.id id
    by s (inl m) = h.below s m
    by s (inr m) = is.below s m

no_entries : (format : ℕ) (run : List Series) → size format run ≡ 0 → run ≡ []
no_entries format [] none = refl
no_entries format (s ∷ run) none = absurd (let e = length_entry format 0 s in omega (arith, e, none))

-- among no entries no record stands
pub none_found : (format : ℕ) (id : List ℕ) (last : Option (List ℕ)) (most : ℕ) (rows : List Series) (stretch : Stretch) → HasEntriesFrom format id last rows stretch → stretch.len ≡ 0
    → HasRecordsFrom id last most rows (record { at = 0; len = 0; whole = true })
none_found format id last most rows stretch h none = record {
  before = h.before;
  some = [];
  later = h.later;
  split = h.split ∙ ap (λ (l : List Series). h.before ++ (l ++ h.later)) (no_entries format h.run (sym (index_size format h.run) ∙ sym h.len ∙ none));
  below = h.below;
  reached = λ s m. absurd m;
  at = λ one. absurd (omega (arith, one));
  len = refl;
  enough = h.beyond;
  within = λ s m. absurd m;
  needed = λ front one e. absurd (
      let long : 0 ≡ length (front ++ one ∷ []) = ap length e in
      let last_one : List Series = one ∷ [] in
      let sum = length-append front last_one in
      omega (arith, long, sum)
      );
  part = λ not. absurd (cc);
}

-- ---- a piece of the data

pub no_records : (some : List Series) → length (data_bytes some) ≡ 0 → some ≡ []
no_records [] none = refl
no_records (s ∷ some) none = absurd (
    let points : List ℕ = big_bytes 4 (length s.points) ++ flat_map pair_bytes s.points in
    let x = length-append (row_bytes s) (data_bytes some) in
    let y = length-append (id_bytes s.id) points in
    let z = length_id s.id in
    omega (arith, x, y, z, none)
    )

pub are_some : (some : List Series) (len : ℕ) → len ≡ length (data_bytes some) → ¬ (len ≡ 0) → 1 ≤ length some
are_some [] len is other = absurd (other is)
are_some (s ∷ some) len is other = omega arith

records_stand : (rows some : List Series) (extent : Extent) → StandAt rows some extent → 1 ≤ length some
    → (extent.at + extent.len ≤ length (data_bytes rows)) × (take extent.len (drop extent.at (data_bytes rows)) ≡ data_bytes some)
records_stand rows some extent h one =
    let split : data_bytes rows ≡ data_bytes h.before ++ (data_bytes some ++ data_bytes h.later) =
    ap data_bytes h.split ∙ flat_map-append row_bytes h.before (some ++ h.later) ∙ ap (λ (l : List ℕ). data_bytes h.before ++ l) (flat_map-append row_bytes some h.later) in
    between (data_bytes h.before) (data_bytes some) (data_bytes h.later) (data_bytes rows) extent.at extent.len split (h.at one) h.len

module _ (v : VolumeHead) (rows : List Series) (files : Files) (file : FileName) (holds : VolumeHolds v rows files) (some : List Series) (extent : Extent) where
  pub records_inside : file ≡ part_of Data v → StandAt rows some extent → ¬ (extent.len ≡ 0) → IsInside file extent.at extent.len files
  records_inside named h other = record {
    file = data_bytes rows;
    there = part_there v rows files file holds Data named;
    within = (records_stand rows some extent h (are_some some extent.len h.len other)).0;
  }

  pub records_read : (bytes : List ℕ) → file ≡ part_of Data v → StandAt rows some extent → ¬ (extent.len ≡ 0)
      → ((whole : List ℕ) → get files file ≡ Some whole → bytes ≡ take extent.len (drop extent.at whole)) → bytes ≡ data_bytes some
  records_read bytes named h other read =
      read (data_bytes rows) (part_there v rows files file holds Data named) ∙ (records_stand rows some extent h (are_some some extent.len h.len other)).1

  pub some_spelled : StandAt rows some extent → AreSpelled some
  some_spelled h s m =
      rows_spelled v rows holds.values s (subst (λ (l : List Series). IsIn l s) (sym h.split) (IsIn-append_right h.before (some ++ h.later) s (IsIn-append_left some h.later s m)))

stand_at : (id : List ℕ) (last : Option (List ℕ)) (most : ℕ) (rows : List Series) (extent : Extent) → (h : HasRecordsFrom id last most rows extent) → StandAt rows h.some extent
stand_at id last most rows extent h = record { before = h.before; later = h.later; split = h.split; at = h.at; len = h.len }

pub have_records : (id : List ℕ) (last : Option (List ℕ)) (most : ℕ) (rows : List Series) (extent : Extent) → HasRecordsFrom id last most rows extent → HasRecords rows extent
have_records id last most rows extent h = record { some = h.some; stand = stand_at id last most rows extent h }

-- the rows of the records that are found are those that are asked for
pub rows_found : (id : List ℕ) (last : Option (List ℕ)) (most : ℕ) (rows : List Series) (extent : Extent) (found : RowRange) → HasRecordsFrom id last most rows extent → AreOfExtent rows extent found.rows → found.whole ≡ extent.whole
    → AreRowsFrom id last most rows found
rows_found id last most rows extent found h read whole =
    let is = sym (read h.some (stand_at id last most rows extent h)) in
    record {
      before = h.before;
      later = h.later;
      split = h.split ∙ ap (λ (l : List Series). h.before ++ (l ++ h.later)) is;
      below = h.below;
      reached = subst (NoneIsBelow id) is h.reached;
      enough = subst (λ (b : Bool). AreEnough last most found.rows h.later b) (sym whole) (subst (λ (l : List Series). AreEnough last most l h.later extent.whole) is h.enough);
      within = subst (NoneIsBeyond last) is h.within;
      needed = subst (AreNeeded most) is h.needed;
      part = λ not. h.part (sym whole ∙ not);
    }
