-- Pieces of files of a volume that is there.
use Rattle.std.proofs.Common.{◌≡◌, ℕ, ◌+◌, ◌≤◌, List, ◌++◌, length, take, drop, Option, Some, sym, ap, subst, ◌∙◌}
use Rattle.std.specs.Prelude.{option_map}
use Rattle.std.specs.FinMap.{get}
use Rattle.fileset_read.specs.m3_model.declared.point.Series.{Series}
use Rattle.fileset_read.specs.m3_outside.Files.{Files, IsInside}
use Rattle.fileset_read.specs.m3_outside.declared.file_name.FileName.{FileName}
use Rattle.fileset_read.specs.wire_bytes.Volumes.{VolumeHead, IsVolume, Part, Data, Index, Bloom, Summaries, part_bytes, bloom_bytes, summaries_bytes, row_bytes, data_bytes, index_bytes, index_from}
use Rattle.fileset_read.specs.shard_files.Parts.{VolumeHolds, part_of}
use Rattle.fileset_lookup.specs.declared.entries.Spot.{Spot}
use Rattle.volume_rows.specs.Seekers.{IsSeekerOf, Seeks}
use Rattle.volume_rows.specs.declared.seeker.Seeker.{Seeker}
use Rattle.volume_rows.specs.Stretches.{HasEntries, HasRecord}
use Rattle.volume_rows.specs.declared.entries.Stretch.{Stretch}
use Rattle.volume_rows.proofs.StretchLemmas.{entries_stand, record_stands}

pub part_there : (v : VolumeHead) (rows : List Series) (files : Files) (file : FileName) → VolumeHolds v rows files → (part : Part) → file ≡ part_of part v → get files file ≡ Some (part_bytes part v rows)
part_there v rows files file holds part named = ap (get files) named ∙ holds.parts part

module _ (v : VolumeHead) (id : List ℕ) (rows : List Series) (files : Files) (file : FileName) (holds : VolumeHolds v rows files) where
  -- ---- the record of a series

  pub data_there : file ≡ part_of Data v → get files file ≡ Some (data_bytes rows)
  data_there named = ap (get files) named ∙ holds.parts Data

  pub record_inside : (spot : Spot) (len : ℕ) → file ≡ part_of Data v → HasRecord id rows spot → len ≡ spot.len → IsInside file spot.at len files
  record_inside spot len named h is = record {
    file = data_bytes rows;
    there = data_there named;
    within = subst (λ (n : ℕ). spot.at + n ≤ length (data_bytes rows)) (sym is) (record_stands id rows spot h).0;
  }

  pub record_read : (spot : Spot) (len : ℕ) (bytes : List ℕ) → file ≡ part_of Data v → (h : HasRecord id rows spot) → len ≡ spot.len
      → ((whole : List ℕ) → get files file ≡ Some whole → bytes ≡ take len (drop spot.at whole)) → bytes ≡ row_bytes h.one
  record_read spot len bytes named h is read =
      read (data_bytes rows) (data_there named) ∙ ap (λ (n : ℕ). take n (drop spot.at (data_bytes rows))) is ∙ (record_stands id rows spot h).1

  -- ---- the entries of some rows

  pub index_there : file ≡ part_of Index v → get files file ≡ Some (index_bytes v.format rows)
  index_there named = ap (get files) named ∙ holds.parts Index

  pub entries_inside : (stretch : Stretch) → file ≡ part_of Index v → HasEntries v.format id rows stretch → IsInside file stretch.at stretch.len files
  entries_inside stretch named h = record {
    file = index_bytes v.format rows;
    there = index_there named;
    within = (entries_stand v.format id rows stretch h).0;
  }

  pub entries_read : (stretch : Stretch) (bytes : List ℕ) → file ≡ part_of Index v → (h : HasEntries v.format id rows stretch)
      → ((whole : List ℕ) → get files file ≡ Some whole → bytes ≡ take stretch.len (drop stretch.at whole)) → bytes ≡ index_from v.format (length (data_bytes h.before)) h.run
  entries_read stretch bytes named h read = read (index_bytes v.format rows) (index_there named) ∙ (entries_stand v.format id rows stretch h).1

  pub run_values : (stretch : Stretch) → (h : HasEntries v.format id rows stretch) → IsVolume v (h.before ++ (h.run ++ h.later))
  run_values stretch h = subst (IsVolume v) h.split holds.values

some_one : {X : Type 0} (m : Option X) (x y : X) → m ≡ Some x → m ≡ Some y → x ≡ y
some_one m x y a b = let same : Some x ≡ Some y = sym a ∙ b in cc

-- what the seeker has of the files it has of the rows
pub seeks : (v : VolumeHead) (rows : List Series) (k : Seeker) (files : Files) → IsSeekerOf v k files → VolumeHolds v rows files → Seeks v rows k
seeks v rows k files is holds = record {
  bloom = some_one (get files (part_of Bloom v)) k.bloom (bloom_bytes rows) is.bloom (holds.parts Bloom);
  summaries = some_one (get files (part_of Summaries v)) k.summaries (summaries_bytes v.format rows) is.summaries (holds.parts Summaries);
  index = some_one (option_map length (get files (part_of Index v))) k.index_len (length (index_bytes v.format rows)) is.index (ap (option_map length) (holds.parts Index));
}
