-- The data of a volume, as a file that is read.
use Rattle.std.proofs.Common.{◌≡◌, ℕ, List, length, take, refl, sym, ap, ◌∙◌, arith, Option, Some, None, Err}
use Rattle.std.specs.Prelude.{option_map}
use Rattle.std.specs.FinMap.{get}
use Rattle.std.proofs.Math.Seq.{take-length}
use Rattle.shard_files.specs.m3_model.declared.point.Series.{Series}
use Rattle.shard_files.specs.m3_outside.Files.{Files}
use Rattle.shard_files.specs.m3_outside.declared.file_name.FileName.{FileName}
use Rattle.shard_files.specs.wire_bytes.Volumes.{VolumeHead, IsVolume, Data, data_bytes}
use Rattle.shard_files.specs.Parts.{VolumeHolds, part_of}
use Rattle.fileset_read.specs.Rows.{AreSpelled, Gives}
use Rattle.fileset_read.specs.Volumes.{in_file, IsUndamaged}
use Rattle.fileset_read.specs.declared.row_err.RowErr.{RowErr}
use Rattle.fileset_read.specs.declared.row_err.RowErr.TheVariants as errors

-- as many bytes as a file has are the file
pub read_whole : (m : Option (List ℕ)) (size : ℕ) (bytes : List ℕ) → option_map length m ≡ Some size → ((file : List ℕ) → m ≡ Some file → bytes ≡ take size file) → Some bytes ≡ m
read_whole None size bytes sized read = absurd (cc)
read_whole (Some file) size bytes sized read =
    let long : length file ≡ size = cc in
    ap Some (read file refl ∙ ap (λ (n : ℕ). take n file) (sym long) ∙ take-length file)

-- the rows of a volume fit their fields
pub rows_spelled : (v : VolumeHead) (rows : List Series) → IsVolume v rows → AreSpelled rows
rows_spelled v rows is s m =
    let row = is.row s m in
    record {
      id = let most = row.most in omega (arith, most);
      utf8 = row.utf8;
      counted = row.counted;
      pairs = λ x i. record { time = (let low = row.time x i in omega (arith, low)); value = row.value x i };
    }

-- what the file of the data has
pub data_there : (v : VolumeHead) (rows : List Series) (files : Files) (file : FileName) → VolumeHolds v rows files → file ≡ part_of Data v → get files file ≡ Some (data_bytes rows)
data_there v rows files file holds named = ap (get files) named ∙ holds.parts Data

pub data_is : (v : VolumeHead) (rows : List Series) (files : Files) (file : FileName) (bytes : List ℕ) → VolumeHolds v rows files → file ≡ part_of Data v → get files file ≡ Some bytes → bytes ≡ data_bytes rows
data_is v rows files file bytes holds named there = let same : Some bytes ≡ Some (data_bytes rows) = sym there ∙ data_there v rows files file holds named in cc

-- where series are read or memory is wanted, no damage is told
pub undamaged : {X : Type 0} (e : RowErr) (name : FileName) (P : X → Type 0) → Gives {X = X} (Err e) P → IsUndamaged (in_file name e)
undamaged errors.Memory name P g = tt
undamaged errors.Form name P g = absurd g
