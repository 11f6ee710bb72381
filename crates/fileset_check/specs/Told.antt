-- What is told of a volume that isn't whole.
use Rattle.std.specs.Prelude.{◌≡◌, ◌⊎◌, ⊤, ℕ, ◌<◌, List, [], ◌∷◌, ◌++◌}
use Rattle.fileset_read.specs.m3_model.declared.limits.TheConstants.{MOST_NAMESPACES, NUMBER_END, TIME_END}
use Rattle.fileset_read.specs.m3_outside.Files.{Files}
use Rattle.fileset_read.specs.m3_outside.declared.disk_err.DiskErr.{DiskErr}
use Rattle.fileset_read.specs.m3_outside.declared.disk_err.DiskErr.TheVariants as disk
use Rattle.fileset_read.specs.m3_outside.declared.file_name.FileName.{FileName}
use Rattle.fileset_read.specs.wire_bytes.Fields.{StopsAt}
use Rattle.fileset_read.specs.wire_bytes.Volumes.{Part, Info, Summaries, Index, Data, Bloom, Digests, Checkpoint}
use Rattle.fileset_read.specs.shard_files.Parts.{part_name, counted_volumes, KnownVolume, AreKnown}
use Rattle.fileset_read.specs.shard_files.Damage.{Damage, OfForm, OfDigest, Look, AtForm, AtDigest, AtHead, looks, FirstFound, FormOf, IsSomeInfo, LookFinds, bytes_at}
use Rattle.fileset_check.specs.declared.check_err.CheckErr.{CheckErr}
use Rattle.fileset_check.specs.declared.check_err.CheckErr.TheVariants as failures
use Rattle.fileset_check.specs.declared.part_err.PartErr.{PartErr}
use Rattle.fileset_check.specs.declared.part_err.PartErr.TheVariants as faults

abbrev pub of_disk : DiskErr → CheckErr
of_disk disk.Failed = failures.Disk
of_disk disk.Memory = failures.Memory

abbrev pub of_part : PartErr → CheckErr
of_part faults.Memory = failures.Memory
of_part (faults.Digest name kept found) = failures.Digest name kept found
of_part (faults.Form name at) = failures.Form name at

-- this damage is told, or memory is wanted
abbrev pub Says : (Damage → Type 0) → PartErr → Type 0
Says P faults.Memory = ⊤
Says P (faults.Digest name kept found) = P (OfDigest name kept found)
Says P (faults.Form name at) = P (OfForm name at)

-- this damage is told; a fault has its own cause, and memory may always be wanted
abbrev pub MayTell : (Damage → Type 0) → CheckErr → Type 0
MayTell P failures.Disk = ⊤
MayTell P failures.Memory = ⊤
MayTell P (failures.Digest name kept found) = P (OfDigest name kept found)
MayTell P (failures.Form name at) = P (OfForm name at)

-- ---- one volume

-- a volume may have these numbers in its name
abbrev pub IsInside : ℕ → ℕ → ℕ → Type 0
IsInside ns start number = (ns < MOST_NAMESPACES) × (start < TIME_END) × (number < NUMBER_END)

-- the info stops here to be one of a volume of this name; of a name that no volume has, at once
abbrev pub HeadStops : ℕ → ℕ → ℕ → List ℕ → ℕ → Type 0
HeadStops ns start number bytes at = StopsAt (IsSomeInfo ns start number) bytes at ⊎ (¬ (IsInside ns start number) × (at ≡ 0))

-- its damage is told by that place
pub record BreaksHead (ns start number : ℕ) (files : Files) (damage : Damage) : Type 0 where
  pub at : ℕ
  pub stops : HeadStops ns start number (bytes_at files (part_name Info ns start number)) at
  pub is : damage ≡ OfForm (part_name Info ns start number) at

-- the data is that of no volume of the info's head; the offset in it isn't looked for
pub record IsUnfit (ns start number : ℕ) (files : Files) (damage : Damage) : Type 0 where
  pub none : ¬ (FormOf Data ns start number files (bytes_at files (part_name Data ns start number)))
  pub is : damage ≡ OfForm (part_name Data ns start number) 0

-- What each look tells: the damage that it finds, of data without its offset; and that no volume has the name.
abbrev pub LookTells : ℕ → ℕ → ℕ → Files → Look → Damage → Type 0
LookTells ns start number files AtHead damage = BreaksHead ns start number files damage
LookTells ns start number files (AtDigest part) damage = LookFinds ns start number files (AtDigest part) damage
LookTells ns start number files (AtForm Data) damage = IsUnfit ns start number files damage
LookTells ns start number files (AtForm Info) damage = LookFinds ns start number files (AtForm Info) damage
LookTells ns start number files (AtForm Summaries) damage = LookFinds ns start number files (AtForm Summaries) damage
LookTells ns start number files (AtForm Index) damage = LookFinds ns start number files (AtForm Index) damage
LookTells ns start number files (AtForm Bloom) damage = LookFinds ns start number files (AtForm Bloom) damage
LookTells ns start number files (AtForm Digests) damage = LookFinds ns start number files (AtForm Digests) damage
LookTells ns start number files (AtForm Checkpoint) damage = LookFinds ns start number files (AtForm Checkpoint) damage

-- what the first of these looks tells that tells anything
abbrev pub FirstTells : List Look → FileName → Files → Damage → Type 0
FirstTells some of files damage = FirstFound (LookTells of.ns of.block of.number files) some damage

-- the looks at digests alone, and at the rest
abbrev pub at_gates : List Look
at_gates = AtForm Checkpoint ∷ AtDigest Digests ∷ AtForm Digests ∷ []

abbrev pub at_five : List Look
at_five = AtDigest Info ∷ AtDigest Summaries ∷ AtDigest Index ∷ AtDigest Data ∷ AtDigest Bloom ∷ []

abbrev pub at_digests : List Look
at_digests = AtForm Checkpoint ∷ AtDigest Digests ∷ AtForm Digests ∷ at_five

abbrev pub at_derived : List Look
at_derived = AtForm Info ∷ AtForm Summaries ∷ AtForm Index ∷ AtForm Bloom ∷ []

-- ---- all volumes

-- what is told of the volume of this checkpoint
abbrev pub VolumeTells : Files → FileName → Damage → Type 0
VolumeTells files name damage = FirstTells looks name files damage

-- the first volume that isn't whole, all before it being whole, and what is told of it
pub record VolumesTell (files : Files) (damage : Damage) : Type 0 where
  pub before : List FileName
  pub one : FileName
  pub after : List FileName
  pub split : counted_volumes files ≡ before ++ one ∷ after
  pub known : List KnownVolume
  pub whole : AreKnown files before known
  pub told : VolumeTells files one damage
