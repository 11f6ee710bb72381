-- What is told of files that aren't sound.
use Rattle.std.proofs.Common.{inl, inr, ℕ, List, sym, subst}
use Rattle.std.specs.Prelude.{◌≢◌}
use Rattle.snapshot_files.specs.m3_outside.Files.{Files}
use Rattle.snapshot_files.specs.m3_outside.declared.file_name.FileName.{FileName}
use Rattle.snapshot_files.specs.wire_bytes.Volumes.{Info, Summaries, Index, Data, Bloom, Digests, Checkpoint}
use Rattle.snapshot_files.specs.shard_files.Damage.{Damage, OfForm, OfDigest, Look, AtForm, AtDigest, AtHead, SnapshotLook, AtGate, AtKept, AtBody, DigestsDiffer}
use Rattle.snapshot_files.specs.shard_files.Loading.{Tells}
use Rattle.snapshot_files.specs.shard_files.declared.load_err.LoadErr.{LoadErr}
use Rattle.snapshot_files.specs.shard_files.declared.load_err.LoadErr.TheVariants as failures
use Rattle.snapshot_files.proofs.shard_files_proofs.DamageLemmas.{damaged_is_unsound}
use Rattle.snapshot_files.proofs.shard_files_proofs.FirstDamageLemmas.{told_look, told_snapshot, log_damage_is_first}
use Rattle.snapshot_files.specs.fileset_check.Told.{LookTells, VolumesTell, MayTell}
use Rattle.snapshot_files.specs.fileset_check.declared.check_err.CheckErr.{CheckErr}
use Rattle.snapshot_files.specs.fileset_check.declared.check_err.CheckErr.TheVariants as checked
use Rattle.snapshot_files.proofs.fileset_check_proofs.LawLemmas as volumes
use Rattle.snapshot_files.specs.Told.{LookTells as SnapshotLookTells, NewestTells}
use Rattle.snapshot_files.proofs.LawLemmas as snapshots
use Rattle.shard_open.specs.Told.{OfVolumes, OfSnapshot, OfLog, IsToldBy, ToldAreUnsound, ToldIsFirst, DigestsAreApart}

pub told_are_unsound : ToldAreUnsound
told_are_unsound files damage (OfVolumes t) sound = volumes.told_are_unsound files damage t sound.held.parts.volumes sound.held.holds.volumes
told_are_unsound files damage (OfSnapshot known are t) sound = snapshots.told_is_unsound files damage t sound.held.parts.newest sound.held.holds.newest
told_are_unsound files damage (OfLog known are newest is t) sound = damaged_is_unsound damage files t sound

pub told_is_first : ToldIsFirst
told_is_first files damage (OfVolumes t) placed = volumes.told_is_first files damage t placed.0 placed.1
told_is_first files damage (OfSnapshot known are t) placed = snapshots.told_is_first files damage known are t placed
told_is_first files damage (OfLog known are newest is t) placed = log_damage_is_first known newest damage files are is t

-- ---- digests that are told

volume_look : (ns start number : ℕ) (files : Files) (look : Look) (name : FileName) (kept found : List ℕ) → LookTells ns start number files look (OfDigest name kept found) → DigestsDiffer files name kept found
volume_look ns start number files AtHead name kept found f = absurd (let told = f.is in cc)
volume_look ns start number files (AtDigest part) name kept found f = told_look ns start number files (AtDigest part) name kept found f
volume_look ns start number files (AtForm Data) name kept found f = absurd (let told = f.is in cc)
volume_look ns start number files (AtForm Info) name kept found f = told_look ns start number files (AtForm Info) name kept found f
volume_look ns start number files (AtForm Summaries) name kept found f = told_look ns start number files (AtForm Summaries) name kept found f
volume_look ns start number files (AtForm Index) name kept found f = told_look ns start number files (AtForm Index) name kept found f
volume_look ns start number files (AtForm Bloom) name kept found f = told_look ns start number files (AtForm Bloom) name kept found f
volume_look ns start number files (AtForm Digests) name kept found f = told_look ns start number files (AtForm Digests) name kept found f
volume_look ns start number files (AtForm Checkpoint) name kept found f = told_look ns start number files (AtForm Checkpoint) name kept found f

snapshot_look : (number : ℕ) (files : Files) (look : SnapshotLook) (name : FileName) (kept found : List ℕ) → SnapshotLookTells number files look (OfDigest name kept found) → DigestsDiffer files name kept found
snapshot_look number files AtGate name kept found f = told_snapshot number files AtGate name kept found f
snapshot_look number files AtKept name kept found f = told_snapshot number files AtKept name kept found f
snapshot_look number files AtBody name kept found f = absurd (let told = f.is in cc)

volumes_apart : (files : Files) (name : FileName) (kept found : List ℕ) → VolumesTell files (OfDigest name kept found) → DigestsDiffer files name kept found
volumes_apart files name kept found t = volume_look t.one.ns t.one.block t.one.number files t.told.one name kept found t.told.found

newest_apart : (files : Files) (name : FileName) (kept found : List ℕ) → NewestTells files (OfDigest name kept found) → DigestsDiffer files name kept found
newest_apart files name kept found t = snapshot_look t.number files t.told.one name kept found t.told.found

pub digests_are_apart : DigestsAreApart
digests_are_apart files name kept found (OfVolumes t) = volumes_apart files name kept found t
digests_are_apart files name kept found (OfSnapshot known are t) = newest_apart files name kept found t
digests_are_apart files name kept found (OfLog known are newest is t) = absurd (let told = t.found.is in cc)

-- ---- what a check tells

told_as : (P : Damage → Type 0) → ((name : FileName) (kept found : List ℕ) → P (OfDigest name kept found) → kept ≢ found) → (c : CheckErr) (e : LoadErr) → IsToldBy c e → MayTell P c → Tells P e
told_as P apart checked.Disk e is may = subst (Tells P) (sym is) tt
told_as P apart checked.Memory e is may = subst (Tells P) (sym is) tt
told_as P apart (checked.Digest name kept found) e (inl same) may = absurd (apart name kept found may same.0)
told_as P apart (checked.Digest name kept found) e (inr differ) may = subst (Tells P) (sym differ.1) may
told_as P apart (checked.Form name at) e is may = subst (Tells P) (sym is) may

pub volumes_told : (files : Files) (c : CheckErr) (e : LoadErr) → IsToldBy c e → MayTell (VolumesTell files) c → Tells (VolumesTell files) e
volumes_told files c e is may = told_as (VolumesTell files) (λ name kept found t. (volumes_apart files name kept found t).differ) c e is may

pub newest_told : (files : Files) (c : CheckErr) (e : LoadErr) → IsToldBy c e → MayTell (NewestTells files) c → Tells (NewestTells files) e
newest_told files c e is may = told_as (NewestTells files) (λ name kept found t. (newest_apart files name kept found t).differ) c e is may

-- ---- what each part tells, of all files

pub tells_as : (P Q : Damage → Type 0) → ((damage : Damage) → P damage → Q damage) → (e : LoadErr) → Tells P e → Tells Q e
tells_as P Q to failures.Disk h = tt
tells_as P Q to failures.Memory h = tt
tells_as P Q to (failures.Digest name kept found) h = to (OfDigest name kept found) h
tells_as P Q to (failures.Form name at) h = to (OfForm name at) h
