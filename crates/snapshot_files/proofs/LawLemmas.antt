-- What is told of the newest snapshot, as damage of all files.
use Rattle.std.proofs.Common.{◌≡◌, ℕ, List, [], ◌∷◌, ◌++◌, map, drop, get_or, Option, Some, None, refl, sym, ap, subst, ◌∙◌}
use Rattle.std.specs.Prelude.{unwrap_or}
use Rattle.sha2.specs.Sha256.{sha256}
use Rattle.sha2.proofs.Facts256.{length-sha256}
use Rattle.fileset_check.proofs.m3_model_proofs.MemberLemmas.{IsIn-map}
use Rattle.fileset_check.specs.m3_outside.Files.{Files}
use Rattle.fileset_check.specs.m3_outside.declared.file_name.FileName.{FileName}
use Rattle.fileset_check.specs.commit_log.Contents.{numbers}
use Rattle.fileset_check.specs.wire_bytes.Snapshots.{Snapshot, snapshot_bytes}
use Rattle.fileset_check.specs.shard_files.Parts.{SnapshotHolds, counted_volumes, snapshot_checkpoint, snapshot_data}
use Rattle.fileset_check.specs.shard_files.Damage.{Damage, OfForm, FirstFound, SnapshotLook, AtGate, AtKept, AtBody, SnapshotFinds, bytes_at, last_of, Location, InVolume, InSnapshot, InSegment, LocationFinds}
use Rattle.fileset_check.proofs.shard_files_proofs.FirstDamageLemmas.{whole_volume}
use Rattle.fileset_check.proofs.shard_files_proofs.VolumeSteps.{of_name}
use Rattle.fileset_check.proofs.DigestLemmas.{unbroken}
use Rattle.snapshot_files.specs.Told.{LookTells, SnapshotTells}
use Rattle.snapshot_files.specs.Laws.{ToldIsUnsound, ToldIsFirst}
use Rattle.snapshot_files.proofs.NewestLemmas.{last_more}

-- nothing is told of a whole snapshot
none_told : (s : Snapshot) (files : Files) → SnapshotHolds s files → (look : SnapshotLook) (d : Damage) → LookTells s.number files look d → ⊥
none_told s files holds AtGate d f = f.stops.none (record { digest = sha256 (snapshot_bytes s); long = length-sha256 (snapshot_bytes s); is = ap (λ (o : Option (List ℕ)). unwrap_or o []) holds.checkpoint })
none_told s files holds AtKept d f =
    unbroken (sha256 (snapshot_bytes s)) (drop 1 (bytes_at files (snapshot_checkpoint s.number))) files (snapshot_data s.number) d (record { bytes = snapshot_bytes s; there = holds.body; is = refl })
    (ap (λ (o : Option (List ℕ)). drop 1 (unwrap_or o [])) holds.checkpoint) f
none_told s files holds AtBody d f = f.none (record { snapshot = s; values = holds.values; numbered = refl; is = ap (λ (o : Option (List ℕ)). unwrap_or o []) holds.body })

pub told_is_unsound : ToldIsUnsound
told_is_unsound files damage t None is = let never : [] ≡ snapshot_checkpoint t.number ∷ [] = sym (ap last_of is) ∙ t.last in absurd (cc)
told_is_unsound files damage t (Some s) is =
    let both : snapshot_checkpoint s.number ∷ [] ≡ snapshot_checkpoint t.number ∷ [] = sym (ap last_of is.last ∙ last_more is.older (snapshot_checkpoint s.number)) ∙ t.last in
    let same : s.number ≡ t.number = ap (λ (l : List FileName). (get_or l 0 (snapshot_checkpoint 0)).number) both in
    let told = subst (λ (n : ℕ). SnapshotTells n files damage) (sym same) t.told in
    none_told s files is.holds told.one damage told.found

module _ (number : ℕ) (files : Files) where
  -- what is found is told, though of data in other words
  finds_tells : (look : SnapshotLook) (d : Damage) → SnapshotFinds number files look d → (other : Damage) × LookTells number files look other
  finds_tells AtGate d f = (d, f)
  finds_tells AtKept d f = (d, f)
  finds_tells AtBody d f = (OfForm (snapshot_data number) 0, record { none = f.stops.none; is = refl })

  tells_finds : (look : SnapshotLook) (d : Damage) → (look ≡ AtBody → ⊥) → LookTells number files look d → SnapshotFinds number files look d
  tells_finds AtGate d other f = f
  tells_finds AtKept d other f = f
  tells_finds AtBody d other f = absurd (other refl)

  first_finds : (d : Damage) → (f : SnapshotTells number files d) → (f.one ≡ AtBody → ⊥) → FirstFound (SnapshotFinds number files) (AtGate ∷ AtKept ∷ AtBody ∷ []) d
  first_finds d f other = record {
    before = f.before;
    one = f.one;
    after = f.after;
    split = f.split;
    none = λ look m o g. let t = finds_tells look o g in f.none look m t.0 t.1;
    found = tells_finds f.one d other f.found;
  }

pub told_is_first : ToldIsFirst
told_is_first files damage known are t other =
    let volumes = map InVolume (counted_volumes files) in
    let segments = map InSegment (numbers files) in
    record {
      before = volumes;
      one = InSnapshot (snapshot_checkpoint t.number);
      after = segments;
      split = ap (λ (l : List FileName). volumes ++ (map InSnapshot l ++ segments)) t.last;
      none = λ location m o f.
          let at = IsIn-map InVolume (counted_volumes files) location m in
          let k = of_name files (counted_volumes files) known are at.0 at.1 in
          let g = subst (λ (q : FileName). LocationFinds files (InVolume q) o) k.2.named (subst (λ (q : Location). LocationFinds files q o) (sym at.2) f) in
          whole_volume k.0.head k.0.rows files k.2.holds g.one o g.found;
      found = first_finds t.number files damage t.told other;
    }
