-- Known volumes for reads.
use Rattle.std.proofs.Common.{◌≡◌, inl, inr, ⊎_elim, ℕ, ℤ, List, [], ◌∷◌, map, length, refl, sym, subst, ◌∙◌, arith, Bool, true}
use Rattle.std.specs.Prelude.{filter}
use Rattle.m3_model.specs.Contents.{Contents}
use Rattle.m3_outside.specs.DiskState.{DiskState, Told, EachImage, IsLawfulDisk}
use Rattle.m3_outside.specs.Files.{Files}
use Rattle.m3_model.specs.Members.{IsIn}
use Rattle.m3_model.specs.declared.point.Point.{Point}
use Rattle.m3_model.specs.declared.point.Series.{Series}
use Rattle.m3_model.proofs.MemberLemmas.{IsIn-append_cases, IsIn-map}
use Rattle.store_log.specs.listed_volumes.wire_bytes.Entries.{IsBounded}
use Rattle.store_log.specs.listed_volumes.wire_bytes.Volumes.{IsVolume, points_of_row, points_of_rows}
use Rattle.store_log.specs.listed_volumes.Blocks.{block_head}
use Rattle.m3_outside.specs.declared.file_name.FileName.{FileName}
use Rattle.store_log.specs.listed_volumes.volume_bytes.declared.heads.Head.{Head}
use Rattle.store_log.specs.listed_volumes.volume_bytes.Heads.{head_of}
use Rattle.store_log.specs.listed_volumes.shard_files.Parts.{AreKnown, KnownVolume, VolumesAre, counted_volumes}
use Rattle.store_log.proofs.listed_volumes_proofs.shard_files_proofs.CountedLemmas.{IsIn-filter}
use Rattle.store_log.proofs.listed_volumes_proofs.shard_files_proofs.PartLemmas.{one_volumes}
use Rattle.store_log.proofs.listed_volumes_proofs.shard_files_proofs.VolumeSteps.{of_known}
use Rattle.store_log.specs.listed_volumes.Known.{AreOf, AreThere}
use Rattle.store_log.proofs.listed_volumes_proofs.KnownLemmas.{volumes_are_known, known_are_there}
use Rattle.store_log.specs.snapshot_steps.volume_steps.Known.{HoldsKnown}
use Rattle.store_log.proofs.snapshot_steps_proofs.volume_steps_proofs.KnownLemmas.{are_known}
use Rattle.store_log.specs.listed_volumes.Listed.{AreHeld, known_in}
use Rattle.store_log.specs.listed_volumes.declared.volume.ListedVolume.{ListedVolume}

module _ (m : Contents) (known : List KnownVolume) (tenure fence : ℕ) (d : DiskState) (lawful : IsLawfulDisk d) (each : EachImage d (HoldsKnown m known tenure fence)) where
  -- the volumes that count are the known ones
  pub known_counted : Told d (VolumesAre known)
  known_counted tells = are_known m known tenure fence d.files (each tells d.files (lawful.read_is_image tells))

  -- the known volumes are there whole
  pub held_known : Told d (AreHeld known)
  held_known tells = λ k mem. let n = of_known d.files (counted_volumes d.files) known (known_counted tells) k mem in n.2.holds

  pub of_heads : (heads : List Head) → map (λ k. k.head) known ≡ map head_of heads → Told d (AreOf heads known)
  of_heads heads is tells = volumes_are_known heads known d.files is (known_counted tells)

  pub there_heads : (heads : List Head) → map (λ k. k.head) known ≡ map head_of heads → Told d (AreThere heads)
  there_heads heads is tells = known_are_there heads known d.files (of_heads heads is tells)

  -- what counts is this
  pub counted_is : (ks : List KnownVolume) → d.tells ≡ true → VolumesAre ks d.files → ks ≡ known
  counted_is ks tells are = one_volumes d.files (counted_volumes d.files) ks known are (known_counted tells)

  -- those of the known ones that pass a test, by their heads
  pub of_chosen : (test : KnownVolume → Bool) (heads : List Head) → map head_of heads ≡ map (λ k. k.head) (filter test known) → Told d (AreOf heads (filter test known))
  of_chosen test heads is tells = record {
    heads_are = sym is;
    hold = λ k mem. let n = of_known d.files (counted_volumes d.files) known (known_counted tells) k (IsIn-filter test known k mem) in n.2.holds;
  }

  pub there_chosen : (test : KnownVolume → Bool) (heads : List Head) → map head_of heads ≡ map (λ k. k.head) (filter test known) → Told d (AreThere heads)
  there_chosen test heads is tells = known_are_there heads (filter test known) d.files (of_chosen test heads is tells)

-- so many names as volumes
known_length : (x : Files) (names : List FileName) (ks : List KnownVolume) → AreKnown x names ks → length names ≡ length ks
known_length x [] [] are = refl
known_length x [] (k ∷ ks) are = absurd are
known_length x (n ∷ names) [] are = absurd are
known_length x (n ∷ names) (k ∷ ks) are = let e = known_length x names ks are.1 in omega (arith, e)

listed_length : (vs : List ListedVolume) → length (known_in vs) ≡ length vs
listed_length [] = refl
listed_length (v ∷ vs) = let e = listed_length vs in omega (arith, e)

pub volumes_counted : (vs : List ListedVolume) (files : Files) → VolumesAre (known_in vs) files → length vs ≡ length (counted_volumes files)
volumes_counted vs files are = sym (listed_length vs) ∙ sym (known_length files (counted_volumes files) (known_in vs) are)

-- ---- points of rows

row_of : (ns : ℕ) (rows : List Series) (p : Point) → IsIn (points_of_rows ns rows) p → (s : Series) × IsIn rows s × IsIn (points_of_row ns s) p
row_of ns [] p m = absurd m
row_of ns (s ∷ rows) p m = ⊎_elim (λ (here : IsIn (points_of_row ns s) p). (s, inl refl, here)) (λ (rest : IsIn (points_of_rows ns rows) p). let later = row_of ns rows p rest in (later.0, inr later.1, later.2)) (IsIn-append_cases (points_of_row ns s) (points_of_rows ns rows) p m)

-- a point of a volume's rows is within the bounds of a point
pub bounded_of : (ns start size : ℕ) (rows : List Series) → IsVolume (block_head ns start size) rows → (p : Point) → IsIn (points_of_rows ns rows) p → IsBounded p
bounded_of ns start size rows volume p m =
    let s = row_of ns rows p m in
    let row = volume.row s.0 s.1 in
    let x = IsIn-map (λ (x : ℕ × ℤ). record { ns = ns; id = s.0.id; t = x.0; v = x.1 }) s.0.points p s.2 in
    subst IsBounded x.2 (record { namespace = volume.head.ns; some = row.some; most = row.most; utf8 = row.utf8; time = row.time x.0 x.1; value = row.value x.0 x.1 })
