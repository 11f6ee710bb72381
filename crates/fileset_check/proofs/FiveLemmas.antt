-- The first of five files that doesn't keep to its digest.
use Rattle.std.proofs.Common.{◌≡◌, ℕ, List, [], ◌∷◌, take, drop, Option, arith}
use Rattle.fileset_read.specs.m3_outside.Files.{Files}
use Rattle.fileset_read.specs.m3_outside.declared.file_name.FileName.{FileName}
use Rattle.fileset_read.specs.wire_bytes.Volumes.{Info, Summaries, Index, Data, Bloom}
use Rattle.fileset_read.specs.shard_files.Damage.{Damage, Look, AtDigest, BreaksDigest}
use Rattle.fileset_check.specs.PartFiles.{AreParts, AreDigests, Keeps, part_in, file_of}
use Rattle.fileset_check.specs.Told.{LookTells, FirstTells, at_gates, at_five, at_digests}
use Rattle.fileset_check.proofs.FirstLemmas.{first_here, first_there, first_behind}
use Rattle.fileset_check.proofs.DigestLemmas.{gates_none, one_none, one_breaks, kept_info, kept_summaries, kept_index, kept_data, kept_bloom}

module _ (of : FileName) (files : Files) (parts : List (Option (List ℕ))) (p : AreParts of files parts) (a : AreDigests parts) (d : Damage) where
  abbrev Finds : Look → Damage → Type 0
  Finds look e = LookTells of.ns of.block of.number files look e

  pub one_broken : BreaksDigest (take 32 a.five) files (file_of 1 of) d → FirstTells at_digests of files d
  one_broken b = first_behind Finds at_gates at_five d (gates_none of files parts p a)
      (first_here Finds (AtDigest Info) (AtDigest Summaries ∷ AtDigest Index ∷ AtDigest Data ∷ AtDigest Bloom ∷ []) d (one_breaks of files parts p a Info _ d (kept_info of files parts p a) b))

  pub two_broken : Keeps (take 32 a.five) (part_in parts 1) → BreaksDigest (take 32 (drop 32 a.five)) files (file_of 2 of) d → FirstTells at_digests of files d
  two_broken k1 b = first_behind Finds at_gates at_five d (gates_none of files parts p a)
      (first_there Finds (AtDigest Info) (AtDigest Summaries ∷ AtDigest Index ∷ AtDigest Data ∷ AtDigest Bloom ∷ []) d (one_none of files parts p a Info _ (omega arith) (omega arith) (kept_info of files parts p a) k1)
      (first_here Finds (AtDigest Summaries) (AtDigest Index ∷ AtDigest Data ∷ AtDigest Bloom ∷ []) d (one_breaks of files parts p a Summaries _ d (kept_summaries of files parts p a) b)))

  pub three_broken : Keeps (take 32 a.five) (part_in parts 1) → Keeps (take 32 (drop 32 a.five)) (part_in parts 2) → BreaksDigest (take 32 (drop 64 a.five)) files (file_of 3 of) d → FirstTells at_digests of files d
  three_broken k1 k2 b = first_behind Finds at_gates at_five d (gates_none of files parts p a)
      (first_there Finds (AtDigest Info) (AtDigest Summaries ∷ AtDigest Index ∷ AtDigest Data ∷ AtDigest Bloom ∷ []) d (one_none of files parts p a Info _ (omega arith) (omega arith) (kept_info of files parts p a) k1)
      (first_there Finds (AtDigest Summaries) (AtDigest Index ∷ AtDigest Data ∷ AtDigest Bloom ∷ []) d (one_none of files parts p a Summaries _ (omega arith) (omega arith) (kept_summaries of files parts p a) k2)
      (first_here Finds (AtDigest Index) (AtDigest Data ∷ AtDigest Bloom ∷ []) d (one_breaks of files parts p a Index _ d (kept_index of files parts p a) b))))

  pub four_broken : Keeps (take 32 a.five) (part_in parts 1) → Keeps (take 32 (drop 32 a.five)) (part_in parts 2) → Keeps (take 32 (drop 64 a.five)) (part_in parts 3) → BreaksDigest (take 32 (drop 96 a.five)) files (file_of 4 of) d → FirstTells at_digests of files d
  four_broken k1 k2 k3 b = first_behind Finds at_gates at_five d (gates_none of files parts p a)
      (first_there Finds (AtDigest Info) (AtDigest Summaries ∷ AtDigest Index ∷ AtDigest Data ∷ AtDigest Bloom ∷ []) d (one_none of files parts p a Info _ (omega arith) (omega arith) (kept_info of files parts p a) k1)
      (first_there Finds (AtDigest Summaries) (AtDigest Index ∷ AtDigest Data ∷ AtDigest Bloom ∷ []) d (one_none of files parts p a Summaries _ (omega arith) (omega arith) (kept_summaries of files parts p a) k2)
      (first_there Finds (AtDigest Index) (AtDigest Data ∷ AtDigest Bloom ∷ []) d (one_none of files parts p a Index _ (omega arith) (omega arith) (kept_index of files parts p a) k3)
      (first_here Finds (AtDigest Data) (AtDigest Bloom ∷ []) d (one_breaks of files parts p a Data _ d (kept_data of files parts p a) b)))))

  pub five_broken : Keeps (take 32 a.five) (part_in parts 1) → Keeps (take 32 (drop 32 a.five)) (part_in parts 2) → Keeps (take 32 (drop 64 a.five)) (part_in parts 3) → Keeps (take 32 (drop 96 a.five)) (part_in parts 4) → BreaksDigest (take 32 (drop 128 a.five)) files (file_of 5 of) d → FirstTells at_digests of files d
  five_broken k1 k2 k3 k4 b = first_behind Finds at_gates at_five d (gates_none of files parts p a)
      (first_there Finds (AtDigest Info) (AtDigest Summaries ∷ AtDigest Index ∷ AtDigest Data ∷ AtDigest Bloom ∷ []) d (one_none of files parts p a Info _ (omega arith) (omega arith) (kept_info of files parts p a) k1)
      (first_there Finds (AtDigest Summaries) (AtDigest Index ∷ AtDigest Data ∷ AtDigest Bloom ∷ []) d (one_none of files parts p a Summaries _ (omega arith) (omega arith) (kept_summaries of files parts p a) k2)
      (first_there Finds (AtDigest Index) (AtDigest Data ∷ AtDigest Bloom ∷ []) d (one_none of files parts p a Index _ (omega arith) (omega arith) (kept_index of files parts p a) k3)
      (first_there Finds (AtDigest Data) (AtDigest Bloom ∷ []) d (one_none of files parts p a Data _ (omega arith) (omega arith) (kept_data of files parts p a) k4)
      (first_here Finds (AtDigest Bloom) ([]) d (one_breaks of files parts p a Bloom _ d (kept_bloom of files parts p a) b))))))
