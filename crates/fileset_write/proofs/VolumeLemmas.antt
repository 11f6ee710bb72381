-- The bytes of a new volume's files.
use Rattle.std.proofs.Common.{◌≡◌, ℕ, ℤ, pos, List, ◌++◌, get_or, FitsSigned}
use Rattle.std.specs.Int.{w64}
use Rattle.std.proofs.lemmas.List.Elements.{All-from_get_or}
use Rattle.sha2.specs.Sha256.{sha256}
use Rattle.shard_files.specs.m3_model.declared.point.Series.{Series}
use Rattle.shard_files.proofs.m3_model_proofs.Lists.{IsIn-get_or}
use Rattle.shard_files.specs.wire_bytes.Volumes.{VolumeHead, IsVolume, info_bytes, summaries_bytes, index_bytes, data_bytes, bloom_bytes, digests_bytes}
use Rattle.volume_bytes.specs.Heads.{AllFit}

-- a volume's rows fit the fields of their records
pub all_fit : (v : VolumeHead) (rows : List Series) → IsVolume v rows → AllFit rows
all_fit v rows values s m =
    let row = values.row s m in
    record {
      id = row.most;
      long = row.long;
      values = All-from_get_or (λ (x : ℕ × ℤ). FitsSigned w64 x.1) s.points (0, pos 0) (λ i lt. row.value (get_or s.points i (0, pos 0)) (IsIn-get_or s.points i (0, pos 0) lt));
    }

pub digests_are : (v : VolumeHead) (rows : List Series) (a b c d e : List ℕ) → a ≡ info_bytes v rows → b ≡ summaries_bytes v.format rows → c ≡ index_bytes v.format rows → d ≡ data_bytes rows → e ≡ bloom_bytes rows
    → sha256 a ++ (sha256 b ++ (sha256 c ++ (sha256 d ++ sha256 e))) ≡ digests_bytes v rows
digests_are v rows a b c d e one two three four five = λ i. sha256 (one i) ++ (sha256 (two i) ++ (sha256 (three i) ++ (sha256 (four i) ++ sha256 (five i))))
