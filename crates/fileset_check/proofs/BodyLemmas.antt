-- Series that are read from the data of a volume.
use Rattle.std.proofs.Common.{◌≡◌, ℕ, ℤ, pos, List, [], get_or, Result, Err, IsErrAnd, IfErr, sym, ap, subst, ◌∙◌, FitsSigned}
use Rattle.std.specs.Int.{w64}
use Rattle.std.proofs.lemmas.List.Elements.{All-from_get_or}
use Rattle.std.proofs.lemmas.Result.{err_from_is_err_and}
use Rattle.fileset_read.specs.m3_model.declared.point.Series.{Series}
use Rattle.fileset_read.proofs.m3_model_proofs.Lists.{IsIn-get_or}
use Rattle.fileset_read.specs.wire_bytes.Volumes.{VolumeHead, IsVolume, data_bytes}
use Rattle.fileset_read.specs.volume_bytes.Heads.{AllFit}
use Rattle.fileset_read.specs.Rows.{AreSpelled, Gives}
use Rattle.fileset_read.specs.declared.row_err.RowErr.{RowErr}
use Rattle.fileset_read.specs.declared.row_err.RowErr.TheVariants as errors
use Rattle.fileset_read.proofs.FileLemmas.{rows_spelled}
use Rattle.fileset_check.specs.PartFiles.{MayBeNoData}

-- a volume's rows fit the fields of their records
pub all_fit : (v : VolumeHead) (rows : List Series) → IsVolume v rows → AllFit rows
all_fit v rows values s m =
    let row = values.row s m in
    record {
      id = row.most;
      long = row.long;
      values = All-from_get_or (λ (x : ℕ × ℤ). FitsSigned w64 x.1) s.points (0, pos 0) (λ i lt. row.value (get_or s.points i (0, pos 0)) (IsIn-get_or s.points i (0, pos 0) lt));
    }

-- bytes that aren't read as rows are the data of no volume
pub no_data : {X : Type 0} (r : Result X RowErr) (e : RowErr) (v : VolumeHead) (bytes : List ℕ) → IsErrAnd r (λ d. d ≡ e) → ((rows : List Series) → AreSpelled rows → bytes ≡ data_bytes rows → Gives {X = List Series} (Err e) (λ read. read ≡ rows)) → IfErr r (MayBeNoData v bytes)
no_data {X} r e v bytes is read = let q = err_from_is_err_and r is in subst (λ (s : Result X RowErr). IfErr s (MayBeNoData v bytes)) (sym q.1) (subst (MayBeNoData v bytes) (sym q.2) (by e read))
  where
    by : (e : RowErr) → ((rows : List Series) → AreSpelled rows → bytes ≡ data_bytes rows → Gives {X = List Series} (Err e) (λ read. read ≡ rows)) → MayBeNoData v bytes e
    by errors.Memory read = tt
    by errors.Form read = λ rows values same. read rows (rows_spelled v rows values) same
