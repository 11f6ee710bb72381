use Rattle.std.proofs.Common.{◌≡◌, List, sym, subst, ◌∙◌}
use Rattle.shard_files.specs.m3_model.declared.point.Series.{Series}
use Rattle.shard_files.specs.Parts.{VolumeHolds}
use Rattle.shard_files.proofs.SegmentStops.{passed_on}
use Rattle.volume_bytes.specs.Heads.{head_of}
use Rattle.fileset_read.specs.Volumes.{IsUndamaged}
use Rattle.fileset_read.proofs.FileLemmas.{rows_spelled, data_there, data_is, undamaged}
use Rattle.fileset_read.proofs.volume.rows.Goals as goal

pub returns-in_err-bytes-clause-sound : goal.returns-in_err-bytes-clause-sound
returns-in_err-bytes-clause-sound g c = λ t.
    let there = c.requires t in
    passed_on c.from_residual.result c.in_err-bytes.field-0.0 IsUndamaged c.from_residual.ensures.1
    (c.in_err-bytes.ensures.there t _ (data_there (head_of c.args.head.now) there.rows (g.D.Disk.state c.args.disk.now).files c.data_name-file.result there.holds c.data_name-file.ensures))

pub returns-in-Ok-clause-ok : goal.returns-in-Ok-clause-ok
returns-in-Ok-clause-ok g c = λ t.
    let v = head_of c.args.head.now in
    let files = (g.D.Disk.state c.args.disk.now).files in
    let there = c.requires t in
    let is = data_is v there.rows files c.data_name-file.result c.in_ok-bytes.bytes there.holds c.data_name-file.ensures (c.in_ok-bytes.ensures.ok t) in
    let read = c.in-Ok.ensures there.rows (rows_spelled v there.rows there.holds.values) (c.as_slice.ensures ∙ is) in
    subst (λ (rows : List Series). VolumeHolds v rows files) (sym read) there.holds

pub returns-clause-sound : goal.returns-clause-sound
returns-clause-sound g c = λ t.
    let v = head_of c.args.head.now in
    let there = c.requires t in
    let is = data_is v there.rows (g.D.Disk.state c.args.disk.now).files c.data_name-file.result c.in_ok-bytes.bytes there.holds c.data_name-file.ensures (c.in_ok-bytes.ensures.ok t) in
    let read = c.in-Err.ensures there.rows (rows_spelled v there.rows there.holds.values) (c.as_slice.ensures ∙ is) in
    subst IsUndamaged (sym c.in_file.ensures) (undamaged {X = List Series} c.in-Err.e c.data_name-file.result (λ rows. rows ≡ there.rows) read)
