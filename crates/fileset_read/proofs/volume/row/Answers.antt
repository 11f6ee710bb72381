use Rattle.std.proofs.Common.{sym, subst, ◌∙◌}
use Rattle.shard_files.proofs.SegmentStops.{passed_on}
use Rattle.volume_bytes.specs.Heads.{head_of}
use Rattle.fileset_read.specs.Rows.{IsSeriesOf}
use Rattle.fileset_read.specs.Volumes.{IsUndamaged}
use Rattle.fileset_read.proofs.FileLemmas.{rows_spelled, data_there, data_is, undamaged}
use Rattle.fileset_read.proofs.volume.row.Goals as goal

pub returns-in_err-bytes-clause-sound : goal.returns-in_err-bytes-clause-sound
returns-in_err-bytes-clause-sound g c = λ t.
    let there = c.requires t in
    passed_on c.from_residual.result c.in_err-bytes.field-0.0 IsUndamaged c.from_residual.ensures.1
    (c.in_err-bytes.ensures.there t _ (data_there (head_of c.args.head.now) there.rows (g.D.Disk.state c.args.disk.now).files c.data_name-file.result there.holds c.data_name-file.ensures))

pub returns-in-Ok-clause-ok : goal.returns-in-Ok-clause-ok
returns-in-Ok-clause-ok g c = λ t rows holds.
    let v = head_of c.args.head.now in
    let is = data_is v rows (g.D.Disk.state c.args.disk.now).files c.data_name-file.result c.in_ok-bytes.bytes holds c.data_name-file.ensures (c.in_ok-bytes.ensures.ok t) in
    c.in-Ok.ensures rows (rows_spelled v rows holds.values) (c.as_slice.ensures ∙ is)

pub returns-clause-sound : goal.returns-clause-sound
returns-clause-sound g c = λ t.
    let v = head_of c.args.head.now in
    let there = c.requires t in
    let is = data_is v there.rows (g.D.Disk.state c.args.disk.now).files c.data_name-file.result c.in_ok-bytes.bytes there.holds c.data_name-file.ensures (c.in_ok-bytes.ensures.ok t) in
    let read = c.in-Err.ensures there.rows (rows_spelled v there.rows there.holds.values) (c.as_slice.ensures ∙ is) in
    subst IsUndamaged (sym c.in_file.ensures) (undamaged c.in-Err.e c.data_name-file.result (IsSeriesOf c.args.id.now there.rows) read)
