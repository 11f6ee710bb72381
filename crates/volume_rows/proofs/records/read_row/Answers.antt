use Rattle.std.proofs.Common.{◌≡◌, refl, sym, subst, ◌∙◌}
use Rattle.fileset_read.specs.m3_model.declared.point.Series.{Series}
use Rattle.fileset_read.specs.m3_model.Members.{IsIn}
use Rattle.fileset_read.specs.wire_bytes.Volumes.{Data}
use Rattle.fileset_read.specs.volume_bytes.Heads.{head_of}
use Rattle.fileset_read.specs.Volumes.{IsUndamaged}
use Rattle.fileset_read.proofs.FileLemmas.{rows_spelled, undamaged}
use Rattle.volume_rows.proofs.StretchLemmas.{record_in}
use Rattle.volume_rows.proofs.DiskLemmas.{record_inside, record_read}
use Rattle.volume_rows.proofs.records.read_row.Goals as goal

pub read_stretch-requires : goal.read_stretch-requires
read_stretch-requires g c = λ t.
    let there = c.requires.there t in
    record_inside (head_of c.args.head.now) c.args.id.now there.rows (g.D.Disk.state c.args.disk.now).files c.part_name-file.result there.holds c.args.spot c.from.result (c.part_name-file.ensures Data refl)
    (c.requires.record_there t there.rows there.holds) c.from.ensures

pub returns-in-Ok-clause-ok : goal.returns-in-Ok-clause-ok
returns-in-Ok-clause-ok g c = λ t rows holds.
    let v = head_of c.args.head.now in
    let h = c.requires.record_there t rows holds in
    let bytes = record_read v c.args.id.now rows (g.D.Disk.state c.args.disk.now).files c.part_name-file.result holds c.args.spot c.from.result c.in_ok-bytes.bytes (c.part_name-file.ensures Data refl) h c.from.ensures (c.in_ok-bytes.ensures.ok t) in
    let own = record_in c.args.id.now rows c.args.spot h in
    let read = c.in-Ok.ensures.whole h.one (rows_spelled v rows holds.values h.one own) h.named (c.as_slice.ensures ∙ bytes) in
    subst (IsIn rows) (sym read) own

pub returns-clause-sound : goal.returns-clause-sound
returns-clause-sound g c = λ t.
    let v = head_of c.args.head.now in
    let there = c.requires.there t in
    let h = c.requires.record_there t there.rows there.holds in
    let bytes = record_read v c.args.id.now there.rows (g.D.Disk.state c.args.disk.now).files c.part_name-file.result there.holds c.args.spot c.from.result c.in_ok-bytes.bytes (c.part_name-file.ensures Data refl) h c.from.ensures (c.in_ok-bytes.ensures.ok t) in
    let own = record_in c.args.id.now there.rows c.args.spot h in
    let read = c.in-Err.ensures.whole h.one (rows_spelled v there.rows there.holds.values h.one own) h.named (c.as_slice.ensures ∙ bytes) in
    subst IsUndamaged (sym c.in_file.ensures) (undamaged {X = Series} c.in-Err.e c.part_name-file.result (λ s. s ≡ h.one) read)
