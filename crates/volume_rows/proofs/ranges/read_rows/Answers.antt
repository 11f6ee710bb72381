use Rattle.std.proofs.Common.{◌≡◌, List, refl, sym, subst, ◌∙◌}
use Rattle.fileset_read.proofs.commit_log_proofs.Leaves.{leaves_none}
use Rattle.fileset_read.specs.m3_model.declared.point.Series.{Series}
use Rattle.fileset_read.specs.wire_bytes.Volumes.{Data}
use Rattle.fileset_read.specs.volume_bytes.Heads.{head_of}
use Rattle.fileset_read.specs.Volumes.{IsUndamaged}
use Rattle.fileset_read.proofs.FileLemmas.{undamaged}
use Rattle.volume_rows.proofs.RangeLemmas.{no_records, records_inside, records_read, some_spelled}
use Rattle.volume_rows.proofs.ranges.read_rows.Goals as goal

pub returns-then-extent-eq0-clause-leaves : goal.returns-then-extent-eq0-clause-leaves
returns-then-extent-eq0-clause-leaves g c = leaves_none _ (g.D.Disk.state c.args.disk.now) (λ f. absurd (cc))

pub returns-then-extent-eq0-clause-ok : goal.returns-then-extent-eq0-clause-ok
returns-then-extent-eq0-clause-ok g c = λ t rows holds some h.
    c.new.ensures ∙ sym (no_records some (sym h.len ∙ c.if-extent-eq0.true))

pub read_stretch-requires : goal.read_stretch-requires
read_stretch-requires g c = λ t.
    let there = c.requires.there t in
    let h = c.requires.records t there.rows there.holds in
    records_inside (head_of c.args.head.now) there.rows (g.D.Disk.state c.args.disk.now).files c.part_name-file.result there.holds h.some c.args.extent (c.part_name-file.ensures Data refl) h.stand
    c.if-extent-eq0.false

pub returns-in-Ok-clause-ok : goal.returns-in-Ok-clause-ok
returns-in-Ok-clause-ok g c = λ t rows holds some h.
    let v = head_of c.args.head.now in
    let files = (g.D.Disk.state c.args.disk.now).files in
    let bytes = records_read v rows files c.part_name-file.result holds some c.args.extent c.in_ok-bytes.bytes (c.part_name-file.ensures Data refl) h c.if-extent-eq0.false (c.in_ok-bytes.ensures.ok t) in
    c.in-Ok.ensures some (some_spelled v rows files c.part_name-file.result holds some c.args.extent h) (c.as_slice.ensures ∙ bytes)

pub returns-clause-sound : goal.returns-clause-sound
returns-clause-sound g c = λ t.
    let v = head_of c.args.head.now in
    let files = (g.D.Disk.state c.args.disk.now).files in
    let there = c.requires.there t in
    let h = c.requires.records t there.rows there.holds in
    let bytes = records_read v there.rows files c.part_name-file.result there.holds h.some c.args.extent c.in_ok-bytes.bytes (c.part_name-file.ensures Data refl) h.stand c.if-extent-eq0.false (c.in_ok-bytes.ensures.ok t) in
    let read = c.in-Err.ensures h.some (some_spelled v there.rows files c.part_name-file.result there.holds h.some c.args.extent h.stand) (c.as_slice.ensures ∙ bytes) in
    subst IsUndamaged (sym c.in_file.ensures) (undamaged {X = List Series} c.in-Err.e c.part_name-file.result (λ r. r ≡ h.some) read)
