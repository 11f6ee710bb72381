use Rattle.std.proofs.Common.{ℕ, List, refl, subst, ◌∙◌}
use Rattle.fileset_read.specs.wire_bytes.Volumes.{Index}
use Rattle.fileset_read.specs.volume_bytes.Heads.{head_of}
use Rattle.fileset_lookup.specs.Spots.{FindsSpot}
use Rattle.volume_rows.proofs.StretchLemmas.{record_found}
use Rattle.volume_rows.proofs.DiskLemmas.{entries_inside, entries_read, run_values}
use Rattle.volume_rows.proofs.entries.find_record.Goals as goal

pub read_stretch-requires : goal.read_stretch-requires
read_stretch-requires g c = λ t.
    let there = c.requires.there t in
    entries_inside (head_of c.args.head.now) c.args.id.now there.rows (g.D.Disk.state c.args.disk.now).files c.part_name-file.result there.holds c.args.stretch (c.part_name-file.ensures Index refl)
    (c.requires.entries t there.rows there.holds)

pub returns-in-Ok-clause-ok : goal.returns-in-Ok-clause-ok
returns-in-Ok-clause-ok g c = λ t rows holds.
    let v = head_of c.args.head.now in
    let id = c.args.id.now in
    let files = (g.D.Disk.state c.args.disk.now).files in
    let h = c.requires.entries t rows holds in
    let bytes = entries_read v id rows files c.part_name-file.result holds c.args.stretch c.in_ok-bytes.bytes (c.part_name-file.ensures Index refl) h (c.in_ok-bytes.ensures.ok t) in
    let found = c.in-Ok.ensures v h.before h.run h.later (run_values v id rows files c.part_name-file.result holds c.args.stretch h) refl (c.as_slice.ensures ∙ bytes) in
    record_found 1 id rows c.args.stretch h c.in-Ok.spot (subst (λ (i : List ℕ). FindsSpot i h.before h.run c.in-Ok.spot) c.as_bytes.ensures.value found)

pub returns-clause-sound : goal.returns-clause-sound
returns-clause-sound g c = λ t.
    let there = c.requires.there t in
    let v = head_of c.args.head.now in
    let id = c.args.id.now in
    let files = (g.D.Disk.state c.args.disk.now).files in
    let h = c.requires.entries t there.rows there.holds in
    let bytes = entries_read v id there.rows files c.part_name-file.result there.holds c.args.stretch c.in_ok-bytes.bytes (c.part_name-file.ensures Index refl) h (c.in_ok-bytes.ensures.ok t) in
    absurd (c.in-Err.ensures v h.before h.run h.later (run_values v id there.rows files c.part_name-file.result there.holds c.args.stretch h) refl (c.as_slice.ensures ∙ bytes))
