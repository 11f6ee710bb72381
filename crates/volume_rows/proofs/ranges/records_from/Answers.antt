use Rattle.std.proofs.Common.{ℕ, List, Option, refl, subst, ◌∙◌}
use Rattle.std.specs.Option.{option_copied}
use Rattle.fileset_read.proofs.commit_log_proofs.Leaves.{leaves_none}
use Rattle.fileset_read.specs.wire_bytes.Volumes.{Index}
use Rattle.fileset_read.specs.volume_bytes.Heads.{head_of}
use Rattle.fileset_lookup.specs.Extents.{IsExtent}
use Rattle.volume_rows.proofs.RangeLemmas.{extent_found, none_found, range_inside, range_read, range_values}
use Rattle.volume_rows.proofs.ranges.records_from.Goals as goal

pub returns-then-stretch-eq0-clause-leaves : goal.returns-then-stretch-eq0-clause-leaves
returns-then-stretch-eq0-clause-leaves g c = leaves_none _ (g.D.Disk.state c.args.disk.now) (λ f. absurd (cc))

pub returns-then-stretch-eq0-clause-ok : goal.returns-then-stretch-eq0-clause-ok
returns-then-stretch-eq0-clause-ok g c = λ t rows holds.
    none_found 1 c.args.id.now (option_copied c.args.last) c.args.most rows c.args.stretch (c.requires.entries t rows holds) c.if-stretch-eq0.true

pub read_stretch-requires : goal.read_stretch-requires
read_stretch-requires g c = λ t.
    let there = c.requires.there t in
    range_inside (head_of c.args.head.now) c.args.id.now (option_copied c.args.last) there.rows (g.D.Disk.state c.args.disk.now).files c.part_name-file.result there.holds c.args.stretch (c.part_name-file.ensures Index refl)
    (c.requires.entries t there.rows there.holds)

pub returns-in-Ok-clause-ok : goal.returns-in-Ok-clause-ok
returns-in-Ok-clause-ok g c = λ t rows holds.
    let v = head_of c.args.head.now in
    let id = c.args.id.now in
    let last = option_copied c.args.last in
    let files = (g.D.Disk.state c.args.disk.now).files in
    let file = c.part_name-file.result in
    let h = c.requires.entries t rows holds in
    let bytes = range_read v id last rows files file holds c.args.stretch c.in_ok-bytes.bytes (c.part_name-file.ensures Index refl) h (c.in_ok-bytes.ensures.ok t) in
    let found = c.in-Ok.ensures v h.before h.run h.later (range_values v id last rows files file holds c.args.stretch h) refl (c.as_slice.ensures ∙ bytes) in
    extent_found 1 id last c.args.most rows c.args.stretch c.in-Ok.extent h
    (subst (λ (i : List ℕ). IsExtent i last c.args.most h.before h.run c.in-Ok.extent) c.as_bytes.ensures.value
    (subst (λ (l : Option (List ℕ)). IsExtent c.as_bytes.result.now l c.args.most h.before h.run c.in-Ok.extent) c.bytes_of.ensures found))

pub returns-clause-sound : goal.returns-clause-sound
returns-clause-sound g c = λ t.
    let there = c.requires.there t in
    let v = head_of c.args.head.now in
    let id = c.args.id.now in
    let last = option_copied c.args.last in
    let files = (g.D.Disk.state c.args.disk.now).files in
    let file = c.part_name-file.result in
    let h = c.requires.entries t there.rows there.holds in
    let bytes = range_read v id last there.rows files file there.holds c.args.stretch c.in_ok-bytes.bytes (c.part_name-file.ensures Index refl) h (c.in_ok-bytes.ensures.ok t) in
    absurd (c.in-Err.ensures v h.before h.run h.later (range_values v id last there.rows files file there.holds c.args.stretch h) refl (c.as_slice.ensures ∙ bytes))
