use Rattle.std.proofs.Common.{ℕ, List, length, Option, refl, sym, ap, ◌∙◌}
use Rattle.std.specs.Prelude.{option_map}
use Rattle.std.specs.FinMap.{get}
use Rattle.fileset_read.specs.m3_outside.Files.{Files}
use Rattle.fileset_read.proofs.commit_log_proofs.Leaves.{leaves_as, leaves_then}
use Rattle.fileset_read.proofs.commit_log_proofs.ReadLemmas.{passed_err}
use Rattle.fileset_read.proofs.shard_files_proofs.SegmentStops.{passed_on}
use Rattle.fileset_read.specs.wire_bytes.Volumes.{Bloom, Index, Summaries}
use Rattle.fileset_read.specs.volume_bytes.Heads.{head_of}
use Rattle.fileset_read.specs.Volumes.{IsUndamaged}
use Rattle.fileset_read.specs.declared.file_err.FileErr.TheVariants as failures
use Rattle.volume_rows.proofs.DiskLemmas.{part_there}
use Rattle.volume_rows.proofs.seeker.seeker_of.Goals as goal

pub returns-in_err-bloom-clause-sound : goal.returns-in_err-bloom-clause-sound
returns-in_err-bloom-clause-sound g c = λ t.
    let there = c.requires t in
    passed_on c.from_residual.result c.in_err-bloom.field-0.0 IsUndamaged c.from_residual.ensures.1
    (c.in_err-bloom.ensures.there t _ (part_there (head_of c.args.head.now) there.rows (g.D.Disk.state c.args.disk.now).files c.part_name.result there.holds Bloom (c.part_name.ensures Bloom refl)))

pub returns-in_err-summaries-clause-leaves : goal.returns-in_err-summaries-clause-leaves
returns-in_err-summaries-clause-leaves g c =
    leaves_then _ _ (g.D.Disk.state c.args.disk.now) (g.D.Disk.state c.read_part.new.disk) (g.D.Disk.state c.read_part-2.new.disk) c.in_ok-bloom.ensures.leaves
    (leaves_as _ _ (g.D.Disk.state c.read_part.new.disk) (g.D.Disk.state c.read_part-2.new.disk)
    (λ f. passed_err c.from_residual-in_err-summaries.result c.read_part-2.result c.in_err-summaries.field-0.0 failures.Disk c.in_err-summaries.was c.from_residual-in_err-summaries.ensures.1 f) c.read_part-2.ensures.leaves)

pub returns-in_err-summaries-clause-sound : goal.returns-in_err-summaries-clause-sound
returns-in_err-summaries-clause-sound g c = λ t.
    let there = c.requires t in
    let one = c.in_ok-bloom.ensures.leaves in
    passed_on c.from_residual-in_err-summaries.result c.in_err-summaries.field-0.0 IsUndamaged c.from_residual-in_err-summaries.ensures.1
    (c.in_err-summaries.ensures.there (one.proceeds.tells ∙ t) _ (ap (λ (m : Files). get m c.part_name-2.result) (one.files t)
    ∙ part_there (head_of c.args.head.now) there.rows (g.D.Disk.state c.args.disk.now).files c.part_name-2.result there.holds Summaries (c.part_name-2.ensures Summaries refl)))

pub returns-in_err-index_len-clause-leaves : goal.returns-in_err-index_len-clause-leaves
returns-in_err-index_len-clause-leaves g c =
    let a = g.D.Disk.state c.args.disk.now in
    let b = g.D.Disk.state c.read_part.new.disk in
    let d = g.D.Disk.state c.read_part-2.new.disk in
    let e = g.D.Disk.state c.part_len.new.disk in
    leaves_then _ _ a d e (leaves_then _ _ a b d c.in_ok-bloom.ensures.leaves c.in_ok-summaries.ensures.leaves)
    (leaves_as _ _ d e
    (λ f. passed_err c.from_residual-in_err-index_len.result c.part_len.result c.in_err-index_len.field-0.0 failures.Disk c.in_err-index_len.was c.from_residual-in_err-index_len.ensures.1 f) c.part_len.ensures.leaves)

pub returns-in_err-index_len-clause-sound : goal.returns-in_err-index_len-clause-sound
returns-in_err-index_len-clause-sound g c = λ t.
    let there = c.requires t in
    let one = c.in_ok-bloom.ensures.leaves in
    let two = c.in_ok-summaries.ensures.leaves in
    let told = one.proceeds.tells ∙ t in
    passed_on c.from_residual-in_err-index_len.result c.in_err-index_len.field-0.0 IsUndamaged c.from_residual-in_err-index_len.ensures.1
    (c.in_err-index_len.ensures.there (two.proceeds.tells ∙ told) _ (ap (λ (m : Files). get m c.part_name-3.result) (two.files told ∙ one.files t)
    ∙ part_there (head_of c.args.head.now) there.rows (g.D.Disk.state c.args.disk.now).files c.part_name-3.result there.holds Index (c.part_name-3.ensures Index refl)))

pub returns-clause-leaves : goal.returns-clause-leaves
returns-clause-leaves g c =
    let a = g.D.Disk.state c.args.disk.now in
    let b = g.D.Disk.state c.read_part.new.disk in
    let d = g.D.Disk.state c.read_part-2.new.disk in
    let e = g.D.Disk.state c.part_len.new.disk in
    leaves_then _ _ a d e (leaves_then _ _ a b d c.in_ok-bloom.ensures.leaves c.in_ok-summaries.ensures.leaves)
    (leaves_as _ _ d e (λ f. absurd (cc)) c.in_ok-index_len.ensures.leaves)

pub returns-clause-ok : goal.returns-clause-ok
returns-clause-ok g c = λ t.
    let files = (g.D.Disk.state c.args.disk.now).files in
    let one = c.in_ok-bloom.ensures.leaves in
    let two = c.in_ok-summaries.ensures.leaves in
    let told = one.proceeds.tells ∙ t in
    let same = two.files told ∙ one.files t in
    record {
      bloom = ap (get files) (sym (c.part_name.ensures Bloom refl)) ∙ c.in_ok-bloom.ensures.ok t;
      summaries = ap (get files) (sym (c.part_name-2.ensures Summaries refl)) ∙ ap (λ (m : Files). get m c.part_name-2.result) (sym (one.files t)) ∙ c.in_ok-summaries.ensures.ok told;
      index = ap (λ (m : Option (List ℕ)). option_map length m) (ap (get files) (sym (c.part_name-3.ensures Index refl)) ∙ ap (λ (m : Files). get m c.part_name-3.result) (sym same)) ∙ c.in_ok-index_len.ensures.ok (two.proceeds.tells ∙ told);
    }
