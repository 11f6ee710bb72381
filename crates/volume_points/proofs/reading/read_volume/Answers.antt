use Rattle.std.proofs.Common.{◌∙◌, refl, sym, subst, List}
use Rattle.m3_model.specs.Answers.{IsAnswer}
use Rattle.m3_model.specs.Contents.{content_of}
use Rattle.m3_model.specs.Reads.{IsOrdered}
use Rattle.m3_model.specs.declared.point.Series.{Series}
use Rattle.fileset_check.proofs.commit_log_proofs.Leaves.{leaves_none}
use Rattle.fileset_check.specs.wire_bytes.Volumes.{points_of_rows}
use Rattle.fileset_check.specs.shard_files.Parts.{VolumeHolds}
use Rattle.fileset_check.specs.volume_bytes.Heads.{head_of}
use Rattle.volume_points.specs.Picked.{IsSelectionOf}
use Rattle.volume_points.proofs.KnownLemmas.{of_both}
use Rattle.volume_points.proofs.VolumeLemmas.{answer_of_none, answer_of_one, candidates_stand}
use Rattle.volume_points.proofs.reading.read_volume.Goals as goal

pub returns-then-not-meets-clause-leaves : goal.returns-then-not-meets-clause-leaves
returns-then-not-meets-clause-leaves g c = leaves_none _ (g.D.Disk.state c.args.disk.now) (λ f. absurd (cc))

pub returns-then-not-meets-clause-answer : goal.returns-then-not-meets-clause-answer
returns-then-not-meets-clause-answer g c = λ t rows holds.
    let v = head_of c.args.head.now in
    subst (λ (series : List Series). IsAnswer (content_of (points_of_rows v.ns rows)) c.args.pick.now c.args.from c.args.to series) (sym c.new.ensures)
    (answer_of_none v rows holds.values c.args.pick.now c.args.from c.args.to
    (λ at space low high time from to. c.if-not-meets.ensures.outside refl at (space ∙ sym c.space_of.ensures) low high time from to))

pub returns-clause-answer : goal.returns-clause-answer
returns-clause-answer g c = λ t.
    let v = head_of c.args.head.now in
    let files = (g.D.Disk.state c.args.disk.now).files in
    of_both c.select_checked.result IsOrdered (IsSelectionOf c.in_ok-found.found c.args.pick.now c.args.from c.args.to)
    (λ series. (rows : List Series) → VolumeHolds v rows files → IsAnswer (content_of (points_of_rows v.ns rows)) c.args.pick.now c.args.from c.args.to series)
    (λ series ordered sel rows holds. answer_of_one v rows holds.values c.args.pick.now c.args.from c.args.to c.in_ok-found.found series (c.if-not-meets.ensures.space refl ∙ c.space_of.ensures) (c.in_ok-found.ensures.ok t rows holds) ordered sel)
    c.select_checked.ensures.ordered c.select_checked.ensures.selection

pub returns-clause-sound : goal.returns-clause-sound
returns-clause-sound g c = λ t.
    let there = c.requires.there t in
    c.select_checked.ensures.sound (candidates_stand (head_of c.args.head.now) c.args.pick.now there.rows c.in_ok-found.found there.holds.values (c.in_ok-found.ensures.ok t there.rows there.holds))
