use Rattle.std.proofs.Common.{List, sym, subst}
use Rattle.std.proofs.lemmas.Result.{IfOk-weaker}
use Rattle.m3_model.specs.declared.point.Pick.{Pick}
use Rattle.m3_model.specs.declared.point.Series.{Series}
use Rattle.fileset_check.specs.shard_files.Parts.{VolumeHolds}
use Rattle.fileset_check.specs.volume_bytes.Heads.{head_of}
use Rattle.volume_points.specs.Candidates.{AreCandidates}
use Rattle.volume_points.proofs.VolumeLemmas.{same_rows}
use Rattle.volume_points.proofs.candidates.candidates.Goals as goal

pub returns-in-Match-clause-ok : goal.returns-in-Match-clause-ok
returns-in-Match-clause-ok g c = λ t.
    let v = head_of c.args.head.now in
    let files = (g.D.Disk.state c.args.disk.now).files in
    IfOk-weaker c.rows.result (λ found. VolumeHolds v found files) (λ found. (rows : List Series) → VolumeHolds v rows files → AreCandidates c.args.pick.now rows found)
    (λ found holds rows h. subst (λ (p : Pick). AreCandidates p rows found) (sym c.in-Match.is) (same_rows v found rows files holds h)) (c.rows.ensures.ok t)
