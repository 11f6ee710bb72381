use Rattle.std.proofs.Common.{subst}
use Rattle.std.specs.Prelude.{Option, IfSome}
use Rattle.volume_points.specs.volume_bytes.Heads.{head_of}
use Rattle.volume_points.specs.volume_rows.Seekers.{IsSeekerOf}
use Rattle.volume_points.specs.volume_rows.declared.seeker.Seeker.{Seeker}
use Rattle.listed_volumes.proofs.KeptLemmas.{kept_there}
use Rattle.listed_volumes.proofs.first.first_unkept.Goals as goal

pub first_in_range-requires-clause-seeker : goal.first_in_range-requires-clause-seeker
first_in_range-requires-clause-seeker g c = λ tells.
    let v = c.args.volume.now in
    let files = (g.D.Disk.state c.args.disk.now).files in
    subst (λ (o : Option Seeker). IfSome o (λ k. IsSeekerOf (head_of v.head) k files)) c.in-Some.is (kept_there v.head v.rows.value v.seeker files v.kept (c.requires.there tells))
