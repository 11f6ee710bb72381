use Rattle.volume_points.specs.volume_bytes.Heads.{head_of}
use Rattle.volume_points.specs.volume_rows.Seekers.{IsSeekerOf}
use Rattle.listed_volumes.proofs.KeptLemmas.{borrowed, kept_there}
use Rattle.listed_volumes.proofs.fetching.fetch_one.Goals as goal

pub read_volume-requires-clause-seeker : goal.read_volume-requires-clause-seeker
read_volume-requires-clause-seeker g c = λ t.
    let v = c.args.volume.now in
    let files = (g.D.Disk.state c.args.disk.now).files in
    borrowed (λ k. IsSeekerOf (head_of v.head) k files) c.as_ref.result v.seeker c.as_ref.ensures.value (kept_there v.head v.rows.value v.seeker files v.kept (c.requires.there t))
