use Rattle.volume_points.specs.volume_bytes.Heads.{head_of}
use Rattle.volume_points.proofs.fileset_check_proofs.BodyLemmas.{all_fit}
use Rattle.listed_volumes.proofs.keeping.seeker_from.Goals as goal

pub tables_of-requires-clause-fits : goal.tables_of-requires-clause-fits
tables_of-requires-clause-fits c = all_fit (head_of c.args.head.now) c.args.rows.now c.requires
