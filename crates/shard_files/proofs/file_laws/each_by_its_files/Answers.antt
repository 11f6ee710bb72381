use Rattle.shard_files.proofs.PartLemmas.{each_by_its_files as it}
use Rattle.shard_files.proofs.file_laws.each_by_its_files.Goals as goal

pub returns : goal.returns
returns c = it
