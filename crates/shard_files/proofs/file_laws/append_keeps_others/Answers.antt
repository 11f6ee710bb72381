use Rattle.shard_files.proofs.FilesHoldLemmas.{append_keeps_others as it}
use Rattle.shard_files.proofs.file_laws.append_keeps_others.Goals as goal

pub returns : goal.returns
returns c = it
