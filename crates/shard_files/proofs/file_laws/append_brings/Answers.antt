use Rattle.shard_files.proofs.FilesHoldLemmas.{append_brings as it}
use Rattle.shard_files.proofs.file_laws.append_brings.Goals as goal

pub returns : goal.returns
returns c = it
