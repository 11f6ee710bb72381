use Rattle.shard_files.proofs.FilesHoldLemmas.{files_hold_ordered as it}
use Rattle.shard_files.proofs.file_laws.files_hold_ordered.Goals as goal

pub returns : goal.returns
returns c = it
