use Rattle.shard_files.proofs.FilesHoldLemmas.{files_hold_one as it}
use Rattle.shard_files.proofs.file_laws.files_hold_one.Goals as goal

pub returns : goal.returns
returns c = it
