use Rattle.shard_files.proofs.FilesHoldLemmas.{no_files_hold_whole_nothing as it}
use Rattle.shard_files.proofs.file_laws.no_files_hold_whole_nothing.Goals as goal

pub returns : goal.returns
returns c = it
