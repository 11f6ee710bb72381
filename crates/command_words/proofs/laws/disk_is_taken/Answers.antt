use Rattle.command_words.proofs.TakenLemmas.{disk_taken}
use Rattle.command_words.proofs.laws.disk_is_taken.Goals as goal

pub returns : goal.returns
returns c = disk_taken
