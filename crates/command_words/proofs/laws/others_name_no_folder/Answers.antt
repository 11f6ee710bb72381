use Rattle.command_words.proofs.TakenLemmas.{no_folder}
use Rattle.command_words.proofs.laws.others_name_no_folder.Goals as goal

pub returns : goal.returns
returns c = no_folder
