use Rattle.command_words.proofs.TakenLemmas.{number_taken}
use Rattle.command_words.proofs.laws.number_is_taken.Goals as goal

pub returns : goal.returns
returns c = number_taken
