use Rattle.std.proofs.Common.{refl}
use Rattle.clap.proofs.OnLiterals.{clap_on_literals}
use Rattle.command_words.specs.Laws.{RunIsTaken}
use Rattle.command_words.proofs.laws.run_is_taken.Goals as goal

taken : RunIsTaken
unfolding clap_on_literals
taken = refl

pub returns : goal.returns
returns c = taken
