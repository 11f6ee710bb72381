use Rattle.std.proofs.Common.{refl}
use Rattle.clap.proofs.OnLiterals.{clap_on_literals}
use Rattle.command_words.specs.Laws.{OthersAreNot}
use Rattle.command_words.proofs.laws.others_are_not.Goals as goal

refused : OthersAreNot
unfolding clap_on_literals
refused = record { none = refl; other = refl; second = refl; no_folder = refl; two_folders = refl; help = refl; no_number = refl; too_great = refl; two_numbers = refl; folder_too = refl }

pub returns : goal.returns
returns c = refused
