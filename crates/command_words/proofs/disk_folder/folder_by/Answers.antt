use Rattle.std.proofs.Common.{◌∙◌, codes}
use Rattle.std.specs.Prelude.{Some}
use Rattle.clap.specs.Words.{found_of, rows_of, subcommand_rows_of}
use Rattle.clap.proofs.WalkLemmas.{first_value-rows}
use Rattle.command_words.proofs.TaskLemmas.{folder_in_rows}
use Rattle.command_words.proofs.disk_folder.folder_by.Goals as goal

pub returns : goal.returns
returns c =
    c.get_str.ensures ∙ first_value-rows (found_of c.in_ok-found.found.now) (codes "disk")
    ∙ folder_in_rows (subcommand_rows_of c.args.matches.now) (Some (rows_of (found_of c.in_ok-found.found.now))) c.in_ok-found.ensures.rows
