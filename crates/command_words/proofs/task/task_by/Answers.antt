use Rattle.std.proofs.Common.{refl}
use Rattle.std.specs.Box.{box_value}
use Rattle.clap.specs.Words.{found_of, rows_of, subcommand_rows_of}
use Rattle.clap.specs.declared.parser.matches.ArgMatches.TheViews.{out-ArgMatches, out-SubCommand}
use Rattle.command_words.proofs.TaskLemmas.{both_parts, task_of_number}
use Rattle.command_words.proofs.task.task_by.Goals as goal

pub returns-in-Some : goal.returns-in-Some
returns-in-Some c =
    let met = both_parts (λ b. ((out-SubCommand (box_value b)).name.now, rows_of (found_of (out-SubCommand (box_value b)).matches))) (λ b. (out-SubCommand (box_value b)).name.now) (out-ArgMatches c.args.matches.now).subcommand
    c.in_ok-name.name.now (rows_of (found_of c.in_ok-name.found.now)) (λ b. refl) c.in_ok-name.ensures.name c.in_ok-name.ensures.rows in
    task_of_number (subcommand_rows_of c.args.matches.now) c.in_ok-name.name.now _ _ met c.if-eq.ensures c.in-Some.ensures

pub returns-in-None : goal.returns-in-None
returns-in-None c =
    let met = both_parts (λ b. ((out-SubCommand (box_value b)).name.now, rows_of (found_of (out-SubCommand (box_value b)).matches))) (λ b. (out-SubCommand (box_value b)).name.now) (out-ArgMatches c.args.matches.now).subcommand
    c.in_ok-name.name.now (rows_of (found_of c.in_ok-name.found.now)) (λ b. refl) c.in_ok-name.ensures.name c.in_ok-name.ensures.rows in
    task_of_number (subcommand_rows_of c.args.matches.now) c.in_ok-name.name.now _ _ met c.if-eq.ensures c.in-None.ensures
