-- The task that words ask for.
use Rattle.std.specs.Prelude.{ℕ, List, [], ◌∷◌, Option, Some, None, option_and_then, option_map, codes, ◌^◌, ◌&&◌, nat_lt, if◌then◌else◌}
use Rattle.std.specs.Str.{bytes_eq}
use Rattle.std.specs.Str.Parse.{digits_value, without_leading_plus}
use Rattle.clap.specs.Faults.{fault_of}
use Rattle.clap.specs.Kinds.{Kinds}
use Rattle.clap.specs.Simple.{subcommand_of}
use Rattle.clap.specs.ValueTests.{is_numeral}
use Rattle.clap.specs.Walk.{Row, Text, first_of, one_of}
use Rattle.command_words.specs.Line.{line_app}
use Rattle.command_words.specs.declared.task.Task.{Task}
use Rattle.command_words.specs.declared.task.Task.TheVariants as task

-- the number that a text spells, after a plus or none, where it is below 2^32
abbrev pub number_by : Text → Option ℕ
number_by text =
    let digits = without_leading_plus text in
    if is_numeral digits && nat_lt (digits_value 10 digits) (2 ^ 32) then Some (digits_value 10 digits) else None

-- the number that a subcommand was given, where it spells one
abbrev pub number_in : List Row → Option ℕ
number_in rows = option_and_then number_by (one_of (codes "number") rows)

-- the task of a subcommand, by its name and its matches
abbrev pub task_by : Option (Text × List Row) → Option Task
task_by None = None
task_by (Some (name, rows)) = if bytes_eq name (codes "run") then Some task.Run else option_map task.Generate (number_in rows)

-- the folder that a subcommand was given, by its name and its matches
abbrev pub folder_by : Option (Text × List Row) → Option Text
folder_by None = None
folder_by (Some (name, rows)) = first_of (codes "disk") rows

-- the folder that words name, if they name one
abbrev pub folder_of : List Text → Option Text
folder_of words = folder_by (subcommand_of line_app words)

-- where no word is at fault, the task of the subcommand that the words name
abbrev pub task_where : Kinds → List Text → Option Task
task_where [] words = task_by (subcommand_of line_app words)
task_where (kind ∷ kinds) words = None

-- the task that the words ask for, if they ask for one
abbrev pub task_of : List Text → Option Task
task_of words = task_where (fault_of line_app words) words
