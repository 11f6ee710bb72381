-- The command line of the program, as its words are read by it.
use Rattle.std.specs.Prelude.{true, Some, codes, pos}
use Rattle.clap.specs.Walk.{Rule}
use Rattle.clap.specs.Simple.{App, new_app, new_rule, with_rule, with_subcommand}
use Rattle.clap.specs.declared.builder.value_parser.ValueParser.{ValueParser}
use Rattle.clap.specs.declared.builder.value_parser.ValueParser.TheVariants as vp

-- the numbers that are taken, from 0 to 4,294,967,295
abbrev pub number_parser : ValueParser
number_parser = vp.Signed (pos 0) (pos 4294967295)

-- one required value, which such a parser takes
abbrev pub number_rule_by : ValueParser → Rule
number_rule_by p = record (new_rule (codes "number")) { required = true; parser = Some p }

-- no flags for help and version
abbrev pub quiet : App → App
quiet a = record a { top = record a.top { disable_help_flag = true; disable_version_flag = true } }

-- the optional value of `--disk`
abbrev pub disk_rule : Rule
disk_rule = record (new_rule (codes "disk")) { long = Some (codes "disk") }

abbrev pub run_app : App
run_app = with_rule (quiet (new_app (codes "run"))) disk_rule

abbrev pub generate_app_by : ValueParser → App
generate_app_by p = with_rule (quiet (new_app (codes "generate"))) (number_rule_by p)

-- the words are those after the program's name; one of the two subcommands is required
abbrev pub line_app_by : ValueParser → App
line_app_by p = with_subcommand (with_subcommand (record (quiet (new_app (codes "m3"))) { top = record (quiet (new_app (codes "m3"))).top { no_binary_name = true; disable_help_subcommand = true; subcommand_required = true } }) run_app.top) (generate_app_by p).top

abbrev pub line_app : App
line_app = line_app_by number_parser
