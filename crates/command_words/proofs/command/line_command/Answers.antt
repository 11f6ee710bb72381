use Rattle.std.proofs.Common.{rules, ap, ap₂, codes, true, false, Bool, ◌||◌, ◌≡◌, ◌∙◌}
use Rattle.std.proofs.lemmas.Result.{IfOk-weaker}
use Rattle.clap.specs.declared.builder.command.Command.TheViews.{out-Command}
use Rattle.clap.specs.Walk.{rule_of}
use Rattle.clap.specs.Simple.{App, app_of, new_app, with_rule, with_subcommand}
use Rattle.command_words.specs.Line.{disk_rule, number_parser, number_rule_by, quiet, run_app, generate_app_by}
use Rattle.command_words.proofs.Steps.{help_off, version_off, bare, no_help, wants}
use Rattle.command_words.proofs.command.line_command.Goals as goal

abbrev no_flag : App → App
no_flag a = record a { top = record a.top { disable_help_flag = true } }

abbrev no_version : App → App
no_version a = record a { top = record a.top { disable_version_flag = true } }

abbrev no_name : App → App
no_name a = record a { top = record a.top { no_binary_name = true } }

abbrev no_helper : App → App
no_helper a = record a { top = record a.top { disable_help_subcommand = true } }

abbrev one_of_them : App → App
one_of_them a = record a { top = record a.top { subcommand_required = true } }

pub returns : goal.returns
returns c =
    let disk_is : rule_of c.long-disk.result ≡ disk_rule = search rules in
    let count_is : rule_of c.value_parser-count.result ≡ number_rule_by number_parser = search rules in
    let disk_local : c.long-disk.result.global ≡ false = ap (λ a. a.global) c.long-disk.ensures ∙ c.new.ensures.optional.1 in
    let count_local : c.value_parser-count.result.global ≡ false = ap (λ a. a.global) c.value_parser-count.ensures.others ∙ (ap (λ a. a.global) c.required.ensures ∙ c.new-3.ensures.optional.1) in
    let run0 : app_of c.disable_version_flag.result ≡ quiet (new_app (codes "run")) =
    version_off c.disable_help_flag.result _ c.disable_version_flag.ensures ∙ ap no_version (help_off c.new-2.result _ c.disable_help_flag.ensures ∙ ap no_flag c.new-2.ensures.app) in
    let run1 : app_of c.in_ok-run.run' ≡ run_app = c.in_ok-run.ensures.shape disk_local ∙ ap₂ with_rule run0 disk_is in
    let gen0 : app_of c.disable_version_flag-2.result ≡ quiet (new_app (codes "generate")) =
    version_off c.disable_help_flag-2.result _ c.disable_version_flag-2.ensures ∙ ap no_version (help_off c.new-4.result _ c.disable_help_flag-2.ensures ∙ ap no_flag c.new-4.ensures.app) in
    let gen1 : app_of c.in_ok-generate.generate ≡ generate_app_by number_parser = c.in_ok-generate.ensures.shape count_local ∙ ap₂ with_rule gen0 count_is in
    let run_local : (out-Command c.in_ok-run.run').has_globals ≡ false = c.in_ok-run.ensures.globals ∙ ap₂ (λ (a b : Bool). a || b) (ap (λ f. f.has_globals) c.disable_version_flag.ensures ∙ (ap (λ f. f.has_globals) c.disable_help_flag.ensures ∙ c.new-2.ensures.local)) disk_local in
    let gen_local : (out-Command c.in_ok-generate.generate).has_globals ≡ false = c.in_ok-generate.ensures.globals ∙ ap₂ (λ (a b : Bool). a || b) (ap (λ f. f.has_globals) c.disable_version_flag-2.ensures ∙ (ap (λ f. f.has_globals) c.disable_help_flag-2.ensures ∙ c.new-4.ensures.local)) count_local in
    let top0 : app_of c.subcommand_required.result ≡ one_of_them (no_version (no_helper (no_flag (no_name (new_app (codes "m3")))))) =
    wants c.disable_version_flag-3.result _ c.subcommand_required.ensures ∙ ap one_of_them (version_off c.disable_help_subcommand.result _ c.disable_version_flag-3.ensures ∙ ap no_version (no_help c.disable_help_flag-3.result _ c.disable_help_subcommand.ensures ∙ ap no_helper (help_off c.no_binary_name.result _ c.disable_help_flag-3.ensures ∙ ap no_flag (bare c.new-5.result _ c.no_binary_name.ensures ∙ ap no_name c.new-5.ensures.app)))) in
    let top1 : app_of c.in_ok-subcommand.field-0 ≡ with_subcommand (one_of_them (no_version (no_helper (no_flag (no_name (new_app (codes "m3"))))))) run_app.top = c.in_ok-subcommand.ensures.shape run_local ∙ ap₂ with_subcommand top0 (ap (λ (a : App). a.top) run1) in
    IfOk-weaker c.subcommand-2.result _ _ (λ r added. added.shape gen_local ∙ ap₂ with_subcommand top1 (ap (λ (a : App). a.top) gen1)) c.subcommand-2.ensures
