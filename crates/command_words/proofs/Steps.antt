-- What each setter of a command changes of what its words mean.
use Rattle.std.proofs.Common.{◌≡◌, ap, true}
use Rattle.clap.specs.Simple.{app_of, app_of_fields, on_top}
use Rattle.clap.specs.declared.builder.command.Command.{Command}
use Rattle.clap.specs.declared.builder.command.Command.TheViews.{out-Command}

pub help_off : (c d : Command) → out-Command d ≡ record (out-Command c) { disable_help_flag = true } → app_of d ≡ on_top (λ s. record s { disable_help_flag = true }) (app_of c)
help_off c d e = ap app_of_fields e

pub version_off : (c d : Command) → out-Command d ≡ record (out-Command c) { disable_version_flag = true } → app_of d ≡ on_top (λ s. record s { disable_version_flag = true }) (app_of c)
version_off c d e = ap app_of_fields e

pub bare : (c d : Command) → out-Command d ≡ record (out-Command c) { no_binary_name = true } → app_of d ≡ on_top (λ s. record s { no_binary_name = true }) (app_of c)
bare c d e = ap app_of_fields e

pub no_help : (c d : Command) → out-Command d ≡ record (out-Command c) { disable_help_subcommand = true } → app_of d ≡ on_top (λ s. record s { disable_help_subcommand = true }) (app_of c)
no_help c d e = ap app_of_fields e

pub wants : (c d : Command) → out-Command d ≡ record (out-Command c) { subcommand_required = true } → app_of d ≡ on_top (λ s. record s { subcommand_required = true }) (app_of c)
wants c d e = ap app_of_fields e
