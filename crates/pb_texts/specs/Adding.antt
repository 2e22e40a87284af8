-- What is made of arguments and subcommands, one after the other, each where there was memory for those before.
use Rattle.std.specs.Prelude.{◌≡◌, false, Result, IfOk}
use Rattle.clap.specs.Words.{App, app_of}
use Rattle.clap.specs.declared.builder.command.Command.{Command}
use Rattle.clap.specs.declared.builder.command.Command.TheViews.{out-Command as fields_of}

-- a program with these subcommands
abbrev pub IsApp : {E : Type 0} → Result Command E → App → Type 0
IsApp r app = IfOk r (λ c. app_of c ≡ app)

-- a subcommand with these arguments, which are its own
abbrev pub IsSubcommand : {E : Type 0} → Result Command E → App → Type 0
IsSubcommand r app = IfOk r (λ c. (app_of c ≡ app) × ((fields_of c).has_globals ≡ false))
