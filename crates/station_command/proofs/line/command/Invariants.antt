use Rattle.std.proofs.Common.{◌≡◌, false, take}
use Rattle.clap.specs.Words.{app_of, new_app}
use Rattle.clap.specs.declared.builder.command.Command.TheViews.{out-Command}
use Rattle.station_command.specs.inside.Entries.{with_arguments}
use Rattle.station_command.proofs.line.command.Given as goal

abbrev pub invariant-loop-argument : goal.invariant-loop-argument
invariant-loop-argument l =
    (app_of l.line ≡ with_arguments (new_app l.entry.word.now) (take l.argument-index l.entry.arguments.now)) × ((out-Command l.line).has_globals ≡ false)
