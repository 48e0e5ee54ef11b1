-- The rows of the table of commands in the code, as those of the definition.
use Rattle.std.specs.Prelude.{List, fold}
use Rattle.clap.specs.Words.{App, new_app, with_rule, with_subcommand}
use Rattle.station_command.specs.declared.command_table.Argument.{Argument as ArgumentRow}
use Rattle.station_command.specs.declared.command_table.Entry.{Entry}
use Rattle.station_command.specs.declared.command_table.Kind.{Kind as KindRow}
use Rattle.station_command.specs.declared.command_table.Kind.TheVariants as kind
use Rattle.station_command.specs.Commands.{Argument, File, Kind, Number, Switch, Word}
use Rattle.station_command.specs.Line.{rule_of}

abbrev pub kind_of_row : KindRow → Kind
kind_of_row (kind.File value) = File
kind_of_row (kind.Word value) = Word
kind_of_row (kind.Number value low high) = Number low high
kind_of_row kind.Switch = Switch

abbrev pub argument_of_row : ArgumentRow → Argument
argument_of_row row = record { name = row.0.now; kind = kind_of_row row.1; is_needed = row.2 }

-- a command with more arguments, in their order
abbrev pub with_arguments : App → List ArgumentRow → App
with_arguments line rows = fold (λ line row. with_rule line (rule_of (argument_of_row row))) line rows

-- a command with its arguments
abbrev pub line_of_entry : Entry → App
line_of_entry entry = with_arguments (new_app entry.word.now) entry.arguments.now

-- a command line with more commands, in their order
abbrev pub with_commands : App → List Entry → App
with_commands line entries = fold (λ line entry. with_subcommand line (line_of_entry entry).top) line entries
