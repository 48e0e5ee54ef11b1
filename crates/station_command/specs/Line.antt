-- The command line of `station`, made of the table of its commands.
use Rattle.std.specs.Prelude.{List, ℕ, Some, fold, true, codes}
use Rattle.clap.specs.Words.{App, Rule, new_app, new_rule, with_rule, with_subcommand}
use Rattle.clap.specs.declared.builder.action.ArgAction.TheVariants as action
use Rattle.clap.specs.declared.builder.value_parser.ValueParser.TheVariants as value
use Rattle.station_command.specs.Commands.{Argument, Command, File, Kind, Number, Switch, Word, commands}

-- an argument that may be left out: what isn't a file has its name after two hyphens
abbrev pub rule_by : Kind → List ℕ → Rule
rule_by File name = record (new_rule name) { value_names = 1 }
rule_by Word name = record (new_rule name) { long = Some name; value_names = 1 }
rule_by (Number low high) name = record (new_rule name) { long = Some name; value_names = 1; parser = Some (value.Unsigned low high) }
rule_by Switch name = record (new_rule name) { long = Some name; action = Some action.SetTrue }

abbrev pub rule_of : Argument → Rule
rule_of argument = record (rule_by argument.kind argument.name) { required = argument.is_needed }

-- a command with its arguments, in their order
abbrev pub line_of : Command → App
line_of command = fold (λ line argument. with_rule line (rule_of argument)) (new_app command.word) command.arguments

-- `station`, which has a version, and tells its help where no word is given
abbrev pub alone_line : App
alone_line =
    let plain = new_app (codes "station")
    in record plain { top = record plain.top { has_version = true; subcommand_required = true; arg_required_else_help = true } }

-- `station COMMAND`
abbrev pub station_line : App
station_line = fold (λ line command. with_subcommand line (line_of command).top) alone_line commands
