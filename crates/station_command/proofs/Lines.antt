-- The command line, made of the rows of a table: a command of its arguments, and the line of its commands.
use Rattle.std.proofs.Common.{◌≡◌, ◌||◌, ℕ, ◌+◌, ◌<◌, ◌≤◌, List, ap, false, get_or, length, sym, take, ◌∙◌}
use Rattle.std.proofs.lemmas.List.{take_all}
use Rattle.std.proofs.lemmas.List.Sums.{fold_more}
use Rattle.clap.specs.Words.{AddsArg, with_rule, with_subcommand}
use Rattle.clap.specs.declared.builder.arg.Arg.{Arg}
use Rattle.clap.specs.declared.builder.command.Command.{Command}
use Rattle.clap.specs.declared.builder.command.Command.TheViews.{out-Command}
use Rattle.clap.specs.Simple.{App, app_of}
use Rattle.clap.specs.Walk.{rule_of as rule_in}
use Rattle.station_command.specs.declared.command_table.Argument.{Argument}
use Rattle.station_command.specs.declared.command_table.Entry.{Entry}
use Rattle.station_command.specs.inside.Entries.{argument_of_row, line_of_entry, with_arguments, with_commands}
use Rattle.station_command.specs.Line.{rule_of}

-- one more argument
pub taken : (line : App) (arguments : List Argument) (i : ℕ) (other : Argument) (before after : Command) (arg : Arg) → i < length arguments
    → app_of before ≡ with_arguments line (take i arguments) → (out-Command before).has_globals ≡ false → rule_in arg ≡ rule_of (argument_of_row (get_or arguments i other)) → arg.global ≡ false → AddsArg before arg after
    → (app_of after ≡ with_arguments line (take (i + 1) arguments)) × ((out-Command after).has_globals ≡ false)
taken line arguments i other before after arg within was none is local adds =
    let next = fold_more (λ line argument. with_rule line (rule_of (argument_of_row argument))) line arguments i other within in
    (adds.shape local ∙ ((λ j. with_rule (was j) (is j)) ∙ sym next), adds.globals ∙ (λ j. none j || local j))

-- one more command
pub joined : (line : App) (entries : List Entry) (i : ℕ) (other : Entry) (before after : Command) → i < length entries
    → app_of before ≡ with_commands line (take i entries) → app_of after ≡ with_subcommand (app_of before) (line_of_entry (get_or entries i other)).top
    → app_of after ≡ with_commands line (take (i + 1) entries)
joined line entries i other before after within was is =
    let next = fold_more (λ line entry. with_subcommand line (line_of_entry entry).top) line entries i other within in
    is ∙ ((λ j. with_subcommand (was j) (line_of_entry (get_or entries i other)).top) ∙ sym next)

-- and when there is no more
pub all_taken : (line : App) (arguments : List Argument) (i : ℕ) (now : Command) → length arguments ≤ i → app_of now ≡ with_arguments line (take i arguments) → app_of now ≡ with_arguments line arguments
all_taken line arguments i now past so_far = so_far ∙ ap (with_arguments line) (take_all i arguments past)

pub all_joined : (line : App) (entries : List Entry) (i : ℕ) (now : Command) → length entries ≤ i → app_of now ≡ with_commands line (take i entries) → app_of now ≡ with_commands line entries
all_joined line entries i now past so_far = so_far ∙ ap (with_commands line) (take_all i entries past)
