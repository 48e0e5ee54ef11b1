-- What is asked for by what was found on a command line.
use Rattle.std.specs.Prelude.{List, Option, Some, None}
use Rattle.clap.specs.Words.{Row, Text, first_of, found_of, rows_of}
use Rattle.clap.specs.declared.parser.matches.ArgMatches.{ArgMatches}
use Rattle.station_command.specs.Commands.{Said}
use Rattle.station_command.specs.CommandWords.{asked_by}

-- the first value that was found for a name
abbrev pub value_in : ArgMatches → Text → Option Text
value_in matches name = first_of name (rows_of (found_of matches))

-- what a subcommand of this name asks for, by the rows of its arguments
abbrev pub asked_of_rows : Option (Text × List Row) → Option Said
asked_of_rows None = None
asked_of_rows (Some found) = asked_by (λ name. first_of name found.1) found.0
