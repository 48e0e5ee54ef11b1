use Rattle.std.specs.Option.{option_map}
use Rattle.clap.specs.Words.{found_of, rows_of}
use Rattle.station_command.proofs.Found.{request_found}
use Rattle.station_command.proofs.command.request_in.Goals as goal
use Rattle.station_command.specs.Requests.{says}

pub returns : goal.returns
returns c =
    request_found c.args.matches.now c.in_ok-name.name.now (rows_of (found_of c.in_ok-name.matches.now)) (option_map says c.request_by.result) c.request_by.ensures
    c.in_ok-name.ensures.name c.in_ok-name.ensures.rows
