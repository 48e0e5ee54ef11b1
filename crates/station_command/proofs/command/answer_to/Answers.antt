use Rattle.std.proofs.Common.{map, rules}
use Rattle.clap.specs.Words.{app_of}
use Rattle.station_command.proofs.CommandLineRead.{answered_error, answered_found}
use Rattle.station_command.proofs.command.answer_to.Goals as goal

pub returns-in_err-matches : goal.returns-in_err-matches
returns-in_err-matches g c =
    answered_error (app_of c.args.command.now) (map g.S.AsStr.text c.args.words.now) c.try_get_matches_from_mut.result c.try_get_matches_from_mut.ensures.kinds
    c.in_err-matches.field-0.0 c.from_residual.result c.in_err-matches.was (search rules)

pub returns : goal.returns
returns g c =
    answered_found (app_of c.args.command.now) (map g.S.AsStr.text c.args.words.now) c.try_get_matches_from_mut.result c.try_get_matches_from_mut.ensures.kinds
    c.in_ok-matches.matches c.answer.result c.in_ok-matches.was c.in_ok-matches.ensures.ok.2 c.answer.ensures
