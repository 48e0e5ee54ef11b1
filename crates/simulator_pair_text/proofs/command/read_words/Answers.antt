use Rattle.std.proofs.Common.{rules, ◌∙◌, map}
use Rattle.clap.specs.Words.{app_of}
use Rattle.simulator_pair_text.proofs.CommandLineRead.{file_given, parse_fails}
use Rattle.simulator_pair_text.proofs.command.read_words.Goals as goal

pub returns-in_err-matches-clause-kinds : goal.returns-in_err-matches-clause-kinds
returns-in_err-matches-clause-kinds g c =
    let words = map g.S.AsStr.text c.args.words.now in
    let kinds = parse_fails (app_of c.in_ok-command.command) words c.in_ok-command.ensures c.try_get_matches_from_mut.result c.try_get_matches_from_mut.ensures.kinds in
    search rules

pub returns-in-Some-clause-kinds : goal.returns-in-Some-clause-kinds
returns-in-Some-clause-kinds g c =
    let words = map g.S.AsStr.text c.args.words.now in
    let kinds = parse_fails (app_of c.in_ok-command.command) words c.in_ok-command.ensures c.try_get_matches_from_mut.result c.try_get_matches_from_mut.ensures.kinds in
    search rules

pub returns-clause-kinds : goal.returns-clause-kinds
returns-clause-kinds g c =
    let words = map g.S.AsStr.text c.args.words.now in
    let kinds = parse_fails (app_of c.in_ok-command.command) words c.in_ok-command.ensures c.try_get_matches_from_mut.result c.try_get_matches_from_mut.ensures.kinds in
    search rules

pub returns-in-Some-clause-asked : goal.returns-in-Some-clause-asked
returns-in-Some-clause-asked g c =
    let words = map g.S.AsStr.text c.args.words.now in
    c.in-Some.ensures ∙ file_given (app_of c.in_ok-command.command) words c.in_ok-command.ensures c.in_ok-matches.matches c.in_ok-matches.ensures.ok.2

pub returns-clause-asked : goal.returns-clause-asked
returns-clause-asked g c =
    let words = map g.S.AsStr.text c.args.words.now in
    c.in-None.ensures ∙ file_given (app_of c.in_ok-command.command) words c.in_ok-command.ensures c.in_ok-matches.matches c.in_ok-matches.ensures.ok.2
