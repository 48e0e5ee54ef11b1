use Rattle.std.proofs.Common.{rules, lit<, sym, ◌∙◌}
use Rattle.std.proofs.lemmas.Str.Pattern.{starts_char}
use Rattle.replay_words.proofs.Spelled.{decimal-parse}
use Rattle.replay_words.proofs.read.decimal.Goals as goal

pub returns : goal.returns
returns c =
    let plus = starts_char 43 c.args.word.now c.starts_with.result c.starts_with.ensures.cases (lit< tt) (lit< tt) in
    let parsed = decimal-parse c.args.word.now c.parse.result c.parse.ensures.value.0 (λ e. cc (sym c.if-starts_with.false ∙ plus.1 e)) in
    search rules
