use Rattle.std.proofs.Common.{Some, None}
use Rattle.replay_words.proofs.Cuts.{words-split_once}
use Rattle.replay_words.proofs.cut.first_word.Goals as goal

-- the word that `split_once` finds, or else the whole text
pub returns-in-Some : goal.returns-in-Some
returns-in-Some c = words-split_once c.args.text.now (Some (c.in-Some.word, c.in-Some.rest)) c.in-Some.ensures.cases

pub returns-in-None : goal.returns-in-None
returns-in-None c = words-split_once c.args.text.now None c.in-None.ensures.cases
