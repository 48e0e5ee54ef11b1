use Rattle.std.proofs.Common.{rules}
use Rattle.node_record.proofs.AnswerWords.{is_answer_word}
use Rattle.node_record.proofs.node_story.is_marked.Goals as goal

pub returns : goal.returns
returns c = search (rules, is_answer_word c.parted.result.0.now)
