use Rattle.node_panel.proofs.Questions.{question_asked}
use Rattle.node_panel.proofs.asking.write_numbers.Goals as goal

pub returns : goal.returns
returns g c = question_asked c.write_line.result _ _ c.write_line.ensures.done c.write_line.ensures.failed
