use Rattle.std.proofs.Common.{◌∙◌, ap}
use Rattle.node_panel.specs.Noted.{noted}
use Rattle.node_panel.proofs.Successes.{ok_met}
use Rattle.node_panel.proofs.noted.note_line.Goals as goal

pub returns : goal.returns
returns c = ok_met c.note.result (λ is. is ∙ ap (λ line. noted line c.args.desk.now) (c.as_str.ensures.value ∙ c.in_ok-noted.ensures.ok)) c.note.ensures.done
