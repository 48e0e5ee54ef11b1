use Rattle.node_panel.proofs.Lists.{one_noted}
use Rattle.node_panel.proofs.Successes.{ok_met}
use Rattle.node_panel.proofs.asking.note_own.Goals as goal

pub returns-in-Stand : goal.returns-in-Stand
returns-in-Stand c = ok_met c.note.result (one_noted _) c.note.ensures.done

pub returns : goal.returns
returns c = ok_met c.note-2.result (one_noted _) c.note-2.ensures.done
