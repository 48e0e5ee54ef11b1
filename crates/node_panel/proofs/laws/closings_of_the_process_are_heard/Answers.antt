use Rattle.node_panel.proofs.ProcessHeard.{lost_heard, not_kept_heard}
use Rattle.node_panel.proofs.laws.closings_of_the_process_are_heard.Goals as goal

pub returns-clause-lost : goal.returns-clause-lost
returns-clause-lost c site cause = lost_heard site c.joined_words_are_read_again.ensures cause

pub returns-clause-not_kept : goal.returns-clause-not_kept
returns-clause-not_kept c site = not_kept_heard site c.joined_words_are_read_again.ensures
