use Rattle.rasta_core_recovery.proofs.Words.Basics.{false≢true}
use Rattle.rasta_core_recovery.proofs.Words.Links.{created}
use Rattle.rasta_core_recovery.proofs.Lemmas.Windows.ServerConfirmed.{event_confirms_servers}
use Rattle.rasta_core_recovery.proofs.Lemmas.Windows.ServerLeft.{event_left_servers}
use Rattle.rasta_core_recovery.proofs.Lemmas.Windows.ServerWindow.{event_window}
use Rattle.rasta_core_recovery.proofs.windows.what_a_server_takes_confirms.Goals as goal

pub returns-clause-starts : goal.returns-clause-starts
unfolding created
returns-clause-starts c = λ names start spare are_in. absurd (false≢true are_in.client)

pub returns-clause-kept : goal.returns-clause-kept
returns-clause-kept c = event_confirms_servers c.laws_below.ensures

pub returns-clause-few : goal.returns-clause-few
returns-clause-few c = λ names ends spare confirming are_in. (confirming are_in).few

pub returns-clause-left : goal.returns-clause-left
returns-clause-left c = λ names event ends spare owed are timely ordered may confirming before owes. event_left_servers c.laws_below.ensures names are spare owed ends timely ordered confirming before event may owes

pub returns-clause-ever : goal.returns-clause-ever
returns-clause-ever c = event_window c.laws_below.ensures
