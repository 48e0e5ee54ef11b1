use Rattle.node_kinds.proofs.KeptFirst.{changed_told, close_told, close_wanted, open_told, release_told}
use Rattle.node_kinds.proofs.laws.closings_are_kept_before_they_are_told.Goals as goal

pub returns-clause-changed : goal.returns-clause-changed
returns-clause-changed c now kept input standing some other = changed_told now kept input standing some other

pub returns-clause-close : goal.returns-clause-close
returns-clause-close c now kept named standing some accepted = (
  close_wanted c.a_command_changes_what_it_names_alone.ensures.closed c.what_either_closes_is_closed.ensures.either now named standing.state some accepted,
  close_told now kept named standing some accepted,
)

pub returns-clause-open : goal.returns-clause-open
returns-clause-open c now kept named standing some accepted = open_told now kept named standing some accepted

pub returns-clause-release : goal.returns-clause-release
returns-clause-release c now kept route standing some accepted = release_told now kept route standing some accepted
