use Rattle.ixl_laws.proofs.Reported.{first_reported, goes_on_reported}
use Rattle.ixl_laws.proofs.laws.sections_are_kept_as_they_were_told_last.Goals as goal

pub returns-clause-first : goal.returns-clause-first
returns-clause-first c site table begins place detector is = first_reported site table begins place detector is

pub returns-clause-kept : goal.returns-clause-kept
returns-clause-kept c now input old new answer place before after told step is also was =
    goes_on_reported now place before told old is was (c.step_hears_what_was_taken.ensures now) (c.step_keeps_the_peer.ensures.receipt now) (c.step_keeps_the_peer.ensures.tick now) input new answer after step also
