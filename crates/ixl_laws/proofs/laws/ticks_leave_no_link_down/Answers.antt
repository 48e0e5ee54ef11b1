use Rattle.ixl_laws.proofs.NoneDown.{none_down}
use Rattle.ixl_laws.proofs.laws.ticks_leave_no_link_down.Goals as goal

pub returns : goal.returns
returns c now old new answer stepped =
    none_down now old new answer (c.ticks_open_links_that_are_down.ensures.opened now) (c.ticks_open_links_that_are_down.ensures.same now) stepped
