use Rattle.ixl_state.proofs.Looks.{LooksBefore}
use Rattle.ixl_state.proofs.datagrams_heard.look_before.Given as goal

abbrev pub invariant-loop-own : goal.invariant-loop-own
invariant-loop-own l = LooksBefore l.now l.fn.state.sited.table l.occupied l.place l.own l.fn.state l.state
