use Rattle.ixl_state.proofs.Looks.{LooksNow}
use Rattle.ixl_state.proofs.datagrams_heard.look_now.Given as goal

abbrev pub invariant-loop-told : goal.invariant-loop-told
invariant-loop-told l = LooksNow l.now l.fn.state.sited.table l.heard l.place l.told-index l.fn.state l.state
