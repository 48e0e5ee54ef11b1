-- the heartbeat that is due, and a link that is down is opened
use Rattle.std.proofs.Common.{[], arith}
use Rattle.ixl_client.proofs.ItemActions.{from_same, ticks}
use Rattle.ixl_client.proofs.Steady.{ticking_rests, keeps}
use Rattle.ixl_client.proofs.client.Client.tick.Goals as goal

pub open-requires-clause-clock : goal.open-requires-clause-clock
open-requires-clause-clock c = omega (arith, (c.beat.ensures []).clock)

pub open-requires-clause-room : goal.open-requires-clause-room
open-requires-clause-room c = omega (arith, (c.beat.ensures []).few, (c.beat.ensures []).capacity, c.requires.room)

pub invariant_of-self : goal.invariant_of-self
invariant_of-self c = keeps _ _ _ _ _ (ticks _ _ _ _ _ (c.beat.ensures []) (c.open.ensures []) c.fall.ensures) c.self.invariant (λ part is. ticking_rests _ part is)

pub returns : goal.returns
returns c heard = from_same _ _ _ _ _ _ _ _ c.self.view_is (ticks _ _ _ _ _ (c.beat.ensures heard) (c.open.ensures heard) c.fall.ensures)
