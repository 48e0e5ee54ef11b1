-- the datagram is received, a connection may come up, and the items are acted on
use Rattle.std.proofs.Common.{[], ◌∙◌, arith}
use Rattle.ixl_client.proofs.ItemActions.{from_none, from_same, hears}
use Rattle.ixl_client.proofs.Steady.{hearing_rests, keeps}
use Rattle.ixl_client.proofs.client.Client.receive.Goals as goal

pub rise-requires-clause-clock : goal.rise-requires-clause-clock
rise-requires-clause-clock c = (c.receive-verdict.ensures.goes []).clock

pub rise-requires-clause-room : goal.rise-requires-clause-room
rise-requires-clause-room c = omega (arith, (c.receive-verdict.ensures.goes []).few, (c.receive-verdict.ensures.goes []).capacity, c.requires.room)

pub act_all-requires-clause-clock : goal.act_all-requires-clause-clock
act_all-requires-clause-clock c = (c.rise.ensures []).clock

pub act_all-requires-clause-room : goal.act_all-requires-clause-room
act_all-requires-clause-room c = omega (arith, (c.receive-verdict.ensures.goes []).few, (c.receive-verdict.ensures.goes []).capacity, (c.rise.ensures []).few, (c.rise.ensures []).capacity, c.requires.room)

pub invariant_of-self : goal.invariant_of-self
invariant_of-self c = keeps _ _ _ _ _
    (hears _ _ _ _ _ _ _ _ (c.receive-verdict.ensures.goes _) (c.rise.ensures _) (c.as_slice.ensures.value ∙ c.receive-verdict.ensures.items) c.act_all.ensures c.fall.ensures)
    c.self.invariant (λ part is. hearing_rests _ _ part)

pub returns-clause-goes : goal.returns-clause-goes
returns-clause-goes c = from_same _ _ _ _ _ _ _ _ c.self.view_is
    (from_none _ _ _ _ _ _ _ c.clear.ensures (hears _ _ _ _ _ _ _ _ (c.receive-verdict.ensures.goes _) (c.rise.ensures _) (c.as_slice.ensures.value ∙ c.receive-verdict.ensures.items) c.act_all.ensures c.fall.ensures))
