use Rattle.std.specs.Prelude.{ℕ}
use Rattle.ixl_laws.proofs.Called.{acts_on_taken, client_stays, hands_out, link_is_made, nobody_is_called, receives_first}
use Rattle.ixl_laws.proofs.CalledSteps.{ClientLaws}
use Rattle.ixl_laws.proofs.laws.steps_are_calls.Goals as goal

laws : (c : goal.After-step_keeps_the_peer) (now : ℕ) → ClientLaws now
laws c now = record {
  receipt = c.step_is_calls.ensures.receipt now;
  acts = c.step_hears_what_was_taken.ensures now;
  command = c.step_is_calls.ensures.command now;
  tick = c.step_is_calls.ensures.tick now;
  same_receipt = c.step_keeps_the_peer.ensures.receipt now;
  same_command = c.step_keeps_the_peer.ensures.command now;
  same_tick = c.step_keeps_the_peer.ensures.tick now;
}

pub returns-clause-link : goal.returns-clause-link
returns-clause-link c now input old new answer node before after step is also = link_is_made now (laws c now) old input new answer step node before is after also

pub returns-clause-receipt : goal.returns-clause-receipt
returns-clause-receipt c now input old new answer node before step is = receives_first now (laws c now) old input new answer step node before is

pub returns-clause-items : goal.returns-clause-items
returns-clause-items c now input old new answer node before after step is also = acts_on_taken now (laws c now) old input new answer step node before is after also

pub returns-clause-datagrams : goal.returns-clause-datagrams
returns-clause-datagrams c now input old new answer step = hands_out now (laws c now) old input new answer step

pub returns-clause-stays : goal.returns-clause-stays
returns-clause-stays c now input old new answer node before step is = client_stays now (laws c now) old input new answer step node before is

pub returns-clause-nobody : goal.returns-clause-nobody
returns-clause-nobody c now input old new answer node step none = nobody_is_called now (laws c now) old input new answer step node none
