use Rattle.std.specs.Prelude.{ℕ}
use Rattle.ixl_laws.proofs.CalledSteps.{ClientLaws}
use Rattle.ixl_laws.proofs.OrderedStep.{calls_in_order, datagrams_in_order}
use Rattle.ixl_laws.proofs.laws.datagrams_stand_in_their_order.Goals as goal

laws : (c : goal.After-step_keeps_the_peer) (now : ℕ) → ClientLaws now
laws c now = record {
  receipt = c.step_is_calls.ensures.receipt now;
  acts = c.step_hears_what_was_taken.ensures now;
  command = c.step_is_calls.ensures.command now;
  tick = c.step_is_calls.ensures.tick now;
  same_receipt = c.step_keeps_the_peer.ensures.receipt now;
  same_command = c.step_keeps_the_peer.ensures.command now;
  same_tick = c.step_keeps_the_peer.ensures.tick now;
}

pub returns-clause-calls : goal.returns-clause-calls
returns-clause-calls c now input old new answer step = calls_in_order now (laws c now) old input

pub returns-clause-datagrams : goal.returns-clause-datagrams
returns-clause-datagrams c now input old new answer step = datagrams_in_order now (laws c now) old input new answer step
