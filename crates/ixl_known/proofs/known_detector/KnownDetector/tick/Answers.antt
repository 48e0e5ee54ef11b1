use Rattle.std.proofs.Common.{[], ap, sym, ◌∙◌}
use Rattle.ixl_spec.specs.ixl_client.ClientSoFar.{Seen, begun}
use Rattle.ixl_known.proofs.Peers.{as_many}
use Rattle.ixl_known.proofs.Went.{detector_in, detector_ticks, done}
use Rattle.ixl_known.proofs.known_detector.KnownDetector.tick.Goals as goal

pub returns : goal.returns
returns c = detector_in _ _ _ _ _ _ _ _ c.self.view_is (detector_ticks _ _ _ _ _ _ (c.tick.ensures []) c.fall.ensures)

pub invariant_of-self : goal.invariant_of-self
invariant_of-self c = as_many 64 c.self.inside.client c.tick.new.self
    (ap (λ (s : Seen). s.client.peer) (sym (done _ _ _ _ _ _ _ _ (c.tick.ensures []))) ∙ c.step_keeps_the_peer.ensures.tick c.args.now (begun c.self.inside.client c.args.outbox.now)) c.self.invariant
