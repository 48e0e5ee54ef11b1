use Rattle.std.proofs.Common.{ap, ◌∙◌}
use Rattle.ixl_spec.specs.ixl_client.Client.{ClientState}
use Rattle.ixl_known.proofs.Peers.{as_many}
use Rattle.ixl_known.proofs.Went.{detector_kept, detector_settles}
use Rattle.ixl_known.proofs.known_detector.KnownDetector.settle.Goals as goal

pub returns-clause-detector : goal.returns-clause-detector
returns-clause-detector c = detector_settles _ _ _ _ _ c.self.view_is c.settle.ensures.client c.fall.ensures

pub returns-clause-kept : goal.returns-clause-kept
returns-clause-kept c = detector_kept _ _ _ _ _ c.self.view_is c.settle.ensures.kept c.fall.ensures

pub invariant_of-self : goal.invariant_of-self
invariant_of-self c = as_many 64 c.self.inside.client c.settle.new.self
    (ap (λ (k : ClientState). k.peer) c.settle.ensures.client ∙ c.step_keeps_the_peer.ensures.clock c.args.now c.self.inside.client) c.self.invariant
