use Rattle.std.proofs.Common.{ap, sym, ◌∙◌}
use Rattle.ixl_spec.specs.ixl_client.ClientSoFar.{Seen, begun}
use Rattle.ixl_spec.specs.Step.{occupied_heard}
use Rattle.ixl_known.proofs.Peers.{as_many, heard_within}
use Rattle.ixl_known.proofs.Went.{detector_hears, detector_in, done}
use Rattle.ixl_known.proofs.known_detector.KnownDetector.hear.Goals as goal

pub returns-clause-goes : goal.returns-clause-goes
returns-clause-goes c = detector_in _ _ _ _ _ _ _ _ c.self.view_is (detector_hears _ _ _ _ _ _ _ _ _ c.receive-verdict.ensures.goes (c.occupied_heard-self-inside.ensures ∙ ap (λ told. occupied_heard told c.self.inside.occupied) c.as_slice.ensures.value) c.fall.ensures)

pub occupied_heard-self-inside-requires : goal.occupied_heard-self-inside-requires
occupied_heard-self-inside-requires c = heard_within c.args.now c.args.datagram.now c.self.inside.client c.args.outbox.now 64 (c.step_hears_what_was_taken.ensures c.args.now c.args.datagram.now (begun c.self.inside.client c.args.outbox.now))
    c.as_slice.result.now (c.as_slice.ensures.value ∙ ap (λ (s : Seen). s.heard) (sym (done _ _ _ _ _ _ _ _ c.receive-verdict.ensures.goes))) c.self.invariant

pub invariant_of-self : goal.invariant_of-self
invariant_of-self c = as_many 64 c.self.inside.client c.receive-verdict.new.self
    (ap (λ (s : Seen). s.client.peer) (sym (done _ _ _ _ _ _ _ _ c.receive-verdict.ensures.goes)) ∙ c.step_keeps_the_peer.ensures.receipt c.args.now c.args.datagram.now (begun c.self.inside.client c.args.outbox.now)) c.self.invariant
