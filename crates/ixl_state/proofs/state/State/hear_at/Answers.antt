use Rattle.std.proofs.Common.{◌≡◌, subst, sym}
use Rattle.ixl_spec.specs.Step.{client_at, verdict_at}
use Rattle.ixl_known.specs.Field.{IsThere, node_at}
use Rattle.ixl_known.specs.declared.node.Node.{Node}
use Rattle.ixl_state.specs.State.{field_of}
use Rattle.ixl_state.proofs.Heard.{detector_heard, detector_told, point_heard, point_told, signal_heard, signal_told}
use Rattle.ixl_state.proofs.state.State.hear_at.Goals as goal

pub hear_signal-requires-clause-there : goal.hear_signal-requires-clause-there
hear_signal-requires-clause-there c = subst (IsThere (field_of c.args.self.now)) c.in-Signal.is c.requires.there

pub hear_point-requires-clause-there : goal.hear_point-requires-clause-there
hear_point-requires-clause-there c = subst (IsThere (field_of c.args.self.now)) c.in-Point.is c.requires.there

pub hear_detector-requires-clause-there : goal.hear_detector-requires-clause-there
hear_detector-requires-clause-there c = subst (IsThere (field_of c.args.self.now)) c.in-Detector.is c.requires.there

pub returns-in-Signal-clause-goes : goal.returns-in-Signal-clause-goes
returns-in-Signal-clause-goes c = signal_heard c.args.now c.args.self.now.sited.table c.args.datagram.now c.in-Signal.place c.args.node c.args.self.now c.args.outbox.now c.hear_signal.new.self c.hear_signal.new.outbox c.in-Signal.is c.hear_signal.ensures.goes

pub returns-in-Signal-clause-verdict : goal.returns-in-Signal-clause-verdict
returns-in-Signal-clause-verdict c = subst (λ (n : Node). c.hear_signal.result ≡ verdict_at c.args.now c.args.datagram.now (client_at (node_at n) c.args.self.now.ixl)) (sym c.in-Signal.is)
    (signal_told c.args.now c.args.datagram.now c.in-Signal.place c.args.self.now.ixl c.hear_signal.result (subst (IsThere (field_of c.args.self.now)) c.in-Signal.is c.requires.there) c.hear_signal.ensures.verdict)

pub returns-in-Point-clause-goes : goal.returns-in-Point-clause-goes
returns-in-Point-clause-goes c = point_heard c.args.now c.args.self.now.sited.table c.args.datagram.now c.in-Point.place c.args.node c.args.self.now c.args.outbox.now c.hear_point.new.self c.hear_point.new.outbox c.in-Point.is c.hear_point.ensures.goes

pub returns-in-Point-clause-verdict : goal.returns-in-Point-clause-verdict
returns-in-Point-clause-verdict c = subst (λ (n : Node). c.hear_point.result ≡ verdict_at c.args.now c.args.datagram.now (client_at (node_at n) c.args.self.now.ixl)) (sym c.in-Point.is)
    (point_told c.args.now c.args.datagram.now c.in-Point.place c.args.self.now.ixl c.hear_point.result (subst (IsThere (field_of c.args.self.now)) c.in-Point.is c.requires.there) c.hear_point.ensures.verdict)

pub returns-in-Detector-clause-goes : goal.returns-in-Detector-clause-goes
returns-in-Detector-clause-goes c = detector_heard c.args.now c.args.self.now.sited.table c.args.datagram.now c.in-Detector.place c.args.node c.args.self.now c.args.outbox.now c.hear_detector.new.state c.hear_detector.new.outbox c.in-Detector.is c.hear_detector.ensures.goes

pub returns-in-Detector-clause-verdict : goal.returns-in-Detector-clause-verdict
returns-in-Detector-clause-verdict c = subst (λ (n : Node). c.hear_detector.result ≡ verdict_at c.args.now c.args.datagram.now (client_at (node_at n) c.args.self.now.ixl)) (sym c.in-Detector.is)
    (detector_told c.args.now c.args.datagram.now c.in-Detector.place c.args.self.now.ixl c.hear_detector.result (subst (IsThere (field_of c.args.self.now)) c.in-Detector.is c.requires.there) c.hear_detector.ensures.verdict)
