use Rattle.std.proofs.Common.{◌∙◌, sym}
use Rattle.ixl_spec.specs.State.{KnownDetectorState, KnownSignalState, KnownPointState}
use Rattle.ixl_spec.specs.Step.{partner_at}
use Rattle.ixl_known.specs.Field.{kept}
use Rattle.ixl_known.proofs.Sought.{detector_node, found_inside, no_node, point_node, signal_node}
use Rattle.ixl_known.proofs.field.Field.node_of.Goals as goal

pub returns-in-Some-clause-node : goal.returns-in-Some-clause-node
returns-in-Some-clause-node c rest = sym (signal_node c.args.id (kept c.args.self.now rest) c.in-Some.place (sym (sym c.in-Some.is ∙ c.signal_of.ensures)))

pub returns-in-Some-clause-there : goal.returns-in-Some-clause-there
returns-in-Some-clause-there c = found_inside (λ (known_signal : KnownSignalState). partner_at c.args.id known_signal.client) c.args.self.now.known_signals c.in-Some.place (sym (sym c.in-Some.is ∙ c.signal_of.ensures))

pub returns-in-Some-point_of-clause-node : goal.returns-in-Some-point_of-clause-node
returns-in-Some-point_of-clause-node c rest = sym (point_node c.args.id (kept c.args.self.now rest) c.in-Some-point_of.place (sym (sym c.in_default.is ∙ c.signal_of.ensures)) (sym (sym c.in-Some-point_of.is ∙ c.point_of.ensures)))

pub returns-in-Some-point_of-clause-there : goal.returns-in-Some-point_of-clause-there
returns-in-Some-point_of-clause-there c = found_inside (λ (known_point : KnownPointState). partner_at c.args.id known_point.client) c.args.self.now.known_points c.in-Some-point_of.place (sym (sym c.in-Some-point_of.is ∙ c.point_of.ensures))

pub returns-in-Some-detector_of-clause-node : goal.returns-in-Some-detector_of-clause-node
returns-in-Some-detector_of-clause-node c rest = sym (detector_node c.args.id (kept c.args.self.now rest) c.in-Some-detector_of.place
    (sym (sym c.in_default.is ∙ c.signal_of.ensures)) (sym (sym c.in_default-point_of.is ∙ c.point_of.ensures)) (sym (sym c.in-Some-detector_of.is ∙ c.detector_of.ensures)))

pub returns-in-Some-detector_of-clause-there : goal.returns-in-Some-detector_of-clause-there
returns-in-Some-detector_of-clause-there c = found_inside (λ (detector : KnownDetectorState). partner_at c.args.id detector.client) c.args.self.now.detectors c.in-Some-detector_of.place (sym (sym c.in-Some-detector_of.is ∙ c.detector_of.ensures))

pub returns-clause-node : goal.returns-clause-node
returns-clause-node c rest = sym (no_node c.args.id (kept c.args.self.now rest)
    (sym (sym c.in_default.is ∙ c.signal_of.ensures)) (sym (sym c.in_default-point_of.is ∙ c.point_of.ensures)) (sym (sym c.in_default-detector_of.is ∙ c.detector_of.ensures)))
