use Rattle.std.proofs.Common.{sym, ap, ◌∙◌, Some}
use Rattle.std.specs.Option.{option_map}
use Rattle.simulator_spec.specs.object_host.declared.input.Input.TheVariants as inputs
use Rattle.simulator_spec.specs.Happens.{delivered_to, detector_stepped, point_stepped, signal_stepped}
use Rattle.simulator_spec.specs.Nodes.{node_at}
use Rattle.simulator_spec.specs.layout.Nodes.{meant_node}
use Rattle.simulator.specs.inside.Parts.{site_of, seen, table_of}
use Rattle.simulator.proofs.PartsOfWorld.{detector_coming, goes_as, point_coming, signal_coming}
use Rattle.simulator.proofs.parts.Parts.deliver_in.Goals as goal

pub returns-in-Some-Signal : goal.returns-in-Some-Signal
returns-in-Some-Signal c =
    let self = c.args.self.now
    in let place = c.in-Some-Signal.signal.0
    in let node = sym (ap (option_map meant_node) (c.in-Some-Signal.is ∙ ap Some c.in-Some-Signal.field-0-is)) ∙ c.node.ensures.value ∙ ap (λ p. node_at p c.args.node.0) c.layout.ensures.entries
    in goes_as (signal_stepped (site_of self) (inputs.Datagram c.args.bytes) c.args.connection place) (delivered_to (site_of self) (table_of self) c.args.bytes.now c.args.connection (node_at (site_of self) c.args.node.0))
    self c.step_signal.new.self c.step_signal.ensures (signal_coming (site_of self) (table_of self) c.args.bytes.now c.args.bytes.ref_ptr c.args.connection place _ (seen self) node)

pub returns-in-Some-Point : goal.returns-in-Some-Point
returns-in-Some-Point c =
    let self = c.args.self.now
    in let place = c.in-Some-Point.point.0
    in let node = sym (ap (option_map meant_node) (c.in-Some-Point.is ∙ ap Some c.in-Some-Point.field-0-is)) ∙ c.node.ensures.value ∙ ap (λ p. node_at p c.args.node.0) c.layout.ensures.entries
    in goes_as (point_stepped (site_of self) (inputs.Datagram c.args.bytes) c.args.connection place) (delivered_to (site_of self) (table_of self) c.args.bytes.now c.args.connection (node_at (site_of self) c.args.node.0))
    self c.step_point.new.self c.step_point.ensures (point_coming (site_of self) (table_of self) c.args.bytes.now c.args.bytes.ref_ptr c.args.connection place _ (seen self) node)

pub returns-in-Some-Detector : goal.returns-in-Some-Detector
returns-in-Some-Detector c =
    let self = c.args.self.now
    in let place = c.in-Some-Detector.detector.0
    in let node = sym (ap (option_map meant_node) (c.in-Some-Detector.is ∙ ap Some c.in-Some-Detector.field-0-is)) ∙ c.node.ensures.value ∙ ap (λ p. node_at p c.args.node.0) c.layout.ensures.entries
    in goes_as (detector_stepped (site_of self) (inputs.Datagram c.args.bytes) c.args.connection place) (delivered_to (site_of self) (table_of self) c.args.bytes.now c.args.connection (node_at (site_of self) c.args.node.0))
    self c.step_detector.new.self c.step_detector.ensures (detector_coming (site_of self) (table_of self) c.args.bytes.now c.args.bytes.ref_ptr c.args.connection place _ (seen self) node)
