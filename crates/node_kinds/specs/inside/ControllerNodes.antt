-- The nodes of this crate as the engine sees them.
use Rattle.std.specs.Prelude.{List, [], None}
use Rattle.simulator_spec.specs.object_host.declared.input.Input.{Input}
use Rattle.simulator_spec.specs.point_ctl.Drive.{PointState}
use Rattle.simulator_spec.specs.sci_telegram.declared.message.Position.{Position}
use Rattle.simulator_spec.specs.signal_ctl.Signal.{SignalState}
use Rattle.simulator_spec.specs.tds_ctl.declared.section.Section.{Section}
use Rattle.node_drive.specs.Kinds.{NodeState}
use Rattle.node_kinds.specs.Controllers.{Controller, OwnSections}
use Rattle.node_kinds.specs.Openings.{Opening, Opens}
use Rattle.node_kinds.specs.inside.ControllerSteps.{contact_left, sense_left}
use Rattle.node_kinds.specs.Made.{equipment_of}
use Rattle.node_kinds.specs.declared.controller_node.ControllerNode.{ControllerNode}
use Rattle.node_kinds.specs.declared.detector_node.DetectorContacts.{DetectorContacts}
use Rattle.node_kinds.specs.declared.opening_node.OpeningNode.{OpeningNode}
use Rattle.node_kinds.specs.declared.point_node.PointContacts.{PointContacts}
use Rattle.node_kinds.specs.declared.signal_node.NoContacts.{NoContacts}

-- a controller, of whose contacts this is kept
abbrev pub controller_now : {Contacts Object Kept : Type 0} → (Contacts → Kept) → ControllerNode Contacts Object → NodeState (Controller Object Kept) Input
controller_now kept n = record {
  state = record { site = n.layout.now; host = n.stepped.host; contacts = kept n.contacts };
  reached = n.stepped.reached;
  handed = n.stepped.handed;
  keeps = None;
  said = [];
  left = sense_left n.left;
}

-- a signal has no contacts
abbrev pub signal_now : ControllerNode NoContacts SignalState → NodeState (Controller SignalState (Unit {0})) Input
signal_now = controller_now (λ contacts. tt)

abbrev pub point_now : ControllerNode PointContacts PointState → NodeState (Controller PointState Position) Input
point_now = controller_now (λ contacts. contacts.last)

abbrev pub sections_now : DetectorContacts → OwnSections
sections_now contacts = record { own = contacts.own.now; last = contacts.last.items }

abbrev pub detector_now : ControllerNode DetectorContacts (List Section) → NodeState (Controller (List Section) OwnSections) Input
detector_now = controller_now sections_now

-- it hands out nothing
abbrev pub opening_now : OpeningNode → NodeState Opening Opens
opening_now n = record {
  state = record { site = n.layout.now; equipment = equipment_of n.equipment; position = n.position; sections = n.sections.items };
  reached = n.reached;
  handed = [];
  keeps = None;
  said = [];
  left = contact_left n.left;
}
