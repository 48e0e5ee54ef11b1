-- Nodes by their lives.
use Rattle.std.proofs.Common.{◌≡◌, ℕ, List, [], ◌∷◌, Option, refl}
use Rattle.node_kinds.specs.node_drive.node_lines.declared.order.Order.{Order}
use Rattle.node_kinds.specs.node_drive.Kinds.{Meaning}
use Rattle.node_kinds.specs.node_drive.Lives.{state_after}
use Rattle.node_kinds.specs.Controllers.{Controller, controller}
use Rattle.node_kinds.specs.Interlockings.{InterlockingNode, interlocking_kind}
use Rattle.simulator_node_laws.specs.Lives.{host_after, ixl_after}
use Rattle.node_kinds.specs.simulator_spec.ixl_spec.Step as ixl
use Rattle.node_kinds.specs.simulator_spec.layout.Entries.{Site}
use Rattle.node_kinds.specs.simulator_spec.object_host.Behaviour.{Behaviour}
use Rattle.node_kinds.specs.simulator_spec.object_host.declared.input.Input.{Input}

pub controller_lives : {Object Contacts : Type 0} (does : Behaviour Object) (order : Object → Option Order) (meaning : Site → List ℕ → Contacts → Meaning Input) (contact : Input → Contacts → Contacts)
    (inputs : List (ℕ × Input)) (c : Controller Object Contacts) → (state_after (controller does order meaning contact) inputs c).host ≡ host_after does inputs c.host
unfolding host_after
controller_lives does order meaning contact [] c = refl
controller_lives does order meaning contact (one ∷ others) c = controller_lives does order meaning contact others ((controller does order meaning contact).after one.0 one.1 c)

pub interlocking_lives : (inputs : List (ℕ × ixl.Input)) (node : InterlockingNode) → (state_after interlocking_kind inputs node).ixl ≡ ixl_after node.site node.table inputs node.ixl
unfolding ixl_after
interlocking_lives [] node = refl
interlocking_lives (one ∷ others) node = interlocking_lives others (interlocking_kind.after one.0 one.1 node)
