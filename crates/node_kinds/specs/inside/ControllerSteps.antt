-- What contracts inside the crate say of a controller's host and of lines. No promise names any of it.
use Rattle.std.specs.Prelude.{ℕ, List, [], ◌∷◌, Option, Some, None, slice_set}
use Rattle.simulator_spec.specs.object_host.Behaviour.{Behaviour}
use Rattle.simulator_spec.specs.object_host.Host.{HostState}
use Rattle.simulator_spec.specs.object_host.Step.{host_step}
use Rattle.simulator_spec.specs.object_host.declared.input.Input.{Input}
use Rattle.simulator_spec.specs.object_host.declared.input.Input.TheVariants as inputs
use Rattle.simulator_spec.specs.object_host.declared.sense.Sense.{Sense}
use Rattle.simulator_spec.specs.rasta_core.Outbox.{spellings}
use Rattle.simulator_spec.specs.sci_telegram.declared.message.Occupancy.{Occupancy}
use Rattle.simulator_spec.specs.sci_telegram.declared.message.Position.{Position}
use Rattle.node_drive.specs.Kinds.{Meaning, InForce, Comes, Faulty}
use Rattle.node_drive.specs.Waiting.{Addressed}
use Rattle.node_drive.specs.declared.node.LineMeaning.{LineMeaning}
use Rattle.node_drive.specs.declared.node.LineMeaning.TheVariants as line_meaning
use Rattle.node_kinds.specs.Controllers.{to_interlocking}
use Rattle.node_kinds.specs.Openings.{Opens, Lies, Stands}
use Rattle.node_kinds.specs.declared.opening_node.Contact.{Contact}
use Rattle.node_kinds.specs.declared.opening_node.Contact.TheVariants as contact

-- ---- steps

-- a host, the reading of its last step, and of the datagrams of that those that weren't taken yet
pub record SteppedState (Object : Type 0) : Type 0 where
  pub host : HostState Object
  pub reached : ℕ
  pub handed : List Addressed

abbrev pub stepped_at : {Object : Type 0} → Behaviour Object → ℕ → Input → SteppedState Object → SteppedState Object
stepped_at does now input old = record {
  host = (host_step does now input old.host).host;
  reached = now;
  handed = to_interlocking (spellings old.host.link.identity.key (host_step does now input old.host).pdus);
}

-- ---- lines

-- what a line tells that is answered with no line, and leaves these inputs
abbrev pub unanswered : {Input : Type 0} → LineMeaning → List Input → Meaning Input
unanswered (line_meaning.InForce number) left = InForce number
unanswered line_meaning.Comes left = Comes [] left
unanswered (line_meaning.Faulty fault) left = Faulty fault

-- the inputs that are left of what contacts told: of a controller, and before it is made
abbrev pub sense_left : Option Sense → List Input
sense_left None = []
sense_left (Some told) = inputs.Sense told ∷ []

abbrev pub opens : Contact → Opens
opens (contact.Lies position) = Lies position
opens (contact.Stands place occupancy) = Stands place occupancy

abbrev pub contact_left : Option Contact → List Opens
contact_left None = []
contact_left (Some told) = opens told ∷ []

-- what is kept then: where the point lies, and how each section is
abbrev pub noted : Contact → Option Position × List (Option Occupancy) → Option Position × List (Option Occupancy)
noted (contact.Lies position) kept = (Some position, kept.1)
noted (contact.Stands place occupancy) kept = (kept.0, slice_set kept.1 place (Some occupancy))
