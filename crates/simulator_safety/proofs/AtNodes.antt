-- What happens at a node that is a controller, by its kind.
use Rattle.std.proofs.Common.{◌≡◌, ◌≢◌, ℕ, zero, suc, nat_lt, Bool, true, false, List, Option, Some, None, length, refl, sym, subst, if◌then◌else◌}
use Rattle.std.specs.Prelude.{◌-◌}
use Rattle.simulator_link_laws.specs.sci_telegram.declared.message.Occupancy.{Occupancy}
use Rattle.simulator_link_laws.specs.sci_telegram.declared.message.Position.{Position}
use Rattle.simulator_link_laws.specs.layout.declared.ids.PointId.{PointId}
use Rattle.simulator_link_laws.specs.layout.declared.ids.SectionId.{SectionId}
use Rattle.simulator_link_laws.specs.layout.Entries.{Site}
use Rattle.simulator_link_laws.specs.layout.Once.{Once}
use Rattle.simulator_link_laws.specs.layout.Station.{IsStation}
use Rattle.simulator_link_laws.specs.ixl_spec.Table.{Table}
use Rattle.simulator_link_laws.specs.simulator_event.declared.event.Event.{Event}
use Rattle.simulator_link_laws.specs.simulator_event.declared.event.Event.TheVariants as event
use Rattle.simulator_link_laws.specs.simulator_event.layout.declared.ids.NodeId.{NodeId}
use Rattle.simulator_machine.specs.Chains.{MovesTo}
use Rattle.simulator_machine.specs.Machine.{Machine}
use Rattle.simulator_machine.specs.Table.{Table as MachineTable}
use Rattle.simulator_link_laws.specs.simulator_spec.Happens.{delivered_to, happens, made_anew, ticked_at}
use Rattle.simulator_link_laws.specs.simulator_spec.Network.{connection_of, copy_of}
use Rattle.simulator_link_laws.specs.simulator_spec.Nodes.{Node, Interlocking, Signal, Point, Detector, detector_link, links, node_at, point_link}
use Rattle.simulator_link_laws.specs.simulator_spec.Refusals.{refusal}
use Rattle.simulator_link_laws.specs.simulator_spec.State.{WorldState}
use Rattle.simulator_safety.specs.Represents.{Represents, RepresentsAfter}
use Rattle.simulator_safety.specs.Events.{IsOfControllers}

-- an event leads the machine to one that sees the world then
abbrev pub LeadsOn : Event → Type 0
LeadsOn happening = (site : Site) (table : Table) (world : WorldState) (machine : Machine) → IsStation site → Once site
    → refusal site happening world ≡ None → Represents site table world machine → RepresentsAfter site table machine (happens site table happening world)

-- so does one at a controller of this kind
abbrev pub LeadsAt : (NodeId → Event) → (ℕ → Node) → Type 0
LeadsAt happening kind = (site : Site) (table : Table) (node : NodeId) (place : ℕ) (world : WorldState) (machine : Machine) → IsStation site → Once site
    → node_at site node.0 ≡ Some (kind place) → refusal site (happening node) world ≡ None → Represents site table world machine
    → RepresentsAfter site table machine (happens site table (happening node) world)

-- and where there is no node nothing happens
abbrev HappensNowhere : (NodeId → Event) → Type 0
HappensNowhere happening = (site : Site) (table : Table) (node : NodeId) (world : WorldState) → node_at site node.0 ≡ None → happens site table (happening node) world ≡ world

no_tick : HappensNowhere event.Tick
unfolding happens
no_tick site table node world none = subst (λ o. ticked_at site table o world ≡ world) (sym none) refl

no_delivery : (bytes : List ℕ) → HappensNowhere (λ node. event.Deliver node bytes)
unfolding happens
no_delivery bytes site table node world none = subst (λ o. delivered_to site table bytes (connection_of (copy_of bytes world)) o world ≡ world) (sym none) refl

no_restart : (clock first : ℕ) → HappensNowhere (λ node. event.Restart node clock first)
unfolding happens
no_restart clock first site table node world none = subst (λ o. made_anew site table (record { clock = clock; first = first }) o world ≡ world) (sym none) refl

no_station : (a b c : Bool) (x y z : ℕ) → (if a then Some (Signal x) else if b then Some (Point y) else if c then Some (Detector z) else None) ≡ Some Interlocking → ⊥
no_station true b c x y z e = cc (e)
no_station false true c x y z e = cc (e)
no_station false false true x y z e = cc (e)
no_station false false false x y z e = cc (e)

-- the station is the node 0 alone
is_controller : (site : Site) (number : ℕ) → number ≢ 0 → node_at site number ≡ Some Interlocking → ⊥
is_controller site zero differs is = differs refl
is_controller site (suc link) differs is =
    no_station (nat_lt link (length site.signals)) (nat_lt link (point_link site (length site.points))) (nat_lt link (links site)) link (link - length site.signals) (link - detector_link site 0) is

-- what happens at the controllers of each kind
pub record KindsLead (happening : NodeId → Event) : Type 0 where
  pub signal : LeadsAt happening Signal
  pub point : LeadsAt happening Point
  pub detector : LeadsAt happening Detector

module _ (no_moves : (table : MachineTable) (machine : Machine) → MovesTo table machine machine) where
  at_controller : (happening : NodeId → Event) → HappensNowhere happening → KindsLead happening → (node : NodeId) → node.0 ≢ 0 → LeadsOn (happening node)
  at_controller happening nowhere kinds node differs site table world machine station once none represented = cases (node_at site node.0) refl where
    cases : (found : Option Node) → node_at site node.0 ≡ found → RepresentsAfter site table machine (happens site table (happening node) world)
    cases None is = subst (RepresentsAfter site table machine) (sym (nowhere site table node world is)) (record { machine = machine; moves = no_moves _ machine; represented = represented })
    cases (Some Interlocking) is = absurd (is_controller site node.0 differs is)
    cases (Some (Signal place)) is = kinds.signal site table node place world machine station once is none represented
    cases (Some (Point place)) is = kinds.point site table node place world machine station once is none represented
    cases (Some (Detector place)) is = kinds.detector site table node place world machine station once is none represented

  pub tick_leads : KindsLead event.Tick → (node : NodeId) → node.0 ≢ 0 → LeadsOn (event.Tick node)
  tick_leads = at_controller event.Tick no_tick

  pub delivery_leads : (bytes : List ℕ) → KindsLead (λ node. event.Deliver node bytes) → (node : NodeId) → node.0 ≢ 0 → LeadsOn (event.Deliver node bytes)
  delivery_leads bytes = at_controller (λ node. event.Deliver node bytes) (no_delivery bytes)

  pub restart_leads : (clock first : ℕ) → KindsLead (λ node. event.Restart node clock first) → (node : NodeId) → node.0 ≢ 0 → LeadsOn (event.Restart node clock first)
  restart_leads clock first = at_controller (λ node. event.Restart node clock first) (no_restart clock first)

-- ---- all events

pub record EventLaws : Type 0 where
  pub none : (table : MachineTable) (machine : Machine) → MovesTo table machine machine
  pub tick : KindsLead event.Tick
  pub delivery : (bytes : List ℕ) → KindsLead (λ node. event.Deliver node bytes)
  pub restart : (clock first : ℕ) → KindsLead (λ node. event.Restart node clock first)
  pub contact : (section : SectionId) (occupancy : Occupancy) → LeadsOn (event.Occupy section occupancy)
  pub reach : (point : PointId) (position : Position) → LeadsOn (event.Reach point position)
  pub loss : (bytes : List ℕ) → LeadsOn (event.Lose bytes)

pub event_leads : EventLaws → (happening : Event) → IsOfControllers happening → LeadsOn happening
event_leads laws (event.Request command) is = absurd is
event_leads laws (event.Occupy section occupancy) is = laws.contact section occupancy
event_leads laws (event.Tick node) is = tick_leads laws.none laws.tick node is
event_leads laws (event.Time elapsed clocks) is = absurd is
event_leads laws (event.Deliver node bytes) is = delivery_leads laws.none bytes (laws.delivery bytes) node is
event_leads laws (event.Lose bytes) is = laws.loss bytes
event_leads laws (event.Reach point position) is = laws.reach point position
event_leads laws (event.Restart node clock first) is = restart_leads laws.none clock first (laws.restart clock first) node is
