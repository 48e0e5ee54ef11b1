-- How the approach of a signal is searched, step by step.
use Rattle.std.specs.Prelude.{◌↔◌, ℕ, suc, zero, ◌==◌, ◌&&◌, Bool, true, false, not, is_some, List, [], ◌∷◌, ◌++◌, Option, Some, None, if◌then◌else◌}
use Rattle.std.specs.List.{Contains, list_any}
use Rattle.control_table.specs.layout.declared.ids.SectionId.{SectionId}
use Rattle.control_table.specs.layout.declared.ids.SignalId.{SignalId}
use Rattle.control_table.specs.layout.declared.port.Port.{Port}
use Rattle.control_table.specs.layout.declared.port.Element.{Element}
use Rattle.control_table.specs.layout.declared.port.Element.TheVariants as element
use Rattle.control_table.specs.layout.Entries.{Site}
use Rattle.control_table.specs.Topology.{section_of}
use Rattle.control_table.specs.Path.{Passage}
use Rattle.route_derivation.specs.declared.rule.ApproachRule.{ApproachRule}
use Rattle.route_derivation.specs.declared.rule.ApproachRule.TheVariants as rule
use Rattle.route_derivation.specs.Approach.{Comes}
use Rattle.route_derivation.specs.inside.WaySearch.{is_port, joined_to, some_and, signal_from, first_out, second_out}

abbrev pub is_track : Element → Bool
is_track (element.Track t) = true
is_track (element.Point p) = false
is_track (element.Border b) = false

abbrev pub goes_back : ApproachRule → Element → Element → Bool
goes_back rule.Signal from to = true
goes_back rule.Berth from to = is_track from && is_track to

abbrev pub holds_port : List Port → Port → Bool
holds_port ps p = list_any (λ q. is_port q p) ps

-- a train may come to a port's element from a port
unfoldable pub may_come : Site → ApproachRule → Port → Port → Bool
may_come l rule to p = goes_back rule to.element p.element && not (is_some (signal_from 0 l.signals p))

abbrev pub port_from : Site → ApproachRule → Port → Option Port → Option Port
port_from l rule to None = None
port_from l rule to (Some p) = if may_come l rule to p then Some p else None

-- the port from which a train comes to a passage, which is given in the other direction
abbrev pub port_back : Site → ApproachRule → Option Passage → Option Port
port_back l rule None = None
port_back l rule (Some back) = port_from l rule back.entered (joined_to l.joints back.left)

abbrev pub with_port : List Port → Option Port → List Port
with_port ps None = ps
with_port ps (Some p) = if holds_port ps p then ps else ps ++ p ∷ []

-- the ports, with those from which a train comes to one of them
unfoldable pub with_ports : Site → ApproachRule → List Port → Port → List Port
with_ports l rule ps q = with_port (with_port ps (port_back l rule (first_out q))) (port_back l rule (second_out q))

-- the ports by which a train comes to a signal
pub record AreReached (l : Site) (rule : ApproachRule) (s : SignalId) (ps : List Port) : Type 0 where
  pub each : (p : Port) → Contains ps p ↔ Comes l rule s p

abbrev pub lies_in : Option SectionId → SectionId → Bool
lies_in o c = some_and (λ t. t.0 == c.0) o

abbrev pub leads_over : Site → List Port → SectionId → Bool
leads_over l ps c = list_any (λ p. lies_in (section_of l p.element) c) ps

-- the sections below the n-th in which elements lie that are left at some ports
unfoldable pub sections_below : Site → List Port → ℕ → List SectionId
sections_below l ps zero = []
sections_below l ps (suc n) = if leads_over l ps (record { 0 = n }) then sections_below l ps n ++ record { 0 = n } ∷ [] else sections_below l ps n
