-- The sections on which a train comes to a signal.
use Rattle.std.specs.Prelude.{◌≡◌, ◌↔◌, ◌<◌, List, [], ◌∷◌, Some}
use Rattle.std.specs.List.{AllPairs, Contains}
use Rattle.control_table.specs.layout.declared.ids.SectionId.{SectionId}
use Rattle.control_table.specs.layout.declared.ids.SignalId.{SignalId}
use Rattle.control_table.specs.layout.declared.port.Port.{Port}
use Rattle.control_table.specs.layout.declared.port.Element.{Element}
use Rattle.control_table.specs.layout.declared.port.Element.TheVariants as element
use Rattle.control_table.specs.layout.Entries.{Site}
use Rattle.control_table.specs.Topology.{Joined, StandsAt, section_of}
use Rattle.control_table.specs.Path.{Passage, Passes}
use Rattle.route_derivation.specs.declared.rule.ApproachRule.{ApproachRule}
use Rattle.route_derivation.specs.declared.rule.ApproachRule.TheVariants as rule

abbrev pub IsTrack : Element → Type 0
IsTrack (element.Track t) = Unit {0}
IsTrack (element.Point p) = ⊥
IsTrack (element.Border b) = ⊥

-- How a rule goes back from one element to another: that of berths from track to track alone.
abbrev pub GoesBack : ApproachRule → Element → Element → Type 0
GoesBack rule.Signal from to = Unit {0}
GoesBack rule.Berth from to = IsTrack from × IsTrack to

-- A train that leaves an element at the first port comes by a joint to the next element, passes it, and leaves it at
-- the second. No signal stands at the first port.
pub record ComesTo (l : Site) (rule : ApproachRule) (first second : Port) : Type 0 where
  pub over : Passage
  pub passes : Passes over
  pub leaves : over.left ≡ second
  pub joined : Joined l first over.entered
  pub clear : (t : SignalId) → StandsAt l t first → ⊥
  pub within : GoesBack rule second.element first.element

-- The ports at which a train leaves elements one after the other, the last of them where the signal stands.
abbrev pub Approaches : Site → ApproachRule → SignalId → List Port → Type 0
Approaches l rule s [] = ⊥
Approaches l rule s (p ∷ []) = StandsAt l s p
Approaches l rule s (p ∷ q ∷ ports) = ComesTo l rule p q × Approaches l rule s (q ∷ ports)

-- A train comes to the signal that leaves an element at a port.
abbrev pub Comes : Site → ApproachRule → SignalId → Port → Type 0
Comes l rule s p = (ports : List Port) × Approaches l rule s (p ∷ ports)

-- The approach of a signal: the sections of all elements that a train leaves so, in layout order.
pub record IsApproach (l : Site) (rule : ApproachRule) (s : SignalId) (sections : List SectionId) : Type 0 where
  pub each : (c : SectionId) → Contains sections c ↔ ((p : Port) × Comes l rule s p × (section_of l p.element ≡ Some c))
  pub ordered : AllPairs (λ a b. a.0 < b.0) sections
