-- The path of a route: a relation between the route and the ports by which a train passes its elements.
use Rattle.std.specs.Prelude.{◌≡◌, ◌≢◌, ◌⊎◌, Bool, List, [], ◌∷◌, map, ◌==◌}
use Rattle.std.specs.List.{Contains, dedup, filter_map}
use Rattle.layout.specs.declared.ids.SectionId.{SectionId}
use Rattle.layout.specs.declared.ids.PointId.{PointId}
use Rattle.layout.specs.declared.ids.SignalId.{SignalId}
use Rattle.layout.specs.declared.port.Port.{Port}
use Rattle.layout.specs.declared.port.Element.{Element}
use Rattle.layout.specs.declared.port.Element.TheVariants as of
use Rattle.layout_text.specs.declared.entries.End.TheVariants as end
use Rattle.layout.specs.declared.entries.Exit.{Exit}
use Rattle.layout.specs.declared.entries.Exit.TheVariants as exit
use Rattle.layout.specs.Entries.{RouteEntry, Site}
use Rattle.layout.specs.Once.{Distinct}
use Rattle.control_table.specs.Topology.{Joined, StandsAt, section_of}

-- The way over one element: in by one of its ports, out by another.
pub record Passage : Type 0 where
  pub entered : Port
  pub left : Port

-- A train can pass so: the element is left by another port than the one by which it is entered, and through a
-- point one of the two is the tip.
pub record Passes (g : Passage) : Type 0 where
  pub element : g.entered.element ≡ g.left.element
  pub ports : g.entered.end ≢ g.left.end
  pub by_tip : (p : PointId) → g.entered.element ≡ of.Point p → (g.entered.end ≡ end.Tip) ⊎ (g.left.end ≡ end.Tip)

-- From a port on, each joint leads to the port by which the next element is entered.
abbrev pub Leads : Site → Port → List Passage → Type 0
Leads l from [] = Unit {0}
Leads l from (g ∷ path) = Joined l from g.entered × Passes g × Leads l g.left path

-- The passages of a route: its path names the ports by which the elements are left, and it leads on from the
-- port at which the entry signal stands. It isn't empty.
pub record Follows (l : Site) (r : RouteEntry) (path : List Passage) : Type 0 where
  pub ports : r.path ≡ map (λ g. g.left) path
  pub some : path ≢ []
  pub begins : (from : Port) × StandsAt l r.entry from × Leads l from path

-- The elements over which a path leads.
abbrev pub elements : List Passage → List Element
elements path = map (λ g. g.left.element) path

-- Whether two sections are the same.
abbrev pub same_section : SectionId → SectionId → Bool
same_section s t = s.0 == t.0

-- The sections of a path: those of its elements in order, neighbours that are equal counted once.
abbrev pub sections : Site → List Passage → List SectionId
sections l path = dedup same_section (filter_map (section_of l) (elements path))

-- No element comes twice, and no section comes again after it was left.
pub record ComesOnce (l : Site) (path : List Passage) : Type 0 where
  pub elements : Distinct (elements path)
  pub sections : Distinct (sections l path)

-- The exit is at a port: the signal stands there, or the border is joined to it.
abbrev pub ExitAt : Site → Exit → Port → Type 0
ExitAt l (exit.Signal s) p = StandsAt l s p
ExitAt l (exit.Border b) p = (beyond : Port) × Joined l p beyond × (beyond.element ≡ of.Border b)

-- The exit is at the port by which the last element of the path is left.
abbrev pub EndsAt : Site → Exit → List Passage → Type 0
EndsAt l x [] = ⊥
EndsAt l x (g ∷ []) = ExitAt l x g.left
EndsAt l x (g ∷ path) = EndsAt l x path

-- The path ends at the exit, which isn't the entry, and no other signal stands at a port by which the path leaves
-- an element.
pub record SignalsPlaced (l : Site) (r : RouteEntry) (path : List Passage) : Type 0 where
  pub ends : EndsAt l r.exit path
  pub elsewhere : r.exit ≢ exit.Signal r.entry
  pub between : (g : Passage) (s : SignalId) → Contains path g → StandsAt l s g.left → r.exit ≡ exit.Signal s

-- The path of a route.
pub record Path (l : Site) (r : RouteEntry) (path : List Passage) : Type 0 where
  pub follows : Follows l r path
  pub once : ComesOnce l path
  pub signals : SignalsPlaced l r path
