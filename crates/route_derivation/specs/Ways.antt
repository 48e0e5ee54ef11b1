-- The ways that begin at a signal, and which of them can be routes.
use Rattle.std.specs.Prelude.{◌≡◌, ◌≢◌, ◌<◌, ◌≤◌, ◌⊎◌, List, [], ◌∷◌, ◌++◌, map, length}
use Rattle.std.specs.List.{AllPairs, Contains}
use Rattle.control_table.specs.sci_telegram.declared.message.Side.TheVariants as side
use Rattle.control_table.specs.layout.declared.ids.PointId.{PointId}
use Rattle.control_table.specs.layout.declared.ids.SignalId.{SignalId}
use Rattle.control_table.specs.layout.declared.port.Port.{Port}
use Rattle.control_table.specs.layout.declared.entries.Exit.{Exit}
use Rattle.control_table.specs.layout.declared.entries.Exit.TheVariants as exit
use Rattle.control_table.specs.layout.Entries.{Site}
use Rattle.control_table.specs.layout.Once.{Distinct}
use Rattle.control_table.specs.Topology.{StandsAt}
use Rattle.control_table.specs.Path.{Passage, Leads, ComesOnce, EndsAt}
use Rattle.control_table.specs.Sides.{leg, FlanksGuarded, NoneAtBothSides}

-- The signal at which a way begins, where it ends, and its passages.
pub record Way : Type 0 where
  pub entry : SignalId
  pub exit : Exit
  pub passages : List Passage

-- A way begins at the port at which its signal stands, and each joint leads to the next passage. No element comes
-- twice, and no section comes again after it was left. It ends where it leaves an element at a port at which another
-- signal stands or to which a border is joined. At no port by which it leaves an element stands a signal at which it
-- doesn't end.
pub record IsWay (l : Site) (w : Way) : Type 0 where
  pub some : w.passages ≢ []
  pub begins : (from : Port) × StandsAt l w.entry from × Leads l from w.passages
  pub once : ComesOnce l w.passages
  pub ends : EndsAt l w.exit w.passages
  pub elsewhere : w.exit ≢ exit.Signal w.entry
  pub between : (g : Passage) (s : SignalId) → Contains w.passages g → StandsAt l s g.left → w.exit ≡ exit.Signal s

-- A way is passable where it requires no point at both sides, and each leg that it doesn't use is guarded.
pub record IsPassable (l : Site) (w : Way) : Type 0 where
  pub way : IsWay l w
  pub consistent : NoneAtBothSides l w.passages
  pub guarded : FlanksGuarded l w.passages

-- A route has at most 64 elements.
abbrev pub IsShort : Way → Type 0
IsShort w = length w.passages ≤ 64

-- A passable way of at most 64 elements that begins at one of these signals.
pub record IsRouteWay (l : Site) (entries : List SignalId) (w : Way) : Type 0 where
  pub asked : Contains entries w.entry
  pub passable : IsPassable l w
  pub short : IsShort w

-- Two paths part at a point: the first leads on to the left, the second to the right.
pub record PartsLeft (first second : List Port) : Type 0 where
  pub shared : List Port
  pub point : PointId
  pub left : List Port
  pub right : List Port
  pub to_left : first ≡ shared ++ leg point side.Left ∷ left
  pub to_right : second ≡ shared ++ leg point side.Right ∷ right

-- The ports by which a way leaves its elements.
abbrev pub ports : Way → List Port
ports w = map (λ g. g.left) w.passages

-- A way comes before another: its signal does in the layout, or both begin at one signal and it leads on to the left
-- where they part.
abbrev pub ComesBefore : Way → Way → Type 0
ComesBefore w v = (w.entry.0 < v.entry.0) ⊎ ((w.entry ≡ v.entry) × PartsLeft (ports w) (ports v))

-- All such ways, each once and in order, of which there are at most 64.
pub record AreRouteWays (l : Site) (entries : List SignalId) (ws : List Way) : Type 0 where
  pub sound : (w : Way) → Contains ws w → IsRouteWay l entries w
  pub complete : (w : Way) → IsRouteWay l entries w → Contains ws w
  pub ordered : AllPairs ComesBefore ws
  pub few : length ws ≤ 64

-- More than 64 such ways exist.
pub record TooManyWays (l : Site) (entries : List SignalId) : Type 0 where
  pub ways : List Way
  pub many : 64 < length ways
  pub differ : Distinct ways
  pub each : (w : Way) → Contains ways w → IsRouteWay l entries w
