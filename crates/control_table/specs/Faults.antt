-- Which fault is told: the lowest of the first faulty route.
use Rattle.std.specs.Prelude.{◌≡◌, ◌<◌, List}
use Rattle.layout.specs.declared.ids.RouteId.{RouteId}
use Rattle.layout.specs.Entries.{RouteEntry, Site}
use Rattle.control_table.specs.declared.fault.FaultyRoute.{FaultyRoute}
use Rattle.control_table.specs.declared.fault.TableFault.{TableFault}
use Rattle.control_table.specs.declared.fault.TableFault.TheVariants.{PathBroken, PathRepeats, PointMissing, PointWrong, FlankMissing, FlankOpen, FlankContradicts, SignalPlace, NotSymmetric, OutOfMemory}
use Rattle.control_table.specs.Topology.{IsRoute}
use Rattle.control_table.specs.Path.{Passage, Follows, ComesOnce, SignalsPlaced}
use Rattle.control_table.specs.Sides.{PointsNamed, WritesOnlyRequired, FlankNamed, FlanksGuarded, NoneAtBothSides}
use Rattle.control_table.specs.Table.{ExtrasListed, SoundRoute}

module _ (l : Site) (r : RouteEntry) (path : List Passage) where
  -- The tests that a path passes before each fault, in their order.
  abbrev pub BeforePointMissing : Type 0
  BeforePointMissing = Follows l r path × ComesOnce l path

  abbrev pub BeforePointWrong : Type 0
  BeforePointWrong = BeforePointMissing × PointsNamed r path

  abbrev pub BeforeFlankMissing : Type 0
  BeforeFlankMissing = BeforePointWrong × WritesOnlyRequired l r path

  abbrev pub BeforeFlankOpen : Type 0
  BeforeFlankOpen = BeforeFlankMissing × FlankNamed l r path

  abbrev pub BeforeFlankContradicts : Type 0
  BeforeFlankContradicts = BeforeFlankOpen × FlanksGuarded l path

  abbrev pub BeforeSignalPlace : Type 0
  BeforeSignalPlace = BeforeFlankContradicts × NoneAtBothSides l path

  abbrev pub BeforeNotSymmetric : Type 0
  BeforeNotSymmetric = BeforeSignalPlace × SignalsPlaced l r path

-- The fault of a route, which names it: its own test fails, and those before it pass.
abbrev pub IsFaultOf : Site → FaultyRoute → RouteEntry → TableFault → Type 0
IsFaultOf l at r (PathBroken told) = (told ≡ at) × ((path : List Passage) → Follows l r path → ⊥)
IsFaultOf l at r (PathRepeats told) = (told ≡ at) × (path : List Passage) × Follows l r path × (ComesOnce l path → ⊥)
IsFaultOf l at r (PointMissing told) = (told ≡ at) × (path : List Passage) × BeforePointMissing l r path × (PointsNamed r path → ⊥)
IsFaultOf l at r (PointWrong told) = (told ≡ at) × (path : List Passage) × BeforePointWrong l r path × (WritesOnlyRequired l r path → ⊥)
IsFaultOf l at r (FlankMissing told) = (told ≡ at) × (path : List Passage) × BeforeFlankMissing l r path × (FlankNamed l r path → ⊥)
IsFaultOf l at r (FlankOpen told) = (told ≡ at) × (path : List Passage) × BeforeFlankOpen l r path × (FlanksGuarded l path → ⊥)
IsFaultOf l at r (FlankContradicts told) = (told ≡ at) × (path : List Passage) × BeforeFlankContradicts l r path × (NoneAtBothSides l path → ⊥)
IsFaultOf l at r (SignalPlace told) = (told ≡ at) × (path : List Passage) × BeforeSignalPlace l r path × (SignalsPlaced l r path → ⊥)
IsFaultOf l at r (NotSymmetric told) = (told ≡ at) × (path : List Passage) × BeforeNotSymmetric l r path × (ExtrasListed l at.id r → ⊥)
IsFaultOf l at r OutOfMemory = ⊥

-- A fault is told at a route: it is the fault of this route of the table, and each route before is sound.
pub record ToldAt (l : Site) (at : FaultyRoute) (f : TableFault) : Type 0 where
  pub route : RouteEntry
  pub in_table : IsRoute l at.id route
  pub named : at.name ≡ route.name
  pub fault : IsFaultOf l at route f
  pub first : (b : RouteId) (q : RouteEntry) → b.0 < at.id.0 → IsRoute l b q → SoundRoute l b q

-- A fault is the lowest of the first faulty route. Nothing is said of want of memory.
abbrev pub IsFirstFault : Site → TableFault → Type 0
IsFirstFault l OutOfMemory = Unit {0}
IsFirstFault l f = (at : FaultyRoute) × ToldAt l at f
