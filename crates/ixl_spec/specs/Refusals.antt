-- Why a command is refused, in the words of the field. Of several causes the first in their order is told.
use Rattle.std.specs.Prelude.{◌≡◌, ◌⊎◌, ℕ, ◌<◌, true, false, List, ◌∷◌, ◌++◌, IsTrue}
use Rattle.std.specs.List.{All, Contains}
use Rattle.ixl_spec.specs.Table.{Need, Row, Table}
use Rattle.ixl_spec.specs.State.{IxlState, RouteState}
use Rattle.ixl_spec.specs.View.{is_holding, is_set}
use Rattle.ixl_spec.specs.Due.{AllClear, Blocks, CountsAsClosed, IsAvailable, IsClear, IsHeldAt, IsOccupied, IsRouteOf, IsSignalReady, KnownStop}
use Rattle.ixl_spec.specs.Operations.{things_used}
use Rattle.ixl_spec.specs.declared.command.Refusal.{Refusal}
use Rattle.ixl_spec.specs.declared.command.Refusal.TheVariants as refusals

-- something holds of one of a list, and of none before it
abbrev pub IsFirstOf : {A : Type 0} → (A → Type 0) → List A → A → Type 0
IsFirstOf {A} holds list one =
    (before : List A) × (after : List A) × (list ≡ before ++ one ∷ after) × All (λ other. holds other → ⊥) before × holds one

-- no set route blocks a route
abbrev pub IsUnblocked : Table → IxlState → ℕ → Row → Type 0
IsUnblocked table ixl number row = (other : ℕ) → Blocks table ixl other number row → ⊥

-- the first route of the table that blocks it
abbrev pub IsFirstBlocking : Table → IxlState → ℕ → Row → ℕ → Type 0
IsFirstBlocking table ixl number row blocking =
    Blocks table ixl blocking number row × ((other : ℕ) → other < blocking → Blocks table ixl other number row → ⊥)

-- no section is reported occupied by a link that is ready
abbrev pub NoneOccupied : Table → IxlState → List ℕ → Type 0
NoneOccupied table ixl sections = All (λ section. IsOccupied table ixl section → ⊥) sections

-- nothing is known of a section: its link isn't ready
abbrev pub IsUnknown : Table → IxlState → ℕ → Type 0
IsUnknown table ixl section = (IsClear table ixl section → ⊥) × (IsOccupied table ixl section → ⊥)

-- a point is there for a route: it is available, or held at the side that the route requires
abbrev pub IsThere : Table → IxlState → Need → Type 0
IsThere table ixl need = IsAvailable ixl need.point ⊎ IsHeldAt table ixl need.point need.side

abbrev pub AreThere : Table → IxlState → List Need → Type 0
AreThere table ixl needs = All (IsThere table ixl) needs

-- a signal can be cleared: its link is ready, and it is at known stop
abbrev pub IsSignalThere : ℕ → IxlState → ℕ → Type 0
IsSignalThere now ixl signal = IsSignalReady ixl signal × KnownStop now ixl signal

-- The cause for which a route can't be set that isn't set. Each cause is told where none before it is given.
abbrev pub IsCause : ℕ → Table → IxlState → ℕ → Row → Refusal → Type 0
IsCause now table ixl number row (refusals.Conflict route) = IsFirstBlocking table ixl number row route.0
IsCause now table ixl number row (refusals.NotClear section) =
    IsUnblocked table ixl number row × IsFirstOf (IsOccupied table ixl) row.sections section.0
IsCause now table ixl number row (refusals.PointUnavailable point) =
    IsUnblocked table ixl number row × NoneOccupied table ixl row.sections
    × ((need : Need) × (need.point ≡ point.0) × IsFirstOf (λ need. IsThere table ixl need → ⊥) row.needs need)
IsCause now table ixl number row refusals.SignalUnavailable =
    IsUnblocked table ixl number row × NoneOccupied table ixl row.sections × AreThere table ixl row.needs × (IsSignalThere now ixl row.entry → ⊥)
IsCause now table ixl number row refusals.DetectionDown =
    IsUnblocked table ixl number row × NoneOccupied table ixl row.sections × AreThere table ixl row.needs × IsSignalThere now ixl row.entry
    × ((section : ℕ) × Contains row.sections section × IsUnknown table ixl section)
IsCause now table ixl number row (refusals.Closed thing) =
    IsUnblocked table ixl number row × AllClear table ixl row.sections × AreThere table ixl row.needs × IsSignalThere now ixl row.entry
    × IsFirstOf (CountsAsClosed table ixl) (things_used number row) thing
IsCause now table ixl number row _ = ⊥

-- The interlocking obeys: its hold is over, and it was told to resume.
abbrev pub Obeys : ℕ → IxlState → Type 0
Obeys now ixl = (is_holding now ixl ≡ false) × (ixl.resumed ≡ true)

-- the table has the route, and the interlocking keeps it
abbrev pub IsKnownRoute : Table → IxlState → ℕ → Type 0
IsKnownRoute table ixl number = (row : Row) × (route : RouteState) × IsRouteOf table ixl number row route

-- Why a request is refused. Each cause is told where none before it is given.
abbrev pub IsRequestRefused : ℕ → Table → IxlState → ℕ → Refusal → Type 0
IsRequestRefused now table ixl number refusals.UnknownRoute = IsKnownRoute table ixl number → ⊥
IsRequestRefused now table ixl number refusals.Holding = IsKnownRoute table ixl number × (is_holding now ixl ≡ true)
IsRequestRefused now table ixl number refusals.NotResumed = IsKnownRoute table ixl number × (is_holding now ixl ≡ false) × (ixl.resumed ≡ false)
IsRequestRefused now table ixl number refusals.AlreadySet =
    Obeys now ixl × ((row : Row) × (route : RouteState) × IsRouteOf table ixl number row route × IsTrue (is_set route.phase))
IsRequestRefused now table ixl number cause =
    Obeys now ixl
    × ((row : Row) × (route : RouteState) × IsRouteOf table ixl number row route × (is_set route.phase ≡ false) × IsCause now table ixl number row cause)
