-- What the set routes of a station lock, and which of them block another.
use Rattle.std.specs.Prelude.{◌≡◌, ◌≢◌, ◌⊎◌, ◌↔◌, ◌<◌, ℕ, List, Some, slice_get, slice_index_or, slice_set}
use Rattle.std.specs.FinSet.{empty, remove}
use Rattle.control_table.specs.sci_telegram.declared.message.Side.{Side}
use Rattle.control_table.specs.layout.declared.ids.SectionId.{SectionId}
use Rattle.control_table.specs.layout.declared.ids.PointId.{PointId}
use Rattle.control_table.specs.layout.declared.ids.RouteId.{RouteId}
use Rattle.control_table.specs.layout.Entries.{Site}
use Rattle.control_table.specs.bit_row.Places.{Places, Has}
use Rattle.control_table.specs.Table.{AreSections, LeadsOver, Lists, RouteRequires, SameEntry}
use Rattle.control_table.specs.AwaitedSections.{Awaits}
use Rattle.route_lock.specs.declared.locks.LockFault.{LockFault}
use Rattle.route_lock.specs.declared.locks.LockFault.TheVariants.{Conflict, PointHeld}

-- The table, and for each of its routes, in its order, the sections that it locks: those over which it leads and that
-- weren't freed. A route that isn't set locks none.
pub record LockState : Type 0 where
  pub table : Site
  pub locked : List Places

abbrev pub locked_by : LockState → RouteId → Places
locked_by st a = slice_index_or st.locked a.0 empty

-- A route locks a section.
abbrev pub LocksSection : LockState → RouteId → SectionId → Type 0
LocksSection st a s = Has (locked_by st a) s.0

-- A route is set: it locks a section.
abbrev pub IsSet : LockState → RouteId → Type 0
IsSet st a = (s : ℕ) × Has (locked_by st a) s

-- A route is set, and nothing of it was freed.
abbrev pub IsWhole : LockState → RouteId → Type 0
IsWhole st a = IsSet st a × ((s : SectionId) → LeadsOver st.table a s → LocksSection st a s)

-- A route holds a point at a side: it requires it so, and still locks a section that the point awaits.
abbrev pub Holds : LockState → RouteId → PointId → Side → Type 0
Holds st a p t = RouteRequires st.table a p t × ((s : SectionId) × Awaits st.table a p s × LocksSection st a s)

-- A route stands against another by more than its points: they have the same entry signal, one lists the other as an
-- extra conflict, or the first locks a section of the second.
abbrev pub Clashes : LockState → RouteId → RouteId → Type 0
Clashes st a b =
    SameEntry st.table a b ⊎ Lists st.table a b ⊎ Lists st.table b a ⊎ ((s : SectionId) × LocksSection st a s × LeadsOver st.table b s)

-- A route holds a point at another side than a second one requires.
abbrev pub HoldsAgainst : LockState → RouteId → RouteId → PointId → Type 0
HoldsAgainst st a b p = (t : Side) × (u : Side) × Holds st a p t × RouteRequires st.table b p u × (t ≢ u)

-- A set route blocks another.
abbrev pub Blocks : LockState → RouteId → RouteId → Type 0
Blocks st a b = IsSet st a × (a ≢ b) × (Clashes st a b ⊎ ((p : PointId) × HoldsAgainst st a b p))

-- A route is the first of the table that blocks another.
abbrev pub FirstBlocks : LockState → RouteId → RouteId → Type 0
FirstBlocks st a b = Blocks st a b × ((c : RouteId) → c.0 < a.0 → Blocks st c b → ⊥)

-- Why a route can't be reserved: the first route that blocks it does so by more than its points; or by points alone, of
-- which this is the first in layout order.
abbrev pub IsFault : LockState → RouteId → LockFault → Type 0
IsFault st b (Conflict a) = FirstBlocks st a b × Clashes st a b
IsFault st b (PointHeld a p) = FirstBlocks st a b × (Clashes st a b → ⊥) × HoldsAgainst st a b p × ((q : PointId) → q.0 < p.0 → HoldsAgainst st a b q → ⊥)

-- Two set routes stand apart: they have different entry signals, none lists the other, they lock no section in common,
-- and hold no point at different sides.
pub record Apart (st : LockState) (a b : RouteId) : Type 0 where
  pub entries : SameEntry st.table a b → ⊥
  pub extra : Lists st.table a b → ⊥
  pub sections : (s : SectionId) → LocksSection st a s → LocksSection st b s → ⊥
  pub points : (p : PointId) (t u : Side) → Holds st a p t → Holds st b p u → t ≡ u

abbrev pub AllApart : LockState → Type 0
AllApart st = (a b : RouteId) → a ≢ b → IsSet st a → IsSet st b → Apart st a b

-- A route locks these sections from now on; the others stay as they were.
abbrev pub locking : LockState → RouteId → Places → LockState
locking st a sections = record st { locked = slice_set st.locked a.0 sections }

-- All sections of a route.
abbrev pub AreAllSections : Site → RouteId → Places → Type 0
AreAllSections l a sections = (s : SectionId) → Has sections s.0 ↔ LeadsOver l a s

-- Section k of a route, in path order.
abbrev pub IsSection : Site → RouteId → ℕ → SectionId → Type 0
IsSection l a k s = (ss : List SectionId) × AreSections l a ss × (slice_get ss k ≡ Some s)

-- A route locks the k-th of these sections.
abbrev pub LocksAt : LockState → RouteId → ℕ → List SectionId → Type 0
LocksAt st a k sections = (s : SectionId) × (slice_get sections k ≡ Some s) × LocksSection st a s
