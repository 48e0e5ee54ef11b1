-- Which tables are sound, and which routes conflict.
use Rattle.std.specs.Prelude.{◌≡◌, ◌≢◌, ◌⊎◌, ◌↔◌, ◌<◌, ℕ, Bool, true, false, if◌then◌else◌, List, [], ◌∷◌}
use Rattle.std.specs.List.{Contains, list_any}
use Rattle.sci_telegram.specs.declared.message.Aspect.{Aspect}
use Rattle.sci_telegram.specs.declared.message.Aspect.TheVariants.{Slow}
use Rattle.sci_telegram.specs.declared.message.Side.{Side}
use Rattle.layout.specs.declared.ids.SectionId.{SectionId}
use Rattle.layout.specs.declared.ids.PointId.{PointId}
use Rattle.layout.specs.declared.ids.RouteId.{RouteId}
use Rattle.layout.specs.Entries.{RouteEntry, Site}
use Rattle.control_table.specs.declared.sides.FlankProtection.{FlankProtection}
use Rattle.control_table.specs.Topology.{IsRoute}
use Rattle.control_table.specs.Path.{Passage, Path, sections}
use Rattle.control_table.specs.Sides.{Guards, PathUses, Requires, FlanksGuarded, NoneAtBothSides, WritesRequired}

-- A route lists another as an extra conflict.
abbrev pub Lists : Site → RouteId → RouteId → Type 0
Lists l a b = (r : RouteEntry) × IsRoute l a r × Contains r.extra b

-- The extra conflicts of a route are listed the other way too, and none is with itself.
abbrev pub ExtrasListed : Site → RouteId → RouteEntry → Type 0
ExtrasListed l a r = (b : RouteId) → Contains r.extra b → (b ≢ a) × Lists l b a

-- A route is sound: it has a path, writes what this path requires, and leaves no flank open.
pub record SoundRoute (l : Site) (a : RouteId) (r : RouteEntry) : Type 0 where
  pub path : List Passage
  pub is_path : Path l r path
  pub writes : WritesRequired l r path
  pub consistent : NoneAtBothSides l path
  pub guarded : FlanksGuarded l path
  pub listed : ExtrasListed l a r

-- A table is sound.
abbrev pub Sound : Site → Type 0
Sound l = (a : RouteId) (r : RouteEntry) → IsRoute l a r → SoundRoute l a r

-- A route leads over a section.
abbrev pub LeadsOver : Site → RouteId → SectionId → Type 0
LeadsOver l a s = (r : RouteEntry) × (path : List Passage) × IsRoute l a r × Path l r path × Contains (sections l path) s

-- A route requires a point at a side.
abbrev pub RouteRequires : Site → RouteId → PointId → Side → Type 0
RouteRequires l a p s = (r : RouteEntry) × (path : List Passage) × IsRoute l a r × Path l r path × Requires l path p s

-- Required points in layout order, each once: each stands before all that follow.
abbrev pub InLayoutOrder : List (PointId × Side) → Type 0
InLayoutOrder [] = Unit {0}
InLayoutOrder (m ∷ ns) = ((n : PointId × Side) → Contains ns n → m.0.0 < n.0.0) × InLayoutOrder ns

-- The sections of a route, in path order.
abbrev pub AreSections : Site → RouteId → List SectionId → Type 0
AreSections l a ss = (r : RouteEntry) × (path : List Passage) × IsRoute l a r × Path l r path × (ss ≡ sections l path)

-- The points that a route requires, in layout order.
pub record AreRequired (l : Site) (a : RouteId) (ns : List (PointId × Side)) : Type 0 where
  pub points : (p : PointId) (s : Side) → Contains ns (p, s) ↔ RouteRequires l a p s
  pub order : InLayoutOrder ns

-- A point protects another on a route: the other lies on the path of the route, and its unused leg is joined to a leg
-- of this point, which guards it by lying at its other side.
abbrev pub Protects : Site → RouteId → PointId → PointId → Type 0
Protects l a q p = (r : RouteEntry) × (path : List Passage) × IsRoute l a r × Path l r path × (s : Side) × (t : Side) × PathUses path p s × Guards l q t p s

-- All points that protect others on a route, with those that they protect.
abbrev pub AreProtections : Site → RouteId → List FlankProtection → Type 0
AreProtections l a ps = (q p : PointId) → Contains ps (record { flank = q; point = p }) ↔ Protects l a q p

-- The aspect at which a route is passed.
abbrev pub HasAspect : Site → RouteId → Aspect → Type 0
HasAspect l a aspect = (r : RouteEntry) × IsRoute l a r × (r.aspect ≡ aspect)

-- Whether a route is passed slowly.
abbrev pub is_slow : Aspect → Bool
is_slow Slow = true
is_slow _ = false

-- The version of the telegrams that a table needs: 2 where a route is slow, and otherwise 1.
abbrev pub telegram_version : Site → ℕ
telegram_version l = if list_any (λ r. is_slow r.aspect) l.routes then 2 else 1

-- Two routes have the same entry signal.
abbrev pub SameEntry : Site → RouteId → RouteId → Type 0
SameEntry l a b = (r : RouteEntry) × (q : RouteEntry) × IsRoute l a r × IsRoute l b q × (r.entry ≡ q.entry)

-- Two routes share a section.
abbrev pub ShareSection : Site → RouteId → RouteId → Type 0
ShareSection l a b = (s : SectionId) × LeadsOver l a s × LeadsOver l b s

-- Two routes require one point at different sides.
abbrev pub RequireDifferently : Site → RouteId → RouteId → Type 0
RequireDifferently l a b = (p : PointId) × (s : Side) × (t : Side) × (s ≢ t) × RouteRequires l a p s × RouteRequires l b p t

-- Two routes conflict.
abbrev pub Conflict : Site → RouteId → RouteId → Type 0
Conflict l a b = (a ≢ b) × (SameEntry l a b ⊎ ShareSection l a b ⊎ RequireDifferently l a b ⊎ Lists l a b ⊎ Lists l b a)
