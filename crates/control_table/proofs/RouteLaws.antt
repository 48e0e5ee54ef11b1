-- Two routes of a table: conflicts go both ways, and no route requires a point at both sides.
use Rattle.std.proofs.Common.{◌≡◌, ◌≢◌, ◌⊎◌, List, inl, inr, sym, subst, ◌∙◌}
use Rattle.std.specs.Prelude.{◌↔◌}
use Rattle.std.specs.List.{Contains}
use Rattle.sci_telegram.specs.declared.message.Side.TheVariants as side
use Rattle.layout.specs.declared.ids.PointId.{PointId}
use Rattle.layout.specs.declared.ids.SectionId.{SectionId}
use Rattle.layout.specs.declared.ids.RouteId.{RouteId}
use Rattle.layout.specs.Entries.{RouteEntry, Site}
use Rattle.layout.specs.Once.{Once}
use Rattle.control_table.specs.declared.fault.FaultyRoute.{FaultyRoute}
use Rattle.control_table.specs.Path.{Passage, Path, Follows, sections}
use Rattle.control_table.specs.Sides.{Requires}
use Rattle.control_table.specs.Table.{AreSections, Conflict, LeadsOver, Lists, RequireDifferently, RouteRequires, SameEntry, ShareSection, Sound}
use Rattle.control_table.proofs.Members.{some-injective}
use Rattle.control_table.proofs.Joints.{one-beyond}
use Rattle.control_table.proofs.PathLaws.{one-path}

abbrev Reasons : Site → RouteId → RouteId → Type 0
Reasons l a b = SameEntry l a b ⊎ ShareSection l a b ⊎ RequireDifferently l a b ⊎ Lists l a b ⊎ Lists l b a

turned : (l : Site) (a b : RouteId) → Reasons l a b → Reasons l b a
turned l a b (inl s) = inl (s.1, s.0, s.3, s.2, sym s.4)
turned l a b (inr (inl s)) = inr (inl (s.0, s.2, s.1))
turned l a b (inr (inr (inl d))) = inr (inr (inl (d.0, d.2, d.1, (λ same. d.3 (sym same)), d.5, d.4)))
turned l a b (inr (inr (inr (inl e)))) = inr (inr (inr (inr e)))
turned l a b (inr (inr (inr (inr e)))) = inr (inr (inr (inl e)))

pub conflict-turned : (l : Site) (a b : RouteId) → Conflict l a b → Conflict l b a
conflict-turned l a b h = ((λ same. h.0 (sym same)), turned l a b h.1)

pub entry-conflicts : (l : Site) (a b : RouteId) → a ≢ b → SameEntry l a b → Conflict l a b
entry-conflicts l a b other same = (other, inl same)

-- what one path of a route requires, the other does, since they are one
pub one-side : (l : Site) (a : RouteId) (p : PointId) → Once l → Sound l → RouteRequires l a p side.Left → RouteRequires l a p side.Right → ⊥
one-side l a p once sound left right =
    let one = one-beyond l once in
    let same : left.0 ≡ right.0 = some-injective left.0 right.0 (sym left.2 ∙ right.2) in
    let route = sound a left.0 left.2 in
    let place : FaultyRoute = record { id = a; name = left.0.name } in
    let of_left = one-path l one left.0 place left.1 route.path left.3.follows route.is_path.follows in
    let of_right = one-path l one left.0 place right.1 route.path (subst (λ (r : RouteEntry). Follows l r right.1) (sym same) right.3.follows) route.is_path.follows in
    route.consistent p
    (subst (λ (path : List Passage). Requires l path p side.Left) of_left left.4)
    (subst (λ (path : List Passage). Requires l path p side.Right) of_right right.4)

-- what one path of a route leads over, the other does
pub over-its-sections : (l : Site) → Once l → (a : RouteId) (ss : List SectionId) → AreSections l a ss → (s : SectionId) → Contains ss s ↔ LeadsOver l a s
over-its-sections l once a ss are s =
    let r = are.0 in
    let path = are.1 in
    let H : List SectionId → Type 0 = λ xs. Contains xs s in (
      λ c. (r, path, are.2, are.3, subst H are.4 c),
      λ k.
          let same : k.0 ≡ r = some-injective k.0 r (sym k.2 ∙ are.2) in
          let is : Path l r k.1 = subst (λ (x : RouteEntry). Path l x k.1) same k.3 in
          let place : FaultyRoute = record { id = a; name = r.name } in
          let one = one-path l (one-beyond l once) r place k.1 path is.follows are.3.follows in
          subst H (sym are.4) (subst (λ (p : List Passage). Contains (sections l p) s) one k.4),
    )
