-- A point over a clear section is known, or may come, where each route that holds it with authority knows it at its side.
use Rattle.simulator_recovery.proofs.Words.Basics.{◌≡◌, ◌⊎◌, inl, inr, ℕ, ◌<◌, false, Some, slice_get, sym, ap, subst, ◌∙◌, length, contains, Contains, same_Some}
use Rattle.simulator_recovery.proofs.Words.Controllers.{Side}
use Rattle.simulator_recovery.proofs.Words.Interlockings.{LiesInClosed, IsTableOf, ClientState, is_ready, At, IsClear, IsHeldAt, IsRouteOf, Known, RouteState, Need, Row, Table}
use Rattle.simulator_recovery.proofs.Words.Stations.{Site, Once, IsStation, point_link, WorldState, IsWhole, IsReached}
use Rattle.simulator_recovery.proofs.Words.Recovery.{IsFreeFor, IsHeldBehindAspect, IsKnownOrOnItsWay, MayCome, IsUpOn, IsPointReady, IsReadyOn, HoldsWithAuthority, RequestLaw}
use Rattle.simulator_recovery.proofs.Lemmas.RoutesComing.HeldNeeds.{agree, in_order_of}
use Rattle.simulator_recovery.proofs.Lemmas.RoutesComing.DueRoutes.{always_apart}
use Rattle.simulator_recovery.proofs.Lemmas.Ground.DueTests.{known_or_not}
use Rattle.simulator_recovery.proofs.Lemmas.RoutesComing.RoutesCome.{point_there}

-- a point's link that is ready is so at the interlocking
pub ready_point : (site : Site) (world : WorldState) → IsWhole site world → (point : ℕ) → point < length site.points → IsReadyOn site (point_link site point) world
    → IsPointReady world.interlocking.ixl point
ready_point site world whole point few ready =
    let it = point_there site world whole point few
    in (it.0, it.1, ap (λ (c : ClientState). is_ready c.stage) (same_Some it.0.client ready.client (sym it.2 ∙ ready.there)) ∙ ready.client_ready)

-- The point is known at its side by each route that holds it there with authority.
abbrev pub HoldersKnow : Table → WorldState → Need → Type 0
HoldersKnow table world need = (number : ℕ) (row : Row) (own : Need) → slice_get table.rows number ≡ Some row → Contains row.needs own → own.point ≡ need.point → own.side ≡ need.side
    → At world.interlocking.ixl.routes number (HoldsWithAuthority own) → Known world.interlocking.ixl own.point own.side

-- What `points_held_with_authority_are_known` says.
abbrev pub HeldKnown : Type 0
HeldKnown = (site : Site) (table : Table) (world : WorldState) (number : ℕ) (row : Row) (route : RouteState) (need : Need) → Once site → IsStation site → IsTableOf site table
    → IsReached site table world → IsRouteOf table world.interlocking.ixl number row route → HoldsWithAuthority need route → Contains row.needs need → IsUpOn (point_link site need.point) world
    → IsPointReady world.interlocking.ixl need.point → Known world.interlocking.ixl need.point need.side

-- so each route that holds it there with authority knows it, where its link is ready
pub holders_know : HeldKnown → (site : Site) (table : Table) (world : WorldState) → Once site → IsStation site → IsTableOf site table → IsReached site table world → IsWhole site world
    → (need : Need) → need.point < length site.points → IsReadyOn site (point_link site need.point) world → HoldersKnow table world need
holders_know law site table world once station is_table reached whole need few ready number row own row_there within same same_side (route, there, holds) =
    law site table world number row route own once station is_table reached (row_there, there) holds within
    (subst (λ (point : ℕ). IsUpOn (point_link site point) world) (sym same) ready.up)
    (subst (IsPointReady world.interlocking.ixl) (sym same) (ready_point site world whole need.point few ready))

-- so it is known there, or no route holds it that proceeds no more
module _ (request : RequestLaw) (site : Site) (table : Table) (world : WorldState) (is_table : IsTableOf site table) (reached : IsReached site table world) (need : Need)
    (held : IsHeldAt table world.interlocking.ixl need.point need.side) (know : HoldersKnow table world need) where
  known_by : IsHeldBehindAspect table world.interlocking.ixl need.point → Known world.interlocking.ixl need.point need.side
  known_by (number, row, route, side, is, authority, behind, holds) = subst (λ (s : Side). Known world.interlocking.ixl need.point s) same
      (subst (λ (s : Side). Known world.interlocking.ixl need.point s) holds.1.3 (subst (λ (p : ℕ). Known world.interlocking.ixl p holds.1.0.side) holds.1.2
      (know number row holds.1.0 is.0 holds.1.1 holds.1.2 (holds.1.3 ∙ same) (route, is.1, (authority, holds.1.4)))))
    where
      same : side ≡ need.side
      same = agree table (in_order_of site table is_table) world.interlocking.ixl.routes (always_apart request site table world reached) number held.0 row held.1 route held.2 need.point side need.side
          is.0 held.3.0 is.1 held.3.1 holds held.4

  known_or_unheld : Known world.interlocking.ixl need.point need.side ⊎ (IsHeldBehindAspect table world.interlocking.ixl need.point → ⊥)
  known_or_unheld = choose (known_or_not world.interlocking.ixl need.point need.side)
    where
      choose : Known world.interlocking.ixl need.point need.side ⊎ (Known world.interlocking.ixl need.point need.side → ⊥)
          → Known world.interlocking.ixl need.point need.side ⊎ (IsHeldBehindAspect table world.interlocking.ixl need.point → ⊥)
      choose (inl known) = inl known
      choose (inr unknown) = inr (λ behind. unknown (known_by behind))

  pub clear_or : IsKnownOrOnItsWay need world ⊎ At table.point_sections need.point (IsClear table world.interlocking.ixl) → IsKnownOrOnItsWay need world ⊎ MayCome table world.interlocking.ixl need.point
  clear_or (inl so) = inl so
  clear_or (inr clear) = choose known_or_unheld
    where
      choose : Known world.interlocking.ixl need.point need.side ⊎ (IsHeldBehindAspect table world.interlocking.ixl need.point → ⊥) → IsKnownOrOnItsWay need world ⊎ MayCome table world.interlocking.ixl need.point
      choose (inl known) = inl (inl known)
      choose (inr unheld) = inr (record { clear = clear; unheld = unheld })

  pub clear_yet : (number : ℕ) → IsKnownOrOnItsWay need world ⊎ (At table.point_sections need.point (IsClear table world.interlocking.ixl) × At world.interlocking.ixl.known_points need.point (λ known. contains known.moved number ≡ false)
      × (LiesInClosed table world.interlocking.ixl need.point → ⊥))
      → IsKnownOrOnItsWay need world ⊎ IsFreeFor table world.interlocking.ixl number need.point
  clear_yet number (inl so) = inl so
  clear_yet number (inr yet) = choose known_or_unheld
    where
      choose : Known world.interlocking.ixl need.point need.side ⊎ (IsHeldBehindAspect table world.interlocking.ixl need.point → ⊥)
          → IsKnownOrOnItsWay need world ⊎ IsFreeFor table world.interlocking.ixl number need.point
      choose (inl known) = inl (inl known)
      choose (inr unheld) = inr (record { may = record { clear = yet.0; unheld = unheld }; unmoved = yet.1; unclosed = yet.2 })
