-- A world to which some list of events has led, and what is so of it.
use Rattle.std.specs.Prelude.{◌≡◌, ◌≢◌, ℕ, ◌<◌, List, ◌++◌, Some, None, slice_get}
use Rattle.std.specs.List.{Contains}
use Rattle.simulator_link_laws.specs.sci_telegram.declared.message.Aspect.{Aspect}
use Rattle.simulator_link_laws.specs.sci_telegram.declared.message.Aspect.TheVariants as aspects
use Rattle.simulator_link_laws.specs.sci_telegram.declared.message.Side.{Side}
use Rattle.simulator_link_laws.specs.layout.declared.ids.PointId.{PointId}
use Rattle.simulator_link_laws.specs.layout.declared.ids.RouteId.{RouteId}
use Rattle.simulator_link_laws.specs.layout.declared.ids.SignalId.{SignalId}
use Rattle.simulator_link_laws.specs.layout.Entries.{Site}
use Rattle.simulator_link_laws.specs.control_table.Table.{HasAspect, RouteRequires}
use Rattle.simulator_link_laws.specs.rasta_core.Ends.{EndState}
use Rattle.simulator_link_laws.specs.rasta_core.Links.{seen as ends_of}
use Rattle.simulator_link_laws.specs.rasta_core.Names.{partner_of}
use Rattle.simulator_link_laws.specs.rasta_core.Run.{end_of}
use Rattle.simulator_link_laws.specs.rasta_core.Safe.{IsCounted}
use Rattle.simulator_link_laws.specs.rasta_core.identity.Role.{Role}
use Rattle.simulator_link_laws.specs.point_ctl.Drive.{PointState}
use Rattle.simulator_link_laws.specs.ixl_spec.Table.{Table}
use Rattle.simulator_link_laws.specs.simulator_event.declared.event.Event.{Event}
use Rattle.simulator_link_laws.specs.simulator_event.declared.event.Event.TheVariants.{Deliver}
use Rattle.simulator_link_laws.specs.simulator_event.layout.declared.ids.NodeId.{NodeId}
use Rattle.simulator_link_laws.specs.simulator_event.Safe.{position_at}
use Rattle.simulator_link_laws.specs.simulator_event.declared.snapshot.Held.{Held}
use Rattle.simulator_link_laws.specs.simulator_spec.Run.{CanHappen, after_all}
use Rattle.simulator_link_laws.specs.HasLinks.{HasLinks, IsSafeLink, links_in}
use Rattle.simulator_link_laws.specs.simulator_spec.First.{IsOutsetOf, Outset, world_at}
use Rattle.simulator_link_laws.specs.simulator_spec.Links.{names_at}
use Rattle.simulator_link_laws.specs.simulator_spec.Nodes.{links}
use Rattle.simulator_link_laws.specs.simulator_spec.Refusals.{refusal}
use Rattle.simulator_link_laws.specs.simulator_spec.State.{ClockedControllerState, WorldState}
use Rattle.simulator_link_laws.specs.simulator_spec.Interlocking.{held_of}
use Rattle.simulator_safety.specs.InFlight.{MovesOrMayMove, ShowsOrMayShow, TakesFromFlight, given_on}

-- A station has come to be so: it lay in some way when it was started, and each of these events could happen where it came.
pub record IsReached (site : Site) (table : Table) (world : WorldState) : Type 0 where
  pub outset : Outset
  pub lies : IsOutsetOf site outset
  pub events : List Event
  pub can : CanHappen site table events (world_at site table outset)
  pub after : world ≡ after_all site table events (world_at site table outset)

-- ---- links

-- Each link of a world is safe: what an end took is a beginning of what its partner gave, what is held for confirmed was
-- taken, and what is taken next is fresh and of its own connection. The links are those of the layout, after a list of
-- events that may happen to them.
pub record HasSafeLinks (site : Site) (world : WorldState) : Type 0 where
  pub has : HasLinks site world
  pub each : (link : ℕ) → link < links site → IsSafeLink (names_at site link) (ends_of link (links_in has))

-- an end of a link
abbrev pub end_at : {site : Site} {world : WorldState} → Role → ℕ → HasLinks site world → EndState
end_at who link has = end_of who (ends_of link (links_in has))

-- What an end took is a beginning of these items; its link counts as many, unless it was made anew since.
pub record IsTakenOf (items : List (List ℕ)) (end : EndState) : Type 0 where
  pub rest : List (List ℕ)
  pub beginning : items ≡ end.taken ++ rest
  pub counted : IsCounted end

-- What an end gave in its last connection are these items; and where this is its partner's last connection too, what the
-- partner took there is a beginning of them.
pub record IsReadOff (items : List (List ℕ)) (connection : ℕ) (giver taker : EndState) : Type 0 where
  pub given : giver.given ≡ items
  pub taken : taker.connection ≡ Some connection → IsTakenOf items taker

-- ---- routes

-- A route is held for a signal, and an aspect is this route's.
pub record IsOfHeldRoute (site : Site) (table : Table) (world : WorldState) (signal : SignalId) (aspect : Aspect) : Type 0 where
  pub route : RouteId
  pub held : Contains (held_of table world.interlocking world.frozen) (record { signal = signal; route = route })
  pub shows : HasAspect site route aspect

-- A point is at rest at a side: it stands there, and no move of it is in progress, or in flight and could still be taken.
pub record IsAtRest (site : Site) (world : WorldState) (point : PointId) (side : Side) : Type 0 where
  pub stands : slice_get world.positions point.0 ≡ Some (position_at side)
  pub controller : ClockedControllerState PointState
  pub there : slice_get world.points point.0 ≡ Some controller
  pub unmoved : MovesOrMayMove site world point → ⊥

-- ---- all of it

-- What is so of a world that is reached, beside that every snapshot of it is safe.
pub record IsReachedSafely (site : Site) (table : Table) (world : WorldState) : Type 0 where
  -- each aspect other than stop that a signal shows, or that is in flight to it and could still be taken, is that of a route
  -- held for it
  pub aspects : (signal : SignalId) (aspect : Aspect) → aspect ≢ aspects.Stop → ShowsOrMayShow site world signal aspect → IsOfHeldRoute site table world signal aspect
  -- each point that a held route requires is at rest at the required side
  pub moves : (pair : Held) → Contains (held_of table world.interlocking world.frozen) pair → (point : PointId) (side : Side) → RouteRequires site pair.route point side
      → IsAtRest site world point side
  -- nothing else is taken: what a signal or a point takes of bytes that can be delivered was in flight to it
  pub takes : (node : NodeId) (bytes : List ℕ) → refusal site (Deliver node bytes) world ≡ None → TakesFromFlight site world bytes
  -- each link is safe; what an end gave in its last connection is read off the datagrams, and what its partner took is a
  -- beginning of it
  pub safe : HasSafeLinks site world
  pub given : (link : ℕ) → link < links site → (who : Role) (connection : ℕ) → (end_at who link safe.has).connection ≡ Some connection
      → IsReadOff (given_on site world link who connection) connection (end_at who link safe.has) (end_at (partner_of who) link safe.has)
