-- A point that awaits no report rests, where its own section is known, and it is known wherever a route holds it with authority.
use Rattle.simulator_recovery.proofs.Words.Basics.{◌≡◌, ◌⊎◌, inl, inr, ℕ, Bool, true, false, List, Some, slice_get, refl, sym, ap, subst, ◌∙◌, contains, Contains, false≢true, none-some, same_Some}
use Rattle.simulator_recovery.proofs.Words.Links.{settled, reading_of, is_up}
use Rattle.simulator_recovery.proofs.Lemmas.Ground.ClosedKept.{moves_stand, step_stands}
use Rattle.simulator_recovery.proofs.Words.Interlockings.{LiesInClosed, IsTableOf, is_available, is_outside, At, IsClear, come_to, count, ended, freed_by_passage, freeing_by_cancel, freeing_by_passage, is_waiting, IxlState, KnownPointState, KnownSignalState, RouteState, changed, Commands, Datagram, Input, Tick, begun_with, empty_outbox, Need, Row, Table, Command, Phase, IsHeldAt, IsHeldWithAuthority, Known}
use Rattle.simulator_recovery.proofs.Words.Stations.{Site, Event, happens, interlocking_stepped, key_of, node_at, WorldState, IsReached}
use Rattle.simulator_recovery.proofs.Words.Recovery.{IsInside, IsUpAtClock, input_of, known_in_step, MoveLaw, RequestLaw, HoldsWithAuthority}
use Rattle.simulator_recovery.proofs.Words.Controllers.{Side}
use Rattle.simulator_recovery.proofs.Lemmas.Ground.IxlAlways.{MakesAnew, event_then, input_is}
use Rattle.simulator_recovery.proofs.Lemmas.RoutesComing.DueKnown.{PointStands, available_inside}
use Rattle.simulator_recovery.proofs.Lemmas.Lamps.GivenNoMore.{NoCommand, over_rests}
use Rattle.simulator_recovery.proofs.Lemmas.Ground.IxlClients.{changed_at}
use Rattle.simulator_recovery.proofs.Lemmas.Points.QuietHears.{IsSame, SameInside, same_heard}
use Rattle.simulator_recovery.proofs.Lemmas.Points.QuietRules.{NoneDue, as_heard, before_moves, clear_behind, points_heard}
use Rattle.simulator_recovery.proofs.Lemmas.Ground.SignalParts.{IsQuiet, PartsKeep, both_rules, cancel_held, over_held, passage_held, step_held, watched_held}
use Rattle.simulator_recovery.proofs.Lemmas.RoutesComing.DueGiven.{waiting_is}
use Rattle.simulator_recovery.proofs.Lemmas.RoutesComing.HeldNeeds.{agree, in_order_of}
use Rattle.simulator_recovery.proofs.Lemmas.RoutesComing.DueRoutes.{always_apart}
use Rattle.simulator_recovery.proofs.Lemmas.Ground.DueTests.{known_or_not}
use Rattle.simulator_recovery.proofs.Lemmas.RoutesComing.NothingDueMoves.{nothing_moves, same_closings_hold}
use Rattle.simulator_recovery.proofs.Lemmas.Points.SidesRoutes.{holds_point}

-- ---- a point that rests, event by event: each route that waits for it finds it known at its side, or moved for it already, or its own section not clear

-- ---- events by which no command comes

-- the event brings no command, and makes nothing anew
abbrev pub AsksNothing : Event → Type 0
AsksNothing (Event.Request command) = ⊥
AsksNothing (Event.Restart node clock first) = ⊥
AsksNothing _ = Unit {0}

pub none_asked : (site : Site) (one : Event) (input : Input) → AsksNothing one → input_of site one ≡ Some input → (command : Command) → input ≡ Commands command → ⊥
none_asked site (Event.Request command) input asks e = absurd asks
none_asked site (Event.Restart node clock first) input asks e = absurd asks
none_asked site (Event.Tick node) input asks e = λ command f. cc (input_is (node_at site node.0) Tick input e, f)
none_asked site (Event.Deliver node bytes) input asks e = λ command f. cc (input_is (node_at site node.0) (Datagram bytes) input e, f)
none_asked site (Event.Time elapsed clocks) input asks e = absurd (none-some input e)
none_asked site (Event.Occupy section occupancy) input asks e = absurd (none-some input e)
none_asked site (Event.Lose bytes) input asks e = absurd (none-some input e)
none_asked site (Event.Reach point position) input asks e = absurd (none-some input e)

pub none_anew : (site : Site) (one : Event) → AsksNothing one → MakesAnew site one → ⊥
none_anew site (Event.Request command) asks anew = asks
none_anew site (Event.Restart node clock first) asks anew = asks
none_anew site (Event.Tick node) asks anew = anew
none_anew site (Event.Deliver node bytes) asks anew = anew
none_anew site (Event.Time elapsed clocks) asks anew = anew
none_anew site (Event.Occupy section occupancy) asks anew = anew
none_anew site (Event.Lose bytes) asks anew = anew
none_anew site (Event.Reach point position) asks anew = anew

-- ---- routes that wait

-- each of these routes that waits, and isn't cancelled, is one of which this is so
abbrev pub OnlyWait : (ℕ → Type 0) → List RouteState → Type 0
OnlyWait Is routes = (number : ℕ) (route : RouteState) → slice_get routes number ≡ Some route → is_waiting route.phase ≡ true → route.cancelled ≡ false → Is number

quiet_waits : (old new : RouteState) → IsQuiet old new → is_waiting new.phase ≡ true → new.cancelled ≡ false → (is_waiting old.phase ≡ true) × (old.cancelled ≡ false)
quiet_waits old new (inl (same, cancelled)) waits goes_on = (ap is_waiting (sym same) ∙ waits, choose old.cancelled refl)
  where
    choose : (b : Bool) → old.cancelled ≡ b → old.cancelled ≡ false
    choose true e = absurd (false≢true (sym goes_on ∙ cancelled e))
    choose false e = e
quiet_waits old new (inr (over, undone, set, kept)) waits goes_on = absurd (false≢true (sym (over_rests new.phase over).0 ∙ waits))

module _ (now : ℕ) (table : Table) (Is : ℕ → Type 0) where
  abbrev pub OfRoutes : List RouteState → List KnownSignalState → Type 0
  OfRoutes routes signals = OnlyWait Is routes

  change_waits : (place : ℕ) (change : RouteState → RouteState) (routes : List RouteState)
      → ((route : RouteState) → slice_get routes place ≡ Some route → is_waiting (change route).phase ≡ true → (change route).cancelled ≡ false → (is_waiting route.phase ≡ true) × (route.cancelled ≡ false))
      → OnlyWait Is routes → OnlyWait Is (changed change place routes)
  change_waits place change routes back only number route at waits goes_on = choose (changed_at change place routes number route at)
    where
      choose : ((number ≡ place) × (was : RouteState) × (slice_get routes place ≡ Some was) × (route ≡ change was)) ⊎ (slice_get routes number ≡ Some route) → Is number
      choose (inl (here, was, there, is)) =
          let before = back was there (ap (λ (r : RouteState). is_waiting r.phase) (sym is) ∙ waits) (ap (λ (r : RouteState). r.cancelled) (sym is) ∙ goes_on)
          in only number was (ap (slice_get routes) here ∙ there) before.0 before.1
      choose (inr there) = only number route there waits goes_on

  pub waits_keep : PartsKeep now table NoCommand OfRoutes
  waits_keep = record {
    rules = record {
      quiet = λ place change routes signals quiet only. change_waits place change routes (λ route there. quiet_waits route (change route) (quiet route there)) only;
      proceeds = λ place row route known items client change routes signals at waits goes_on proceeds there so only.
          change_waits place change routes (λ one here waiting still. absurd (false≢true (ap is_waiting (sym (proceeds one)) ∙ waiting))) only;
      ticks = λ place known outbox routes signals there only. only;
    };
    clock = λ routes signals only. only;
    client = λ place known client indicated routes signals there goes only. only;
    withdraws = λ place row route known items client routes signals at given there so only. change_waits place (come_to Phase.Withdrawn) routes
        (λ one here waiting still. absurd (false≢true waiting)) only;
    falls = λ place row route routes signals at given not_ready only. change_waits place (come_to Phase.Withdrawn) routes (λ one here waiting still. absurd (false≢true waiting)) only;
    sets = λ route ixl never refused only. absurd never;
  }

-- ---- what a route that waits finds of the point

-- It is known at the side that the route requires, or it was moved for the route in this connection, or its own section isn't clear.
pub data Rests (Unclear : Type 0) (known : KnownPointState) (number : ℕ) (need : Need) : Type 0 where
  at_side : known.side ≡ Some need.side → Rests Unclear known number need
  was_moved : contains known.moved number ≡ true → Rests Unclear known number need
  is_unclear : Unclear → Rests Unclear known number need

same_rests : (Unclear : Type 0) (old new : KnownPointState) (number : ℕ) (need : Need) → new.side ≡ old.side → new.moved ≡ old.moved → Rests Unclear old number need → Rests Unclear new number need
same_rests Unclear old new number need side moved (at_side is) = at_side (side ∙ is)
same_rests Unclear old new number need side moved (was_moved is) = was_moved (ap (λ places. contains places number) moved ∙ is)
same_rests Unclear old new number need side moved (is_unclear is) = is_unclear is

-- unless it lies in a closed section
abbrev pub RestsFor : Table → ℕ → Type 0 → IxlState → KnownPointState → ℕ → Type 0
RestsFor table point Unclear ixl known number = (row : Row) (need : Need) → slice_get table.rows number ≡ Some row → Contains row.needs need → point ≡ need.point
    → (LiesInClosed table ixl point → ⊥) → Rests Unclear known number need

-- A point awaits no report, and each route that waits for it finds it so.
pub record IsResting (table : Table) (point : ℕ) (Unclear : Type 0) (ixl : IxlState) : Type 0 where
  pub known : KnownPointState
  pub there : slice_get ixl.known_points point ≡ Some known
  pub available : is_available known.client.stage ≡ true
  pub rests : OnlyWait (RestsFor table point Unclear ixl known) ixl.routes

-- What an interlocking sees of the point's own section: its detector is in a connection, and where it isn't clear it isn't known to be.
pub record SeesOwn (table : Table) (point : ℕ) (Unclear : Type 0) (ixl : IxlState) : Type 0 where
  pub shut : Unclear → At table.point_sections point (IsClear table ixl) → ⊥
  pub inside : (section : ℕ) (reporter : ℕ × ℕ) → slice_get table.point_sections point ≡ Some section → slice_get table.reporters section ≡ Some reporter
      → At ixl.detectors reporter.0 (λ known. is_outside known.client.stage ≡ false)

-- ---- a step

module _ (move : MoveLaw) (request : RequestLaw) (site : Site) (table : Table) (is_table : IsTableOf site table) (point : ℕ) (Unclear : Type 0) where
  module _ (input : Input) (world : WorldState) (reached : IsReached site table world) (none_comes : (command : Command) → input ≡ Commands command → ⊥) where
    abbrev now : ℕ
    now = reading_of world.interlocking.clock

    abbrev start : IxlState
    start = before_moves move request site table is_table world reached input point

    abbrev behind : IxlState
    behind = (interlocking_stepped site table input world).interlocking.ixl

    -- routes that wait as the moves are given waited before
    pub waits_there : (Is : ℕ → Type 0) → OnlyWait Is world.interlocking.ixl.routes → OnlyWait Is start.routes
    waits_there Is only = over_held now table Q (kept.rules) (freeing_by_cancel now table) (cancel_held now table Q kept.rules) (count table) (freed_by_passage now table _)
        (over_held now table Q kept.rules (freeing_by_passage table) (passage_held now table Q kept.rules) (count table) (ended now table _)
        (both_rules now table NoCommand Q kept _ (watched_held now table NoCommand Q kept (key_of site) input (begun_with world.interlocking.ixl empty_outbox) none_comes only)))
      where
        Q : List RouteState → List KnownSignalState → Type 0
        Q = OfRoutes now table Is

        kept : PartsKeep now table NoCommand Q
        kept = waits_keep now table Is

    pub waits_behind : (Is : ℕ → Type 0) → OnlyWait Is world.interlocking.ixl.routes → OnlyWait Is behind.routes
    unfolding interlocking_stepped
    waits_behind Is only = step_held now table NoCommand (OfRoutes now table Is) (waits_keep now table Is) (key_of site) input (begun_with world.interlocking.ixl empty_outbox) none_comes only

    -- what is closed stays so
    closed_start : start.closed ≡ world.interlocking.ixl.closed
    closed_start = moves_stand now table world.interlocking.ixl.closed (key_of site) input (begun_with world.interlocking.ixl empty_outbox) none_comes refl

    closed_behind : behind.closed ≡ world.interlocking.ixl.closed
    unfolding interlocking_stepped
    closed_behind = step_stands now table world.interlocking.ixl.closed (key_of site) input (begun_with world.interlocking.ixl empty_outbox) none_comes refl

    -- no move is due where the point, as it was heard, rests so
    none_due : (was : KnownPointState) → OnlyWait (RestsFor table point Unclear world.interlocking.ixl was) world.interlocking.ixl.routes → SameInside point was (known_in_step site table input world) → SeesOwn table point Unclear behind
        → NoneDue table point start
    none_due was only heard sees number row route need row_there there within here due =
        by_rest (waits_there (RestsFor table point Unclear world.interlocking.ixl was) only number route there (ap is_waiting due.waits) due.goes_on row need row_there within here
        (λ lies. due.unclosed (subst (λ (p : ℕ). LiesInClosed table start p) here (same_closings_hold table world.interlocking.ixl start point closed_start lies))))
      where
        -- the point, as the moves are given
        heard_there : (known : KnownPointState) → slice_get start.known_points need.point ≡ Some known → slice_get (known_in_step site table input world).known_points point ≡ Some known
        heard_there known e = ap (slice_get (known_in_step site table input world).known_points) here
            ∙ (ap (λ (points : List KnownPointState). slice_get points need.point) (sym (points_heard move request site table is_table world reached input point)) ∙ e)

        known : KnownPointState
        known = due.available.0

        same : IsSame was known
        same = heard known (heard_there known due.available.1) (available_inside known.client.stage due.available.2)

        by_rest : Rests Unclear was number need → ⊥
        by_rest (at_side is) = due.elsewhere (known, due.available.1, (due.available.2, same.side ∙ is))
        by_rest (was_moved is) = false≢true (sym due.once.2 ∙ (ap (λ (k : KnownPointState). contains k.moved number) (same_Some due.once.0 known (sym due.once.1 ∙ due.available.1))
            ∙ (ap (λ places. contains places number) same.moved ∙ is)))
        by_rest (is_unclear is) = by_section (subst (λ (p : ℕ). At table.point_sections p (IsClear table start)) (sym here) due.over_clear)
          where
            by_section : At table.point_sections point (IsClear table start) → ⊥
            by_section (section, e, clear) =
                let detector = sees.inside section clear.0 e clear.1
                in sees.shut is (section, e, clear_behind move request site table is_table world reached input point section clear.0 detector.0 clear.1 detector.1 detector.2 clear)

    resting_stepped : IsResting table point Unclear world.interlocking.ixl → IsUpAtClock world point → SeesOwn table point Unclear behind → IsInside behind point → IsResting table point Unclear behind
    resting_stepped r up sees inside = record {
      known = inside.0;
      there = inside.1;
      available = ap is_available left.2.stage ∙ same.available;
      rests = λ number route there waits goes_on row need row_there within here unclosed. same_rests Unclear r.known inside.0 number need (left.2.side ∙ same.side) (left.2.moved ∙ same.moved)
          (waits_behind (RestsFor table point Unclear world.interlocking.ixl r.known) r.rests number route there waits goes_on row need row_there within here
          (λ lies. unclosed (same_closings_hold table world.interlocking.ixl behind point closed_behind lies)));
    }
      where
        heard : SameInside point r.known (known_in_step site table input world)
        heard = same_heard site table input world point r.known reached none_comes r.there r.available
            (ap (λ (k : KnownPointState). is_up (settled now k.client.link).phase) (same_Some r.known up.0 (sym r.there ∙ up.1)) ∙ up.2)

        left : (was : KnownPointState) × (slice_get (known_in_step site table input world).known_points point ≡ Some was) × PointStands was inside.0
        left = as_heard move request site table is_table world reached input point (none_due r.known r.rests heard sees) inside.0 inside.1 inside.2

        same : IsSame r.known left.0
        same = heard left.0 left.1 (ap is_outside (sym left.2.stage) ∙ inside.2)

  -- ---- an event

  abbrev RestsBehind : IxlState → Type 0
  RestsBehind ixl = SeesOwn table point Unclear ixl → IsInside ixl point → IsResting table point Unclear ixl

  pub resting_on : (one : Event) (world : WorldState) → IsReached site table world → AsksNothing one → IsResting table point Unclear world.interlocking.ixl → IsUpAtClock world point
      → SeesOwn table point Unclear (happens site table one world).interlocking.ixl → IsInside (happens site table one world).interlocking.ixl point
      → IsResting table point Unclear (happens site table one world).interlocking.ixl
  resting_on one world reached asks r up = event_then site table RestsBehind world (λ sees inside. r) one (λ input e. resting_stepped input world reached (none_asked site one input asks e) r up)
      (λ begins anew. absurd (none_anew site one asks anew))

-- ---- a point that awaits no report rests, where its own section is known, and it is known wherever a route holds it with authority

-- ---- routes that hold the point with authority

-- The point is known at its side by each route that holds it with authority.
abbrev pub KnownToHolders : Table → WorldState → ℕ → Type 0
KnownToHolders table world point = (number : ℕ) (row : Row) (own : Need) → slice_get table.rows number ≡ Some row → Contains row.needs own → own.point ≡ point
    → At world.interlocking.ixl.routes number (HoldsWithAuthority own) → Known world.interlocking.ixl own.point own.side

-- ---- the point

module _ (move : MoveLaw) (request : RequestLaw) (site : Site) (table : Table) (is_table : IsTableOf site table) (world : WorldState) (reached : IsReached site table world) (point : ℕ) (Unclear : Type 0)
    (know : KnownToHolders table world point) (known : KnownPointState) (there : slice_get world.interlocking.ixl.known_points point ≡ Some known) (available : is_available known.client.stage ≡ true)
    (clear_or : (At table.point_sections point (IsClear table world.interlocking.ixl) → ⊥) → Unclear) where
  module _ (number : ℕ) (route : RouteState) (route_there : slice_get world.interlocking.ixl.routes number ≡ Some route) (waits : is_waiting route.phase ≡ true) (goes_on : route.cancelled ≡ false) (row : Row)
      (need : Need) (row_there : slice_get table.rows number ≡ Some row) (within : Contains row.needs need) (here : point ≡ need.point) (unclosed : LiesInClosed table world.interlocking.ixl point → ⊥) where
    known_here : slice_get world.interlocking.ixl.known_points need.point ≡ Some known
    known_here = ap (slice_get world.interlocking.ixl.known_points) (sym here) ∙ there

    -- it holds the point
    held : IsHeldAt table world.interlocking.ixl need.point need.side
    held = holds_point site table is_table world.interlocking.ixl number row need row_there within (route, route_there, inl (waiting_is route.phase waits, goes_on))

    -- so another that does with authority knows it at the same side
    known_by : IsHeldWithAuthority table world.interlocking.ixl need.point → Known world.interlocking.ixl need.point need.side
    known_by (k, other, one, side, is, authority, holds) = subst (λ (s : Side). Known world.interlocking.ixl need.point s) same
        (subst (λ (s : Side). Known world.interlocking.ixl need.point s) holds.1.3 (subst (λ (p : ℕ). Known world.interlocking.ixl p holds.1.0.side) holds.1.2
        (know k other holds.1.0 is.0 holds.1.1 (holds.1.2 ∙ sym here) (one, is.1, (authority, holds.1.4)))))
      where
        same : side ≡ need.side
        same = agree table (in_order_of site table is_table) world.interlocking.ixl.routes (always_apart request site table world reached) k held.0 other held.1 one held.2 need.point side need.side
            is.0 held.3.0 is.1 held.3.1 holds held.4

    finds : Rests Unclear known number need
    finds = by_known (known_or_not world.interlocking.ixl need.point need.side)
      where
        by_moved : (Known world.interlocking.ixl need.point need.side → ⊥) → (b : Bool) → contains known.moved number ≡ b → Rests Unclear known number need
        by_moved unknown true e = was_moved e
        by_moved unknown false e = is_unclear (clear_or (λ clear. nothing_moves move site table world number row route need reached (row_there, route_there) within (record {
          waits = waiting_is route.phase waits;
          goes_on = goes_on;
          available = (known, known_here, available);
          elsewhere = unknown;
          over_clear = subst (λ (p : ℕ). At table.point_sections p (IsClear table world.interlocking.ixl)) here clear;
          unheld = λ authority. unknown (known_by authority);
          once = (known, known_here, e);
          unclosed = λ lies. unclosed (subst (λ (p : ℕ). LiesInClosed table world.interlocking.ixl p) (sym here) lies);
        })))

        by_known : Known world.interlocking.ixl need.point need.side ⊎ (Known world.interlocking.ixl need.point need.side → ⊥) → Rests Unclear known number need
        by_known (inl is) = at_side (ap (λ (k : KnownPointState). k.side) (same_Some known is.0 (sym known_here ∙ is.1)) ∙ is.2.1)
        by_known (inr unknown) = by_moved unknown (contains known.moved number) refl

  pub resting_first : IsResting table point Unclear world.interlocking.ixl
  resting_first = record { known = known; there = there; available = available; rests = finds }
