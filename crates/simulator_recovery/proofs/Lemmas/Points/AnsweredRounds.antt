-- A point for which no route waits, but cancelled ones, is given no move in good rounds between which no request comes, so none is unanswered.
use Rattle.simulator_recovery.proofs.Words.Basics.{◌≡◌, ◌⊎◌, inl, inr, ℕ, ◌∙◌, ◌&&◌, Bool, true, false, List, [], Some, slice_get, refl, sym, ap, subst, Contains, not, false≢true, ◌<◌, ◌∷◌, length, Option, None, arith, same_Some}
use Rattle.simulator_recovery.proofs.Words.Links.{settled, reading_of, OutboxState, is_up, Key, Each, LinkState}
use Rattle.simulator_recovery.proofs.Words.Interlockings.{lies_in_closed, ClientState, is_ready, begun, clocked, hearing, ticking, Stage, come_to, is_move_due, is_over_clear, is_unmoved, is_waiting, IxlState, KnownPointState, KnownSignalState, RouteState, changed, Commands, Input, given, stepped, StepSoFar, begun_with, empty_outbox, giving_move, over, Need, Row, Table, is_held_with_authority, is_known, is_point_available, Command, Phase, IsTableOf, SitedTable}
use Rattle.simulator_recovery.proofs.Words.Stations.{Site, interlocking_stepped, key_of, WorldState, Once, IsStation, Event, Flowing, round, detector_stepped, happens, sensed_by, point_link, Played, after, IsReached}
use Rattle.simulator_recovery.proofs.Words.Recovery.{NoneWaitsFor, HasGivenSince, IsOccupancy, IsReadyOn, all_tried, good_rounds, AwaitsMove, LawsBelow}
use Rattle.simulator_recovery.proofs.Words.Controllers.{Occupancy}
use Rattle.simulator_recovery.proofs.Lemmas.Ground.AspectCalls.{hears, ticks}
use Rattle.simulator_recovery.proofs.Lemmas.RoutesComing.DueGiven.{waits_there}
use Rattle.simulator_recovery.proofs.Lemmas.Ground.DueShapes.{one_keeps}
use Rattle.simulator_recovery.proofs.Lemmas.Windows.FewItems.{GivesFew, GivenBy}
use Rattle.simulator_recovery.proofs.Lemmas.Lamps.GivenNoMore.{NoCommand, over_rests, RestsAt, round_at}
use Rattle.simulator_recovery.proofs.Lemmas.Ground.IxlClients.{changed_at, point_client}
use Rattle.simulator_recovery.proofs.Lemmas.Points.OnceParts.{ClientsKeep, IsGivenMove, On, here, step_on}
use Rattle.simulator_recovery.proofs.Lemmas.Points.SidesStep.{hears_nothing, stands, ticks_nothing}
use Rattle.simulator_recovery.proofs.Lemmas.Ground.SignalParts.{IsQuiet, PartsKeep, step_held}
use Rattle.simulator_recovery.proofs.Lemmas.Windows.WaitingItems.{Went, clock_went, done_went, ready_inside}
use Rattle.simulator_recovery.proofs.Lemmas.Talk.ClientLinks.{up_open}
use Rattle.simulator_recovery.proofs.Lemmas.Ground.LinkCounts.{settled_open}
use Rattle.simulator_recovery.proofs.Lemmas.Points.MovesMoment.{PointAt, point_at}
use Rattle.simulator_recovery.proofs.Lemmas.Rounds.Rounds.{tried_keeps}
use Rattle.simulator_recovery.proofs.Lemmas.Talk.Standing.{stand_by_counts}

-- ---- a point for which no route waits, but cancelled ones, is given no move in a good round between which no request comes

-- ---- the routes

-- no route of these waits for the point, but one that is cancelled
abbrev pub NoneOf : Table → ℕ → List RouteState → Type 0
NoneOf table point routes = (number : ℕ) (row : Row) (route : RouteState) (need : Need) → (slice_get table.rows number ≡ Some row) × (slice_get routes number ≡ Some route) → Contains row.needs need
    → need.point ≡ point
    → is_waiting route.phase ≡ true → route.cancelled ≡ true

abbrev RestsSo : RouteState → Type 0
RestsSo route = is_waiting route.phase ≡ true → route.cancelled ≡ true

quiet_rests : (old new : RouteState) → IsQuiet old new → RestsSo old → RestsSo new
quiet_rests old new (inl (same, cancelled)) rests waits = cancelled (rests (ap is_waiting (sym same) ∙ waits))
quiet_rests old new (inr (over, undone, set, kept)) rests waits = absurd (false≢true (sym (over_rests new.phase over).0 ∙ waits))

module _ (now : ℕ) (table : Table) (point : ℕ) where
  abbrev OfRoutes : List RouteState → List KnownSignalState → Type 0
  OfRoutes routes signals = NoneOf table point routes

  -- where a route changes that rests so after it, too
  change_rests : (place : ℕ) (change : RouteState → RouteState) (routes : List RouteState) → ((route : RouteState) → slice_get routes place ≡ Some route → RestsSo route → RestsSo (change route))
      → NoneOf table point routes
      → NoneOf table point (changed change place routes)
  change_rests place change routes keeps none number row route need at within same = choose (changed_at change place routes number route at.1)
    where
      choose : ((number ≡ place) × (was : RouteState) × (slice_get routes place ≡ Some was) × (route ≡ change was)) ⊎ (slice_get routes number ≡ Some route) → RestsSo route
      choose (inl (here, was, there, is)) = subst RestsSo (sym is) (keeps was there (none number row was need (at.0, ap (slice_get routes) here ∙ there) within same))
      choose (inr there) = none number row route need (at.0, there) within same

  none_keep : PartsKeep now table NoCommand OfRoutes
  none_keep = record {
    rules = record {
      quiet = λ place change routes signals quiet none. change_rests place change routes (λ route there. quiet_rests route (change route) (quiet route there)) none;
      proceeds = λ place row route known items client change routes signals at waits goes_on proceeds there so none.
          change_rests place change routes (λ one here rests waiting. absurd (false≢true (ap is_waiting (sym (proceeds one)) ∙ waiting))) none;
      ticks = λ place known outbox routes signals there none. none;
    };
    clock = λ routes signals none. none;
    client = λ place known client indicated routes signals there goes none. none;
    withdraws = λ place row route known items client routes signals at given there so none. change_rests place (come_to Phase.Withdrawn) routes (λ one here rests waiting. absurd
        (false≢true waiting)) none;
    falls = λ place row route routes signals at given not_ready none. change_rests place (come_to Phase.Withdrawn) routes (λ one here rests waiting. absurd (false≢true waiting)) none;
    sets = λ route ixl never refused none. absurd never;
  }

-- ---- the client of the point

-- it is up, and has given so many items
pub record HasGiven (items : ℕ) (client : ClientState) : Type 0 where
  pub few : GivesFew true client
  pub up : is_up client.link.phase ≡ true
  pub given : client.link.given ≡ items

module _ (site : Site) (now point items : ℕ) where
  -- where it awaits a report it has
  abbrev Still : ClientState → Type 0
  Still client = client.stage ≡ Stage.AwaitsReport → HasGiven items client

  went_still : (old new : ClientState) → Went old new → (new.stage ≡ Stage.AwaitsReport → old.stage ≡ Stage.AwaitsReport) → Still old → Still new
  went_still old new went back still awaits = record {
    few = went.few true was.few;
    up = up;
    given = (went.none was.few (ap is_ready (back awaits)) up).given ∙ was.given;
  }
    where
      was : HasGiven items old
      was = still (back awaits)

      up : is_up new.link.phase ≡ true
      up = went.up (ready_inside new.stage (ap is_ready awaits))

  heard_still : (client : ClientState) (outbox : OutboxState) (bytes : List ℕ) → Still client → Still (hearing now bytes (begun client outbox)).client
  heard_still client outbox bytes = went_still client (hearing now bytes (begun client outbox)).client (done_went now client (hearing now bytes (begun client outbox)) (hears bytes outbox refl))
      (hears_nothing site now 0 client outbox [] bytes).awaited

  ticked_still : (client : ClientState) (outbox : OutboxState) → Still client → Still (ticking now (begun client outbox)).client
  ticked_still client outbox = went_still client (ticking now (begun client outbox)).client (done_went now client (ticking now (begun client outbox)) (ticks outbox refl))
      (ticks_nothing site now 0 client outbox []).awaited

  clocked_still : (client : ClientState) → Still client → Still (clocked now client)
  unfolding clocked
  clocked_still client = went_still client (clocked now client) (clock_went now client) (λ e. (stands (record client { link = settled now client.link }) e).awaits)

  abbrev StillAt : KnownPointState → Type 0
  StillAt known = Still known.client

  still_keeps : ClientsKeep now StillAt
  still_keeps = record {
    clock = λ known still. subst Still (sym (point_client _ _ _)) (clocked_still known.client still);
    hears = λ known side bytes outbox still. subst Still (sym (point_client _ _ _)) (heard_still known.client outbox bytes still);
    ticks = λ known outbox still. subst Still (sym (point_client _ _ _)) (ticked_still known.client outbox still);
  }

  -- ---- the fifth rule

  goes_on : (table : Table) (ixl : IxlState) (number : ℕ) (route : RouteState) (need : Need) → is_move_due table ixl number route need ≡ true → route.cancelled ≡ false
  goes_on table ixl number route need due = second (is_waiting route.phase) route.cancelled (is_point_available ixl need.point) (not (is_known ixl need.point need.side))
      (is_over_clear table ixl need.point)
      (not (is_held_with_authority table ixl need.point)) (is_unmoved ixl need.point number) (not (lies_in_closed table ixl need.point)) due
    where
      second : (a b c d e f g h : Bool) → (a && not b && c && d && e && f && g && h) ≡ true → b ≡ false
      second true false c d e f g h is = refl
      second true true c d e f g h is = absurd (false≢true is)
      second false b c d e f g h is = absurd (false≢true is)

  move_on : (table : Table) (need : Need) (part : StepSoFar) → (point ≡ need.point → ⊥) → On point StillAt part → On point StillAt (giving_move now need.point need.side part)
  unfolding giving_move
  move_on table need part other is = one_keeps (On point StillAt) (slice_get part.ixl.known_points need.point) _ part (λ known e. here point StillAt need.point _ part.ixl.known_points
      (λ same. absurd (other same)) is) is

  -- no move is due to the point
  moves_others : (table : Table) (number : ℕ) (row : Row) (route : RouteState) (need : Need) (part : StepSoFar) → IsGivenMove table number row route need part.ixl → NoneOf table point part.ixl.routes
      → On point StillAt part → On point StillAt (giving_move now need.point need.side part)
  moves_others table number row route need part given none = move_on table need part (λ same. false≢true (sym (goes_on table part.ixl number route need given.due)
      ∙ none number row route need (given.row_there, given.there) given.within (sym same) (waits_there table part.ixl number route need given.due)))

  pub still_on : (table : Table) (key : Key) (input : Input) (part : StepSoFar) → ((command : Command) → input ≡ Commands command → ⊥) → NoneOf table point part.ixl.routes → On point StillAt part
      → On point StillAt (stepped now table key input part)
  still_on table key input part = step_on now point StillAt still_keeps table (NoneOf table point) (moves_others table) (none_keep now table point) key input part

-- no route comes to wait for the point in a step in which no command comes
pub stepped_none : (site : Site) (table : Table) (point : ℕ) (input : Input) (world : WorldState) → ((command : Command) → input ≡ Commands command → ⊥) → NoneWaitsFor table world.interlocking.ixl point
    → NoneWaitsFor table (interlocking_stepped site table input world).interlocking.ixl point
unfolding interlocking_stepped
stepped_none site table point input world no_command none =
    let now = reading_of world.interlocking.clock
    in step_held now table NoCommand (OfRoutes now table point) (none_keep now table point) (key_of site) input (begun_with world.interlocking.ixl empty_outbox) no_command none

-- No route waits for the point, but cancelled ones, and where its client awaits a report it has given so many items.
pub record Unmoved (table : Table) (point items : ℕ) (ixl : IxlState) : Type 0 where
  pub none : NoneWaitsFor table ixl point
  pub still : (known : KnownPointState) → slice_get ixl.known_points point ≡ Some known → known.client.stage ≡ Stage.AwaitsReport → HasGiven items known.client

pub stepped_unmoved : (site : Site) (table : Table) (point items : ℕ) (input : Input) (world : WorldState) → ((command : Command) → input ≡ Commands command → ⊥)
    → Unmoved table point items world.interlocking.ixl
    → Unmoved table point items (interlocking_stepped site table input world).interlocking.ixl
unfolding interlocking_stepped
stepped_unmoved site table point items input world no_command is = record {
  none = stepped_none site table point input world no_command is.none;
  still = still_on site (reading_of world.interlocking.clock) point items table (key_of site) input (begun_with world.interlocking.ixl empty_outbox) no_command is.none is.still;
}

-- ---- a point for which no route waits, but cancelled ones, is given no move in good rounds between which no request comes, so none is unanswered

-- ---- the data of a station

all_same : (sited : SitedTable) (list : List Event) (flowing : Flowing) → flowing.state.sited ≡ sited → (all_tried list flowing).state.sited ≡ sited
all_same sited [] flowing same = same
all_same sited (first ∷ others) flowing same = all_same sited others (record flowing { state = after flowing.state first })
    (tried_keeps (λ (w : Played). w.sited ≡ sited) flowing.state first same (λ none. same))

pub rounds_same : (sited : SitedTable) (rounds : List (List Event)) (flowing : Flowing) → flowing.state.sited ≡ sited → (good_rounds rounds flowing).state.sited ≡ sited
rounds_same sited [] flowing same = same
rounds_same sited (between ∷ later) flowing same = rounds_same sited later (all_tried between (round flowing))
    (all_same sited between (round flowing) (round_at sited (λ (ixl : IxlState). Unit {0}) (λ input world none is. tt) flowing (record { same = same; rests = tt })).same)

-- ---- occupancies between the rounds

-- what each step of the interlocking keeps in which no command comes is kept over good rounds between which no request comes
module _ (sited : SitedTable) (P : IxlState → Type 0)
    (steps : (input : Input) (world : WorldState) → ((command : Command) → input ≡ Commands command → ⊥) → P world.interlocking.ixl
    → P (interlocking_stepped sited.site sited.table input world).interlocking.ixl) where
  sensed_rests : (site : Site) (occupancy : Occupancy) (found : Option (ℕ × ℕ)) (world : WorldState) → P world.interlocking.ixl → P (sensed_by site occupancy found world).interlocking.ixl
  unfolding detector_stepped
  sensed_rests site occupancy None world rests = rests
  sensed_rests site occupancy (Some reporter) world rests = rests

  occupied_rests : (site : Site) (table : Table) (one : Event) (world : WorldState) → IsOccupancy one → P world.interlocking.ixl → P (happens site table one world).interlocking.ixl
  unfolding happens
  occupied_rests site table (Event.Occupy section occupancy) world is rests = sensed_rests site occupancy (slice_get table.reporters section.0) _ rests
  occupied_rests site table (Event.Request command) world is rests = absurd is
  occupied_rests site table (Event.Tick node) world is rests = absurd is
  occupied_rests site table (Event.Time elapsed clocks) world is rests = absurd is
  occupied_rests site table (Event.Deliver node bytes) world is rests = absurd is
  occupied_rests site table (Event.Lose bytes) world is rests = absurd is
  occupied_rests site table (Event.Reach place position) world is rests = absurd is
  occupied_rests site table (Event.Restart node clock first) world is rests = absurd is

  all_rest : (list : List Event) (flowing : Flowing) → Each IsOccupancy list → RestsAt sited P flowing.state → RestsAt sited P (all_tried list flowing).state
  all_rest [] flowing of is = is
  all_rest (first ∷ others) flowing of is = all_rest others (record flowing { state = after flowing.state first }) of.1 (tried_keeps (RestsAt sited P) flowing.state first is (λ none. record {
    same = is.same;
    rests = occupied_rests flowing.state.sited.site flowing.state.sited.table first flowing.state.run of.0 is.rests;
  }))

  pub rounds_rest : (rounds : List (List Event)) (flowing : Flowing) → Each (Each IsOccupancy) rounds → RestsAt sited P flowing.state → RestsAt sited P (good_rounds rounds flowing).state
  rounds_rest [] flowing of is = is
  rounds_rest (between ∷ later) flowing of is = rounds_rest later (all_tried between (round flowing)) of.1 (all_rest between (round flowing) of.0 (round_at sited P steps flowing is))

-- so no route comes to wait for the point, and it is given no move
pub none_waits : (sited : SitedTable) (point : ℕ) (rounds : List (List Event)) (flowing : Flowing) → Each (Each IsOccupancy) rounds → flowing.state.sited ≡ sited
    → NoneWaitsFor sited.table flowing.state.run.interlocking.ixl point
    → NoneWaitsFor sited.table (good_rounds rounds flowing).state.run.interlocking.ixl point
none_waits sited point rounds flowing of same none =
    (rounds_rest sited (λ (ixl : IxlState). NoneWaitsFor sited.table ixl point) (stepped_none sited.site sited.table point) rounds flowing of (record { same = same; rests = none })).rests

pub stays_unmoved : (sited : SitedTable) (point items : ℕ) (rounds : List (List Event)) (flowing : Flowing) → Each (Each IsOccupancy) rounds → flowing.state.sited ≡ sited
    → Unmoved sited.table point items flowing.state.run.interlocking.ixl
    → Unmoved sited.table point items (good_rounds rounds flowing).state.run.interlocking.ixl
stays_unmoved sited point items rounds flowing of same is = (rounds_rest sited (Unmoved sited.table point items)
    (stepped_unmoved sited.site sited.table point items) rounds flowing of (record { same = same; rests = is })).rests

-- ---- what is out

module _ (laws : LawsBelow) (site : Site) (table : Table) (once : Once site) (station : IsStation site) (is_table : IsTableOf site table) (place : ℕ) (few : place < length site.points) where
  point_of : (world : WorldState) → IsReached site table world → (ready : IsReadyOn site (point_link site place) world) → PointAt site world place ready.up
  point_of world reached ready = point_at laws site table station once is_table world reached place few ready

  -- at the first moment its client has given as many items as its link counts
  gave_then : (world : WorldState) (reached : IsReached site table world) (ready : IsReadyOn site (point_link site place) world) (known : KnownPointState)
      → slice_get world.interlocking.ixl.known_points place ≡ Some known
      → known.client.stage ≡ Stage.AwaitsReport → HasGiven ready.up.client.given known.client
  gave_then world reached ready known there awaits = record {
    few = record {
      inside = λ is. let c = ((stand_by_counts site table world station reached).clients.points place known there).stands.stands (up_open known.client.link.phase is)
          in record { taken = c.taken; given = c.given; counts = c.counts; few = subst (λ (s : Stage). GivenBy true s c.given) (sym awaits) tt };
      starting = λ opened down. absurd (false≢true (sym down ∙ up));
    };
    up = up;
    given = ap (λ (l : LinkState). l.given) link_is;
  }
    where
      p : PointAt site world place ready.up
      p = point_of world reached ready

      link_is : known.client.link ≡ ready.up.client
      link_is = ap (λ (k : KnownPointState). k.client.link) (same_Some known p.known (sym there ∙ p.known_there)) ∙ sym p.client_same

      up : is_up known.client.link.phase ≡ true
      up = ap (λ (l : LinkState). is_up l.phase) link_is ∙ (ap (λ (l : LinkState). is_up l.phase)
          (sym (settled_open (reading_of world.interlocking.clock) ready.up.client (up_open _ ready.up.client_up)).0) ∙ ready.up.client_up)

  -- a move that is out at the later moment was given by the first, where none was given since
  pub none_is_new : (old new : WorldState) → IsReached site table old → IsReached site table new → (was_ready : IsReadyOn site (point_link site place) old) → IsReadyOn site (point_link site place) new
      → ((known : KnownPointState) → slice_get new.interlocking.ixl.known_points place ≡ Some known → known.client.stage ≡ Stage.AwaitsReport → HasGiven was_ready.up.client.given known.client)
      → HasGivenSince (point_link site place) old new → AwaitsMove place new → ⊥
  none_is_new old new was_reached reached was_ready ready still since awaits =
      let n = (still awaits.0 awaits.1 awaits.2).given
      in let before = ap (λ (l : LinkState). l.given) (same_Some since.before.client was_ready.up.client (sym since.before.client_there ∙ was_ready.up.client_there))
      in let more = since.more
      in omega (arith, n, before, more, now_given)
    where
      p : PointAt site new place ready.up
      p = point_of new reached ready

      now_given : since.behind.client.given ≡ awaits.0.client.link.given
      now_given = ap (λ (l : LinkState). l.given) (same_Some since.behind.client ready.up.client (sym since.behind.client_there ∙ ready.up.client_there) ∙ (p.client_same
          ∙ ap (λ (k : KnownPointState). k.client.link) (same_Some p.known awaits.0 (sym p.known_there ∙ awaits.1))))

  pub unmoved_first : (world : WorldState) (reached : IsReached site table world) (ready : IsReadyOn site (point_link site place) world) → NoneWaitsFor table world.interlocking.ixl place
      → Unmoved table place ready.up.client.given world.interlocking.ixl
  unmoved_first world reached ready none = record { none = none; still = gave_then world reached ready }
