-- A set route comes: it has its aspect once its points are known, and its lamp shows it from the next round on.
use Rattle.simulator_recovery.proofs.Words.Basics.{◌≡◌, ◌⊎◌, inl, inr, ℕ, suc, ◌<◌, ◌≤◌, true, List, [], ◌∷◌, ◌++◌, append-nil, append_assoc, length, map, Option, Some, None, slice_get, refl, sym, ap, subst, ◌∙◌, arith, Contains, length-append, All-contains, same_Some, slice_get_within}
use Rattle.simulator_recovery.proofs.Words.Links.{settled, Each, reading_of, LinkState, is_up}
use Rattle.simulator_recovery.proofs.Words.Controllers.{Side}
use Rattle.simulator_recovery.proofs.Words.Interlockings.{IsTableOf, ClientState, is_ready, AllClear, AllKnown, At, IsSignalReady, Known, KnownPointState, KnownSignalState, Need, Row, SitedTable, Table, Command}
use Rattle.simulator_recovery.proofs.Words.Stations.{Site, Once, IsStation, RouteId, Event, Refused, Flowing, due, round, round_of_time, Answer, answered, happens, links, point_link, refusal, WorldState, Played, after, refusal_of, world_where, IsStanding, IsWhole, client_states, IsReached}
use Rattle.simulator_recovery.proofs.Words.Recovery.{AllStandByCounts, StaysBelowLimit, behind_time, event_of, HasAspect, IsUpAtClock, KeepsSetting, Waits, IsReadyOn, ready_rounds, AreBelowLimit, AreLinksUp, EachBehind, AreKnownWithin, HasClearSections, IsClientUp, IsKnownWithin, IsOnCourse, IsSignalUp, StaysSet, Throughout, events_of_round, HasTime, IsWork, all_tried, clocks_of, good_rounds, ProceedsAt, ProceedsThrough, RouteProceeds, ShowsThrough, LawsBelow}
use Rattle.simulator_recovery.proofs.Lemmas.Ground.ClientItem.{at_front}
use Rattle.simulator_recovery.proofs.Lemmas.Ground.AtLink.{Found, found, mapped, of_second}
use Rattle.simulator_recovery.proofs.Lemmas.RoutesComing.DueAccepted.{accepted_clear, accepted_course, accepted_goes_on}
use Rattle.simulator_recovery.proofs.Lemmas.RoutesComing.DueRounds.{due_keep}
use Rattle.simulator_recovery.proofs.Lemmas.Rounds.LinkRounds.{after_each, round_tried}
use Rattle.simulator_recovery.proofs.Lemmas.Ground.EndCalls.{at_place, each_both, map_length}
use Rattle.simulator_recovery.proofs.Lemmas.Points.MovesAnswered.{rounds_both}
use Rattle.simulator_recovery.proofs.Lemmas.Lamps.ProceedsStays.{stays_shown}
use Rattle.simulator_recovery.proofs.Lemmas.Links.Ready.{fewer_time, links_ready}
use Rattle.simulator_recovery.proofs.Lemmas.Rounds.Rounds.{events_are, IsAt, rounds_reached, tried_reached}
use Rattle.simulator_recovery.proofs.Lemmas.RoutesComing.RoutesGround.{course_behind, course_ends, course_proceeds, each_of, known_behind, ready_behind}
use Rattle.simulator_recovery.proofs.Lemmas.Links.RoutesRounds.{up_throughout}
use Rattle.simulator_recovery.proofs.Lemmas.Lamps.StopComes.{entry_there}
use Rattle.simulator_recovery.proofs.Lemmas.Windows.WindowsAlone.{below_two}
use Rattle.simulator_recovery.proofs.Lemmas.Talk.Standing.{stand_by_counts}

-- ---- the links of a route

module _ (site : Site) (world : WorldState) (whole : IsWhole site world) where
  signal_there : (place : ℕ) → place < length site.signals → (known : KnownSignalState) × (slice_get world.interlocking.ixl.known_signals place ≡ Some known) × (slice_get (client_states world.interlocking.ixl) place ≡ Some known.client)
  signal_there place few =
      let many = whole.clients.known_signals
      in let a = at_place world.interlocking.ixl.known_signals place (omega (arith, few, many))
      in (a.0, a.1, at_front _ _ place a.0.client (mapped (λ (k : KnownSignalState). k.client) world.interlocking.ixl.known_signals place a.0 a.1))

  pub point_there : (place : ℕ) → place < length site.points → (known : KnownPointState) × (slice_get world.interlocking.ixl.known_points place ≡ Some known) × (slice_get (client_states world.interlocking.ixl) (point_link site place) ≡ Some known.client)
  point_there place few =
      let many = whole.clients.known_points
      in let a = at_place world.interlocking.ixl.known_points place (omega (arith, few, many))
      in (a.0, a.1, of_second (map (λ (k : KnownSignalState). k.client) world.interlocking.ixl.known_signals) _ _ (length site.signals) place a.0.client (map_length _ world.interlocking.ixl.known_signals ∙ whole.clients.known_signals) (mapped (λ (k : KnownPointState). k.client) world.interlocking.ixl.known_points place a.0 a.1))

  abbrev UpByClock : ClientState → Type 0
  UpByClock client = is_up (settled (reading_of world.interlocking.clock) client.link).phase ≡ true

  signal_up : (place : ℕ) → place < length site.signals → IsClientUp place world → IsSignalUp place world
  signal_up place few up = let it = signal_there place few in (it.0, it.1, subst UpByClock (same_Some up.client it.0.client (sym up.there ∙ it.2)) up.up)

  pub point_up : (place : ℕ) → place < length site.points → IsClientUp (point_link site place) world → IsUpAtClock world place
  point_up place few up = let it = point_there place few in (it.0, it.1, subst UpByClock (same_Some up.client it.0.client (sym up.there ∙ it.2)) up.up)

  signal_ready : (place : ℕ) → place < length site.signals → IsReadyOn site place world → IsSignalReady world.interlocking.ixl place
  signal_ready place few ready = let it = signal_there place few in (it.0, it.1, ap (λ (c : ClientState). is_ready c.stage) (same_Some it.0.client ready.client (sym it.2 ∙ ready.there)) ∙ ready.client_ready)

-- ---- the course of a route through events

module _ (laws : LawsBelow) (ready_laws : LawsBelow) (sited : SitedTable) (station : IsStation sited.site) (once : Once sited.site) (is_table : IsTableOf sited.site sited.table)
    (number : ℕ) (row : Row) (row_there : slice_get sited.table.rows number ≡ Some row) where
  abbrev reach : LawsBelow
  reach = ready_laws

  is_whole : (world : WorldState) → IsReached sited.site sited.table world → IsWhole sited.site world
  is_whole world reached = (subst (IsStanding sited.site) (sym reached.after) (ready_laws.stations_have_links_run sited.site sited.table reached.outset reached.events station once reached.lies reached.can)).whole

  -- the route is on its course, and its links are up
  pub record IsOnWay (world : WorldState) : Type 0 where
    pub course : IsOnCourse world.interlocking.ixl number row
    pub ready : IsSignalReady world.interlocking.ixl row.entry
    pub up : AreLinksUp row world

  -- it has its aspect, and its points are known at their sides
  abbrev pub Proceeds : WorldState → Type 0
  Proceeds world = At world.interlocking.ixl.routes number HasAspect × AllKnown world.interlocking.ixl row.needs

  pub happens_way : (one : Event) (world : WorldState) → IsReached sited.site sited.table world → KeepsSetting sited.site number one → IsOnWay world → AreLinksUp row (happens sited.site sited.table one world)
      → AllClear sited.table (happens sited.site sited.table one world).interlocking.ixl row.sections → IsOnWay (happens sited.site sited.table one world)
  happens_way one world reached keeps is up clear = record {
    course = course_behind laws sited.site sited.table is_table number row row_there one world reached keeps is.up up is.ready clear is.course;
    ready = ready_behind laws sited.site sited.table is_table number row row_there one world reached keeps is.up up is.ready;
    up = up;
  }

  happens_proceeds : (one : Event) (world : WorldState) → IsReached sited.site sited.table world → KeepsSetting sited.site number one → IsOnWay world → AreLinksUp row (happens sited.site sited.table one world)
      → AllClear sited.table (happens sited.site sited.table one world).interlocking.ixl row.sections → Proceeds world → Proceeds (happens sited.site sited.table one world)
  happens_proceeds one world reached keeps is up clear (proceeds, known) = course_proceeds laws sited.site sited.table is_table number row row_there one world reached keeps is.up up is.ready clear proceeds known

  -- what holds of a world on its way goes on to the world that an event leaves, where the route's links are up and its sections clear
  pub record WayGoesOn (P : WorldState → Type 0) : Type 0 where
    pub on : (one : Event) (world : WorldState) → IsReached sited.site sited.table world → refusal sited.site one world ≡ None → KeepsSetting sited.site number one → IsOnWay world → AreLinksUp row (happens sited.site sited.table one world)
        → AllClear sited.table (happens sited.site sited.table one world).interlocking.ixl row.sections → P world → P (happens sited.site sited.table one world)

  pub proceeds_on : WayGoesOn Proceeds
  proceeds_on = record { on = λ one world reached none. happens_proceeds one world reached }

  pub nothing_on : WayGoesOn (λ world. Unit {0})
  nothing_on = record { on = λ one world reached none keeps is up clear so. tt }

  module _ (P : WorldState → Type 0) (goes : WayGoesOn P) where
    abbrev pub Way : WorldState → Type 0
    Way world = IsOnWay world × P world

    tried_way : (one : Event) (world : Played) → IsAt sited world → KeepsSetting sited.site number one → Way world.run → AreLinksUp row (after world one).run → HasClearSections row (after world one) → Way (after world one).run
    tried_way one world at keeps is = by_refusal (refusal_of one world) refl
      where
        happened_so : (s : SitedTable) → s ≡ sited → refusal s.site one world.run ≡ None → AreLinksUp row (happens s.site s.table one world.run) → AllClear s.table (happens s.site s.table one world.run).interlocking.ixl row.sections → Way (happens s.site s.table one world.run)
        happened_so s same = subst (λ (t : SitedTable). refusal t.site one world.run ≡ None → AreLinksUp row (happens t.site t.table one world.run) → AllClear t.table (happens t.site t.table one world.run).interlocking.ixl row.sections → Way (happens t.site t.table one world.run)) (sym same)
            (λ none up clear. (happens_way one world.run at.reached keeps is.0 up clear, goes.on one world.run at.reached none keeps is.0 up clear is.1))

        by_refusal : (why : Option Refused) → refusal_of one world ≡ why → AreLinksUp row (world_where why world (record world { run = happens world.sited.site world.sited.table one world.run })).run
            → HasClearSections row (world_where why world (record world { run = happens world.sited.site world.sited.table one world.run })) → Way (world_where why world (record world { run = happens world.sited.site world.sited.table one world.run })).run
        by_refusal (Some why) e up clear = is
        by_refusal None e up clear = happened_so world.sited at.same e up clear

    events_way : (events : List Event) (world : Played) → IsAt sited world → Each (KeepsSetting sited.site number) events → Way world.run → EachBehind (λ w. AreLinksUp row w.run) events world → EachBehind (HasClearSections row) events world
        → Way (after_each events world).run
    events_way [] world at keeps is up clear = is
    events_way (first ∷ others) world at keeps is up clear = events_way others (after world first) (tried_reached reach sited world first at) keeps.1 (tried_way first world at keeps.0 is up.0 clear.0) up.1 clear.1

    -- the events of a round cancel nothing
    round_keeps : (flowing : Flowing) → Each (KeepsSetting sited.site number) (map event_of (due flowing))
    round_keeps flowing = events_are (KeepsSetting sited.site number) (due flowing) (due_keep sited.site number flowing)

    all_keep : (between : List Event) (flowing : Flowing) → Each (KeepsSetting sited.site number) between → Each (KeepsSetting sited.site number) (events_of_round between flowing)
    all_keep between flowing keeps = each_both (KeepsSetting sited.site number) (map event_of (due flowing)) between (round_keeps flowing) keeps

    each_at : (events : List Event) (world : Played) → IsAt sited world → IsAt sited (after_each events world)
    each_at [] world at = at
    each_at (first ∷ others) world at = each_at others (after world first) (tried_reached reach sited world first at)

    round_is : (between : List Event) (flowing : Flowing) → (all_tried between (round flowing)).state ≡ after_each (events_of_round between flowing) flowing.state
    round_is between flowing = round_tried between flowing

    next_at : (between : List Event) (flowing : Flowing) → IsAt sited flowing.state → IsAt sited (all_tried between (round flowing)).state
    next_at between flowing at = subst (IsAt sited) (sym (round_is between flowing)) (each_at (events_of_round between flowing) flowing.state at)

    round_way : (between : List Event) (flowing : Flowing) → IsAt sited flowing.state → Each (KeepsSetting sited.site number) between → Way flowing.state.run → EachBehind (λ w. AreLinksUp row w.run) (events_of_round between flowing) flowing.state
        → EachBehind (HasClearSections row) (events_of_round between flowing) flowing.state → Way (all_tried between (round flowing)).state.run
    round_way between flowing at keeps is up clear = subst (λ (w : Played). Way w.run) (sym (round_is between flowing)) (events_way (events_of_round between flowing) flowing.state at (all_keep between flowing keeps) is up clear)

    pub rounds_way : (rounds : List (List Event)) (flowing : Flowing) → IsAt sited flowing.state → Each (Each (KeepsSetting sited.site number)) rounds → Way flowing.state.run → Throughout (λ w. AreLinksUp row w.run) rounds flowing
        → Throughout (HasClearSections row) rounds flowing → Way (good_rounds rounds flowing).state.run
    rounds_way [] flowing at keeps is up clear = is
    rounds_way (between ∷ later_rounds) flowing at keeps is up clear = rounds_way later_rounds (all_tried between (round flowing)) (next_at between flowing at) keeps.1 (round_way between flowing at keeps.0 is up.0 clear.0) up.1 clear.1

  -- it proceeds before each round, and after it
  front_behind : (holds : Played → Type 0) (one other : List Event) (world : Played) → EachBehind holds (one ++ other) world → EachBehind holds one world
  front_behind holds [] other world each = tt
  front_behind holds (first ∷ one) other world each = (each.0, front_behind holds one other (after world first) each.1)

  alone : (flowing : Flowing) → (round flowing).state ≡ after_each (map event_of (due flowing)) flowing.state
  alone flowing = round_tried [] flowing ∙ ap (λ (l : List Event). after_each l (after flowing.state (round_of_time flowing.state.sited.site))) (append-nil (map event_of (behind_time flowing)))

  proceeds_at : (flowing : Flowing) → IsAt sited flowing.state → Proceeds flowing.state.run → ProceedsAt number row flowing
  proceeds_at flowing at is = subst (λ (s : SitedTable). RouteProceeds s.table flowing.state.run.interlocking.ixl number row) (sym at.same) (is.0.0, (row_there, is.0.1), is.0.2.0)

  pub proceeds_through : (rounds : List (List Event)) (flowing : Flowing) → IsAt sited flowing.state → Each (Each (KeepsSetting sited.site number)) rounds → IsOnWay flowing.state.run → Proceeds flowing.state.run
      → Throughout (λ w. AreLinksUp row w.run) rounds flowing → Throughout (HasClearSections row) rounds flowing → ProceedsThrough number row rounds flowing
  proceeds_through [] flowing at keeps way is up clear = tt
  proceeds_through (between ∷ later_rounds) flowing at keeps way is up clear = (
    proceeds_at flowing at is,
    proceeds_at (round flowing) (subst (IsAt sited) (sym (alone flowing)) (each_at Proceeds proceeds_on (map event_of (due flowing)) flowing.state at)) (subst (λ (w : Played). Proceeds w.run) (sym (alone flowing)) round_alone.1),
    proceeds_through later_rounds (all_tried between (round flowing)) (next_at Proceeds proceeds_on between flowing at) keeps.1 next_way.0 next_way.1 up.1 clear.1,
  )
    where
      round_alone : Way Proceeds proceeds_on (after_each (map event_of (due flowing)) flowing.state).run
      round_alone = events_way Proceeds proceeds_on (map event_of (due flowing)) flowing.state at (round_keeps Proceeds proceeds_on flowing) (way, is)
          (front_behind (λ w. AreLinksUp row w.run) (map event_of (due flowing)) between flowing.state up.0) (front_behind (HasClearSections row) (map event_of (due flowing)) between flowing.state clear.0)

      next_way : Way Proceeds proceeds_on (all_tried between (round flowing)).state.run
      next_way = round_way Proceeds proceeds_on between flowing at keeps.0 (way, is) up.0 clear.0

  -- its sections stay clear
  abbrev pub Clear : WorldState → Type 0
  Clear world = AllClear sited.table world.interlocking.ixl row.sections

  pub clear_on : WayGoesOn Clear
  clear_on = record { on = λ one world reached none keeps is up clear so. clear }

  -- and what is known of its points stays known
  pub known_on : (need : Need) → Contains row.needs need → WayGoesOn (λ world. Known world.interlocking.ixl need.point need.side)
  known_on need within = record {
    on = λ one world reached none keeps is up clear known. known_behind laws sited.site sited.table is_table number row row_there one world reached keeps is.up up need within (happens_way one world reached keeps is up clear).course known;
  }

  -- ---- the links of the route, through rounds

  each_up : (events : List Event) (world : Played) → IsAt sited world → row.entry < length sited.site.signals → ((need : Need) → Contains row.needs need → need.point < length sited.site.points) → EachBehind (λ w. IsClientUp row.entry w.run) events world
      → ((need : Need) → Contains row.needs need → EachBehind (λ w. IsClientUp (point_link sited.site need.point) w.run) events world) → EachBehind (λ w. AreLinksUp row w.run) events world
  each_up [] world at few few_points signal points = tt
  each_up (first ∷ others) world at few few_points signal points = (
    record {
      signal = signal_up sited.site (after world first).run whole_then row.entry few signal.0;
      points = λ need within. point_up sited.site (after world first).run whole_then need.point (few_points need within) (points need within).0;
    },
    each_up others (after world first) then_at few few_points signal.1 (λ need within. (points need within).1),
  )
    where
      then_at : IsAt sited (after world first)
      then_at = tried_reached reach sited world first at

      whole_then : IsWhole sited.site (after world first).run
      whole_then = is_whole (after world first).run then_at.reached

  pub through_up : (rounds : List (List Event)) (flowing : Flowing) → IsAt sited flowing.state → row.entry < length sited.site.signals → ((need : Need) → Contains row.needs need → need.point < length sited.site.points)
      → Throughout (λ w. IsClientUp row.entry w.run) rounds flowing → ((need : Need) → Contains row.needs need → Throughout (λ w. IsClientUp (point_link sited.site need.point) w.run) rounds flowing) → Throughout (λ w. AreLinksUp row w.run) rounds flowing
  through_up [] flowing at few few_points signal points = tt
  through_up (between ∷ later_rounds) flowing at few few_points signal points = (
    each_up (events_of_round between flowing) flowing.state at few few_points signal.0 (λ need within. (points need within).0),
    through_up later_rounds (all_tried between (round flowing)) (next_at (λ world. Unit {0}) nothing_on between flowing at) few few_points signal.1 (λ need within. (points need within).1),
  )

each_halves : {A : Type 0} (P : A → Type 0) (one other : List A) → Each P (one ++ other) → Each P one × Each P other
each_halves P [] other each = (tt, each)
each_halves P (first ∷ one) other each = let more = each_halves P one other each.1 in ((each.0, more.0), more.1)

-- ---- from the round on in which its links are ready

-- at a moment at which a link is ready its client is up
ready_up : (site : Site) (station : IsStation site) (world : WorldState) → IsWhole site world → AllStandByCounts site world → (link : ℕ) → link < links site → IsReadyOn site link world → IsClientUp link world
ready_up site station world whole all link below ready = record {
  client = it.client;
  there = it.client_there;
  up = ap (λ (l : LinkState). is_up (settled (reading_of world.interlocking.clock) l).phase) (same_Some it.client.link ready.up.client (sym it.client_link ∙ ready.up.client_there)) ∙ ready.up.client_up;
}
  where
    it : Found site world link
    it = found site station world whole all link below

module _ (laws : LawsBelow) (between : List Event) (flowing : Flowing) (number : ℕ) (row : Row) (once : Once flowing.state.sited.site) (station : IsStation flowing.state.sited.site)
    (is_table : IsTableOf flowing.state.sited.site flowing.state.sited.table) (reached : IsReached flowing.state.sited.site flowing.state.sited.table flowing.state.run) (work : Each IsWork between)
    (row_there : slice_get flowing.state.sited.table.rows number ≡ Some row) where
  abbrev sited : SitedTable
  sited = flowing.state.sited

  abbrev begun : Flowing
  begun = all_tried between (round flowing)

  abbrev behind : List (List Event) → Flowing
  behind rounds = good_rounds rounds begun

  at_behind : (rounds : List (List Event)) → IsAt sited (behind rounds).state
  at_behind rounds = rounds_reached laws sited (between ∷ rounds) flowing (record { same = refl; reached = reached })

  whole_behind : (rounds : List (List Event)) → IsWhole sited.site (behind rounds).state.run
  whole_behind rounds = is_whole laws laws sited station once is_table number row row_there (behind rounds).state.run (at_behind rounds).reached

  entry_few : row.entry < length sited.site.signals
  entry_few = entry_there sited.site sited.table station is_table number row row_there

  -- a point that is known is one of the layout
  known_in_range : (rounds : List (List Event)) (point : ℕ) (side : Side) → Known (behind rounds).state.run.interlocking.ixl point side → point < length sited.site.points
  known_in_range rounds point side is =
      let few = slice_get_within (behind rounds).state.run.interlocking.ixl.known_points point is.0 is.1
      in let many = (whole_behind rounds).clients.known_points
      in omega (arith, few, many)

  signal_link : row.entry < links sited.site
  signal_link = let few = entry_few in omega (arith, few)

  module _ (later_rounds more : List (List Event)) (works : Each (Each IsWork) later_rounds) (more_works : Each (Each IsWork) more) (can : HasTime (suc (length (later_rounds ++ more))) flowing.state.run) (long : ready_rounds ≤ suc (length later_rounds))
      (below : AreBelowLimit sited.site row (later_rounds ++ more) begun) (keeps : Each (Each (KeepsSetting sited.site number)) more) (few : (need : Need) → Contains row.needs need → need.point < length sited.site.points) where
    point_there_link : (need : Need) → Contains row.needs need → point_link sited.site need.point < links sited.site
    point_there_link need within = let n = few need within in omega (arith, n)

    can_before : HasTime (suc (length later_rounds)) flowing.state.run
    can_before = fewer_time (suc (length later_rounds)) (suc (length (later_rounds ++ more))) (clocks_of flowing.state.run) (let n = length-append later_rounds more in omega (arith, n)) can

    ready_on : (link : ℕ) → link < links sited.site → StaysBelowLimit sited.site link (later_rounds ++ more) begun → IsReadyOn sited.site link (behind later_rounds).state.run
    ready_on link there stays = links_ready laws between later_rounds flowing link once station is_table reached work works can_before there long (λ before are. below_two link later_rounds more begun before (stays before are))

    up_on : (link : ℕ) → link < links sited.site → StaysBelowLimit sited.site link (later_rounds ++ more) begun → IsClientUp link (behind later_rounds).state.run
    up_on link there stays = ready_up sited.site station (behind later_rounds).state.run (whole_behind later_rounds) (stand_by_counts sited.site sited.table (behind later_rounds).state.run station (at_behind later_rounds).reached) link there (ready_on link there stays)

    throughout_up : (link : ℕ) → link < links sited.site → StaysBelowLimit sited.site link (later_rounds ++ more) begun → Throughout (λ world. IsClientUp link world.run) more (behind later_rounds)
    throughout_up link there stays = up_throughout laws between flowing link once station is_table reached work there later_rounds more works more_works can long stays

    all_up : Throughout (λ w. AreLinksUp row w.run) more (behind later_rounds)
    all_up = through_up laws laws sited station once is_table number row row_there more (behind later_rounds) (at_behind later_rounds) entry_few few (throughout_up row.entry signal_link below.signal)
        (λ need within. throughout_up (point_link sited.site need.point) (point_there_link need within) (below.points need within))

    way_before : IsOnCourse (behind later_rounds).state.run.interlocking.ixl number row → IsOnWay laws laws sited station once is_table number row row_there (behind later_rounds).state.run
    way_before course = record {
      course = course;
      ready = signal_ready sited.site (behind later_rounds).state.run (whole_behind later_rounds) row.entry entry_few (ready_on row.entry signal_link below.signal);
      up = record {
        signal = signal_up sited.site (behind later_rounds).state.run (whole_behind later_rounds) row.entry entry_few (up_on row.entry signal_link below.signal);
        points = λ need within. point_up sited.site (behind later_rounds).state.run (whole_behind later_rounds) need.point (few need within) (up_on (point_link sited.site need.point) (point_there_link need within) (below.points need within));
      };
    }

    -- the course goes on, and so does what goes on over each event of it
    pub goes_behind : (P : WorldState → Type 0) → WayGoesOn laws laws sited station once is_table number row row_there P → Throughout (HasClearSections row) more (behind later_rounds) → IsOnCourse (behind later_rounds).state.run.interlocking.ixl number row
        → P (behind later_rounds).state.run → IsOnWay laws laws sited station once is_table number row row_there (good_rounds more (behind later_rounds)).state.run × P (good_rounds more (behind later_rounds)).state.run
    goes_behind P goes clear course is = rounds_way laws laws sited station once is_table number row row_there P goes more (behind later_rounds) (at_behind later_rounds) keeps (way_before course, is) all_up clear

    -- and the sections stay clear
    way_behind : Throughout (HasClearSections row) more (behind later_rounds) → IsOnCourse (behind later_rounds).state.run.interlocking.ixl number row → AllClear sited.table (behind later_rounds).state.run.interlocking.ixl row.sections
        → IsOnWay laws laws sited station once is_table number row row_there (good_rounds more (behind later_rounds)).state.run × AllClear sited.table (good_rounds more (behind later_rounds)).state.run.interlocking.ixl row.sections
    way_behind clear course cleared = goes_behind (λ world. AllClear sited.table world.interlocking.ixl row.sections) (clear_on laws laws sited station once is_table number row row_there) clear course cleared

  throughout_front : (holds : Played → Type 0) (one other : List (List Event)) (start : Flowing) → Throughout holds (one ++ other) start → Throughout holds one start × Throughout holds other (good_rounds one start)
  throughout_front holds [] other start each = (tt, each)
  throughout_front holds (first ∷ one) other start each = let more = throughout_front holds one other (all_tried first (round start)) each.1 in ((each.0, more.0), more.1)

  fewer_below : (one other : List (List Event)) → AreBelowLimit sited.site row (one ++ other) begun → AreBelowLimit sited.site row one begun
  fewer_below one other below = record {
    signal = λ before are. below_two row.entry one other begun before (below.signal before are);
    points = λ need within before are. below_two (point_link sited.site need.point) one other begun before (below.points need within before are);
  }

  -- what is known after some of the rounds is known after all
  module _ (later_rounds front rest : List (List Event)) (works : Each (Each IsWork) later_rounds) (front_works : Each (Each IsWork) front) (rest_works : Each (Each IsWork) rest)
      (can : HasTime (suc (length ((later_rounds ++ front) ++ rest))) flowing.state.run) (long : ready_rounds ≤ suc (length later_rounds)) (below : AreBelowLimit sited.site row ((later_rounds ++ front) ++ rest) begun)
      (keeps : Each (Each (KeepsSetting sited.site number)) front) (rest_keeps : Each (Each (KeepsSetting sited.site number)) rest) (few : (need : Need) → Contains row.needs need → need.point < length sited.site.points)
      (course : IsOnCourse (behind later_rounds).state.run.interlocking.ixl number row) (cleared : AllClear sited.table (behind later_rounds).state.run.interlocking.ixl row.sections)
      (clear : Throughout (HasClearSections row) (front ++ rest) (behind later_rounds)) (need : Need) (within : Contains row.needs need) where
    some_works : Each (Each IsWork) (later_rounds ++ front)
    some_works = each_both (Each IsWork) later_rounds front works front_works

    some_long : ready_rounds ≤ suc (length (later_rounds ++ front))
    some_long = let n = length-append later_rounds front in omega (arith, long, n)

    front_way : IsOnWay laws laws sited station once is_table number row row_there (good_rounds front (behind later_rounds)).state.run
    front_way = (way_behind later_rounds front works front_works (fewer_time (suc (length (later_rounds ++ front))) (suc (length ((later_rounds ++ front) ++ rest))) (clocks_of flowing.state.run) (let n = length-append (later_rounds ++ front) rest in omega (arith, n)) can) long
        (fewer_below (later_rounds ++ front) rest below) keeps few (throughout_front (HasClearSections row) front rest (behind later_rounds) clear).0 course cleared).0

    rest_up : Throughout (λ w. AreLinksUp row w.run) rest (good_rounds front (behind later_rounds))
    rest_up = subst (Throughout (λ w. AreLinksUp row w.run) rest) (rounds_both later_rounds front begun) (all_up (later_rounds ++ front) rest some_works rest_works can some_long below rest_keeps few)

    pub stays_known : Known (good_rounds front (behind later_rounds)).state.run.interlocking.ixl need.point need.side → Known (good_rounds (front ++ rest) (behind later_rounds)).state.run.interlocking.ixl need.point need.side
    stays_known known = subst (λ (f : Flowing). Known f.state.run.interlocking.ixl need.point need.side) (sym (rounds_both front rest (behind later_rounds)))
        (rounds_way laws laws sited station once is_table number row row_there (λ world. Known world.interlocking.ixl need.point need.side) (known_on laws laws sited station once is_table number row row_there need within) rest
        (good_rounds front (behind later_rounds)) (subst (λ (f : Flowing). IsAt sited f.state) (rounds_both later_rounds front begun) (at_behind (later_rounds ++ front))) rest_keeps (front_way, known) rest_up
        (throughout_front (HasClearSections row) front rest (behind later_rounds) clear).1).1

  -- so is what is known within them
  by_parts : (later_rounds front rest still : List (List Event)) → Each (Each IsWork) later_rounds → ready_rounds ≤ suc (length later_rounds) → ((need : Need) → Contains row.needs need → need.point < length sited.site.points)
      → IsOnCourse (behind later_rounds).state.run.interlocking.ixl number row → AllClear sited.table (behind later_rounds).state.run.interlocking.ixl row.sections → (need : Need) → Contains row.needs need → Known (good_rounds front (behind later_rounds)).state.run.interlocking.ixl need.point need.side
      → Each (Each IsWork) (front ++ rest) → HasTime (suc (length ((later_rounds ++ (front ++ rest)) ++ still))) flowing.state.run → AreBelowLimit sited.site row ((later_rounds ++ (front ++ rest)) ++ still) begun → Each (Each (KeepsSetting sited.site number)) (front ++ rest)
      → Throughout (HasClearSections row) ((front ++ rest) ++ still) (behind later_rounds) → Known (good_rounds (front ++ rest) (behind later_rounds)).state.run.interlocking.ixl need.point need.side
  by_parts later_rounds front rest still works long few course cleared need within known both can below keeps clear =
      let w = each_halves (Each IsWork) front rest both
      in let k = each_halves (Each (KeepsSetting sited.site number)) front rest keeps
      in stays_known later_rounds front rest works w.0 w.1
      (fewer_time (suc (length ((later_rounds ++ front) ++ rest))) (suc (length ((later_rounds ++ (front ++ rest)) ++ still))) (clocks_of flowing.state.run)
      (let n = length-append (later_rounds ++ (front ++ rest)) still in let m = ap length (append_assoc later_rounds front rest) in omega (arith, n, m)) can) long
      (subst (λ (l : List (List Event)). AreBelowLimit sited.site row l begun) (sym (append_assoc later_rounds front rest)) (fewer_below (later_rounds ++ (front ++ rest)) still below)) k.0 k.1 few course cleared
      (throughout_front (HasClearSections row) (front ++ rest) still (behind later_rounds) clear).0 need within known

  all_within : (later_rounds more still : List (List Event)) → Each (Each IsWork) later_rounds → ready_rounds ≤ suc (length later_rounds) → IsOnCourse (behind later_rounds).state.run.interlocking.ixl number row → AllClear sited.table (behind later_rounds).state.run.interlocking.ixl row.sections
      → AreKnownWithin row more (behind later_rounds) → Each (Each IsWork) more → HasTime (suc (length ((later_rounds ++ more) ++ still))) flowing.state.run → AreBelowLimit sited.site row ((later_rounds ++ more) ++ still) begun → Each (Each (KeepsSetting sited.site number)) more
      → Throughout (HasClearSections row) (more ++ still) (behind later_rounds) → AllKnown (behind (later_rounds ++ more)).state.run.interlocking.ixl row.needs
  all_within later_rounds more still works long course cleared found more_works can below keeps clear = each_of (λ (need : Need). Known (behind (later_rounds ++ more)).state.run.interlocking.ixl need.point need.side) row.needs (λ need within.
      subst (λ (f : Flowing). Known f.state.run.interlocking.ixl need.point need.side) (sym (rounds_both later_rounds more begun)) (by_need need within (found need within) more_works can below keeps clear))
    where
      in_range : (need : Need) → Contains row.needs need → need.point < length sited.site.points
      in_range need within = let w = found need within in known_in_range (later_rounds ++ w.front) need.point need.side (subst (λ (f : Flowing). Known f.state.run.interlocking.ixl need.point need.side) (sym (rounds_both later_rounds w.front begun)) w.known)

      by_need : (need : Need) → Contains row.needs need → IsKnownWithin need more (behind later_rounds) → Each (Each IsWork) more → HasTime (suc (length ((later_rounds ++ more) ++ still))) flowing.state.run → AreBelowLimit sited.site row ((later_rounds ++ more) ++ still) begun
          → Each (Each (KeepsSetting sited.site number)) more → Throughout (HasClearSections row) (more ++ still) (behind later_rounds) → Known (good_rounds more (behind later_rounds)).state.run.interlocking.ixl need.point need.side
      by_need need within w = subst (λ (m : List (List Event)). Each (Each IsWork) m → HasTime (suc (length ((later_rounds ++ m) ++ still))) flowing.state.run → AreBelowLimit sited.site row ((later_rounds ++ m) ++ still) begun → Each (Each (KeepsSetting sited.site number)) m
          → Throughout (HasClearSections row) (m ++ still) (behind later_rounds) → Known (good_rounds m (behind later_rounds)).state.run.interlocking.ixl need.point need.side) (sym w.parts)
          (by_parts later_rounds w.front w.rest still works long in_range course cleared need within w.known)

  module _ (later_rounds more still : List (List Event)) (works : Each (Each IsWork) later_rounds) (more_works : Each (Each IsWork) more) (still_works : Each (Each IsWork) still)
      (can : HasTime (suc (length ((later_rounds ++ more) ++ still))) flowing.state.run) (long : ready_rounds ≤ suc (length later_rounds)) (below : AreBelowLimit sited.site row ((later_rounds ++ more) ++ still) begun)
      (keeps : Each (Each (KeepsSetting sited.site number)) more) (still_keeps : Each (Each (KeepsSetting sited.site number)) still) (course : IsOnCourse (behind later_rounds).state.run.interlocking.ixl number row)
      (cleared : AllClear sited.table (behind later_rounds).state.run.interlocking.ixl row.sections) (clear : Throughout (HasClearSections row) (more ++ still) (behind later_rounds))
      (known : AllKnown (behind (later_rounds ++ more)).state.run.interlocking.ixl row.needs) where
    few : (need : Need) → Contains row.needs need → need.point < length sited.site.points
    few need within = known_in_range (later_rounds ++ more) need.point need.side (All-contains (λ (one : Need). Known (behind (later_rounds ++ more)).state.run.interlocking.ixl one.point one.side) row.needs need known within)

    -- after the first rounds, and after more
    first_way : IsOnWay laws laws sited station once is_table number row row_there (behind (later_rounds ++ more)).state.run × AllClear sited.table (behind (later_rounds ++ more)).state.run.interlocking.ixl row.sections
    first_way = subst (λ (f : Flowing). IsOnWay laws laws sited station once is_table number row row_there f.state.run × AllClear sited.table f.state.run.interlocking.ixl row.sections) (sym (rounds_both later_rounds more begun))
        (way_behind later_rounds more works more_works (fewer_time (suc (length (later_rounds ++ more))) (suc (length ((later_rounds ++ more) ++ still))) (clocks_of flowing.state.run) (let n = length-append (later_rounds ++ more) still in omega (arith, n)) can) long
        (fewer_below (later_rounds ++ more) still below) keeps few (throughout_front (HasClearSections row) more still (behind later_rounds) clear).0 course cleared)

    goes_on : IsOnCourse (behind (later_rounds ++ more)).state.run.interlocking.ixl number row → At (behind (later_rounds ++ more)).state.run.interlocking.ixl.routes number (λ route. Waits route ⊎ HasAspect route)
    goes_on (inl waits) = (waits.0, waits.1, inl waits.2)
    goes_on (inr (proceeds, points)) = (proceeds.0, proceeds.1, inr proceeds.2)

    pub has_aspect : At (behind (later_rounds ++ more)).state.run.interlocking.ixl.routes number HasAspect
    has_aspect = course_ends laws sited.site sited.table is_table number row row_there (behind (later_rounds ++ more)).state.run (at_behind (later_rounds ++ more)).reached (goes_on first_way.0.course) (known, first_way.1, first_way.0.ready)

    all_works : Each (Each IsWork) (later_rounds ++ more)
    all_works = each_both (Each IsWork) later_rounds more works more_works

    long_enough : ready_rounds ≤ suc (length (later_rounds ++ more))
    long_enough = let n = length-append later_rounds more in omega (arith, long, n)

    still_clear : Throughout (HasClearSections row) still (behind (later_rounds ++ more))
    still_clear = subst (Throughout (HasClearSections row) still) (sym (rounds_both later_rounds more begun)) (throughout_front (HasClearSections row) more still (behind later_rounds) clear).1

    proceeds_still : ProceedsThrough number row still (behind (later_rounds ++ more))
    proceeds_still = proceeds_through laws laws sited station once is_table number row row_there still (behind (later_rounds ++ more)) (at_behind (later_rounds ++ more)) still_keeps first_way.0 (has_aspect, known)
        (all_up (later_rounds ++ more) still all_works still_works can long_enough below still_keeps few) still_clear

    pub comes : ShowsThrough row.entry row.aspect still (behind (later_rounds ++ more))
    comes = stays_shown laws between (later_rounds ++ more) still flowing number row once station is_table reached work all_works still_works can (omega (arith, long_enough)) below.signal proceeds_still

-- a set route, by the table of the first moment
module _ (laws : LawsBelow) (between : List Event) (later_rounds more still : List (List Event)) (flowing : Flowing) (number : ℕ) (row : Row) (once : Once flowing.state.sited.site) (station : IsStation flowing.state.sited.site)
    (is_table : IsTableOf flowing.state.sited.site flowing.state.sited.table) (reached : IsReached flowing.state.sited.site flowing.state.sited.table flowing.state.run) (work : Each IsWork between)
    (works : Each (Each IsWork) later_rounds) (more_works : Each (Each IsWork) more) (still_works : Each (Each IsWork) still) (can : HasTime (suc (length ((later_rounds ++ more) ++ still))) flowing.state.run)
    (long : ready_rounds ≤ suc (length later_rounds)) (row_there : slice_get flowing.state.sited.table.rows number ≡ Some row)
    (below : AreBelowLimit flowing.state.sited.site row ((later_rounds ++ more) ++ still) (all_tried between (round flowing))) (set : StaysSet number row (more ++ still) (good_rounds (between ∷ later_rounds) flowing))
    (found : AreKnownWithin row more (good_rounds (between ∷ later_rounds) flowing)) where
  abbrev first : SitedTable
  first = flowing.state.sited

  same : (good_rounds (between ∷ later_rounds) flowing).state.sited ≡ first
  same = (at_behind laws between flowing number row once station is_table reached work row_there later_rounds).same

  kept : Each (Each (KeepsSetting first.site number)) more × Each (Each (KeepsSetting first.site number)) still
  kept = each_halves (Each (KeepsSetting first.site number)) more still (subst (λ (s : SitedTable). Each (Each (KeepsSetting s.site number)) (more ++ still)) same set.kept)

  cleared : AllClear first.table (good_rounds (between ∷ later_rounds) flowing).state.run.interlocking.ixl row.sections
  cleared = subst (λ (s : SitedTable). AllClear s.table (good_rounds (between ∷ later_rounds) flowing).state.run.interlocking.ixl row.sections) same set.clear

  known : AllKnown (good_rounds (between ∷ (later_rounds ++ more)) flowing).state.run.interlocking.ixl row.needs
  known = all_within laws between flowing number row once station is_table reached work row_there later_rounds more still works long set.course cleared found more_works can below kept.0 set.stays_clear

  pub route_proceeds : At (good_rounds (between ∷ (later_rounds ++ more)) flowing).state.run.interlocking.ixl.routes number HasAspect
  route_proceeds = has_aspect laws between flowing number row once station is_table reached work row_there later_rounds more still works more_works still_works can long below kept.0 kept.1 set.course cleared set.stays_clear known

  pub route_comes : ShowsThrough row.entry row.aspect still (good_rounds (between ∷ (later_rounds ++ more)) flowing)
  route_comes = comes laws between flowing number row once station is_table reached work row_there later_rounds more still works more_works still_works can long below kept.0 kept.1 set.course cleared set.stays_clear known

-- ---- a request that is accepted

module _ (laws : LawsBelow) (reach : LawsBelow) (site : Site) (table : Table) (is_table : IsTableOf site table) (world : WorldState) (reached : IsReached site table world) (route : RouteId) (row : Row) (row_there : slice_get table.rows route.0 ≡ Some row)
    (accepted : answered site table (Event.Request (Command.Request route)) world ≡ Answer.Accepted) where
  abbrev then_is : WorldState
  then_is = happens site table (Event.Request (Command.Request route)) world

  pub on_course : IsOnCourse then_is.interlocking.ixl route.0 row
  on_course = accepted_course site table world route accepted row row_there

  never_refused : refusal site (Event.Request (Command.Request route)) world ≡ None
  unfolding refusal
  never_refused = refl

  -- where its points are known, it has its aspect in the same step
  pub proceeds_at_once : AllKnown then_is.interlocking.ixl row.needs → IsSignalReady then_is.interlocking.ixl row.entry → At then_is.interlocking.ixl.routes route.0 HasAspect
  proceeds_at_once known ready = course_ends laws site table is_table route.0 row row_there then_is (reach.reached_worlds_are_safe_on site table (Event.Request (Command.Request route)) world reached never_refused) (accepted_goes_on site table world route accepted)
      (known, accepted_clear site table world route laws.request_is_accepted_where_admissible row row_there accepted, ready)
