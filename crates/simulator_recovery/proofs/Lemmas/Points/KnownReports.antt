-- A report that has come over, and that answers all that was given, makes its point known.
use Rattle.simulator_recovery.proofs.Words.Basics.{◌≡◌, ℕ, ◌+◌, ◌≤◌, ◌<◌, ◌∙◌, true, List, [], ◌∷◌, ◌++◌, append-nil, length, Option, Some, Ok, slice_get, refl, sym, ap, subst, arith, false≢true, length-append, same_Some}
use Rattle.simulator_recovery.proofs.Words.Links.{settled, AreTimely, reading_of, AreLinks, Links, begun, LinkState, is_open, is_up, Role}
use Rattle.simulator_recovery.proofs.Words.Controllers.{IsName, reading, Message, PointPosition, Protocol, Side, HostState, telegram_of, item_of, Report, point_behaviour, PointState, own_report}
use Rattle.simulator_recovery.proofs.Words.Interlockings.{IsTableOf, ClientState, PeerState, is_available, is_ready, told_by, told_by_all, told_of, place_of, ObjectState, Stage, Known, KnownPointState, KnownSignalState, side_heard, side_of, Point, Table}
use Rattle.simulator_recovery.proofs.Words.Stations.{Site, Point as PointEntry, Once, IsStation, position_of, names_at, starts_at_zero, links, partners, point_link, ClockedControllerState, WorldState, HasLinks, links_in, IsPeer, client_states, IsReached, IsReadOff, IsTakenOf}
use Rattle.simulator_recovery.proofs.Words.Recovery.{ClientHasSaid, commanded, AreMatched, ReportsLast, side_told, AreInOne, IsUpOn, peer_for, ReportsCome, reports_in, IsReadyOn, Any, LawsBelow, WrittenIsRead}
use Rattle.simulator_recovery.proofs.Lemmas.Ground.ClientItem.{partners_length}
use Rattle.simulator_recovery.proofs.Lemmas.Talk.AlwaysExpected.{gives_no_more}
use Rattle.simulator_recovery.proofs.Lemmas.Ground.SectionsEvents.{HasHeld}
use Rattle.simulator_recovery.proofs.Lemmas.Ground.AtLink.{mapped, of_second}
use Rattle.simulator_recovery.proofs.Lemmas.Talk.ClientLinks.{up_open}
use Rattle.simulator_recovery.proofs.Lemmas.Talk.ControllerTells.{Tells}
use Rattle.simulator_recovery.proofs.Lemmas.Ground.ControllersOnLinks.{Lists, lists_of}
use Rattle.simulator_recovery.proofs.Lemmas.Links.HandedOver.{client_is}
use Rattle.simulator_recovery.proofs.Lemmas.Links.InOne.{in_one}
use Rattle.simulator_recovery.proofs.Lemmas.Points.KnownAlways.{Knowing, knowing_first, knowing_held, knowing_on}
use Rattle.simulator_recovery.proofs.Lemmas.Points.KnownClient.{told_both}
use Rattle.simulator_recovery.proofs.Lemmas.Ground.LinkCounts.{settled_open}
use Rattle.simulator_recovery.proofs.Lemmas.Ground.EndCalls.{at_place, map_length, none_long}
use Rattle.simulator_recovery.proofs.Lemmas.Ground.MatchedEnds.{points_keep, spoken}
use Rattle.simulator_recovery.proofs.Lemmas.Ground.OwnReports.{reports_own}
use Rattle.simulator_recovery.proofs.Lemmas.Silence.Shown.{counted_given, counted_taken}
use Rattle.simulator_recovery.proofs.Lemmas.Silence.Spent.{settled_given, settled_taken}

-- ---- what was given and taken at a moment at which a point's link is up, by whatever links

module _ (laws : LawsBelow) (site : Site) (station : IsStation site) (once : Once site) (world : WorldState) (place : ℕ) (few : place < length site.points) (up : IsUpOn (point_link site place) world) (connection : ℕ)
    (is_in : slice_get world.interlocking.connections (point_link site place) ≡ Some (Some connection)) (has : HasLinks site world) where
  abbrev at_link : ℕ
  at_link = point_link site place

  within_links : at_link < links site
  within_links = omega (arith, few)

  timely_in : AreTimely (links site) (names_at site) (links_in has)
  timely_in = laws.links_keep_time_run (links site) (names_at site) has.events (begun (names_at site) starts_at_zero) named (laws.links_keep_time_starts (links site) (names_at site) starts_at_zero named) has.may
    where
      named : AreLinks (links site) (names_at site)
      named = laws.layouts_name_their_links site station once

  pub one_in : AreInOne at_link (links_in has)
  one_in = in_one laws site at_link world (links_in has) within_links timely_in has.are up

  same_in : one_in.connection ≡ connection
  same_in =
      let id = at_place (partners site) at_link (subst (λ (n : ℕ). at_link < n) (sym (partners_length site)) within_links)
      in let there = (has.are.clients at_link id.0 id.1).connection_is ∙ ap Some one_in.client
      in same_Some one_in.connection connection (same_Some (Some one_in.connection) (Some connection) (sym there ∙ is_in))

  pub off_in : IsReadOff (reports_in site place connection world) connection ((links_in has).ends at_link).server ((links_in has).ends at_link).client
  off_in = laws.items_are_read_off_the_datagrams site world once station has at_link within_links Role.Server connection (one_in.server ∙ ap Some same_in)

  pub took_in : IsTakenOf (reports_in site place connection world) ((links_in has).ends at_link).client
  took_in = off_in.taken (one_in.client ∙ ap Some same_in)

  pub open_in : is_open ((links_in has).ends at_link).client.link.phase ≡ true
  open_in = ap (λ (l : LinkState). is_open l.phase) (client_is site at_link within_links world (links_in has) has.are up) ∙ up_open (settled (reading_of world.interlocking.clock) up.client).phase up.client_up

  pub count_in : up.client.taken ≡ length ((links_in has).ends at_link).client.taken
  count_in = sym (settled_taken (reading_of world.interlocking.clock) up.client) ∙ ap (λ (l : LinkState). l.taken) (sym (client_is site at_link within_links world (links_in has) has.are up))
      ∙ counted_taken ((links_in has).ends at_link).client took_in.counted open_in

-- ---- a report tells its side

module _ (written : WrittenIsRead) (site : Site) (name : List ℕ) (peer : PeerState) (is_peer : IsPeer peer) (peer_is : peer ≡ peer_for Protocol.Point site name (name ∷ [])) (host : HostState PointState) (lists : Lists)
    (tells : Tells point_behaviour Any (spoken site) name site.station.name (points_keep site) host lists) (side : Side) where
  abbrev position_report : Report
  position_report = own_report (Message.Point (PointPosition (position_of side)))

  matched : AreMatched point_behaviour peer host
  matched = subst (λ (p : PeerState). AreMatched point_behaviour p host) (sym peer_is) (record { own_name = tells.kept_so.peer_is; name = tells.kept_so.own_is; version = tells.kept_so.version_is; protocol = refl })

  alone : peer.objects ≡ peer.name ∷ []
  alone = subst (λ (p : PeerState). p.objects ≡ p.name ∷ []) (sym peer_is) refl

  report_read : reading (item_of host position_report) ≡ Ok (telegram_of position_report host)
  report_read = written (telegram_of position_report host) (record {
    sender = subst IsName (sym matched.name) is_peer.name;
    receiver = subst IsName (sym matched.own_name) is_peer.own_name;
    message = tt;
  })

  own_is : place_of peer host.own_name ≡ Some 0
  own_is = (reports_own written point_behaviour peer is_peer host matched alone (Message.Point (PointPosition (position_of side))) (ObjectState.Position (position_of side)) refl matched.protocol refl).of

  report_told : told_by peer (reading (item_of host position_report)) ≡ record { place = 0; state = ObjectState.Position (position_of side) } ∷ []
  report_told = ap (told_by peer) report_read ∙ ap (λ (found : Option ℕ). told_of found (Some (ObjectState.Position (position_of side)))) own_is

  side_is : (one : Side) → side_of (ObjectState.Position (position_of one)) ≡ Some one
  side_is Side.Right = refl
  side_is Side.Left = refl

  pub report_tells : (front : List (List ℕ)) → side_told peer (front ++ item_of host position_report ∷ []) ≡ Some side
  unfolding told_by_all
  report_tells front = told_both peer front (item_of host position_report ∷ []) ∙ (ap (λ list. side_heard (list ++ []) (side_told peer front)) report_told ∙ side_is side)

-- ---- a report that comes

module _ (laws : LawsBelow) (site : Site) (table : Table) (station : IsStation site) (once : Once site) (is_table : IsTableOf site table) (old new : WorldState) (was_reached : IsReached site table old) (reached : IsReached site table new) (place : ℕ) (few : place < length site.points)
    (side : Side) (comes : ReportsCome site place old new) (last : ReportsLast site place side comes.connection old) (ready : IsReadyOn site (point_link site place) new) where
  abbrev at : ℕ
  at = point_link site place

  abbrev up : IsUpOn at new
  up = ready.up

  abbrev Held : WorldState → Type 0
  Held = HasHeld laws site table station once (Knowing laws site table station once is_table) (knowing_first laws site table station once is_table) (knowing_on laws site table station once is_table)

  held : Held new
  held = knowing_held laws site table station once is_table new reached

  was_held : Held old
  was_held = knowing_held laws site table station once is_table old was_reached

  abbrev network : Links
  network = links_in held.has

  below : at < links site
  below = omega (arith, few)

  -- what was given and taken then
  abbrev one : (has : HasLinks site new) → AreInOne at (links_in has)
  one has = one_in laws site station once new place few up comes.connection comes.is_in has

  abbrev off : (has : HasLinks site new) → IsReadOff (reports_in site place comes.connection new) comes.connection ((links_in has).ends at).server ((links_in has).ends at).client
  off has = off_in laws site station once new place few up comes.connection comes.is_in has

  abbrev took : (has : HasLinks site new) → IsTakenOf (reports_in site place comes.connection new) ((links_in has).ends at).client
  took has = took_in laws site station once new place few up comes.connection comes.is_in has

  abbrev client_open : (has : HasLinks site new) → is_open ((links_in has).ends at).client.link.phase ≡ true
  client_open has = open_in laws site station once new place few up comes.connection comes.is_in has

  abbrev taken_count : (has : HasLinks site new) → up.client.taken ≡ length ((links_in has).ends at).client.taken
  taken_count has = count_in laws site station once new place few up comes.connection comes.is_in has

  -- ---- the point

  known : (one : KnownPointState) × (slice_get new.interlocking.ixl.known_points place ≡ Some one)
  known = let many = held.holds.stands.whole.clients.known_points in at_place new.interlocking.ixl.known_points place (omega (arith, few, many))

  entry : (one : PointEntry) × (slice_get site.points place ≡ Some one)
  entry = at_place site.points place few

  controller : (one : ClockedControllerState PointState) × (slice_get new.points place ≡ Some one)
  controller = let many = held.holds.stands.whole.points in at_place new.points place (omega (arith, few, many))

  client_there : up.client ≡ known.0.client.link
  client_there = same_Some up.client known.0.client.link (sym up.client_there ∙ of_second _ _ _ (length site.signals) place known.0.client.link
      (map_length (λ (k : KnownSignalState). k.client.link) new.interlocking.ixl.known_signals ∙ held.holds.stands.whole.clients.known_signals) (mapped (λ (k : KnownPointState). k.client.link) new.interlocking.ixl.known_points place known.0 known.1))

  peer_is : known.0.client.peer ≡ peer_for Protocol.Point site entry.0.name (entry.0.name ∷ [])
  peer_is = held.holds.stands.talking.matching.clients.points place known.0 known.1 entry.0 entry.1

  state_there : slice_get (client_states new.interlocking.ixl) at ≡ Some known.0.client
  state_there = of_second _ _ _ (length site.signals) place known.0.client
      (map_length (λ (k : KnownSignalState). k.client) new.interlocking.ixl.known_signals ∙ held.holds.stands.whole.clients.known_signals) (mapped (λ (k : KnownPointState). k.client) new.interlocking.ixl.known_points place known.0 known.1)

  is_peer : IsPeer known.0.client.peer
  is_peer = held.holds.stands.whole.clients.peers at known.0.client state_there

  -- the report tells this side
  abbrev host : HostState PointState
  host = last.controller.host

  abbrev report : Report
  report = own_report (Message.Point (PointPosition (position_of side)))

  alone_is : known.0.client.peer.objects ≡ known.0.client.peer.name ∷ []
  alone_is = subst (λ (p : PeerState). p.objects ≡ p.name ∷ []) (sym peer_is) refl

  last_told : side_told known.0.client.peer (last.front ++ item_of host report ∷ []) ≡ Some side
  last_told = report_tells laws.written_telegram_is_read site entry.0.name known.0.client.peer is_peer peer_is host (lists_of ((links_in was_held.has).ends at).server) (was_held.holds.stands.telling.of_points place last.controller last.there entry.0 entry.1) side last.front

  -- ---- all is answered

  module _ (answered : 2 + up.client.given ≤ length (reports_in site place comes.connection old)) where
    given_count : up.client.given ≡ length (network.ends at).client.given
    given_count = sym (settled_given (reading_of new.interlocking.clock) up.client) ∙ ap (λ (l : LinkState). l.given) (sym (client_is site at below new network held.has.are up))
        ∙ counted_given (network.ends at).client (took held.has).counted (client_open held.has)

    no_more : length (network.ends at).server.given ≤ 2 + length (network.ends at).client.given
    no_more = gives_no_more laws site table station once is_table new network held.holds.stands place controller.0 controller.1 (one held.has).connection (one held.has).client (one held.has).server

    abbrev was_told : List (List ℕ)
    was_told = reports_in site place comes.connection old

    abbrev is_told : List (List ℕ)
    is_told = reports_in site place comes.connection new

    abbrev taken : List (List ℕ)
    taken = (network.ends at).client.taken

    abbrev come : List (List ℕ)
    come = ((links_in comes.has).ends at).client.taken

    sent_count : length is_told ≤ 2 + up.client.given
    sent_count = let same = ap length (off held.has).given in let count = given_count in let few_given = no_more in omega (arith, same, count, few_given)

    -- nothing more was sent, and all of it was taken
    none_more : (length comes.more ≡ 0) × (length comes.rest ≡ 0)
    none_more =
        let all = ap length comes.sent ∙ length-append come comes.rest
        in let parts = ap length comes.taken ∙ length-append was_told comes.more
        in let most = sent_count
        in (omega (arith, all, parts, most, answered), omega (arith, all, parts, most, answered))

    same_told : is_told ≡ was_told
    same_told = comes.sent ∙ (ap (λ (list : List (List ℕ)). come ++ list) (none_long comes.rest none_more.1)
        ∙ (append-nil come ∙ (comes.taken ∙ (ap (λ (list : List (List ℕ)). was_told ++ list) (none_long comes.more none_more.0) ∙ append-nil was_told))))

    taken_many : length taken ≡ length is_told
    taken_many =
        let here = taken_count held.has
        in let there = taken_count comes.has
        in let all = ap length comes.sent ∙ length-append come comes.rest
        in let none = none_more.1
        in omega (arith, here, there, all, none)

    taken_is : taken ≡ last.front ++ item_of host report ∷ []
    taken_is = sym (append-nil taken) ∙ (ap (λ (list : List (List ℕ)). taken ++ list) (sym (none_long (took held.has).rest none)) ∙ (sym (took held.has).beginning ∙ (same_told ∙ last.last)))
      where
        none : length (took held.has).rest ≡ 0
        none = let all = ap length (took held.has).beginning ∙ length-append taken (took held.has).rest in let many = taken_many in omega (arith, all, many)

    was_up : is_up known.0.client.link.phase ≡ true
    was_up = ap (λ (l : LinkState). is_up l.phase) (sym client_there) ∙ (ap (λ (l : LinkState). is_up l.phase) (sym (settled_open (reading_of new.interlocking.clock) up.client (up_open _ up.client_up)).0) ∙ up.client_up)

    ready_now : is_ready known.0.client.stage ≡ true
    ready_now = ap (λ (c : ClientState). is_ready c.stage) (same_Some known.0.client ready.client (sym state_there ∙ ready.there)) ∙ ready.client_ready

    available : (s : Stage) → is_ready s ≡ true → ClientHasSaid site (Point place) known.0.client.peer s (length taken) (network.ends at).client.given → is_available s ≡ true
    available Stage.Completed e said = refl
    available Stage.AwaitsReport e (c, waits) =
        let given = ap length c.are
        in let moves = map_length (commanded known.0.client.peer) c.commands
        in let objects = ap length alone_is
        in let count = given_count
        in let many = taken_many
        in let same = ap length same_told
        in absurd (omega (arith, waits, given, moves, objects, count, many, same, answered))
    available Stage.Outside e said = absurd (false≢true e)
    available Stage.AwaitsAnswer e said = absurd (false≢true e)
    available Stage.AwaitsStart e said = absurd (false≢true e)
    available (Stage.AwaitsStatus left) e said = absurd (false≢true e)

    pub is_known : Known new.interlocking.ixl place side
    is_known = (
      known.0,
      known.1,
      (
        available known.0.client.stage ready_now ((held.holds.stands.talking.talk.points place known.0 known.1).said (up_open _ was_up)),
        (held.holds.knows place known.0 known.1).last was_up ∙ (ap (side_told known.0.client.peer) taken_is ∙ last_told),
      ),
    )
