-- A point that stands at a side, with its moves answered, is known at this side, where its link is up at both ends and no move is out.
use Rattle.simulator_recovery.proofs.Words.Basics.{◌≡◌, ◌⊎◌, inl, inr, ℕ, ◌<◌, ◌≤◌, List, [], ◌∷◌, length, map, true, Some, None, slice_get, refl, sym, ap, subst, ◌∙◌, arith, length-append, same_Some, slice_get_within}
use Rattle.simulator_recovery.proofs.Words.Links.{settled, Each, reading_of, items_given, Links, OnLink, of_link, seen, LinkState, is_open, is_up, Role}
use Rattle.simulator_recovery.proofs.Words.Controllers.{PointState, Side}
use Rattle.simulator_recovery.proofs.Words.Interlockings.{IsTableOf, is_available, IsAvailable, Known, KnownPointState, KnownSignalState, Table}
use Rattle.simulator_recovery.proofs.Words.Stations.{Site, Point as PointEntry, Once, IsStation, ServerEnd, end_of_server, names_at, links, partners, point_link, ClockedControllerState, WorldState, links_in, IsWhole, given_on, IsReached, IsTakenOf}
use Rattle.simulator_recovery.proofs.Words.Machine.{Before, Gone, In, Server, last_of, Point, Position, moves_given, reports_made, server_of, of_server, all_said, position_seen, reports_in}
use Rattle.simulator_recovery.proofs.Words.Recovery.{AreInOne, IsUpOn, LawsBelow}
use Rattle.simulator_move_laws.specs.Telegrams.{position_seen as position_known}
use Rattle.simulator_recovery.proofs.Lemmas.Ground.ClientItem.{partners_length}
use Rattle.simulator_recovery.proofs.Lemmas.Ground.AtLink.{mapped, of_second}
use Rattle.simulator_recovery.proofs.Lemmas.Talk.ClientLinks.{up_open}
use Rattle.simulator_recovery.proofs.Lemmas.Points.FieldPointsAlways.{AlwaysTells, always_tells}
use Rattle.simulator_recovery.proofs.Lemmas.Points.FieldPointsSeen.{AnswersIn, RestsIn, answers_in, count, fits, inside, known_or, last}
use Rattle.simulator_recovery.proofs.Lemmas.Points.FieldPointsStep.{AllTell}
use Rattle.simulator_recovery.proofs.Lemmas.Links.InOne.{in_one}
use Rattle.simulator_recovery.proofs.Lemmas.Ground.LinkCounts.{settled_open}
use Rattle.simulator_recovery.proofs.Lemmas.Ground.EndCalls.{at_place, map_length}
use Rattle.simulator_recovery.proofs.Lemmas.Lamps.SeenSignals.{given_most}

-- the last of one
last_one : (x : Position) (list : List Position) → length list ≡ 1 → Each (λ (told : Position). told ≡ x) list → last_of None list ≡ x
last_one x [] long each = absurd (omega (arith, long))
last_one x (one ∷ []) long each = each.0
last_one x (one ∷ (other ∷ later)) long each = absurd (omega (arith, long))

none_made : (server : Server) (items : List (List ℕ)) → 1 ≤ length (reports_in (of_server server items)) → of_server server items ≡ items
unfolding all_said
none_made Before items some = absurd (omega (arith, some))
none_made In items some = refl
none_made Gone items some = refl

module _ (laws : LawsBelow) (site : Site) (table : Table) (world : WorldState) (place : ℕ) (side : Side) (once : Once site) (station : IsStation site) (is_table : IsTableOf site table)
    (reached : IsReached site table world) (rests : RestsIn laws site table once station is_table world reached place side) (up : IsUpOn (point_link site place) world)
    (known : KnownPointState) (there : slice_get world.interlocking.ixl.known_points place ≡ Some known) (available : is_available known.client.stage ≡ true) where
  abbrev link : ℕ
  link = point_link site place

  abbrev now : ℕ
  now = reading_of world.interlocking.clock

  abbrev seen_in : AnswersIn site table world
  seen_in = answers_in laws site table once station is_table world reached

  abbrev network : Links
  network = seen_in.represented.network

  abbrev point : Point
  point = seen_in.machine.points place

  tells : AlwaysTells laws laws site table station once is_table world
  tells = always_tells laws laws site table station once is_table world reached

  whole : IsWhole site world
  whole = seen_in.represented.linked.whole

  few : place < length site.points
  few = let inside = slice_get_within world.interlocking.ixl.known_points place known there in let many = whole.clients.known_points in omega (arith, inside, many)

  below : link < links site
  below = let f = few in omega (arith, f)

  controller : (c : ClockedControllerState PointState) × (slice_get world.points place ≡ Some c)
  controller = let f = few in let many = whole.points in at_place world.points place (omega (arith, f, many))

  entry : (entry : PointEntry) × (slice_get site.points place ≡ Some entry)
  entry = at_place site.points place few

  client_same : up.client ≡ known.client.link
  client_same = same_Some up.client known.client.link (sym up.client_there ∙ of_second _ _ _ (length site.signals) place known.client.link
      (map_length (λ (k : KnownSignalState). k.client.link) world.interlocking.ixl.known_signals ∙ whole.clients.known_signals)
      (mapped (λ (k : KnownPointState). k.client.link) world.interlocking.ixl.known_points place known there))

  server_same : up.server ≡ end_of_server controller.0
  server_same = same_Some up.server (end_of_server controller.0) (sym up.server_there ∙ of_second (map end_of_server world.signals)
      (map end_of_server world.points) _ (length site.signals) place (end_of_server controller.0)
      (map_length end_of_server world.signals ∙ whole.signals) (mapped end_of_server world.points place controller.0 controller.1))

  client_up : is_up (settled now known.client.link).phase ≡ true
  client_up = ap (λ (l : LinkState). is_up (settled now l).phase) (sym client_same) ∙ up.client_up

  host_open : is_open controller.0.host.link.phase ≡ true
  host_open = (settled_open (reading_of controller.0.clock) controller.0.host.link
      (ap (λ (s : ServerEnd). is_open (settled (reading_of s.clock) s.link).phase) (sym server_same) ∙ up_open (settled (reading_of up.server.clock) up.server.link).phase up.server_up)).1

  -- ---- what was given, as the datagrams tell it

  one : AreInOne link network
  one = in_one laws site link world network below seen_in.represented.linked.lawful.timely seen_in.represented.linked.are up

  given_there : (who : Role) → (connection : ℕ) → List (List ℕ)
  given_there who connection = given_on site world link who connection

  sent_same : (who : Role) (connection : ℕ) → items_given (names_at site link) who connection (of_link link network.sent) ≡ given_on site world link who connection
  sent_same who connection = ap (λ (sent : List OnLink). items_given (names_at site link) who connection (of_link link sent)) seen_in.represented.linked.are.sent_is

  client_gave : (network.ends link).client.given ≡ given_on site world link Role.Client one.connection
  client_gave = seen_in.represented.linked.lawful.given link below Role.Client one.connection one.client ∙ sent_same Role.Client one.connection

  server_gave : (network.ends link).server.given ≡ given_on site world link Role.Server one.connection
  server_gave = seen_in.represented.linked.lawful.given link below Role.Server one.connection one.server ∙ sent_same Role.Server one.connection

  -- in the links of which it is known what they tell
  abbrev other : Links
  other = links_in tells.has

  id : (id : ℕ) × (slice_get (partners site) link ≡ Some id)
  id = at_place (partners site) link (subst (λ (n : ℕ). link < n) (sym (partners_length site)) below)

  client_in : (other.ends link).client.connection ≡ Some one.connection
  client_in = same_Some _ _ (sym (tells.has.are.clients link id.0 id.1).connection_is ∙ (seen_in.represented.linked.are.clients link id.0 id.1).connection_is) ∙ one.client

  server_in : (other.ends link).server.connection ≡ Some one.connection
  server_in =
      let mine = tells.has.are.servers link id.0 id.1
      in let its = seen_in.represented.linked.are.servers link id.0 id.1
      in mine.connection_is ∙ (ap (λ (k : ServerEnd). k.connection) (same_Some mine.kept its.kept (sym mine.there ∙ its.there)) ∙ (sym its.connection_is ∙ one.server))

  given_same : (other.ends link).server.given ≡ (network.ends link).server.given
  given_same = (laws.items_are_read_off_the_datagrams site world once station tells.has link below Role.Server one.connection server_in).given ∙ sym server_gave

  took : IsTakenOf (given_on site world link Role.Client one.connection) (other.ends link).server
  took = (laws.items_are_read_off_the_datagrams site world once station tells.has link below Role.Client one.connection client_in).taken server_in

  -- ---- where no move was given

  module _ (none : moves_given point ≡ 0) where
    gave_few : length (network.ends link).client.given ≤ 2
    gave_few =
        let it = fits site table world seen_in.machine seen_in.represented place known there client_up available
        in let alive = inside site table world seen_in.machine seen_in.represented place known there client_up available
        in let moves = it.moves alive
        in let same = ap length (it.client.given alive)
        in let most = given_most known.client.peer known.client.stage it.commands
        in omega (arith, moves, same, most, none)

    took_few : length (other.ends link).server.taken ≤ 2
    took_few =
        let gave = gave_few
        in let same = ap length client_gave
        in let parts = ap length took.beginning
        in let both = length-append (other.ends link).server.taken took.rest
        in omega (arith, gave, same, parts, both)

    all_there : AllTell controller.0.host.object.sensed (network.ends link).server.given
    all_there = subst (AllTell controller.0.host.object.sensed) given_same (tells.holds.standing place controller.0 entry.0 controller.1 entry.1 host_open took_few)

    made_so : reports_made point ≡ reports_in (of_server (server_of (seen link network)) (network.ends link).server.given)
    made_so = (seen_in.represented.points.each place controller.0 controller.1).made

    one_made : length (reports_made point) ≡ 1
    one_made = let all = count site table world seen_in.machine seen_in.represented place known there client_up available in omega (arith, all, none)

    made_there : reports_made point ≡ reports_in (network.ends link).server.given
    made_there = made_so ∙ ap reports_in (none_made (server_of (seen link network)) (network.ends link).server.given (let one = one_made in let same = ap length made_so in omega (arith, one, same)))

    last_there : last_of None (reports_made point) ≡ point.position
    last_there = last_one (position_seen controller.0.host.object.sensed) (reports_made point) one_made
        (subst (Each (λ (told : Position). told ≡ position_seen controller.0.host.object.sensed)) (sym made_there) all_there)
        ∙ sym (seen_in.represented.points.each place controller.0 controller.1).position

  pub known_side : known.side ≡ Some side
  known_side = choose (known_or site table world seen_in.machine seen_in.represented place known there client_up available side rests.stands rests.answers)
    where
      choose : (known.side ≡ Some side) ⊎ ((known.side ≡ None) × (moves_given point ≡ 0)) → known.side ≡ Some side
      choose (inl side) = side
      choose (inr (nowhere, none)) = absurd (cc (sym (ap position_known nowhere)
          ∙ (sym (last site table world seen_in.machine seen_in.represented place known there client_up available)
          ∙ (last_there none ∙ rests.stands))))

pub rests_known : (laws : LawsBelow) (site : Site) (table : Table) (world : WorldState) (place : ℕ) (side : Side) (once : Once site) (station : IsStation site) (is_table : IsTableOf site table)
    (reached : IsReached site table world) → RestsIn laws site table once station is_table world reached place side → IsUpOn (point_link site place) world
    → IsAvailable world.interlocking.ixl place
    → Known world.interlocking.ixl place side
rests_known laws site table world place side once station is_table reached rests up available = (
  available.0,
  available.1,
  (available.2, known_side laws site table world place side once station is_table reached rests up available.0 available.1 available.2),
)
