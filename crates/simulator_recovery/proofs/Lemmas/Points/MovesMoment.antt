-- A point at one moment: what its two ends have given and taken, by the counts of their links.
use Rattle.simulator_recovery.proofs.Words.Basics.{◌≡◌, ℕ, ◌∙◌, ◌+◌, ◌≤◌, ◌<◌, nat_lt, true, false, List, [], ◌∷◌, ◌++◌, length, map, Some, slice_get, refl, sym, ap, subst, arith, Ok, nat_tests, length-append, same_Some}
use Rattle.simulator_recovery.proofs.Words.Links.{settled, Each, AreTimely, reading_of, AreLinks, Links, begun, seen, Ordered, Ends, IsCounted, IsSafe, LinkState, is_open}
use Rattle.simulator_recovery.proofs.Words.Controllers.{reading, IsMessage, writing, Initialisation, InitialisationRequest, VersionCheck, Message, is_completed, command_of, commands_of, Stage, PointState, unanswered}
use Rattle.simulator_recovery.proofs.Words.Interlockings.{IsTableOf, PeerState, item_of, message_of, telegram_to, KnownPointState, KnownSignalState, Point, Table}
use Rattle.simulator_recovery.proofs.Words.Stations.{Site, Once, IsStation, ServerEnd, end_of_server, names_at, starts_at_zero, controller_at, links, partners, point_link, ClockedControllerState, WorldState, HasLinks, links_in, IsPeer, client_states, IsReached}
use Rattle.simulator_recovery.proofs.Words.Recovery.{ClientSaid, ClientTalks, IsGivenTo, asked, checked, commanded, nothing, AreInOne, IsUpOn, OwesEach, HostIsAt, IsReadyOn, LawsBelow, WrittenIsRead}
use Rattle.simulator_spec.specs.ixl_client.declared.command.Command.{Command}
use Rattle.simulator_spec.specs.Nodes as nodes
use Rattle.simulator_recovery.proofs.Lemmas.Ground.ClientItem.{partners_length}
use Rattle.simulator_recovery.proofs.Lemmas.Ground.AtLink.{mapped, of_second}
use Rattle.simulator_recovery.proofs.Lemmas.Talk.ClientLinks.{up_open}
use Rattle.simulator_recovery.proofs.Lemmas.Links.HandedOver.{client_is, server_is}
use Rattle.simulator_recovery.proofs.Lemmas.Links.InOne.{in_one}
use Rattle.simulator_recovery.proofs.Lemmas.Ground.LinkCounts.{settled_open}
use Rattle.simulator_recovery.proofs.Lemmas.Ground.EndCalls.{at_place, map_length}
use Rattle.simulator_recovery.proofs.Lemmas.Points.FieldPointsStep.{Held, always_owes, owes_each}
use Rattle.simulator_recovery.proofs.Lemmas.Talk.PointCounts.{waits, within_ever}
use Rattle.simulator_recovery.proofs.Lemmas.Silence.Shown.{counted_given, counted_taken}
use Rattle.simulator_recovery.proofs.Lemmas.Silence.Spent.{settled_given, settled_taken}
use Rattle.simulator_recovery.proofs.Lemmas.Links.UnderHosts.{HasCompleted}

-- ---- what a client of a point has said

-- its moves are commands
module _ (written : WrittenIsRead) (site : Site) (place : ℕ) (peer : PeerState) (is_peer : IsPeer peer) where
  pub said_read : (told : Message) → IsMessage told → reading (writing (telegram_to peer told)) ≡ Ok (telegram_to peer told)
  said_read told is = written (telegram_to peer told) (record { sender = is_peer.own_name; receiver = is_peer.name; message = is })

  one_command : (command : Command) → IsGivenTo site (Point place) command → length (command_of (reading (commanded peer command))) ≡ 1
  one_command (Command.Move side) fits = ap (λ r. length (command_of r)) (said_read (message_of (Command.Move side)) tt)
  one_command (Command.Indicate aspect) fits = absurd fits

  no_command : (told : Initialisation) → IsMessage (Message.Initialisation peer.protocol told) → commands_of (item_of peer told ∷ []) ≡ []
  unfolding commands_of
  no_command told is = ap (λ r. command_of r ++ []) (said_read (Message.Initialisation peer.protocol told) is)

  -- the commands of a beginning of what it has said
  moves_of : (list : List Command) → Each (IsGivenTo site (Point place)) list → (taken rest : List (List ℕ)) → map (commanded peer) list ≡ taken ++ rest → length (commands_of taken) ≡ length taken
  unfolding commands_of
  moves_of list each [] rest are = refl
  moves_of [] each (first ∷ taken) rest are = absurd (cc are)
  moves_of (one ∷ list) each (first ∷ taken) rest are =
      let parts = heads are
      in let here = ap (λ item. length (command_of (reading item))) (sym parts.0) ∙ one_command one each.0
      in let more = moves_of list each.1 taken rest parts.1
      in let both = length-append (command_of (reading first)) (commands_of taken)
      in omega (arith, here, more, both)
    where
      heads : {a b : List ℕ} {l m : List (List ℕ)} → a ∷ l ≡ b ∷ m → (a ≡ b) × (l ≡ m)
      heads e = (cc e, cc e)

  said_moves : (count : ℕ) (given taken rest : List (List ℕ)) → ClientSaid site (Point place) peer count given → given ≡ taken ++ rest → 2 ≤ length taken → 2 + length (commands_of taken) ≡ length taken
  unfolding commands_of
  said_moves count given taken rest (nothing is) begins long = let n = ap length (sym begins ∙ is) in let m = length-append taken rest in absurd (omega (arith, n, m, long))
  said_moves count given taken rest (checked is) begins long = let n = ap length (sym begins ∙ is) in let m = length-append taken rest in absurd (omega (arith, n, m, long))
  said_moves count given [] rest (asked c) begins long = absurd (omega (arith, long))
  said_moves count given (one ∷ []) rest (asked c) begins long = absurd (omega (arith, long))
  said_moves count given (one ∷ (two ∷ taken)) rest (asked c) begins long =
      let parts = heads (sym c.are ∙ begins)
      in let first = ap (λ item. commands_of (item ∷ [])) (sym parts.0) ∙ no_command (VersionCheck peer.version) is_peer.version
      in let second = ap (λ item. commands_of (item ∷ [])) (sym parts.1) ∙ no_command InitialisationRequest tt
      in let moves = moves_of c.commands c.each taken rest parts.2
      in let none = ap length first
      in let one_more = ap length second
      in let a = length-append (command_of (reading one)) (command_of (reading two) ++ commands_of taken)
      in let b = length-append (command_of (reading two)) (commands_of taken)
      in let x = length-append (command_of (reading one)) []
      in let y = length-append (command_of (reading two)) []
      in omega (arith, moves, none, one_more, a, b, x, y)
    where
      heads : {a b p q : List ℕ} {l m : List (List ℕ)} → a ∷ (p ∷ l) ≡ b ∷ (q ∷ m) → (a ≡ b) × (p ≡ q) × (l ≡ m)
      heads e = (cc e, cc e, cc e)

-- ---- a point at one moment

-- A point's link that is up at both ends, where the controller has completed the initialisation, and what both have given and taken there.
pub record PointAt (site : Site) (world : WorldState) (place : ℕ) (up : IsUpOn (point_link site place) world) : Type 0 where
  pub known : KnownPointState
  pub known_there : slice_get world.interlocking.ixl.known_points place ≡ Some known
  pub client_same : up.client ≡ known.client.link
  pub client_there : slice_get (client_states world.interlocking.ixl) (point_link site place) ≡ Some known.client
  pub peer : IsPeer known.client.peer
  pub alone : length known.client.peer.objects ≡ 1
  pub controller : ClockedControllerState PointState
  pub there : slice_get world.points place ≡ Some controller
  pub server_same : up.server ≡ end_of_server controller
  pub completed : is_completed controller.host.stage ≡ true
  pub has : HasLinks site world
  pub one : AreInOne (point_link site place) (links_in has)
  -- their links count so
  pub client_given : up.client.given ≡ length ((links_in has).ends (point_link site place)).client.given
  pub client_taken : up.client.taken ≡ length ((links_in has).ends (point_link site place)).client.taken
  pub server_given : up.server.link.given ≡ length ((links_in has).ends (point_link site place)).server.given
  pub server_taken : up.server.link.taken ≡ length ((links_in has).ends (point_link site place)).server.taken
  pub connections : slice_get world.interlocking.connections (point_link site place) ≡ Some (Some one.connection)
  pub fewer : up.client.taken ≤ up.server.link.given
  -- what was taken is a beginning of what was given
  pub rest : List (List ℕ)
  pub begins : ((links_in has).ends (point_link site place)).client.given ≡ ((links_in has).ends (point_link site place)).server.taken ++ rest
  pub talks : ClientTalks site (Point place) known.client ((links_in has).ends (point_link site place)).client.given ((links_in has).ends (point_link site place)).client.taken
  pub owes : OwesEach controller.host (seen (point_link site place) (links_in has))
  -- a report for each move, but for one that waits
  pub balance : up.server.link.given + unanswered controller.host.object.progress ≡ 2 + up.server.link.taken

pub point_controller : (site : Site) (place : ℕ) → place < length site.points → controller_at site (point_link site place) ≡ Some (nodes.Point place)
point_controller site place below = rw (beyond, before) (ap (λ (n : ℕ). Some (nodes.Point n)) (omega arith))
  where
    beyond : nat_lt (point_link site place) (length site.signals) ≡ false
    beyond = grind (arith, nat_tests)

    before : nat_lt (point_link site place) (point_link site (length site.points)) ≡ true
    before = grind (arith, nat_tests, below)

module _ (laws : LawsBelow) (site : Site) (table : Table) (station : IsStation site) (once : Once site) (is_table : IsTableOf site table) (world : WorldState) (reached : IsReached site table world) (place : ℕ) (few : place < length site.points)
    (ready : HasCompleted site (point_link site place) world) where
  abbrev at : ℕ
  at = point_link site place

  abbrev up : IsUpOn at world
  up = ready.up

  held : Held laws laws site table station once is_table world
  held = always_owes laws laws site table station once is_table world reached

  abbrev network : Links
  network = links_in held.has

  abbrev ends : Ends
  ends = seen at network

  below : at < links site
  below = omega (arith, few)

  named : AreLinks (links site) (names_at site)
  named = laws.layouts_name_their_links site station once

  timely : AreTimely (links site) (names_at site) network
  timely = laws.links_keep_time_run (links site) (names_at site) held.has.events (begun (names_at site) starts_at_zero) named (laws.links_keep_time_starts (links site) (names_at site) starts_at_zero named) held.has.may

  one : AreInOne at network
  one = in_one laws site at world network below timely held.has.are up

  ordered : Ordered (names_at site at) ends
  ordered = held.holds.stands.ordered at below

  counted : IsCounted ends.client × IsCounted ends.server
  counted = laws.items_are_counted (names_at site at) ends ordered one.connection one.client one.server

  safe : IsSafe ends.client ends.server
  safe = (laws.order_is_safe (names_at site at) ends ordered one.connection one.client one.server).0

  client_open : is_open ends.client.link.phase ≡ true
  client_open = ap (λ (l : LinkState). is_open l.phase) (client_is site at below world network held.has.are up) ∙ up_open (settled (reading_of world.interlocking.clock) up.client).phase up.client_up

  server_open : is_open ends.server.link.phase ≡ true
  server_open = ap (λ (l : LinkState). is_open l.phase) (server_is site at below world network held.has.are up) ∙ up_open (settled (reading_of up.server.clock) up.server.link).phase up.server_up

  known : (one : KnownPointState) × (slice_get world.interlocking.ixl.known_points place ≡ Some one)
  known = let many = held.holds.stands.whole.clients.known_points in at_place world.interlocking.ixl.known_points place (omega (arith, few, many))

  controller : (one : ClockedControllerState PointState) × (slice_get world.points place ≡ Some one)
  controller = let many = held.holds.stands.whole.points in at_place world.points place (omega (arith, few, many))

  client_same : up.client ≡ known.0.client.link
  client_same = same_Some up.client known.0.client.link (sym up.client_there ∙ of_second _ _ _ (length site.signals) place known.0.client.link
      (map_length (λ (k : KnownSignalState). k.client.link) world.interlocking.ixl.known_signals ∙ held.holds.stands.whole.clients.known_signals) (mapped (λ (k : KnownPointState). k.client.link) world.interlocking.ixl.known_points place known.0 known.1))

  alone : length known.0.client.peer.objects ≡ 1
  alone = let entry = at_place site.points place few in ap (λ (p : PeerState). length p.objects) (held.holds.stands.talking.matching.clients.points place known.0 known.1 entry.0 entry.1)

  server_same : up.server ≡ end_of_server controller.0
  server_same = same_Some up.server (end_of_server controller.0) (sym up.server_there ∙ of_second (map end_of_server world.signals) _ _ (length site.signals) place (end_of_server controller.0)
      (map_length end_of_server world.signals ∙ held.holds.stands.whole.signals) (mapped end_of_server world.points place controller.0 controller.1))

  completed : is_completed controller.0.host.stage ≡ true
  completed = by_stage (subst (λ node. HostIsAt node world Stage.Completed) (point_controller site place few) ready.host_ready)
    where
      by_stage : HostIsAt (Some (nodes.Point place)) world Stage.Completed → is_completed controller.0.host.stage ≡ true
      by_stage (c, there, is) = ap (λ (x : ClockedControllerState PointState). is_completed x.host.stage) (same_Some controller.0 c (sym controller.1 ∙ there)) ∙ ap is_completed is

  host_open : is_open controller.0.host.link.phase ≡ true
  host_open = ap (λ (s : ServerEnd). is_open s.link.phase) (sym server_same) ∙ (settled_open (reading_of up.server.clock) up.server.link (up_open _ up.server_up)).1

  client_there : slice_get (client_states world.interlocking.ixl) at ≡ Some known.0.client
  client_there = of_second _ _ _ (length site.signals) place known.0.client
      (map_length (λ (k : KnownSignalState). k.client) world.interlocking.ixl.known_signals ∙ held.holds.stands.whole.clients.known_signals) (mapped (λ (k : KnownPointState). k.client) world.interlocking.ixl.known_points place known.0 known.1)

  is_peer : IsPeer known.0.client.peer
  is_peer = held.holds.stands.whole.clients.peers at known.0.client client_there

  talks : ClientTalks site (Point place) known.0.client ends.client.given ends.client.taken
  talks = held.holds.stands.talking.talk.points place known.0 known.1

  owes : OwesEach controller.0.host ends
  owes = owes_each laws laws site table station once is_table world held place controller.0 controller.1 host_open completed

  server_given : up.server.link.given ≡ length ends.server.given
  server_given = sym (settled_given (reading_of up.server.clock) up.server.link) ∙ ap (λ (l : LinkState). l.given) (sym (server_is site at below world network held.has.are up)) ∙ counted_given ends.server counted.1 server_open

  server_taken : up.server.link.taken ≡ length ends.server.taken
  server_taken = sym (settled_taken (reading_of up.server.clock) up.server.link) ∙ ap (λ (l : LinkState). l.taken) (sym (server_is site at below world network held.has.are up)) ∙ counted_taken ends.server counted.1 server_open

  client_taken : up.client.taken ≡ length ends.client.taken
  client_taken = sym (settled_taken (reading_of world.interlocking.clock) up.client) ∙ ap (λ (l : LinkState). l.taken) (sym (client_is site at below world network held.has.are up)) ∙ counted_taken ends.client counted.0 client_open

  connections : slice_get world.interlocking.connections at ≡ Some (Some one.connection)
  connections =
      let id = at_place (partners site) at (subst (λ (n : ℕ). at < n) (sym (partners_length site)) below)
      in (held.has.are.clients at id.0 id.1).connection_is ∙ ap Some one.client

  fewer : up.client.taken ≤ up.server.link.given
  fewer =
      let back = (laws.order_is_safe (names_at site at) ends ordered one.connection one.client one.server).1
      in let all = ap length back.beginning
      in let parts = length-append ends.client.taken back.rest
      in let t = client_taken
      in let g = server_given
      in omega (arith, all, parts, t, g)

  balance : up.server.link.given + unanswered controller.0.host.object.progress ≡ 2 + up.server.link.taken
  balance =
      let most = within_ever controller.0.host.stage (length ends.server.given) (length ends.server.taken) (waits controller.0.host.object) ((held.holds.stands.answering.of_points place controller.0 controller.1).inside host_open)
      in let least = owes.each
      in let moves = said_moves laws.written_telegram_is_read site place known.0.client.peer is_peer (length ends.client.taken) ends.client.given ends.server.taken safe.rest talks.ever safe.beginning (omega (arith, most, least))
      in let g = server_given
      in let t = server_taken
      in omega (arith, most, least, moves, g, t)

  pub point_where_completed : PointAt site world place up
  point_where_completed = record {
    known = known.0;
    known_there = known.1;
    client_same = client_same;
    client_there = client_there;
    peer = is_peer;
    alone = alone;
    controller = controller.0;
    there = controller.1;
    server_same = server_same;
    completed = completed;
    has = held.has;
    one = one;
    client_given = sym (settled_given (reading_of world.interlocking.clock) up.client) ∙ ap (λ (l : LinkState). l.given) (sym (client_is site at below world network held.has.are up)) ∙ counted_given ends.client counted.0 client_open;
    client_taken = client_taken;
    server_given = server_given;
    server_taken = server_taken;
    connections = connections;
    fewer = fewer;
    rest = safe.rest;
    begins = safe.beginning;
    talks = talks;
    owes = owes;
    balance = balance;
  }

-- so it is of one that is ready at both ends
pub point_at : (laws : LawsBelow) (site : Site) (table : Table) (station : IsStation site) (once : Once site) (is_table : IsTableOf site table) (world : WorldState)
    (reached : IsReached site table world) (place : ℕ) (few : place < length site.points) (ready : IsReadyOn site (point_link site place) world) → PointAt site world place ready.up
point_at laws site table station once is_table world reached place few ready =
    point_where_completed laws site table station once is_table world reached place few (record { up = ready.up; host_ready = ready.host_ready })
