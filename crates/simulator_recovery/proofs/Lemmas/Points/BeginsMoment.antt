-- What both ends of a point's link have given and taken after good rounds.
use Rattle.simulator_recovery.proofs.Words.Basics.{◌≡◌, ℕ, suc, ◌∙◌, ◌+◌, ◌≤◌, ◌<◌, true, List, [], ◌∷◌, ◌++◌, length, Some, None, slice_get, refl, sym, ap, subst, arith, length-append, same_Some}
use Rattle.simulator_recovery.proofs.Words.Links.{Each, reading_of, items_given, OnLink, of_link, LinkState, is_open, Role}
use Rattle.simulator_recovery.proofs.Words.Controllers.{moves_in, Message, PointPosition, Side, command_of, commands_of, item_of, Report, point_behaviour, PointState, own_report}
use Rattle.simulator_recovery.proofs.Words.Interlockings.{IsTableOf, message_of, Move, Stage, IsHeldAt, KnownPointState, Point, SitedTable}
use Rattle.simulator_recovery.proofs.Words.Stations.{Site, Point as PointEntry, Once, IsStation, Event, Flowing, position_of, round, ServerEnd, names_at, links, partners, point_link, ClockedControllerState, WorldState, links_in, given_on, IsReached, IsTakenOf}
use Rattle.simulator_recovery.proofs.Words.Recovery.{ClientHasSaid, commanded, IsUpOn, last_side, reports_in, IsWork, all_tried, good_rounds, AwaitsMove, HaveMovesWhereHeld, IsLast, Any, item_for, LawsBelow, MoveLaw, RequestLaw}
use Rattle.simulator_recovery.proofs.Lemmas.Ground.ClientItem.{partners_length}
use Rattle.simulator_recovery.proofs.Lemmas.Rounds.AtWork.{of_both}
use Rattle.simulator_recovery.proofs.Lemmas.Points.BeginsStep.{report_of}
use Rattle.simulator_recovery.proofs.Lemmas.Points.BeginsYoung.{held_at}
use Rattle.simulator_recovery.proofs.Lemmas.Talk.ClientLinks.{up_open}
use Rattle.simulator_recovery.proofs.Lemmas.Talk.ControllerTells.{item_is}
use Rattle.simulator_recovery.proofs.Lemmas.Ground.LinkCounts.{settled_open}
use Rattle.simulator_recovery.proofs.Lemmas.Ground.EndCalls.{at_place, map_length}
use Rattle.simulator_recovery.proofs.Lemmas.Ground.MatchedEnds.{points_keep, spoken}
use Rattle.simulator_recovery.proofs.Lemmas.Points.MovesBehind.{Are, Passing, front_are, passes, point, reached_at, same_client, same_server, up_at}
use Rattle.simulator_recovery.proofs.Lemmas.Rounds.FlowsStay.{given_both}
use Rattle.simulator_recovery.proofs.Lemmas.Points.MovesMoment.{PointAt, said_read}
use Rattle.simulator_recovery.proofs.Lemmas.Points.MovesOwed.{commands_both, last_both}
use Rattle.simulator_recovery.proofs.Lemmas.Rounds.Rounds.{IsAt, rounds_reached}
use Rattle.simulator_recovery.proofs.Lemmas.Points.SidesMoves.{moves_go}
use Rattle.simulator_recovery.proofs.Lemmas.Links.UnderHosts.{host_rounds}

-- ---- lists

-- what stands after fronts that are as long is the same
pub same_behind : {X : Type 0} (a b x y : List X) → a ++ x ≡ b ++ y → length a ≡ length b → x ≡ y
same_behind [] [] x y e n = e
same_behind [] (one ∷ b) x y e n = absurd (omega (arith, n))
same_behind (one ∷ a) [] x y e n = absurd (omega (arith, n))
same_behind (one ∷ a) (other ∷ b) x y e n = same_behind a b x y (cc e) (omega (arith, n))

pub first_same : {X : Type 0} (x y : X) (a b : List X) → x ∷ a ≡ y ∷ b → x ≡ y
first_same x y a b e = cc e

pub last_same : {X : Type 0} (a b : List X) (x y : X) → a ++ x ∷ [] ≡ b ++ y ∷ [] → x ≡ y
last_same a b x y e =
    let all = ap length e
    in let m = length-append a (x ∷ [])
    in let n = length-append b (y ∷ [])
    in first_same x y [] [] (same_behind a b (x ∷ []) (y ∷ []) e (omega (arith, all, m, n)))

pub none_left : {X : Type 0} (list : List X) → length list ≡ 0 → list ≡ []
none_left [] e = refl
none_left (first ∷ others) e = absurd (omega (arith, e))

pub one_left : {X : Type 0} (list : List X) → length list ≡ 1 → (x : X) × (list ≡ x ∷ [])
one_left [] e = absurd (omega (arith, e))
one_left (x ∷ []) e = (x, refl)
one_left (x ∷ (y ∷ list)) e = absurd (omega (arith, e))

module _ (laws : LawsBelow) (between : List Event) (flowing : Flowing) (place : ℕ) (once : Once flowing.state.sited.site)
    (station : IsStation flowing.state.sited.site)
    (is_table : IsTableOf flowing.state.sited.site flowing.state.sited.table) (reached : IsReached flowing.state.sited.site flowing.state.sited.table flowing.state.run)
    (work : Each IsWork between) (few : place < length flowing.state.sited.site.points) where
  abbrev sited : SitedTable
  sited = flowing.state.sited

  abbrev site : Site
  site = sited.site

  abbrev link : ℕ
  link = point_link site place

  abbrev next : Flowing
  next = all_tried between (round flowing)

  abbrev then_at : List (List Event) → Flowing
  then_at rounds = good_rounds rounds next

  abbrev world_at : List (List Event) → WorldState
  world_at rounds = (then_at rounds).state.run

  abbrev OfRounds : List (List Event) → Type 0
  OfRounds rounds = Are laws between flowing place once station is_table reached work few rounds

  abbrev up_of : (rounds : List (List Event)) → OfRounds rounds → IsUpOn link (world_at rounds)
  up_of rounds a = up_at laws between flowing place once station is_table reached work few rounds a

  abbrev point_of : (rounds : List (List Event)) (a : OfRounds rounds) → PointAt site (world_at rounds) place (up_of rounds a)
  point_of rounds a = point laws between flowing place once station is_table reached work few rounds a

  abbrev fronts : (front rest : List (List Event)) → host_rounds ≤ suc (length front) → OfRounds (front ++ rest) → OfRounds front
  fronts front rest long a = front_are laws between flowing place once station is_table reached work few front rest long a

  below_links : link < links site
  below_links = omega (arith, few)

  abbrev pub gave_at : (rounds : List (List Event)) → OfRounds rounds → List (List ℕ)
  gave_at rounds a = ((links_in (point_of rounds a).has).ends link).client.given

  abbrev pub heard_at : (rounds : List (List Event)) → OfRounds rounds → List (List ℕ)
  heard_at rounds a = ((links_in (point_of rounds a).has).ends link).client.taken

  abbrev pub took_at : (rounds : List (List Event)) → OfRounds rounds → List (List ℕ)
  took_at rounds a = ((links_in (point_of rounds a).has).ends link).server.taken

  abbrev pub connection_at : (rounds : List (List Event)) → OfRounds rounds → ℕ
  connection_at rounds a = (point_of rounds a).one.connection

  at_is : (rounds : List (List Event)) → IsAt sited (then_at rounds).state
  at_is rounds = rounds_reached laws sited (between ∷ rounds) flowing (record { same = refl; reached = reached })

  -- ---- one moment

  pub entry : (one : PointEntry) × (slice_get site.points place ≡ Some one)
  entry = at_place site.points place few

  -- the report of this side, as its controller spells it at any moment
  abbrev report : Side → Report
  report one = own_report (Message.Point (PointPosition (position_of one)))

  abbrev pub spelled : Side → List ℕ
  spelled one = item_for entry.0.name site.station.name (report one)

  host_spells : (rounds : List (List Event)) (c : ClockedControllerState PointState) → slice_get (world_at rounds).points place ≡ Some c → item_of c.host ≡ item_for entry.0.name site.station.name
  host_spells rounds c e = item_is point_behaviour Any (spoken site) entry.0.name site.station.name (points_keep site) c.host
      ((held_at laws sited station once is_table place few (then_at rounds).state (at_is rounds)).holds.owing.of_points place c e entry.0 entry.1).tells.kept_so

  pub spells : (rounds : List (List Event)) (c : ClockedControllerState PointState) → slice_get (world_at rounds).points place ≡ Some c → (one : Side) → report_of c.host one ≡ spelled one
  spells rounds c e one = ap (λ (item : Report → List ℕ). item (report one)) (host_spells rounds c e)

  -- all that the controller has sent, and what the interlocking has taken of it
  pub sent_is : (rounds : List (List Event)) (a : OfRounds rounds) → ((links_in (point_of rounds a).has).ends link).server.given ≡ reports_in site place (connection_at rounds a) (world_at rounds)
  sent_is rounds a = (laws.items_are_read_off_the_datagrams site (world_at rounds) once station (point_of rounds a).has link below_links Role.Server (connection_at rounds a) (point_of rounds a).one.server).given

  pub heard_is : (rounds : List (List Event)) (a : OfRounds rounds)
      → IsTakenOf (reports_in site place (connection_at rounds a) (world_at rounds)) ((links_in (point_of rounds a).has).ends link).client
  heard_is rounds a = (laws.items_are_read_off_the_datagrams site (world_at rounds) once station (point_of rounds a).has link below_links Role.Server (connection_at rounds a) (point_of rounds a).one.server).taken
      (point_of rounds a).one.client

  -- ---- while a move is out

  module _ (rounds : List (List Event)) (a : OfRounds rounds) (awaits : AwaitsMove place (world_at rounds)) where
    abbrev p : PointAt site (world_at rounds) place (up_of rounds a)
    p = point_of rounds a

    stage_is : p.known.client.stage ≡ Stage.AwaitsReport
    stage_is = ap (λ (k : KnownPointState). k.client.stage) (same_Some p.known awaits.0 (sym p.known_there ∙ awaits.1)) ∙ awaits.2

    opened : is_open p.known.client.link.phase ≡ true
    opened = ap (λ (l : LinkState). is_open l.phase) (sym p.client_same)
        ∙ (settled_open (reading_of (world_at rounds).interlocking.clock) (up_of rounds a).client (up_open _ (up_of rounds a).client_up)).1

    -- it has taken one item more than it has given
    pub one_more : length (heard_at rounds a) ≡ 1 + length (gave_at rounds a)
    one_more = by_said (subst (λ (s : Stage). ClientHasSaid site (Point place) p.known.client.peer s (length (heard_at rounds a)) (gave_at rounds a)) stage_is (p.talks.said opened))
      where
        by_said : ClientHasSaid site (Point place) p.known.client.peer Stage.AwaitsReport (length (heard_at rounds a)) (gave_at rounds a)
            → length (heard_at rounds a) ≡ 1 + length (gave_at rounds a)
        by_said (c, waits) =
            let given = ap length c.are
            in let moves = map_length (commanded p.known.client.peer) c.commands
            in let alone = p.alone
            in omega (arith, waits, given, moves, alone)

    -- its last item is the move to the side at which set routes hold the point
    module _ (move : MoveLaw) (request : RequestLaw) (side : Side) (held : IsHeldAt sited.table (world_at rounds).interlocking.ixl place side) where
      abbrev item : List ℕ
      item = commanded p.known.client.peer (Move side)

      h : HaveMovesWhereHeld site sited.table (world_at rounds)
      h = moves_go (laws) site sited.table station once is_table
          (world_at rounds)
          (reached_at laws between flowing place once station is_table reached work few rounds a)

      pub last_given : IsLast item (gave_at rounds a)
      last_given =
          let last = h.go place side p.known p.known_there stage_is held
          in record { front = last.front; are = same ∙ last.are }
        where
          connected : ((links_in h.has).ends link).client.connection ≡ Some p.one.connection
          connected =
              let id = at_place (partners site) link (subst (λ (n : ℕ). link < n) (sym (partners_length site)) below_links)
              in same_Some ((links_in h.has).ends link).client.connection (Some p.one.connection) (sym (h.has.are.clients link id.0 id.1).connection_is ∙ p.connections)

          same : gave_at rounds a ≡ ((links_in h.has).ends link).client.given
          same = (laws.items_are_read_off_the_datagrams site (world_at rounds) once station p.has link below_links Role.Client p.one.connection p.one.client).given
              ∙ sym (laws.items_are_read_off_the_datagrams site (world_at rounds) once station h.has link below_links Role.Client p.one.connection connected).given

      pub one_moves : moves_in (commands_of (item ∷ [])) ≡ side ∷ []
      unfolding commands_of moves_in
      one_moves = ap (λ r. moves_in (command_of r ++ [])) (said_read laws.written_telegram_is_read site place p.known.client.peer p.peer (message_of (Move side)) tt)

      pub one_side : last_side None (commands_of (gave_at rounds a)) ≡ Some side
      unfolding commands_of
      one_side = ap (λ (items : List (List ℕ)). last_side None (commands_of items)) last_given.are ∙ ap (last_side None) (commands_both last_given.front (item ∷ []))
          ∙ last_both None (commands_of last_given.front) (commands_of (item ∷ []))
          ∙ ap (λ r. last_side (last_side None (commands_of last_given.front)) (command_of r ++ []))
          (said_read laws.written_telegram_is_read site place p.known.client.peer p.peer (message_of (Move side)) tt)

  -- ---- from one round to the next

  module _ (front : List (List Event)) (last : List Event) (long : host_rounds ≤ suc (length front)) (f : OfRounds front) (a : OfRounds (front ++ last ∷ [])) where
    pass : Passing link (world_at front) (world_at (front ++ last ∷ []))
    pass = passes laws between flowing place once station is_table reached work few front last long a

    pub same_connection : connection_at (front ++ last ∷ []) a ≡ connection_at front f
    same_connection =
        let old = same_Some (connection_at front f) pass.connection (same_Some (Some (connection_at front f)) (Some pass.connection) (sym (point_of front f).connections ∙ pass.was_in))
        in let new = same_Some (connection_at (front ++ last ∷ []) a) pass.connection
        (same_Some (Some (connection_at (front ++ last ∷ []) a)) (Some pass.connection) (sym (point_of (front ++ last ∷ []) a).connections ∙ pass.is_in))
        in new ∙ sym old

    -- what the interlocking has given it gives on
    pub gave_on : (more : List (List ℕ)) × (gave_at (front ++ last ∷ []) a ≡ gave_at front f ++ more)
    gave_on = (
      items_given (names_at site link) Role.Client (connection_at front f) (of_link link pass.more),
      (laws.items_are_read_off_the_datagrams site (world_at (front ++ last ∷ [])) once station (point_of (front ++ last ∷ []) a).has link below_links Role.Client (connection_at (front ++ last ∷ []) a)
          (point_of (front ++ last ∷ []) a).one.client).given
          ∙ ap (given_on site (world_at (front ++ last ∷ [])) link Role.Client) same_connection
          ∙ ap (λ (list : List OnLink). items_given (names_at site link) Role.Client (connection_at front f) (of_link link list)) pass.sent
          ∙ ap (items_given (names_at site link) Role.Client (connection_at front f)) (of_both link (world_at front).sent pass.more)
          ∙ given_both (names_at site link) Role.Client (connection_at front f) (of_link link (world_at front).sent) (of_link link pass.more)
          ∙ ap (λ (list : List (List ℕ)). list ++ items_given (names_at site link) Role.Client (connection_at front f) (of_link link pass.more))
          (sym (laws.items_are_read_off_the_datagrams site (world_at front) once station (point_of front f).has link below_links Role.Client (connection_at front f) (point_of front f).one.client).given),
    )

    -- and all that was given by the first is taken by the second
    pub came_over : length (gave_at front f) ≤ length (took_at (front ++ last ∷ []) a)
    came_over =
        let over = pass.over.to_controller
        in let was = ap (λ (l : LinkState). l.given) (same_client pass.over.before (up_of front f))
        in let is = ap (λ (s : ServerEnd). s.link.taken) (same_server pass.over.behind (up_of (front ++ last ∷ []) a))
        in let gave = (point_of front f).client_given
        in let took = (point_of (front ++ last ∷ []) a).server_taken
        in omega (arith, over, was, is, gave, took)

    pub came_back : length (reports_in site place (connection_at front f) (world_at front)) ≤ length (heard_at (front ++ last ∷ []) a)
    came_back =
        let over = pass.over.to_interlocking
        in let was = ap (λ (s : ServerEnd). s.link.given) (same_server pass.over.before (up_of front f))
        in let is = ap (λ (l : LinkState). l.taken) (same_client pass.over.behind (up_of (front ++ last ∷ []) a))
        in let gave = (point_of front f).server_given
        in let sent = ap length (sent_is front f)
        in let heard = (point_of (front ++ last ∷ []) a).client_taken
        in omega (arith, over, was, is, gave, sent, heard)
