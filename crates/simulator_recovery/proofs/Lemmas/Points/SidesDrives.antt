-- A point that is driven goes to the side at which set routes hold it.
use Rattle.simulator_recovery.proofs.Words.Basics.{◌≡◌, ℕ, ◌≤◌, ◌<◌, ◌∙◌, List, [], ◌∷◌, ◌++◌, append-nil, length, true, Some, None, refl, sym, ap, subst, arith, false≢true, length-append, same_Some}
use Rattle.simulator_recovery.proofs.Words.Links.{reading_of, LinkState, is_open, Role}
use Rattle.simulator_recovery.proofs.Words.Controllers.{Side, command_of, commands_of, PointState, unanswered, Progress}
use Rattle.simulator_recovery.proofs.Words.Interlockings.{IsTableOf, ClientState, is_ready, message_of, Move, Stage, IsHeldAt, Point, Table}
use Rattle.simulator_recovery.proofs.Words.Stations.{Site, Once, IsStation, links, partners, point_link, ClockedControllerState, WorldState, links_in, IsReached}
use Rattle.simulator_recovery.proofs.Words.Recovery.{ClientHasSaid, commanded, DrivesSince, last_side, IsReadyOn, AwaitsMove, HaveMovesWhereHeld, IsLast, LawsBelow}
use Rattle.simulator_recovery.proofs.Lemmas.Ground.ClientItem.{partners_length}
use Rattle.simulator_recovery.proofs.Lemmas.Talk.ClientLinks.{up_open}
use Rattle.simulator_recovery.proofs.Lemmas.Ground.LinkCounts.{settled_open}
use Rattle.simulator_recovery.proofs.Lemmas.Ground.EndCalls.{at_place, map_length, none_long}
use Rattle.simulator_recovery.proofs.Lemmas.Points.MovesMoment.{PointAt, point_at, said_read}
use Rattle.simulator_recovery.proofs.Lemmas.Points.MovesOwed.{commands_both, last_both}
use Rattle.simulator_recovery.proofs.Lemmas.Points.SidesMoves.{moves_go}

module _ (laws : LawsBelow) (site : Site) (table : Table) (world : WorldState) (place : ℕ) (station : IsStation site) (once : Once site) (is_table : IsTableOf site table) (reached : IsReached site table world) (few : place < length site.points)
    (ready : IsReadyOn site (point_link site place) world) (to : Side) (since : ℕ) (drives : DrivesSince place to since world) where
  abbrev link : ℕ
  link = point_link site place

  abbrev p : PointAt site world place ready.up
  p = point_at laws site table station once is_table world reached place few ready

  driving : p.controller.host.object.progress ≡ Progress.Driving to since
  driving = ap (λ (c : ClockedControllerState PointState). c.host.object.progress) (same_Some p.controller drives.0 (sym p.there ∙ drives.1)) ∙ drives.2

  opened : is_open p.known.client.link.phase ≡ true
  opened = ap (λ (l : LinkState). is_open l.phase) (sym p.client_same) ∙ (settled_open (reading_of world.interlocking.clock) ready.up.client (up_open _ ready.up.client_up)).1

  ready_now : is_ready p.known.client.stage ≡ true
  ready_now = ap (λ (c : ClientState). is_ready c.stage) (same_Some p.known.client ready.client (sym p.client_there ∙ ready.there)) ∙ ready.client_ready

  abbrev gave : List (List ℕ)
  gave = ((links_in p.has).ends link).client.given

  abbrev took : List (List ℕ)
  took = ((links_in p.has).ends link).server.taken

  -- its client awaits the report, and the controller has taken all that was given
  record Awaits : Type 0 where
    awaits : p.known.client.stage ≡ Stage.AwaitsReport
    all : length gave ≤ length took

  by_stage : (s : Stage) → p.known.client.stage ≡ s → is_ready s ≡ true → ClientHasSaid site (Point place) p.known.client.peer s (length ((links_in p.has).ends link).client.taken) gave → Awaits
  by_stage Stage.AwaitsReport is e (c, one) =
      let given = ap length c.are
      in let moves = map_length (commanded p.known.client.peer) c.commands
      in let alone = p.alone
      in let balance = p.balance
      in let waits = ap unanswered driving
      in let fewer = p.fewer
      in let taken = p.client_taken
      in let server = p.server_taken
      in record { awaits = is; all = omega (arith, one, given, moves, alone, balance, waits, fewer, taken, server) }
  by_stage Stage.Completed is e (c, all) =
      let given = ap length c.are
      in let moves = map_length (commanded p.known.client.peer) c.commands
      in let alone = p.alone
      in let balance = p.balance
      in let waits = ap unanswered driving
      in let fewer = p.fewer
      in let taken = p.client_taken
      in let server = p.server_taken
      in let begins = ap length p.begins
      in let parts = length-append took p.rest
      in absurd (omega (arith, all, given, moves, alone, balance, waits, fewer, taken, server, begins, parts))
  by_stage Stage.Outside is e said = absurd (false≢true e)
  by_stage Stage.AwaitsAnswer is e said = absurd (false≢true e)
  by_stage Stage.AwaitsStart is e said = absurd (false≢true e)
  by_stage (Stage.AwaitsStatus left) is e said = absurd (false≢true e)

  it_awaits : Awaits
  it_awaits = by_stage p.known.client.stage refl ready_now (p.talks.said opened)

  pub awaits_report : AwaitsMove place world
  awaits_report = (p.known, p.known_there, it_awaits.awaits)

  all_taken : gave ≡ took
  all_taken =
      let begins = ap length p.begins
      in let parts = length-append took p.rest
      in let all = it_awaits.all
      in p.begins ∙ ap (λ (rest : List (List ℕ)). took ++ rest) (none_long p.rest (omega (arith, begins, parts, all))) ∙ append-nil took

  module _ (side : Side) (held : IsHeldAt table world.interlocking.ixl place side) where
    h : HaveMovesWhereHeld site table world
    h = moves_go (laws) site table station once is_table world reached

    abbrev item : List ℕ
    item = commanded p.known.client.peer (Move side)

    last : IsLast item ((links_in h.has).ends link).client.given
    last = h.go place side p.known p.known_there it_awaits.awaits held

    below : link < links site
    below = omega (arith, few)

    connected : ((links_in h.has).ends link).client.connection ≡ Some p.one.connection
    connected =
        let id = at_place (partners site) link (subst (λ (n : ℕ). link < n) (sym (partners_length site)) below)
        in same_Some ((links_in h.has).ends link).client.connection (Some p.one.connection) (sym (h.has.are.clients link id.0 id.1).connection_is ∙ p.connections)

    given_same : took ≡ ((links_in h.has).ends link).client.given
    given_same = sym all_taken ∙ (laws.items_are_read_off_the_datagrams site world once station p.has link below Role.Client p.one.connection p.one.client).given
        ∙ sym (laws.items_are_read_off_the_datagrams site world once station h.has link below Role.Client p.one.connection connected).given

    -- the move is the last command that was taken
    one_side : last_side None (commands_of took) ≡ Some side
    unfolding commands_of
    one_side = ap (λ (items : List (List ℕ)). last_side None (commands_of items)) (given_same ∙ last.are) ∙ ap (last_side None) (commands_both last.front (item ∷ []))
        ∙ last_both None (commands_of last.front) (commands_of (item ∷ []))
        ∙ ap (λ r. last_side (last_side None (commands_of last.front)) (command_of r ++ [])) (said_read laws.written_telegram_is_read site place p.known.client.peer p.peer (message_of (Move side)) tt)

    pub same_side : to ≡ side
    same_side = same_Some to side (sym (p.owes.last to since driving) ∙ one_side)
