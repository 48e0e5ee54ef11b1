-- A point whose report came back is known at the side that this tells.
use Rattle.simulator_recovery.proofs.Words.Basics.{◌≡◌, ℕ, ◌+◌, ◌≤◌, ◌<◌, ◌∙◌, true, length, Some, sym, ap, arith, false≢true, length-append, same_Some}
use Rattle.simulator_recovery.proofs.Words.Links.{reading_of, LinkState, is_open, Role}
use Rattle.simulator_recovery.proofs.Words.Controllers.{Side}
use Rattle.simulator_recovery.proofs.Words.Interlockings.{IsTableOf, ClientState, is_ready, Stage, Known, Point, Table}
use Rattle.simulator_recovery.proofs.Words.Stations.{Site, Once, IsStation, links, point_link, WorldState, links_in, IsReached}
use Rattle.simulator_recovery.proofs.Words.Recovery.{ClientHasSaid, commanded, IsReportedBack, ReportsLast, reports_in, LawsBelow}
use Rattle.simulator_recovery.proofs.Lemmas.Talk.ClientLinks.{up_open}
use Rattle.simulator_recovery.proofs.Lemmas.Points.KnownReports.{is_known}
use Rattle.simulator_recovery.proofs.Lemmas.Ground.LinkCounts.{settled_open}
use Rattle.simulator_recovery.proofs.Lemmas.Ground.EndCalls.{map_length}
use Rattle.simulator_recovery.proofs.Lemmas.Points.MovesMoment.{PointAt, point_at}

module _ (laws : LawsBelow) (site : Site) (table : Table) (station : IsStation site) (once : Once site) (is_table : IsTableOf site table) (start old new : WorldState) (start_reached : IsReached site table start)
    (was_reached : IsReached site table old) (reached : IsReached site table new) (place : ℕ) (few : place < length site.points) (side : Side) (back : IsReportedBack site place side start old new) where
  abbrev at : ℕ
  at = point_link site place

  p : PointAt site start place back.was_ready.up
  p = point_at laws site table station once is_table start start_reached place few back.was_ready

  opened : is_open p.known.client.link.phase ≡ true
  opened = ap (λ (l : LinkState). is_open l.phase) (sym p.client_same) ∙ (settled_open (reading_of start.interlocking.clock) back.was_ready.up.client (up_open _ back.was_ready.up.client_up)).1

  ready_then : is_ready p.known.client.stage ≡ true
  ready_then = ap (λ (c : ClientState). is_ready c.stage) (same_Some p.known.client back.was_ready.client (sym p.client_there ∙ back.was_ready.there)) ∙ back.was_ready.client_ready

  -- all that was given was answered, but for one move at most
  one_waits : (s : Stage) → is_ready s ≡ true → ClientHasSaid site (Point place) p.known.client.peer s (length ((links_in p.has).ends at).client.taken) ((links_in p.has).ends at).client.given → 1 + back.was_ready.up.client.given ≤ back.was_ready.up.client.taken
  one_waits Stage.Completed e (c, all) =
      let given = ap length c.are in let moves = map_length (commanded p.known.client.peer) c.commands in let alone = p.alone in let count = p.client_given in let taken = p.client_taken in omega (arith, all, given, moves, alone, count, taken)
  one_waits Stage.AwaitsReport e (c, one) =
      let given = ap length c.are in let moves = map_length (commanded p.known.client.peer) c.commands in let alone = p.alone in let count = p.client_given in let taken = p.client_taken in omega (arith, one, given, moves, alone, count, taken)
  one_waits Stage.Outside e said = absurd (false≢true e)
  one_waits Stage.AwaitsAnswer e said = absurd (false≢true e)
  one_waits Stage.AwaitsStart e said = absurd (false≢true e)
  one_waits (Stage.AwaitsStatus left) e said = absurd (false≢true e)

  same_first : back.reports.connection ≡ p.one.connection
  same_first = same_Some back.reports.connection p.one.connection (same_Some (Some back.reports.connection) (Some p.one.connection) (sym back.reports.was_in ∙ p.connections))

  same_second : back.reports.connection ≡ back.comes.connection
  same_second = same_Some back.reports.connection back.comes.connection (same_Some (Some back.reports.connection) (Some back.comes.connection) (sym back.reports.is_in ∙ back.comes.was_in))

  below : at < links site
  below = omega (arith, few)

  answered : 2 + back.ready.up.client.given ≤ length (reports_in site place back.comes.connection old)
  answered =
      let waits = one_waits p.known.client.stage ready_then (p.talks.said opened)
      in let fewer = p.fewer
      in let server = p.server_given
      in let off = ap length ((laws.items_are_read_off_the_datagrams site start once station p.has at below Role.Server p.one.connection p.one.server).given) ∙ ap (λ (n : ℕ). length (reports_in site place n start)) (sym same_first)
      in let more = ap (λ (n : ℕ). length (reports_in site place n old)) (sym same_second) ∙ (ap length back.reports.reported ∙ length-append (reports_in site place back.reports.connection start) _)
      in let none = back.no_more
      in omega (arith, waits, fewer, server, off, more, none)

  last : ReportsLast site place side back.comes.connection old
  last = record {
    controller = back.reports.controller;
    there = back.reports.there;
    front = reports_in site place back.reports.connection start;
    last = ap (λ (n : ℕ). reports_in site place n old) (sym same_second) ∙ back.reports.reported;
  }

  pub is_known_again : Known new.interlocking.ixl place side
  is_known_again = is_known laws site table station once is_table old new was_reached reached place few side back.comes last back.ready answered
