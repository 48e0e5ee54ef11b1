-- A move that is out was given since those that are answered.
use Rattle.simulator_recovery.proofs.Words.Basics.{◌≡◌, ℕ, ◌<◌, ◌∙◌, true, length, sym, ap, subst, arith, same_Some}
use Rattle.simulator_recovery.proofs.Words.Links.{reading_of, LinkState, is_open}
use Rattle.simulator_recovery.proofs.Words.Interlockings.{IsTableOf, Stage, KnownPointState, Point, Table}
use Rattle.simulator_recovery.proofs.Words.Stations.{Site, Once, IsStation, point_link, WorldState, links_in, IsReached}
use Rattle.simulator_recovery.proofs.Words.Recovery.{HasGivenSince, ClientHasSaid, commanded, AreAnswered, IsReadyOn, AwaitsMove, LawsBelow}
use Rattle.simulator_recovery.proofs.Lemmas.Talk.ClientLinks.{up_open}
use Rattle.simulator_recovery.proofs.Lemmas.Ground.LinkCounts.{settled_open}
use Rattle.simulator_recovery.proofs.Lemmas.Ground.EndCalls.{map_length}
use Rattle.simulator_recovery.proofs.Lemmas.Points.MovesMoment.{PointAt, point_at}

pub given_since : LawsBelow → (site : Site) (table : Table) (old new : WorldState) (place : ℕ) → Once site → IsStation site → IsTableOf site table → IsReached site table new
    → place < length site.points
    → AreAnswered (point_link site place) old new → IsReadyOn site (point_link site place) new → AwaitsMove place new → HasGivenSince (point_link site place) old new
given_since laws site table old new place once station is_table reached few all ready awaits = record { before = all.before; behind = all.behind; more = more (p.talks.said opened) }
  where
    p : PointAt site new place ready.up
    p = point_at laws site table station once is_table new reached place few ready

    same : all.behind.client ≡ ready.up.client
    same = same_Some all.behind.client ready.up.client (sym all.behind.client_there ∙ ready.up.client_there)

    opened : is_open p.known.client.link.phase ≡ true
    opened = ap (λ (l : LinkState). is_open l.phase) (sym p.client_same) ∙ (settled_open (reading_of new.interlocking.clock) ready.up.client (up_open _ ready.up.client_up)).1

    waits : p.known.client.stage ≡ Stage.AwaitsReport
    waits = ap (λ (k : KnownPointState). k.client.stage) (same_Some p.known awaits.0 (sym p.known_there ∙ awaits.1)) ∙ awaits.2

    Said : Stage → Type 0
    Said s = ClientHasSaid site (Point place) p.known.client.peer s (length ((links_in p.has).ends (point_link site place)).client.taken) ((links_in p.has).ends (point_link site place)).client.given

    -- all that was given by the earlier moment was answered, and one move given by now isn't
    fewer : Said Stage.AwaitsReport → all.before.client.given < all.behind.client.given
    fewer (c, one) =
        let given = ap length c.are
        in let moves = map_length (commanded p.known.client.peer) c.commands
        in let alone = p.alone
        in let answered = all.answered
        in let now_given = ap (λ (l : LinkState). l.given) same
        in let now_taken = ap (λ (l : LinkState). l.taken) same
        in let count = p.client_given
        in let taken = p.client_taken
        in omega (arith, one, given, moves, alone, answered, now_given, now_taken, count, taken)

    more : Said p.known.client.stage → all.before.client.given < all.behind.client.given
    more said = fewer (subst Said waits said)
