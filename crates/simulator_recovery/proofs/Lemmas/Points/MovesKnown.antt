-- A point whose moves are all answered is available.
use Rattle.simulator_recovery.proofs.Words.Basics.{◌≡◌, ℕ, ◌<◌, ◌∙◌, true, length, refl, sym, ap, arith, false≢true, same_Some}
use Rattle.simulator_recovery.proofs.Words.Links.{reading_of, LinkState, is_open}
use Rattle.simulator_recovery.proofs.Words.Interlockings.{IsTableOf, ClientState, is_available, is_ready, Stage, IsAvailable, Point, Table}
use Rattle.simulator_recovery.proofs.Words.Stations.{Site, Once, IsStation, point_link, WorldState, links_in, IsReached}
use Rattle.simulator_recovery.proofs.Words.Recovery.{ClientHasSaid, commanded, AreAnswered, IsReadyOn, LawsBelow}
use Rattle.simulator_recovery.proofs.Lemmas.Talk.ClientLinks.{up_open}
use Rattle.simulator_recovery.proofs.Lemmas.Ground.LinkCounts.{settled_open}
use Rattle.simulator_recovery.proofs.Lemmas.Ground.EndCalls.{map_length}
use Rattle.simulator_recovery.proofs.Lemmas.Points.MovesMoment.{PointAt, point_at}

pub is_available_then : LawsBelow → (site : Site) (table : Table) (old new : WorldState) (place : ℕ) → Once site → IsStation site → IsTableOf site table → IsReached site table new → place < length site.points
    → (all : AreAnswered (point_link site place) old new) → IsReadyOn site (point_link site place) new → all.behind.client.given ≡ all.before.client.given → IsAvailable new.interlocking.ixl place
is_available_then laws site table old new place once station is_table reached few all ready none = (p.known, p.known_there, by_stage p.known.client.stage ready_now (p.talks.said opened))
  where
    p : PointAt site new place ready.up
    p = point_at laws site table station once is_table new reached place few ready

    same : all.behind.client ≡ ready.up.client
    same = same_Some all.behind.client ready.up.client (sym all.behind.client_there ∙ ready.up.client_there)

    opened : is_open p.known.client.link.phase ≡ true
    opened = ap (λ (l : LinkState). is_open l.phase) (sym p.client_same) ∙ (settled_open (reading_of new.interlocking.clock) ready.up.client (up_open _ ready.up.client_up)).1

    ready_now : is_ready p.known.client.stage ≡ true
    ready_now = ap (λ (c : ClientState). is_ready c.stage) (same_Some p.known.client ready.client (sym p.client_there ∙ ready.there)) ∙ ready.client_ready

    by_stage : (s : Stage) → is_ready s ≡ true
        → ClientHasSaid site (Point place) p.known.client.peer s (length ((links_in p.has).ends (point_link site place)).client.taken) ((links_in p.has).ends (point_link site place)).client.given → is_available s ≡ true
    by_stage Stage.Completed e said = refl
    by_stage Stage.AwaitsReport e (c, one) =
        let given = ap length c.are
        in let moves = map_length (commanded p.known.client.peer) c.commands
        in let alone = p.alone
        in let answered = all.answered
        in let now_given = ap (λ (l : LinkState). l.given) same
        in let now_taken = ap (λ (l : LinkState). l.taken) same
        in let count = p.client_given
        in let taken = p.client_taken
        in absurd (omega (arith, one, given, moves, alone, answered, none, now_given, now_taken, count, taken))
    by_stage Stage.Outside e said = absurd (false≢true e)
    by_stage Stage.AwaitsAnswer e said = absurd (false≢true e)
    by_stage Stage.AwaitsStart e said = absurd (false≢true e)
    by_stage (Stage.AwaitsStatus left) e said = absurd (false≢true e)
