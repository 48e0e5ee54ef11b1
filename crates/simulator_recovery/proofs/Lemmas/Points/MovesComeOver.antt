-- A move that was given has come to its controller where its link has handed over.
use Rattle.simulator_recovery.proofs.Words.Basics.{◌≡◌, ℕ, ◌<◌, ◌∙◌, length, sym, ap, arith, same_Some}
use Rattle.simulator_recovery.proofs.Words.Interlockings.{IsTableOf, At, Table}
use Rattle.simulator_recovery.proofs.Words.Stations.{Site, Once, IsStation, ServerEnd, point_link, WorldState, IsReached}
use Rattle.simulator_recovery.proofs.Words.Recovery.{HasHandedOver, HasTakenMoves, IsReadyOn, LawsBelow}
use Rattle.simulator_recovery.proofs.Lemmas.Points.MovesMoment.{PointAt, point_at}

pub come_over : LawsBelow → (site : Site) (table : Table) (old new : WorldState) (place : ℕ) → Once site → IsStation site → IsTableOf site table → IsReached site table new → place < length site.points
    → (over : HasHandedOver (point_link site place) old new) → IsReadyOn site (point_link site place) new → At new.points place (HasTakenMoves over.before.client.given)
come_over laws site table old new place once station is_table reached few over ready =
    let p : PointAt site new place ready.up = point_at laws site table station once is_table new reached place few ready
    in let same : over.behind.server ≡ ready.up.server = same_Some over.behind.server ready.up.server (sym over.behind.server_there ∙ ready.up.server_there)
    in let taken = ap (λ (s : ServerEnd). s.link.taken) same
    in let given = ap (λ (s : ServerEnd). s.link.given) p.server_same
    in let balance = p.balance
    in let all = over.to_controller
    in (p.controller, p.there, omega (arith, all, taken, given, balance))
