-- After whatever events, and whatever comes in the first round of what was sent before it, both ends are up after every good round from some
-- round on.
use Rattle.rasta_core_recovery.proofs.Words.Basics.{◌≡◌, ℕ, zero, suc, ◌∙◌, ◌+◌, ◌*◌, ◌≤◌, List, ◌∷◌, ◌++◌, sym, ap, subst, arith}
use Rattle.rasta_core_recovery.proofs.Words.Links.{LinkState, is_asking, Role, Each, Sent, Event, Passes, Names, AreNames, Ordered}
use Rattle.rasta_core_recovery.proofs.Words.Recovery.{StayBelowLimitFrom, WereSent, round_of, AreUp, Flow, comings, good_round, good_rounds, own_work, recovery_rounds, IsCall, work_round, LawsBelow}
use Rattle.rasta_core_recovery.proofs.Lemmas.Rounds.Ages.{rounds_clock}
use Rattle.rasta_core_recovery.proofs.Lemmas.FirstRound.AnyFirst.{among_due, below_first, mirrors_same, waiting_for, waits_asked, waits_ordered, waits_timely}
use Rattle.rasta_core_recovery.proofs.Lemmas.Rounds.Bridge.{drop_append, mirror_of, mirrors_on}
use Rattle.rasta_core_recovery.proofs.Lemmas.Rounds.Facts.{Facts, facts}
use Rattle.rasta_core_recovery.proofs.Lemmas.FirstRound.FirstFates.{AskingOn, first_comes}
use Rattle.rasta_core_recovery.proofs.Lemmas.FirstRound.FirstGrants.{Asking, asking_of}
use Rattle.rasta_core_recovery.proofs.Lemmas.Rounds.Happen.{round_may}
use Rattle.rasta_core_recovery.proofs.Lemmas.ComingUp.Healthy.{Healthy}
use Rattle.rasta_core_recovery.proofs.Lemmas.Rounds.Links.{Pair, pair_round, pair_rounds}
use Rattle.rasta_core_recovery.proofs.Lemmas.Rounds.Mirror.{Mirrors}
use Rattle.rasta_core_recovery.proofs.Lemmas.Rounds.Pasts.{Past}
use Rattle.rasta_core_recovery.proofs.Lemmas.ComingUp.Recovers.{askings, climbing, healthy_at, is_up_then, mirrors, rooms_of, seen}
use Rattle.rasta_core_recovery.proofs.Lemmas.Rounds.Holds.{Holds, holds_run}
use Rattle.rasta_core_recovery.proofs.Lemmas.ComingUp.Seen.{Rooms, Seen, round_first}
use Rattle.rasta_core_recovery.proofs.Lemmas.AtWork.WorkGood.{good_is_at_work, good_is_work_round}

module _ (laws : LawsBelow) (names : Names) (are : AreNames names) (f : Flow) (start : Holds names f.ends) (due : List Sent) (were : WereSent f.ends.sent due) where
  abbrev w : Flow
  w = waiting_for due f

  ordered : Ordered names w.ends
  ordered = waits_ordered names f due were start.ordered

  mirror : (p : Pair) × Mirrors names w p
  mirror = mirror_of names w (waits_timely names f due were start.timely)

  abbrev p : Pair
  p = mirror.0

  abbrev calls : List Event
  calls = comings (f.ends.time + 10000) due ++ own_work

  only : Each IsCall calls
  only = subst (λ (ds : List Sent). Each IsCall (comings (f.ends.time + 10000) ds ++ own_work)) (drop_append f.ends.sent due) (good_is_at_work names w).only

  abbrev g : Flow
  g = round_of due f

  then_holds : Holds names g.ends
  then_holds = holds_run laws names are (Passes 10000 10000 10000 ∷ calls) f.ends start (round_may names f due (among_due f.ends.sent due were))

  in_round : Mirrors names (good_round w) (pair_round p)
  in_round = mirrors_on laws names are w p mirror.1

  same_round : good_round w ≡ work_round calls w
  same_round = good_is_work_round w ∙ ap (λ (ds : List Sent). work_round (comings (f.ends.time + 10000) ds ++ own_work) w) (drop_append f.ends.sent due)

  then_mirrors : Mirrors names g (pair_round p)
  then_mirrors = mirrors_same names f due calls only then_holds.timely (pair_round p) (subst (λ (x : Flow). Mirrors names x (pair_round p)) same_round in_round)

  -- ---- what is so from before it on

  module _ (n : ℕ) (room : StayBelowLimitFrom due n f) where
    later_seen : Seen names n (pair_round p)
    later_seen = seen laws names are g then_holds (pair_round p) then_mirrors n room.2

    client_clock : (pair_round p).client.clock ≡ p.client.clock + 10
    client_clock =
        let a = sym (ap (λ (l : LinkState). l.clock) mirror.1.client) ∙ mirror.1.timely.client.clock in
        let b = sym (ap (λ (l : LinkState). l.clock) in_round.client) ∙ in_round.timely.client.clock in
        let c = rounds_clock Role.Client 1 w in omega (arith, a, b, c)

    server_clock : (pair_round p).server.clock ≡ p.server.clock + 10
    server_clock =
        let a = sym (ap (λ (l : LinkState). l.clock) mirror.1.server) ∙ mirror.1.timely.server.clock in
        let b = sym (ap (λ (l : LinkState). l.clock) in_round.server) ∙ in_round.timely.server.clock in
        let c = rounds_clock Role.Server 1 w in omega (arith, a, b, c)

    all_facts : (k : ℕ) → Facts names (pair_rounds k p)
    all_facts zero = facts names w p mirror.1 ordered
    all_facts (suc k) = subst (Facts names) (round_first k p) (later_seen.facts k)

    client_clocks : (k : ℕ) → (pair_rounds k p).client.clock ≡ p.client.clock + 10 * k
    client_clocks zero = omega arith
    client_clocks (suc k) = let e = ap (λ (q : Pair). q.client.clock) (round_first k p) in let c = later_seen.client_clock k in omega (arith, e, c, client_clock)

    server_clocks : (k : ℕ) → (pair_rounds k p).server.clock ≡ p.server.clock + 10 * k
    server_clocks zero = omega arith
    server_clocks (suc k) = let e = ap (λ (q : Pair). q.server.clock) (round_first k p) in let c = later_seen.server_clock k in omega (arith, e, c, server_clock)

    client_pasts : (k : ℕ) → Past (pair_rounds k p).client
    client_pasts zero = subst Past mirror.1.client start.pasts.client
    client_pasts (suc k) = subst (λ (q : Pair). Past q.client) (round_first k p) (later_seen.client_past k)

    server_pasts : (k : ℕ) → Past (pair_rounds k p).server
    server_pasts zero = subst Past mirror.1.server start.pasts.server
    server_pasts (suc k) = subst (λ (q : Pair). Past q.server) (round_first k p) (later_seen.server_past k)

    rooms : (k : ℕ) → k ≤ suc n → Rooms (pair_rounds k p)
    rooms zero most = rooms_of f.ends p mirror.1.client mirror.1.server (room.0, room.1)
    rooms (suc k) most = subst Rooms (round_first k p) (later_seen.room k (omega (arith, most)))

    all_seen : Seen names (suc n) p
    all_seen = record { facts = all_facts; client_clock = client_clocks; server_clock = server_clocks; client_past = client_pasts; server_past = server_pasts; room = rooms }

    all_askings : AskingOn names p
    all_askings zero asks = asking_of names w p mirror.1 ordered (waits_asked names f due were start.asked) asks
    all_askings (suc k) asks = subst (Asking names) (round_first k p)
        (askings laws names are g then_holds (pair_round p) then_mirrors k (ap (λ (q : Pair). is_asking q.client) (round_first k p) ∙ asks))

    healthy_then : recovery_rounds ≤ suc n → Healthy names 1 (pair_rounds (suc n) p)
    healthy_then long = healthy_at names 1561 (suc n) p long all_seen
        (first_comes names (suc n) p long all_seen (below_first names f due were start.timely start.ordered start.rising p mirror.1)
        (climbing laws names are g then_holds (pair_round p) then_mirrors 0) all_askings)

    pub up_then : recovery_rounds ≤ suc n → AreUp (good_rounds n g).ends
    up_then long =
        let h : Healthy names 1 (pair_rounds n (pair_round p)) = subst (Healthy names 1) (sym (round_first n p)) (healthy_then long) in
        let m : Mirrors names (good_rounds n g) (pair_rounds n (pair_round p)) = mirrors laws names are g then_holds (pair_round p) then_mirrors n in
        (is_up_then _ _ m.client h.steady_client.up, is_up_then _ _ m.server h.steady_server.up)
