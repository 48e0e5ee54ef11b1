-- After whatever events, both ends are up after every good round from some round on.
use Rattle.rasta_core_recovery.proofs.Words.Basics.{◌≡◌, ℕ, zero, suc, ◌∙◌, ◌+◌, ◌*◌, ◌/◌, ◌-◌, ◌≤◌, ◌<◌, true, List, sym, ap, subst, arith}
use Rattle.rasta_core_recovery.proofs.Words.Links.{LinkState, is_open, is_up, Role, Phase, Ends, Event, MayRun, Start, started, Names, AreNames}
use Rattle.rasta_core_recovery.proofs.Words.Recovery.{Flow, round_events, good_round, good_rounds, AreUp, IsBelowLimit, StayBelowLimit, calm_rounds, flow_after, gap_rounds, recovery_rounds, LawsBelow}
use Rattle.rasta_core_recovery.proofs.Lemmas.Rounds.Links.{Pair, pair_rounds}
use Rattle.rasta_core_recovery.proofs.Lemmas.ComingUp.Healthy.{Healthy}
use Rattle.rasta_core_recovery.proofs.Lemmas.Rounds.Mirror.{Mirrors}
use Rattle.rasta_core_recovery.proofs.Lemmas.Rounds.Bridge.{mirror_of, mirrors_on}
use Rattle.rasta_core_recovery.proofs.Lemmas.Rounds.Ages.{rounds_clock}
use Rattle.rasta_core_recovery.proofs.Lemmas.Rounds.Facts.{facts}
use Rattle.rasta_core_recovery.proofs.Lemmas.Rounds.Happen.{may_happen}
use Rattle.rasta_core_recovery.proofs.Lemmas.Rounds.Pasts.{Past}
use Rattle.rasta_core_recovery.proofs.Lemmas.ComingUp.Seen.{BothIn, Rooms, Seen, rounds_add, seen_later, healthy_for}
use Rattle.rasta_core_recovery.proofs.Lemmas.ComingUp.Fates.{Comes}
use Rattle.rasta_core_recovery.proofs.Lemmas.FirstRound.FirstFates.{AskingOn, first_comes}
use Rattle.rasta_core_recovery.proofs.Lemmas.FirstRound.FirstGrants.{asking_of}
use Rattle.rasta_core_recovery.proofs.Lemmas.FirstRound.FirstHears.{below_of}
use Rattle.rasta_core_recovery.proofs.Lemmas.FirstRound.FirstRises.{Climbs, climbs}
use Rattle.rasta_core_recovery.proofs.Lemmas.ComingUp.Gaps.{Lasts, lasts_later, UpNow, Goes, up_now, up_later, up_of, goes_for, calm_for}
use Rattle.rasta_core_recovery.proofs.Lemmas.Rounds.Holds.{Holds, holds_after, holds_run}

-- once they are healthy they stay so
pub healthy_at : (names : Names) (most n : ℕ) (p : Pair) → most ≤ n → Seen names n p → Comes names most p → Healthy names 1 (pair_rounds n p)
healthy_at names most n p long seen comes = subst (Healthy names 1) (rounds_add (n - comes.rounds) comes.rounds p ∙ ap (λ (k : ℕ). pair_rounds k p) (omega (arith, whole)))
    (healthy_for names (n - comes.rounds) (n - comes.rounds) (pair_rounds comes.rounds p)
    (seen_later names comes.rounds (n - comes.rounds) p (subst (λ (k : ℕ). Seen names k p) (sym whole) seen)) (omega arith) comes.healthy)
  where
    whole : comes.rounds + (n - comes.rounds) ≡ n
    whole = omega (arith, long, comes.soon)

pub is_up_then : (l k : LinkState) → l ≡ k → k.phase ≡ Phase.Up → is_up l.phase ≡ true
is_up_then l k e up = ap (λ (j : LinkState). is_up j.phase) e ∙ ap is_up up

pub rooms_of : (e : Ends) (q : Pair) → e.client.link ≡ q.client → e.server.link ≡ q.server → IsBelowLimit e.client × IsBelowLimit e.server → Rooms q
rooms_of e q c s room = record {
  client = subst (λ (l : LinkState). is_open l.phase ≡ true → l.sent + 1 < 2147483000) c room.0;
  server = subst (λ (l : LinkState). is_open l.phase ≡ true → l.sent + 1 < 2147483000) s room.1;
}

module _ (laws : LawsBelow) (names : Names) (are : AreNames names) (f : Flow) (start : Holds names f.ends) where
  holds : (k : ℕ) → Holds names (good_rounds k f).ends
  unfolding good_round
  holds zero = start
  holds (suc k) = holds_run laws names are (round_events (good_rounds k f)) (good_rounds k f).ends (holds k) (may_happen names (good_rounds k f))

  module _ (p : Pair) (first : Mirrors names f p) where
    pub mirrors : (k : ℕ) → Mirrors names (good_rounds k f) (pair_rounds k p)
    mirrors zero = first
    mirrors (suc k) = mirrors_on laws names are (good_rounds k f) (pair_rounds k p) (mirrors k)

    reading_on : (clock start_clock reading start_reading k : ℕ) → clock ≡ start_clock + 10000 * k → reading ≡ clock / 1000 → start_reading ≡ start_clock / 1000 → reading ≡ start_reading + 10 * k
    reading_on clock start_clock reading start_reading k e g h = omega (arith, e, g, h)

    client_now : (k : ℕ) → (pair_rounds k p).client.clock ≡ (good_rounds k f).ends.client.clock / 1000
    client_now k = sym (ap (λ (l : LinkState). l.clock) (mirrors k).client) ∙ (holds k).timely.client.clock

    server_now : (k : ℕ) → (pair_rounds k p).server.clock ≡ (good_rounds k f).ends.server.clock / 1000
    server_now k = sym (ap (λ (l : LinkState). l.clock) (mirrors k).server) ∙ (holds k).timely.server.clock

    pub seen : (n : ℕ) → StayBelowLimit n f → Seen names n p
    seen n room = record {
      facts = λ k. facts names (good_rounds k f) (pair_rounds k p) (mirrors k) (holds k).ordered;
      client_clock = λ k. reading_on _ _ _ _ k (rounds_clock Role.Client k f) (client_now k) (client_now 0);
      server_clock = λ k. reading_on _ _ _ _ k (rounds_clock Role.Server k f) (server_now k) (server_now 0);
      client_past = λ k. subst Past (mirrors k).client (holds k).pasts.client;
      server_past = λ k. subst Past (mirrors k).server (holds k).pasts.server;
      room = λ k most. rooms_of (good_rounds k f).ends (pair_rounds k p) (mirrors k).client (mirrors k).server (room k most);
    }

    pub climbing : (k : ℕ) → BothIn (pair_rounds k p) → Climbs (pair_rounds k p)
    climbing k both = climbs names (good_rounds k f) (pair_rounds k p) (mirrors k) (holds k).ordered client_in server_in ((holds k).rising (record { client = client_in; server = server_in }))
      where
        client_in : is_open (good_rounds k f).ends.client.link.phase ≡ true
        client_in = ap (λ (l : LinkState). is_open l.phase) (mirrors k).client ∙ both.client

        server_in : is_open (good_rounds k f).ends.server.link.phase ≡ true
        server_in = ap (λ (l : LinkState). is_open l.phase) (mirrors k).server ∙ both.server

    pub askings : AskingOn names p
    askings k asks = asking_of names (good_rounds k f) (pair_rounds k p) (mirrors k) (holds k).ordered (holds k).asked asks

    healthy_then : (n : ℕ) → recovery_rounds ≤ n → StayBelowLimit n f → Healthy names 1 (pair_rounds n p)
    healthy_then n long room = let all = seen n room in healthy_at names 1561 n p long all
        (first_comes names n p long all (λ both. below_of p (climbing 0 both)) (climbing 1) askings)

    up_at : (n : ℕ) → (pair_rounds n p).client.phase ≡ Phase.Up → (pair_rounds n p).server.phase ≡ Phase.Up → AreUp (good_rounds n f).ends
    up_at n client server = (is_up_then _ _ (mirrors n).client client, is_up_then _ _ (mirrors n).server server)

    up_then : (n : ℕ) → recovery_rounds ≤ n → StayBelowLimit n f → AreUp (good_rounds n f).ends
    up_then n long room = let healthy = healthy_then n long room in up_at n healthy.steady_client.up healthy.steady_server.up

    lasts : Lasts names p
    lasts = record {
      facts = λ k. facts names (good_rounds k f) (pair_rounds k p) (mirrors k) (holds k).ordered;
      client_past = λ k. subst Past (mirrors k).client (holds k).pasts.client;
      server_past = λ k. subst Past (mirrors k).server (holds k).pasts.server;
    }

    goes : (m n : ℕ) → recovery_rounds ≤ m → StayBelowLimit m f → m ≤ n → Goes names (pair_rounds n p)
    goes m n long room later = subst (Goes names) (rounds_add (n - m) m p ∙ ap (λ (k : ℕ). pair_rounds k p) (omega (arith, later)))
        (goes_for names (n - m) (pair_rounds m p) (lasts_later names m p lasts) (up_now (up_of names (pair_rounds m p) (healthy_then m long room))))

    again : (m n : ℕ) → recovery_rounds ≤ m → StayBelowLimit m f → m ≤ n → (k : ℕ) × (k ≤ gap_rounds) × AreUp (good_rounds (k + n) f).ends
    again m n long room later = choose (goes m n long room later)
      where
        choose : Goes names (pair_rounds n p) → (k : ℕ) × (k ≤ gap_rounds) × AreUp (good_rounds (k + n) f).ends
        choose (up_now u) = (0, omega arith, subst (λ (k : ℕ). AreUp (good_rounds k f).ends) (omega arith) (up_at n u.steady_client.up u.steady_server.up))
        choose (up_later c) = let h : Healthy names 1 (pair_rounds (c.rounds + n) p) = subst (Healthy names 1) (rounds_add c.rounds n p) c.healthy in
            (c.rounds, c.soon, up_at (c.rounds + n) h.steady_client.up h.steady_server.up)

    calm : (m n k : ℕ) → recovery_rounds ≤ m → StayBelowLimit m f → m ≤ n → (AreUp (good_rounds n f).ends → ⊥) → gap_rounds ≤ k → k < calm_rounds → AreUp (good_rounds (k + n) f).ends
    calm m n k long room later gap least soon = choose (goes m n long room later)
      where
        choose : Goes names (pair_rounds n p) → AreUp (good_rounds (k + n) f).ends
        choose (up_now u) = absurd (gap (up_at n u.steady_client.up u.steady_server.up))
        choose (up_later c) = let u : UpNow names (pair_rounds (k + n) p) = subst (UpNow names) (rounds_add k n p) (calm_for names 604 k (pair_rounds n p) c least soon) in
            up_at (k + n) u.steady_client.up u.steady_server.up

pub recovers : LawsBelow → (names : Names) (start : Start) (events : List Event) (passed n : ℕ) → AreNames names → MayRun names events (started names start) → recovery_rounds ≤ n
    → StayBelowLimit n (flow_after names start events passed) → AreUp (good_rounds n (flow_after names start events passed)).ends
recovers laws names start events passed n are may long room =
    let first = holds_after laws names start events are may in
    let f : Flow = flow_after names start events passed in
    let m = mirror_of names f first.timely in
    up_then laws names are f first m.0 m.1 n long room

pub recovers_again : LawsBelow → (names : Names) (start : Start) (events : List Event) (passed m n : ℕ) → AreNames names → MayRun names events (started names start) → recovery_rounds ≤ m
    → StayBelowLimit m (flow_after names start events passed) → m ≤ n → (k : ℕ) × (k ≤ gap_rounds) × AreUp (good_rounds (k + n) (flow_after names start events passed)).ends
recovers_again laws names start events passed m n are may long room later =
    let first = holds_after laws names start events are may in
    let f : Flow = flow_after names start events passed in
    let mirror = mirror_of names f first.timely in
    again laws names are f first mirror.0 mirror.1 m n long room later

pub stays_calm : LawsBelow → (names : Names) (start : Start) (events : List Event) (passed m n k : ℕ) → AreNames names → MayRun names events (started names start) → recovery_rounds ≤ m
    → StayBelowLimit m (flow_after names start events passed) → m ≤ n → (AreUp (good_rounds n (flow_after names start events passed)).ends → ⊥) → gap_rounds ≤ k → k < calm_rounds
    → AreUp (good_rounds (k + n) (flow_after names start events passed)).ends
stays_calm laws names start events passed m n k are may long room later gap least soon =
    let first = holds_after laws names start events are may in
    let f : Flow = flow_after names start events passed in
    let mirror = mirror_of names f first.timely in
    calm laws names are f first mirror.0 mirror.1 m n k long room later gap least soon
