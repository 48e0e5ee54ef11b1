-- A client that still asks after the first round at work: its server has just taken its request, or no stamp of these rounds comes to it.
use Rattle.rasta_core_recovery.proofs.Words.Basics.{◌≡◌, ℕ, zero, suc, ◌⊎◌, inl, inr, ◌∙◌, ◌+◌, ◌*◌, ◌^◌, ◌≤◌, ◌<◌, Bool, true, false, nat_le, [], ◌∷◌, refl, sym, ap, subst, arith, leb-true, leb-false}
use Rattle.rasta_core_recovery.proofs.Words.Links.{LinkState, is_open, Step, silent, Role, Names}
use Rattle.rasta_core_recovery.proofs.Lemmas.Rounds.Acts.{IsWork, WorkRound, behind, client_step, server_step}
use Rattle.rasta_core_recovery.proofs.Lemmas.Asking.Asks.{Asks, asks_asking}
use Rattle.rasta_core_recovery.proofs.Lemmas.Rounds.Calls.{at_reading}
use Rattle.rasta_core_recovery.proofs.Lemmas.Rounds.Course.{Joined}
use Rattle.rasta_core_recovery.proofs.Lemmas.Rounds.Facts.{Young}
use Rattle.rasta_core_recovery.proofs.Lemmas.Rounds.Fold.{Out}
use Rattle.rasta_core_recovery.proofs.Lemmas.Rounds.Links.{Pair}
use Rattle.rasta_core_recovery.proofs.Lemmas.ComingUp.Opens.{asking_link, granted_link, request, response}
use Rattle.rasta_core_recovery.proofs.Lemmas.ComingUp.Seen.{joined_of, server_not_asking}
use Rattle.rasta_core_recovery.proofs.Lemmas.AtWork.WorkAsks.{asks_on, server_mute, server_silent}
use Rattle.rasta_core_recovery.proofs.Lemmas.AtWork.WorkFates.{Soon, client_rests_on, closely_comes, opens_quickly, out_comes, server_rests_on}
use Rattle.rasta_core_recovery.proofs.Lemmas.AtWork.WorkNew.{Is, JoinedBy, client_work_of, closely_now, joins_then, server_work_of}
use Rattle.rasta_core_recovery.proofs.Lemmas.AtWork.WorkRun.{Run, Sound}
use Rattle.rasta_core_recovery.proofs.Lemmas.AtWork.WorkStays.{both_left, late_at_work}

-- ---- its server has just taken its request

-- a client whose time is over in the next round
late_comes : (names : Names) (n : ℕ) (p z : Pair) → 1383 ≤ n → Run names n p z → is_open p.client.phase ≡ true → p.client.clock < p.client.own_stamp + 1800
    → p.client.own_stamp + 1800 ≤ p.client.clock + 10 → Soon names z
late_comes names zero p z most run is_in young over = absurd (omega (arith, most))
late_comes names (suc n) p z most run is_in young over =
    out_comes names n (behind p run.0) z (omega (arith, most)) run.1 run.2 (late_at_work (p.client.clock + 10) run.0.client_acts p.client is_in young refl over).0.is_out

module _ (names : Names) (client_closed server_closed cf sf at grant : ℕ) (fits : cf < 2 ^ 32) (server_fits : sf < 2 ^ 32) where
  -- it joined in the last round
  joined_comes : (n : ℕ) (p z : Pair) → 1414 ≤ n → Run names n p z → (j : JoinedBy names client_closed server_closed cf sf at grant fits server_fits p) → j.now < at + 1800 → Soon names z
  joined_comes zero p z most run j young = absurd (omega (arith, most))
  joined_comes (suc n) p z most run j young = by_time (nat_le (at + 1800) (j.now + 10)) refl
    where
      clock : p.client.clock ≡ j.now
      clock = j.is.clock

      own : p.client.own_stamp ≡ at
      own = ap (λ (l : LinkState). l.own_stamp) j.tells.same

      by_time : (b : Bool) → nat_le (at + 1800) (j.now + 10) ≡ b → Soon names z
      by_time true e = late_comes names (suc n) p z (omega (arith, most)) run j.is.connected (omega (arith, clock, own, young)) (omega (arith, clock, own, leb-true _ _ e))
      by_time false e = closely_comes names n (behind p run.0) z (omega (arith, most)) run.1 run.2
          (closely_now names client_closed server_closed cf sf at grant fits server_fits p j run.0 (leb-false _ _ e))

  pub granted_comes : (c n : ℕ) (p z : Pair) → 1415 ≤ n → at ≤ c → c < at + 1800 → Run names n p z
      → Is p (asking_link names c client_closed cf at) (granted_link names grant server_closed sf (request names cf at) grant) (response names sf (request names cf at) grant ∷ []) [] → Soon names z
  granted_comes c zero p z most past young run i = absurd (omega (arith, most))
  granted_comes c (suc n) p z most past young run i = by_time (nat_le (at + 1800) (c + 10)) refl
    where
      clock : p.client.clock ≡ c
      clock = ap (λ (l : LinkState). l.clock) i.client

      own : p.client.own_stamp ≡ at
      own = ap (λ (l : LinkState). l.own_stamp) i.client

      by_time : (b : Bool) → nat_le (at + 1800) (c + 10) ≡ b → Soon names z
      by_time true e = late_comes names (suc n) p z (omega (arith, most)) run (ap (λ (l : LinkState). is_open l.phase) i.client) (omega (arith, clock, own, young))
          (omega (arith, clock, own, leb-true _ _ e))
      by_time false e = let j = joins_then names client_closed server_closed cf sf at grant fits server_fits c past (leb-false _ _ e) p run.0 i in
          joined_comes n (behind p run.0) z (omega (arith, most)) run.2 j.0 (omega (arith, j.1, leb-false _ _ e))

-- ---- nothing comes to either

-- it asks, and nothing is under way; its server knows no own stamp that is younger than this reading
pub record Still (reading : ℕ) (p : Pair) : Type 0 where
  pub asks : Asks p.client.clock p.client
  pub to_server : p.to_server ≡ []
  pub to_client : p.to_client ≡ []
  pub inside : is_open p.server.phase ≡ true → p.server.own_stamp ≤ reading

-- what a round leaves of a server to which nothing comes, and whose client asks
pub record Waits (reading : ℕ) (p q : Pair) : Type 0 where
  pub clock : q.server.clock ≡ p.server.clock + 10
  pub inside : is_open q.server.phase ≡ true → q.server.own_stamp ≤ reading
  pub mute : q.to_client ≡ []

pub waits : (names : Names) (reading : ℕ) (p : Pair) (r : WorkRound p) → Sound names p → Asks p.client.clock p.client → p.to_server ≡ []
    → (is_open p.server.phase ≡ true → p.server.own_stamp ≤ reading) → Waits reading p (behind p r)
waits names reading p r sound is mute inside = by_server (is_open p.server.phase) refl
  where
    work : IsWork Role.Server [] r.server_acts
    work = server_work_of p r [] mute

    served : (e : is_open p.server.phase ≡ true) → (behind p r).to_client ≡ []
        → Out (p.server.clock + 10) (server_step p r).link ⊎ (server_step p r ≡ silent (at_reading (p.server.clock + 10) p.server)) → Waits reading p (behind p r)
    served e none (inl left) = record { clock = left.clock; inside = λ f. absurd (cc (left.is_out, f)); mute = none }
    served e none (inr same) = record { clock = ap (λ (t : Step). t.link.clock) same; inside = λ f. omega (arith, ap (λ (t : Step). t.link.own_stamp) same, inside e); mute = none }

    by_server : (b : Bool) → is_open p.server.phase ≡ b → Waits reading p (behind p r)
    by_server true e =
        let j : Joined p.server.clock p.server = joined_of p.server e (server_not_asking names p.server sound.facts.server) (sound.facts.server_young e)
        in let down = (sound.facts.calls (ap is_open is.starts) (asks_asking p.client.clock p.client is) e).down
        in served e (server_mute (p.server.clock + 10) r.server_acts p.server work j down refl r.server_room)
        (server_silent (p.server.clock + 10) r.server_acts p.server work j down refl r.server_room)
    by_server false e = let s = server_rests_on names p r sound.facts e (inl mute) in
        record { clock = ap (λ (t : Step). t.link.clock) s; inside = λ f. absurd (cc (ap (λ (t : Step). is_open t.link.phase) s ∙ e, f)); mute = ap (λ (t : Step). t.pdus) s }

-- It goes out in the next round. Its server is outside then, or a round later: so it isn't quiet any more as the client asks again.
left_comes : (names : Names) (reading n : ℕ) (p z : Pair) → 602 ≤ n → Sound names p → (run : Run names (suc (suc n)) p z) → Still reading p
    → Out (p.client.clock + 10) (client_step p run.0).link → (client_step p run.0).pdus ≡ [] → reading + 1780 ≤ p.server.clock → Soon names z
left_comes names reading n p z most sound (r1, s1, (r2, s2, run)) still left none server_over = by_server (is_open (behind p r1).server.phase) refl
  where
    w : Waits reading p (behind p r1)
    w = waits names reading p r1 sound still.asks still.to_server still.inside

    both : is_open (behind p r1).server.phase ≡ true → Soon names z
    both e = both_left names n (behind (behind p r1) r2) z most s2 run (ap (λ (t : Step). is_open t.link.phase) rests ∙ left.is_out) out.is_out
        (omega (arith, left.clock, left.lately, ap (λ (t : Step). t.link.clock) rests, ap (λ (t : Step). t.link.closed_at) rests)) (omega (arith, out.clock, out.lately))
      where
        young : Young (behind p r1).server
        young = s1.facts.server_young e

        out : Out ((behind p r1).server.clock + 10) (server_step (behind p r1) r2).link
        out = (late_at_work ((behind p r1).server.clock + 10) r2.server_acts (behind p r1).server e young.young refl (omega (arith, w.inside e, w.clock, server_over))).0

        rests : client_step (behind p r1) r2 ≡ silent (record (behind p r1).client { clock = (behind p r1).client.clock + 10 })
        rests = client_rests_on (behind p r1) r2 left.is_out (omega (arith, left.clock, left.lately))

    by_server : (b : Bool) → is_open (behind p r1).server.phase ≡ b → Soon names z
    by_server true e = both e
    by_server false e = opens_quickly names 599 (suc n) 599 (behind p r1) z (omega (arith, most)) s1 (r2, s2, run) left.is_out e (inl none)
        (omega (arith, left.lately, left.clock)) (omega (arith, s1.server_past.closed e)) (omega (arith, s1.client_past.closed left.is_out))

-- what a round makes of it
still_step : (names : Names) (reading : ℕ) (p : Pair) (r : WorkRound p) → Sound names p → Still reading p
    → (Out (p.client.clock + 10) (client_step p r).link × ((client_step p r).pdus ≡ []))
    ⊎ (Still reading (behind p r) × ((behind p r).client.own_stamp ≡ p.client.own_stamp) × ((behind p r).client.clock ≡ p.client.clock + 10))
still_step names reading p r sound still = choose (asks_on (p.client.clock + 10) r.client_acts p.client (client_work_of p r [] still.to_client) still.asks refl r.client_room)
  where
    w : Waits reading p (behind p r)
    w = waits names reading p r sound still.asks still.to_server still.inside

    choose : (Out (p.client.clock + 10) (client_step p r).link × ((client_step p r).pdus ≡ []))
        ⊎ ((client_step p r ≡ silent (at_reading (p.client.clock + 10) p.client)) × Asks (p.client.clock + 10) (at_reading (p.client.clock + 10) p.client))
        → (Out (p.client.clock + 10) (client_step p r).link × ((client_step p r).pdus ≡ []))
        ⊎ (Still reading (behind p r) × ((behind p r).client.own_stamp ≡ p.client.own_stamp) × ((behind p r).client.clock ≡ p.client.clock + 10))
    choose (inl left) = inl left
    choose (inr (same, asks)) = inr (
      record {
        asks = subst (λ (t : Step). Asks t.link.clock t.link) (sym same) asks;
        to_server = ap (λ (t : Step). t.pdus) same;
        to_client = w.mute;
        inside = w.inside;
      },
      ap (λ (t : Step). t.link.own_stamp) same,
      ap (λ (t : Step). t.link.clock) same,
    )

-- its time is over in the next round, or in the one after it, and its server's no later
last_comes : (names : Names) (reading fuel n : ℕ) (p z : Pair) → fuel ≤ 1 → fuel + 604 ≤ n → Sound names p → Run names n p z → Still reading p
    → p.client.own_stamp + 1800 ≤ p.client.clock + 10 * fuel + 10 → reading + 1780 ≤ p.server.clock → Soon names z
last_comes names reading fuel zero p z few most sound run still over server_over = absurd (omega (arith, most))
last_comes names reading fuel (suc zero) p z few most sound run still over server_over = absurd (omega (arith, most))
last_comes names reading zero (suc (suc n)) p z few most sound run still over server_over =
    let left = late_at_work (p.client.clock + 10) run.0.client_acts p.client (ap is_open still.asks.starts) still.asks.young refl (omega (arith, over)) in
    left_comes names reading n p z (omega (arith, most)) sound run still left.0 left.1 server_over
last_comes names reading (suc fuel) (suc (suc n)) p z few most sound run still over server_over =
    choose (λ s o c t. last_comes names reading fuel (suc n) (behind p run.0) z (omega (arith, few)) (omega (arith, most)) run.1 run.2 s (omega (arith, over, o, c)) t)
    (still_step names reading p run.0 sound still)
  where
    w : Waits reading p (behind p run.0)
    w = waits names reading p run.0 sound still.asks still.to_server still.inside

    choose : ((s : Still reading (behind p run.0)) → (behind p run.0).client.own_stamp ≡ p.client.own_stamp → (behind p run.0).client.clock ≡ p.client.clock + 10
        → reading + 1780 ≤ (behind p run.0).server.clock → Soon names z)
        → (Out (p.client.clock + 10) (client_step p run.0).link × ((client_step p run.0).pdus ≡ []))
        ⊎ (Still reading (behind p run.0) × ((behind p run.0).client.own_stamp ≡ p.client.own_stamp) × ((behind p run.0).client.clock ≡ p.client.clock + 10)) → Soon names z
    choose again (inl (left, none)) = left_comes names reading n p z (omega (arith, most)) sound run still left none server_over
    choose again (inr (s, o, c)) = again s o c (omega (arith, server_over, w.clock))

pub still_comes : (names : Names) (reading fuel n : ℕ) (p z : Pair) → fuel + 1382 ≤ n → Sound names p → Run names n p z → Still reading p
    → p.client.own_stamp + 1800 ≤ p.client.clock + 10 * fuel + 20 → reading + 1780 ≤ p.server.clock + 10 * fuel → Soon names z
still_comes names reading zero n p z most sound run still over server_over =
    last_comes names reading 1 n p z (omega arith) (omega (arith, most)) sound run still (omega (arith, over)) (omega (arith, server_over))
still_comes names reading (suc fuel) zero p z most sound run still over server_over = absurd (omega (arith, most))
still_comes names reading (suc fuel) (suc n) p z most sound run still over server_over =
    choose (λ s o c t. still_comes names reading fuel n (behind p run.0) z (omega (arith, most)) run.1 run.2 s (omega (arith, over, o, c)) t)
    (still_step names reading p run.0 sound still)
  where
    w : Waits reading p (behind p run.0)
    w = waits names reading p run.0 sound still.asks still.to_server still.inside

    choose : ((s : Still reading (behind p run.0)) → (behind p run.0).client.own_stamp ≡ p.client.own_stamp → (behind p run.0).client.clock ≡ p.client.clock + 10
        → reading + 1780 ≤ (behind p run.0).server.clock + 10 * fuel → Soon names z)
        → (Out (p.client.clock + 10) (client_step p run.0).link × ((client_step p run.0).pdus ≡ []))
        ⊎ (Still reading (behind p run.0) × ((behind p run.0).client.own_stamp ≡ p.client.own_stamp) × ((behind p run.0).client.clock ≡ p.client.clock + 10)) → Soon names z
    choose again (inl (left, none)) = out_comes names n (behind p run.0) z (omega (arith, most)) run.1 run.2 left.is_out
    choose again (inr (s, o, c)) = again s o c (omega (arith, server_over, w.clock))
