-- Two ends at work that stay in a connection come to be ready in it.
use Rattle.rasta_core_recovery.proofs.Words.Basics.{◌≡◌, ℕ, zero, suc, ◌⊎◌, inl, inr, ◌+◌, ◌*◌, ◌-◌, ◌≤◌, ◌<◌, Bool, true, false, refl, sym, ap, subst, arith}
use Rattle.rasta_core_recovery.proofs.Words.Links.{is_asking, is_open, Names}
use Rattle.rasta_core_recovery.proofs.Lemmas.Rounds.Links.{Pair}
use Rattle.rasta_core_recovery.proofs.Lemmas.Rounds.Acts.{WorkRound, behind, client_step}
use Rattle.rasta_core_recovery.proofs.Lemmas.Asking.Asks.{Asks, AsksOn, asking_is}
use Rattle.rasta_core_recovery.proofs.Lemmas.Rounds.Course.{Joined}
use Rattle.rasta_core_recovery.proofs.Lemmas.ComingUp.Seen.{BothIn, joined_of}
use Rattle.rasta_core_recovery.proofs.Lemmas.ComingUp.Converse.{Talk}
use Rattle.rasta_core_recovery.proofs.Lemmas.ComingUp.Sealed.{Fate, Lasting, fate_of_both, old_ever, tuned_soon}
use Rattle.rasta_core_recovery.proofs.Lemmas.Rounds.Facts.{Young}
use Rattle.rasta_core_recovery.proofs.Lemmas.FirstRound.FirstRises.{Climbs}
use Rattle.rasta_core_recovery.proofs.Lemmas.FirstRound.FirstWork.{talk_at_once_at_work}
use Rattle.rasta_core_recovery.proofs.Lemmas.ComingUp.Hale.{Calmly, Closely, Hale, Simply, Waiting, calmly_then, closely_then, hale_then, simply_then, waiting_begins, waiting_on}
use Rattle.rasta_core_recovery.proofs.Lemmas.AtWork.WorkAsks.{in_round_at_work}
use Rattle.rasta_core_recovery.proofs.Lemmas.AtWork.WorkTalk.{GoesAtWork, client_joined, still_in, talks_at_work}
use Rattle.rasta_core_recovery.proofs.Lemmas.AtWork.WorkRun.{Rounds, Run, Sound}
use Rattle.rasta_core_recovery.proofs.Lemmas.AtWork.WorkEarly.{Lasts, client_short, in_behind, lasting, server_is, server_short, server_time}
use Rattle.rasta_core_recovery.proofs.Lemmas.AtWork.WorkFates.{client_clock_on, client_lives, fits_of, hale_for, server_clock_on, server_lives}

-- rounds from a later one on
later_rounds : (names : Names) (n : ℕ) (z : Pair) (at : ℕ → Pair) (d : ℕ) → d ≤ n → Rounds names n z at → Rounds names (n - d) z (λ k. at (k + d))
later_rounds names n z at d most rounds = record {
  sound = λ k le. rounds.sound (k + d) (omega (arith, most, le));
  round = λ k lt. subst (λ (m : ℕ). (r : WorkRound (at (k + d))) × (at m ≡ behind (at (k + d)) r)) (omega arith) (rounds.round (k + d) (omega (arith, most, lt)));
  rest = λ k le. subst (λ (m : ℕ). Run names m (at (k + d)) z) (omega (arith, most)) (rounds.rest (k + d) (omega (arith, most, le)));
}

module _ (names : Names) (n : ℕ) (z : Pair) (at : ℕ → Pair) (rounds : Rounds names n z at) (both : (k : ℕ) → k ≤ n → BothIn (at k)) where
  abbrev round_at : (k : ℕ) → k < n → (r : WorkRound (at k)) × (at (suc k) ≡ behind (at k) r)
  round_at k lt = rounds.round k lt

  then_in : (k : ℕ) (lt : k < n) → BothIn (behind (at k) (round_at k lt).0)
  then_in k lt = in_behind names n z at rounds k lt (both (suc k) lt)

  -- ---- each takes what the other says

  record IsReadyBy : Type 0 where
    round : ℕ
    most : round ≤ n
    hale : Hale names (at round)

  ready_for : IsReadyBy → Hale names z
  ready_for is = hale_for names (n - is.round) (at is.round) z (rounds.rest is.round is.most) is.hale

  -- each waits to be heard
  waiting_ready : (client_start server_start fuel k : ℕ) → k + fuel < n → Waiting names client_start server_start (at k)
      → client_start + 300 ≤ (at k).client.clock + 10 * fuel → server_start + 300 ≤ (at k).server.clock + 10 * fuel → IsReadyBy
  waiting_ready client_start server_start zero k lt w client_long server_long =
      let le : k < n = omega (arith, lt)
      in let r = round_at k le
      in record {
        round = suc k;
        most = le;
        hale = subst (Hale names) (sym r.1) (hale_then names client_start server_start (at k) r.0
            (client_lives (at k) r.0 w.near.to_client.way.is (then_in k le)) (server_lives (at k) r.0 w.near.to_server.way.is (then_in k le)) w
            (omega (arith, client_long)) (omega (arith, server_long)));
      }
  waiting_ready client_start server_start (suc fuel) k lt w client_long server_long =
      let le : k < n = omega (arith, lt)
      in let r = round_at k le
      in let c = client_clock_on (at k) r.0 w.near.to_client.way.is (then_in k le).client
      in let s = server_clock_on (at k) r.0 w.near.to_server.way.is (then_in k le).server
      in let cc1 = ap (λ (q : Pair). q.client.clock) r.1
      in let ss1 = ap (λ (q : Pair). q.server.clock) r.1
      in waiting_ready client_start server_start fuel (suc k) (omega (arith, lt))
      (subst (Waiting names client_start server_start) (sym r.1) (waiting_on names client_start server_start (at k) r.0
      (client_lives (at k) r.0 w.near.to_client.way.is (then_in k le)) (server_lives (at k) r.0 w.near.to_server.way.is (then_in k le)) w))
      (omega (arith, client_long, c, cc1)) (omega (arith, server_long, s, ss1))

  module _ (of_client of_server : ℕ) where
    goes_at : (k : ℕ) (lt : k < n) (talk : Talk names of_client of_server true true (at k)) → (at k).client.clock ≤ of_client + 90100 → (at k).server.clock ≤ of_server + 90100
        → GoesAtWork names of_client of_server true true (at k) (round_at k lt).0 talk
    goes_at k lt talk client_short server_short =
        let fits = fits_of names (at k) (rounds.sound k (omega (arith, lt))) talk.to_client.is talk.to_server.is
        in talks_at_work names of_client of_server true true (at k) (round_at k lt).0 talk fits.0 fits.1 (omega (arith, client_short)) (omega (arith, server_short)) (then_in k lt)

    tuned_closely : (k : ℕ) → k + 3 ≤ n → Talk names of_client of_server true true (at k) → (at k).client.clock ≤ of_client + 90000 → (at k).server.clock ≤ of_server + 90000
        → Closely names (at (suc (suc (suc k))))
    tuned_closely k most talk client_short server_short = subst (Closely names) (sym r2.1) (closely_then names of_client of_server (at (suc (suc k))) r2.0 simple g2)
      where
        lt0 : k < n
        lt0 = omega (arith, most)

        lt1 : suc k < n
        lt1 = omega (arith, most)

        lt2 : suc (suc k) < n
        lt2 = omega (arith, most)

        r0 : (r : WorkRound (at k)) × (at (suc k) ≡ behind (at k) r)
        r0 = round_at k lt0

        r1 : (r : WorkRound (at (suc k))) × (at (suc (suc k)) ≡ behind (at (suc k)) r)
        r1 = round_at (suc k) lt1

        r2 : (r : WorkRound (at (suc (suc k)))) × (at (suc (suc (suc k))) ≡ behind (at (suc (suc k))) r)
        r2 = round_at (suc (suc k)) lt2

        g0 : GoesAtWork names of_client of_server true true (at k) r0.0 talk
        g0 = goes_at k lt0 talk (omega (arith, client_short)) (omega (arith, server_short))

        calm : Calmly names of_client of_server (at (suc k))
        calm = subst (Calmly names of_client of_server) (sym r0.1) (calmly_then names of_client of_server (at k) r0.0 talk g0)

        client_short1 : (at (suc k)).client.clock ≤ of_client + 90010
        client_short1 = omega (arith, client_short, g0.goes.client_clock, ap (λ (q : Pair). q.client.clock) r0.1)

        server_short1 : (at (suc k)).server.clock ≤ of_server + 90010
        server_short1 = omega (arith, server_short, g0.goes.server_clock, ap (λ (q : Pair). q.server.clock) r0.1)

        g1 : GoesAtWork names of_client of_server true true (at (suc k)) r1.0 calm.talk
        g1 = goes_at (suc k) lt1 calm.talk (omega (arith, client_short1)) (omega (arith, server_short1))

        simple : Simply names of_client of_server (at (suc (suc k)))
        simple = subst (Simply names of_client of_server) (sym r1.1) (simply_then names of_client of_server (at (suc k)) r1.0 calm g1)

        g2 : GoesAtWork names of_client of_server true true (at (suc (suc k))) r2.0 simple.calm.talk
        g2 = goes_at (suc (suc k)) lt2 simple.calm.talk (omega (arith, client_short1, g1.goes.client_clock, ap (λ (q : Pair). q.client.clock) r1.1))
            (omega (arith, server_short1, g1.goes.server_clock, ap (λ (q : Pair). q.server.clock) r1.1))

    tuned_ready : (k : ℕ) → k + 34 ≤ n → Talk names of_client of_server true true (at k) → (at k).client.clock ≤ of_client + 90000
        → (at k).server.clock ≤ of_server + 90000 → Hale names z
    tuned_ready k most talk client_short server_short = ready_for (waiting_ready (at (suc (suc (suc k)))).client.clock (at (suc (suc (suc k)))).server.clock 30 (suc (suc (suc k)))
        (omega (arith, most)) (waiting_begins names (at (suc (suc (suc k)))) (tuned_closely k (omega (arith, most)) talk client_short server_short)) (omega arith) (omega arith))

  -- ---- the client has joined

  joined_on : (k : ℕ) → k < n → Joined (at k).client.clock (at k).client → Joined (at (suc k)).client.clock (at (suc k)).client
  joined_on k lt j = let r = round_at k lt in subst (λ (q : Pair). Joined q.client.clock q.client) (sym r.1)
      (still_in ((at k).client.clock + 10) (client_step (at k) r.0).link (Joined (client_step (at k) r.0).link.clock (client_step (at k) r.0).link) (then_in k lt).client (client_joined (at k) r.0 j))

  all_joined : (k : ℕ) → k ≤ n → Joined (at 0).client.clock (at 0).client → Joined (at k).client.clock (at k).client
  all_joined zero most j = j
  all_joined (suc k) most j = joined_on k most (all_joined k (omega (arith, most)) j)

  -- After the next round it is known what is under way.
  joined_ready : 215 ≤ n → (reading : ℕ) → (at 0).server.clock ≡ reading + 10 → Joined (at 0).client.clock (at 0).client
      → Talk names (at 0).client.clock reading false false (at 0) → Hale names z
  joined_ready long reading start j talk = choose (fate_of_both names 180 (at 0).client.clock reading at lasts (omega arith) false false talk)
    where
      lasts_so : Lasts names n z at rounds 180
      lasts_so = record { both = λ k le. both k (omega (arith, le, long)); joined = λ k le. all_joined k (omega (arith, le, long)) j }

      lasts : Lasting names 180 (at 0).client.clock reading at
      lasts = lasting names n z at rounds 180 (omega (arith, long)) (omega arith) lasts_so reading start

      choose : Fate names 180 (at 0).client.clock reading at lasts → Hale names z
      choose (tuned_soon k le tuned) = tuned_ready (at 0).client.clock reading k (omega (arith, le, long)) tuned
          (client_short names n z at rounds 180 (omega (arith, long)) (omega arith) lasts_so reading start k (omega (arith, le)))
          (server_short names n z at rounds 180 (omega (arith, long)) (omega arith) lasts_so reading start k (omega (arith, le)))
      choose (old_ever old then_old) = absurd (
          let young = ((rounds.sound 180 (omega (arith, long))).facts.server_young (both 180 (omega (arith, long))).server).young
          in let clock = server_time names n z at rounds 180 (omega (arith, long)) lasts_so.both 180 (omega arith)
          in omega (arith, old, young, clock, start))

-- ---- from the first round on

module _ (names : Names) (n : ℕ) (z : Pair) (at : ℕ → Pair) (rounds : Rounds names n z at) (both : (k : ℕ) → k ≤ n → BothIn (at k))
    (climbs : (k : ℕ) → k ≤ n → Climbs (at k)) where
  joined_from : (j : ℕ) → j + 216 ≤ n → Joined (at j).client.clock (at j).client → Hale names z
  joined_from j long joined = joined_ready names (n - suc j) z (λ k. at (k + suc j)) (later_rounds names n z at (suc j) (omega (arith, long)) rounds)
      (λ k le. both (k + suc j) (omega (arith, le, long))) (omega (arith, long)) (at j).server.clock
      (subst (λ (i : ℕ). (at i).server.clock ≡ (at j).server.clock + 10) same start)
      (subst (λ (i : ℕ). Joined (at i).client.clock (at i).client) same (joined_on names n z at rounds both j lt joined))
      (subst (λ (i : ℕ). Talk names (at i).client.clock (at j).server.clock false false (at i)) same talk)
    where
      lt : j < n
      lt = omega (arith, long)

      same : suc j ≡ 0 + suc j
      same = omega arith

      r : (r : WorkRound (at j)) × (at (suc j) ≡ behind (at j) r)
      r = rounds.round j lt

      start : (at (suc j)).server.clock ≡ (at j).server.clock + 10
      start = omega (
        arith,
        server_clock_on (at j) r.0 (server_is names n z at rounds j (omega (arith, lt)) (both j (omega (arith, lt))).server) (then_in names n z at rounds both j lt).server,
        ap (λ (q : Pair). q.server.clock) r.1,
      )

      talk : Talk names (at (suc j)).client.clock (at j).server.clock false false (at (suc j))
      talk = subst (λ (q : Pair). Talk names q.client.clock (at j).server.clock false false q) (sym r.1)
          (talk_at_once_at_work names (at j) r.0 (rounds.sound j (omega (arith, lt))) (subst (Sound names) r.1 (rounds.sound (suc j) lt)) (subst Climbs r.1 (climbs (suc j) lt))
          (both j (omega (arith, lt))) joined
          (then_in names n z at rounds both j lt))

  -- a client that asks joins, or its time is over
  asks_by : (fuel k : ℕ) → k + fuel + 217 ≤ n → Asks (at k).client.clock (at k).client → (at k).client.own_stamp + 1800 ≤ (at k).client.clock + 10 * fuel → Hale names z
  asks_by zero k long is over = absurd (let young = is.young in omega (arith, young, over))
  asks_by (suc fuel) k long is over = choose (λ asks late. asks_by fuel (suc k) (omega (arith, long)) asks late)
      (still_in ((at k).client.clock + 10) (client_step (at k) r.0).link
      (Joined ((at k).client.clock + 10) (client_step (at k) r.0).link ⊎ AsksOn ((at k).client.clock + 10) (at k).client (client_step (at k) r.0)) (then_in names n z at rounds both k lt).client
      (in_round_at_work ((at k).client.clock + 10) (at k).to_client r.0.client_acts (at k).client r.0.client_work (inr is) refl r.0.client_room))
    where
      lt : k < n
      lt = omega (arith, long)

      r : (r : WorkRound (at k)) × (at (suc k) ≡ behind (at k) r)
      r = rounds.round k lt

      choose : (Asks (at (suc k)).client.clock (at (suc k)).client → (at (suc k)).client.own_stamp + 1800 ≤ (at (suc k)).client.clock + 10 * fuel → Hale names z)
          → Joined ((at k).client.clock + 10) (client_step (at k) r.0).link ⊎ AsksOn ((at k).client.clock + 10) (at k).client (client_step (at k) r.0) → Hale names z
      choose again (inl j) = joined_from (suc k) (omega (arith, long))
          (subst (λ (q : Pair). Joined q.client.clock q.client) (sym r.1) (subst (λ (c : ℕ). Joined c (client_step (at k) r.0).link) (sym j.clock) j))
      choose again (inr a) = again (subst (λ (q : Pair). Asks q.client.clock q.client) (sym r.1) (subst (λ (c : ℕ). Asks c (client_step (at k) r.0).link) (sym a.asks.clock) a.asks))
          (omega (arith, over, a.own, a.asks.clock, ap (λ (q : Pair). q.client.own_stamp) r.1, ap (λ (q : Pair). q.client.clock) r.1))

  -- Two ends that are in a connection before so many rounds, and after each of them, are ready in it.
  pub lasting_ready : 397 ≤ n → Hale names z
  lasting_ready long = choose (is_asking (at 0).client) refl
    where
      in_it : is_open (at 0).client.phase ≡ true
      in_it = (both 0 (omega arith)).client

      young : Young (at 0).client
      young = (rounds.sound 0 (omega arith)).facts.client_young in_it

      choose : (b : Bool) → is_asking (at 0).client ≡ b → Hale names z
      choose false e = joined_from 0 (omega (arith, long)) (joined_of (at 0).client in_it e young)
      choose true e = asks_by 180 0 (omega (arith, long)) (asking_is (at 0).client.clock (at 0).client refl e young.young young.own) (omega (arith, young.own))
