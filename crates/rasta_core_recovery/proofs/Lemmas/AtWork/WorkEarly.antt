-- Two ends at work that stay in a connection are ready soon, or its server never hears of a stamp that is younger than these rounds.
use Rattle.rasta_core_recovery.proofs.Words.Basics.{◌≡◌, ℕ, zero, suc, ◌+◌, ◌*◌, ◌-◌, ◌^◌, ◌≤◌, ◌<◌, Bool, true, false, sym, ap, subst, arith}
use Rattle.rasta_core_recovery.proofs.Words.Links.{is_open, Names}
use Rattle.rasta_core_recovery.proofs.Lemmas.Rounds.Links.{Pair}
use Rattle.rasta_core_recovery.proofs.Lemmas.Rounds.Acts.{WorkRound, server_step, behind}
use Rattle.rasta_core_recovery.proofs.Lemmas.Rounds.Course.{Joined}
use Rattle.rasta_core_recovery.proofs.Lemmas.ComingUp.Seen.{BothIn, joined_of, server_not_asking}
use Rattle.rasta_core_recovery.proofs.Lemmas.ComingUp.Converse.{Talk, Goes, server_round}
use Rattle.rasta_core_recovery.proofs.Lemmas.ComingUp.Sealed.{ServerAlone, Lasting, Fate, tuned_soon, old_ever, fate_of_both}
use Rattle.rasta_core_recovery.proofs.Lemmas.AtWork.WorkTurn.{Worked}
use Rattle.rasta_core_recovery.proofs.Lemmas.AtWork.WorkTalk.{talks_at_work, server_bounds, server_worked}
use Rattle.rasta_core_recovery.proofs.Lemmas.AtWork.WorkRun.{Rounds}
use Rattle.rasta_core_recovery.proofs.Lemmas.AtWork.WorkFates.{Soon, client_clock_on, server_clock_on, fits_of, tuned_comes}

-- they come to be ready, or the server knows no own stamp that is younger than this reading, nor does it in the next round
pub data HaleOrOld (names : Names) (z p q : Pair) (reading : ℕ) : Type 0 where
  hale_soon : Soon names z → HaleOrOld names z p q reading
  ever_old : p.server.own_stamp ≤ reading → (is_open q.server.phase ≡ true → q.server.own_stamp ≤ reading) → HaleOrOld names z p q reading

module _ (names : Names) (n : ℕ) (z : Pair) (at : ℕ → Pair) (rounds : Rounds names n z at) where
  pub in_behind : (k : ℕ) (lt : k < n) → BothIn (at (suc k)) → BothIn (behind (at k) (rounds.round k lt).0)
  in_behind k lt in_it = subst BothIn (rounds.round k lt).1 in_it

  pub server_is : (k : ℕ) → k ≤ n → is_open (at k).server.phase ≡ true → Joined (at k).server.clock (at k).server
  server_is k most e = let s = (rounds.sound k most).facts in joined_of (at k).server e (server_not_asking names (at k).server s.server) (s.server_young e)

  -- both are inside up to this round, and the client has joined
  pub record Lasts (m : ℕ) : Type 0 where
    pub both : (k : ℕ) → k ≤ m → BothIn (at k)
    pub joined : (k : ℕ) → k ≤ m → Joined (at k).client.clock (at k).client

  pub server_time : (m : ℕ) → m ≤ n → ((k : ℕ) → k ≤ m → BothIn (at k)) → (k : ℕ) → k ≤ m → (at k).server.clock ≡ (at 0).server.clock + 10 * k
  server_time m most both zero le = omega arith
  server_time m most both (suc k) le =
      let lt : k < n = omega (arith, most, le) in let r = rounds.round k lt in
      let before = server_time m most both k (omega (arith, le)) in
      let one = server_clock_on (at k) r.0 (server_is k (omega (arith, lt)) (both k (omega (arith, le))).server) (in_behind k lt (both (suc k) le)).server in
      omega (arith, before, one, ap (λ (q : Pair). q.server.clock) r.1)

  client_time : (m : ℕ) → m ≤ n → Lasts m → (k : ℕ) → k ≤ m → (at k).client.clock ≡ (at 0).client.clock + 10 * k
  client_time m most s zero le = omega arith
  client_time m most s (suc k) le =
      let lt : k < n = omega (arith, most, le) in let r = rounds.round k lt in
      let before = client_time m most s k (omega (arith, le)) in
      let one = client_clock_on (at k) r.0 (s.joined k (omega (arith, le))) (in_behind k lt (s.both (suc k) le)).client in
      omega (arith, before, one, ap (λ (q : Pair). q.client.clock) r.1)

  module _ (m : ℕ) (most : m < n) (short : m ≤ 1000) (s : Lasts m) (reading : ℕ) (start : (at 0).server.clock ≡ reading + 10) where
    pub client_short : (k : ℕ) → k ≤ m → (at k).client.clock ≤ (at 0).client.clock + 90000
    client_short k le = omega (arith, client_time m (omega (arith, most)) s k le, short, le)

    pub server_short : (k : ℕ) → k ≤ m → (at k).server.clock ≤ reading + 90000
    server_short k le = omega (arith, server_time m (omega (arith, most)) s.both k le, start, short, le)

    module _ (k : ℕ) (le : k ≤ m) (client_tuned server_tuned : Bool) (talk : Talk names (at 0).client.clock reading client_tuned server_tuned (at k)) where
      lt : k < n
      lt = omega (arith, most, le)

      r : (r : WorkRound (at k)) × (at (suc k) ≡ behind (at k) r)
      r = rounds.round k lt

      fits : ((at k).client.sent < 2 ^ 31) × ((at k).server.sent < 2 ^ 31)
      fits = fits_of names (at k) (rounds.sound k (omega (arith, lt))) talk.to_client.is talk.to_server.is

      client_early : (at k).client.clock ≤ (at 0).client.clock + 100000
      client_early = omega (arith, client_short k le)

      server_early : (at k).server.clock ≤ reading + 100000
      server_early = omega (arith, server_short k le)

      goes_on : BothIn (at (suc k)) → Goes names (at 0).client.clock reading client_tuned server_tuned (at k) (at (suc k)) talk
      goes_on in_it = subst (λ (q : Pair). Goes names (at 0).client.clock reading client_tuned server_tuned (at k) q talk) (sym r.1)
          (talks_at_work names (at 0).client.clock reading client_tuned server_tuned (at k) r.0 talk fits.0 fits.1 client_early server_early (subst BothIn r.1 in_it)).goes

      alone_on : is_open (at (suc k)).server.phase ≡ true → ServerAlone names (at 0).client.clock reading client_tuned server_tuned (at k) (at (suc k)) talk
      alone_on server_in = subst (λ (q : Pair). ServerAlone names (at 0).client.clock reading client_tuned server_tuned (at k) q talk) (sym r.1) (record {
        bounds = server_bounds names (at 0).client.clock reading client_tuned server_tuned (at k) r.0 talk fits.0 fits.1 client_early server_early;
        then_tuned = w.heeds.then_tuned;
        kept = w.heeds.says.kept;
        mode = w.heeds.mode;
        shut = w.notes.shut;
      })
        where
          w : Worked (server_round names (at 0).client.clock reading client_tuned server_tuned (at k) talk)
              (server_bounds names (at 0).client.clock reading client_tuned server_tuned (at k) r.0 talk fits.0 fits.1 client_early server_early) server_tuned (at k).server (server_step (at k) r.0)
          w = server_worked names (at 0).client.clock reading client_tuned server_tuned (at k) r.0 talk fits.0 fits.1 client_early server_early (subst (λ (q : Pair). is_open q.server.phase ≡ true) r.1 server_in)

    pub lasting : Lasting names m (at 0).client.clock reading at
    lasting = record {
      goes = λ k less client_tuned server_tuned talk. goes_on k (omega (arith, less)) client_tuned server_tuned talk (s.both (suc k) (omega (arith, less)));
      alone = λ client_tuned server_tuned talk server_in. alone_on m (omega arith) client_tuned server_tuned talk server_in;
      client_clock = client_time m (omega (arith, most)) s;
      server_clock = server_time m (omega (arith, most)) s.both;
      client_counts = (rounds.sound 0 (omega arith)).client_past.counts (s.both 0 (omega arith)).client;
      server_counts = (rounds.sound 0 (omega arith)).server_past.counts (s.both 0 (omega arith)).server;
    }

    pub early_hale : 68 ≤ m → 1484 ≤ n → Talk names (at 0).client.clock reading false false (at 0) → HaleOrOld names z (at m) (at (suc m)) reading
    early_hale long rest talk = finish (fate_of_both names m (at 0).client.clock reading at lasting long false false talk)
      where
        finish : Fate names m (at 0).client.clock reading at lasting → HaleOrOld names z (at m) (at (suc m)) reading
        finish (tuned_soon k le tuned) = hale_soon (tuned_comes names (at 0).client.clock reading (n - k) (at k) z (omega (arith, le, rest))
            (rounds.sound k (omega (arith, le, rest))) (rounds.rest k (omega (arith, le, rest))) tuned (client_short k (omega (arith, le, long))) (server_short k (omega (arith, le, long))))
        finish (old_ever d then_d) = ever_old d then_d
