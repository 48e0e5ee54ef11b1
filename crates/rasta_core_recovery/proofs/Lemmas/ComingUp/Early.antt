-- A connection that both ends stay in becomes healthy soon, or its server never hears of a stamp of the good rounds.
use Rattle.rasta_core_recovery.proofs.Words.Basics.{◌≡◌, ℕ, suc, ◌∙◌, ◌+◌, ◌-◌, ◌^◌, ◌≤◌, ◌<◌, Bool, true, ap, subst, arith}
use Rattle.rasta_core_recovery.proofs.Words.Links.{is_open, Names}
use Rattle.rasta_core_recovery.proofs.Lemmas.Rounds.Links.{Pair, end_round, pair_round, pair_rounds}
use Rattle.rasta_core_recovery.proofs.Lemmas.ComingUp.Healthy.{Healthy}
use Rattle.rasta_core_recovery.proofs.Lemmas.Rounds.Turn.{Turn}
use Rattle.rasta_core_recovery.proofs.Lemmas.ComingUp.Converse.{Talk, Goes, server_round, server_bounds_of, server_turn}
use Rattle.rasta_core_recovery.proofs.Lemmas.ComingUp.Sealed.{ServerAlone, Lasting, Fate, tuned_soon, old_ever, fate_of_both}
use Rattle.rasta_core_recovery.proofs.Lemmas.ComingUp.Seen.{Seen, Stay, NearBy, rounds_add, seen_later, stay_later, talk_step, near_by, healthy_after}

-- They were healthy long before so many rounds, or the server knows no own stamp that is younger than this reading, nor does it in the next round.
pub data HealthyOrOld (names : Names) (n : ℕ) (p : Pair) (reading : ℕ) : Type 0 where
  soon_healthy : (k : ℕ) → k ≤ 103 → Healthy names 1 (pair_rounds k p) → HealthyOrOld names n p reading
  ever_old : (pair_rounds n p).server.own_stamp ≤ reading → (is_open (pair_rounds (suc n) p).server.phase ≡ true → (pair_rounds (suc n) p).server.own_stamp ≤ reading) → HealthyOrOld names n p reading

-- good rounds in which both stay
module _ (names : Names) (of_client of_server n : ℕ) (p : Pair) (seen : Seen names n p) (stay : Stay n p) (short : n ≤ 1000) (client_start : p.client.clock ≤ of_client + 1000) (server_start : p.server.clock ≤ of_server + 1000) where
  client_short : (k : ℕ) → k ≤ n → (pair_rounds k p).client.clock ≤ of_client + 100000
  client_short k most = omega (arith, seen.client_clock k, most, short, client_start)

  server_short : (k : ℕ) → k ≤ n → (pair_rounds k p).server.clock ≤ of_server + 100000
  server_short k most = omega (arith, seen.server_clock k, most, short, server_start)

  goes : (k : ℕ) → k < n → (client_tuned server_tuned : Bool) (talk : Talk names of_client of_server client_tuned server_tuned (pair_rounds k p)) → Goes names of_client of_server client_tuned server_tuned (pair_rounds k p) (pair_rounds (suc k) p) talk
  goes k most client_tuned server_tuned talk = (talk_step names of_client of_server client_tuned server_tuned (pair_rounds k p) talk (seen.room k (omega (arith, most))) (stay.both k (omega (arith, most))) (stay.both (suc k) (omega (arith, most)))
      (client_short k (omega (arith, most))) (server_short k (omega (arith, most)))).goes

  client_fits : (pair_rounds n p).client.sent < 2 ^ 31
  client_fits = let r = (seen.room n (omega arith)).client (stay.both n (omega arith)).client in omega (arith, r)

  alone : (client_tuned server_tuned : Bool) (talk : Talk names of_client of_server client_tuned server_tuned (pair_rounds n p)) → is_open (pair_rounds (suc n) p).server.phase ≡ true
      → ServerAlone names of_client of_server client_tuned server_tuned (pair_rounds n p) (pair_rounds (suc n) p) talk
  unfolding pair_round
  alone client_tuned server_tuned talk then_in = record {
    bounds = server_bounds_of names of_client of_server client_tuned server_tuned (pair_rounds n p) talk client_fits (server_short n (omega arith));
    then_tuned = turn.then_tuned;
    kept = turn.says.kept;
    mode = turn.mode;
    shut = turn.notes.shut;
  }
    where
      turn : Turn (server_round names of_client of_server client_tuned server_tuned (pair_rounds n p) talk) (server_bounds_of names of_client of_server client_tuned server_tuned (pair_rounds n p) talk client_fits (server_short n (omega arith)))
          server_tuned (pair_rounds n p).server (end_round ((pair_rounds n p).server.clock + 10) (pair_rounds n p).to_server (pair_rounds n p).server)
      turn = server_turn names of_client of_server client_tuned server_tuned (pair_rounds n p) talk client_fits (server_short n (omega arith)) then_in

  pub lasting : Lasting names n of_client of_server (λ k. pair_rounds k p)
  lasting = record {
    goes = goes;
    alone = alone;
    client_clock = λ k most. seen.client_clock k;
    server_clock = λ k most. seen.server_clock k;
    client_counts = (seen.client_past 0).counts (stay.both 0 (omega arith)).client;
    server_counts = (seen.server_past 0).counts (stay.both 0 (omega arith)).server;
  }

-- from two that talk since a reading, some rounds later
module _ (names : Names) (b n : ℕ) (p : Pair) (base : b ≤ 2) (long : 103 ≤ n) (short : n ≤ 1000) (seen : Seen names n p) (stay : Stay n p) (of_client reading : ℕ)
    (client_start : (pair_rounds b p).client.clock ≤ of_client + 100) (start : (pair_rounds b p).server.clock ≤ reading + 100)
    (client_tuned server_tuned : Bool) (talk : Talk names of_client reading client_tuned server_tuned (pair_rounds b p)) where
  abbrev first : Pair
  first = pair_rounds b p

  then_seen : Seen names (n - b) first
  then_seen = seen_later names b (n - b) p (subst (λ (k : ℕ). Seen names k p) (omega (arith, long, base)) seen)

  then_stay : Stay (n - b) first
  then_stay = stay_later b (n - b) p (subst (λ (k : ℕ). Stay k p) (omega (arith, long, base)) stay)

  lasts : Lasting names (n - b) of_client reading (λ k. pair_rounds k first)
  lasts = lasting names of_client reading (n - b) first then_seen then_stay (omega (arith, short)) (omega (arith, client_start)) (omega (arith, start))

  same : (k m : ℕ) → k + b ≡ m → pair_rounds k first ≡ pair_rounds m p
  same k m e = rounds_add k b p ∙ ap (λ (i : ℕ). pair_rounds i p) e

  pub early_from : HealthyOrOld names n p reading
  early_from = finish (fate_of_both names (n - b) of_client reading (λ k. pair_rounds k first) lasts (omega (arith, long, base)) client_tuned server_tuned talk)
    where
      finish : Fate names (n - b) of_client reading (λ k. pair_rounds k first) lasts → HealthyOrOld names n p reading
      finish (tuned_soon k le tuned) = soon_healthy (31 + (2 + (k + b))) (omega (arith, le, base)) (subst (Healthy names 1) there (healthy_after names (n - b - k - 2) (pair_rounds 2 q) seen4 stay4 (omega (arith, le, long, base)) by))
        where
          q : Pair
          q = pair_rounds k first

          seen3 : Seen names (n - b - k) q
          seen3 = seen_later names k (n - b - k) first (subst (λ (m : ℕ). Seen names m first) (omega (arith, le, long, base)) then_seen)

          stay3 : Stay (n - b - k) q
          stay3 = stay_later k (n - b - k) first (subst (λ (m : ℕ). Stay m first) (omega (arith, le, long, base)) then_stay)

          seen4 : Seen names (n - b - k - 2) (pair_rounds 2 q)
          seen4 = seen_later names 2 (n - b - k - 2) q (subst (λ (m : ℕ). Seen names m q) (omega (arith, le, long, base)) seen3)

          stay4 : Stay (n - b - k - 2) (pair_rounds 2 q)
          stay4 = stay_later 2 (n - b - k - 2) q (subst (λ (m : ℕ). Stay m q) (omega (arith, le, long, base)) stay3)

          by : NearBy names (pair_rounds 2 q)
          by = near_by names (n - b - k) of_client reading q (omega (arith, le, long, base)) seen3 stay3 tuned (omega (arith, le, then_seen.client_clock k, client_start)) (omega (arith, le, then_seen.server_clock k, start))

          there : pair_rounds 31 (pair_rounds 2 q) ≡ pair_rounds (31 + (2 + (k + b))) p
          there = ap (λ (r : Pair). pair_rounds 31 (pair_rounds 2 r)) (rounds_add k b p) ∙ ap (pair_rounds 31) (rounds_add 2 (k + b) p) ∙ rounds_add 31 (2 + (k + b)) p
      finish (old_ever s then_s) =
          let at = same (n - b) n (omega (arith, long, base)) in let then_at = same (suc (n - b)) (suc n) (omega (arith, long, base)) in
          ever_old (omega (arith, s, ap (λ (q : Pair). q.server.own_stamp) at)) (λ then_in. omega (arith, then_s (ap (λ (q : Pair). is_open q.server.phase) then_at ∙ then_in), ap (λ (q : Pair). q.server.own_stamp) then_at))
