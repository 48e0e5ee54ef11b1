-- Two ends that talk since a reading, but for what they have passed of what is under way: how soon they are healthy.
use Rattle.rasta_core_recovery.proofs.Words.Basics.{◌≡◌, ℕ, zero, suc, ◌⊎◌, inl, inr, ◌∙◌, ◌+◌, ◌*◌, ◌≤◌, Bool, sym, ap, subst, arith}
use Rattle.rasta_core_recovery.proofs.Words.Links.{Names}
use Rattle.rasta_core_recovery.proofs.Lemmas.ComingUp.Converse.{Talk}
use Rattle.rasta_core_recovery.proofs.Lemmas.Rounds.Course.{Joined}
use Rattle.rasta_core_recovery.proofs.Lemmas.ComingUp.Early.{HealthyOrOld, early_from}
use Rattle.rasta_core_recovery.proofs.Lemmas.Rounds.Facts.{Facts}
use Rattle.rasta_core_recovery.proofs.Lemmas.ComingUp.Fates.{Comes, Leaves, Stays, leaves_comes, search, seen_narrow, stays_comes}
use Rattle.rasta_core_recovery.proofs.Lemmas.ComingUp.Healthy.{Healthy}
use Rattle.rasta_core_recovery.proofs.Lemmas.Rounds.Links.{Pair, pair_round, pair_rounds}
use Rattle.rasta_core_recovery.proofs.Lemmas.Rounds.Lists.{each_drop}
use Rattle.rasta_core_recovery.proofs.Lemmas.Rounds.Passed.{IsUnderWay, same_without, without}
use Rattle.rasta_core_recovery.proofs.Lemmas.Rounds.Pasts.{Past}
use Rattle.rasta_core_recovery.proofs.Lemmas.ComingUp.Returned.{IsReturned}
use Rattle.rasta_core_recovery.proofs.Lemmas.ComingUp.Seen.{BothIn, Rooms, Seen, Stay, healthy_for}

module _ (names : Names) (n : ℕ) (q : Pair) (long : 1560 ≤ n) (seen : Seen names n q) (j : Joined q.client.clock q.client) (s : Stays 1 q) (a b m k : ℕ)
    (client_way : IsUnderWay q.client q.server a m q.to_client) (server_way : IsUnderWay q.server q.client b k q.to_server) where
  -- they go on as they do without what they have passed
  abbrev pub r : Pair
  r = without m k q

  same : pair_round q ≡ pair_round r
  same = same_without q a b m k client_way server_way (s.stay.both 1 (omega arith))

  pub same_rounds : (i : ℕ) → pair_rounds (suc i) q ≡ pair_rounds (suc i) r
  same_rounds zero = same
  same_rounds (suc i) = ap pair_round (same_rounds i)

  in_it : BothIn q
  in_it = s.stay.both 0 (omega arith)

  facts_then : (i : ℕ) → Facts names (pair_rounds i r)
  facts_then zero = let x = seen.facts 0 in record {
    client = x.client;
    server = x.server;
    client_young = x.client_young;
    server_young = x.server_young;
    shares = x.shares;
    alone = x.alone;
    called = λ client_in shut. absurd (let e = in_it.server in cc (shut, e));
    calls = λ client_in asks. absurd (cc (asks, j.joined));
    returned = λ e. each_drop (IsReturned q.server.clock) k q.to_server (x.returned e);
    waited = λ shut long_ago. absurd (cc (shut, j.connected));
  }
  facts_then (suc i) = subst (Facts names) (same_rounds i) (seen.facts (suc i))

  client_clocks : (i : ℕ) → (pair_rounds i r).client.clock ≡ r.client.clock + 10 * i
  client_clocks zero = omega arith
  client_clocks (suc i) = sym (ap (λ (x : Pair). x.client.clock) (same_rounds i)) ∙ seen.client_clock (suc i)

  server_clocks : (i : ℕ) → (pair_rounds i r).server.clock ≡ r.server.clock + 10 * i
  server_clocks zero = omega arith
  server_clocks (suc i) = sym (ap (λ (x : Pair). x.server.clock) (same_rounds i)) ∙ seen.server_clock (suc i)

  client_pasts : (i : ℕ) → Past (pair_rounds i r).client
  client_pasts zero = seen.client_past 0
  client_pasts (suc i) = subst (λ (x : Pair). Past x.client) (same_rounds i) (seen.client_past (suc i))

  server_pasts : (i : ℕ) → Past (pair_rounds i r).server
  server_pasts zero = seen.server_past 0
  server_pasts (suc i) = subst (λ (x : Pair). Past x.server) (same_rounds i) (seen.server_past (suc i))

  rooms_then : (i : ℕ) → i ≤ n → Rooms (pair_rounds i r)
  rooms_then zero most = let x = seen.room 0 most in record { client = x.client; server = x.server }
  rooms_then (suc i) most = subst Rooms (same_rounds i) (seen.room (suc i) most)

  pub seen_then : Seen names n r
  seen_then = record { facts = facts_then; client_clock = client_clocks; server_clock = server_clocks; client_past = client_pasts; server_past = server_pasts; room = rooms_then }

  -- so they come where these come
  pub comes_back : Comes names 1560 r → Comes names 1560 q
  comes_back comes = by comes.rounds comes.soon comes.healthy
    where
      by : (i : ℕ) → i ≤ 1560 → Healthy names 1 (pair_rounds i r) → Comes names 1560 q
      by zero soon h = record { rounds = 1; soon = omega arith; healthy = subst (Healthy names 1) (sym same) (healthy_for names 1 n r seen_then (omega (arith, long)) h) }
      by (suc i) soon h = record { rounds = suc i; soon = soon; healthy = subst (Healthy names 1) (sym (same_rounds i)) h }

  -- where they are healthy soon, or the server knows no own stamp that is younger than this reading
  pub comes_early : (reading : ℕ) → q.server.clock ≡ reading + 10 → ((i : ℕ) → 177 ≤ i → i ≤ 178 → Stay i r → HealthyOrOld names i r reading) → Comes names 1560 q
  comes_early reading clock early = comes_back (choose (search 177 r j))
    where
      choose : Leaves 177 r ⊎ Stays 177 r → Comes names 1560 r
      choose (inl l) = leaves_comes names 177 n r (omega arith) (omega (arith, long)) seen_then l
      choose (inr st) = stays_comes names n r (omega (arith, long)) seen_then 177 reading (omega arith) st (omega (arith, clock)) early

  module _ (reading : ℕ) (clock : q.server.clock ≡ reading + 10) (client_tuned server_tuned : Bool) (talk : Talk names q.client.clock reading client_tuned server_tuned (without m k q)) where
    pub comes_talking : Comes names 1560 q
    comes_talking = comes_early reading clock (λ i least most stay. early_from names 0 i r (omega arith) (omega (arith, least)) (omega (arith, most))
        (seen_narrow names i n r (omega (arith, most, long)) seen_then) stay q.client.clock reading (omega arith) (omega (arith, clock)) client_tuned server_tuned talk)
