-- Two ends after the first round, whatever each took of it: healthy soon, or the server never hears of a stamp of the good rounds.
use Rattle.rasta_core_recovery.proofs.Words.Basics.{◌≡◌, ℕ, ◌+◌, ◌≤◌, ◌⊎◌, inl, inr, Bool, true, false, length, refl, arith}
use Rattle.rasta_core_recovery.proofs.Words.Links.{Names}
use Rattle.rasta_core_recovery.proofs.Lemmas.ComingUp.Converse.{Talk, Way}
use Rattle.rasta_core_recovery.proofs.Lemmas.ComingUp.Early.{HealthyOrOld, early_from}
use Rattle.rasta_core_recovery.proofs.Lemmas.FirstRound.FirstBoth.{Directions, HasTaken, client_deaf, server_deaf, way_deaf, way_tuned}
use Rattle.rasta_core_recovery.proofs.Lemmas.FirstRound.FirstEarly.{both_early, old_early, soon}
use Rattle.rasta_core_recovery.proofs.Lemmas.FirstRound.FirstSoon.{Held}
use Rattle.rasta_core_recovery.proofs.Lemmas.FirstRound.FirstTakes.{IsShort, Place, all_by, came_to_client, came_to_server, client_soon, server_soon}
use Rattle.rasta_core_recovery.proofs.Lemmas.FirstRound.FirstTurns.{Answer, Turns}
use Rattle.rasta_core_recovery.proofs.Lemmas.ComingUp.Healthy.{is_reading, waits}
use Rattle.rasta_core_recovery.proofs.Lemmas.Rounds.Links.{Pair, pair_rounds}
use Rattle.rasta_core_recovery.proofs.Lemmas.ComingUp.Seen.{Seen, Stay}

module _ (names : Names) (last client_last reading : ℕ) (p : Pair) (seen : Seen names last p) (stay : Stay last p) (least : 103 ≤ last) (most_rounds : last ≤ 1000)
    (short_client : (k : ℕ) → k ≤ 2 → IsShort (pair_rounds k p).to_client) (short_server : (k : ℕ) → k ≤ 2 → IsShort (pair_rounds k p).to_server)
    (d : Directions names client_last reading p) (turns : (k : ℕ) → k ≤ 2 → Turns (all_by k p) d.to_client.number d.to_server.number) (time : p.server.clock ≡ reading + 10)
    (own : (d.client_kept ≤ reading) ⊎ (d.server_kept ≤ client_last) → p.server.own_stamp ≤ reading)
    (answered : d.client_kept ≡ p.server.clock → d.server_kept ≡ p.client.clock → waits p.client.phase ≡ true → waits p.server.phase ≡ true
    → Answer p.client p.server d.to_client.number (came_to_client 1 p) ⊎ Answer p.server p.client d.to_server.number (came_to_server 1 p)) where
  abbrev Early : Type 0
  Early = HealthyOrOld names last p reading

  talks : (client_tuned server_tuned : Bool) → Talk names p.client.clock reading client_tuned server_tuned p → Early
  talks client_tuned server_tuned talk = early_from names 0 last p (omega arith) least most_rounds seen stay p.client.clock reading (omega arith) (omega (arith, time)) client_tuned server_tuned talk

  talks_by : (client_tuned server_tuned : Bool) → Way reading p.client.clock client_tuned d.client_kept d.server_kept p.client p.server p.to_client
      → Way p.client.clock reading server_tuned d.server_kept d.client_kept p.server p.client p.to_server → Early
  talks_by client_tuned server_tuned c s =
      talks client_tuned server_tuned (record { client = d.client; server = d.server; client_kept = d.client_kept; server_kept = d.server_kept; to_client = c; to_server = s })

  abbrev PlaceNow : Bool → Bool → Type 0
  PlaceNow client_tuned server_tuned = Place names last d.to_client.number d.to_server.number p seen stay (omega (arith, least)) short_client short_server turns 0 client_tuned server_tuned

  abbrev ToClient : Bool → Type 0
  ToClient tuned = Way p.server.clock p.client.clock tuned d.client_kept d.server_kept p.client p.server p.to_client

  abbrev ToServer : Bool → Type 0
  ToServer tuned = Way p.client.clock p.server.clock tuned d.server_kept d.client_kept p.server p.client p.to_server

  client_untuned : ToClient false
  client_untuned = way_deaf reading d.client_kept d.server_kept p.client p.server p.to_client d.to_client p.server.clock p.client.clock (omega arith) (omega arith) d.to_client.before d.to_server.is.own d.to_client.is.own

  server_untuned : ToServer false
  server_untuned = way_deaf client_last d.server_kept d.client_kept p.server p.client p.to_server d.to_server p.client.clock p.server.clock (omega arith) (omega arith) d.to_server.before d.to_client.is.own d.to_server.is.own

  -- what comes to each begins with this number
  client_begins : (tuned : Bool) (w : ToClient tuned) → w.number ≡ d.to_client.number → d.to_client.number + length (came_to_client 0 p) ≡ w.number
  unfolding came_to_client
  client_begins tuned w e = omega (arith, e)

  server_begins : (tuned : Bool) (w : ToServer tuned) → w.number ≡ d.to_server.number → d.to_server.number + length (came_to_server 0 p) ≡ w.number
  unfolding came_to_server
  server_begins tuned w e = omega (arith, e)

  client_held : HasTaken p.client p.server d.to_client.number d.to_client.count d.to_client.reading d.client_kept → waits p.client.phase ≡ true
      → Held d.to_client.number 0 (came_to_client 0 p) p.client d.to_client.number d.to_client.count d.to_client.reading
  unfolding came_to_client
  client_held t w = record { waiting = w; own = t.own; counts = t.confirmed; expected = t.expected; from = omega arith; near = omega arith; unanswered = λ a from below answers. omega (arith, from, below) }

  server_held : HasTaken p.server p.client d.to_server.number d.to_server.count d.to_server.reading d.server_kept → waits p.server.phase ≡ true
      → Held d.to_server.number 0 (came_to_server 0 p) p.server d.to_server.number d.to_server.count d.to_server.reading
  unfolding came_to_server
  server_held t w = record { waiting = w; own = t.own; counts = t.confirmed; expected = t.expected; from = omega arith; near = omega arith; unanswered = λ a from below answers. omega (arith, from, below) }

  pub stands_early : Early
  unfolding way_deaf way_tuned server_untuned client_untuned
  stands_early = by_client d.to_client.heard
    where
      Client : Type 0
      Client = HasTaken p.client p.server d.to_client.number d.to_client.count d.to_client.reading d.client_kept

      Server : Type 0
      Server = HasTaken p.server p.client d.to_server.number d.to_server.count d.to_server.reading d.server_kept

      client_tuned : Client → is_reading p.client.phase ≡ true → ToClient true
      client_tuned t reads = way_tuned reading d.client_kept d.server_kept p.client p.server p.to_client d.to_client p.server.clock p.client.clock (omega arith) (omega arith) t reads

      server_tuned : Server → is_reading p.server.phase ≡ true → ToServer true
      server_tuned t reads = way_tuned client_last d.server_kept d.client_kept p.server p.client p.to_server d.to_server p.client.clock p.server.clock (omega arith) (omega arith) t reads

      place : (x y : Bool) (c : ToClient x) (s : ToServer y) → c.number ≡ d.to_client.number → s.number ≡ d.to_server.number → PlaceNow x y
      place x y c s e f = record {
        talk = record { client = d.client; server = d.server; client_kept = d.client_kept; server_kept = d.server_kept; to_client = c; to_server = s };
        client_from = client_begins x c e;
        server_from = server_begins y s f;
      }

      client_reads : Client → is_reading p.client.phase ≡ true → (d.server_kept ≤ client_last) ⊎ Server → Early
      client_reads t reads (inl o) = talks_by true false
          (way_tuned reading d.client_kept d.server_kept p.client p.server p.to_client d.to_client reading p.client.clock (omega (arith, time)) (omega arith) t reads)
          (server_deaf names client_last reading p d (omega (arith, time)) own (own (inr o)))
      client_reads t reads (inr u) = by_phase u.phase
        where
          by_phase : (is_reading p.server.phase ≡ true) ⊎ (waits p.server.phase ≡ true) → Early
          by_phase (inl then_reads) = talks_by true true
              (way_tuned reading d.client_kept d.server_kept p.client p.server p.to_client d.to_client reading p.client.clock (omega (arith, time)) (omega arith) t reads)
              (way_tuned client_last d.server_kept d.client_kept p.server p.client p.to_server d.to_server p.client.clock reading (omega arith) (omega (arith, time)) u then_reads)
          by_phase (inr waiting) = soon names last d.to_client.number d.to_server.number p seen stay least most_rounds short_client short_server turns reading time
              (server_soon names last d.to_client.number d.to_server.number p seen stay (omega (arith, least)) short_client short_server turns 0 (omega arith)
              (place true false (client_tuned t reads) server_untuned refl refl) (server_held u waiting))

      client_waits : Client → waits p.client.phase ≡ true → (d.server_kept ≤ client_last) ⊎ Server → Early
      client_waits t waiting (inl o) = old_early names last d.to_client.number d.to_server.number p seen stay least most_rounds short_client short_server turns reading time
          (place false false client_untuned server_untuned refl refl) (client_held t waiting) (own (inr o))
      client_waits t waiting (inr u) = by_phase u.phase
        where
          by_phase : (is_reading p.server.phase ≡ true) ⊎ (waits p.server.phase ≡ true) → Early
          by_phase (inl reads) = soon names last d.to_client.number d.to_server.number p seen stay least most_rounds short_client short_server turns reading time
              (client_soon names last d.to_client.number d.to_server.number p seen stay (omega (arith, least)) short_client short_server turns 0 (omega arith)
              (place false true client_untuned (server_tuned u reads) refl refl) (client_held t waiting))
          by_phase (inr then_waiting) = both_early names last d.to_client.number d.to_server.number p seen stay least most_rounds short_client short_server turns reading time
              (place false false client_untuned server_untuned refl refl) (client_held t waiting) (server_held u then_waiting) (answered t.kept_now u.kept_now waiting then_waiting)

      by_client : (d.client_kept ≤ reading) ⊎ Client → Early
      by_client (inl o) = talks_by false false
          (client_deaf names client_last reading p d (omega (arith, time)) own o) (server_deaf names client_last reading p d (omega (arith, time)) own (own (inl o)))
      by_client (inr t) = by_phase t.phase
        where
          by_phase : (is_reading p.client.phase ≡ true) ⊎ (waits p.client.phase ≡ true) → Early
          by_phase (inl reads) = client_reads t reads d.to_server.heard
          by_phase (inr waiting) = client_waits t waiting d.to_server.heard
