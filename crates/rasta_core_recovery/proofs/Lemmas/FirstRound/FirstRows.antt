-- What came to two ends from a first round on goes on in its numbers.
use Rattle.rasta_core_recovery.proofs.Words.Basics.{◌≡◌, ℕ, zero, suc, ◌+◌, ◌≤◌, true, List, ◌++◌, refl, sym, subst, arith}
use Rattle.rasta_core_recovery.proofs.Words.Links.{LinkState, is_open, Pdu}
use Rattle.rasta_core_recovery.proofs.Lemmas.Rounds.Course.{Joined}
use Rattle.rasta_core_recovery.proofs.Lemmas.FirstRound.FirstTakes.{came_to_client, came_to_server}
use Rattle.rasta_core_recovery.proofs.Lemmas.FirstRound.FirstTurns.{IsNth, row_nth}
use Rattle.rasta_core_recovery.proofs.Lemmas.Rounds.Links.{Pair, end_round, pair_round, pair_rounds}
use Rattle.rasta_core_recovery.proofs.Lemmas.ComingUp.Seen.{Stay}
use Rattle.rasta_core_recovery.proofs.Lemmas.Rounds.Turn.{Either, Numbers, gone, numbers, so}
use Rattle.rasta_core_recovery.proofs.Lemmas.Rounds.Words.{Row, row_then, voice_of}

-- an end that stays in a round
pub says : (ps : List Pdu) (l : LinkState) → Joined l.clock l → is_open (end_round (l.clock + 10) ps l).link.phase ≡ true → Numbers (l.clock + 10) l (end_round (l.clock + 10) ps l)
says ps l is then_in = choose (numbers (l.clock + 10) ps l is refl)
  where
    choose : Either (l.clock + 10) (end_round (l.clock + 10) ps l).link (Numbers (l.clock + 10) l (end_round (l.clock + 10) ps l)) → Numbers (l.clock + 10) l (end_round (l.clock + 10) ps l)
    choose (gone left) = absurd (cc (left.is_out, then_in))
    choose (so n) = n

-- its numbers go on
nth_on : (n : ℕ) (ps qs : List Pdu) (l : LinkState) → Joined l.clock l → is_open (end_round (l.clock + 10) ps l).link.phase ≡ true → Row (IsNth l.own_first) n qs l.sent
    → Row (IsNth (end_round (l.clock + 10) ps l).link.own_first) n (qs ++ (end_round (l.clock + 10) ps l).pdus) (end_round (l.clock + 10) ps l).link.sent
nth_on n ps qs l is then_in row = let s = says ps l is then_in in
    row_then (IsNth (end_round (l.clock + 10) ps l).link.own_first) n l.sent (end_round (l.clock + 10) ps l).link.sent qs (end_round (l.clock + 10) ps l).pdus
    (subst (λ (f : ℕ). Row (IsNth f) n qs l.sent) (sym s.own_first) row)
    (row_nth (voice_of (end_round (l.clock + 10) ps l).link) l.sent (end_round (l.clock + 10) ps l).link.sent (end_round (l.clock + 10) ps l).pdus s.row)

module _ (last : ℕ) (r : Pair) (stay : Stay last r) (client_joined : (i : ℕ) → i ≤ last → Joined (pair_rounds i r).client.clock (pair_rounds i r).client)
    (server_joined : (i : ℕ) → i ≤ last → Joined (pair_rounds i r).server.clock (pair_rounds i r).server) where
  pub rows_to_client : (n : ℕ) → Row (IsNth r.server.own_first) n r.to_client r.server.sent → (i : ℕ) → i ≤ last → Row (IsNth (pair_rounds i r).server.own_first) n (came_to_client (suc i) r) (pair_rounds i r).server.sent
  unfolding came_to_client pair_round
  rows_to_client n start zero le = start
  rows_to_client n start (suc i) le = nth_on n (pair_rounds i r).to_server (came_to_client (suc i) r) (pair_rounds i r).server (server_joined i (omega (arith, le))) (stay.both (suc i) le).server
      (rows_to_client n start i (omega (arith, le)))

  pub rows_to_server : (n : ℕ) → Row (IsNth r.client.own_first) n r.to_server r.client.sent → (i : ℕ) → i ≤ last → Row (IsNth (pair_rounds i r).client.own_first) n (came_to_server (suc i) r) (pair_rounds i r).client.sent
  unfolding came_to_server pair_round
  rows_to_server n start zero le = start
  rows_to_server n start (suc i) le = nth_on n (pair_rounds i r).to_client (came_to_server (suc i) r) (pair_rounds i r).client (client_joined i (omega (arith, le))) (stay.both (suc i) le).client
      (rows_to_server n start i (omega (arith, le)))
