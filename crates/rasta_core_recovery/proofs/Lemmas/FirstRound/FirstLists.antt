-- What came to two ends in the rounds after the first one: since when it was said, and how they take turns.
use Rattle.rasta_core_recovery.proofs.Words.Basics.{◌≡◌, ℕ, zero, suc, ◌∙◌, ◌+◌, ◌*◌, ◌≤◌, true, false, List, [], ◌∷◌, ◌++◌, drop, sym, subst, arith}
use Rattle.rasta_core_recovery.proofs.Words.Links.{lifetime, Each, Sent, Names, LinkState, is_asking, is_open, Role, Pdu, Ordered}
use Rattle.rasta_core_recovery.proofs.Words.Recovery.{AskInTurn, Flow, good_round, good_rounds}
use Rattle.rasta_core_recovery.proofs.Lemmas.Rounds.Bridge.{LeavesIt}
use Rattle.rasta_core_recovery.proofs.Lemmas.FirstRound.FirstSince.{IsSince, client_since, client_source, server_since, server_source, since_later}
use Rattle.rasta_core_recovery.proofs.Lemmas.FirstRound.FirstTakes.{all_by, came_to_client, came_to_server}
use Rattle.rasta_core_recovery.proofs.Lemmas.FirstRound.FirstTurns.{IsNth, Turns, turns_with}
use Rattle.rasta_core_recovery.proofs.Lemmas.Rounds.Links.{Pair, pair_rounds}
use Rattle.rasta_core_recovery.proofs.Lemmas.Rounds.Mirror.{Mirrors}
use Rattle.rasta_core_recovery.proofs.Lemmas.Rounds.Words.{Row}

each_joined : (P : Pdu → Type 0) (ps qs : List Pdu) → Each P ps → Each P qs → Each P (ps ++ qs)
each_joined P [] qs one other = other
each_joined P (p ∷ ps) qs one other = (one.0, each_joined P ps qs one.1 other)

module _ (names : Names) (g : Flow) (q r : Pair) (time : ℕ) (from : time ≤ g.ends.time) (same_rounds : (i : ℕ) → pair_rounds (suc i) q ≡ pair_rounds (suc i) r)
    (left : (i : ℕ) → LeavesIt names (good_rounds i g) (drop (good_rounds i g).passed (good_rounds i g).ends.sent) (pair_rounds i q))
    (client_start : Each (IsSince names time Role.Server g.ends.sent) r.to_client) (server_start : Each (IsSince names time Role.Client g.ends.sent) r.to_server) where
  pub time_at : (i : ℕ) → (good_rounds i g).ends.time ≡ g.ends.time + 10000 * i
  unfolding good_round
  time_at zero = omega arith
  time_at (suc i) = (left i).time ∙ (let t = time_at i in omega (arith, t))

  sent_at : (i : ℕ) → (good_rounds (suc i) g).ends.sent ≡ (good_rounds i g).ends.sent ++ (left i).new
  unfolding good_round
  sent_at i = (left i).sent

  pub to_client_since : (i : ℕ) → Each (IsSince names time Role.Server (good_rounds i g).ends.sent) (came_to_client (suc i) r)
  unfolding came_to_client
  to_client_since zero = client_start
  to_client_since (suc i) = subst (λ (ds : List Sent). Each (IsSince names time Role.Server ds) (came_to_client (suc (suc i)) r)) (sym (sent_at i))
      (each_joined (IsSince names time Role.Server ((good_rounds i g).ends.sent ++ (left i).new)) (came_to_client (suc i) r) (pair_rounds (suc i) r).to_client
      (since_later names time Role.Server (good_rounds i g).ends.sent (left i).new (came_to_client (suc i) r) (to_client_since i))
      (subst (λ (x : Pair). Each (IsSince names time Role.Server ((good_rounds i g).ends.sent ++ (left i).new)) x.to_client) (same_rounds i)
      (server_since names (good_rounds i g) _ (pair_rounds i q) (left i) time (let t = time_at i in omega (arith, t, from)))))

  pub to_server_since : (i : ℕ) → Each (IsSince names time Role.Client (good_rounds i g).ends.sent) (came_to_server (suc i) r)
  unfolding came_to_server
  to_server_since zero = server_start
  to_server_since (suc i) = subst (λ (ds : List Sent). Each (IsSince names time Role.Client ds) (came_to_server (suc (suc i)) r)) (sym (sent_at i))
      (each_joined (IsSince names time Role.Client ((good_rounds i g).ends.sent ++ (left i).new)) (came_to_server (suc i) r) (pair_rounds (suc i) r).to_server
      (since_later names time Role.Client (good_rounds i g).ends.sent (left i).new (came_to_server (suc i) r) (to_server_since i))
      (subst (λ (x : Pair). Each (IsSince names time Role.Client ((good_rounds i g).ends.sent ++ (left i).new)) x.to_server) (same_rounds i)
      (client_since names (good_rounds i g) _ (pair_rounds i q) (left i) time (let t = time_at i in omega (arith, t, from)))))

  -- so they take turns in it
  module _ (i : ℕ) (few : i ≤ 2) (recent : g.ends.time ≤ time + 10000) (mirrors : Mirrors names (good_rounds i g) (pair_rounds i q)) (ordered : Ordered names (good_rounds i g).ends)
      (client_is : (good_rounds i g).ends.client.link ≡ (pair_rounds i r).client) (server_is : (good_rounds i g).ends.server.link ≡ (pair_rounds i r).server)
      (server_in : is_open (good_rounds i g).ends.server.link.phase ≡ true) (client_joined : is_asking (good_rounds i g).ends.client.link ≡ false) (server_joined : is_asking (good_rounds i g).ends.server.link ≡ false)
      (asks : AskInTurn names (good_rounds i g).ends) (n k : ℕ) (server_row : Row (IsNth (good_rounds i g).ends.server.link.own_first) n (came_to_client (suc i) r) (good_rounds i g).ends.server.link.sent)
      (client_row : Row (IsNth (good_rounds i g).ends.client.link.own_first) k (came_to_server (suc i) r) (good_rounds i g).ends.client.link.sent) where
    late : (good_rounds i g).ends.time + 10000 ≤ time + lifetime
    late = let t = time_at i in omega (arith, t, few, recent)

    pub turns_at : Turns (all_by i r) n k
    turns_at = subst (λ (x : LinkState). Turns (record { client = (pair_rounds i r).client; server = x; to_client = came_to_client (suc i) r; to_server = came_to_server (suc i) r }) n k) server_is
        (subst (λ (x : LinkState). Turns (record { client = x; server = (good_rounds i g).ends.server.link; to_client = came_to_client (suc i) r; to_server = came_to_server (suc i) r }) n k) client_is
        (turns_with names (good_rounds i g).ends client_joined server_joined asks n k (came_to_client (suc i) r) (came_to_server (suc i) r) server_row client_row
        (server_source names (good_rounds i g) (pair_rounds i q) mirrors ordered server_in time late (came_to_client (suc i) r) (to_client_since i))
        (client_source names (good_rounds i g) (pair_rounds i q) mirrors ordered server_in time late (came_to_server (suc i) r) (to_server_since i))))
