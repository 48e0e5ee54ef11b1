-- Two links by rounds, over PDUs: what flows between two ends with no bytes, no datagrams sent before, and no true time.
use Rattle.rasta_core_recovery.proofs.Words.Basics.{ℕ, zero, suc, ◌+◌, List, [], ◌∷◌, ◌≡◌}
use Rattle.rasta_core_recovery.proofs.Words.Links.{LinkState, settled, Step, silent, then_do, entered, hearing, ticking, opening, Role, Pdu}

-- a link after a step, and what it says
abbrev pub the_step : LinkState → List Pdu → Step
the_step link pdus = record { link = link; pdus = pdus }

pub same_step : {k j : LinkState} {ps qs : List Pdu} → k ≡ j → ps ≡ qs → the_step k ps ≡ the_step j qs
same_step e f = cc

-- a PDU comes to a link
unfoldable pub heard : ℕ → Pdu → LinkState → Step
heard now pdu link = then_do (entered now link) (λ l. record { link = (hearing pdu l).link; pdus = (hearing pdu l).pdus })

unfoldable pub all_heard : ℕ → List Pdu → LinkState → Step
all_heard now [] link = silent link
all_heard now (first ∷ others) link = then_do (heard now first link) (λ l. all_heard now others l)

-- each end ticks, and the client opens
unfoldable pub worked : ℕ → Role → LinkState → Step
worked now Role.Client link = then_do (ticking now link) (λ l. opening now l)
worked now Role.Server link = ticking now link

-- a round at one end: time, what comes, and its own work
unfoldable pub end_round : ℕ → List Pdu → LinkState → Step
end_round now pdus link = then_do (all_heard now pdus (settled now link)) (λ l. worked now link.identity.role l)

pub record Pair : Type 0 where
  pub client : LinkState
  pub server : LinkState
  pub to_client : List Pdu
  pub to_server : List Pdu

unfoldable pub pair_round : Pair → Pair
pair_round p =
    let c = end_round (p.client.clock + 10) p.to_client p.client
    in let s = end_round (p.server.clock + 10) p.to_server p.server
    in record { client = c.link; server = s.link; to_client = s.pdus; to_server = c.pdus }

abbrev pub pair_rounds : ℕ → Pair → Pair
pair_rounds zero p = p
pair_rounds (suc n) p = pair_round (pair_rounds n p)
