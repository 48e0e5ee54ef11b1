-- Two ends and what is pending between them as a pair of links and PDUs.
use Rattle.rasta_core_recovery.proofs.Words.Basics.{◌≡◌, ℕ, ◌+◌, List, [], ◌∷◌, drop, Ok, if◌then◌else◌}
use Rattle.rasta_core_recovery.proofs.Words.Links.{Role, Sent, Names, reading, Key, Pdu, Timely}
use Rattle.rasta_core_recovery.proofs.Words.Recovery.{Flow, can_come}
use Rattle.rasta_core_recovery.proofs.Lemmas.Rounds.Links.{Pair}

abbrev pub chosen : Role → Role → List ℕ → List (List ℕ) → List (List ℕ)
chosen Role.Client Role.Client bytes rest = bytes ∷ rest
chosen Role.Server Role.Server bytes rest = bytes ∷ rest
chosen Role.Client Role.Server bytes rest = rest
chosen Role.Server Role.Client bytes rest = rest

-- the bytes of what an end sent
abbrev pub bytes_from : Role → List Sent → List (List ℕ)
bytes_from who [] = []
bytes_from who (first ∷ others) = chosen who first.sender first.bytes (bytes_from who others)

-- these bytes are read as these PDUs
abbrev pub AreRead : Key → List (List ℕ) → List Pdu → Type 0
AreRead key [] [] = Unit {0}
AreRead key [] (pdu ∷ others) = ⊥
AreRead key (bytes ∷ later) [] = ⊥
AreRead key (bytes ∷ later) (pdu ∷ others) = (reading key bytes ≡ Ok pdu) × AreRead key later others

-- those that can still be delivered
abbrev pub arriving : ℕ → List Sent → List Sent
arriving time [] = []
arriving time (first ∷ later) = if can_come time first then first ∷ arriving time later else arriving time later

-- what comes to two ends in the next round
abbrev pub pending : Flow → List Sent
pending f = arriving (f.ends.time + 10000) (drop f.passed f.ends.sent)

-- Two ends and what is pending between them, as a pair of links and PDUs.
pub record Mirrors (names : Names) (f : Flow) (p : Pair) : Type 0 where
  pub timely : Timely names f.ends
  pub client : f.ends.client.link ≡ p.client
  pub server : f.ends.server.link ≡ p.server
  pub to_client : AreRead names.key (bytes_from Role.Server (pending f)) p.to_client
  pub to_server : AreRead names.key (bytes_from Role.Client (pending f)) p.to_server
