-- Two ends that are up and stay so.
use Rattle.rasta_core_recovery.proofs.Words.Basics.{◌≡◌, ℕ, ◌+◌, ◌-◌, ◌≤◌, ◌<◌, Bool, true, false, List, [], ◌∷◌}
use Rattle.rasta_core_recovery.proofs.Words.Links.{stamp, LinkState, header_of, pdu_of, Phase, Pdu, Heartbeat, Names, identity_of, Role}
use Rattle.rasta_core_recovery.proofs.Lemmas.Rounds.Links.{Pair}

-- the heartbeat that an end sent in this round, if it did
abbrev pub beats : Bool → LinkState → List Pdu
beats false m = []
beats true m = pdu_of (header_of m) (m.sent - 1) Heartbeat ∷ []

abbrev pub count : Bool → ℕ
count false = 0
count true = 1

-- the partner's reading that an end keeps isn't old
abbrev pub IsRecent : Bool → LinkState → ℕ → Type 0
IsRecent false m kept = m.sent_at ≤ kept
IsRecent true m kept = (m.sent_at ≡ m.clock) × (m.clock ≤ kept + 309)

-- nor is the own stamp
abbrev pub IsAlive : Bool → LinkState → LinkState → Type 0
IsAlive false l m = l.clock + m.sent_at ≤ l.own_stamp + 309 + m.clock
IsAlive true l m = l.clock ≤ l.own_stamp + 618

-- an end that takes what comes in turn
abbrev pub is_reading : Phase → Bool
is_reading Phase.Closed = false
is_reading Phase.Start = false
is_reading Phase.Up = true
is_reading Phase.RetransmissionRequested = false
is_reading Phase.RetransmissionRunning = true

-- an end that waits for a retransmission
abbrev pub waits : Phase → Bool
waits Phase.Closed = false
waits Phase.Start = false
waits Phase.Up = false
waits Phase.RetransmissionRequested = true
waits Phase.RetransmissionRunning = false

-- One direction: what an end has of its partner, whose heartbeat may be under way.
pub record Follows (flies : Bool) (l m : LinkState) : Type 0 where
  pub reads : is_reading l.phase ≡ true
  pub first : l.partner_first ≡ m.own_first
  pub some : 1 ≤ l.expected
  pub expected : l.expected + count flies ≡ m.sent
  pub confirmed : m.confirmed < l.expected
  -- the partner's reading whose stamp it keeps
  pub reading : ℕ
  pub kept : l.partner_stamp ≡ stamp reading
  pub since : m.own_stamp ≤ reading
  pub before : reading ≤ m.clock
  pub sent_before : m.sent_at ≤ m.clock
  pub calm : m.clock < m.sent_at + 300
  pub recent : IsRecent flies m reading
  pub own_before : l.own_stamp ≤ l.clock

-- and it has been heard lately, and needs no items again
pub record IsSteady (flies : Bool) (l m : LinkState) : Type 0 where
  pub up : l.phase ≡ Phase.Up
  pub alive : IsAlive flies l m

-- two ends that take what comes, with nothing between them but a heartbeat each way
pub record Beside (names : Names) (of_client of_server : Bool) (p : Pair) : Type 0 where
  pub client : p.client.identity ≡ identity_of Role.Client names
  pub server : p.server.identity ≡ identity_of Role.Server names
  pub to_client : p.to_client ≡ beats of_server p.server
  pub to_server : p.to_server ≡ beats of_client p.client
  pub hears_server : Follows of_server p.client p.server
  pub hears_client : Follows of_client p.server p.client

-- and with room for a PDU in each of so many rounds
pub record Near (names : Names) (rest : ℕ) (of_client of_server : Bool) (p : Pair) : Type 0 where
  pub beside : Beside names of_client of_server p
  pub open beside use *
  pub client_room : p.client.sent + rest < 2147483000
  pub server_room : p.server.sent + rest < 2147483000

pub record Healthy (names : Names) (rest : ℕ) (p : Pair) : Type 0 where
  pub of_client : Bool
  pub of_server : Bool
  pub near : Near names rest of_client of_server p
  pub steady_client : IsSteady of_server p.client p.server
  pub steady_server : IsSteady of_client p.server p.client
