-- Rounds at work of two links, over PDUs: what was said before comes, an end is given items meanwhile, it ticks, and a client opens.
use Rattle.rasta_core_recovery.proofs.Words.Basics.{◌≡◌, ℕ, ◌+◌, ◌<◌, true, List, [], ◌∷◌, ◌++◌}
use Rattle.rasta_core_recovery.proofs.Words.Links.{LinkState, is_open, settled, Step, silent, then_do, ticking, opening, sending_item, Each, Role, Pdu}
use Rattle.rasta_core_recovery.proofs.Lemmas.Rounds.Links.{Pair, heard}

-- what is done at a link
pub data Act : Type 0 where
  Hears : Pdu → Act
  Beats : Act
  Asks : Act
  Gives : List ℕ → Act

unfoldable pub did : ℕ → Act → LinkState → Step
did now (Hears pdu) l = heard now pdu l
did now Beats l = ticking now l
did now Asks l = opening now l
did now (Gives item) l = sending_item now item l

unfoldable pub all_did : ℕ → List Act → LinkState → Step
all_did now [] l = silent l
all_did now (first ∷ others) l = then_do (did now first l) (λ k. all_did now others k)

-- a round at one end: time, and then this
unfoldable pub acted : ℕ → List Act → LinkState → Step
acted now acts l = all_did now acts (settled now l)

-- the PDUs that come
abbrev pub brought : Act → List Pdu
brought (Hears pdu) = pdu ∷ []
brought Beats = []
brought Asks = []
brought (Gives item) = []

abbrev pub all_brought : List Act → List Pdu
all_brought [] = []
all_brought (first ∷ others) = brought first ++ all_brought others

-- what may stand before the tick, and what after it
abbrev pub IsBefore : Act → Type 0
IsBefore (Hears pdu) = Unit {0}
IsBefore Beats = ⊥
IsBefore Asks = ⊥
IsBefore (Gives item) = Unit {0}

abbrev pub IsGift : Act → Type 0
IsGift (Hears pdu) = ⊥
IsGift Beats = ⊥
IsGift Asks = ⊥
IsGift (Gives item) = Unit {0}

abbrev pub clock_acts : Role → List Act
clock_acts Role.Client = Beats ∷ Asks ∷ []
clock_acts Role.Server = Beats ∷ []

-- all that is due comes, with items given between it; then the end ticks, and a client opens; then items are given again
pub record IsWork (who : Role) (due : List Pdu) (acts : List Act) : Type 0 where
  pub front : List Act
  pub back : List Act
  pub are : acts ≡ front ++ (clock_acts who ++ back)
  pub brings : all_brought front ≡ due
  pub before : Each IsBefore front
  pub behind : Each IsGift back

-- an end in a connection has sent fewer PDUs than the limit, and so it is after each act
abbrev pub HasRoom : LinkState → Type 0
HasRoom l = is_open l.phase ≡ true → l.sent < 2147483000

abbrev pub Roomy : ℕ → List Act → LinkState → Type 0
Roomy now [] l = HasRoom l
Roomy now (first ∷ others) l = HasRoom l × Roomy now others (did now first l).link

-- a round of both
pub record WorkRound (p : Pair) : Type 0 where
  pub client_acts : List Act
  pub server_acts : List Act
  pub client_work : IsWork Role.Client p.to_client client_acts
  pub server_work : IsWork Role.Server p.to_server server_acts
  pub client_room : Roomy (p.client.clock + 10) client_acts (settled (p.client.clock + 10) p.client)
  pub server_room : Roomy (p.server.clock + 10) server_acts (settled (p.server.clock + 10) p.server)

abbrev pub client_step : (p : Pair) → WorkRound p → Step
client_step p r = acted (p.client.clock + 10) r.client_acts p.client

abbrev pub server_step : (p : Pair) → WorkRound p → Step
server_step p r = acted (p.server.clock + 10) r.server_acts p.server

abbrev pub behind : (p : Pair) → WorkRound p → Pair
behind p r = record { client = (client_step p r).link; server = (server_step p r).link; to_client = (server_step p r).pdus; to_server = (client_step p r).pdus }
