-- What an end of a link keeps.
use Rattle.std.specs.Prelude.{◌≡◌, ℕ, ◌-◌, ◌^◌, ◌<◌, ◌≤◌, Bool, true, false, List, length, IsTrue}
use Rattle.rasta_core_link.specs.Parameters.{most_sent, window_size}
use Rattle.rasta_core_link.specs.declared.identity.Identity.{Identity}
use Rattle.rasta_core_link.specs.declared.identity.Role.{Role}
use Rattle.rasta_core_link.specs.declared.identity.Role.TheVariants as role
use Rattle.rasta_core_link.specs.declared.phase.Phase.{Phase}
use Rattle.rasta_core_link.specs.declared.phase.Phase.TheVariants as phase
use Rattle.rasta_core_link.specs.declared.window.Unconfirmed.{Unconfirmed}

pub record LinkState : Type 0 where
  -- who the end and its partner are, and the key of their network
  pub identity : Identity
  -- whether it is in a connection, and how far
  pub phase : Phase
  -- the last reading of its clock
  pub clock : ℕ
  -- when it last closed, or was created
  pub closed_at : ℕ
  -- the own stamp that the partner returned last, as a whole clock reading
  pub own_stamp : ℕ
  -- the sequence number of its first PDU in the connection
  pub own_first : ℕ
  -- how many PDUs it sent in the connection
  pub sent : ℕ
  -- when it sent the last of them
  pub sent_at : ℕ
  -- the last of them that the partner confirmed, counted from 0
  pub confirmed : ℕ
  -- the sequence number of the partner's first PDU in the connection
  pub partner_first : ℕ
  -- the time stamp of the PDU with which the partner entered the connection
  pub opening_stamp : ℕ
  -- which of the partner's PDUs it expects, counted from 0, modulo 2^32
  pub expected : ℕ
  -- the partner's time stamp that it took last
  pub partner_stamp : ℕ
  -- the unconfirmed items, oldest first, each with the count of the PDU that last carried it
  pub waiting : List Unconfirmed
  -- how many items it accepted in the connection
  pub given : ℕ
  -- how many of the partner's items it handed out in the connection
  pub taken : ℕ

abbrev pub is_client : Role → Bool
is_client role.Client = true
is_client role.Server = false

-- in a connection
abbrev pub is_open : Phase → Bool
is_open phase.Closed = false
is_open phase.Start = true
is_open phase.Up = true
is_open phase.RetransmissionRequested = true
is_open phase.RetransmissionRunning = true

-- in a connection, and the own request or response was answered
abbrev pub is_up : Phase → Bool
is_up phase.Closed = false
is_up phase.Start = false
is_up phase.Up = true
is_up phase.RetransmissionRequested = true
is_up phase.RetransmissionRunning = true

-- a client that has asked for a connection and taken nothing in it yet
abbrev pub is_asking : LinkState → Bool
is_asking link = asks link.phase where
  asks : Phase → Bool
  asks phase.Start = is_client link.identity.role
  asks _ = false

-- how many items the partner is known to have taken
abbrev pub confirmed_items : LinkState → ℕ
confirmed_items link = link.given - length link.waiting

-- what is true of every link, so that its counts fit: an end in a connection has sent little more than the limit
pub record IsLink (phase : Phase) (sent capacity waiting : ℕ) : Type 0 where
  pub in_connection : IsTrue (is_open phase) → sent ≤ most_sent
  pub sent_fits : sent < 2 ^ 31
  pub room : capacity ≡ window_size
  pub few : waiting ≤ window_size
