-- What a part of a step, as a function of the code, leaves: for contracts of private functions.
use Rattle.std.specs.Prelude.{◌≡◌, ℕ, ◌+◌, ◌≤◌, length}
use Rattle.ixl_client.specs.ClientSoFar.{ClientSoFar, Seen, Leads}

-- a part of a step at a clock reading leads from one view to another, and hands out at most so many datagrams
pub record Goes (now most : ℕ) (does : ClientSoFar → ClientSoFar) (before after : Seen) : Type 0 where
  pub leads : Leads does before after
  pub clock : after.client.link.clock ≡ now
  pub identity : after.client.link.identity ≡ before.client.link.identity
  pub capacity : after.outbox.capacity ≡ before.outbox.capacity
  pub few : length after.outbox.datagrams ≤ length before.outbox.datagrams + most
