-- A pair that was given events, and the rounds of a flow.
use Rattle.std.specs.Prelude.{ℕ, ◌+◌, ◌*◌, ◌≤◌, List, [], ◌∷◌}
use Rattle.md4.specs.declared.message.TheConstants.{STANDARD}
use Rattle.rasta_pdu.specs.Items.{IsItem}
use Rattle.rasta_core_recovery.specs.Rounds.{IsBelowLimit}
use Rattle.simulator_pair.specs.Pair.{PairState}
use Rattle.simulator_pair.specs.Events.{clock_limit, new_pair}
use Rattle.simulator_pair.specs.declared.event.PairEvent.{PairEvent}
use Rattle.simulator_pair.specs.declared.event.PairEvent.TheVariants as event
use Rattle.simulator_pair_text.specs.Flow.{Flowing, rounds, tried}

-- an item that is given has 1 to 61 bytes, as every `Item` has
abbrev pub GivesItem : PairEvent → Type 0
GivesItem (event.Give who item) = IsItem item
GivesItem _ = Unit {0}

-- events one after the other; one that can't happen changes nothing
abbrev pub after_events : List PairEvent → PairState → PairState
after_events [] pair = pair
after_events (first ∷ others) pair = after_events others (tried first pair)

-- a new pair that was given these events, and so many of whose datagrams a flow has gone past
abbrev pub flow_after : List PairEvent → ℕ → Flowing
flow_after events passed = record { pair = after_events events (new_pair (record { 0 = STANDARD })); passed = passed }

-- true time and both clocks can go on for so many rounds
pub record HasTime (n : ℕ) (flowing : Flowing) : Type 0 where
  pub time : flowing.pair.ends.time + 10000 * n ≤ clock_limit
  pub client : flowing.pair.ends.client.clock + 10000 * n ≤ clock_limit
  pub server : flowing.pair.ends.server.clock + 10000 * n ≤ clock_limit

-- no end in a connection comes to the limit of PDUs, after each of these rounds
abbrev pub StayBelowLimit : ℕ → Flowing → Type 0
StayBelowLimit n flowing = (k : ℕ) → k ≤ n → IsBelowLimit (rounds k flowing).pair.ends.client × IsBelowLimit (rounds k flowing).pair.ends.server

-- from this round on both ends are up: 15,610 ms after the flow began
abbrev pub recovery_rounds : ℕ
recovery_rounds = 1561
