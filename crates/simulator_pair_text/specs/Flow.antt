-- What a flow does to a pair.
use Rattle.std.specs.Prelude.{ℕ, zero, suc, ◌-◌, ◌<◌, ◌||◌, nat_lt, List, length, slice_get, Option, Some, None, is_none, if◌then◌else◌}
use Rattle.rasta_core.specs.identity.Role.{Role}
use Rattle.rasta_core.specs.identity.Role.TheVariants as role
use Rattle.rasta_core.specs.Ends.{Sent, Receives}
use Rattle.rasta_core.specs.time.TheConstants.{ROUND_MICROS}
use Rattle.rasta_pdu.specs.declared.writer.TheConstants.{LONGEST_DATAGRAM}
use Rattle.simulator_pair.specs.Pair.{PairState, stepped}
use Rattle.simulator_pair.specs.Events.{refusal_of_delivery, copy_of, connection_of, refusal, happens}
use Rattle.simulator_pair.specs.declared.event.PairEvent.{PairEvent}
use Rattle.simulator_pair.specs.declared.event.PairEvent.TheVariants as event
use Rattle.simulator_pair_text.specs.declared.answer.Answer.{Answer}
use Rattle.simulator_pair_text.specs.declared.answer.Answer.TheVariants.{Done, No}

-- an event is tried: where it can't happen, nothing changes
unfoldable pub tried : PairEvent → PairState → PairState
tried event pair = if is_none (refusal event pair.ends) then happens event pair else pair

-- the arrival of bytes at an end is tried
unfoldable pub arrived : Role → List ℕ → PairState → PairState
arrived who bytes pair =
    if is_none (refusal_of_delivery who bytes pair.ends) then stepped who (Receives bytes (connection_of (copy_of bytes pair.ends))) pair
    else pair

abbrev pub partner_of : Role → Role
partner_of role.Client = role.Server
partner_of role.Server = role.Client

-- a datagram arrives at its sender's partner, unless it is lost, or is longer than any that is delivered
unfoldable pub arriving : Option Sent → PairState → PairState
arriving None pair = pair
arriving (Some sent) pair =
    if sent.is_lost || nat_lt LONGEST_DATAGRAM (length sent.bytes) then pair else arrived (partner_of sent.sender) sent.bytes pair

-- so many datagrams arrive, in the order of sending, from this place on
unfoldable pub arriving_from : ℕ → ℕ → PairState → PairState
arriving_from index zero pair = pair
arriving_from index (suc more) pair = arriving_from (suc index) more (arriving (slice_get pair.ends.sent index) pair)

-- a pair, and how many of the datagrams that were sent a flow has gone past
pub record Flowing : Type 0 where
  pub pair : PairState
  pub passed : ℕ

-- a round: 10 ms at equal rates, the arrival of each datagram that was sent before and that no flow has gone past, and a
-- tick of each end
unfoldable pub round : Flowing → Flowing
round flowing =
    let before = length flowing.pair.ends.sent
    in let passed = tried (event.Time ROUND_MICROS ROUND_MICROS ROUND_MICROS) flowing.pair
    in let delivered = arriving_from flowing.passed (before - flowing.passed) passed
    in record { pair = tried (event.Tick role.Server) (tried (event.Tick role.Client) delivered); passed = before }

-- rounds, one after the other
unfoldable pub rounds : ℕ → Flowing → Flowing
rounds zero flowing = flowing
rounds (suc more) flowing = round (rounds more flowing)

-- A flow of so many rounds, with its answer. Where memory is lacking it ends before a round.
pub data Flows (count : ℕ) (old : Flowing) : Answer → Flowing → Type 0 where
  goes : Flows count old Done (rounds count old)
  ends : (done : ℕ) → done < count → Flows count old (No 6) (rounds done old)
