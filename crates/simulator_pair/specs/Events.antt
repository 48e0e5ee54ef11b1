-- The events of a pair: which can happen, what they change, and what is answered.
use Rattle.std.specs.Prelude.{ℕ, ◌+◌, ◌-◌, ◌*◌, nat_le, nat_lt, ◌&&◌, not, Bool, true, false, List, [], Option, Some, None, is_none, if◌then◌else◌}
use Rattle.rasta_core.specs.Calls.{answer_to_send, created}
use Rattle.rasta_core.specs.identity.Identity.{Identity}
use Rattle.rasta_core.specs.identity.Role.{Role}
use Rattle.rasta_core.specs.identity.Role.TheVariants as role
use Rattle.rasta_core.specs.Ends.{Sent, EndState, Ticks, Opens, Closes, Sends, Receives, reading_of}
use Rattle.rasta_core.specs.Bag.{newest_copy, has_copy}
use Rattle.rasta_core.specs.time.TheConstants.{CLOCK_LIMIT}
use Rattle.rasta_core.specs.Run.{Ends, end_of, later, lost, restarted}
use Rattle.rasta_pdu.specs.SafetyCode.{intact}
use Rattle.rasta_pdu.specs.declared.key.Key.{Key}
use Rattle.simulator_pair.specs.Pair.{PairState, stepped, new_lamp}
use Rattle.simulator_pair.specs.declared.event.PairEvent.{PairEvent}
use Rattle.simulator_pair.specs.declared.event.PairEvent.TheVariants as event
use Rattle.simulator_pair.specs.declared.event.PairReply.{PairReply}
use Rattle.simulator_pair.specs.declared.event.PairAnswer.{PairAnswer}
use Rattle.simulator_pair.specs.declared.event.PairAnswer.TheVariants as answer
use Rattle.simulator_refused.specs.declared.refused.Refused.{Refused}
use Rattle.simulator_refused.specs.declared.refused.Refused.TheVariants as refused

-- the greatest true time and the greatest clock, in microseconds
abbrev pub clock_limit : ℕ
clock_limit = CLOCK_LIMIT

-- a clock that goes on by so much in a true time keeps within one part in a thousand of it
abbrev pub keeps_time : ℕ → ℕ → Bool
keeps_time elapsed of_clock = nat_le (999 * elapsed) (1000 * of_clock) && nat_le (1000 * of_clock) (1001 * elapsed)

-- the copy that a delivery of these bytes delivers
abbrev pub copy_of : List ℕ → Ends → Option Sent
copy_of bytes ends = newest_copy ends.time bytes ends.sent

abbrev pub connection_of : Option Sent → ℕ
connection_of None = 0
connection_of (Some sent) = sent.connection

-- why time can't go on so
unfoldable pub refusal_of_time : ℕ → ℕ → ℕ → Ends → Option Refused
refusal_of_time elapsed of_client of_server ends =
    if not (keeps_time elapsed of_client && keeps_time elapsed of_server) then Some refused.Drift else
    if nat_le (ends.time + elapsed) clock_limit && nat_le (ends.client.clock + of_client) clock_limit && nat_le (ends.server.clock + of_server) clock_limit then None else
    Some refused.ClockLimit

-- why bytes can't be delivered to an end: they are intact, and have no copy that can still be delivered
unfoldable pub refusal_of_delivery : Role → List ℕ → Ends → Option Refused
refusal_of_delivery who bytes ends =
    if is_none (copy_of bytes ends) && intact (end_of who ends).link.identity.key bytes then Some refused.NeverSent else None

-- why an event can't happen, if so
unfoldable pub refusal : PairEvent → Ends → Option Refused
refusal (event.Give who item) ends = None
refusal (event.Tick who) ends = None
refusal (event.Time elapsed of_client of_server) ends = refusal_of_time elapsed of_client of_server ends
refusal (event.Deliver who bytes) ends = refusal_of_delivery who bytes.items ends
refusal (event.Lose bytes) ends = if has_copy bytes.items ends.sent then None else Some refused.NeverSent
refusal (event.Close who why) ends = None
refusal (event.Restart who clock first) ends = if nat_lt clock_limit (clock * 1000) then Some refused.ClockLimit else None

-- what an event that can happen changes
unfoldable pub happens : PairEvent → PairState → PairState
happens (event.Give who item) pair = stepped who (Sends item) pair
happens (event.Tick role.Client) pair = stepped role.Client Opens (stepped role.Client Ticks pair)
happens (event.Tick role.Server) pair = stepped role.Server Ticks pair
happens (event.Time elapsed of_client of_server) pair = record pair { ends = later elapsed of_client of_server pair.ends }
happens (event.Deliver who bytes) pair = stepped who (Receives bytes.items (connection_of (copy_of bytes.items pair.ends))) pair
happens (event.Lose bytes) pair = record pair { ends = lost bytes.items pair.ends }
happens (event.Close who why) pair = stepped who (Closes why) pair
happens (event.Restart role.Client clock first) pair = record pair { ends = restarted role.Client clock first pair.ends }
happens (event.Restart role.Server clock first) pair =
    let ends = restarted role.Server clock first pair.ends
    in record { ends = ends; lamp = new_lamp ends.server.link }

-- what is answered to it
unfoldable pub answered : PairEvent → Ends → PairAnswer
answered (event.Give who item) ends = answer.Given (answer_to_send (reading_of (end_of who ends).clock) (end_of who ends).link)
answered _ ends = answer.Done

-- what is told of it: the answer, and how many datagrams it sent
unfoldable pub reply_to : PairEvent → PairState → PairReply
reply_to event pair = record { answer = answered event pair.ends; added = (happens event pair).ends.moment - pair.ends.moment }

abbrev pub is_restart : PairEvent → Bool
is_restart (event.Restart who clock first) = true
is_restart _ = false

-- an end as it is made: with its clock at 0, in no connection
abbrev pub new_end : Identity → EndState
new_end identity = record { link = created identity 0 0; clock = 0; connection = None; left = 0; given = []; taken = [] }

-- a new pair under a key: the client has identity 1, the server 2
abbrev pub new_pair : Key → PairState
new_pair key =
    let server = new_end (record { role = role.Server; own = 2; partner = 1; key = key })
    in record {
      ends = record {
        time = 0;
        client = new_end (record { role = role.Client; own = 1; partner = 2; key = key });
        server = server;
        sent = [];
        moment = 0;
      };
      lamp = new_lamp server.link;
    }
