-- Worked runs of a pair, by its definitions.
use Rattle.std.specs.Prelude.{◌≡◌, ℕ, zero, suc, is_none, List, [], ◌∷◌, length, Some, true, if◌then◌else◌}
use Rattle.md4.specs.declared.message.TheConstants.{STANDARD}
use Rattle.rasta_core.specs.State.{confirmed_items, is_up}
use Rattle.rasta_core.specs.identity.Role.{Role}
use Rattle.rasta_core.specs.identity.Role.TheVariants.{Client, Server}
use Rattle.rasta_core.specs.reason.Reason.TheVariants as reason
use Rattle.rasta_core.specs.verdict.Verdict.{Verdict}
use Rattle.rasta_core.specs.verdict.Verdict.TheVariants as verdict
use Rattle.rasta_core.specs.Ends.{Sent}
use Rattle.rasta_core.specs.Sentences.{receipt_at}
use Rattle.sci_telegram.specs.declared.message.Aspect.TheVariants.{Stop, Proceed}
use Rattle.simulator_pair.specs.Pair.{PairState, proceed_item, shown, stop_item}
use Rattle.simulator_pair.specs.Events.{happens, new_pair, refusal}
use Rattle.simulator_pair.specs.declared.event.PairEvent.{PairEvent}
use Rattle.simulator_pair.specs.declared.event.PairEvent.TheVariants as event

-- what happens next: an event, or that the datagram of a place among those sent comes to an end
pub data Move : Type 0 where
  Happens : PairEvent → Move
  Comes : Role → ℕ → Move

abbrev pub bytes_at : ℕ → List Sent → List ℕ
bytes_at place [] = []
bytes_at zero (first ∷ later) = first.bytes
bytes_at (suc place) (first ∷ later) = bytes_at place later

abbrev pub event_of : Move → PairState → PairEvent
event_of (Happens event) pair = event
event_of (Comes who place) pair = event.Deliver who (record { items = bytes_at place pair.ends.sent })

-- an event that can't happen changes nothing
abbrev pub after : PairEvent → PairState → PairState
after event pair = if is_none (refusal event pair.ends) then happens event pair else pair

abbrev pub play : List Move → PairState → PairState
play [] pair = pair
play (first ∷ later) pair = play later (after (event_of first pair) pair)

-- both clocks keep true time
abbrev pub passes : ℕ → Move
passes elapsed = Happens (event.Time elapsed elapsed elapsed)

abbrev pub gives : Role → List ℕ → Move
gives who item = Happens (event.Give who item)

-- what a server would do with the datagram of a place
abbrev pub verdict_on : ℕ → PairState → Verdict
verdict_on place pair = (receipt_at Server (bytes_at place pair.ends.sent) pair.ends).verdict

-- after 6000 ms the client asks, the server grants, the client joins, and its heartbeat makes the server up
unfoldable pub both_up : PairState
both_up = play (passes 6000000 ∷ Happens (event.Tick Client) ∷ Comes Server 0 ∷ Comes Client 1 ∷ Comes Server 2 ∷ []) (new_pair (record { 0 = STANDARD }))

-- proceed and stop are given, and only the later one comes: it is asked for what is missing, and the answer goes out
unfoldable pub one_missing : PairState
one_missing = play (gives Client proceed_item ∷ gives Client stop_item ∷ Comes Server 4 ∷ Comes Client 5 ∷ []) both_up

-- the answer and the first of the repeated items come
unfoldable pub first_again : PairState
first_again = play (Comes Server 6 ∷ Comes Server 7 ∷ []) one_missing

-- the other one and the heartbeat come, and the server says something
unfoldable pub both_again : PairState
both_again = play (Comes Server 8 ∷ Comes Server 9 ∷ gives Server (9 ∷ []) ∷ Comes Client 10 ∷ []) first_again

-- a lost item is asked for, and comes before the later one; and the client counts both as confirmed
pub record Retransmission : Type 0 where
  pub missing : one_missing.ends.server.taken ≡ []
  pub first : first_again.ends.server.taken ≡ proceed_item ∷ []
  pub proceed : shown first_again ≡ Proceed
  pub both : both_again.ends.server.taken ≡ proceed_item ∷ stop_item ∷ []
  pub stop : shown both_again ≡ Stop
  pub confirmed : confirmed_items both_again.ends.client.link ≡ 2

-- the client closes, and opens again 6000 ms later
unfoldable pub up_again : PairState
up_again = play (Happens (event.Close Client reason.User) ∷ Comes Server 3 ∷ passes 6000000 ∷ Happens (event.Tick Client) ∷ Comes Server 4 ∷ Comes Client 5 ∷ Comes Server 6 ∷ []) both_up

-- both ends are in a new connection, whose number is that of its request
pub record Reopening : Type 0 where
  pub client : is_up up_again.ends.client.link.phase ≡ true
  pub server : is_up up_again.ends.server.link.phase ≡ true
  pub same : up_again.ends.client.connection ≡ Some 4
  pub new : up_again.ends.server.connection ≡ Some 4

-- the server takes proceed
unfoldable pub at_proceed : PairState
at_proceed = play (gives Client proceed_item ∷ Comes Server 3 ∷ []) both_up

-- it is made anew with the clock and the sequence number that it once had, and 1960 ms pass
unfoldable pub made_anew : PairState
made_anew = play (Happens (event.Restart Server 0 0) ∷ passes 1960000 ∷ []) at_proceed

-- the old request, heartbeat and item come again
unfoldable pub again : PairState
again = play (Comes Server 0 ∷ Comes Server 2 ∷ Comes Server 3 ∷ []) made_anew

-- each is delivered and refused, for the server is quiet; and its lamp is at stop
pub record Restarting : Type 0 where
  pub proceed : shown at_proceed ≡ Proceed
  pub request : verdict_on 0 made_anew ≡ verdict.Quiet
  pub heartbeat : verdict_on 2 made_anew ≡ verdict.Quiet
  pub item : verdict_on 3 made_anew ≡ verdict.Quiet
  pub allowed : is_none (refusal (event_of (Comes Server 0) made_anew) made_anew.ends) ≡ true
  pub dark : shown made_anew ≡ Stop
  pub still_dark : shown again ≡ Stop
  pub before : length made_anew.ends.sent ≡ 4
  pub silent : length again.ends.sent ≡ 4
