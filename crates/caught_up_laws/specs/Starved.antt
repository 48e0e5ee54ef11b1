-- A starved end, worked out: the network loses an item again and again, and nothing else.
use Rattle.std.specs.Prelude.{◌≡◌, ℕ, zero, suc, ◌*◌, true, List, [], ◌∷◌, ◌++◌}
use Rattle.rasta_core_spec.specs.Ends.{Opens, Receives, Sends, Sent, Ticks}
use Rattle.rasta_core_spec.specs.Events.{Calls, Event, Passes, Start, happened, run, started}
use Rattle.rasta_core_spec.specs.Names.{Names}
use Rattle.rasta_core_spec.specs.Run.{Ends}
use Rattle.rasta_core_spec.specs.State.{is_up}
use Rattle.rasta_core_spec.specs.identity.Role.{Role}
use Rattle.rasta_core_spec.specs.identity.Role.TheVariants as role
use Rattle.caught_up_laws.specs.Knowledge.{clock_of}
use Rattle.caught_up_laws.specs.Observer.{alive, until_by, caught_up}

abbrev pub names : Names
names = record { key = record { 0 = 0x01234567 ∷ 0x89abcdef ∷ 0xfedcba98 ∷ 0x76543210 ∷ [] }; client = 1; server = 2 }

abbrev pub start : Start
start = record { time = 0; moment = 0; client_clock = 0; client_first = 7; server_clock = 0; server_first = 9 }

abbrev pub item : List ℕ
item = 1 ∷ 2 ∷ 3 ∷ []

abbrev pub nth : ℕ → List Sent → Sent
nth n [] = record { bytes = []; at = 0; sender = role.Client; connection = 0; is_lost = true }
nth zero (first ∷ others) = first
nth (suc n) (first ∷ others) = nth n others

-- the datagram that was sent under this number comes to an end
abbrev pub comes : Role → ℕ → Ends → Event
comes who n ends = Calls who (Receives (nth n ends.sent).bytes (nth n ends.sent).connection)

-- time goes on by so many milliseconds, and both clocks are true
abbrev pub waits : ℕ → Event
waits span = Passes (1000 * span) (1000 * span) (1000 * span)

-- after 6 s the client asks, the server grants, the client joins, and its heartbeat makes the server up
unfoldable pub asked : Ends
asked = run (waits 6000 ∷ Calls role.Client Opens ∷ []) (started names start)

unfoldable pub granted : Ends
granted = happened (comes role.Server 0 asked) asked

unfoldable pub joined : Ends
joined = happened (comes role.Client 1 granted) granted

unfoldable pub both_up : Ends
both_up = happened (comes role.Server 2 joined) joined

-- the client gives an item, which never comes
unfoldable pub given : Ends
given = happened (Calls role.Client (Sends item)) both_up

-- 1000 ms later it sends a heartbeat; so the server misses a PDU, and asks
unfoldable pub beaten : Ends
beaten = run (waits 1000 ∷ Calls role.Client Ticks ∷ []) given

unfoldable pub missed : Ends
missed = happened (comes role.Server 4 beaten) beaten

-- the client answers: the beginning of a retransmission comes, and the item doesn't
unfoldable pub answered : Ends
answered = happened (comes role.Client 5 missed) missed

unfoldable pub resumed : Ends
resumed = happened (comes role.Server 6 answered) answered

-- and 1700 ms more go by
unfoldable pub starved : Ends
starved = happened (waits 1700) resumed

-- until the item is given, and from there on
abbrev pub up_to_the_item : List Event
up_to_the_item = waits 6000 ∷ Calls role.Client Opens ∷ comes role.Server 0 asked ∷ comes role.Client 1 granted ∷ comes role.Server 2 joined
    ∷ Calls role.Client (Sends item) ∷ []

abbrev pub after_the_item : List Event
after_the_item = waits 1000 ∷ Calls role.Client Ticks ∷ comes role.Server 4 beaten ∷ comes role.Client 5 missed ∷ comes role.Server 6 answered
    ∷ waits 1700 ∷ []

-- 2700 ms after the item was given the server is up, and hasn't taken it. It was caught up until 1800 ms after the reading that it had
-- when its partner last had nothing more to say; its link lives longer, for the beginning of a retransmission renews it.
pub record IsStarved : Type 0 where
  pub item_given : starved.client.given ≡ item ∷ []
  pub not_taken : starved.server.taken ≡ []
  pub still_up : is_up starved.server.link.phase ≡ true
  pub read_then : clock_of role.Server given ≡ 6000
  pub reads_now : clock_of role.Server starved ≡ 8700
  pub is_behind : until_by caught_up role.Server (up_to_the_item ++ after_the_item) (started names start) ≡ 7800
  pub would_be_caught_up : until_by alive role.Server (up_to_the_item ++ after_the_item) (started names start) ≡ 8800
