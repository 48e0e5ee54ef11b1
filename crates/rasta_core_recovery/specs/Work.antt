-- Rounds of two ends at work: as good rounds, but that an end may be given items at any time, and may be closed.
use Rattle.std.specs.Prelude.{◌≡◌, ℕ, ◌+◌, ◌^◌, ◌<◌, ◌≤◌, ◌&&◌, true, List, [], ◌∷◌, ◌++◌, length, drop, Some, if◌then◌else◌}
use Rattle.rasta_core_spec.specs.Parameters.{connection_limit}
use Rattle.rasta_core_spec.specs.State.{is_open, is_up}
use Rattle.rasta_core_spec.specs.identity.Role.{Role}
use Rattle.rasta_core_spec.specs.identity.Role.TheVariants as role
use Rattle.rasta_core_spec.specs.Each.{Each}
use Rattle.rasta_core_spec.specs.Ends.{Sent, EndState, Call, Ticks, Opens, Closes, Sends, Receives}
use Rattle.rasta_core_spec.specs.Events.{Event, Calls, Passes, Loses, Restarts, Elsewhere, MayRun, happened, run}
use Rattle.rasta_core_spec.specs.Given.{is_same}
use Rattle.rasta_core_spec.specs.Names.{Names, partner_of}
use Rattle.rasta_core_spec.specs.Run.{Ends, later}
use Rattle.rasta_core_recovery.specs.Rounds.{Flow, can_come}

-- an end is called, or datagrams are sent on other links
abbrev pub IsCall : Event → Type 0
IsCall (Calls who call) = Unit {0}
IsCall (Passes elapsed of_client of_server) = ⊥
IsCall (Loses bytes) = ⊥
IsCall (Restarts who clock first_sequence_number) = ⊥
IsCall (Elsewhere count) = Unit {0}

-- the calls at one end, in their order
abbrev pub called_in : Role → Event → List Call
called_in who (Calls at call) = if is_same at who then call ∷ [] else []
called_in who (Passes elapsed of_client of_server) = []
called_in who (Loses bytes) = []
called_in who (Restarts at clock first_sequence_number) = []
called_in who (Elsewhere count) = []

abbrev pub calls_in : Role → List Event → List Call
calls_in who [] = []
calls_in who (first ∷ others) = called_in who first ++ calls_in who others

-- the bytes that come to an end, in their order
abbrev pub coming : Call → List (List ℕ)
coming Ticks = []
coming Opens = []
coming (Closes why) = []
coming (Sends item) = []
coming (Receives bytes connection) = bytes ∷ []

abbrev pub all_coming : List Call → List (List ℕ)
all_coming [] = []
all_coming (first ∷ others) = coming first ++ all_coming others

-- what may stand before the tick of an end: bytes come, an item is given, or the end is closed
abbrev pub IsBeforeTick : Call → Type 0
IsBeforeTick Ticks = ⊥
IsBeforeTick Opens = ⊥
IsBeforeTick (Closes why) = Unit {0}
IsBeforeTick (Sends item) = Unit {0}
IsBeforeTick (Receives bytes connection) = Unit {0}

-- and what after it
abbrev pub IsBehindTick : Call → Type 0
IsBehindTick Ticks = ⊥
IsBehindTick Opens = ⊥
IsBehindTick (Closes why) = Unit {0}
IsBehindTick (Sends item) = Unit {0}
IsBehindTick (Receives bytes connection) = ⊥

-- an event that closes no end
abbrev pub LeavesOpen : Event → Type 0
LeavesOpen (Calls who (Closes why)) = ⊥
LeavesOpen _ = Unit {0}

-- a tick, and the client opens
abbrev pub clock_calls : Role → List Call
clock_calls role.Client = Ticks ∷ Opens ∷ []
clock_calls role.Server = Ticks ∷ []

-- What an end is called to in a round: all that is due comes, in this order, while it may be given items and closed; then it ticks,
-- and a client opens; and then it may be given items and closed once more.
pub record IsWorkAt (who : Role) (due : List (List ℕ)) (calls : List Call) : Type 0 where
  pub front : List Call
  pub back : List Call
  pub are : calls ≡ front ++ (clock_calls who ++ back)
  pub comes : all_coming front ≡ due
  pub before : Each IsBeforeTick front
  pub behind : Each IsBehindTick back

-- the bytes of those datagrams that can still be delivered to an end, in the order of sending
abbrev pub due_to : Role → ℕ → List Sent → List (List ℕ)
due_to who time [] = []
due_to who time (first ∷ later) =
    if can_come time first && is_same (partner_of first.sender) who then first.bytes ∷ due_to who time later else due_to who time later

-- an end in a connection has sent fewer PDUs than the limit
abbrev pub HasRoom : EndState → Type 0
HasRoom end = is_open end.link.phase ≡ true → end.link.sent < connection_limit

-- both have, before each of these events and after the last
abbrev pub HaveRoom : List Event → Ends → Type 0
HaveRoom [] ends = HasRoom ends.client × HasRoom ends.server
HaveRoom (first ∷ others) ends = HasRoom ends.client × HasRoom ends.server × HaveRoom others (happened first ends)

-- a round: 10 ms at equal rates, and these calls
abbrev pub work_round : List Event → Flow → Flow
work_round calls f = record { ends = run (Passes 10000 10000 10000 ∷ calls) f.ends; passed = length f.ends.sent }

pub record IsAtWork (names : Names) (f : Flow) (calls : List Event) : Type 0 where
  pub may : MayRun names (Passes 10000 10000 10000 ∷ calls) f.ends
  pub only : Each IsCall calls
  pub client : IsWorkAt role.Client (due_to role.Client (f.ends.time + 10000) (drop f.passed f.ends.sent)) (calls_in role.Client calls)
  pub server : IsWorkAt role.Server (due_to role.Server (f.ends.time + 10000) (drop f.passed f.ends.sent)) (calls_in role.Server calls)

-- rounds, one for each list of calls
abbrev pub work_rounds : List (List Event) → Flow → Flow
work_rounds [] f = f
work_rounds (calls ∷ others) f = work_rounds others (work_round calls f)

abbrev pub AreAtWork : Names → List (List Event) → Flow → Type 0
AreAtWork names [] f = Unit {0}
AreAtWork names (calls ∷ others) f = IsAtWork names f calls × AreAtWork names others (work_round calls f)

-- no end in a connection comes to the limit of PDUs in these rounds
abbrev pub StayBelow : List (List Event) → Flow → Type 0
StayBelow [] f = Unit {0}
StayBelow (calls ∷ others) f = HaveRoom calls (later 10000 10000 10000 f.ends) × StayBelow others (work_round calls f)

-- from this round at work on both ends are up: 15,610 ms after the rounds began
abbrev pub recovery_rounds_at_work : ℕ
recovery_rounds_at_work = 1561

-- All that an end gave its partner took: perhaps by a later moment. Their links count so.
pub record HasTaken (giver taker : EndState) : Type 0 where
  pub rest : List (List ℕ)
  pub taken : taker.taken ≡ giver.given ++ rest
  pub counts : giver.link.given ≤ taker.link.taken
  pub few : taker.link.taken < 2 ^ 31

-- Two ends at two moments: they are in one connection at both, the client is up at the earlier one, and by the later one each has taken
-- all that the other gave by the earlier one.
pub record HandOver (old new : Ends) : Type 0 where
  pub client_up : is_up old.client.link.phase ≡ true
  pub connection : ℕ
  pub old_client : old.client.connection ≡ Some connection
  pub old_server : old.server.connection ≡ Some connection
  pub new_client : new.client.connection ≡ Some connection
  pub new_server : new.server.connection ≡ Some connection
  pub to_client : HasTaken old.server new.client
  pub to_server : HasTaken old.client new.server
