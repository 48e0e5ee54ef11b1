-- Good rounds of two ends and the datagrams between them: all that was sent comes, in order, and each end ticks every 10 ms.
use Rattle.std.specs.Prelude.{◌≡◌, ℕ, zero, suc, ◌+◌, ◌≤◌, ◌<◌, Bool, true, not, ◌&&◌, nat_le, List, [], ◌∷◌, ◌++◌, length, drop, if◌then◌else◌}
use Rattle.rasta_core_spec.specs.Parameters.{connection_limit}
use Rattle.rasta_core_spec.specs.State.{is_up, is_open}
use Rattle.rasta_core_spec.specs.identity.Role.TheVariants as role
use Rattle.rasta_core_spec.specs.Bag.{lifetime}
use Rattle.rasta_core_spec.specs.Ends.{Sent, EndState, Ticks, Opens, Receives}
use Rattle.rasta_core_spec.specs.Events.{Event, Calls, Passes, Start, run, started}
use Rattle.rasta_core_spec.specs.Names.{Names, partner_of}
use Rattle.rasta_core_spec.specs.Run.{Ends}

-- two ends, and how many of the datagrams that were sent no round tries any more
pub record Flow : Type 0 where
  pub ends : Ends
  pub passed : ℕ

-- a datagram that can still be delivered
abbrev pub can_come : ℕ → Sent → Bool
can_come time datagram = not datagram.is_lost && nat_le time (datagram.at + lifetime)

-- each that can comes to its sender's partner, in the order of sending
abbrev pub comings : ℕ → List Sent → List Event
comings time [] = []
comings time (first ∷ later) =
    if can_come time first then Calls (partner_of first.sender) (Receives first.bytes first.connection) ∷ comings time later
    else comings time later

-- both ends tick, and the client opens
abbrev pub own_work : List Event
own_work = Calls role.Client Ticks ∷ Calls role.Client Opens ∷ Calls role.Server Ticks ∷ []

-- a round: 10 ms at equal rates, what was sent before it and not tried yet, and the ends' own work
abbrev pub round_events : Flow → List Event
round_events f = Passes 10000 10000 10000 ∷ (comings (f.ends.time + 10000) (drop f.passed f.ends.sent) ++ own_work)

unfoldable pub good_round : Flow → Flow
good_round f = record { ends = run (round_events f) f.ends; passed = length f.ends.sent }

abbrev pub good_rounds : ℕ → Flow → Flow
good_rounds zero f = f
good_rounds (suc n) f = good_round (good_rounds n f)

-- the events of so many rounds, in their order
abbrev pub events_of : ℕ → Flow → List Event
events_of zero f = []
events_of (suc n) f = events_of n f ++ round_events (good_rounds n f)

-- both ends are up
abbrev pub AreUp : Ends → Type 0
AreUp ends = (is_up ends.client.link.phase ≡ true) × (is_up ends.server.link.phase ≡ true)

-- An end in a connection closes it as it reaches the limit of PDUs. It isn't as far as that, and may send one more.
abbrev pub IsBelowLimit : EndState → Type 0
IsBelowLimit end = is_open end.link.phase ≡ true → end.link.sent + 1 < connection_limit

-- both ends are below it after each of these rounds
abbrev pub StayBelowLimit : ℕ → Flow → Type 0
StayBelowLimit n f = (k : ℕ) → k ≤ n → IsBelowLimit (good_rounds k f).ends.client × IsBelowLimit (good_rounds k f).ends.server

-- two ends to which these events happened, and so many of whose datagrams no round tries any more
abbrev pub flow_after : Names → Start → List Event → ℕ → Flow
flow_after names start events passed = record { ends = run events (started names start); passed = passed }

-- from this good round on both ends are up: 15,610 ms after the good rounds began
abbrev pub recovery_rounds : ℕ
recovery_rounds = 1561

-- from then on, wherever an end comes to the limit of PDUs, both are up again so many rounds later at the latest: 6040 ms
abbrev pub gap_rounds : ℕ
gap_rounds = 604

-- and both then stay up until at least so many rounds after the one in which an end wasn't: more than 20 years. For an end to
-- which nothing is given says a PDU in 300 ms, and a connection has room for 2147483000.
abbrev pub calm_rounds : ℕ
calm_rounds = 64000000000
