-- What a process saw of its clock and its socket, and what that tells of the age of a datagram.
use Rattle.std.specs.Prelude.{ℕ, ◌+◌, nat_le, Bool, true, false, List, [], ◌∷◌, Option, Some, None}
use Rattle.node_drive.specs.Budget.{in_socket}
use Rattle.node_drive.specs.Calls.{Call, Reads, AsksDatagram, Empty, ThrowsAway}
use Rattle.node_drive.specs.declared.socket_seen.SocketSeen.{SocketSeen}

-- the clock wasn't read, and the socket wasn't found empty
abbrev pub nothing_seen : SocketSeen
nothing_seen = record { latest = None; empty = None }

-- A call that finds the socket empty does so after the latest reading. One that fails tells nothing of the socket.
abbrev pub seen_with : Call → SocketSeen → SocketSeen
seen_with (Reads reading) seen = record seen { latest = Some reading }
seen_with (AsksDatagram Empty) seen = record seen { empty = seen.latest }
seen_with (ThrowsAway count true) seen = record seen { empty = seen.latest }
seen_with call seen = seen

-- by these calls, oldest first
abbrev pub all_seen : List Call → SocketSeen → SocketSeen
all_seen [] seen = seen
all_seen (call ∷ calls) seen = all_seen calls (seen_with call seen)

-- A datagram of which the clock is read once it has come is heard where that is at most so long after the reading before the socket
-- was last found empty. So it has not waited longer.
abbrev pub is_recent : ℕ → Option ℕ → Bool
is_recent now None = false
is_recent now (Some empty) = nat_le now (empty + in_socket)

abbrev pub is_heard : ℕ → SocketSeen → Bool
is_heard now seen = is_recent now seen.empty
