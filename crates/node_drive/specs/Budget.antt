-- How old a datagram may be at most when it is heard, in milliseconds, and how that is shared out.
use Rattle.std.specs.Prelude.{ℕ, ◌+◌}
use Rattle.node_drive.specs.declared.budget.TheConstants.{LONGEST_IN_SOCKET, LONGEST_UNSEEN, LONGEST_WAIT}

-- from the step that hands it out to its sending
abbrev pub at_sender : ℕ
at_sender = LONGEST_WAIT

-- in the network, with what both kernels keep of it on its way out
abbrev pub in_network : ℕ
in_network = 1000

-- in the receiver's sockets, and in its hold
abbrev pub at_receiver : ℕ
at_receiver = 500

-- of which the program uses so much, counted from the reading at which none was seen to wait
abbrev pub in_socket : ℕ
in_socket = LONGEST_IN_SOCKET

-- and so much before that reading, in a socket that wasn't found empty or in the hold
abbrev pub unseen : ℕ
unseen = LONGEST_UNSEEN

-- all of it
abbrev pub oldest : ℕ
oldest = at_sender + in_network + at_receiver
