-- Sequence numbers and time stamps have 32 bits. Inside, an end counts the PDUs of a connection from 0.
use Rattle.std.specs.Prelude.{ℕ, ◌+◌, ◌-◌, ◌^◌, ◌%◌}

-- the sequence number of a PDU, from that of its sender's first one in the connection
abbrev pub wire : ℕ → ℕ → ℕ
wire first count = (first + count) % 2 ^ 32

-- the count before this one
abbrev pub before : ℕ → ℕ
before count = (count + (2 ^ 32 - 1)) % 2 ^ 32

-- how many steps lead from one sequence number up to another
abbrev pub distance : ℕ → ℕ → ℕ
distance from to = (to + (2 ^ 32 - from)) % 2 ^ 32

-- a clock reading as a time stamp
abbrev pub stamp : ℕ → ℕ
stamp clock = clock % 2 ^ 32
