-- The parameters of a link. Times are in milliseconds of the end's own clock.
use Rattle.std.specs.Prelude.{ℕ, ◌+◌, ◌-◌, ◌^◌, min, List, [], ◌∷◌}
use Rattle.rasta_core_link.specs.declared.parameters.TheConstants.{CONNECTION_LIMIT, HEARTBEAT_INTERVAL, QUIET_TIME, SEQUENCE_RANGE, TIME_LIMIT, WINDOW_SIZE}

-- how long after the own stamp that the partner returned last a connection lives
abbrev pub time_limit : ℕ
time_limit = TIME_LIMIT

-- after this silence an end sends a heartbeat
abbrev pub heartbeat_interval : ℕ
heartbeat_interval = HEARTBEAT_INTERVAL

-- how many items may be unconfirmed
abbrev pub window_size : ℕ
window_size = WINDOW_SIZE

-- how far ahead of the expected sequence number a PDU may be
abbrev pub sequence_range : ℕ
sequence_range = SEQUENCE_RANGE

-- how long an end stays quiet after its creation and after every close
abbrev pub quiet_time : ℕ
quiet_time = QUIET_TIME

-- how many PDUs an end sends in a connection before it closes it
abbrev pub connection_limit : ℕ
connection_limit = CONNECTION_LIMIT

-- how many PDUs an end in a connection has sent at most: a call begins below the limit, and hands out no more than 22
abbrev pub most_sent : ℕ
most_sent = connection_limit + 22

-- the version that each end writes: the characters 0303
abbrev pub own_version : List ℕ
own_version = 0x30 ∷ 0x33 ∷ 0x30 ∷ 0x33 ∷ []

abbrev pub no_reserved : List ℕ
no_reserved = 0 ∷ 0 ∷ 0 ∷ 0 ∷ 0 ∷ 0 ∷ 0 ∷ 0 ∷ []

-- the greatest clock reading, and the greatest count
abbrev pub greatest : ℕ
greatest = 2 ^ 64 - 1

-- a sum with a clock, and a count, stop there
abbrev pub stops_at_greatest : ℕ → ℕ
stops_at_greatest n = min n greatest
