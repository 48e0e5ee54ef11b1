-- What can happen to two ends, as far as time goes: each event is one of these, or some of them one after another.
use Rattle.std.specs.Prelude.{ℕ, ◌+◌, true, false, Some}
use Rattle.rasta_core_spec.specs.identity.Role.{Role}
use Rattle.rasta_core_spec.specs.identity.Role.TheVariants as role
use Rattle.rasta_core_spec.specs.TrueClocks.{Offset}
use Rattle.rasta_core.specs.TimedEnds.{Inside, Outside, Timed, Times}

abbrev pub with_timed : Role → Timed → Times → Times
with_timed role.Client end times = record times { client = end }
with_timed role.Server end times = record times { server = end }

-- a clock goes on, and is off so far then
abbrev pub clock_on : ℕ → Offset → Timed → Timed
clock_on elapsed offset end = record end { clock = end.clock + elapsed; past = record end.past { offset = offset } }

-- time goes on, and the clock of each end
abbrev pub time_on : ℕ → ℕ → ℕ → Offset → Offset → Times → Times
time_on elapsed of_client of_server client_off server_off times = record times {
  time = times.time + elapsed;
  client = clock_on of_client client_off times.client;
  server = clock_on of_server server_off times.server;
}

-- so many datagrams are sent
abbrev pub sent_on : ℕ → Times → Times
sent_on count times = record times { moment = times.moment + count }

-- an end is outside since now, with this clock, which is off so far; it read so much then, and knows of this reading
abbrev pub outside : ℕ → ℕ → ℕ → Offset → ℕ → ℕ → Timed → Timed
outside time moment clock offset since closed end = record end {
  standing = Outside closed;
  clock = clock;
  left = moment;
  past = record end.past { left_at = time; left_clock = since; offset = offset };
}

-- a client asks for a connection
abbrev pub asking : ℕ → Times → Times
asking now times = record times {
  client = record times.client {
    standing = Inside true now 0;
    connection = Some times.moment;
    past = record times.client.past { returned_at = times.time };
  };
  moment = times.moment + 1;
  newest = times.moment;
}

-- a server takes a request, with this stamp of this reading, and sent at this time
abbrev pub granting : ℕ → ℕ → ℕ → ℕ → ℕ → Times → Times
granting now stamp reading at connection times = record times {
  server = record times.server {
    standing = Inside false now stamp;
    connection = Some connection;
    past = record times.server.past { returned_at = times.time; heard_at = at; heard_clock = reading };
  };
}

-- an end inside takes a PDU: of this stamp of this reading, sent at this time, which returns this own reading, of a
-- datagram sent then
abbrev pub hearing : ℕ → ℕ → ℕ → ℕ → ℕ → Timed → Timed
hearing stamp reading at own back end = record end {
  standing = Inside false own stamp;
  past = record end.past { returned_at = back; heard_at = at; heard_clock = reading };
}
