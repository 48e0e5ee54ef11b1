-- Each move keeps what is true of the two ends.
use Rattle.std.proofs.Common.{◌≡◌, ℕ, ◌+◌, ◌*◌, ◌≤◌, ◌<◌, arith}
use Rattle.rasta_core_spec.specs.Parameters.{time_limit}
use Rattle.rasta_core_spec.specs.TrueClocks.{GoesOff, IsSmall, Offset}
use Rattle.rasta_core.specs.TimedEnds.{Timed, Times, IsInside, own_stamp}
use Rattle.rasta_core.specs.Moves.{clock_on, time_on, sent_on, outside}
use Rattle.rasta_core.specs.Timely.{WasReadThenBy, IsTimed, AreTimed}

-- ---- one end

-- more datagrams are sent
pub more_sent : (time moment more newest : ℕ) (end : Timed) → moment ≤ more → IsTimed time moment newest end → IsTimed time more newest end
more_sent time moment more newest end rises is = record {
  small = is.small;
  left_before = is.left_before;
  returned_before = is.returned_before;
  heard_before = is.heard_before;
  left_counted = omega (arith, is.left_counted);
  began = λ c e. omega (arith, is.began c e);
  in_newest = is.in_newest;
  was_read = is.was_read;
  reached = is.reached;
  young = is.young;
  apart = is.apart;
  closed = is.closed;
  heard_is = is.heard_is;
  prompt = is.prompt;
  over = is.over;
}

-- an end that is inside has its time left
abbrev pub LivesOn : Timed → Type 0
LivesOn end = IsInside end.standing → end.clock < 1000 * (own_stamp end.standing + time_limit)

-- what a clock read stays read
pub read_on : (time elapsed clock own : ℕ) (old new : Offset) (reading at : ℕ) → GoesOff elapsed own old new → WasReadThenBy time clock old reading at
    → WasReadThenBy (time + elapsed) (clock + own) new reading at
read_on time elapsed clock own old new reading at goes read =
    record { small = goes.small; before = omega (arith, read.before); least = omega (arith, read.least, goes.least); most = omega (arith, read.most, goes.most) }

pub end_on : (time moment newest elapsed own : ℕ) (new : Offset) (end : Timed) → GoesOff elapsed own end.past.offset new → LivesOn (clock_on own new end) → IsTimed time moment newest end
    → IsTimed (time + elapsed) moment newest (clock_on own new end)
end_on time moment newest elapsed own new end goes lives is = record {
  small = goes.small;
  left_before = omega (arith, is.left_before);
  returned_before = omega (arith, is.returned_before);
  heard_before = omega (arith, is.heard_before);
  left_counted = is.left_counted;
  began = is.began;
  in_newest = is.in_newest;
  was_read = λ i. omega (arith, is.was_read i, goes.least);
  reached = λ i. omega (arith, is.reached i);
  young = λ i. lives i;
  apart = λ o. omega (arith, is.apart o, goes.most);
  closed = is.closed;
  heard_is = is.heard_is;
  prompt = is.prompt;
  over = is.over;
}

-- an end leaves or is made anew
pub end_out : (time moment newest clock : ℕ) (offset : Offset) (since closed : ℕ) (end : Timed)
    → IsSmall offset → clock ≤ 1000 * since + 999 → since ≡ closed
    → IsTimed time moment newest end → IsTimed time moment newest (outside time moment clock offset since closed end)
end_out time moment newest clock offset since closed end small soon exact is = record {
  small = small;
  left_before = omega arith;
  returned_before = is.returned_before;
  heard_before = is.heard_before;
  left_counted = omega arith;
  began = is.began;
  in_newest = λ i. absurd i;
  was_read = λ i. absurd i;
  reached = λ i. absurd i;
  young = λ i. absurd i;
  apart = λ o. omega (arith, soon);
  closed = λ o. exact;
  heard_is = λ h. absurd h;
  prompt = λ h. absurd h;
  over = λ o c e. is.began c e;
}

-- ---- both

pub sent_on_kept : (count : ℕ) (times : Times) → AreTimed times → AreTimed (sent_on count times)
sent_on_kept count times are = record {
  client = more_sent _ _ _ _ _ (omega arith) are.client;
  server = more_sent _ _ _ _ _ (omega arith) are.server;
  begun = are.begun;
  joined = are.joined;
  client_heard = are.client_heard;
  server_heard = are.server_heard;
  server_alone = are.server_alone;
  client_alone = are.client_alone;
}

pub time_on_kept : (elapsed of_client of_server : ℕ) (client_off server_off : Offset) (times : Times)
    → GoesOff elapsed of_client times.client.past.offset client_off → GoesOff elapsed of_server times.server.past.offset server_off
    → LivesOn (clock_on of_client client_off times.client) → LivesOn (clock_on of_server server_off times.server)
    → AreTimed times → AreTimed (time_on elapsed of_client of_server client_off server_off times)
time_on_kept elapsed of_client of_server client_off server_off times goes goes' lives lives' are = record {
  client = end_on _ _ _ _ _ _ _ goes lives are.client;
  server = end_on _ _ _ _ _ _ _ goes' lives' are.server;
  begun = are.begun;
  joined = are.joined;
  client_heard = λ h i. read_on _ _ _ _ _ _ _ _ goes' (are.client_heard h i);
  server_heard = λ h i. read_on _ _ _ _ _ _ _ _ goes (are.server_heard h i);
  server_alone = are.server_alone;
  client_alone = are.client_alone;
}

-- the client leaves
pub client_out_kept : (clock : ℕ) (offset : Offset) (since closed : ℕ) (times : Times) → IsSmall offset → clock ≤ 1000 * since + 999 → since ≡ closed
    → AreTimed times → AreTimed (record times { client = outside times.time times.moment clock offset since closed times.client })
client_out_kept clock offset since closed times small soon exact are = record {
  client = end_out _ _ _ _ _ _ _ _ small soon exact are.client;
  server = are.server;
  begun = are.begun;
  joined = λ h. absurd h;
  client_heard = λ h. absurd h;
  server_heard = λ h i. absurd i;
  server_alone = λ i o. omega (arith, are.server.returned_before);
  client_alone = λ i. absurd i;
}

pub server_out_kept : (clock : ℕ) (offset : Offset) (since closed : ℕ) (times : Times) → IsSmall offset → clock ≤ 1000 * since + 999 → since ≡ closed
    → AreTimed times → AreTimed (record times { server = outside times.time times.moment clock offset since closed times.server })
server_out_kept clock offset since closed times small soon exact are = record {
  client = are.client;
  server = end_out _ _ _ _ _ _ _ _ small soon exact are.server;
  begun = λ i. absurd i;
  joined = are.joined;
  client_heard = λ h i. absurd i;
  server_heard = λ h. absurd h;
  server_alone = λ i. absurd i;
  client_alone = λ i o e. omega (arith, are.client.returned_before);
}
