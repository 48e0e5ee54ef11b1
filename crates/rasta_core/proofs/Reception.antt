-- What reception of a datagram says of the two ends, and that taking it keeps what is true of them.
use Rattle.std.proofs.Common.{◌≡◌, ℕ, ◌+◌, ◌*◌, ◌≤◌, ◌<◌, Some, refl, arith}
use Rattle.std.proofs.lemmas.Option.{same_Some}
use native.Mathlib.Decide.{ℕ_discrete, dec_lt}
use Rattle.rasta_core_spec.specs.Parameters.{quiet_time}
use Rattle.rasta_core_spec.specs.identity.Role.{Role}
use Rattle.rasta_core_spec.specs.identity.Role.TheVariants as role
use Rattle.rasta_core_spec.specs.Bag.{lifetime}
use Rattle.rasta_core_spec.specs.pdu.Pdu.{Pdu}
use Rattle.rasta_core.specs.TimedEnds.{Standing, Inside, Outside, Timed, Times, IsInside, IsOutside, HasHeard, closed_at}
use Rattle.rasta_core.specs.Moves.{asking}
use Rattle.rasta_core.specs.Timely.{IsTimed, AreTimed, IsKnown}
use Rattle.rasta_core_spec.specs.Sentences.{IsRequest}

-- a reading of a clock in milliseconds
pub record Reads (now clock : ℕ) : Type 0 where
  pub reached : 1000 * now ≤ clock
  pub passed : clock < 1000 * now + 1000

-- an end that is down at this reading
pub record IsDown (now : ℕ) (end : Timed) : Type 0 where
  pub is_outside : IsOutside end.standing
  pub reads : Reads now end.clock
  pub quiet : closed_at end.standing + quiet_time ≤ now

abbrev pub IsAlive : ℕ → ℕ → Type 0
IsAlive time at = time ≤ at + lifetime

-- what can be delivered was sent in the newest connection
pub alive_newest : (times : Times) (who : Role) (at connection : ℕ) (pdu : Pdu) (back : ℕ) → IsKnown times who at connection pdu back
    → IsAlive times.time at → connection ≡ times.newest
alive_newest times who at connection pdu back known alive = elim (ℕ_discrete connection times.newest) [ yes same ↦ same | no other ↦ absurd (omega (arith, known.dead other)) ]

-- a time that is long enough for all of the last connection to be over
pub long_away : (times : Times) (moment newest now : ℕ) (end : Timed) → IsTimed times.time moment newest end → IsDown now end
    → end.past.left_at + 5992998 ≤ times.time
long_away times moment newest now end is down = omega (arith, is.apart down.is_outside, is.small.ahead, is.closed down.is_outside, down.quiet, down.reads.reached, down.reads.passed)

-- an end inside heard something that its partner sent not long ago
pub not_long : (time moment newest : ℕ) (end : Timed) → IsTimed time moment newest end → IsInside end.standing
    → time < end.past.returned_at + 1801811
not_long time moment newest end is inside = omega (arith, is.was_read inside, is.small.behind, is.young inside)

-- where a client is down, its server is outside
pub server_gone : (now : ℕ) (times : Times) → AreTimed times → IsDown now times.client → IsInside times.server.standing → ⊥
server_gone now times are down inside =
    let away = long_away times times.moment times.newest now times.client are.client down in
    let near = not_long _ _ _ _ are.server inside in
    omega (arith, away, near, are.server_alone inside down.is_outside)

pub asking_kept : (now : ℕ) (times : Times) → AreTimed times → IsDown now times.client → AreTimed (asking now times)
asking_kept now times are down = record {
  client = record {
    small = are.client.small;
    left_before = are.client.left_before;
    returned_before = omega arith;
    heard_before = are.client.heard_before;
    left_counted = omega (arith, are.client.left_counted);
    began = λ c e. omega (arith, same_Some _ _ e);
    in_newest = λ i. refl;
    was_read = λ i. omega (arith, down.reads.reached);
    reached = λ i. down.reads.reached;
    young = λ i. omega (arith, down.reads.passed);
    apart = λ o. absurd o;
    closed = λ o. absurd o;
    heard_is = λ h. absurd h;
    prompt = λ h. absurd h;
    over = λ o. absurd o;
  };
  server = record {
    small = are.server.small;
    left_before = are.server.left_before;
    returned_before = are.server.returned_before;
    heard_before = are.server.heard_before;
    left_counted = omega (arith, are.server.left_counted);
    began = λ c e. omega (arith, are.server.began c e);
    in_newest = λ i. absurd (gone i);
    was_read = are.server.was_read;
    reached = are.server.reached;
    young = are.server.young;
    apart = are.server.apart;
    closed = are.server.closed;
    heard_is = are.server.heard_is;
    prompt = are.server.prompt;
    over = are.server.over;
  };
  begun = λ i. refl;
  joined = λ h. absurd h;
  client_heard = λ h. absurd h;
  server_heard = λ h i. absurd (gone (heard_inside times.server.standing h));
  server_alone = λ i o. absurd o;
  client_alone = λ i o e. absurd (omega (arith, are.server.began _ e));
}
  where
    gone : IsInside times.server.standing → ⊥
    gone = server_gone now times are down

    heard_inside : (s : Standing) → HasHeard s → IsInside s
    heard_inside (Inside asking own heard) h = tt
    heard_inside (Outside closed) h = absurd h

-- a request that a server takes is of a connection that it never was in, and was sent after it left its last one
pub request_fresh : (now : ℕ) (times : Times) (at connection : ℕ) (pdu : Pdu) (back : ℕ) → AreTimed times → IsDown now times.server
    → IsKnown times role.Client at connection pdu back → IsRequest pdu.body → IsAlive times.time at → times.server.left ≤ connection
request_fresh now times at connection pdu back are down known request alive = elim (dec_lt connection times.server.left) [
  | yes before ↦ absurd (omega (arith, long_away times times.moment times.newest now times.server are.server down, known.request_old request before))
  | no after ↦ omega (arith, after)
]

pub connection_fresh : (now : ℕ) (times : Times) (at connection : ℕ) (pdu : Pdu) (back : ℕ) → AreTimed times → IsDown now times.server
    → IsKnown times role.Client at connection pdu back → IsRequest pdu.body → IsAlive times.time at
    → times.server.connection ≡ Some times.newest → ⊥
connection_fresh now times at connection pdu back are down known request alive entered =
    omega (arith, are.server.over down.is_outside _ entered, request_fresh now times at connection pdu back are down known request alive, alive_newest times _ _ _ _ _ known alive)
