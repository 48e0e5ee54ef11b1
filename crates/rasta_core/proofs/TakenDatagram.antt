-- Taking a datagram keeps what is true of the two ends.
use Rattle.std.proofs.Common.{◌≡◌, ℕ, ◌+◌, ◌*◌, ◌-◌, ◌^◌, ◌<◌, ◌≤◌, Some, sym, ap, subst, arith}
use Rattle.std.proofs.lemmas.Option.{same_Some}
use Rattle.rasta_core_spec.specs.Sequence.{distance, stamp}
use Rattle.rasta_core_spec.specs.identity.Role.TheVariants as role
use Rattle.rasta_core_spec.specs.pdu.Pdu.{Pdu}
use Rattle.rasta_core.specs.TimedEnds.{Standing, Inside, Outside, Timed, Times, IsInside, HasHeard, own_stamp}
use Rattle.rasta_core.specs.Moves.{asking, granting, hearing}
use Rattle.rasta_core_spec.specs.TrueClocks.{Offset}
use Rattle.rasta_core.specs.Timely.{WasReadBy, WasReadThenBy, IsTimed, AreTimed, IsAnswering, IsKnown}
use Rattle.rasta_core_spec.specs.Sentences.{IsRequest}
use Rattle.rasta_core.proofs.Reception.{Reads, IsDown, IsAlive, alive_newest, connection_fresh}

heard_inside : (s : Standing) → HasHeard s → IsInside s
heard_inside (Inside asking own heard) h = tt
heard_inside (Outside closed) h = absurd h

pub granting_kept : (now : ℕ) (times : Times) (at connection : ℕ) (pdu : Pdu) (back : ℕ) → AreTimed times → IsDown now times.server
    → (known : IsKnown times role.Client at connection pdu back) → IsRequest pdu.body → IsAlive times.time at
    → AreTimed (granting now pdu.time_stamp known.read_as at connection times)
granting_kept now times at connection pdu back are down known request alive = record {
  client = are.client;
  server = record {
    small = are.server.small;
    left_before = are.server.left_before;
    returned_before = omega arith;
    heard_before = known.sent_before;
    left_counted = are.server.left_counted;
    began = λ c e. omega (arith, same_Some _ _ e, known.counted);
    in_newest = λ i. ap (λ (c : ℕ). Some c) new;
    was_read = λ i. omega (arith, down.reads.reached);
    reached = λ i. down.reads.reached;
    young = λ i. omega (arith, down.reads.passed);
    apart = λ o. absurd o;
    closed = λ o. absurd o;
    heard_is = λ h. known.stamp_is;
    prompt = λ h. alive;
    over = λ o. absurd o;
  };
  begun = λ i. known.begun;
  joined = λ h. ap (λ (c : ℕ). Some c) new;
  client_heard = λ h i. absurd (fresh (are.joined h));
  server_heard = λ h i. known.was_read new i;
  server_alone = λ i o. omega (arith, known.last_word new o, alive);
  client_alone = λ i o. absurd o;
}
  where
    new : connection ≡ times.newest
    new = alive_newest times role.Client at connection pdu back known alive

    fresh : times.server.connection ≡ Some times.newest → ⊥
    fresh = connection_fresh now times at connection pdu back are down known request alive

-- a client that asked takes the response
pub joining_kept : (times : Times) (at connection : ℕ) (pdu : Pdu) (back : ℕ) → AreTimed times → IsInside times.client.standing
    → (known : IsKnown times role.Server at connection pdu back) → IsAlive times.time at
    → AreTimed (record times { client = hearing pdu.time_stamp known.read_as at (own_stamp times.client.standing) times.client.past.returned_at times.client })
joining_kept times at connection pdu back are inside known alive = record {
  client = record {
    small = are.client.small;
    left_before = are.client.left_before;
    returned_before = are.client.returned_before;
    heard_before = known.sent_before;
    left_counted = are.client.left_counted;
    began = are.client.began;
    in_newest = λ i. are.client.in_newest inside;
    was_read = λ i. are.client.was_read inside;
    reached = λ i. are.client.reached inside;
    young = λ i. are.client.young inside;
    apart = λ o. absurd o;
    closed = λ o. absurd o;
    heard_is = λ h. known.stamp_is;
    prompt = λ h. omega (arith, are.client.returned_before, alive);
    over = λ o. absurd o;
  };
  server = are.server;
  begun = are.begun;
  joined = λ h. known.entered new tt;
  client_heard = λ h i. known.was_read new i;
  server_heard = λ h i. are.server_heard h inside;
  server_alone = λ i o. absurd o;
  client_alone = λ i o e. are.client_alone inside o e;
}
  where
    new : connection ≡ times.newest
    new = alive_newest times role.Server at connection pdu back known alive

-- the own reading of the stamp that a PDU returns, as an end finds it that reads this now
abbrev pub returned_by : ℕ → Pdu → ℕ
returned_by now pdu = now - distance pdu.confirmed_time_stamp (stamp now)

-- it returns a stamp that is not older than the last one returned
pub record IsFresh (now own : ℕ) (pdu : Pdu) : Type 0 where
  pub fresh : distance pdu.confirmed_time_stamp (stamp now) ≤ now - own

-- a stamp that is less than a turn old gives back its reading
whole : (now reading returned : ℕ) → returned ≡ stamp reading → reading ≤ now → now < reading + 2 ^ 32 → now - distance returned (stamp now) ≡ reading
whole now reading returned is before turn = omega (arith, is, before, turn)

not_before : (now own old : ℕ) → old ≤ now - own → own ≤ now → own ≤ now - old
not_before now own old fresh reached = omega (arith, fresh, reached)

-- an end reads no less than the stamp that was returned to it
reached : (time moment newest now : ℕ) (end : Timed) → IsTimed time moment newest end → IsInside end.standing → Reads now end.clock → own_stamp end.standing ≤ now
reached time moment newest now end is inside reads = omega (arith, is.reached inside, reads.passed)

-- what an end finds returned is what was: it was read not long ago
pub exact : (time clock : ℕ) (offset : Offset) (now returned at back confirmed : ℕ) → Reads now clock → confirmed ≡ stamp returned → WasReadThenBy time clock offset returned back → back ≤ at → at ≤ time
    → at < back + 3802000 → IsAlive time at → now - distance confirmed (stamp now) ≡ returned
exact time clock offset now returned at back confirmed reads is read before sent promptly alive =
    whole now returned confirmed is (omega (arith, read.before, reads.passed)) (omega (arith, read.most, read.small.ahead, promptly, alive, reads.reached))

one_end : (times : Times) (end : Timed) (at own back heard reading : ℕ) → 1000 * own ≤ end.clock → IsTimed times.time times.moment times.newest end → IsInside end.standing
    → at ≤ times.time → back ≤ at → own_stamp end.standing ≤ own → WasReadBy times.time end.clock end.past.offset own back → heard ≡ stamp reading
    → IsTimed times.time times.moment times.newest (hearing heard reading at own back end)
one_end times end at own back heard reading before is inside sent_before heard_before later was_read heard_is = record {
  small = is.small;
  left_before = is.left_before;
  returned_before = omega (arith, sent_before, heard_before);
  heard_before = sent_before;
  left_counted = is.left_counted;
  began = is.began;
  in_newest = λ i. is.in_newest inside;
  was_read = λ i. was_read;
  reached = λ i. before;
  young = λ i. omega (arith, is.young inside, later);
  apart = λ o. absurd o;
  closed = λ o. absurd o;
  heard_is = λ h. heard_is;
  prompt = λ h. omega (arith, heard_before);
  over = λ o. absurd o;
}

-- the client takes a PDU in its connection
pub client_taking_kept : (now : ℕ) (times : Times) (at connection : ℕ) (pdu : Pdu) (back : ℕ) → AreTimed times → IsInside times.client.standing → Reads now times.client.clock
    → (known : IsKnown times role.Server at connection pdu back) → IsAlive times.time at → IsFresh now (own_stamp times.client.standing) pdu
    → AreTimed (record times { client = hearing pdu.time_stamp known.read_as at (returned_by now pdu) back times.client })
client_taking_kept now times at connection pdu back are inside reads known alive fresh = record {
  client = one_end times times.client at (returned_by now pdu) back pdu.time_stamp known.read_as (subst (λ (own : ℕ). 1000 * own ≤ times.client.clock) (sym returned) (known.returns new tt inside).before) are.client inside known.sent_before known.heard_before
      (not_before now (own_stamp times.client.standing) (distance pdu.confirmed_time_stamp (stamp now)) fresh.fresh (reached _ _ _ now times.client are.client inside reads))
      (subst (λ (own : ℕ). WasReadBy times.time times.client.clock times.client.past.offset own back) (sym returned) (known.returns new tt inside).least) known.stamp_is;
  server = are.server;
  begun = are.begun;
  joined = λ h. known.entered new tt;
  client_heard = λ h i. known.was_read new i;
  server_heard = λ h i. are.server_heard h inside;
  server_alone = λ i o. absurd o;
  client_alone = λ i o e. omega (arith, known.heard_before, known.last_word new o);
}
  where
    new : connection ≡ times.newest
    new = alive_newest times role.Server at connection pdu back known alive

    returned : returned_by now pdu ≡ known.returned
    returned = exact times.time times.client.clock times.client.past.offset now known.returned at back pdu.confirmed_time_stamp reads (known.returned_is tt) (known.returns new tt inside) known.heard_before known.sent_before (known.promptly tt) alive

pub server_taking_kept : (now : ℕ) (times : Times) (at connection : ℕ) (pdu : Pdu) (back : ℕ) → AreTimed times → IsInside times.server.standing → Reads now times.server.clock
    → (known : IsKnown times role.Client at connection pdu back) → IsAnswering role.Client pdu.body → IsAlive times.time at → IsFresh now (own_stamp times.server.standing) pdu
    → AreTimed (record times { server = hearing pdu.time_stamp known.read_as at (returned_by now pdu) back times.server })
server_taking_kept now times at connection pdu back are inside reads known answering alive fresh = record {
  client = are.client;
  server = one_end times times.server at (returned_by now pdu) back pdu.time_stamp known.read_as (subst (λ (own : ℕ). 1000 * own ≤ times.server.clock) (sym returned) (known.returns new answering inside).before) are.server inside known.sent_before known.heard_before
      (not_before now (own_stamp times.server.standing) (distance pdu.confirmed_time_stamp (stamp now)) fresh.fresh (reached _ _ _ now times.server are.server inside reads))
      (subst (λ (own : ℕ). WasReadBy times.time times.server.clock times.server.past.offset own back) (sym returned) (known.returns new answering inside).least) known.stamp_is;
  begun = λ i. are.begun inside;
  joined = are.joined;
  client_heard = λ h i. are.client_heard h inside;
  server_heard = λ h i. known.was_read new i;
  server_alone = λ i o. omega (arith, known.heard_before, known.last_word new o);
  client_alone = λ i o. absurd o;
}
  where
    new : connection ≡ times.newest
    new = alive_newest times role.Client at connection pdu back known alive

    returned : returned_by now pdu ≡ known.returned
    returned = exact times.time times.server.clock times.server.past.offset now known.returned at back pdu.confirmed_time_stamp reads (known.returned_is answering) (known.returns new answering inside) known.heard_before known.sent_before (known.promptly answering) alive
