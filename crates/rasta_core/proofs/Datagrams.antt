-- Each move keeps what is true of each datagram.
use Rattle.std.proofs.Common.{◌≡◌, ℕ, ◌∙◌, Some, refl, ap, arith}
use native.Mathlib.Decide.{ℕ_discrete}
use Rattle.rasta_core_spec.specs.Sequence.{stamp}
use Rattle.rasta_core_spec.specs.identity.Role.{Role}
use Rattle.rasta_core_spec.specs.identity.Role.TheVariants as role
use Rattle.rasta_core_spec.specs.pdu.Pdu.{Pdu}
use Rattle.rasta_core.specs.TimedEnds.{Standing, Inside, Outside, Times, IsInside, IsOutside, HasHeard, heard_stamp, at_role}
use Rattle.rasta_core.specs.Moves.{time_on, sent_on, outside, asking, granting, hearing}
use Rattle.rasta_core_spec.specs.TrueClocks.{GoesOff, IsSmall, Offset}
use Rattle.rasta_core.specs.Timely.{WasReadThenBy, AreTimed, IsAnswering, IsKnown}
use Rattle.rasta_core_spec.specs.Sentences.{IsRequest}
use Rattle.rasta_core.proofs.MovesOfEnds.{read_on}
use Rattle.rasta_core.proofs.Reception.{Reads, IsDown, long_away, not_long}

-- more datagrams are sent
pub known_sent_on : (count : ℕ) (times : Times) (who : Role) (at connection : ℕ) (pdu : Pdu) (back : ℕ)
    → IsKnown times who at connection pdu back → IsKnown (sent_on count times) who at connection pdu back
known_sent_on count times role.Client at connection pdu back known = record {
  sent_before = known.sent_before;
  heard_before = known.heard_before;
  read_as = known.read_as;
  returned = known.returned;
  stamp_is = known.stamp_is;
  returned_is = known.returned_is;
  promptly = known.promptly;
  counted = omega (arith, known.counted);
  begun = known.begun;
  dead = known.dead;
  entered = known.entered;
  was_read = known.was_read;
  returns = known.returns;
  last_word = known.last_word;
  lonely = known.lonely;
  request_old = known.request_old;
}
known_sent_on count times role.Server at connection pdu back known = record {
  sent_before = known.sent_before;
  heard_before = known.heard_before;
  read_as = known.read_as;
  returned = known.returned;
  stamp_is = known.stamp_is;
  returned_is = known.returned_is;
  promptly = known.promptly;
  counted = omega (arith, known.counted);
  begun = known.begun;
  dead = known.dead;
  entered = known.entered;
  was_read = known.was_read;
  returns = known.returns;
  last_word = known.last_word;
  lonely = known.lonely;
  request_old = known.request_old;
}

-- time goes on
pub known_time_on : (elapsed of_client of_server : ℕ) (client_off server_off : Offset) (times : Times) → GoesOff elapsed of_client times.client.past.offset client_off
    → GoesOff elapsed of_server times.server.past.offset server_off → (who : Role) (at connection : ℕ) (pdu : Pdu) (back : ℕ)
    → IsKnown times who at connection pdu back → IsKnown (time_on elapsed of_client of_server client_off server_off times) who at connection pdu back
known_time_on elapsed of_client of_server client_off server_off times keeps_client keeps_server role.Client at connection pdu back known = record {
  sent_before = omega (arith, known.sent_before);
  heard_before = known.heard_before;
  read_as = known.read_as;
  returned = known.returned;
  stamp_is = known.stamp_is;
  returned_is = known.returned_is;
  promptly = known.promptly;
  counted = known.counted;
  begun = known.begun;
  dead = λ n. omega (arith, known.dead n);
  entered = known.entered;
  was_read = λ s i. read_on _ _ _ _ _ _ _ _ keeps_client (known.was_read s i);
  returns = λ s a i. read_on _ _ _ _ _ _ _ _ keeps_server (known.returns s a i);
  last_word = known.last_word;
  lonely = known.lonely;
  request_old = known.request_old;
}
known_time_on elapsed of_client of_server client_off server_off times keeps_client keeps_server role.Server at connection pdu back known = record {
  sent_before = omega (arith, known.sent_before);
  heard_before = known.heard_before;
  read_as = known.read_as;
  returned = known.returned;
  stamp_is = known.stamp_is;
  returned_is = known.returned_is;
  promptly = known.promptly;
  counted = known.counted;
  begun = known.begun;
  dead = λ n. omega (arith, known.dead n);
  entered = known.entered;
  was_read = λ s i. read_on _ _ _ _ _ _ _ _ keeps_server (known.was_read s i);
  returns = λ s a i. read_on _ _ _ _ _ _ _ _ keeps_client (known.returns s a i);
  last_word = known.last_word;
  lonely = known.lonely;
  request_old = known.request_old;
}

-- the client leaves, or is made anew
pub known_client_out : (clock : ℕ) (offset : Offset) (since closed : ℕ) (times : Times) (who : Role) (at connection : ℕ) (pdu : Pdu) (back : ℕ)
    → IsKnown times who at connection pdu back → IsKnown (record times { client = outside times.time times.moment clock offset since closed times.client }) who at connection pdu back
known_client_out clock offset since closed times role.Client at connection pdu back known = record {
  sent_before = known.sent_before;
  heard_before = known.heard_before;
  read_as = known.read_as;
  returned = known.returned;
  stamp_is = known.stamp_is;
  returned_is = known.returned_is;
  promptly = known.promptly;
  counted = known.counted;
  begun = known.begun;
  dead = known.dead;
  entered = known.entered;
  was_read = λ s i. absurd i;
  returns = known.returns;
  last_word = λ s o. known.sent_before;
  lonely = λ s v o. absurd v;
  request_old = known.request_old;
}
known_client_out clock offset since closed times role.Server at connection pdu back known = record {
  sent_before = known.sent_before;
  heard_before = known.heard_before;
  read_as = known.read_as;
  returned = known.returned;
  stamp_is = known.stamp_is;
  returned_is = known.returned_is;
  promptly = known.promptly;
  counted = known.counted;
  begun = known.begun;
  dead = known.dead;
  entered = known.entered;
  was_read = known.was_read;
  returns = λ s a i. absurd i;
  last_word = known.last_word;
  lonely = λ s v o. omega (arith, known.sent_before);
  request_old = known.request_old;
}

-- the server leaves, or is made anew
pub known_server_out : (clock : ℕ) (offset : Offset) (since closed : ℕ) (times : Times) (who : Role) (at connection : ℕ) (pdu : Pdu) (back : ℕ)
    → IsKnown times who at connection pdu back → IsKnown (record times { server = outside times.time times.moment clock offset since closed times.server }) who at connection pdu back
known_server_out clock offset since closed times role.Client at connection pdu back known = record {
  sent_before = known.sent_before;
  heard_before = known.heard_before;
  read_as = known.read_as;
  returned = known.returned;
  stamp_is = known.stamp_is;
  returned_is = known.returned_is;
  promptly = known.promptly;
  counted = known.counted;
  begun = known.begun;
  dead = known.dead;
  entered = known.entered;
  was_read = known.was_read;
  returns = λ s a i. absurd i;
  last_word = known.last_word;
  lonely = known.lonely;
  request_old = λ r b. known.sent_before;
}
known_server_out clock offset since closed times role.Server at connection pdu back known = record {
  sent_before = known.sent_before;
  heard_before = known.heard_before;
  read_as = known.read_as;
  returned = known.returned;
  stamp_is = known.stamp_is;
  returned_is = known.returned_is;
  promptly = known.promptly;
  counted = known.counted;
  begun = known.begun;
  dead = known.dead;
  entered = known.entered;
  was_read = λ s i. absurd i;
  returns = known.returns;
  last_word = λ s o. known.sent_before;
  lonely = known.lonely;
  request_old = λ r b. known.sent_before;
}

-- a client asks: all that was sent before it can be delivered no more
pub known_asking : (now : ℕ) (times : Times) → AreTimed times → IsDown now times.client → (who : Role) (at connection : ℕ) (pdu : Pdu) (back : ℕ)
    → IsKnown times who at connection pdu back → IsKnown (asking now times) who at connection pdu back
known_asking now times are down role.Client at connection pdu back known = record {
  sent_before = known.sent_before;
  heard_before = known.heard_before;
  read_as = known.read_as;
  returned = known.returned;
  stamp_is = known.stamp_is;
  returned_is = known.returned_is;
  promptly = known.promptly;
  counted = omega (arith, known.counted);
  begun = refl;
  dead = λ n. elim (ℕ_discrete connection times.newest) [ yes same ↦ omega (arith, known.last_word same down.is_outside, long_away times times.moment times.newest now times.client are.client down) | no other ↦ known.dead other ];
  entered = λ s a. absurd (omega (arith, s, known.counted));
  was_read = λ s i. absurd (omega (arith, s, known.counted));
  returns = λ s a i. absurd (omega (arith, s, known.counted));
  last_word = λ s o. absurd (omega (arith, s, known.counted));
  lonely = λ s v o. absurd (omega (arith, s, known.counted));
  request_old = known.request_old;
}
known_asking now times are down role.Server at connection pdu back known = record {
  sent_before = known.sent_before;
  heard_before = known.heard_before;
  read_as = known.read_as;
  returned = known.returned;
  stamp_is = known.stamp_is;
  returned_is = known.returned_is;
  promptly = known.promptly;
  counted = omega (arith, known.counted);
  begun = refl;
  dead = λ n. elim (ℕ_discrete connection times.newest) [ yes same ↦ omega (arith, known.lonely same tt down.is_outside, long_away times times.moment times.newest now times.client are.client down) | no other ↦ known.dead other ];
  entered = λ s a. absurd (omega (arith, s, known.counted));
  was_read = λ s i. absurd (omega (arith, s, known.counted));
  returns = λ s a i. absurd (omega (arith, s, known.counted));
  last_word = λ s o. absurd (omega (arith, s, known.counted));
  lonely = λ s v o. absurd (omega (arith, s, known.counted));
  request_old = known.request_old;
}

-- a server takes a request
pub known_granting : (now stamp reading sent_at newest : ℕ) (times : Times) → (times.server.connection ≡ Some times.newest → ⊥) → newest ≡ times.newest → (who : Role) (at connection : ℕ) (pdu : Pdu) (back : ℕ)
    → IsKnown times who at connection pdu back → IsKnown (granting now stamp reading sent_at newest times) who at connection pdu back
known_granting now stamp reading sent_at newest times fresh new role.Client at connection pdu back known = record {
  sent_before = known.sent_before;
  heard_before = known.heard_before;
  read_as = known.read_as;
  returned = known.returned;
  stamp_is = known.stamp_is;
  returned_is = known.returned_is;
  promptly = known.promptly;
  counted = known.counted;
  begun = known.begun;
  dead = known.dead;
  entered = λ s a. ap (λ (c : ℕ). Some c) new;
  was_read = known.was_read;
  returns = λ s a i. absurd (fresh (known.entered s a));
  last_word = known.last_word;
  lonely = known.lonely;
  request_old = known.request_old;
}
known_granting now stamp reading sent_at newest times fresh new role.Server at connection pdu back known = record {
  sent_before = known.sent_before;
  heard_before = known.heard_before;
  read_as = known.read_as;
  returned = known.returned;
  stamp_is = known.stamp_is;
  returned_is = known.returned_is;
  promptly = known.promptly;
  counted = known.counted;
  begun = known.begun;
  dead = known.dead;
  entered = λ s a. ap (λ (c : ℕ). Some c) new;
  was_read = λ s i. absurd (fresh (known.entered s tt));
  returns = known.returns;
  last_word = λ s o. absurd o;
  lonely = known.lonely;
  request_old = known.request_old;
}

-- a client takes a PDU in its connection
pub known_client_hearing : (stamp reading sent_at own sent_back : ℕ) (times : Times) → IsInside times.client.standing → (who : Role) (at connection : ℕ) (pdu : Pdu) (back : ℕ)
    → IsKnown times who at connection pdu back → IsKnown (record times { client = hearing stamp reading sent_at own sent_back times.client }) who at connection pdu back
known_client_hearing stamp reading sent_at own sent_back times inside role.Client at connection pdu back known = record {
  sent_before = known.sent_before;
  heard_before = known.heard_before;
  read_as = known.read_as;
  returned = known.returned;
  stamp_is = known.stamp_is;
  returned_is = known.returned_is;
  promptly = known.promptly;
  counted = known.counted;
  begun = known.begun;
  dead = known.dead;
  entered = known.entered;
  was_read = λ s i. known.was_read s inside;
  returns = known.returns;
  last_word = λ s o. absurd o;
  lonely = λ s v o. absurd v;
  request_old = known.request_old;
}
known_client_hearing stamp reading sent_at own sent_back times inside role.Server at connection pdu back known = record {
  sent_before = known.sent_before;
  heard_before = known.heard_before;
  read_as = known.read_as;
  returned = known.returned;
  stamp_is = known.stamp_is;
  returned_is = known.returned_is;
  promptly = known.promptly;
  counted = known.counted;
  begun = known.begun;
  dead = known.dead;
  entered = known.entered;
  was_read = known.was_read;
  returns = λ s a i. known.returns s a inside;
  last_word = known.last_word;
  lonely = λ s v o. absurd o;
  request_old = known.request_old;
}

-- a server takes a PDU in its connection
pub known_server_hearing : (stamp reading sent_at own sent_back : ℕ) (times : Times) → IsInside times.server.standing → (who : Role) (at connection : ℕ) (pdu : Pdu) (back : ℕ)
    → IsKnown times who at connection pdu back → IsKnown (record times { server = hearing stamp reading sent_at own sent_back times.server }) who at connection pdu back
known_server_hearing stamp reading sent_at own sent_back times inside role.Client at connection pdu back known = record {
  sent_before = known.sent_before;
  heard_before = known.heard_before;
  read_as = known.read_as;
  returned = known.returned;
  stamp_is = known.stamp_is;
  returned_is = known.returned_is;
  promptly = known.promptly;
  counted = known.counted;
  begun = known.begun;
  dead = known.dead;
  entered = known.entered;
  was_read = known.was_read;
  returns = λ s a i. known.returns s a inside;
  last_word = known.last_word;
  lonely = known.lonely;
  request_old = known.request_old;
}
known_server_hearing stamp reading sent_at own sent_back times inside role.Server at connection pdu back known = record {
  sent_before = known.sent_before;
  heard_before = known.heard_before;
  read_as = known.read_as;
  returned = known.returned;
  stamp_is = known.stamp_is;
  returned_is = known.returned_is;
  promptly = known.promptly;
  counted = known.counted;
  begun = known.begun;
  dead = known.dead;
  entered = known.entered;
  was_read = λ s i. known.was_read s inside;
  returns = known.returns;
  last_word = λ s o. absurd o;
  lonely = known.lonely;
  request_old = known.request_old;
}

-- ---- what is sent

-- a PDU that an end inside speaks at a reading of its clock
pub record IsSpoken (who : Role) (now : ℕ) (standing : Standing) (pdu : Pdu) : Type 0 where
  pub stamped : pdu.time_stamp ≡ stamp now
  pub returned : HasHeard standing → pdu.confirmed_time_stamp ≡ heard_stamp standing
  pub answers : IsAnswering who pdu.body → HasHeard standing
  pub no_request : IsRequest pdu.body → ⊥

pub not_both : (standing : Standing) → IsInside standing → IsOutside standing → ⊥
not_both (Inside asks own heard) i o = o
not_both (Outside closed) i o = i

-- a clock reads what it reads
pub just_read : (time now clock : ℕ) (offset : Offset) → IsSmall offset → Reads now clock → WasReadThenBy time clock offset now time
just_read time now clock offset small reads = record { small = small; before = reads.reached; least = omega (arith, reads.reached); most = omega (arith, reads.passed) }

pub spoken_known : (now : ℕ) (times : Times) (who : Role) (pdu : Pdu) → AreTimed times → IsInside (at_role who times).standing
    → Reads now (at_role who times).clock → IsSpoken who now (at_role who times).standing pdu
    → IsKnown times who times.time times.newest pdu (at_role who times).past.heard_at
spoken_known now times role.Client pdu are inside reads spoken = record {
  sent_before = omega arith;
  heard_before = are.client.heard_before;
  read_as = now;
  returned = times.client.past.heard_clock;
  stamp_is = spoken.stamped;
  returned_is = λ a. spoken.returned (spoken.answers a) ∙ are.client.heard_is (spoken.answers a);
  promptly = λ a. omega (arith, not_long _ _ _ _ are.client inside, are.client.prompt (spoken.answers a));
  counted = are.client.began _ (are.client.in_newest inside);
  begun = are.client.in_newest inside;
  dead = λ n. absurd (n refl);
  entered = λ s a. are.joined (spoken.answers a);
  was_read = λ s i. just_read _ _ _ _ are.client.small reads;
  returns = λ s a i. are.client_heard (spoken.answers a) i;
  last_word = λ s o. absurd (not_both _ inside o);
  lonely = λ s v o. absurd v;
  request_old = λ r b. absurd (spoken.no_request r);
}
spoken_known now times role.Server pdu are inside reads spoken = record {
  sent_before = omega arith;
  heard_before = are.server.heard_before;
  read_as = now;
  returned = times.server.past.heard_clock;
  stamp_is = spoken.stamped;
  returned_is = λ a. spoken.returned (spoken.answers a) ∙ are.server.heard_is (spoken.answers a);
  promptly = λ a. omega (arith, not_long _ _ _ _ are.server inside, are.server.prompt (spoken.answers a));
  counted = are.server.began _ (are.server.in_newest inside);
  begun = are.begun inside;
  dead = λ n. absurd (n refl);
  entered = λ s a. are.server.in_newest inside;
  was_read = λ s i. just_read _ _ _ _ are.server.small reads;
  returns = λ s a i. are.server_heard (spoken.answers tt) i;
  last_word = λ s o. absurd (not_both _ inside o);
  lonely = λ s v o. omega (arith, not_long _ _ _ _ are.server inside, are.server_alone inside o);
  request_old = λ r b. absurd (spoken.no_request r);
}

-- the request itself
pub request_known : (now : ℕ) (times : Times) (pdu : Pdu) → AreTimed times → Reads now times.client.clock → IsRequest pdu.body → (IsAnswering role.Client pdu.body → ⊥) → pdu.time_stamp ≡ stamp now
    → IsKnown (asking now times) role.Client times.time times.moment pdu times.client.past.heard_at
request_known now times pdu are reads request answers stamped = record {
  sent_before = omega arith;
  heard_before = are.client.heard_before;
  read_as = now;
  returned = 0;
  stamp_is = stamped;
  returned_is = λ a. absurd (answers a);
  promptly = λ a. absurd (answers a);
  counted = omega arith;
  begun = refl;
  dead = λ n. absurd (n refl);
  entered = λ s a. absurd (answers a);
  was_read = λ s i. just_read _ _ _ _ are.client.small reads;
  returns = λ s a. absurd (answers a);
  last_word = λ s o. absurd o;
  lonely = λ s v. absurd v;
  request_old = λ r b. absurd (omega (arith, b, are.server.left_counted));
}
