-- An end inside utters PDUs, and goes on or leaves: what is true of the ends and the datagrams stays so.
use Rattle.std.proofs.Common.{◌≡◌, ℕ, inl, inr, ◌+◌, List, [], ◌∷◌, ◌++◌, length, Some, Ok, refl, sym, subst, arith}
use Rattle.rasta_core_spec.specs.Outbox.{spellings}
use Rattle.rasta_core_spec.specs.identity.Role.{Role}
use Rattle.rasta_core_spec.specs.identity.Role.TheVariants as role
use Rattle.rasta_core_spec.specs.Ends.{Sent, handed_out}
use Rattle.rasta_core_spec.specs.key.Key.{Key}
use Rattle.rasta_core_spec.specs.pdu.Pdu.{Pdu}
use Rattle.rasta_core_spec.specs.Values.{IsPdu}
use Rattle.rasta_core_spec.specs.PduRead.{reading}
use Rattle.rasta_core_spec.specs.Spelling.{writing}
use Rattle.rasta_core_spec.specs.Each.{Each}
use Rattle.rasta_core.specs.TimedEnds.{Standing, Outside, Past, Times, IsInside, IsOutside, closed_at, at_role}
use Rattle.rasta_core.specs.Moves.{with_timed, sent_on}
use Rattle.rasta_core.specs.Timely.{AreTimed, IsKnown}
use Rattle.rasta_core_spec.specs.Names.{Names, identity_of}
use Rattle.rasta_core.specs.Invariant.{InFlight}
use Rattle.rasta_core.proofs.EachLaws.{each_join, each_turned}
use Rattle.rasta_core.proofs.MovesOfEnds.{sent_on_kept, client_out_kept, server_out_kept}
use Rattle.rasta_core.proofs.Reception.{Reads}
use Rattle.rasta_core.proofs.Datagrams.{not_both, spoken_known, known_sent_on, known_client_out, known_server_out}
use Rattle.rasta_core.proofs.Sounds.{IsUttered}
use Rattle.rasta_core.proofs.InsidePdus.{Acts}

-- what is written is read again: a law of the PDUs, handed in by who has it
abbrev pub WrittenIsRead : Type 0
WrittenIsRead = (key : Key) (pdu : Pdu) → IsPdu pdu → reading key (writing key pdu) ≡ Ok pdu

-- a datagram at other times
pub in_flight_turned : (names : Names) (times later : Times)
    → ((who : Role) (at connection : ℕ) (pdu : Pdu) (back : ℕ) → IsKnown times who at connection pdu back → IsKnown later who at connection pdu back)
    → (sent : Sent) → InFlight names times sent → InFlight names later sent
in_flight_turned names times later turn sent flies = record {
  pdu = flies.pdu;
  is_pdu = flies.is_pdu;
  read = flies.read;
  receiver = flies.receiver;
  sender = flies.sender;
  back = flies.back;
  known = turn sent.sender sent.at sent.connection flies.pdu flies.back flies.known;
}

pub handed_in_flight : WrittenIsRead → (names : Names) (now : ℕ) (times : Times) (who : Role) (pdus : List Pdu) → AreTimed times → IsInside (at_role who times).standing
    → Reads now (at_role who times).clock → Each (IsUttered (identity_of who names) now (at_role who times).standing) pdus
    → Each (InFlight names times) (handed_out times.time who (Some times.newest) (spellings names.key pdus))
handed_in_flight law names now times who [] are inside reads uttered = tt
handed_in_flight law names now times who (pdu ∷ pdus) are inside reads uttered = (
  record {
    pdu = pdu;
    is_pdu = uttered.0.is_pdu;
    read = law names.key pdu uttered.0.is_pdu;
    receiver = uttered.0.receiver;
    sender = uttered.0.sender;
    back = (at_role who times).past.heard_at;
    known = spoken_known now times who pdu are inside reads uttered.0.spoken;
  },
  handed_in_flight law names now times who pdus are inside reads uttered.1,
)

-- so many PDUs are sent by an end that then stands so
abbrev pub after : Role → Standing → ℕ → Past → ℕ → Times → Times
after who standing left past count times = with_timed who (record (at_role who times) { standing = standing; left = left; past = past }) (sent_on count times)

pub record HasTold (names : Names) (who : Role) (standing : Standing) (left count : ℕ) (times : Times) (sent : List Sent) : Type 0 where
  pub past : Past
  pub left_then : IsOutside standing → past.left_clock ≡ closed_at standing
  pub off : past.offset ≡ (at_role who times).past.offset
  pub are : AreTimed (after who standing left past count times)
  pub datagrams : Each (InFlight names (after who standing left past count times)) sent

-- the count of datagrams at which an end left last, after it may have left
pub record Leaves (standing : Standing) (old new moment : ℕ) : Type 0 where
  pub stays : IsInside standing → new ≡ old
  pub goes : IsOutside standing → new ≡ moment

-- it goes on
stay : (names : Names) (who : Role) (times : Times) (count : ℕ) (sent : List Sent) → AreTimed times → IsInside (at_role who times).standing → Each (InFlight names times) sent
    → HasTold names who (at_role who times).standing (at_role who times).left count times sent
stay names role.Client times count sent are inside flies = record {
  past = times.client.past;
  left_then = λ o. absurd (not_both _ inside o);
  off = refl;
  are = sent_on_kept count times are;
  datagrams = each_turned (InFlight names times) (InFlight names (sent_on count times)) (in_flight_turned names times (sent_on count times) (known_sent_on count times)) sent flies;
}
stay names role.Server times count sent are inside flies = record {
  past = times.server.past;
  left_then = λ o. absurd (not_both _ inside o);
  off = refl;
  are = sent_on_kept count times are;
  datagrams = each_turned (InFlight names times) (InFlight names (sent_on count times)) (in_flight_turned names times (sent_on count times) (known_sent_on count times)) sent flies;
}

-- it leaves
go : (names : Names) (now : ℕ) (who : Role) (times : Times) (count : ℕ) (sent : List Sent) → AreTimed times → Reads now (at_role who times).clock → Each (InFlight names times) sent
    → HasTold names who (Outside now) (times.moment + count) count times sent
go names now role.Client times count sent are reads flies =
    record {
      past = record times.client.past { left_at = times.time; left_clock = now };
      left_then = λ o. refl;
      off = refl;
      are = client_out_kept times.client.clock times.client.past.offset now now (sent_on count times) are.client.small (omega (arith, reads.passed)) refl (sent_on_kept count times are);
      datagrams = each_turned (InFlight names (sent_on count times)) _ (in_flight_turned names (sent_on count times) _ (known_client_out times.client.clock times.client.past.offset now now (sent_on count times))) sent
          (each_turned (InFlight names times) (InFlight names (sent_on count times)) (in_flight_turned names times (sent_on count times) (known_sent_on count times)) sent flies);
    }
go names now role.Server times count sent are reads flies = record {
  past = record times.server.past { left_at = times.time; left_clock = now };
  left_then = λ o. refl;
  off = refl;
  are = server_out_kept times.server.clock times.server.past.offset now now (sent_on count times) are.server.small (omega (arith, reads.passed)) refl (sent_on_kept count times are);
  datagrams = each_turned (InFlight names (sent_on count times)) _ (in_flight_turned names (sent_on count times) _ (known_server_out times.server.clock times.server.past.offset now now (sent_on count times))) sent
      (each_turned (InFlight names times) (InFlight names (sent_on count times)) (in_flight_turned names times (sent_on count times) (known_sent_on count times)) sent flies);
}

pub conversation : WrittenIsRead → (names : Names) (now : ℕ) (who : Role) (times : Times) (pdus : List Pdu) (sent : List Sent) (standing : Standing) (left : ℕ)
    → AreTimed times → IsInside (at_role who times).standing → Reads now (at_role who times).clock → Each (InFlight names times) sent
    → Acts (identity_of who names) now (at_role who times).standing standing pdus
    → Leaves standing (at_role who times).left left (times.moment + length pdus)
    → HasTold names who standing left (length pdus) times (sent ++ handed_out times.time who (Some times.newest) (spellings names.key pdus))
conversation law names now who times pdus sent standing left are inside reads flies acts leaves = elim acts.goes [
  | inl same ↦ subst (λ (s : Standing). HasTold names who s left (length pdus) times all) (sym same)
      (subst (λ (l : ℕ). HasTold names who (at_role who times).standing l (length pdus) times all) (sym (leaves.stays (subst IsInside (sym same) inside)))
      (stay names who times (length pdus) all are inside flies_all))
  | inr gone ↦ subst (λ (s : Standing). HasTold names who s left (length pdus) times all) (sym gone)
      (subst (λ (l : ℕ). HasTold names who (Outside now) l (length pdus) times all) (sym (leaves.goes (subst IsOutside (sym gone) tt)))
      (go names now who times (length pdus) all are reads flies_all))
]
  where
    all : List Sent
    all = sent ++ handed_out times.time who (Some times.newest) (spellings names.key pdus)

    flies_all : Each (InFlight names times) all
    flies_all = each_join (InFlight names times) sent _ flies (handed_in_flight law names now times who pdus are inside reads acts.uttered)
