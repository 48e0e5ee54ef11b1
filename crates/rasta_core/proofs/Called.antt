-- A call that may be made keeps the invariant.
use Rattle.std.proofs.Common.{◌≡◌, ℕ, ◌⊎◌, inl, inr, Bool, false, if◌then◌else◌, List, [], ◌∷◌, Some, None, Result, Ok, Err, refl, sym, ap, subst}
use Rattle.rasta_core_spec.specs.State.{LinkState}
use Rattle.rasta_core_spec.specs.Calls.{opens, opening, ticking, closing_by, sending_item, receiving}
use Rattle.rasta_core_spec.specs.identity.Identity.{Identity}
use Rattle.rasta_core_spec.specs.identity.Role.{Role}
use Rattle.rasta_core_spec.specs.identity.Role.TheVariants as role
use Rattle.rasta_core_spec.specs.Ends.{Sent, Call, Ticks, Opens, Closes, Sends, Receives, outcome, reading_of}
use Rattle.rasta_core_spec.specs.Run.{Ends, end_of, called}
use Rattle.rasta_core_spec.specs.key.Key.{Key}
use Rattle.rasta_core_spec.specs.pdu_fault.PduFault.{PduFault}
use Rattle.rasta_core_spec.specs.pdu.Pdu.{Pdu}
use Rattle.rasta_core_spec.specs.PduRead.{reading}
use Rattle.rasta_core_spec.specs.SafetyCode.{IsIntact}
use Rattle.rasta_core_spec.specs.Values.{IsPdu}
use Rattle.rasta_core_spec.specs.Each.{Each}
use Rattle.rasta_core.specs.TimedEnds.{Times, times_of}
use Rattle.rasta_core.specs.Timely.{IsKnown}
use Rattle.rasta_core_spec.specs.Names.{Names, AreNames, identity_of}
use Rattle.rasta_core.specs.Invariant.{InFlight, Timely}
use Rattle.rasta_core_spec.specs.Events.{IsAmong, IsDelivered, IsFor as IsMeant, AreForeign, MayCall}
use Rattle.rasta_core.proofs.Deeds.{Own, Word, IsFor, Steps, ticking_does, closing_does, sending_does, opening_does}
use Rattle.rasta_core.proofs.Receipts.{Receives as Hears}
use Rattle.rasta_core.proofs.HeardTimes.{read_pdu, AreRead, receiving_does}
use Rattle.rasta_core.proofs.Conversation.{WrittenIsRead}
use Rattle.rasta_core.proofs.BothEndsAfter.{Follows}
use Rattle.rasta_core.proofs.DeedsKept.{Delivered}
use Rattle.rasta_core.proofs.CallsKept.{Enters, made_kept, ends_ready, ends_clock}

-- what is read is intact: a law of the PDUs, handed in by who has it
abbrev pub ReadIsIntact : Type 0
ReadIsIntact = (key : Key) (bytes : List ℕ) (pdu : Pdu) → reading key bytes ≡ Ok pdu → IsIntact key bytes

pub among_each : (P : Sent → Type 0) (datagram : Sent) (list : List Sent) → IsAmong datagram list → Each P list → P datagram
among_each P datagram [] among each = absurd among
among_each P datagram (first ∷ later) (inl same) each = subst P same each.0
among_each P datagram (first ∷ later) (inr among) each = among_each P datagram later among each.1

-- ---- calls without bytes

no_entry : (names : Names) (identity : Identity) (times : Times) → Enters names identity times Own false None
no_entry names identity times = record {
  none = λ e. refl;
  own = λ e f. cc;
  number = 0;
  word = λ pdu e. cc;
  of_word = λ pdu e. cc;
}

opened_entry : (names : Names) (identity : Identity) (times : Times) (opened : Bool) → Enters names identity times Own opened (if opened then Some times.moment else None)
opened_entry names identity times opened = record {
  none = λ e. ap (λ (b : Bool). if b then Some times.moment else None) e;
  own = λ e f. ap (λ (b : Bool). if b then Some times.moment else None) f;
  number = 0;
  word = λ pdu e. cc;
  of_word = λ pdu e. cc;
}

-- ---- bytes

are_read : (key : Key) (result : Result Pdu PduFault) → ((pdu : Pdu) → result ≡ Ok pdu → IsPdu pdu) → AreRead result
are_read key (Ok pdu) f = f pdu refl
are_read key (Err fault) f = tt

pub read_is : (result : Result Pdu PduFault) (pdu : Pdu) → read_pdu result ≡ Word pdu → result ≡ Ok pdu
read_is (Ok other) pdu e = cc
read_is (Err fault) pdu e = cc

-- what the bytes of a delivery say
pub record Brings (names : Names) (who : Role) (times : Times) (bytes : List ℕ) (connection : ℕ) : Type 0 where
  pub is_pdu : (pdu : Pdu) → reading names.key bytes ≡ Ok pdu → IsPdu pdu
  pub delivered : (pdu : Pdu) → reading names.key bytes ≡ Ok pdu → IsFor (identity_of who names) pdu → Delivered names times connection pdu

pub sent_brings : (names : Names) (who : Role) (ends : Ends) (bytes : List ℕ) (connection : ℕ) (datagram : Sent) (is : Timely names ends) → IsDelivered ends bytes connection datagram
    → Brings names who (times_of ends is.of_client is.of_server is.newest) bytes connection
sent_brings names who ends bytes connection datagram is delivered = record {
  is_pdu = λ pdu e. subst IsPdu (same pdu e) flies.is_pdu;
  delivered = λ pdu e meant. subst (λ (p : Pdu). Delivered names times connection p) (same pdu e) (record {
    who = datagram.sender;
    at = datagram.at;
    back = flies.back;
    known = subst (λ (c : ℕ). IsKnown times datagram.sender datagram.at c flies.pdu flies.back) delivered.connection_same flies.known;
    alive = delivered.in_time;
    receiver = flies.receiver;
    sender = flies.sender;
  });
}
  where
    times : Times
    times = times_of ends is.of_client is.of_server is.newest

    flies : InFlight names times datagram
    flies = among_each (InFlight names times) datagram ends.sent delivered.was_sent is.datagrams

    same : (pdu : Pdu) → reading names.key bytes ≡ Ok pdu → flies.pdu ≡ pdu
    same pdu e = let f : reading names.key bytes ≡ Ok flies.pdu = subst (λ (b : List ℕ). reading names.key b ≡ Ok flies.pdu) delivered.bytes_same flies.read in cc

meant_for : (names : Names) (who : Role) (pdu : Pdu) → IsFor (identity_of who names) pdu → IsMeant names who pdu
meant_for names who pdu is = record { receiver = is.receiver; sender = is.sender }

pub bytes_bring : ReadIsIntact → (names : Names) (who : Role) (ends : Ends) (bytes : List ℕ) (connection : ℕ) (is : Timely names ends)
    → (((datagram : Sent) × IsDelivered ends bytes connection datagram) ⊎ ((IsIntact names.key bytes → ⊥) ⊎ AreForeign names who bytes))
    → Brings names who (times_of ends is.of_client is.of_server is.newest) bytes connection
bytes_bring law names who ends bytes connection is (inl sent) = sent_brings names who ends bytes connection sent.0 is sent.1
bytes_bring law names who ends bytes connection is (inr (inl damaged)) = record {
  is_pdu = λ pdu e. absurd (damaged (law names.key bytes pdu e));
  delivered = λ pdu e meant. absurd (damaged (law names.key bytes pdu e));
}
bytes_bring law names who ends bytes connection is (inr (inr foreign)) = record {
  is_pdu = λ pdu e. subst IsPdu (same pdu e) foreign.1;
  delivered = λ pdu e meant. absurd (foreign.3 (subst (IsMeant names who) (sym (same pdu e)) (meant_for names who pdu meant)));
}
  where
    same : (pdu : Pdu) → reading names.key bytes ≡ Ok pdu → foreign.0 ≡ pdu
    same pdu e = let f : reading names.key bytes ≡ Ok foreign.0 = foreign.2 in cc

-- ---- each call

pub end_identity : (names : Names) (ends : Ends) (who : Role) → Timely names ends → (end_of who ends).link.identity ≡ identity_of who names
end_identity names ends role.Client is = is.client.identity
end_identity names ends role.Server is = is.server.identity

-- what an end does with bytes at its clock
pub bytes_do : (names : Names) (ends : Ends) (who : Role) (bytes : List ℕ) (connection : ℕ) (is : Timely names ends) → Brings names who (times_of ends is.of_client is.of_server is.newest) bytes connection
    → Hears (end_of who ends).link (read_pdu (reading names.key bytes)) (receiving (reading_of (end_of who ends).clock) bytes (end_of who ends).link)
bytes_do names ends who bytes connection is brings =
    subst (λ (now : ℕ). Hears link (read_pdu (reading names.key bytes)) (receiving now bytes link)) (ends_clock names ends who is)
    (subst (λ (key : Key). Hears link (read_pdu (reading key bytes)) (receiving link.clock bytes link)) key_same
    (receiving_does link bytes (ends_ready names ends who is) (subst (λ (key : Key). AreRead (reading key bytes)) (sym key_same) (are_read names.key (reading names.key bytes) brings.is_pdu))))
  where
    link : LinkState
    link = (end_of who ends).link

    key_same : link.identity.key ≡ names.key
    key_same = ap (λ (i : Identity). i.key) (end_identity names ends who is)

pub called_kept : WrittenIsRead → ReadIsIntact → (names : Names) → AreNames names → (who : Role) (call : Call) (ends : Ends) (is : Timely names ends) → MayCall names who call ends
    → Follows names ends is (called who call ends)
unfolding called outcome
called_kept law intact names are who Ticks ends is may = made_kept law names ends who _ Own false [] are is
    (subst (λ (now : ℕ). Steps link false (ticking now link)) (ends_clock names ends who is) (ticking_does link (ends_ready names ends who is)))
    (no_entry names link.identity _)
  where
    link : LinkState
    link = (end_of who ends).link
called_kept law intact names are who Opens ends is may = made_kept law names ends who _ Own _ [] are is
    (subst (λ (now : ℕ). Steps link (opens now link) (opening now link)) (ends_clock names ends who is) (opening_does link (ends_ready names ends who is)))
    (opened_entry names link.identity _ _)
  where
    link : LinkState
    link = (end_of who ends).link
called_kept law intact names are who (Closes why) ends is may = made_kept law names ends who _ Own false [] are is
    (subst (λ (now : ℕ). Steps link false (closing_by now why link)) (ends_clock names ends who is) (closing_does link why (ends_ready names ends who is)))
    (no_entry names link.identity _)
  where
    link : LinkState
    link = (end_of who ends).link
called_kept law intact names are who (Sends item) ends is may = made_kept law names ends who _ Own false [] are is
    (subst (λ (now : ℕ). Steps link false (sending_item now item link)) (ends_clock names ends who is) (sending_does link item (ends_ready names ends who is) may))
    (no_entry names link.identity _)
  where
    link : LinkState
    link = (end_of who ends).link
called_kept law intact names are who (Receives bytes connection) ends is may = made_kept law names ends who _ _ _ _ are is
    (bytes_do names ends who bytes connection is brings)
    (record {
      none = λ e. ap (λ (b : Bool). if b then Some connection else None) e;
      own = λ e f. absurd (never_own _ e);
      number = connection;
      word = λ pdu e meant. brings.delivered pdu (read_is _ pdu e) (subst (λ (i : Identity). IsFor i pdu) (end_identity names ends who is) meant);
      of_word = λ pdu e f. ap (λ (b : Bool). if b then Some connection else None) f;
    })
  where
    brings : Brings names who (times_of ends is.of_client is.of_server is.newest) bytes connection
    brings = bytes_bring intact names who ends bytes connection is may

    never_own : (result : Result Pdu PduFault) → read_pdu result ≡ Own → ⊥
    never_own (Ok pdu) e = cc
    never_own (Err fault) e = cc
