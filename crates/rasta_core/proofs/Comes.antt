-- What comes to an end is a PDU of its partner's flow, or isn't for it.
use Rattle.std.proofs.Common.{◌≡◌, ℕ, ◌<◌, inl, inr, Bool, true, false, List, [], Some, Result, Ok, Err, sym, ap, subst, ◌∙◌, arith}
use Rattle.std.proofs.lemmas.Option.{same_Some}
use Rattle.rasta_core_spec.specs.identity.Identity.{Identity}
use Rattle.rasta_core_spec.specs.identity.Role.{Role}
use Rattle.rasta_core_spec.specs.identity.Role.TheVariants as role
use Rattle.rasta_core_spec.specs.Ends.{Sent, Receives}
use Rattle.rasta_core_spec.specs.Run.{Ends}
use Rattle.rasta_core.specs.EndFlow.{IsOf}
use Rattle.rasta_core_spec.specs.Each.{Each}
use Rattle.rasta_core.specs.TimedEnds.{Standing, IsInside, IsOutside, times_of, standing}
use Rattle.rasta_core_spec.specs.Names.{partner_of, Names, AreNames, identity_of}
use Rattle.rasta_core.specs.Timely.{IsKnown}
use Rattle.rasta_core.specs.Invariant.{InFlight, Timely}
use Rattle.rasta_core_spec.specs.Events.{IsDelivered, IsFor as IsMeant, MayCall}
use Rattle.rasta_core.proofs.EachLaws.{each_turned}
use Rattle.rasta_core.proofs.Reception.{alive_newest}
use Rattle.rasta_core.proofs.Deeds.{Heard, Own, Word, IsFor, Deed, rests, speaks, asks, grants, joins, takes}
use Rattle.rasta_core.proofs.HeardTimes.{read_pdu}
use Rattle.rasta_core.proofs.Called.{ReadIsIntact, among_each}
use Rattle.rasta_core.proofs.Conclusions.{of_datagram}
use Rattle.rasta_core.specs.Ordered.{IsSpelledIn, IsAlone}
use Rattle.rasta_core_spec.specs.pdu.Pdu.{Pdu}
use Rattle.rasta_core_spec.specs.pdu_fault.PduFault.{PduFault}
use Rattle.rasta_core_spec.specs.PduRead.{reading}
use Rattle.rasta_core_spec.specs.Values.{IsPdu}

-- what a call hands out are PDUs
pub deed_pdus : (identity : Identity) (now : ℕ) (heard : Heard) (old new : Standing) (enters : Bool) (items : List (List ℕ)) (pdus : List Pdu)
    → Deed identity now heard old new enters items pdus → Each IsPdu pdus
deed_pdus identity now heard old new enters items pdus (rests same nothing shut none) = subst (Each IsPdu) (sym nothing) tt
deed_pdus identity now heard old new enters items pdus (speaks inside acts shut none) = each_turned _ IsPdu (λ p is. is.is_pdu) pdus acts.uttered
deed_pdus identity now heard old new enters items pdus (asks pdu own client is_down stands one asked opened none) = subst (Each IsPdu) (sym one) (asked.is_pdu, tt)
deed_pdus identity now heard old new enters items pdus (grants pdu word server is_for is_down request acts opened none) = each_turned _ IsPdu (λ p is. is.is_pdu) pdus acts.uttered
deed_pdus identity now heard old new enters items pdus (joins pdu word client is_for inside acts shut none) = each_turned _ IsPdu (λ p is. is.is_pdu) pdus acts.uttered
deed_pdus identity now heard old new enters items pdus (takes pdu word is_for inside fresh plain acts shut) = each_turned _ IsPdu (λ p is. is.is_pdu) pdus acts.uttered

-- an end that is outside, and enters nothing, says nothing
pub deed_silent : (identity : Identity) (now : ℕ) (heard : Heard) (old new : Standing) (enters : Bool) (items : List (List ℕ)) (pdus : List Pdu)
    → Deed identity now heard old new enters items pdus → (IsInside old → ⊥) → enters ≡ false → pdus ≡ []
deed_silent identity now heard old new enters items pdus (rests same nothing shut none) not_in not_entering = nothing
deed_silent identity now heard old new enters items pdus (speaks inside acts shut none) not_in not_entering = absurd (not_in inside)
deed_silent identity now heard old new enters items pdus (asks pdu own client is_down stands one asked opened none) not_in not_entering = absurd (cc (opened, not_entering))
deed_silent identity now heard old new enters items pdus (grants pdu word server is_for is_down request acts opened none) not_in not_entering = absurd (cc (opened, not_entering))
deed_silent identity now heard old new enters items pdus (joins pdu word client is_for inside acts shut none) not_in not_entering = absurd (not_in inside)
deed_silent identity now heard old new enters items pdus (takes pdu word is_for inside fresh plain acts shut) not_in not_entering = absurd (not_in inside)

-- bytes are heard, so a call with bytes asks for nothing
pub never_own : (result : Result Pdu PduFault) → read_pdu result ≡ Own → ⊥
never_own (Ok pdu) e = cc
never_own (Err fault) e = cc

-- a client enters nothing by what comes
pub client_enters_none : (identity : Identity) (now : ℕ) (result : Result Pdu PduFault) (old new : Standing) (enters : Bool) (items : List (List ℕ)) (pdus : List Pdu)
    → Deed identity now (read_pdu result) old new enters items pdus → identity.role ≡ role.Client → enters ≡ false
client_enters_none identity now result old new enters items pdus (rests same nothing shut none) is = shut
client_enters_none identity now result old new enters items pdus (speaks inside acts shut none) is = shut
client_enters_none identity now result old new enters items pdus (asks pdu own client is_down stands one asked opened none) is = absurd (never_own result own)
client_enters_none identity now result old new enters items pdus (grants pdu word server is_for is_down request acts opened none) is = absurd (cc (is, server))
client_enters_none identity now result old new enters items pdus (joins pdu word client is_for inside acts shut none) is = shut
client_enters_none identity now result old new enters items pdus (takes pdu word is_for inside fresh plain acts shut) is = shut

-- items are taken from a PDU for the end alone
pub items_for : (identity : Identity) (now : ℕ) (heard : Heard) (old new : Standing) (enters : Bool) (items : List (List ℕ)) (pdus : List Pdu)
    → Deed identity now heard old new enters items pdus → ((pdu : Pdu) → heard ≡ Word pdu → IsFor identity pdu → ⊥) → items ≡ []
items_for identity now heard old new enters items pdus (rests same nothing shut none) not_for = none
items_for identity now heard old new enters items pdus (speaks inside acts shut none) not_for = none
items_for identity now heard old new enters items pdus (asks pdu own client is_down stands one asked opened none) not_for = none
items_for identity now heard old new enters items pdus (grants pdu word server is_for is_down request acts opened none) not_for = none
items_for identity now heard old new enters items pdus (joins pdu word client is_for inside acts shut none) not_for = none
items_for identity now heard old new enters items pdus (takes pdu word is_for inside fresh plain acts shut) not_for = absurd (not_for pdu word is_for)

-- ---- the datagram of a PDU that is for an end

meant_for : (names : Names) (who : Role) (pdu : Pdu) → IsFor (identity_of who names) pdu → IsMeant names who pdu
meant_for names who pdu is = record { receiver = is.receiver; sender = is.sender }

pub record Comes (names : Names) (who : Role) (ends : Ends) (is : Timely names ends) (bytes : List ℕ) (connection : ℕ) (pdu : Pdu) : Type 0 where
  pub datagram : Sent
  pub delivered : IsDelivered ends bytes connection datagram
  pub sender : datagram.sender ≡ partner_of who
  pub read : reading names.key datagram.bytes ≡ Ok pdu
  pub back : ℕ
  pub known : IsKnown (times_of ends is.of_client is.of_server is.newest) (partner_of who) datagram.at datagram.connection pdu back

pub comes : ReadIsIntact → (names : Names) → AreNames names → (who : Role) (ends : Ends) (is : Timely names ends) (bytes : List ℕ) (connection : ℕ) → MayCall names who (Receives bytes connection) ends
    → (pdu : Pdu) → reading names.key bytes ≡ Ok pdu → IsFor (identity_of who names) pdu → Comes names who ends is bytes connection pdu
comes intact names are who ends is bytes connection (inl sent) pdu read meant =
    let found = of_datagram names ends who bytes connection sent.0 are is sent.1 pdu read meant
    in record {
      datagram = sent.0;
      delivered = sent.1;
      sender = found.1;
      read = subst (λ (b : List ℕ). reading names.key b ≡ Ok pdu) (sym sent.1.bytes_same) read;
      back = found.0;
      known = found.2;
    }
comes intact names are who ends is bytes connection (inr (inl damaged)) pdu read meant = absurd (damaged (intact names.key bytes pdu read))
comes intact names are who ends is bytes connection (inr (inr foreign)) pdu read meant = absurd (foreign.3 (subst (λ (p : Pdu). IsMeant names who p) same (meant_for names who pdu meant)))
  where
    same : pdu ≡ foreign.0
    same = let f : reading names.key bytes ≡ Ok foreign.0 = foreign.2 in cc

module _ (names : Names) (who : Role) (ends : Ends) (is : Timely names ends) (bytes : List ℕ) (connection : ℕ) (pdu : Pdu) (from : Comes names who ends is bytes connection pdu) where
  pub in_newest : from.datagram.connection ≡ is.newest
  in_newest = alive_newest (times_of ends is.of_client is.of_server is.newest) (partner_of who) from.datagram.at from.datagram.connection pdu from.back from.known from.delivered.in_time

  -- it is of the connection that the client began last
  pub of_last : (last : ℕ) → ends.client.connection ≡ Some last → from.datagram.connection ≡ last
  of_last last e = in_newest ∙ same_Some is.newest last (sym from.known.begun ∙ e)

  -- and so of the partner's flow
  pub in_flow : (last : ℕ) (flow : List Pdu) → ends.client.connection ≡ Some last → Each (IsSpelledIn names (partner_of who) last flow) ends.sent → IsOf pdu flow
  in_flow last flow e flows = among_each (IsSpelledIn names (partner_of who) last flow) from.datagram ends.sent from.delivered.was_sent flows from.sender (of_last last e) pdu from.read

-- a server that isn't in the client's connection has sent nothing there, and is outside
module _ (names : Names) (ends : Ends) (is : Timely names ends) (lonely : IsAlone names ends) where
  newest_is : ends.client.connection ≡ Some is.newest → is.newest ≡ lonely.connection
  newest_is e = same_Some is.newest lonely.connection (sym e ∙ lonely.of_client)

  pub not_entered : ends.client.connection ≡ Some is.newest → ends.server.connection ≡ Some is.newest → ⊥
  not_entered e f = lonely.not_of_server (f ∙ ap (λ (c : ℕ). Some c) (newest_is e))

  pub server_out : IsInside (standing ends.server.link) → ⊥
  server_out inside = not_entered (is.ends_timed.begun inside) (is.ends_timed.server.in_newest inside)

  pub nothing_comes : (bytes : List ℕ) (connection : ℕ) (pdu : Pdu) → Comes names role.Client ends is bytes connection pdu → ⊥
  nothing_comes bytes connection pdu from = not_entered from.known.begun (from.known.entered (in_newest names role.Client ends is bytes connection pdu from) tt)

  none_of_server : (sent : Sent) → InFlight names (times_of ends is.of_client is.of_server is.newest) sent → sent.connection ≡ lonely.connection → sent.sender ≡ role.Server → ⊥
  none_of_server sent flies same server =
      let known = subst (λ (r : Role). IsKnown (times_of ends is.of_client is.of_server is.newest) r sent.at sent.connection flies.pdu flies.back) server flies.known
      in not_entered known.begun (known.entered (same ∙ sym (newest_is known.begun)) tt)

  pub nothing_sent : Each (λ (d : Sent). d.connection ≡ lonely.connection → d.sender ≡ role.Server → ⊥) ends.sent
  nothing_sent = each_turned (InFlight names (times_of ends is.of_client is.of_server is.newest)) (λ (d : Sent). d.connection ≡ lonely.connection → d.sender ≡ role.Server → ⊥) none_of_server ends.sent is.datagrams

-- nothing was sent in a connection that is only just beginning
pub nothing_yet : (names : Names) (ends : Ends) → Timely names ends → Each (λ (d : Sent). d.connection ≡ ends.moment → d.sender ≡ role.Client → ⊥) ends.sent
nothing_yet names ends is =
    each_turned (InFlight names (times_of ends is.of_client is.of_server is.newest)) (λ (d : Sent). d.connection ≡ ends.moment → d.sender ≡ role.Client → ⊥)
    (λ (sent : Sent) flies same client. earlier sent.connection flies.known.counted same) ends.sent is.datagrams
  where
    earlier : (connection : ℕ) → connection < ends.moment → connection ≡ ends.moment → ⊥
    earlier connection lt same = omega arith

pub server_earlier : (names : Names) (ends : Ends) → Timely names ends → ends.server.connection ≡ Some ends.moment → ⊥
server_earlier names ends is e = omega (arith, is.ends_timed.server.began ends.moment e)

-- what enters a connection by a PDU is a server that grants
pub record IsGranted (identity : Identity) (result : Result Pdu PduFault) (old : Standing) (items : List (List ℕ)) : Type 0 where
  pub pdu : Pdu
  pub word : read_pdu result ≡ Word pdu
  pub is_for : IsFor identity pdu
  pub outside : IsOutside old
  pub none : items ≡ []

pub deed_grants : (identity : Identity) (now : ℕ) (result : Result Pdu PduFault) (old new : Standing) (enters : Bool) (items : List (List ℕ)) (pdus : List Pdu)
    → Deed identity now (read_pdu result) old new enters items pdus → enters ≡ true → IsGranted identity result old items
deed_grants identity now result old new enters items pdus (rests same nothing shut none) e = absurd (cc (shut, e))
deed_grants identity now result old new enters items pdus (speaks inside acts shut none) e = absurd (cc (shut, e))
deed_grants identity now result old new enters items pdus (asks pdu own client is_down stands one asked opened none) e = absurd (never_own result own)
deed_grants identity now result old new enters items pdus (grants pdu word server is_for is_down request acts opened none) e =
    record { pdu = pdu; word = word; is_for = is_for; outside = is_down.is_outside; none = none }
deed_grants identity now result old new enters items pdus (joins pdu word client is_for inside acts shut none) e = absurd (cc (shut, e))
deed_grants identity now result old new enters items pdus (takes pdu word is_for inside fresh plain acts shut) e = absurd (cc (shut, e))
