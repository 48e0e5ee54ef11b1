-- What comes to an end is a PDU that its partner sent, or isn't for it.
use Rattle.std.proofs.Common.{◌≡◌, ℕ, zero, suc, inl, inr, Bool, true, false, ◌&&◌, if◌then◌else◌, List, [], ◌∷◌, ◌++◌, Some, Ok, refl, sym, ap, subst, ◌∙◌, arith}
use Rattle.std.specs.Prelude.{◌==◌}
use Rattle.std.proofs.lemmas.Bool.{eqb-true, eq-eqb}
use Rattle.std.proofs.lemmas.Option.{same_Some}
use native.Mathlib.Decide.{ℕ_discrete}
use Rattle.rasta_core_spec.specs.identity.Identity.{Identity}
use Rattle.rasta_core_spec.specs.identity.Role.{Role}
use Rattle.rasta_core_spec.specs.identity.Role.TheVariants as role
use Rattle.rasta_core_spec.specs.Ends.{Sent, Receives}
use Rattle.rasta_core_spec.specs.Run.{Ends}
use Rattle.rasta_core_spec.specs.Each.{Each}
use Rattle.rasta_core_spec.specs.Names.{AreNames, Names, identity_of, name_of, partner_of}
use Rattle.rasta_core_spec.specs.Events.{IsAmong, IsDelivered, IsFor, MayCall}
use Rattle.rasta_core_spec.specs.Given.{is_of, is_same}
use Rattle.rasta_core_spec.specs.pdu.Pdu.{Pdu}
use Rattle.rasta_core_spec.specs.PduRead.{reading}
use Rattle.rasta_core.specs.EndFlow.{IsAt, IsOf}
use Rattle.rasta_core.specs.Invariant.{InFlight, Timely}
use Rattle.rasta_core.specs.TimedEnds.{times_of}
use Rattle.rasta_core.specs.Timely.{IsAnswering}
use Rattle.caught_up_laws.specs.Exact.{IsAlone, pdus_in, pdus_of}
use Rattle.caught_up_laws.specs.inside.Laws.{Laws}
use Rattle.caught_up_laws.proofs.Lists.{among_each, each_turned, same_self}

-- ---- a PDU that was sent is one of the flow

at_front : (place : ℕ) (pdu : Pdu) (flow more : List Pdu) → IsAt place pdu flow → IsAt place pdu (flow ++ more)
at_front place pdu [] more at = elim at [ ]
at_front zero pdu (first ∷ others) more at = at
at_front (suc place) pdu (first ∷ others) more at = at_front place pdu others more at

of_front : (pdu : Pdu) (flow more : List Pdu) → IsOf pdu flow → IsOf pdu (flow ++ more)
of_front pdu flow more of = (of.0, at_front of.0 pdu flow more of.1)

of_back : (pdu : Pdu) (flow more : List Pdu) → IsOf pdu more → IsOf pdu (flow ++ more)
of_back pdu [] more of = of
of_back pdu (first ∷ others) more of = let rest = of_back pdu others more of in (suc rest.0, rest.1)

this_one : (names : Names) (who : Role) (connection : ℕ) (datagram : Sent) (pdu : Pdu) → datagram.sender ≡ who → datagram.connection ≡ connection → reading names.key datagram.bytes ≡ Ok pdu
    → IsOf pdu (if is_of who connection datagram then pdus_in (reading names.key datagram.bytes) else [])
this_one names who connection datagram pdu its there read =
    subst (λ (b : Bool). IsOf pdu (if b then pdus_in (reading names.key datagram.bytes) else [])) (sym is)
    (subst (λ found. IsOf pdu (pdus_in found)) (sym read) (0, refl))
  where
    is : is_of who connection datagram ≡ true
    is = ap (λ (r : Role). is_same r who && datagram.connection == connection) its ∙ ap (λ (b : Bool). b && datagram.connection == connection) (same_self who)
        ∙ eq-eqb datagram.connection connection there

pub in_flow : (names : Names) (who : Role) (connection : ℕ) (datagram : Sent) (pdu : Pdu) (sent : List Sent) → IsAmong datagram sent → datagram.sender ≡ who → datagram.connection ≡ connection
    → reading names.key datagram.bytes ≡ Ok pdu → IsOf pdu (pdus_of names who connection sent)
in_flow names who connection datagram pdu [] among its there read = absurd among
in_flow names who connection datagram pdu (first ∷ later) (inl same) its there read =
    of_front pdu (if is_of who connection first then pdus_in (reading names.key first.bytes) else []) (pdus_of names who connection later)
    (subst (λ (d : Sent). IsOf pdu (if is_of who connection d then pdus_in (reading names.key d.bytes) else [])) (sym same) (this_one names who connection datagram pdu its there read))
in_flow names who connection datagram pdu (first ∷ later) (inr among) its there read =
    of_back pdu (if is_of who connection first then pdus_in (reading names.key first.bytes) else []) (pdus_of names who connection later)
    (in_flow names who connection datagram pdu later among its there read)

-- ---- what comes

-- a PDU names an end and its partner
pub record IsMeant (identity : Identity) (pdu : Pdu) : Type 0 where
  pub receiver : pdu.receiver ≡ identity.own
  pub sender : pdu.sender ≡ identity.partner

both : (one other : Bool) → (one && other) ≡ true → (one ≡ true) × (other ≡ true)
both true true e = (refl, refl)
both true false e = absurd (cc (e))
both false other e = absurd (cc (e))

pub for_me : (identity : Identity) (pdu : Pdu) → ((pdu.receiver == identity.own) && (pdu.sender == identity.partner)) ≡ true → IsMeant identity pdu
for_me identity pdu e =
    let are = both (pdu.receiver == identity.own) (pdu.sender == identity.partner) e
    in record { receiver = eqb-true pdu.receiver identity.own are.0; sender = eqb-true pdu.sender identity.partner are.1 }

pub record Comes (names : Names) (who : Role) (ends : Ends) (bytes : List ℕ) (connection : ℕ) (pdu : Pdu) : Type 0 where
  pub datagram : Sent
  pub delivered : IsDelivered ends bytes connection datagram
  pub sender : datagram.sender ≡ partner_of who
  pub read : reading names.key datagram.bytes ≡ Ok pdu

by_partner : (names : Names) (who sender : Role) → AreNames names → name_of who names ≡ name_of (partner_of sender) names → sender ≡ partner_of who
by_partner names role.Client role.Client are same = absurd (are.differ same)
by_partner names role.Client role.Server are same = refl
by_partner names role.Server role.Client are same = refl
by_partner names role.Server role.Server are same = absurd (are.differ (sym same))

pub comes : Laws → (names : Names) → AreNames names → (who : Role) (ends : Ends) → Timely names ends → (bytes : List ℕ) (connection : ℕ) → MayCall names who (Receives bytes connection) ends
    → (pdu : Pdu) → reading names.key bytes ≡ Ok pdu → IsMeant (identity_of who names) pdu → Comes names who ends bytes connection pdu
comes law names are who ends is bytes connection (inl sent) pdu read meant = record {
  datagram = sent.0;
  delivered = sent.1;
  sender = by_partner names who sent.0.sender are (sym meant.receiver ∙ ap (λ (p : Pdu). p.receiver) (sym same) ∙ flies.receiver);
  read = its_read;
}
  where
    its_read : reading names.key sent.0.bytes ≡ Ok pdu
    its_read = subst (λ (b : List ℕ). reading names.key b ≡ Ok pdu) (sym sent.1.bytes_same) read

    flies : InFlight names (times_of ends is.of_client is.of_server is.newest) sent.0
    flies = among_each (InFlight names (times_of ends is.of_client is.of_server is.newest)) sent.0 ends.sent sent.1.was_sent is.datagrams

    same : flies.pdu ≡ pdu
    same = let f : reading names.key sent.0.bytes ≡ Ok flies.pdu = flies.read in let r = its_read in cc
comes law names are who ends is bytes connection (inr (inl damaged)) pdu read meant = absurd (damaged (law.was_written names.key bytes pdu read))
comes law names are who ends is bytes connection (inr (inr foreign)) pdu read meant = absurd (foreign.3 (subst (λ (p : Pdu). IsFor names who p) same (record { receiver = meant.receiver; sender = meant.sender })))
  where
    same : pdu ≡ foreign.0
    same = let f : reading names.key bytes ≡ Ok foreign.0 = foreign.2 in cc

module _ (names : Names) (ends : Ends) (is : Timely names ends) where
  pub in_newest : (bytes : List ℕ) (connection : ℕ) (datagram : Sent) → IsDelivered ends bytes connection datagram → datagram.connection ≡ is.newest
  in_newest bytes connection datagram delivered =
      let flies : InFlight names (times_of ends is.of_client is.of_server is.newest) datagram
      = among_each (InFlight names (times_of ends is.of_client is.of_server is.newest)) datagram ends.sent delivered.was_sent is.datagrams
      in elim (ℕ_discrete datagram.connection is.newest) [ yes same ↦ same | no other ↦ absurd (omega (arith, flies.known.dead other, delivered.in_time)) ]

  pub begun : (bytes : List ℕ) (connection : ℕ) (datagram : Sent) → IsDelivered ends bytes connection datagram → ends.client.connection ≡ Some is.newest
  begun bytes connection datagram delivered =
      (among_each (InFlight names (times_of ends is.of_client is.of_server is.newest)) datagram ends.sent delivered.was_sent is.datagrams).known.begun

  -- it is of the connection that the client began last
  pub of_last : (bytes : List ℕ) (connection : ℕ) (datagram : Sent) → IsDelivered ends bytes connection datagram → (last : ℕ) → ends.client.connection ≡ Some last → datagram.connection ≡ last
  of_last bytes connection datagram delivered last e =
      in_newest bytes connection datagram delivered ∙ same_Some is.newest last (sym (begun bytes connection datagram delivered) ∙ e)

  module _ (lonely : IsAlone names ends) where
    not_entered : ends.client.connection ≡ Some is.newest → ends.server.connection ≡ Some is.newest → ⊥
    not_entered e f = lonely.not_of_server (f ∙ ap (λ (c : ℕ). Some c) (same_Some is.newest lonely.connection (sym e ∙ lonely.of_client)))

    none_of_server : (sent : Sent) → InFlight names (times_of ends is.of_client is.of_server is.newest) sent → sent.connection ≡ lonely.connection → sent.sender ≡ role.Server → ⊥
    none_of_server sent flies same server =
        let entered = subst (λ (r : Role). sent.connection ≡ is.newest → IsAnswering r flies.pdu.body → ends.server.connection ≡ Some is.newest) server flies.known.entered
        in not_entered flies.known.begun (entered (same ∙ same_Some lonely.connection is.newest (sym lonely.of_client ∙ flies.known.begun)) tt)

    pub nothing_sent : Each (λ (d : Sent). d.connection ≡ lonely.connection → d.sender ≡ role.Server → ⊥) ends.sent
    nothing_sent = each_turned (InFlight names (times_of ends is.of_client is.of_server is.newest)) (λ (d : Sent). d.connection ≡ lonely.connection → d.sender ≡ role.Server → ⊥) none_of_server ends.sent is.datagrams

    pub nothing_comes : (bytes : List ℕ) (connection : ℕ) (pdu : Pdu) → Comes names role.Client ends bytes connection pdu → ⊥
    nothing_comes bytes connection pdu from =
        none_of_server from.datagram (among_each (InFlight names (times_of ends is.of_client is.of_server is.newest)) from.datagram ends.sent from.delivered.was_sent is.datagrams)
        (of_last bytes connection from.datagram from.delivered lonely.connection lonely.of_client) from.sender
