-- The own stamp that a server takes from a PDU was read when the PDU was made, or before.
use Rattle.simulator_recovery.proofs.Words.Basics.{◌≡◌, ℕ, inl, inr, ◌+◌, ◌-◌, ◌*◌, ◌^◌, ◌/◌, ◌<◌, ◌≤◌, true, List, [], ◌∷◌, Some, Ok, Result, refl, sym, ap, subst, ◌∙◌, arith, if◌then◌else◌, Bool, same_Some}
use Rattle.simulator_recovery.proofs.Words.Links.{lifetime, Each, Sent, reading_of, IsAmong, IsDelivered, InFlight, Timely, AreNames, Names, name_of, partner_of, Ends, end_of, IsIn, distance, stamp, Inside, IsInside, Outside, Times, own_stamp, standing, times_of, LinkState, is_asking, is_open, IsAnswering, IsKnown, WasReadThenBy, Offset, Identity, Role, reading, PduFault, Pdu}

abbrev pub OwnConnection : Type 0
OwnConnection = (names : Names) (ends : Ends) (who : Role) (bytes : List ℕ) (connection : ℕ) (datagram : Sent) → Timely names ends
    → IsDelivered ends bytes connection datagram → IsIn who ends → (end_of who ends).connection ≡ Some datagram.connection

-- a stamp that is less than a turn old gives back its reading
whole : (now reading returned : ℕ) → returned ≡ stamp reading → reading ≤ now → now < reading + 2 ^ 32 → now - distance returned (stamp now) ≡ reading
whole now reading returned is before turn = omega (arith, is, before, turn)

exact : (time clock : ℕ) (offset : Offset) (now returned at back confirmed : ℕ) → now ≡ clock / 1000 → confirmed ≡ stamp returned → WasReadThenBy time clock offset returned back
    → at < back + 3802000 → time ≤ at + lifetime → now - distance confirmed (stamp now) ≡ returned
exact time clock offset now returned at back confirmed reads is read promptly alive =
    let reached = read.before
    in let most = read.most
    in let ahead = read.small.ahead
    in whole now returned confirmed is (omega (arith, reached, reads)) (omega (arith, most, ahead, promptly, alive, reads))

among_each : (P : Sent → Type 0) (datagram : Sent) (sent : List Sent) → Each P sent → IsAmong datagram sent → P datagram
among_each P datagram [] each among = absurd among
among_each P datagram (first ∷ later) each (inl same) = subst P same each.0
among_each P datagram (first ∷ later) each (inr among) = among_each P datagram later each.1 among

pub same_pdu : {one other : Pdu} {word : Result Pdu PduFault} → word ≡ Ok one → word ≡ Ok other → one ≡ other
same_pdu e f = cc (e, f)

pub is_inside : (l : LinkState) → is_open l.phase ≡ true → IsInside (standing l)
is_inside l e = subst IsInside (sym (ap (λ (b : Bool). if b then Inside (is_asking l) l.own_stamp l.partner_stamp else Outside l.closed_at) e)) tt

pub own_stamp_in : (l : LinkState) → is_open l.phase ≡ true → own_stamp (standing l) ≡ l.own_stamp
own_stamp_in l e = ap (λ (b : Bool). own_stamp (if b then Inside (is_asking l) l.own_stamp l.partner_stamp else Outside l.closed_at)) e

module _ (own : OwnConnection) (names : Names) (ends : Ends) (are : AreNames names) (timely : Timely names ends) where
  abbrev times : Times
  times = times_of ends timely.of_client timely.of_server timely.newest

  module _ (bytes : List ℕ) (connection : ℕ) (datagram : Sent) (delivered : IsDelivered ends bytes connection datagram) (pdu : Pdu)
      (read : reading ends.server.link.identity.key bytes ≡ Ok pdu) (mine : pdu.receiver ≡ ends.server.link.identity.own) (opened : is_open ends.server.link.phase ≡ true)
      (answers : IsAnswering Role.Client pdu.body) where
    flight : InFlight names times datagram
    flight = among_each (InFlight names times) datagram ends.sent timely.datagrams delivered.was_sent

    is_its : flight.pdu ≡ pdu
    is_its = same_pdu flight.read (ap (reading names.key) delivered.bytes_same ∙ (ap (λ (i : Identity). reading i.key bytes) (sym timely.server.identity) ∙ read))

    by_client : (who : Role) → datagram.sender ≡ who → datagram.sender ≡ Role.Client
    by_client Role.Client e = e
    by_client Role.Server e = absurd (are.differ (sym (ap (λ (r : Role). name_of (partner_of r) names) e) ∙ (sym flight.receiver ∙ (ap (λ (p : Pdu). p.receiver) is_its ∙ (mine ∙ ap (λ (i : Identity). i.own) timely.server.identity)))))

    known : IsKnown times Role.Client datagram.at datagram.connection pdu flight.back
    known = subst (λ (p : Pdu). IsKnown times Role.Client datagram.at datagram.connection p flight.back) is_its
        (subst (λ (r : Role). IsKnown times r datagram.at datagram.connection flight.pdu flight.back) (by_client datagram.sender refl) flight.known)

    in_newest : datagram.connection ≡ timely.newest
    in_newest = same_Some _ _ (sym (own names ends Role.Server bytes connection datagram timely delivered opened) ∙ timely.ends_timed.server.in_newest (is_inside ends.server.link opened))

    -- the stamp was read, by a clock that keeps time, when the PDU was made or before
    pub taken_stamp : 999 * ends.time + 1000000 * (reading_of ends.server.clock - distance pdu.confirmed_time_stamp (stamp (reading_of ends.server.clock))) ≤ 1000 * ends.server.clock + 999 * datagram.at + 10000
    taken_stamp =
        let then_read = known.returns in_newest answers (is_inside ends.server.link opened)
        in let is = exact ends.time ends.server.clock timely.of_server.offset (reading_of ends.server.clock) known.returned datagram.at flight.back pdu.confirmed_time_stamp refl (known.returned_is answers) then_read
        (known.promptly answers) delivered.in_time
        in let least = then_read.least
        in let behind = then_read.small.behind
        in let before = known.heard_before
        in omega (arith, is, least, behind, before)
