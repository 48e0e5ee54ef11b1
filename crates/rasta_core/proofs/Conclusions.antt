-- What follows from the invariant.
use Rattle.std.proofs.Common.{◌≡◌, ◌≢◌, ℕ, ◌∙◌, ◌+◌, ◌≤◌, ◌<◌, Bool, true, false, ◌&&◌, not, if◌then◌else◌, List, [], Option, Some, None, Result, Ok, Err, refl, sym, ap, subst, arith}
use native.Mathlib.Decide.{ℕ_discrete}
use Rattle.rasta_core_spec.specs.Parameters.{quiet_time}
use Rattle.rasta_core_spec.specs.State.{LinkState, is_open, is_up}
use Rattle.rasta_core_spec.specs.Clock.{settled, state_at}
use Rattle.rasta_core_spec.specs.Receipt.{Receipt}
use Rattle.rasta_core_spec.specs.identity.Identity.{Identity}
use Rattle.rasta_core_spec.specs.identity.Role.{Role}
use Rattle.rasta_core_spec.specs.identity.Role.TheVariants as role
use Rattle.rasta_core_spec.specs.phase.State.TheVariants as state
use Rattle.rasta_core_spec.specs.Bag.{lifetime}
use Rattle.rasta_core_spec.specs.Ends.{Sent, Receives, outcome, end_after, is_taken, reading_of, newer}
use Rattle.rasta_core_spec.specs.Run.{Ends, end_of, called}
use Rattle.rasta_core_spec.specs.pdu.Pdu.{Pdu}
use Rattle.rasta_core_spec.specs.pdu_fault.PduFault.{PduFault}
use Rattle.rasta_core_spec.specs.PduRead.{reading}
use Rattle.rasta_core_spec.specs.Each.{Each}
use Rattle.rasta_core.specs.TimedEnds.{Times, IsInside, IsOutside, HasHeard, own_stamp, closed_at, standing, timed, times_of}
use Rattle.rasta_core_spec.specs.Names.{partner_of, Names, AreNames, name_of, identity_of}
use Rattle.rasta_core.specs.Timely.{IsKnown, IsAnswering}
use Rattle.rasta_core_spec.specs.Sentences.{IsRequest, freshness, receipt_at, IsIn, IsOut, IsDownNow, IsOpening}
use Rattle.rasta_core.specs.Invariant.{InFlight, Timely, HasBeenOut}
use Rattle.rasta_core_spec.specs.Events.{IsDelivered}
use Rattle.rasta_core.proofs.EachLaws.{each_turned}
use Rattle.rasta_core.proofs.Phases.{up_open, up_heard}
use Rattle.rasta_core.proofs.Sounds.{standing_open, standing_closed, inside_open, of_heard}
use Rattle.rasta_core.proofs.TakenDatagram.{IsFresh, client_taking_kept, server_taking_kept}
use Rattle.rasta_core.proofs.States.{IsDownAt, tells, Tells, settled_same}
use Rattle.rasta_core.proofs.Reception.{IsDown, IsAlive, alive_newest, request_fresh, server_gone, not_long, long_away}
use Rattle.rasta_core.proofs.Deeds.{Own, IsFor, Deed, rests, speaks, asks, grants, joins, takes}
use Rattle.rasta_core.proofs.Receipts.{Receives as Hears}
use Rattle.rasta_core.proofs.HeardTimes.{read_pdu}
use Rattle.rasta_core.proofs.BothEndsAfter.{open_inside, reading as read_at}
use Rattle.rasta_core.proofs.Openings.{down_then}
use Rattle.rasta_core.proofs.CallsKept.{ends_ready, ends_clock}
use Rattle.rasta_core.proofs.Called.{among_each, sent_brings, read_is, bytes_do, end_identity}

-- ---- an end inside

newest_of : (names : Names) (ends : Ends) (who : Role) (is : Timely names ends) → IsIn who ends → (end_of who ends).connection ≡ Some is.newest
newest_of names ends role.Client is inside = is.ends_timed.client.in_newest (inside_open ends.client.link inside)
newest_of names ends role.Server is inside = is.ends_timed.server.in_newest (inside_open ends.server.link inside)

newest_delivered : (names : Names) (ends : Ends) (bytes : List ℕ) (connection : ℕ) (datagram : Sent) (is : Timely names ends) → IsDelivered ends bytes connection datagram
    → datagram.connection ≡ is.newest
newest_delivered names ends bytes connection datagram is delivered =
    let flies : InFlight names (times_of ends is.of_client is.of_server is.newest) datagram = among_each (InFlight names (times_of ends is.of_client is.of_server is.newest)) datagram ends.sent delivered.was_sent is.datagrams in
    alive_newest (times_of ends is.of_client is.of_server is.newest) datagram.sender datagram.at datagram.connection flies.pdu flies.back flies.known delivered.in_time

-- all that can be delivered to an end inside was sent in its connection
pub own_inside : (names : Names) (ends : Ends) (who : Role) (bytes : List ℕ) (connection : ℕ) (datagram : Sent) → Timely names ends → IsDelivered ends bytes connection datagram
    → IsIn who ends → (end_of who ends).connection ≡ Some datagram.connection
own_inside names ends who bytes connection datagram is delivered inside =
    newest_of names ends who is inside ∙ ap (λ (c : ℕ). Some c) (sym (newest_delivered names ends bytes connection datagram is delivered))

-- ---- what is taken

fresh_of : (names : Names) (ends : Ends) (who : Role) (is : Timely names ends) (connection : ℕ) (pdu : Pdu) (at back : ℕ)
    → IsKnown (times_of ends is.of_client is.of_server is.newest) (partner_of who) at connection pdu back → IsAlive ends.time at
    → IsInside (standing (end_of who ends).link) → IsFresh (end_of who ends).link.clock (own_stamp (standing (end_of who ends).link)) pdu → IsAnswering role.Client pdu.body
    → ends.time < at + freshness
fresh_of names ends role.Client is connection pdu at back known alive inside fresh plain =
    omega (arith, not_long _ _ _ _ (client_taking_kept ends.client.link.clock _ at connection pdu back is.ends_timed inside (read_at _ _ is.client.clock) known alive fresh).client tt, known.heard_before)
fresh_of names ends role.Server is connection pdu at back known alive inside fresh plain =
    omega (arith, not_long _ _ _ _ (server_taking_kept ends.server.link.clock _ at connection pdu back is.ends_timed inside (read_at _ _ is.server.clock) known plain alive fresh).server tt, known.heard_before)

-- the datagram itself, where it is of the partner
pub of_datagram : (names : Names) (ends : Ends) (who : Role) (bytes : List ℕ) (connection : ℕ) (datagram : Sent) → AreNames names → (is : Timely names ends) → IsDelivered ends bytes connection datagram
    → (pdu : Pdu) → reading names.key bytes ≡ Ok pdu → IsFor (identity_of who names) pdu
    → (back : ℕ) × (datagram.sender ≡ partner_of who) × IsKnown (times_of ends is.of_client is.of_server is.newest) (partner_of who) datagram.at datagram.connection pdu back
of_datagram names ends who bytes connection datagram are is delivered pdu read meant =
    subst (λ (p : Pdu). (back : ℕ) × (datagram.sender ≡ partner_of who) × IsKnown times (partner_of who) datagram.at datagram.connection p back) same
    (flies.back, partner, subst (λ (r : Role). IsKnown times r datagram.at datagram.connection flies.pdu flies.back) partner flies.known)
  where
    times : Times
    times = times_of ends is.of_client is.of_server is.newest

    flies : InFlight names times datagram
    flies = among_each (InFlight names times) datagram ends.sent delivered.was_sent is.datagrams

    same : flies.pdu ≡ pdu
    same = let f : reading names.key bytes ≡ Ok flies.pdu = subst (λ (b : List ℕ). reading names.key b ≡ Ok flies.pdu) delivered.bytes_same flies.read in cc

    partner_is : (who sender : Role) → flies.pdu.receiver ≡ name_of (partner_of sender) names → flies.pdu.receiver ≡ name_of who names → sender ≡ partner_of who
    partner_is role.Client role.Server e f = refl
    partner_is role.Server role.Client e f = refl
    partner_is role.Client role.Client e f = absurd (are.differ (sym f ∙ e))
    partner_is role.Server role.Server e f = absurd (are.differ (sym e ∙ f))

    partner : datagram.sender ≡ partner_of who
    partner = partner_is who datagram.sender flies.receiver (ap (λ (p : Pdu). p.receiver) same ∙ meant.receiver)

-- items are taken only from a datagram that was sent a short time before
pub taken_fresh : (names : Names) (ends : Ends) (who : Role) (bytes : List ℕ) (connection : ℕ) (datagram : Sent) → AreNames names → Timely names ends → IsDelivered ends bytes connection datagram
    → (receipt_at who bytes ends).items ≢ [] → ends.time < datagram.at + freshness
taken_fresh names ends who bytes connection datagram are is delivered some = choose does.deed
  where
    link : LinkState
    link = (end_of who ends).link

    receipt : Receipt
    receipt = receipt_at who bytes ends

    does : Hears link (read_pdu (reading names.key bytes)) receipt
    does = bytes_do names ends who bytes connection is (sent_brings names who ends bytes connection datagram is delivered)

    enters : Bool
    enters = not (is_open link.phase) && is_taken receipt.verdict

    choose : Deed link.identity link.clock (read_pdu (reading names.key bytes)) (standing link) (standing receipt.link) enters receipt.items receipt.pdus → ends.time < datagram.at + freshness
    choose (rests same nothing shut none) = absurd (some none)
    choose (speaks inside acts shut none) = absurd (some none)
    choose (asks pdu own client is_down stands one asked opened none) = absurd (some none)
    choose (grants pdu word server is_for is_down request acts opened none) = absurd (some none)
    choose (joins pdu word client is_for inside acts shut none) = absurd (some none)
    choose (takes pdu word is_for inside fresh plain acts shut) =
        let own = of_datagram names ends who bytes connection datagram are is delivered pdu (read_is _ pdu word) (subst (λ (i : Identity). IsFor i pdu) (end_identity names ends who is) is_for) in
        fresh_of names ends who is datagram.connection pdu datagram.at own.0 own.2 delivered.in_time inside fresh plain

-- ---- an end outside

not_inside : (l : LinkState) → is_open l.phase ≡ false → IsInside (standing l) → ⊥
not_inside l shut inside = let o : is_open l.phase ≡ true = open_inside l inside in cc

opening_of : (names : Names) (ends : Ends) (datagram : Sent) (bytes : List ℕ) (is : Timely names ends) → datagram.bytes ≡ bytes → IsDownAt ends.server.link.clock (standing ends.server.link)
    → (pdu : Pdu) (back : ℕ) → reading names.key bytes ≡ Ok pdu → datagram.sender ≡ role.Client → IsKnown (times_of ends is.of_client is.of_server is.newest) role.Client datagram.at datagram.connection pdu back
    → IsRequest pdu.body → IsAlive ends.time datagram.at → IsOpening names role.Server ends datagram
opening_of names ends datagram bytes is same is_down pdu back read sender known request alive = record {
  is_server = refl;
  of_client = sender;
  pdu = pdu;
  read = subst (λ (b : List ℕ). reading names.key b ≡ Ok pdu) (sym same) read;
  is_request = request;
  sent_after = after;
  is_new = λ c e. omega (arith, is.ends_timed.server.over is_down.is_outside c e, after);
}
  where
    times : Times
    times = times_of ends is.of_client is.of_server is.newest

    after : ends.server.left ≤ datagram.connection
    after = request_fresh ends.server.link.clock times datagram.at datagram.connection pdu back is.ends_timed (down_then names role.Server ends.server is.of_server is.server is_down) known request alive

pub taken_opening : (names : Names) (ends : Ends) (who : Role) (bytes : List ℕ) (connection : ℕ) (datagram : Sent) → AreNames names → Timely names ends → IsDelivered ends bytes connection datagram
    → IsOut who ends → is_taken (receipt_at who bytes ends).verdict ≡ true → IsOpening names who ends datagram
taken_opening names ends who bytes connection datagram are is delivered shut took = choose does.deed
  where
    link : LinkState
    link = (end_of who ends).link

    receipt : Receipt
    receipt = receipt_at who bytes ends

    does : Hears link (read_pdu (reading names.key bytes)) receipt
    does = bytes_do names ends who bytes connection is (sent_brings names who ends bytes connection datagram is delivered)

    enters : Bool
    enters = not (is_open link.phase) && is_taken receipt.verdict

    entered : enters ≡ true
    entered = ap (λ (b : Bool). not b && is_taken receipt.verdict) shut ∙ took

    of_server : (r : Role) → (end_of r ends).link.identity.role ≡ role.Server → r ≡ role.Server
    of_server role.Server e = refl
    of_server role.Client e = let f : role.Client ≡ role.Server = sym (ap (λ (i : Identity). i.role) (end_identity names ends role.Client is)) ∙ e in cc

    opens : (r : Role) → r ≡ role.Server → IsDownAt (end_of r ends).link.clock (standing (end_of r ends).link) → (pdu : Pdu) → reading names.key bytes ≡ Ok pdu → IsRequest pdu.body
        → (back : ℕ) × (datagram.sender ≡ partner_of r) × IsKnown (times_of ends is.of_client is.of_server is.newest) (partner_of r) datagram.at datagram.connection pdu back
        → IsOpening names r ends datagram
    opens role.Server e is_down pdu read request own = opening_of names ends datagram bytes is delivered.bytes_same is_down pdu own.0 read own.1 own.2 request delivered.in_time
    opens role.Client e is_down pdu read request own = cc

    choose : Deed link.identity link.clock (read_pdu (reading names.key bytes)) (standing link) (standing receipt.link) enters receipt.items receipt.pdus → IsOpening names who ends datagram
    choose (rests same nothing stays none) = cc
    choose (speaks inside acts stays none) = absurd (not_inside link shut inside)
    choose (asks pdu own client is_down stands one asked opened none) = absurd (not_own (reading names.key bytes) own)
      where
        not_own : (result : Result Pdu PduFault) → read_pdu result ≡ Own → ⊥
        not_own (Ok other) e = cc
        not_own (Err fault) e = cc
    choose (grants pdu word server is_for is_down request acts opened none) = opens who (of_server who server) is_down pdu (read_is _ pdu word) request
        (of_datagram names ends who bytes connection datagram are is delivered pdu (read_is _ pdu word) (subst (λ (i : Identity). IsFor i pdu) (end_identity names ends who is) is_for))
    choose (joins pdu word client is_for inside acts stays none) = absurd (not_inside link shut inside)
    choose (takes pdu word is_for inside fresh plain acts stays) = absurd (not_inside link shut inside)

after_taking : (opened took : Bool) (old : Option ℕ) (number connection : ℕ) → took ≡ true → connection ≡ number → (opened ≡ true → old ≡ Some connection)
    → newer (if not opened && took then Some number else None) old ≡ Some connection
after_taking true took old number connection e same inside = inside refl
after_taking false true old number connection e same inside = ap (λ (c : ℕ). Some c) (sym same)
after_taking false false old number connection e same inside = cc

-- after it, the end is in the datagram's connection
pub own_taken : (names : Names) (ends : Ends) (who : Role) (bytes : List ℕ) (connection : ℕ) (datagram : Sent) → Timely names ends → IsDelivered ends bytes connection datagram
    → is_taken (receipt_at who bytes ends).verdict ≡ true → (end_of who (called who (Receives bytes connection) ends)).connection ≡ Some datagram.connection
unfolding called outcome end_after
own_taken names ends role.Client bytes connection datagram is delivered took =
    after_taking (is_open ends.client.link.phase) (is_taken (receipt_at role.Client bytes ends).verdict) ends.client.connection connection datagram.connection took delivered.connection_same (own_inside names ends role.Client bytes connection datagram is delivered)
own_taken names ends role.Server bytes connection datagram is delivered took =
    after_taking (is_open ends.server.link.phase) (is_taken (receipt_at role.Server bytes ends).verdict) ends.server.connection connection datagram.connection took delivered.connection_same (own_inside names ends role.Server bytes connection datagram is delivered)

-- ---- both ends

pub same_connection : (names : Names) (ends : Ends) → Timely names ends → IsIn role.Client ends → IsIn role.Server ends → ends.server.connection ≡ ends.client.connection
same_connection names ends is client server = newest_of names ends role.Server is server ∙ sym (newest_of names ends role.Client is client)

pub up_connection : (names : Names) (ends : Ends) → Timely names ends → is_up ends.client.link.phase ≡ true → ends.server.connection ≡ ends.client.connection
up_connection names ends is up =
    is.ends_timed.joined (subst HasHeard (sym (standing_open ends.client.link o)) (of_heard _ _ _ (up_heard ends.client.link up))) ∙ sym (newest_of names ends role.Client is o)
  where
    o : is_open ends.client.link.phase ≡ true
    o = up_open ends.client.link up

-- ---- quiet

down_now : (names : Names) (ends : Ends) (who : Role) (is : Timely names ends) → IsDownNow who ends → IsDownAt (end_of who ends).link.clock (standing (end_of who ends).link)
down_now names ends who is down =
    subst (IsDownAt l.clock) (sym (standing_closed l told.0)) told.1
  where
    l : LinkState
    l = (end_of who ends).link

    told : Tells l state.Down
    told = subst (Tells l) (subst (λ (now : ℕ). state_at now l ≡ state.Down) (sym (ends_clock names ends who is)) down) (tells l (ends_ready names ends who is))

shut_from : (l : LinkState) → (IsInside (standing l) → ⊥) → is_open l.phase ≡ false
shut_from l not = pick (is_open l.phase) refl
  where
    pick : (b : Bool) → is_open l.phase ≡ b → is_open l.phase ≡ false
    pick true e = absurd (not (inside_open l e))
    pick false e = e

pub server_is_out : (names : Names) (ends : Ends) → Timely names ends → IsDownNow role.Client ends → IsOut role.Server ends
server_is_out names ends is down = shut_from ends.server.link (server_gone ends.client.link.clock (times_of ends is.of_client is.of_server is.newest) is.ends_timed
    (down_then names role.Client ends.client is.of_client is.client (down_now names ends role.Client is down)))

pub all_dead : (names : Names) (ends : Ends) → Timely names ends → IsDownNow role.Client ends → Each (λ sent. sent.at + lifetime < ends.time) ends.sent
all_dead names ends is down = each_turned (InFlight names times) (λ (sent : Sent). sent.at + lifetime < ends.time) (λ (sent : Sent) (flies : InFlight names times sent). dead sent.sender sent.at sent.connection flies.pdu flies.back flies.known) ends.sent is.datagrams
  where
    times : Times
    times = times_of ends is.of_client is.of_server is.newest

    is_down : IsDown ends.client.link.clock times.client
    is_down = down_then names role.Client ends.client is.of_client is.client (down_now names ends role.Client is down)

    dead : (who : Role) (at connection : ℕ) (pdu : Pdu) (back : ℕ) → IsKnown times who at connection pdu back → at + lifetime < ends.time
    dead who at connection pdu back known = elim (ℕ_discrete connection times.newest) [
      | yes same ↦ last who known same
      | no other ↦ known.dead other
    ]
      where
        away : is.of_client.left_at + 5992998 ≤ ends.time
        away = long_away times times.moment times.newest ends.client.link.clock times.client is.ends_timed.client is_down

        last : (r : Role) → IsKnown times r at connection pdu back → connection ≡ times.newest → at + lifetime < ends.time
        last role.Client k same = omega (arith, k.last_word same is_down.is_outside, away)
        last role.Server k same = omega (arith, k.lonely same tt is_down.is_outside, away)

pub client_is_apart : (names : Names) (ends : Ends) → Timely names ends → IsDownNow role.Server ends → IsIn role.Client ends → ends.server.connection ≢ ends.client.connection
client_is_apart names ends is down inside same =
    omega (
      arith,
      long_away times times.moment times.newest ends.server.link.clock times.server is.ends_timed.server is_down,
      not_long ends.time ends.moment is.newest times.client is.ends_timed.client (inside_open ends.client.link inside),
      is.ends_timed.client_alone (inside_open ends.client.link inside) is_down.is_outside (same ∙ newest_of names ends role.Client is inside),
    )
  where
    times : Times
    times = times_of ends is.of_client is.of_server is.newest

    is_down : IsDown ends.server.link.clock times.server
    is_down = down_then names role.Server ends.server is.of_server is.server (down_now names ends role.Server is down)

-- ---- clocks

pub links_settled : (names : Names) (ends : Ends) (who : Role) → Timely names ends → settled (reading_of (end_of who ends).clock) (end_of who ends).link ≡ (end_of who ends).link
links_settled names ends who is = subst (λ (now : ℕ). settled now l ≡ l) (ends_clock names ends who is) (settled_same l (ends_ready names ends who is))
  where
    l : LinkState
    l = (end_of who ends).link

-- ---- how long the client has been outside

shut_standing : (l : LinkState) → is_open l.phase ≡ false → IsOutside (standing l)
shut_standing l shut = subst IsOutside (sym (standing_closed l shut)) tt

long_out : (names : Names) (since : ℕ) (ends : Ends) (has : HasBeenOut names since ends) → since + quiet_time ≤ reading_of ends.client.clock → has.timely.of_client.left_at + 5992998 ≤ ends.time
long_out names since ends has over = omega (arith, has.timely.ends_timed.client.apart (shut_standing ends.client.link has.is_out), has.timely.ends_timed.client.small.ahead, has.left_then, over)

pub server_is_out_since : (names : Names) (since : ℕ) (ends : Ends) → HasBeenOut names since ends → since + quiet_time ≤ reading_of ends.client.clock → IsOut role.Server ends
server_is_out_since names since ends has over = shut_from ends.server.link gone
  where
    gone : IsInside (standing ends.server.link) → ⊥
    gone inside = omega (
      arith,
      long_out names since ends has over,
      not_long ends.time ends.moment has.timely.newest (timed ends.server has.timely.of_server) has.timely.ends_timed.server inside,
      has.timely.ends_timed.server_alone inside (shut_standing ends.client.link has.is_out),
    )

pub all_dead_since : (names : Names) (since : ℕ) (ends : Ends) → HasBeenOut names since ends → since + quiet_time ≤ reading_of ends.client.clock
    → Each (λ sent. sent.at + lifetime < ends.time) ends.sent
all_dead_since names since ends has over = each_turned (InFlight names times) (λ (sent : Sent). sent.at + lifetime < ends.time) (λ (sent : Sent) (flies : InFlight names times sent). dead sent.sender sent.at sent.connection flies.pdu flies.back flies.known) ends.sent has.timely.datagrams
  where
    times : Times
    times = times_of ends has.timely.of_client has.timely.of_server has.timely.newest

    is_out : IsOutside (standing ends.client.link)
    is_out = shut_standing ends.client.link has.is_out

    away : has.timely.of_client.left_at + 5992998 ≤ ends.time
    away = long_out names since ends has over

    dead : (who : Role) (at connection : ℕ) (pdu : Pdu) (back : ℕ) → IsKnown times who at connection pdu back → at + lifetime < ends.time
    dead who at connection pdu back known = elim (ℕ_discrete connection times.newest) [
      | yes same ↦ last who known same
      | no other ↦ known.dead other
    ]
      where
        last : (r : Role) → IsKnown times r at connection pdu back → connection ≡ times.newest → at + lifetime < ends.time
        last role.Client k same = omega (arith, k.last_word same is_out, away)
        last role.Server k same = omega (arith, k.lonely same tt is_out, away)

pub out_as_known : (names : Names) (ends : Ends) → Timely names ends → IsOut role.Client ends → HasBeenOut names ends.client.link.closed_at ends
out_as_known names ends is shut = record {
  timely = is;
  is_out = shut;
  left_then = is.ends_timed.client.closed (shut_standing ends.client.link shut) ∙ same;
}
  where
    same : closed_at (standing ends.client.link) ≡ ends.client.link.closed_at
    same = ap closed_at (standing_closed ends.client.link shut)
