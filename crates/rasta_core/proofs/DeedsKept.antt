-- Each deed of an end keeps the invariant.
use Rattle.std.proofs.Common.{◌≡◌, ℕ, ◌∙◌, ◌+◌, Bool, true, false, ◌&&◌, ◌||◌, not, if◌then◌else◌, List, [], ◌++◌, length, Option, Some, None, refl, sym, ap, subst, arith, append-nil}
use Rattle.rasta_core_spec.specs.State.{LinkState, is_open, is_asking}
use Rattle.rasta_core_spec.specs.Outbox.{spellings}
use Rattle.rasta_core_spec.specs.identity.Identity.{Identity}
use Rattle.rasta_core_spec.specs.identity.Role.{Role}
use Rattle.rasta_core_spec.specs.identity.Role.TheVariants as role
use Rattle.rasta_core_spec.specs.Ends.{Sent, Outcome, end_after, handed_out, newer, leaves}
use Rattle.rasta_core_spec.specs.Run.{Ends}
use Rattle.rasta_core_spec.specs.pdu.Pdu.{Pdu}
use Rattle.rasta_core_spec.specs.Each.{Each}
use Rattle.rasta_core.specs.TimedEnds.{Standing, Inside, Outside, Past, Times, IsInside, own_stamp, standing, timed, times_of}
use Rattle.rasta_core_spec.specs.Names.{partner_of, Names, AreNames, name_of, identity_of}
use Rattle.rasta_core.specs.Timely.{AreTimed, IsKnown, IsAnswering}
use Rattle.rasta_core.specs.Invariant.{InFlight, Timely}
use Rattle.rasta_core.proofs.EachLaws.{each_turned}
use Rattle.rasta_core.proofs.Reception.{IsAlive}
use Rattle.rasta_core.proofs.TakenDatagram.{IsFresh, returned_by, client_taking_kept, server_taking_kept}
use Rattle.rasta_core.proofs.Datagrams.{known_client_hearing, known_server_hearing}
use Rattle.rasta_core.proofs.InsidePdus.{Acts, IsKept}
use Rattle.rasta_core.proofs.Deeds.{IsFor}
use Rattle.rasta_core.proofs.Conversation.{WrittenIsRead, in_flight_turned}
use Rattle.rasta_core.proofs.BothEndsAfter.{made_at, open_inside, reading, client_done, client_finished, server_done, server_finished, Follows, not_shut, client_follows, server_follows}

-- ---- what is delivered

-- a PDU of a datagram that can be delivered
pub record Delivered (names : Names) (times : Times) (number : ℕ) (pdu : Pdu) : Type 0 where
  pub who : Role
  pub at : ℕ
  pub back : ℕ
  pub known : IsKnown times who at number pdu back
  pub alive : IsAlive times.time at
  pub receiver : pdu.receiver ≡ name_of (partner_of who) names
  pub sender : pdu.sender ≡ name_of who names

pub record DeliveredBy (times : Times) (who : Role) (number : ℕ) (pdu : Pdu) : Type 0 where
  pub at : ℕ
  pub back : ℕ
  pub known : IsKnown times who at number pdu back
  pub alive : IsAlive times.time at

-- an end takes only what is for it, and that is of its partner
pub by_partner : (names : Names) (times : Times) (number : ℕ) (pdu : Pdu) (who : Role) → AreNames names → IsFor (identity_of who names) pdu → Delivered names times number pdu
    → DeliveredBy times (partner_of who) number pdu
by_partner names times number pdu role.Client are is_for delivered = choose delivered.who delivered.known delivered.receiver
  where
    choose : (who : Role) → IsKnown times who delivered.at number pdu delivered.back → pdu.receiver ≡ name_of (partner_of who) names → DeliveredBy times role.Server number pdu
    choose role.Server known to = record { at = delivered.at; back = delivered.back; known = known; alive = delivered.alive }
    choose role.Client known to = absurd (are.differ (sym is_for.receiver ∙ to))
by_partner names times number pdu role.Server are is_for delivered = choose delivered.who delivered.known delivered.receiver
  where
    choose : (who : Role) → IsKnown times who delivered.at number pdu delivered.back → pdu.receiver ≡ name_of (partner_of who) names → DeliveredBy times role.Client number pdu
    choose role.Client known to = record { at = delivered.at; back = delivered.back; known = known; alive = delivered.alive }
    choose role.Server known to = absurd (are.differ (sym to ∙ is_for.receiver))

-- the number of the connection that an outcome enters, if any
pub record Enters (enters : Bool) (number : ℕ) (made : Option ℕ) : Type 0 where
  pub no : enters ≡ false → made ≡ None
  pub yes : enters ≡ true → made ≡ Some number

-- ---- helpers

pub four_same : {A : Type 0} (f : Standing → Option ℕ → ℕ → ℕ → A) (s t : Standing) (c d : Option ℕ) (l m : ℕ) (n o : ℕ) → s ≡ t → c ≡ d → l ≡ m → n ≡ o → f s c l n ≡ f t d m o
four_same f s t c d l m n o es ec el en = cc

open_of : Standing → Bool
open_of (Inside wants own heard) = true
open_of (Outside closed) = false

open_is : (l : LinkState) → open_of (standing l) ≡ is_open l.phase
unfolding open_of
open_is l = choose (is_open l.phase)
  where
    choose : (b : Bool) → open_of (if b then Inside (is_asking l) l.own_stamp l.partner_stamp else Outside l.closed_at) ≡ b
    choose true = refl
    choose false = refl

not_leaving : (a b : Bool) (moment left : ℕ) → a ≡ b → (if ((a || false) && not b) then moment else left) ≡ left
not_leaving true true moment left e = refl
not_leaving true false moment left e = cc
not_leaving false b moment left e = refl

pub entering_stays : (a b : Bool) (moment left : ℕ) → b ≡ true → (if ((a || true) && not b) then moment else left) ≡ left
entering_stays true true moment left e = refl
entering_stays false true moment left e = refl
entering_stays a false moment left e = cc

or_false : (a b : Bool) → a ≡ true → (a || b) ≡ true
or_false true b e = refl
or_false false b e = cc

pub not_client : (names : Names) (identity : Identity) → identity ≡ identity_of role.Client names → identity.role ≡ role.Server → ⊥
not_client names identity is e = cc

pub not_server : (names : Names) (identity : Identity) → identity ≡ identity_of role.Server names → identity.role ≡ role.Client → ⊥
not_server names identity is e = cc

-- ---- the client

unfoldable pub build_client : Times → Past → ℕ → Standing → Option ℕ → ℕ → ℕ → Times
build_client times past newest stands connection left moment = record times {
  client = record times.client { standing = stands; connection = connection; left = left; past = past };
  moment = moment;
  newest = newest;
}

pub client_rests : (names : Names) (ends : Ends) (made : Outcome) → (is : Timely names ends) → IsKept ends.client.link made.link
    → standing made.link ≡ standing ends.client.link → made.pdus ≡ [] → made.enters ≡ None → Follows names ends is (made_at role.Client made ends)
unfolding end_after build_client
client_rests names ends made is keeps same nothing outside = record {
  timely = record {
    of_client = is.of_client;
    of_server = is.of_server;
    newest = is.newest;
    client = record { identity = keeps.identity ∙ is.client.identity; clock = keeps.clock ∙ is.client.clock; sound = keeps.sound };
    server = is.server;
    ends_timed = subst AreTimed (sym times_same) is.ends_timed;
    datagrams = subst (λ (t : Times). Each (InFlight names t) later.sent) (sym times_same)
        (subst (λ (list : List Sent). Each (InFlight names times) list) (sym sent_same) is.datagrams);
  };
  client_off = refl;
  server_off = refl;
  stays = λ shut o. refl;
  leaves = λ was o. not_shut (is_open ends.client.link.phase) was (opens_same ∙ o);
}
  where
    times : Times
    times = times_of ends is.of_client is.of_server is.newest

    later : Ends
    later = made_at role.Client made ends

    left : ℕ
    left = if leaves ends.client.link made.enters made.link then ends.moment + length made.pdus else ends.client.left

    opens_same : is_open ends.client.link.phase ≡ is_open made.link.phase
    opens_same = sym (open_is ends.client.link) ∙ ap open_of (sym same) ∙ open_is made.link

    left_same : left ≡ ends.client.left
    left_same = ap (λ (e : Option ℕ). if leaves ends.client.link e made.link then ends.moment + length made.pdus else ends.client.left) outside
        ∙ not_leaving (is_open ends.client.link.phase) (is_open made.link.phase) (ends.moment + length made.pdus) ends.client.left opens_same

    moment_same : ends.moment + length made.pdus ≡ ends.moment
    moment_same = omega (arith, ap (λ (p : List Pdu). length p) nothing)

    times_same : times_of later is.of_client is.of_server is.newest ≡ times
    times_same = four_same (build_client times is.of_client is.newest) _ _ _ _ _ _ _ _ same (ap (λ (e : Option ℕ). newer e ends.client.connection) outside) left_same moment_same

    sent_same : later.sent ≡ ends.sent
    sent_same = ap (λ (p : List Pdu). ends.sent ++ handed_out ends.time role.Client (newer made.enters ends.client.connection) (spellings ends.client.link.identity.key p)) nothing ∙ append-nil ends.sent

-- the client stands so before it utters anything, and has entered no connection
pub client_ready : (names : Names) (ends : Ends) (made : Outcome) (of_client of_server : Past) (newest : ℕ) (stands : Standing) (past : Past) → made.enters ≡ None
    → AreTimed (record (times_of ends of_client of_server newest) { client = record (timed ends.client of_client) { standing = stands; past = past } })
    → Each (InFlight names (record (times_of ends of_client of_server newest) { client = record (timed ends.client of_client) { standing = stands; past = past } })) ends.sent
    → IsInside stands → Acts ends.client.link.identity ends.client.link.clock stands (standing made.link) made.pdus → IsKept ends.client.link made.link → is_open ends.client.link.phase ≡ true
    → client_done names ends of_client of_server newest made stands past
client_ready names ends made of_client of_server newest stands past outside are flies inside acts keeps opened = record {
  are = subst (λ (e : Option ℕ). AreTimed (at_enters e)) (sym outside) are;
  flies = subst (λ (e : Option ℕ). Each (InFlight names (at_enters e)) ends.sent) (sym outside) flies;
  inside = inside;
  acts = acts;
  keeps = keeps;
  moved = or_false _ _ opened;
}
  where
    at_enters : Option ℕ → Times
    at_enters e = record (times_of ends of_client of_server newest) { client = record (timed ends.client of_client) { standing = stands; connection = newer e ends.client.connection; past = past } }

pub client_speaks : WrittenIsRead → (names : Names) (ends : Ends) (made : Outcome) → (is : Timely names ends) → IsKept ends.client.link made.link → IsInside (standing ends.client.link)
    → Acts ends.client.link.identity ends.client.link.clock (standing ends.client.link) (standing made.link) made.pdus → made.enters ≡ None → Follows names ends is (made_at role.Client made ends)
client_speaks law names ends made is keeps inside acts outside = client_follows names ends is _ (open_inside ends.client.link inside) (client_finished law names ends is.of_client is.of_server is.newest made (standing ends.client.link) is.of_client is.client is.server
    (client_ready names ends made is.of_client is.of_server is.newest (standing ends.client.link) is.of_client outside is.ends_timed is.datagrams inside acts keeps (open_inside ends.client.link inside)))

pub client_takes : WrittenIsRead → (names : Names) (ends : Ends) (made : Outcome) (number : ℕ) (pdu : Pdu) → AreNames names → (is : Timely names ends) → IsKept ends.client.link made.link → IsInside (standing ends.client.link)
    → Delivered names (times_of ends is.of_client is.of_server is.newest) number pdu → IsFor ends.client.link.identity pdu → IsFresh ends.client.link.clock (own_stamp (standing ends.client.link)) pdu → IsAnswering role.Client pdu.body
    → Acts ends.client.link.identity ends.client.link.clock (Inside false (returned_by ends.client.link.clock pdu) pdu.time_stamp) (standing made.link) made.pdus → made.enters ≡ None → Follows names ends is (made_at role.Client made ends)
client_takes law names ends made number pdu are is keeps inside delivered is_for fresh plain acts outside = client_follows names ends is _ (open_inside ends.client.link inside) (
    client_finished law names ends is.of_client is.of_server is.newest made (Inside false (returned_by ends.client.link.clock pdu) pdu.time_stamp) past is.client is.server
    (client_ready names ends made is.of_client is.of_server is.newest _ past outside
    (client_taking_kept ends.client.link.clock times by.at number pdu by.back is.ends_timed inside (reading _ _ is.client.clock) by.known by.alive fresh)
    (each_turned (InFlight names times) _ (in_flight_turned names times _ (known_client_hearing pdu.time_stamp by.known.read_as by.at (returned_by ends.client.link.clock pdu) by.back times inside)) ends.sent is.datagrams)
    tt acts keeps (open_inside ends.client.link inside)))
  where
    times : Times
    times = times_of ends is.of_client is.of_server is.newest

    by : DeliveredBy times role.Server number pdu
    by = by_partner names times number pdu role.Client are (subst (λ (i : Identity). IsFor i pdu) is.client.identity is_for) delivered

    past : Past
    past = record is.of_client { returned_at = by.back; heard_at = by.at; heard_clock = by.known.read_as }

-- ---- the server

unfoldable pub build_server : Times → Past → ℕ → Standing → Option ℕ → ℕ → ℕ → Times
build_server times past newest stands connection left moment = record times {
  server = record times.server { standing = stands; connection = connection; left = left; past = past };
  moment = moment;
  newest = newest;
}

pub server_rests : (names : Names) (ends : Ends) (made : Outcome) → (is : Timely names ends) → IsKept ends.server.link made.link
    → standing made.link ≡ standing ends.server.link → made.pdus ≡ [] → made.enters ≡ None → Follows names ends is (made_at role.Server made ends)
unfolding end_after build_server
server_rests names ends made is keeps same nothing outside = record {
  timely = record {
    of_client = is.of_client;
    of_server = is.of_server;
    newest = is.newest;
    client = is.client;
    server = record { identity = keeps.identity ∙ is.server.identity; clock = keeps.clock ∙ is.server.clock; sound = keeps.sound };
    ends_timed = subst AreTimed (sym times_same) is.ends_timed;
    datagrams = subst (λ (t : Times). Each (InFlight names t) later.sent) (sym times_same)
        (subst (λ (list : List Sent). Each (InFlight names times) list) (sym sent_same) is.datagrams);
  };
  client_off = refl;
  server_off = refl;
  stays = λ shut o. refl;
  leaves = λ was o. not_shut (is_open ends.client.link.phase) was (o);
}
  where
    times : Times
    times = times_of ends is.of_client is.of_server is.newest

    later : Ends
    later = made_at role.Server made ends

    left : ℕ
    left = if leaves ends.server.link made.enters made.link then ends.moment + length made.pdus else ends.server.left

    opens_same : is_open ends.server.link.phase ≡ is_open made.link.phase
    opens_same = sym (open_is ends.server.link) ∙ ap open_of (sym same) ∙ open_is made.link

    left_same : left ≡ ends.server.left
    left_same = ap (λ (e : Option ℕ). if leaves ends.server.link e made.link then ends.moment + length made.pdus else ends.server.left) outside
        ∙ not_leaving (is_open ends.server.link.phase) (is_open made.link.phase) (ends.moment + length made.pdus) ends.server.left opens_same

    moment_same : ends.moment + length made.pdus ≡ ends.moment
    moment_same = omega (arith, ap (λ (p : List Pdu). length p) nothing)

    times_same : times_of later is.of_client is.of_server is.newest ≡ times
    times_same = four_same (build_server times is.of_server is.newest) _ _ _ _ _ _ _ _ same (ap (λ (e : Option ℕ). newer e ends.server.connection) outside) left_same moment_same

    sent_same : later.sent ≡ ends.sent
    sent_same = ap (λ (p : List Pdu). ends.sent ++ handed_out ends.time role.Server (newer made.enters ends.server.connection) (spellings ends.server.link.identity.key p)) nothing ∙ append-nil ends.sent

-- the server stands so before it utters anything, and has entered no connection
pub server_ready : (names : Names) (ends : Ends) (made : Outcome) (of_client of_server : Past) (newest : ℕ) (stands : Standing) (past : Past) → made.enters ≡ None
    → AreTimed (record (times_of ends of_client of_server newest) { server = record (timed ends.server of_server) { standing = stands; past = past } })
    → Each (InFlight names (record (times_of ends of_client of_server newest) { server = record (timed ends.server of_server) { standing = stands; past = past } })) ends.sent
    → IsInside stands → Acts ends.server.link.identity ends.server.link.clock stands (standing made.link) made.pdus → IsKept ends.server.link made.link → is_open ends.server.link.phase ≡ true
    → server_done names ends of_client of_server newest made stands past
server_ready names ends made of_client of_server newest stands past outside are flies inside acts keeps opened = record {
  are = subst (λ (e : Option ℕ). AreTimed (at_enters e)) (sym outside) are;
  flies = subst (λ (e : Option ℕ). Each (InFlight names (at_enters e)) ends.sent) (sym outside) flies;
  inside = inside;
  acts = acts;
  keeps = keeps;
  moved = or_false _ _ opened;
}
  where
    at_enters : Option ℕ → Times
    at_enters e = record (times_of ends of_client of_server newest) { server = record (timed ends.server of_server) { standing = stands; connection = newer e ends.server.connection; past = past } }

pub server_speaks : WrittenIsRead → (names : Names) (ends : Ends) (made : Outcome) → (is : Timely names ends) → IsKept ends.server.link made.link → IsInside (standing ends.server.link)
    → Acts ends.server.link.identity ends.server.link.clock (standing ends.server.link) (standing made.link) made.pdus → made.enters ≡ None → Follows names ends is (made_at role.Server made ends)
server_speaks law names ends made is keeps inside acts outside = server_follows names ends is _ refl (server_finished law names ends is.of_client is.of_server is.newest made (standing ends.server.link) is.of_server is.client is.server
    (server_ready names ends made is.of_client is.of_server is.newest (standing ends.server.link) is.of_server outside is.ends_timed is.datagrams inside acts keeps (open_inside ends.server.link inside)))

pub server_takes : WrittenIsRead → (names : Names) (ends : Ends) (made : Outcome) (number : ℕ) (pdu : Pdu) → AreNames names → (is : Timely names ends) → IsKept ends.server.link made.link → IsInside (standing ends.server.link)
    → Delivered names (times_of ends is.of_client is.of_server is.newest) number pdu → IsFor ends.server.link.identity pdu → IsFresh ends.server.link.clock (own_stamp (standing ends.server.link)) pdu → IsAnswering role.Client pdu.body
    → Acts ends.server.link.identity ends.server.link.clock (Inside false (returned_by ends.server.link.clock pdu) pdu.time_stamp) (standing made.link) made.pdus → made.enters ≡ None → Follows names ends is (made_at role.Server made ends)
server_takes law names ends made number pdu are is keeps inside delivered is_for fresh plain acts outside = server_follows names ends is _ refl (
    server_finished law names ends is.of_client is.of_server is.newest made (Inside false (returned_by ends.server.link.clock pdu) pdu.time_stamp) past is.client is.server
    (server_ready names ends made is.of_client is.of_server is.newest _ past outside
    (server_taking_kept ends.server.link.clock times by.at number pdu by.back is.ends_timed inside (reading _ _ is.server.clock) by.known plain by.alive fresh)
    (each_turned (InFlight names times) _ (in_flight_turned names times _ (known_server_hearing pdu.time_stamp by.known.read_as by.at (returned_by ends.server.link.clock pdu) by.back times inside)) ends.sent is.datagrams)
    tt acts keeps (open_inside ends.server.link inside)))
  where
    times : Times
    times = times_of ends is.of_client is.of_server is.newest

    by : DeliveredBy times role.Client number pdu
    by = by_partner names times number pdu role.Server are (subst (λ (i : Identity). IsFor i pdu) is.server.identity is_for) delivered

    past : Past
    past = record is.of_server { returned_at = by.back; heard_at = by.at; heard_clock = by.known.read_as }
