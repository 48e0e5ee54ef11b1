-- Opening a connection keeps the invariant.
use Rattle.std.proofs.Common.{◌≡◌, ℕ, ◌∙◌, ◌+◌, Bool, true, false, ◌||◌, if◌then◌else◌, List, [], ◌∷◌, ◌++◌, length, Option, Some, None, is_some, refl, sym, ap, subst}
use Rattle.rasta_core_spec.specs.State.{is_open}
use Rattle.rasta_core_spec.specs.Outbox.{spellings}
use Rattle.rasta_core_spec.specs.identity.Identity.{Identity}
use Rattle.rasta_core_spec.specs.identity.Role.{Role}
use Rattle.rasta_core_spec.specs.identity.Role.TheVariants as role
use Rattle.rasta_core_spec.specs.Ends.{Sent, EndState, Outcome, end_after, handed_out, newer, leaves}
use Rattle.rasta_core_spec.specs.Run.{Ends}
use Rattle.rasta_core_spec.specs.key.Key.{Key}
use Rattle.rasta_core_spec.specs.pdu.Pdu.{Pdu}
use Rattle.rasta_core_spec.specs.Each.{Each}
use Rattle.rasta_core.specs.TimedEnds.{Inside, Past, Times, IsInside, own_stamp, standing, timed, times_of}
use Rattle.rasta_core.specs.Moves.{asking}
use Rattle.rasta_core.specs.Timely.{AreTimed}
use Rattle.rasta_core_spec.specs.Sentences.{IsRequest}
use Rattle.rasta_core_spec.specs.Names.{Names, AreNames}
use Rattle.rasta_core.specs.Invariant.{InFlight, IsEnd, Timely}
use Rattle.rasta_core.proofs.EachLaws.{each_join, each_turned}
use Rattle.rasta_core.proofs.Reception.{IsDown, alive_newest, asking_kept, connection_fresh}
use Rattle.rasta_core.proofs.TakenDatagram.{granting_kept, joining_kept}
use Rattle.rasta_core.proofs.Datagrams.{known_asking, known_granting, known_client_hearing, request_known}
use Rattle.rasta_core.proofs.InsidePdus.{Acts, IsKept}
use Rattle.rasta_core.proofs.States.{IsDownAt}
use Rattle.rasta_core.proofs.Deeds.{IsAsked, IsFor}
use Rattle.rasta_core.proofs.Conversation.{WrittenIsRead, in_flight_turned}
use Rattle.rasta_core.proofs.BothEndsAfter.{made_at, open_inside, reading, client_finished, server_finished, Follows, not_shut, client_follows, server_follows}
use Rattle.rasta_core.proofs.DeedsKept.{Delivered, DeliveredBy, by_partner, client_ready, four_same, entering_stays, build_client}

-- the client takes the response
pub client_joins : WrittenIsRead → (names : Names) (ends : Ends) (made : Outcome) (number : ℕ) (pdu : Pdu) → AreNames names → (is : Timely names ends) → IsKept ends.client.link made.link → IsInside (standing ends.client.link)
    → Delivered names (times_of ends is.of_client is.of_server is.newest) number pdu → IsFor ends.client.link.identity pdu
    → Acts ends.client.link.identity ends.client.link.clock (Inside false (own_stamp (standing ends.client.link)) pdu.time_stamp) (standing made.link) made.pdus → made.enters ≡ None → Follows names ends is (made_at role.Client made ends)
client_joins law names ends made number pdu are is keeps inside delivered is_for acts no_entry = client_follows names ends is _ (open_inside ends.client.link inside) (
    client_finished law names ends is.of_client is.of_server is.newest made (Inside false (own_stamp (standing ends.client.link)) pdu.time_stamp) past is.client is.server
    (client_ready names ends made is.of_client is.of_server is.newest _ past no_entry
    (joining_kept times by.at number pdu by.back is.ends_timed inside by.known by.alive)
    (each_turned (InFlight names times) _ (in_flight_turned names times _ (known_client_hearing pdu.time_stamp by.known.read_as by.at (own_stamp (standing ends.client.link)) is.of_client.returned_at times inside)) ends.sent is.datagrams)
    tt acts keeps (open_inside ends.client.link inside)))
  where
    times : Times
    times = times_of ends is.of_client is.of_server is.newest

    by : DeliveredBy times role.Server number pdu
    by = by_partner names times number pdu role.Client are (subst (λ (i : Identity). IsFor i pdu) is.client.identity is_for) delivered

    past : Past
    past = record is.of_client { heard_at = by.at; heard_clock = by.known.read_as }

-- a reading at which an end is down
pub down_then : (names : Names) (who : Role) (end : EndState) (past : Past) → IsEnd names who end → IsDownAt end.link.clock (standing end.link) → IsDown end.link.clock (timed end past)
down_then names who end past is is_down = record { is_outside = is_down.is_outside; reads = reading _ _ is.clock; quiet = is_down.quiet }

-- the server takes a request
pub server_grants : WrittenIsRead → (names : Names) (ends : Ends) (made : Outcome) (number : ℕ) (pdu : Pdu) → AreNames names → (is : Timely names ends) → IsKept ends.server.link made.link → IsDownAt ends.server.link.clock (standing ends.server.link)
    → Delivered names (times_of ends is.of_client is.of_server is.newest) number pdu → IsFor ends.server.link.identity pdu → IsRequest pdu.body
    → Acts ends.server.link.identity ends.server.link.clock (Inside false ends.server.link.clock pdu.time_stamp) (standing made.link) made.pdus → made.enters ≡ Some number → Follows names ends is (made_at role.Server made ends)
server_grants law names ends made number pdu are is keeps is_down delivered is_for request acts entry = server_follows names ends is _ refl (
    server_finished law names ends is.of_client is.of_server is.newest made (Inside false ends.server.link.clock pdu.time_stamp) past is.client is.server (record {
      are = subst (λ (e : Option ℕ). AreTimed (at_enters e)) (sym entry) (granting_kept ends.server.link.clock times by.at number pdu by.back is.ends_timed down by.known request by.alive);
      flies = subst (λ (e : Option ℕ). Each (InFlight names (at_enters e)) ends.sent) (sym entry)
          (each_turned (InFlight names times) _ (in_flight_turned names times _ (known_granting ends.server.link.clock pdu.time_stamp by.known.read_as by.at number times
          (connection_fresh ends.server.link.clock times by.at number pdu by.back is.ends_timed down by.known request by.alive)
          (alive_newest times role.Client by.at number pdu by.back by.known by.alive))) ends.sent is.datagrams);
      inside = tt;
      acts = acts;
      keeps = keeps;
      moved = subst (λ (e : Option ℕ). (is_open ends.server.link.phase || is_some e) ≡ true) (sym entry) (or_true (is_open ends.server.link.phase));
    }))
  where
    times : Times
    times = times_of ends is.of_client is.of_server is.newest

    by : DeliveredBy times role.Client number pdu
    by = by_partner names times number pdu role.Server are (subst (λ (i : Identity). IsFor i pdu) is.server.identity is_for) delivered

    past : Past
    past = record is.of_server { returned_at = ends.time; heard_at = by.at; heard_clock = by.known.read_as }

    down : IsDown ends.server.link.clock times.server
    down = down_then names role.Server ends.server is.of_server is.server is_down

    at_enters : Option ℕ → Times
    at_enters e = record times { server = record times.server { standing = Inside false ends.server.link.clock pdu.time_stamp; connection = newer e ends.server.connection; past = past } }

    or_true : (b : Bool) → (b || true) ≡ true
    or_true true = refl
    or_true false = refl

-- the client asks
pub client_asks : WrittenIsRead → (names : Names) (ends : Ends) (made : Outcome) (pdu : Pdu) → (is : Timely names ends) → IsKept ends.client.link made.link → IsDownAt ends.client.link.clock (standing ends.client.link)
    → standing made.link ≡ Inside true ends.client.link.clock 0 → made.pdus ≡ pdu ∷ [] → IsAsked ends.client.link.identity ends.client.link.clock pdu → made.enters ≡ Some ends.moment → Follows names ends is (made_at role.Client made ends)
unfolding end_after build_client
client_asks law names ends made pdu is keeps is_down stands one asked entry = record {
  timely = record {
    of_client = past;
    of_server = is.of_server;
    newest = ends.moment;
    client = record { identity = keeps.identity ∙ is.client.identity; clock = keeps.clock ∙ is.client.clock; sound = keeps.sound };
    server = is.server;
    ends_timed = subst AreTimed (sym times_same) (asking_kept now times is.ends_timed down);
    datagrams = subst (λ (t : Times). Each (InFlight names t) later.sent) (sym times_same)
        (subst (λ (list : List Sent). Each (InFlight names (asking now times)) list) (sym sent_same)
        (each_join (InFlight names (asking now times)) ends.sent _
        (each_turned (InFlight names times) _ (in_flight_turned names times _ (known_asking now times is.ends_timed down)) ends.sent is.datagrams) (
          record {
            pdu = pdu;
            is_pdu = asked.is_pdu;
            read = law names.key pdu asked.is_pdu;
            receiver = asked.receiver ∙ ap (λ (i : Identity). i.partner) is.client.identity;
            sender = asked.sender ∙ ap (λ (i : Identity). i.own) is.client.identity;
            back = is.of_client.heard_at;
            known = request_known now times pdu is.ends_timed down.reads asked.request asked.answers asked.stamped;
          },
          tt,
        )));
  };
  client_off = refl;
  server_off = refl;
  stays = λ shut o. not_shut (is_open made.link.phase) opened o;
  leaves = λ was o. not_shut (is_open made.link.phase) opened o;
}
  where
    opened : is_open made.link.phase ≡ true
    opened = open_inside made.link (subst IsInside (sym stands) tt)

    now : ℕ
    now = ends.client.link.clock

    times : Times
    times = times_of ends is.of_client is.of_server is.newest

    later : Ends
    later = made_at role.Client made ends

    past : Past
    past = record is.of_client { returned_at = ends.time }

    down : IsDown now times.client
    down = down_then names role.Client ends.client is.of_client is.client is_down

    left : ℕ
    left = if leaves ends.client.link made.enters made.link then ends.moment + length made.pdus else ends.client.left

    left_same : left ≡ ends.client.left
    left_same = ap (λ (e : Option ℕ). if leaves ends.client.link e made.link then ends.moment + length made.pdus else ends.client.left) entry
        ∙ entering_stays (is_open ends.client.link.phase) (is_open made.link.phase) (ends.moment + length made.pdus) ends.client.left (open_inside made.link (subst IsInside (sym stands) tt))

    moment_same : ends.moment + length made.pdus ≡ ends.moment + 1
    moment_same = ap (λ (p : List Pdu). ends.moment + length p) one

    times_same : times_of later past is.of_server ends.moment ≡ asking now times
    times_same = four_same (build_client times past ends.moment) _ _ _ _ _ _ _ _ stands (ap (λ (e : Option ℕ). newer e ends.client.connection) entry) left_same moment_same

    request : Key → List Sent
    request key = handed_out ends.time role.Client (Some ends.moment) (spellings key (pdu ∷ []))

    sent_same : later.sent ≡ ends.sent ++ request names.key
    sent_same = ap (λ (p : List Pdu). ends.sent ++ handed_out ends.time role.Client (newer made.enters ends.client.connection) (spellings ends.client.link.identity.key p)) one
        ∙ ap (λ (e : Option ℕ). ends.sent ++ handed_out ends.time role.Client (newer e ends.client.connection) (spellings ends.client.link.identity.key (pdu ∷ []))) entry
        ∙ ap (λ (i : Identity). ends.sent ++ request i.key) is.client.identity
