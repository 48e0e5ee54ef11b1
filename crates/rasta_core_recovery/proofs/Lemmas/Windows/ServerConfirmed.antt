-- How few of a server's items wait whose client awaits answers, event by event: as of a client's (`ConfirmingEvents`), each end in the place of the other.
use Rattle.rasta_core_recovery.proofs.Words.Basics.{◌≡◌, ℕ, ◌∙◌, ◌+◌, ◌-◌, ◌≤◌, ◌<◌, ◌⊎◌, inl, inr, Bool, true, false, List, [], ◌∷◌, ◌++◌, length, Option, Some, None, if◌then◌else◌, refl, sym, ap, subst, arith, false≢true, none-some, same_Some}
use Rattle.rasta_core_recovery.proofs.Words.Links.{wire, is_asking, is_client, is_open, created, opens, spellings, Identity, Role, Key, Pdu, Body, ConnectionRequest, ConnectionResponse, Data, DisconnectionRequest, Heartbeat, RetransmissionRequest, RetransmissionResponse, RetransmittedData, without_oldest, Each, Call, Closes, EndState, Opens, Outcome, Receives, Sends, Sent, Ticks, end_after, end_later, end_restarted, handed_out, newer, outcome, reading_of, Calls, Elsewhere, Event, Loses, May, MayCall, Passes as TimePasses, Restarts, happened, AreNames, Names, Ends, called, later, lost, restarted, IsOpening, EndFlow, IsOf, items_of, PlaysEarly, asks, gone, Timely, IsInside, Plays, joined, left, Carries, IsClosing, IsRequest, IsSent, IsUnanswered, AreTogether, IsAlone, IsSpelledIn, Ordered, alone, together, unbegun}
use Rattle.rasta_core_recovery.proofs.Words.Recovery.{AreIn, Confirms, IsNumbered, reached_by, AwaitsAnswers, IsSaidByClient, ServerConfirming, ServerIsConfirmed, exchanged, LawsBelow}
use Rattle.rasta_core.specs.EndFlow.{later as waiting_from}
use Rattle.rasta_core.specs.LinkAndFlow.{asking}
use Rattle.rasta_core_recovery.proofs.Lemmas.Windows.Confirmed.{Both, Moves, Sides, client_inside, client_joined, client_keeps, client_level, client_moves, exchange, never_asks, server_joined, server_keeps, server_level, server_says, server_speaks, sides_of, within, word_closes}
use Rattle.rasta_core_recovery.proofs.Lemmas.Windows.ConfirmingEvents.{Alike, CameBy, Spells, among, as_many_wait, asks_by, both_new, both_of, both_old, client_both_new, client_both_old, client_given_is, client_in_flow, client_is, client_new, client_sent, client_taken_is, client_was_in, connection_then, delivered_is, does, does_by, each_without, enters_by, enters_none, few_alike, found, given_is, in_flow, later_alike, numbered_alike, sent_then, server_new, server_ordered, server_timely, settled_so, spell, stays_outside, taken_is, then_is}
use Rattle.rasta_core_recovery.proofs.Lemmas.Rounds.Facts.{is_newest, each_map}
use Rattle.rasta_core_recovery.proofs.Lemmas.Rounds.Lists.{each_append}
use Rattle.rasta_core_recovery.proofs.Lemmas.Windows.StaysIn.{Asks, Does, IsFrom, IsSettledAt, Passes, Speaks, joins, still}
use Rattle.rasta_core_recovery.proofs.Lemmas.Rounds.Blocks.{as_many_both}

-- what waits of a server was given
pub server_waits : (names : Names) (ends : Ends) → AreTogether names ends → is_open ends.server.link.phase ≡ true → length ends.server.link.waiting ≤ length ends.server.given
server_waits names ends t opened =
    let last = t.order.back.waits.last
    in let many = ap length last.1 ∙ as_many_both last.0 (items_of t.server.waiting)
    in let waits = as_many_wait t.server.waiting
    in let w = ap length (keeps t.server_plays)
    in let g = ap length t.server_given
    in omega (arith, many, waits, w, g)
  where
    keeps : Plays ends.server.link t.server t.client → ends.server.link.waiting ≡ t.server.waiting
    keeps (joined has) = has.inside.keeps.waiting
    keeps (asking on) = on.inside.keeps.waiting
    keeps (left shut kept) = absurd (false≢true (sym shut ∙ opened))

-- ---- a client that has come to the response alone

request_first : (giver : EndFlow) (place : ℕ) (body : Body) → IsRequest body → Carries giver place body → place ≡ 0
request_first giver place (ConnectionRequest o) is carries = carries.0.0
request_first giver place (ConnectionResponse o) is carries = absurd is
request_first giver place RetransmissionRequest is carries = absurd is
request_first giver place RetransmissionResponse is carries = absurd is
request_first giver place (DisconnectionRequest detail why) is carries = absurd is
request_first giver place Heartbeat is carries = absurd is
request_first giver place (Data items) is carries = absurd is
request_first giver place (RetransmittedData items) is carries = absurd is

module _ (names : Names) (ends : Ends) (both : Both names ends) where
  asking_reached : is_asking ends.client.link ≡ true → both.together.client.reached ≡ 1
  asking_reached e = choose both.together.client_plays
    where
      choose : Plays ends.client.link both.together.client both.together.server → both.together.client.reached ≡ 1
      choose (joined has) = absurd (false≢true (sym has.joined ∙ e))
      choose (asking on) = on.reached
      choose (left shut kept) = absurd (false≢true (sym shut ∙ both.client_in))

  -- all that it sent but its request confirms the response
  module _ (spare : ℕ) (begins : both.together.client.reached ≡ 1) (awaits : AwaitsAnswers spare ends) where
    module _ (pdu : Pdu) (closes : IsClosing pdu.body → ⊥) (of : IsOf pdu both.together.client.flow) where
      own_is : IsInside ends.server.link both.together.server
      own_is = (server_joined names ends both).inside

      sent_as : IsSent both.together.client both.together.server.first of.0 pdu
      sent_as = both.together.order.there.each of.0 pdu of.1

      by_confirms : reached_by ends.server.link ≤ of.0
          → (pdu.confirmed_sequence_number ≡ wire both.together.server.first (both.together.client.expecting of.0 - 1)) ⊎ IsUnanswered both.together.client.flow of.0 pdu.body
          → Confirms spare (exchanged ends) of.0 pdu
      by_confirms come (inl e) = record {
        expecting = 1;
        some = omega arith;
        most = let r = begins in let m = both.together.order.back.counts.most in let c = own_is.counted in omega (arith, r, m, c);
        confirmed = e ∙ ap (λ (first : ℕ). wire first (both.together.client.expecting of.0 - 1)) (sym own_is.own_first)
            ∙ ap (wire ends.server.link.own_first) first_expected;
        had = length ends.client.taken;
        few = omega arith;
        waits = subst (λ (n : ℕ). length ends.client.taken + waiting_from n ends.server.link.waiting ≤ length ends.server.given) begins (client_level names ends both);
        answers = let w = awaits in omega (arith, w);
      }
        where
          first_expected : both.together.client.expecting of.0 - 1 ≡ 0
          first_expected = let r = begins in let s = sent_as.some_expected in let m = sent_as.expected in omega (arith, r, s, m)
      by_confirms come (inr (inl request)) = absurd (over (request_first both.together.client of.0 pdu.body request sent_as.carries))
        where
          over : of.0 ≡ 0 → ⊥
          over zero_is =
              let some = both.together.order.there.counts.some
              in let r = ap (λ (b : Bool). if b then 1 else ends.server.link.expected) (server_joined names ends both).joined ∙ (server_joined names ends both).expected
              in omega (arith, zero_is, some, r, come)
      by_confirms come (inr (inr closing)) = absurd (closes closing.1)

      numbered_so : IsNumbered spare (exchanged ends) pdu
      numbered_so = record {
        place = of.0;
        number = sent_as.number ∙ ap (λ (first : ℕ). wire first of.0) (sym (client_inside names ends both).own_first);
        sent = let lt = within of.0 pdu both.together.client.flow of.1 in let c = (client_inside names ends both).counted in omega (arith, lt, c);
        confirms = λ come. by_confirms come sent_as.confirms;
      }

    all_said : Each (IsSaidByClient names spare ends) ends.sent
    all_said = each_map (IsSpelledIn names Role.Client both.together.connection both.together.client.flow) (IsSaidByClient names spare ends)
        (λ d spelled sender same pdu read closes. numbered_so pdu closes (spelled sender (same_Some d.connection both.together.connection (sym same ∙ both.together.of_client)) pdu read))
        ends.sent both.together.client_flow

-- ---- a server enters a connection

module _ (laws : LawsBelow) (names : Names) (are : AreNames names) (spare : ℕ) (ends : Ends) (timely : Timely names ends) (ordered : Ordered names ends)
    (call : Call) (may : MayCall names Role.Server call ends) (shut : is_open ends.server.link.phase ≡ false) (opened : is_open (server_new laws names are spare ends timely ordered call may).server.link.phase ≡ true) where
  abbrev entered_ends : Ends
  entered_ends = server_new laws names are spare ends timely ordered call may

  entered_timely : Timely names entered_ends
  entered_timely = server_timely laws names are spare ends timely ordered call may

  newest_is : (entered_ends.server.connection ≡ Some entered_timely.newest) × (ends.client.connection ≡ Some entered_timely.newest)
  newest_is = is_newest names entered_ends entered_timely opened

  abbrev behind : Call → EndState
  behind c = end_after (outcome c ends.moment ends.server) ends.moment ends.server

  opened_by : (c : Call) → call ≡ c → is_open (behind c).link.phase ≡ true
  opened_by c e = subst (λ (x : Call). is_open (behind x).link.phase ≡ true) e opened

  newest_by : (c : Call) → call ≡ c → (behind c).connection ≡ Some entered_timely.newest
  newest_by c e = subst (λ (x : Call). (behind x).connection ≡ Some entered_timely.newest) e newest_is.0

  over : (n : ℕ) → n < n → ⊥
  over n lt = omega (arith, lt)

  opens_none : (b : Bool) → opens (reading_of ends.server.clock) ends.server.link ≡ b → call ≡ Opens → ⊥
  unfolding outcome end_after
  opens_none false e c = stays_outside laws Opens ends.moment ends.server shut (ap (λ (b : Bool). if b then Some ends.moment else None) e) (opened_by Opens c)
  opens_none true e c =
      let at : Some ends.moment ≡ Some entered_timely.newest = sym (ap (λ (b : Bool). newer (if b then Some ends.moment else None) ends.server.connection) e) ∙ newest_by Opens c
      in over ends.moment (laws.one_connection_counted names ends Role.Client ends.moment timely (newest_is.1 ∙ sym at))

  -- it wasn't in that before
  module _ (was : ends.server.connection ≡ Some entered_timely.newest) where
    not_before : (c : Call) → call ≡ c → ⊥
    unfolding outcome
    not_before Ticks c = stays_outside laws Ticks ends.moment ends.server shut refl (opened_by Ticks c)
    not_before Opens c = opens_none (opens (reading_of ends.server.clock) ends.server.link) refl c
    not_before (Closes why) c = stays_outside laws (Closes why) ends.moment ends.server shut refl (opened_by (Closes why) c)
    not_before (Sends item) c = stays_outside laws (Sends item) ends.moment ends.server shut refl (opened_by (Sends item) c)
    not_before (Receives bytes connection) c = over entered_timely.newest (subst (λ (n : ℕ). entered_timely.newest < n) same (new_one.is_new entered_timely.newest was))
      where
        may_so : MayCall names Role.Server (Receives bytes connection) ends
        may_so = subst (λ (x : Call). MayCall names Role.Server x ends) c may

        datagram : Sent
        datagram = (delivered_is laws names are spare ends timely ordered bytes connection may_so (opened_by (Receives bytes connection) c) shut).0

        new_one : IsOpening names Role.Server ends datagram
        new_one = enters_by laws names are spare ends timely ordered bytes connection may_so (opened_by (Receives bytes connection) c) shut

        same : datagram.connection ≡ entered_timely.newest
        same = same_Some datagram.connection entered_timely.newest
            (sym (connection_then laws names are spare ends timely ordered bytes connection may_so (opened_by (Receives bytes connection) c) shut) ∙ newest_by (Receives bytes connection) c)

  -- so its client has begun that alone
  pub was_alone : IsAlone names ends
  was_alone = choose ordered
    where
      choose : Ordered names ends → IsAlone names ends
      choose (unbegun none) = absurd (none-some entered_timely.newest (sym none ∙ newest_is.1))
      choose (alone a) = a
      choose (together t) = absurd (not_before (t.of_server ∙ sym t.of_client ∙ newest_is.1) call refl)

-- ---- a call

-- datagrams of the server
of_server : (names : Names) (spare : ℕ) (ends : Ends) (time : ℕ) (connection : Option ℕ) (datagrams : List (List ℕ))
    → Each (IsSaidByClient names spare ends) (handed_out time Role.Server connection datagrams)
of_server names spare ends time connection [] = tt
of_server names spare ends time connection (bytes ∷ others) = (λ sender same pdu read closes. absurd (cc sender), of_server names spare ends time connection others)

module _ (laws : LawsBelow) (names : Names) (are : AreNames names) (spare : ℕ) (ends : Ends) (timely : Timely names ends) (ordered : Ordered names ends) (before : ServerConfirming names spare ends) where
  -- of the server
  module _ (call : Call) (may : MayCall names Role.Server call ends) (in_new : AreIn (server_new laws names are spare ends timely ordered call may)) where
    abbrev next : Ends
    next = server_new laws names are spare ends timely ordered call may

    abbrev made : Outcome
    made = outcome call ends.moment ends.server

    abbrev server_then : EndState
    server_then = then_is laws names are spare ends timely ordered call may

    abbrev datagrams_then : List Sent
    datagrams_then = sent_then laws names are spare ends timely ordered call may

    -- it goes on in its connection
    module _ (was_in : is_open ends.server.link.phase ≡ true) where
      conf : ServerIsConfirmed names spare ends
      conf = before (record { client = in_new.client; server = was_in })

      abbrev sides_before : Sides (exchanged ends)
      sides_before = exchange ends (sides_of names ends (both_old laws names are spare ends timely ordered call may in_new was_in))

      abbrev sides_behind : Sides (exchanged next)
      sides_behind = exchange next (sides_of names next (both_new laws names are spare ends timely ordered call may in_new was_in))

      numbered : (c : Call) → c ≡ call → (p : Pdu) → CameBy ends.server.link c p → Passes ends.server.link p → IsNumbered spare (exchanged ends) p
      numbered Ticks e p came pass = absurd came
      numbered Opens e p came pass = absurd came
      numbered (Closes why) e p came pass = absurd came
      numbered (Sends item) e p came pass = absurd came
      numbered (Receives bytes connection) e p came pass =
          let f = found laws names are Role.Server ends timely bytes connection (subst (λ (c : Call). MayCall names Role.Server c ends) (sym e) may) p came pass
          in let own = laws.own_connection_inside names ends Role.Server bytes connection f.datagram timely f.delivered was_in
          in among (IsSaidByClient names spare ends) f.datagram ends.sent f.delivered.was_sent conf.said f.sender
          (sym (laws.one_connection_inside names ends timely in_new.client was_in) ∙ own) p f.read (word_closes p.body pass.word)

      moves : Moves spare (exchanged ends) server_then
      moves = client_moves spare (exchanged ends) server_then datagrams_then _ sides_before sides_behind made.given made.taken
          (given_is laws names are spare ends timely ordered call may in_new was_in) (taken_is laws names are spare ends timely ordered call may in_new was_in) conf.few
          (CameBy ends.server.link call) made.pdus (never_asks ends.server.link (ap (λ (i : Identity). is_client i.role) timely.server.identity))
          (does laws names are spare ends timely ordered call may in_new was_in) (numbered call refl)
          (in_flow laws names are spare ends timely ordered call may in_new was_in call refl)

      goes : ServerIsConfirmed names spare next
      goes = record {
        few = moves.few;
        said = each_append (IsSaidByClient names spare next) ends.sent _ (each_map (IsSaidByClient names spare ends) (IsSaidByClient names spare next)
            (λ d said sender same pdu read closes. client_keeps spare (exchanged ends) server_then datagrams_then _ moves pdu (said sender same pdu read closes)) ends.sent conf.said)
            (of_server names spare next ends.time next.server.connection (spellings ends.server.link.identity.key made.pdus));
      }

    -- it enters one
    module _ (shut : is_open ends.server.link.phase ≡ false) (awaits : AwaitsAnswers spare next) where
      both_then : Both names next
      both_then = both_of names next (server_timely laws names are spare ends timely ordered call may) (server_ordered laws names are spare ends timely ordered call may) in_new

      alone_was : IsAlone names ends
      alone_was = was_alone laws names are spare ends timely ordered call may shut in_new.server

      client_asks : is_asking ends.client.link ≡ true
      client_asks = choose alone_was.plays
        where
          choose : PlaysEarly ends.client.link alone_was.client → is_asking ends.client.link ≡ true
          choose (asks inside on) = on
          choose (gone closed kept) = absurd (false≢true (sym closed ∙ in_new.client))

      enters : ServerIsConfirmed names spare next
      enters = record {
        few =
            let level = server_level names next both_then
            in let none = ap length alone_was.given
            in let w = server_waits names next both_then.together in_new.server
            in omega (arith, level, none, w);
        said = all_said names next both_then spare (asking_reached names next both_then client_asks) awaits;
      }

    of_server_call : AwaitsAnswers spare next → ServerIsConfirmed names spare next
    of_server_call awaits = choose (is_open ends.server.link.phase) refl
      where
        choose : (b : Bool) → is_open ends.server.link.phase ≡ b → ServerIsConfirmed names spare next
        choose true e = goes e
        choose false e = enters e awaits

  -- of the client
  module _ (call : Call) (may : MayCall names Role.Client call ends) (in_new : AreIn (client_new laws names are spare ends timely ordered call may))
      (awaits : AwaitsAnswers spare (client_new laws names are spare ends timely ordered call may)) where
    abbrev after : Ends
    after = client_new laws names are spare ends timely ordered call may

    abbrev client_then : EndState
    client_then = client_is laws names are spare ends timely ordered call may

    abbrev datagrams : List Sent
    datagrams = client_sent laws names are spare ends timely ordered call may

    abbrev done : Outcome
    done = outcome call ends.moment ends.client

    was_in : is_open ends.client.link.phase ≡ true
    was_in = client_was_in laws names are spare ends timely ordered call may in_new

    none : done.enters ≡ None
    none = enters_none laws names are spare ends timely ordered call may in_new

    settled_at : IsSettledAt (reading_of ends.client.clock) ends.client.link
    settled_at = settled_so laws names ends Role.Client timely was_in

    abbrev both_was : Both names ends
    both_was = client_both_old laws names are spare ends timely ordered call may in_new

    abbrev both_is : Both names after
    both_is = client_both_new laws names are spare ends timely ordered call may in_new

    confirmed : ServerIsConfirmed names spare ends
    confirmed = before (record { client = was_in; server = in_new.server })

    -- it has come to the response alone
    comes : is_asking ends.client.link ≡ true → both_is.together.client.reached ≡ 1
    unfolding end_after
    comes e = choose (asks_by call ends.moment ends.client was_in settled_at e none in_new.client)
      where
        choose : Asks ends.client.link done.link done.given done.taken → both_is.together.client.reached ≡ 1
        choose (still on own sent w a h) = asking_reached names after both_is on
        choose (joins on x own sent w a h) = sym (client_joined names after both_is on).expected ∙ x

    -- it goes on
    module _ (is_joined : is_asking ends.client.link ≡ false) where
      connection_same : client_then.connection ≡ ends.client.connection
      unfolding end_after
      connection_same = ap (λ (e : Option ℕ). newer e ends.client.connection) none

      does_so : Does (CameBy ends.client.link call) ends.client.link client_then.link done.pdus done.given done.taken
      unfolding end_after
      does_so = does_by call ends.moment ends.client was_in settled_at is_joined none in_new.client

      gave : client_then.given ≡ ends.client.given ++ done.given
      gave = client_given_is laws names are spare ends timely ordered call may in_new

      took : client_then.taken ≡ ends.client.taken ++ done.taken
      took = client_taken_is laws names are spare ends timely ordered call may in_new

      abbrev sides_was : Sides (exchanged ends)
      sides_was = exchange ends (sides_of names ends both_was)

      abbrev sides_is : Sides (exchanged after)
      sides_is = exchange after (sides_of names after both_is)

      in_servers : (p : Pdu) → CameBy ends.client.link call p → Passes ends.client.link p → IsOf p both_was.together.server.flow
      in_servers = client_in_flow laws names are spare ends timely ordered call may in_new call refl

      speaks : Speaks ends.client.link client_then.link done.pdus
      speaks = server_speaks spare (exchanged ends) client_then datagrams _ sides_was sides_is (CameBy ends.client.link call) done.pdus done.given done.taken gave took does_so in_servers awaits

      keeps : (d : Sent) → IsSaidByClient names spare ends d → IsSaidByClient names spare after d
      keeps d said sender same pdu read closes = server_keeps spare (exchanged ends) client_then datagrams _ sides_was sides_is (CameBy ends.client.link call) done.pdus done.given done.taken
          gave took does_so in_servers awaits pdu (said sender (sym connection_same ∙ same) pdu read closes)

      says : (m : ℕ) (pdu : Pdu) → m < client_then.link.sent → IsFrom client_then.link m pdu → IsNumbered spare (exchanged after) pdu
      says = server_says spare (exchanged ends) client_then datagrams _ sides_was sides_is (CameBy ends.client.link call) done.pdus done.given done.taken gave took does_so in_servers awaits

      abbrev New : List (List ℕ) → Type 0
      New spelled = Each (IsSaidByClient names spare after) (handed_out ends.time Role.Client client_then.connection spelled)

      said_then : Each (IsSaidByClient names spare after) after.sent
      said_then = each_append (IsSaidByClient names spare after) ends.sent _ (each_map (IsSaidByClient names spare ends) (IsSaidByClient names spare after) keeps ends.sent confirmed.said)
          (subst (λ (key : Key). New (spellings key done.pdus)) (sym (ap (λ (i : Identity). i.key) timely.client.identity))
          (each_map (Spells names (IsNumbered spare (exchanged after))) (IsSaidByClient names spare after) (λ d spells sender same pdu read closes. spells pdu read) _
          (spell laws names (IsNumbered spare (exchanged after)) Role.Client ends.time client_then.connection client_then.link ends.client.link.sent client_then.link.sent done.pdus
          (laws.calls_hand_out_pdus names ends Role.Client call timely may) speaks.pdus says)))

    of_client_call : ServerIsConfirmed names spare after
    of_client_call = choose (is_asking ends.client.link) refl
      where
        choose : (b : Bool) → is_asking ends.client.link ≡ b → ServerIsConfirmed names spare after
        choose true e = record { few = confirmed.few; said = all_said names after both_is spare (comes e) awaits }
        choose false e = record { few = confirmed.few; said = said_then e }

-- ---- other events

same_end : (one : EndState) → Alike one one
same_end one = record { own_first = refl; sent = refl; reached = refl; waiting = refl; given = refl; taken = refl; connection = refl }

-- each end is as it was, as far as the other's PDUs go
alike_said : (names : Names) (spare : ℕ) (old new : Ends) → Alike old.client new.client → Alike old.server new.server → (list : List Sent)
    → Each (IsSaidByClient names spare old) list → Each (IsSaidByClient names spare new) list
alike_said names spare old new c s = each_map (IsSaidByClient names spare old) (IsSaidByClient names spare new)
    (λ d said sender same pdu read closes. numbered_alike spare (exchanged old) (exchanged new) s c pdu (said sender (sym c.connection ∙ same) pdu read closes))

passes : (names : Names) (spare elapsed of_clients of_servers : ℕ) (ends : Ends) → ServerConfirming names spare ends → ServerConfirming names spare (later elapsed of_clients of_servers ends)
unfolding later
passes names spare elapsed of_clients of_servers ends before in_new = record {
  few = few_alike spare (exchanged ends) (exchanged (later elapsed of_clients of_servers ends)) s.0 conf.few;
  said = alike_said names spare ends (later elapsed of_clients of_servers ends) c.0 s.0 ends.sent conf.said;
}
  where
    c : Alike ends.client (end_later of_clients ends.moment ends.client) × (is_open ends.client.link.phase ≡ true)
    c = later_alike of_clients ends.moment ends.client in_new.client

    s : Alike ends.server (end_later of_servers ends.moment ends.server) × (is_open ends.server.link.phase ≡ true)
    s = later_alike of_servers ends.moment ends.server in_new.server

    conf : ServerIsConfirmed names spare ends
    conf = before (record { client = c.1; server = s.1 })

losses : (names : Names) (spare : ℕ) (bytes : List ℕ) (ends : Ends) → ServerConfirming names spare ends → ServerConfirming names spare (lost bytes ends)
unfolding lost
losses names spare bytes ends before in_new = record {
  few = conf.few;
  said = each_without (IsSaidByClient names spare (record ends { sent = without_oldest bytes ends.sent })) (λ d is_lost said. said) bytes ends.sent
      (alike_said names spare ends (record ends { sent = without_oldest bytes ends.sent }) (same_end ends.client) (same_end ends.server) ends.sent conf.said);
}
  where
    conf : ServerIsConfirmed names spare ends
    conf = before (record { client = in_new.client; server = in_new.server })

elsewhere : (names : Names) (spare count : ℕ) (ends : Ends) → ServerConfirming names spare ends → ServerConfirming names spare (record ends { moment = ends.moment + count })
elsewhere names spare count ends before in_new = record {
  few = conf.few;
  said = alike_said names spare ends (record ends { moment = ends.moment + count }) (same_end ends.client) (same_end ends.server) ends.sent conf.said;
}
  where
    conf : ServerIsConfirmed names spare ends
    conf = before (record { client = in_new.client; server = in_new.server })

anew : (names : Names) (spare : ℕ) (who : Role) (clock first : ℕ) (ends : Ends) → ServerConfirming names spare (restarted who clock first ends)
unfolding restarted end_restarted created
anew names spare Role.Client clock first ends in_new = absurd (false≢true in_new.client)
anew names spare Role.Server clock first ends in_new = absurd (false≢true in_new.server)

pub event_confirms_servers : (laws : LawsBelow) (names : Names) (event : Event) (ends : Ends) (spare : ℕ) → AreNames names → Timely names ends → Ordered names ends → May names event ends
    → ServerConfirming names spare ends → (AreIn (happened event ends) → AwaitsAnswers spare (happened event ends)) → ServerConfirming names spare (happened event ends)
unfolding called
event_confirms_servers laws names (Calls Role.Server call) ends spare are timely ordered may before awaits in_new =
    of_server_call laws names are spare ends timely ordered before call may in_new (awaits in_new)
event_confirms_servers laws names (Calls Role.Client call) ends spare are timely ordered may before awaits in_new =
    of_client_call laws names are spare ends timely ordered before call may in_new (awaits in_new)
event_confirms_servers laws names (TimePasses elapsed of_clients of_servers) ends spare are timely ordered may before awaits in_new =
    passes names spare elapsed of_clients of_servers ends before in_new
event_confirms_servers laws names (Loses bytes) ends spare are timely ordered may before awaits in_new = losses names spare bytes ends before in_new
event_confirms_servers laws names (Restarts who clock first) ends spare are timely ordered may before awaits in_new = anew names spare who clock first ends in_new
event_confirms_servers laws names (Elsewhere count) ends spare are timely ordered may before awaits in_new = elsewhere names spare count ends before in_new
