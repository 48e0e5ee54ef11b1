-- Nothing that two ends send falls, event by event.
use Rattle.rasta_core_recovery.proofs.Words.Basics.{◌≡◌, ℕ, ◌∙◌, ◌+◌, ◌-◌, ◌*◌, ◌^◌, ◌≤◌, ◌<◌, Bool, true, false, ◌==◌, List, [], ◌++◌, length, Option, Some, None, refl, sym, ap, subst, arith, false≢true}
use Rattle.rasta_core_recovery.proofs.Words.Links.{wire, LinkState, is_asking, is_client, is_open, settled, created, spellings, Identity, Role, Key, Pdu, reading, Call, Closes, EndState, Opens, Receives, Sends, Sent, Ticks, end_after, end_later, end_restarted, handed_out, newer, outcome, reading_of, Calls, Elsewhere, Event, IsWithinDrift, Loses, May, MayCall, Passes as TimePasses, Restarts, happened, AreNames, Names, partner_of, Ends, called, end_of, later, lost, restarted, IsIn, InFlight, Timely, HasJoined, IsInside, sent, Rises as TagsRise, Ordered, own_stamp, standing, times_of, WasReadThen, Start, started}
use Rattle.rasta_core_recovery.proofs.Words.Recovery.{AreIn, IsMarked, IsOf, IsPaired, IsToldAt, Keeps, Mark, Marks, NothingFalls, NothingFallsSince, Rises, RisingSince, Speaker, Stand, confirmed_by, nothing_sent, stands, the_client_since, the_server_since, unmarked, LawsBelow}
use Rattle.rasta_core.specs.TimedEnds.{IsInside as StandsInside}
use Rattle.rasta_core_recovery.proofs.Lemmas.Windows.ConfirmingEvents.{CameBy, Found, among, asks_by, both_of, client_enters_none, found_by, opens_not, settled_open, settled_so, stays_outside}
use Rattle.rasta_core_recovery.proofs.Lemmas.Windows.Confirmed.{Both, client_inside, client_joined, never_asks, server_joined, with_client, with_server}
use Rattle.rasta_core_recovery.proofs.Lemmas.Rounds.Facts.{standing_in}
use Rattle.rasta_core_recovery.proofs.Lemmas.Falling.FallsCalls.{AskMoved, Moved, asks_on, ask_moves_by, hears_one, joins_by, moves_by, speaks}
use Rattle.rasta_core_recovery.proofs.Lemmas.Falling.FallsGoes.{Brought, Gone, confirms_few, heard_of, joins, moved, partner_on, silent_on}
use Rattle.rasta_core_recovery.proofs.Lemmas.Asking.Asks.{Met}
use Rattle.rasta_core_recovery.proofs.Lemmas.Falling.FallsEnters.{enters}
use Rattle.rasta_core_recovery.proofs.Lemmas.Falling.FallsLists.{rises_high, rises_turned, rises_without}
use Rattle.rasta_core_recovery.proofs.Lemmas.Windows.StaysIn.{Asks, IsSettledAt, joins as joins_then, still}

-- ---- what an end knows of its own

pub client_past : (names : Names) (ends : Ends) → Timely names ends → is_open ends.client.link.phase ≡ true → ends.client.link.own_stamp ≤ reading_of ends.client.clock
client_past names ends timely is_in =
    let own : own_stamp (standing ends.client.link) ≡ ends.client.link.own_stamp = ap own_stamp (standing_in ends.client.link is_in)
    in let reached = timely.ends_timed.client.reached (subst StandsInside (sym (standing_in ends.client.link is_in)) tt)
    in omega (arith, own, reached)

pub server_past : (names : Names) (ends : Ends) → Timely names ends → is_open ends.server.link.phase ≡ true → ends.server.link.own_stamp ≤ reading_of ends.server.clock
server_past names ends timely is_in =
    let own : own_stamp (standing ends.server.link) ≡ ends.server.link.own_stamp = ap own_stamp (standing_in ends.server.link is_in)
    in let reached = timely.ends_timed.server.reached (subst StandsInside (sym (standing_in ends.server.link is_in)) tt)
    in omega (arith, own, reached)

abbrev speaker_of : Role → Option ℕ → ℕ → ℕ → ℕ → ℕ → ℕ → ℕ → ℕ → Mark → Mark → Speaker
speaker_of who connection first partner_first time clock partner_clock expected kept mark partner_mark = record {
  who = who;
  connection = connection;
  first = first;
  partner_first = partner_first;
  time = time;
  clock = clock;
  partner_clock = partner_clock;
  expected = expected;
  kept = kept;
  mark = mark;
  partner_mark = partner_mark;
}

same_speaker : (who : Role) {c d : Option ℕ} {f g p q : ℕ} (time clock partner_clock expected kept : ℕ) (mark partner_mark : Mark) → c ≡ d → f ≡ g → p ≡ q
    → speaker_of who c f p time clock partner_clock expected kept mark partner_mark ≡ speaker_of who d g q time clock partner_clock expected kept mark partner_mark
same_speaker who time clock partner_clock expected kept mark partner_mark a b e = cc

stays_first : (Came : Pdu → Type 0) (kept : ℕ) (l k : LinkState) (ps : List Pdu) → Moved Came kept l k ps → (k.own_first ≡ l.own_first) × (k.partner_first ≡ l.partner_first)
stays_first Came kept l k ps (speaks stayed e s o chain) = (stayed.own_first, stayed.partner_first)
stays_first Came kept l k ps (hears_one p came receiver sender passes t) = (t.stays.own_first, t.stays.partner_first)

pub not_client : Role.Client ≡ Role.Server → ⊥
not_client e = cc e

pub not_server : Role.Server ≡ Role.Client → ⊥
not_server e = cc e

-- what the client keeps of its server is past
pub kept_before : (names : Names) (marks : Marks) (ends : Ends) → Timely names ends → (rising : RisingSince names marks ends) → rising.client_kept ≤ ends.server.link.clock
kept_before names marks ends timely rising = choose (is_asking ends.client.link) refl
  where
    choose : (b : Bool) → is_asking ends.client.link ≡ b → rising.client_kept ≤ ends.server.link.clock
    choose true e = let z = rising.none_yet e in omega (arith, z)
    choose false e = let k = (rising.client_keeps e).before in let t = timely.server.clock in omega (arith, k, t)

module _ (laws : LawsBelow) (names : Names) (are : AreNames names) (ends : Ends) (timely : Timely names ends) (ordered : Ordered names ends) where
  -- what comes to an end inside
  brought_by : (who : Role) (call : Call) → MayCall names who call ends → is_open (end_of who ends).link.phase ≡ true → (other : Speaker) → other.who ≡ partner_of who
      → other.connection ≡ (end_of who ends).connection → other.time ≡ ends.time
      → (p : Pdu) → CameBy (end_of who ends).link call p → (p.receiver == (end_of who ends).link.identity.own) ≡ true → (p.sender == (end_of who ends).link.identity.partner) ≡ true
      → Brought names other ends.sent p
  brought_by who Ticks may is_in other partner one time p came receiver sender = absurd came
  brought_by who Opens may is_in other partner one time p came receiver sender = absurd came
  brought_by who (Closes why) may is_in other partner one time p came receiver sender = absurd came
  brought_by who (Sends item) may is_in other partner one time p came receiver sender = absurd came
  brought_by who (Receives bytes connection) may is_in other partner one time p came receiver sender = record {
    datagram = f.datagram;
    among = f.delivered.was_sent;
    sender = f.sender ∙ sym partner;
    connection = one ∙ laws.own_connection_inside names ends who bytes connection f.datagram timely f.delivered (in_it who is_in);
    read = f.read;
    sent_before = let b = flies.known.sent_before in omega (arith, b, time);
    in_time = let t = f.delivered.in_time in omega (arith, t, time);
  }
    where
      in_it : (w : Role) → is_open (end_of w ends).link.phase ≡ true → IsIn w ends
      in_it Role.Client e = e
      in_it Role.Server e = e

      f : Found names who ends bytes connection p
      f = found_by laws names are who ends timely bytes connection may p came receiver sender

      flies : InFlight names (times_of ends timely.of_client timely.of_server timely.newest) f.datagram
      flies = among (InFlight names (times_of ends timely.of_client timely.of_server timely.newest)) f.datagram ends.sent f.delivered.was_sent timely.datagrams

  -- ---- the server is called

  module _ (call : Call) (may : MayCall names Role.Server call ends) where
    abbrev server_is : EndState
    server_is = end_after (outcome call ends.moment ends.server) ends.moment ends.server

    abbrev server_new : Ends
    server_new = with_server (end_after (outcome call ends.moment ends.server) ends.moment ends.server)
        (ends.sent ++ handed_out ends.time Role.Server (end_after (outcome call ends.moment ends.server) ends.moment ends.server).connection
        (spellings ends.server.link.identity.key (outcome call ends.moment ends.server).pdus))
        (ends.moment + length (outcome call ends.moment ends.server).pdus) ends

    module _ (marks : Marks) (in_new : AreIn server_new) (was_in : is_open ends.server.link.phase ≡ true) (before : NothingFallsSince names marks ends) where
      rising : RisingSince names marks ends
      rising = before (record { client = in_new.client; server = was_in })

      both : Both names ends
      both = both_of names ends timely ordered (record { client = in_new.client; server = was_in })

      none : (outcome call ends.moment ends.server).enters ≡ None
      none = choose (outcome call ends.moment ends.server).enters refl
        where
          choose : (found : Option ℕ) → (outcome call ends.moment ends.server).enters ≡ found → found ≡ None
          choose None e = refl
          choose (Some c) e = absurd (false≢true (sym (laws.outside_until_it_enters_server call ends.moment c ends.server (ap (λ (i : Identity). i.role) timely.server.identity) e) ∙ was_in))

      connection_is : server_is.connection ≡ ends.server.connection
      unfolding end_after
      connection_is = ap (λ (e : Option ℕ). newer e ends.server.connection) none

      l : LinkState
      l = ends.server.link

      j : HasJoined ends.server.link both.together.server both.together.client
      j = server_joined names ends both

      c : IsInside ends.client.link both.together.client
      c = client_inside names ends both

      server_asks_not : is_asking ends.server.link ≡ false
      server_asks_not = never_asks ends.server.link (ap (λ (i : Identity). is_client i.role) timely.server.identity)

      settled_at : IsSettledAt (reading_of ends.server.clock) ends.server.link
      settled_at = settled_so laws names ends Role.Server timely was_in

      some : 1 ≤ ends.server.link.expected
      some = let e = j.expected in let s = both.together.order.there.counts.some in omega (arith, e, s)

      most : ends.server.link.expected ≤ ends.client.link.sent
      most = let e = j.expected in let s = both.together.order.there.counts.most in let n = c.counted in omega (arith, e, s, n)

      fits : ends.client.link.sent < 2 ^ 31
      fits = let s = both.together.order.there.counts.fits in let n = c.counted in omega (arith, s, n)

      own_met : 2 ≤ ends.client.link.sent → ends.client.link.partner_first ≡ ends.server.link.own_first
      own_met two = choose (is_asking ends.client.link) refl
        where
          choose : (b : Bool) → is_asking ends.client.link ≡ b → ends.client.link.partner_first ≡ ends.server.link.own_first
          choose true e = absurd (let n = c.counted in let o = c.alone e in omega (arith, two, n, o))
          choose false e = (client_joined names ends both e).partner_first ∙ sym j.inside.own_first

      confirmable : confirmed_by ends.client.link < ends.server.link.sent
      confirmable = confirms_few ends.client.link ends.server.link.sent
          (let n = j.inside.counted in let s = both.together.order.back.counts.some in let m = both.together.order.back.counts.most in omega (arith, n, s, m))
          (λ joined. let e = (client_joined names ends both joined).expected in let n = j.inside.counted in let m = both.together.order.back.counts.most in omega (arith, e, n, m))

      own_fits : ends.server.link.sent < 2 ^ 31
      own_fits = let f = both.together.order.back.counts.fits in let n = j.inside.counted in omega (arith, f, n)

      tags_rise : TagsRise 0 ends.server.link.sent ends.server.link.waiting
      tags_rise = subst (λ (n : ℕ). TagsRise 0 n ends.server.link.waiting) (sym j.inside.counted)
          (subst (TagsRise 0 (sent both.together.server)) (sym j.inside.keeps.waiting) both.together.order.back.waits.rises)

      what : Moved (CameBy ends.server.link call) rising.server_kept ends.server.link (outcome call ends.moment ends.server).link (outcome call ends.moment ends.server).pdus
      unfolding end_after
      what = moves_by call ends.moment ends.server was_in settled_at (server_past names ends timely was_in) server_asks_not rising.server_kept some (omega (arith, most, fits))
          rising.server_keeps.kept_is none in_new.server

      client_before : rising.client_kept ≤ ends.server.link.clock
      client_before = kept_before names marks ends timely rising

      gone : Gone names (the_server_since marks ends rising.client_kept) (the_client_since marks ends rising.server_kept) (outcome call ends.moment ends.server).link ends.client.link rising.client_kept
          (ends.sent ++ handed_out ends.time Role.Server server_is.connection (spellings names.key (outcome call ends.moment ends.server).pdus))
      gone = moved laws names (the_server_since marks ends rising.client_kept) (the_client_since marks ends rising.server_kept) ends.server.link (outcome call ends.moment ends.server).link ends.client.link
          rising.server_kept rising.client_kept ends.sent server_is.connection
          (outcome call ends.moment ends.server).pdus (laws.calls_hand_out_pdus names ends Role.Server call timely may) timely.server.clock refl refl refl not_client client_before
          refl refl refl rising.server_marked rising.of_server rising.of_client
          (CameBy ends.server.link call)
          (record {
            clock = refl;
            connected = was_in;
            joined = server_asks_not;
            young = let y = settled_at.young in let k = settled_at.clock in
                omega (arith, y, k);
            own = let y = server_past names ends timely was_in in let k = settled_at.clock in omega (arith, y, k);
          })
          rising.server_keeps refl refl refl (c.own_first ∙ sym j.partner_first) some most fits refl own_met confirmable own_fits tags_rise
          (brought_by Role.Server call may was_in (the_client_since marks ends rising.server_kept) refl one refl) what
        where
          one : ends.client.connection ≡ ends.server.connection
          one = sym (laws.one_connection_inside names ends timely in_new.client was_in)

      pub server_goes : RisingSince names marks server_new
      unfolding end_after
      server_goes = record {
        client_kept = rising.client_kept;
        server_kept = gone.kept;
        none_yet = rising.none_yet;
        client_keeps = rising.client_keeps;
        server_keeps = gone.keeps;
        of_client = subst (λ (key : Key). Rises (IsOf names (the_client_since marks server_new gone.kept)) nothing_sent
            (ends.sent ++ handed_out ends.time Role.Server server_is.connection (spellings key (outcome call ends.moment ends.server).pdus)) (stands ends.client.link rising.client_kept))
            (sym key_is) gone.other_rises;
        of_server = subst (λ (key : Key). Rises (IsOf names (the_server_since marks server_new rising.client_kept)) nothing_sent
            (ends.sent ++ handed_out ends.time Role.Server server_is.connection (spellings key (outcome call ends.moment ends.server).pdus))
            (stands (outcome call ends.moment ends.server).link gone.kept))
            (sym key_is) (subst (λ (w : Speaker). Rises (IsOf names w) nothing_sent
            (ends.sent ++ handed_out ends.time Role.Server server_is.connection (spellings names.key (outcome call ends.moment ends.server).pdus))
            (stands (outcome call ends.moment ends.server).link gone.kept))
            (same_speaker Role.Server ends.time ends.server.clock ends.client.clock ends.client.link.expected rising.client_kept marks.server marks.client
            (sym connection_is) (sym firsts.0) (sym firsts.1)) gone.own_rises);
        client_marked = rising.client_marked;
        server_marked = gone.marked;
      }
        where
          key_is : ends.server.link.identity.key ≡ names.key
          key_is = ap (λ (i : Identity). i.key) timely.server.identity

          firsts : ((outcome call ends.moment ends.server).link.own_first ≡ ends.server.link.own_first) × ((outcome call ends.moment ends.server).link.partner_first ≡ ends.server.link.partner_first)
          firsts = stays_first (CameBy ends.server.link call) rising.server_kept ends.server.link _ _ what

  -- ---- the client is called

  module _ (call : Call) (may : MayCall names Role.Client call ends) where
    abbrev client_is : EndState
    client_is = end_after (outcome call ends.moment ends.client) ends.moment ends.client

    abbrev client_new : Ends
    client_new = with_client (end_after (outcome call ends.moment ends.client) ends.moment ends.client)
        (ends.sent ++ handed_out ends.time Role.Client (end_after (outcome call ends.moment ends.client) ends.moment ends.client).connection
        (spellings ends.client.link.identity.key (outcome call ends.moment ends.client).pdus))
        (ends.moment + length (outcome call ends.moment ends.client).pdus) ends

    client_timely : Timely names client_new
    unfolding called
    client_timely = laws.every_event_keeps_time names (Calls Role.Client call) ends are timely may

    client_ordered : Ordered names client_new
    unfolding called
    client_ordered = laws.every_event_keeps_order_kept names (Calls Role.Client call) ends are timely ordered may

    module _ (marks : Marks) (in_new : AreIn client_new) (before : NothingFallsSince names marks ends) where
      one_then : ends.server.connection ≡ client_is.connection
      one_then = laws.one_connection_inside names client_new client_timely in_new.client in_new.server

      client_none : (outcome call ends.moment ends.client).enters ≡ None
      client_none = client_enters_none laws names are ends timely call may one_then

      client_was_in : is_open ends.client.link.phase ≡ true
      unfolding end_after
      client_was_in = choose (is_open ends.client.link.phase) refl
        where
          choose : (b : Bool) → is_open ends.client.link.phase ≡ b → b ≡ true
          choose true e = refl
          choose false e = absurd (false≢true (sym (laws.outside_until_it_enters_stays call ends.moment ends.client e client_none) ∙ in_new.client))

      client_rising : RisingSince names marks ends
      client_rising = before (record { client = client_was_in; server = in_new.server })

      client_both : Both names ends
      client_both = both_of names ends timely ordered (record { client = client_was_in; server = in_new.server })

      client_both_new : Both names client_new
      client_both_new = both_of names client_new client_timely client_ordered in_new

      client_connection_is : client_is.connection ≡ ends.client.connection
      unfolding end_after
      client_connection_is = ap (λ (e : Option ℕ). newer e ends.client.connection) client_none

      s : HasJoined ends.server.link client_both.together.server client_both.together.client
      s = server_joined names ends client_both

      client_c : IsInside ends.client.link client_both.together.client
      client_c = client_inside names ends client_both

      client_settled : IsSettledAt (reading_of ends.client.clock) ends.client.link
      client_settled = settled_so laws names ends Role.Client timely client_was_in

      client_own : ends.client.link.own_stamp ≤ reading_of ends.client.clock
      client_own = client_past names ends timely client_was_in

      server_fits : ends.server.link.sent < 2 ^ 31
      server_fits = let f = client_both.together.order.back.counts.fits in let n = s.inside.counted in omega (arith, f, n)

      server_before : client_rising.server_kept ≤ ends.client.link.clock
      server_before = let k = client_rising.server_keeps.before in let t = timely.client.clock in omega (arith, k, t)

      client_key : ends.client.link.identity.key ≡ names.key
      client_key = ap (λ (i : Identity). i.key) timely.client.identity

      abbrev client_sent : List Sent
      client_sent = ends.sent ++ handed_out ends.time Role.Client client_is.connection (spellings names.key (outcome call ends.moment ends.client).pdus)

      one_now : ends.server.connection ≡ ends.client.connection
      one_now = laws.one_connection_inside names ends timely client_was_in in_new.server

      -- where it has joined
      module _ (joined : is_asking ends.client.link ≡ false) where
        client_j : HasJoined ends.client.link client_both.together.client client_both.together.server
        client_j = client_joined names ends client_both joined

        client_some : 1 ≤ ends.client.link.expected
        client_some = let e = client_j.expected in let k = client_both.together.order.back.counts.some in omega (arith, e, k)

        client_most : ends.client.link.expected ≤ ends.server.link.sent
        client_most = let e = client_j.expected in let k = client_both.together.order.back.counts.most in let n = s.inside.counted in omega (arith, e, k, n)

        client_confirmable : confirmed_by ends.server.link < ends.client.link.sent
        client_confirmable = confirms_few ends.server.link ends.client.link.sent
            (let n = client_c.counted in let k = client_both.together.order.there.counts.some in let m = client_both.together.order.there.counts.most in omega (arith, n, k, m))
            (λ not. let e = s.expected in let n = client_c.counted in let m = client_both.together.order.there.counts.most in omega (arith, e, n, m))

        client_fits : ends.client.link.sent < 2 ^ 31
        client_fits = let f = client_both.together.order.there.counts.fits in let n = client_c.counted in omega (arith, f, n)

        client_tags : TagsRise 0 ends.client.link.sent ends.client.link.waiting
        client_tags = subst (λ (n : ℕ). TagsRise 0 n ends.client.link.waiting) (sym client_c.counted)
            (subst (TagsRise 0 (sent client_both.together.client)) (sym client_c.keeps.waiting) client_both.together.order.there.waits.rises)

        client_what : Moved (CameBy ends.client.link call) client_rising.client_kept ends.client.link (outcome call ends.moment ends.client).link (outcome call ends.moment ends.client).pdus
        unfolding end_after
        client_what = moves_by call ends.moment ends.client client_was_in client_settled client_own joined client_rising.client_kept client_some (omega (arith, client_most, server_fits))
            (client_rising.client_keeps joined).kept_is client_none in_new.client

        client_gone : Gone names (the_client_since marks ends client_rising.server_kept) (the_server_since marks ends client_rising.client_kept) (outcome call ends.moment ends.client).link ends.server.link
            client_rising.server_kept client_sent
        client_gone = moved laws names (the_client_since marks ends client_rising.server_kept) (the_server_since marks ends client_rising.client_kept) ends.client.link
            (outcome call ends.moment ends.client).link ends.server.link client_rising.client_kept client_rising.server_kept ends.sent client_is.connection
            (outcome call ends.moment ends.client).pdus (laws.calls_hand_out_pdus names ends Role.Client call timely may) timely.client.clock refl refl refl not_server server_before
            refl refl refl client_rising.client_marked
            client_rising.of_client client_rising.of_server
            (CameBy ends.client.link call)
            (record {
              clock = refl;
              connected = client_was_in;
              joined = joined;
              young = let y = client_settled.young in let k = client_settled.clock in
                  omega (arith, y, k);
              own = let y = client_own in let k = client_settled.clock in omega (arith, y, k);
            })
            (client_rising.client_keeps joined) refl refl refl (s.inside.own_first ∙ sym client_j.partner_first) client_some client_most server_fits
            refl (λ two. s.partner_first ∙ sym client_c.own_first) client_confirmable client_fits client_tags
            (brought_by Role.Client call may client_was_in (the_server_since marks ends client_rising.client_kept) refl one_now refl) client_what

        still_joined : is_asking (outcome call ends.moment ends.client).link ≡ true → ⊥
        still_joined e = by client_what
          where
            by : Moved (CameBy ends.client.link call) client_rising.client_kept ends.client.link (outcome call ends.moment ends.client).link (outcome call ends.moment ends.client).pdus → ⊥
            by (speaks stayed x y o chain) = false≢true (sym stayed.joined ∙ e)
            by (hears_one p came receiver sender passes t) = false≢true (sym t.stays.joined ∙ e)

        joined_goes : RisingSince names marks client_new
        unfolding end_after
        joined_goes = record {
          client_kept = client_gone.kept;
          server_kept = client_rising.server_kept;
          none_yet = λ e. absurd (still_joined e);
          client_keeps = λ e. client_gone.keeps;
          server_keeps = client_rising.server_keeps;
          of_client = subst (λ (key : Key). Rises (IsOf names (the_client_since marks client_new client_rising.server_kept)) nothing_sent
              (ends.sent ++ handed_out ends.time Role.Client client_is.connection (spellings key (outcome call ends.moment ends.client).pdus))
              (stands (outcome call ends.moment ends.client).link client_gone.kept))
              (sym client_key) (subst (λ (w : Speaker). Rises (IsOf names w) nothing_sent client_sent (stands (outcome call ends.moment ends.client).link client_gone.kept))
              (same_speaker Role.Client ends.time ends.client.clock ends.server.clock ends.server.link.expected client_rising.server_kept marks.client marks.server (sym client_connection_is) (sym firsts.0)
              (sym firsts.1)) client_gone.own_rises);
          of_server = subst (λ (key : Key). Rises (IsOf names (the_server_since marks client_new client_gone.kept)) nothing_sent
              (ends.sent ++ handed_out ends.time Role.Client client_is.connection (spellings key (outcome call ends.moment ends.client).pdus))
              (stands ends.server.link client_rising.server_kept))
              (sym client_key) client_gone.other_rises;
          client_marked = client_gone.marked;
          server_marked = client_rising.server_marked;
        }
          where
            firsts : ((outcome call ends.moment ends.client).link.own_first ≡ ends.client.link.own_first) × ((outcome call ends.moment ends.client).link.partner_first ≡ ends.client.link.partner_first)
            firsts = stays_first (CameBy ends.client.link call) client_rising.client_kept ends.client.link _ _ client_what

      -- where it asks
      module _ (asking : is_asking ends.client.link ≡ true) where
        alone : ends.client.link.sent ≡ 1
        alone = client_c.counted ∙ client_c.alone asking

        asked_past : ends.client.link.own_stamp ≤ ends.client.link.clock
        asked_past = let y = client_own in let k = client_settled.clock in omega (arith, y, k)

        first_stays : (outcome call ends.moment ends.client).link.own_first ≡ ends.client.link.own_first
        unfolding end_after
        first_stays = choose (asks_by call ends.moment ends.client client_was_in client_settled asking client_none in_new.client)
          where
            choose : Asks ends.client.link (outcome call ends.moment ends.client).link (outcome call ends.moment ends.client).given (outcome call ends.moment ends.client).taken
                → (outcome call ends.moment ends.client).link.own_first ≡ ends.client.link.own_first
            choose (still a own n w g h) = own
            choose (joins_then a e own n w g h) = own

        waiting_stays : (outcome call ends.moment ends.client).link.waiting ≡ ends.client.link.waiting
        unfolding end_after
        waiting_stays = choose (asks_by call ends.moment ends.client client_was_in client_settled asking client_none in_new.client)
          where
            choose : Asks ends.client.link (outcome call ends.moment ends.client).link (outcome call ends.moment ends.client).given (outcome call ends.moment ends.client).taken
                → (outcome call ends.moment ends.client).link.waiting ≡ ends.client.link.waiting
            choose (still a own n w g h) = w
            choose (joins_then a e own n w g h) = w

        ask_what : AskMoved (CameBy ends.client.link call) ends.client.link (outcome call ends.moment ends.client).link (outcome call ends.moment ends.client).pdus
        unfolding end_after
        ask_what = ask_moves_by call ends.moment ends.client client_was_in client_settled client_own asking client_none in_new.client

        few : ends.client.link.sent ≤ 1
        few = let a = alone in omega (arith, a)

        find : (p : Pdu) → CameBy ends.client.link call p → (p.receiver == ends.client.link.identity.own) ≡ true → (p.sender == ends.client.link.identity.partner) ≡ true
            → Brought names (the_server_since marks ends client_rising.client_kept) ends.sent p
        find = brought_by Role.Client call may client_was_in (the_server_since marks ends client_rising.client_kept) refl one_now refl

        silent : (outcome call ends.moment ends.client).pdus ≡ []
            → Rises (IsOf names (the_client_since marks ends client_rising.server_kept)) nothing_sent client_sent (stands ends.client.link client_rising.client_kept)
        silent = silent_on laws names (the_client_since marks ends client_rising.server_kept) (the_server_since marks ends client_rising.client_kept) ends.client.link
            (outcome call ends.moment ends.client).link ends.server.link client_rising.client_kept client_rising.server_kept ends.sent client_is.connection
            (outcome call ends.moment ends.client).pdus (laws.calls_hand_out_pdus names ends Role.Client call timely may) timely.client.clock refl refl refl not_server server_before
            refl refl refl client_rising.client_marked
            client_rising.of_client client_rising.of_server
            (CameBy ends.client.link call) asking (client_rising.none_yet asking) few asked_past first_stays find

        partner_rises : Rises (IsOf names (the_server_since marks ends client_rising.client_kept)) nothing_sent client_sent (stands ends.server.link client_rising.server_kept)
        partner_rises = partner_on laws names (the_client_since marks ends client_rising.server_kept) (the_server_since marks ends client_rising.client_kept) ends.client.link
            (outcome call ends.moment ends.client).link ends.server.link client_rising.client_kept client_rising.server_kept ends.sent client_is.connection
            (outcome call ends.moment ends.client).pdus (laws.calls_hand_out_pdus names ends Role.Client call timely may) timely.client.clock refl refl refl not_server server_before
            refl refl refl client_rising.client_marked
            client_rising.of_client client_rising.of_server
            (CameBy ends.client.link call) asking (client_rising.none_yet asking) few asked_past first_stays find

        joins_now : (p : Pdu) → CameBy ends.client.link call p → (p.receiver == ends.client.link.identity.own) ≡ true → (p.sender == ends.client.link.identity.partner) ≡ true
            → (outcome call ends.moment ends.client).link.clock ≡ ends.client.link.clock
            → is_asking (outcome call ends.moment ends.client).link ≡ false → (outcome call ends.moment ends.client).link.own_stamp ≡ ends.client.link.own_stamp
            → (outcome call ends.moment ends.client).link.sent ≡ ends.client.link.sent + 1
            → Met p ends.client.link (outcome call ends.moment ends.client).link (outcome call ends.moment ends.client).pdus
            → Gone names (record (the_client_since marks ends client_rising.server_kept) { partner_first = (outcome call ends.moment ends.client).link.partner_first })
            (the_server_since marks ends client_rising.client_kept) (outcome call ends.moment ends.client).link ends.server.link client_rising.server_kept client_sent
        unfolding end_after
        joins_now p came receiver sender clock joined own_is one_more met =
            joins laws names (the_client_since marks ends client_rising.server_kept) (the_server_since marks ends client_rising.client_kept) ends.client.link (outcome call ends.moment ends.client).link
            ends.server.link client_rising.client_kept client_rising.server_kept ends.sent client_is.connection
            (outcome call ends.moment ends.client).pdus (laws.calls_hand_out_pdus names ends Role.Client call timely may) timely.client.clock refl refl refl not_server server_before
            refl refl refl client_rising.client_marked
            client_rising.of_client client_rising.of_server
            (CameBy ends.client.link call) asking (client_rising.none_yet asking) few asked_past first_stays find
            p came receiver sender clock joined own_is waiting_stays one_more met in_new.client (let y = client_settled.young in let k = client_settled.clock in omega (arith, y, k, clock, own_is)) meets server_fits
          where
            meets : (outcome call ends.moment ends.client).link.partner_first ≡ ends.server.link.own_first
            meets = (client_joined names client_new client_both_new joined).partner_first ∙ sym (server_joined names client_new client_both_new).inside.own_first

        asking_goes : RisingSince names marks client_new
        unfolding end_after
        asking_goes = choose ask_what
          where
            k : LinkState
            k = (outcome call ends.moment ends.client).link

            choose : AskMoved (CameBy ends.client.link call) ends.client.link (outcome call ends.moment ends.client).link (outcome call ends.moment ends.client).pdus → RisingSince names marks client_new
            choose (asks_on same none) = record {
              client_kept = client_rising.client_kept;
              server_kept = client_rising.server_kept;
              none_yet = λ e. client_rising.none_yet asking;
              client_keeps = λ e. absurd (false≢true (sym e ∙ ap (λ (x : LinkState). is_asking x) same ∙ asking));
              server_keeps = client_rising.server_keeps;
              of_client = subst (λ (key : Key). Rises (IsOf names (the_client_since marks client_new client_rising.server_kept)) nothing_sent
                  (ends.sent ++ handed_out ends.time Role.Client client_is.connection (spellings key (outcome call ends.moment ends.client).pdus))
                  (stands (outcome call ends.moment ends.client).link client_rising.client_kept))
                  (sym client_key) (subst (λ (x : Stand). Rises (IsOf names (the_client_since marks client_new client_rising.server_kept)) nothing_sent client_sent x)
                  (sym (ap (λ (x : LinkState). stands x client_rising.client_kept) same))
                  (subst (λ (w : Speaker). Rises (IsOf names w) nothing_sent client_sent (stands ends.client.link client_rising.client_kept))
                  (same_speaker Role.Client ends.time ends.client.clock ends.server.clock ends.server.link.expected client_rising.server_kept marks.client marks.server (sym client_connection_is) (sym first_stays)
                  (sym (ap (λ (x : LinkState). x.partner_first) same))) (silent none)));
              of_server = subst (λ (key : Key). Rises (IsOf names (the_server_since marks client_new client_rising.client_kept)) nothing_sent
                  (ends.sent ++ handed_out ends.time Role.Client client_is.connection (spellings key (outcome call ends.moment ends.client).pdus))
                  (stands ends.server.link client_rising.server_kept))
                  (sym client_key) (subst (λ (n : ℕ). Rises (IsOf names (heard_of (the_server_since marks ends client_rising.client_kept) n client_rising.client_kept)) nothing_sent client_sent
                  (stands ends.server.link client_rising.server_kept)) (sym (ap (λ (x : LinkState). x.expected) same)) partner_rises);
              client_marked = subst (λ (x : LinkState). IsMarked marks.client marks.server x client_rising.client_kept) (sym same) client_rising.client_marked;
              server_marked = client_rising.server_marked;
            }
            choose (joins_by p came receiver sender clock joined own_is one_more met) = let gone_then = joins_now p came receiver sender clock joined own_is one_more met in record {
              client_kept = gone_then.kept;
              server_kept = client_rising.server_kept;
              none_yet = λ e. absurd (false≢true (sym joined ∙ e));
              client_keeps = λ e. gone_then.keeps;
              server_keeps = client_rising.server_keeps;
              of_client = subst (λ (key : Key). Rises (IsOf names (the_client_since marks client_new client_rising.server_kept)) nothing_sent
                  (ends.sent ++ handed_out ends.time Role.Client client_is.connection (spellings key (outcome call ends.moment ends.client).pdus))
                  (stands (outcome call ends.moment ends.client).link gone_then.kept))
                  (sym client_key) (subst (λ (w : Speaker). Rises (IsOf names w) nothing_sent client_sent (stands (outcome call ends.moment ends.client).link gone_then.kept))
                  (same_speaker Role.Client ends.time ends.client.clock ends.server.clock ends.server.link.expected client_rising.server_kept marks.client marks.server (sym client_connection_is) (sym first_stays)
                  refl) gone_then.own_rises);
              of_server = subst (λ (key : Key). Rises (IsOf names (the_server_since marks client_new gone_then.kept)) nothing_sent
                  (ends.sent ++ handed_out ends.time Role.Client client_is.connection (spellings key (outcome call ends.moment ends.client).pdus))
                  (stands ends.server.link client_rising.server_kept))
                  (sym client_key) gone_then.other_rises;
              client_marked = gone_then.marked;
              server_marked = client_rising.server_marked;
            }

      pub client_goes : RisingSince names marks client_new
      client_goes = choose (is_asking ends.client.link) refl
        where
          choose : (b : Bool) → is_asking ends.client.link ≡ b → RisingSince names marks client_new
          choose true e = asking_goes e
          choose false e = joined_goes e

-- ---- time

-- an end whose clock has gone on, as its partner and the datagrams see it
module _ (names : Names) (marks : Marks) (elapsed of_client of_server : ℕ) (ends : Ends) (drift : IsWithinDrift elapsed of_client × IsWithinDrift elapsed of_server) (timely : Timely names ends) where
  abbrev after : Ends
  after = later elapsed of_client of_server ends

  -- what was sent stays so for a speaker at a later time
  told_later : (old new : Speaker) → new.first ≡ old.first → new.partner_first ≡ old.partner_first → new.expected ≡ old.expected → new.kept ≡ old.kept
      → new.mark ≡ old.mark → new.partner_mark ≡ old.partner_mark
      → ((reading at : ℕ) → WasReadThen old.time old.clock reading at → WasReadThen new.time new.clock reading at)
      → ((returned at : ℕ) → 1000 * old.partner_clock + 1001 * at ≤ 1000000 * returned + 1001 * old.time + 3820000000
      → 1000 * new.partner_clock + 1001 * at ≤ 1000000 * returned + 1001 * new.time + 3820000000)
      → (at : ℕ) (stand : Stand) (pdu : Pdu) → IsToldAt old at stand pdu → IsToldAt new at stand pdu
  told_later old new first partner expected kept marked partner_marked reads recents at stand pdu t = record {
    some = t.some;
    number = t.number ∙ ap (λ (f : ℕ). wire f (stand.sent - 1)) (sym first);
    stamped = t.stamped;
    was_read = reads stand.now at t.was_read;
    confirms = λ more. t.confirms more ∙ ap (λ (f : ℕ). wire f stand.confirms) (sym partner);
    returns = t.returns;
    recent = λ more. recents stand.returns at (t.recent more);
    fresh = λ behind. let f = t.fresh (omega (arith, behind, expected)) in omega (arith, f, kept);
    early = subst (λ (m : Mark). stand.sent ≤ m.sent → stand.now ≤ m.now) (sym marked) t.early;
    paired = subst (λ (m : Mark). IsPaired m stand.confirms stand.returns) (sym partner_marked) t.paired;
  }

  reads_later : (clock own reading at : ℕ) → IsWithinDrift elapsed own → WasReadThen ends.time clock reading at → WasReadThen (ends.time + elapsed) (clock + own) reading at
  reads_later clock own reading at d w = record { before = let b = w.before in omega (arith, b); least = let l = w.least in let x = d.least in omega (arith, l, x); most = let m = w.most in let x = d.most in omega (arith, m, x) }

  recent_later : (clock own returned at : ℕ) → IsWithinDrift elapsed own → 1000 * clock + 1001 * at ≤ 1000000 * returned + 1001 * ends.time + 3820000000
      → 1000 * (clock + own) + 1001 * at ≤ 1000000 * returned + 1001 * (ends.time + elapsed) + 3820000000
  recent_later clock own returned at d r = let x = d.most in omega (arith, r, x)

  module _ (c : (settled (reading_of (ends.client.clock + of_client)) ends.client.link ≡ record ends.client.link { clock = reading_of (ends.client.clock + of_client) })
      × (is_open ends.client.link.phase ≡ true))
      (s : (settled (reading_of (ends.server.clock + of_server)) ends.server.link ≡ record ends.server.link { clock = reading_of (ends.server.clock + of_server) })
      × (is_open ends.server.link.phase ≡ true))
      (rising : RisingSince names marks ends) where
    abbrev cl : LinkState
    cl = settled (reading_of (ends.client.clock + of_client)) ends.client.link

    abbrev sl : LinkState
    sl = settled (reading_of (ends.server.clock + of_server)) ends.server.link

    client_up : (stands ends.client.link rising.client_kept).now ≤ reading_of (ends.client.clock + of_client)
    client_up = let t = timely.client.clock in omega (arith, t)

    server_up : (stands ends.server.link rising.server_kept).now ≤ reading_of (ends.server.clock + of_server)
    server_up = let t = timely.server.clock in omega (arith, t)

    asks_same : is_asking cl ≡ is_asking ends.client.link
    asks_same = ap is_asking c.0

    keeps_later : (l k : LinkState) (clock own partner_clock partner_own kept : ℕ) → k.partner_stamp ≡ l.partner_stamp → k.own_stamp ≡ l.own_stamp → IsWithinDrift elapsed own
        → IsWithinDrift elapsed partner_own → Keeps l clock partner_clock kept
        → Keeps k (clock + own) (partner_clock + partner_own) kept
    keeps_later l k clock own partner_clock partner_own kept stamped own_is d e keeps = record {
      kept_is = stamped ∙ keeps.kept_is;
      before = let b = keeps.before in omega (arith, b);
      lately = let y = keeps.lately in let x = d.least in let z = e.most in omega (arith, y, x, z, own_is);
    }

    time_rises : RisingSince names marks after
    unfolding later end_later
    time_rises = record {
      client_kept = rising.client_kept;
      server_kept = rising.server_kept;
      none_yet = λ e. rising.none_yet (sym asks_same ∙ e);
      client_keeps = λ e. keeps_later ends.client.link cl ends.client.clock of_client ends.server.clock of_server rising.client_kept (ap (λ (x : LinkState). x.partner_stamp) c.0)
          (ap (λ (x : LinkState). x.own_stamp) c.0) drift.0 drift.1 (rising.client_keeps (sym asks_same ∙ e));
      server_keeps = keeps_later ends.server.link sl ends.server.clock of_server ends.client.clock of_client rising.server_kept (ap (λ (x : LinkState). x.partner_stamp) s.0)
          (ap (λ (x : LinkState). x.own_stamp) s.0) drift.1 drift.0 rising.server_keeps;
      of_client = subst (Rises (IsOf names (the_client_since marks after rising.server_kept)) nothing_sent ends.sent) (sym (ap (λ (x : LinkState). stands x rising.client_kept) c.0))
          (rises_high _ nothing_sent (stands ends.client.link rising.client_kept) (stands (record ends.client.link { clock = reading_of (ends.client.clock + of_client) }) rising.client_kept)
          ends.sent (omega arith, client_up, omega arith, omega arith)
          (rises_turned (IsOf names (the_client_since marks ends rising.server_kept)) (IsOf names (the_client_since marks after rising.server_kept)) nothing_sent (stands ends.client.link rising.client_kept) ends.sent
          (λ d at most of sender same in_time pdu read. told_later (the_client_since marks ends rising.server_kept) (the_client_since marks after rising.server_kept) (ap (λ (x : LinkState). x.own_first) c.0)
          (ap (λ (x : LinkState). x.partner_first) c.0) (ap (λ (x : LinkState). x.expected) s.0) refl refl refl
          (λ reading t. reads_later ends.client.clock of_client reading t drift.0) (λ returned t. recent_later ends.server.clock of_server returned t drift.1) d.at at pdu
          (of sender same (omega (arith, in_time)) pdu read)) rising.of_client));
      of_server = subst (Rises (IsOf names (the_server_since marks after rising.client_kept)) nothing_sent ends.sent) (sym (ap (λ (x : LinkState). stands x rising.server_kept) s.0))
          (rises_high _ nothing_sent (stands ends.server.link rising.server_kept) (stands (record ends.server.link { clock = reading_of (ends.server.clock + of_server) }) rising.server_kept)
          ends.sent (omega arith, server_up, omega arith, omega arith)
          (rises_turned (IsOf names (the_server_since marks ends rising.client_kept)) (IsOf names (the_server_since marks after rising.client_kept)) nothing_sent (stands ends.server.link rising.server_kept) ends.sent
          (λ d at most of sender same in_time pdu read. told_later (the_server_since marks ends rising.client_kept) (the_server_since marks after rising.client_kept) (ap (λ (x : LinkState). x.own_first) s.0)
          (ap (λ (x : LinkState). x.partner_first) s.0) (ap (λ (x : LinkState). x.expected) c.0) refl refl refl
          (λ reading t. reads_later ends.server.clock of_server reading t drift.1) (λ returned t. recent_later ends.client.clock of_client returned t drift.0) d.at at pdu
          (of sender same (omega (arith, in_time)) pdu read)) rising.of_server));
      client_marked = let m = rising.client_marked in subst (λ (x : LinkState). IsMarked marks.client marks.server x rising.client_kept) (sym c.0)
          (record { before = m.before; paired = m.paired; waits = m.waits });
      server_marked = let m = rising.server_marked in subst (λ (x : LinkState). IsMarked marks.server marks.client x rising.server_kept) (sym s.0)
          (record { before = m.before; paired = m.paired; waits = m.waits });
    }

  pub time_passes : NothingFallsSince names marks ends → NothingFallsSince names marks after
  unfolding later end_later
  time_passes before in_new = time_rises c s (before (record { client = c.1; server = s.1 }))
    where
      c : (settled (reading_of (ends.client.clock + of_client)) ends.client.link ≡ record ends.client.link { clock = reading_of (ends.client.clock + of_client) })
          × (is_open ends.client.link.phase ≡ true)
      c = settled_open (reading_of (ends.client.clock + of_client)) ends.client.link in_new.client

      s : (settled (reading_of (ends.server.clock + of_server)) ends.server.link ≡ record ends.server.link { clock = reading_of (ends.server.clock + of_server) })
          × (is_open ends.server.link.phase ≡ true)
      s = settled_open (reading_of (ends.server.clock + of_server)) ends.server.link in_new.server

-- ---- every event

pub loses_rise : (names : Names) (marks : Marks) (bytes : List ℕ) (ends : Ends) → NothingFallsSince names marks ends → NothingFallsSince names marks (lost bytes ends)
unfolding lost
loses_rise names marks bytes ends before in_new = let r = before (record { client = in_new.client; server = in_new.server }) in record {
  client_kept = r.client_kept;
  server_kept = r.server_kept;
  none_yet = r.none_yet;
  client_keeps = r.client_keeps;
  server_keeps = r.server_keeps;
  of_client = rises_without (IsOf names (the_client_since marks ends r.server_kept)) (λ d is_lost at of. of) bytes nothing_sent (stands ends.client.link r.client_kept) ends.sent r.of_client;
  client_marked = r.client_marked;
  server_marked = r.server_marked;
  of_server = rises_without (IsOf names (the_server_since marks ends r.client_kept)) (λ d is_lost at of. of) bytes nothing_sent (stands ends.server.link r.server_kept) ends.sent r.of_server;
}

pub elsewhere_rises : (names : Names) (marks : Marks) (count : ℕ) (ends : Ends) → NothingFallsSince names marks ends → NothingFallsSince names marks (record ends { moment = ends.moment + count })
elsewhere_rises names marks count ends before in_new = let r = before (record { client = in_new.client; server = in_new.server }) in record {
  client_kept = r.client_kept;
  server_kept = r.server_kept;
  none_yet = r.none_yet;
  client_keeps = r.client_keeps;
  server_keeps = r.server_keeps;
  of_client = r.of_client;
  of_server = r.of_server;
  client_marked = r.client_marked;
  server_marked = r.server_marked;
}

pub made_anew : (names : Names) (marks : Marks) (who : Role) (clock first : ℕ) (ends : Ends) → NothingFallsSince names marks (restarted who clock first ends)
unfolding restarted end_restarted created
made_anew names marks Role.Client clock first ends in_new = absurd (false≢true in_new.client)
made_anew names marks Role.Server clock first ends in_new = absurd (false≢true in_new.server)

module _ (laws : LawsBelow) (names : Names) (are : AreNames names) (ends : Ends) (timely : Timely names ends) (ordered : Ordered names ends) where
  outside_rises : (call : Call) (may : MayCall names Role.Server call ends) → AreIn (server_new laws names are ends timely ordered call may) → is_open ends.server.link.phase ≡ false
      → RisingSince names unmarked (server_new laws names are ends timely ordered call may)
  unfolding outcome
  outside_rises Ticks may in_new shut = absurd (stays_outside laws Ticks ends.moment ends.server shut refl in_new.server)
  outside_rises Opens may in_new shut = absurd (opens_not laws names are 0 ends timely ordered may in_new shut)
  outside_rises (Closes why) may in_new shut = absurd (stays_outside laws (Closes why) ends.moment ends.server shut refl in_new.server)
  outside_rises (Sends item) may in_new shut = absurd (stays_outside laws (Sends item) ends.moment ends.server shut refl in_new.server)
  outside_rises (Receives bytes connection) may in_new shut = enters laws names are ends timely ordered bytes connection may in_new shut

  server_rises : (call : Call) → MayCall names Role.Server call ends → NothingFalls names ends → NothingFalls names (called Role.Server call ends)
  unfolding called
  server_rises call may before in_new = choose (is_open ends.server.link.phase) refl
    where
      choose : (b : Bool) → is_open ends.server.link.phase ≡ b → RisingSince names unmarked (server_new laws names are ends timely ordered call may)
      choose true e = server_goes laws names are ends timely ordered call may unmarked in_new e before
      choose false e = outside_rises call may in_new e

  client_rises : (call : Call) → MayCall names Role.Client call ends → NothingFalls names ends → NothingFalls names (called Role.Client call ends)
  unfolding called
  client_rises call may before in_new = client_goes laws names are ends timely ordered call may unmarked in_new before

pub event_rises : (laws : LawsBelow) (names : Names) (event : Event) (ends : Ends) → AreNames names → Timely names ends → Ordered names ends → May names event ends → NothingFalls names ends
    → NothingFalls names (happened event ends)
event_rises laws names (Calls Role.Server call) ends are timely ordered may before = server_rises laws names are ends timely ordered call may before
event_rises laws names (Calls Role.Client call) ends are timely ordered may before = client_rises laws names are ends timely ordered call may before
event_rises laws names (TimePasses elapsed of_client of_server) ends are timely ordered may before = time_passes names unmarked elapsed of_client of_server ends may timely before
event_rises laws names (Loses bytes) ends are timely ordered may before = loses_rise names unmarked bytes ends before
event_rises laws names (Restarts who clock first) ends are timely ordered may before = made_anew names unmarked who clock first ends
event_rises laws names (Elsewhere count) ends are timely ordered may before = elsewhere_rises names unmarked count ends before

-- and so it is at the beginning
pub starts_rising : (names : Names) (start : Start) → NothingFalls names (started names start)
unfolding created
starts_rising names start are_in = absurd (false≢true are_in.client)
