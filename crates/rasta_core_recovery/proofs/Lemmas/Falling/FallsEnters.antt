-- A server enters the connection of a client that asks: neither has sent anything there that falls.
use Rattle.rasta_core_recovery.proofs.Words.Basics.{◌≡◌, ℕ, zero, suc, ◌∙◌, ◌+◌, ◌≤◌, ◌<◌, Bool, true, false, ◌==◌, List, [], ◌∷◌, ◌++◌, length, Some, Result, Ok, Err, if◌then◌else◌, refl, sym, ap, subst, arith, nat_eq, pointwise, false≢true, same_Some}
use Rattle.rasta_core_recovery.proofs.Words.Links.{own_version, window_size, stamp, wire, LinkState, is_asking, is_open, beginning, granting, judging, meeting, own_opening, Step, header_of, pdu_of, sending, telling, Receipt, hearing, hearing_bytes, receiving, spellings, Identity, Role, Key, Reason, Pdu, PduFault, ConnectionResponse, Opening, reading, IsPdu, Unconfirmed, Each, Receives, Sent, end_after, handed_out, outcome, reading_of, IsDelivered, MayCall, AreNames, Names, Ends, IsAt, IsOf as IsOfFlow, HearsOutside, grants, refuses, InFlight, Timely, IsInside, IsSent, IsSpelledIn, Ordered, HasHeard, Inside, Outside, Times, standing, times_of, IsKnown, WasReadThen}
use Rattle.rasta_core_recovery.proofs.Words.Recovery.{AreIn, IsOf, IsToldAt, Rises, Rising, nothing_sent, stands, the_client, the_server, LawsBelow}
use Rattle.rasta_core.specs.TimedEnds.{IsInside as StandsInside}
use Rattle.rasta_core_recovery.proofs.Lemmas.Windows.ConfirmingEvents.{among, connection_then, delivered_is, entered_both, entered_one, enters_by, server_new}
use Rattle.rasta_core_recovery.proofs.Lemmas.Windows.Confirmed.{Both, client_inside, within}
use Rattle.rasta_core_recovery.proofs.Lemmas.Rounds.Facts.{each_both}
use Rattle.rasta_core_recovery.proofs.Lemmas.Falling.FallsGoes.{the_stand}
use Rattle.rasta_core_recovery.proofs.Lemmas.Falling.FallsLists.{rises_alike, rises_append, rises_high, rises_low, rises_others}
use Rattle.rasta_core_recovery.proofs.Lemmas.Rounds.Bridge.{reads_as}

-- ---- what a server says as it enters

record Granted (now : ℕ) (k : LinkState) (p : Pdu) (ps : List Pdu) : Type 0 where
  expected : k.expected ≡ 1
  heard : k.partner_stamp ≡ p.time_stamp
  own : k.own_stamp ≡ now
  clock : k.clock ≡ now
  sent : k.sent ≡ 1
  answer : Pdu
  pdus : ps ≡ answer ∷ []
  number : answer.sequence_number ≡ wire k.own_first 0
  stamped : answer.time_stamp ≡ stamp now

granting_gives : (p : Pdu) (o : Opening) (l : LinkState) → is_open (granting p o l).link.phase ≡ true → Granted l.clock (granting p o l).link p (granting p o l).pdus
unfolding granting judging meeting beginning sending telling pdu_of header_of
granting_gives p o l = choose (pointwise nat_eq o.version own_version) (o.window == window_size)
  where
    met : LinkState
    met = meeting p (beginning l)

    choose : (a b : Bool) → let s = (if a then (if b then sending (ConnectionResponse own_opening) met else telling Reason.Window met) else telling Reason.Version met) in
        is_open s.link.phase ≡ true → Granted l.clock s.link p s.pdus
    choose true true = λ o. record {
      expected = refl;
      heard = refl;
      own = refl;
      clock = refl;
      sent = refl;
      answer = pdu_of (header_of met) 0 (ConnectionResponse own_opening);
      pdus = refl;
      number = refl;
      stamped = refl;
    }
    choose true false = λ o. absurd (false≢true o)
    choose false b = λ o. absurd (false≢true o)

-- what it took, and what it says
record Entered (now : ℕ) (l : LinkState) (bytes : List ℕ) (k : LinkState) (ps : List Pdu) : Type 0 where
  request : Pdu
  read : reading l.identity.key bytes ≡ Ok request
  granted : Granted now k request ps

outside_grants : LawsBelow → (now : ℕ) (bytes : List ℕ) (l : LinkState) → is_open l.phase ≡ false → is_open (receiving now bytes l).link.phase ≡ true
    → Entered now l bytes (receiving now bytes l).link (receiving now bytes l).pdus
unfolding receiving hearing_bytes
outside_grants laws now bytes l shut =
    subst (λ (s : Step). is_open (hearing_bytes (reading l.identity.key bytes) s.link).link.phase ≡ true
    → Entered now l bytes (hearing_bytes (reading l.identity.key bytes) s.link).link (s.pdus ++ (hearing_bytes (reading l.identity.key bytes) s.link).pdus))
    (sym (laws.connection_begins_entering now l shut)) (takes (reading l.identity.key bytes) refl)
  where
    at : LinkState
    at = record l { clock = now }

    by_outside : (p : Pdu) → reading l.identity.key bytes ≡ Ok p → HearsOutside p at (hearing p at) → is_open (hearing p at).link.phase ≡ true
        → Entered now l bytes (hearing p at).link (hearing p at).pdus
    by_outside p read (refuses why not same) opened = absurd (false≢true (sym shut ∙ ap (λ (r : Receipt). is_open r.link.phase) (sym same) ∙ opened))
    by_outside p read (grants o server body down late same) opened = record {
      request = p;
      read = read;
      granted = subst (λ (r : Receipt). Granted now r.link p r.pdus) (sym same) (granting_gives p o at (ap (λ (r : Receipt). is_open r.link.phase) (sym same) ∙ opened));
    }

    takes : (what : Result Pdu PduFault) → reading l.identity.key bytes ≡ what → is_open (hearing_bytes what at).link.phase ≡ true
        → Entered now l bytes (hearing_bytes what at).link (hearing_bytes what at).pdus
    takes (Err fault) e opened = absurd (false≢true (sym shut ∙ opened))
    takes (Ok p) e opened = by_outside p e (laws.connection_begins_hearing p at shut) opened

only_one : (flow : List Pdu) (n m : ℕ) (p q : Pdu) → length flow ≡ 1 → IsAt n p flow → IsAt m q flow → p ≡ q
only_one [] n m p q one a b = absurd a
only_one (f ∷ []) zero zero p q one a b = sym a ∙ b
only_one (f ∷ []) zero (suc m) p q one a b = absurd b
only_one (f ∷ []) (suc n) m p q one a b = absurd a
only_one (f ∷ (g ∷ others)) n m p q one a b = absurd (omega (arith, one))

first_part : {X : Type 0} (P : X → Type 0) (one other : List X) → Each P (one ++ other) → Each P one
first_part P [] other each = tt
first_part P (x ∷ one) other each = (each.0, first_part P one other each.1)

from_none : (waiting : List Unconfirmed) → Each (λ (held : Unconfirmed). 0 ≤ held.tag) waiting
from_none [] = tt
from_none (first ∷ others) = (omega arith, from_none others)

-- two readings of lately with one stamp are one
same_reading : (one other clock : ℕ) → one ≤ clock → clock ≤ one + 4000 → other ≤ clock → clock ≤ other + 4000 → stamp one ≡ stamp other → one ≡ other
same_reading one other clock a b c d e = omega (arith, a, b, c, d, e)

module _ (laws : LawsBelow) (names : Names) (are : AreNames names) (ends : Ends) (timely : Timely names ends) (ordered : Ordered names ends) (bytes : List ℕ) (connection : ℕ) (may : MayCall names Role.Server (Receives bytes connection) ends)
    (in_new : AreIn (server_new laws names are 0 ends timely ordered (Receives bytes connection) may)) (shut : is_open ends.server.link.phase ≡ false) where
  abbrev new : Ends
  new = server_new laws names are 0 ends timely ordered (Receives bytes connection) may

  abbrev times : Times
  times = times_of ends timely.of_client timely.of_server timely.newest

  both : Both names new
  both = entered_both laws names are 0 ends timely ordered bytes connection may in_new.server shut in_new

  abbrev delivered : (datagram : Sent) × IsDelivered ends bytes connection datagram
  delivered = delivered_is laws names are 0 ends timely ordered bytes connection may in_new.server shut

  then_connection : new.server.connection ≡ Some delivered.0.connection
  then_connection = connection_then laws names are 0 ends timely ordered bytes connection may in_new.server shut

  one : new.server.connection ≡ ends.client.connection
  one = entered_one laws names are 0 ends timely ordered bytes connection may in_new.server shut in_new

  standing_is : standing ends.client.link ≡ Inside (is_asking ends.client.link) ends.client.link.own_stamp ends.client.link.partner_stamp
  standing_is = ap (λ (b : Bool). if b then Inside (is_asking ends.client.link) ends.client.link.own_stamp ends.client.link.partner_stamp else Outside ends.client.link.closed_at) in_new.client

  inside : StandsInside (standing ends.client.link)
  inside = subst StandsInside (sym standing_is) tt

  newest_is : ends.client.connection ≡ Some timely.newest
  newest_is = timely.ends_timed.client.in_newest inside

  delivered_new : delivered.0.connection ≡ timely.newest
  delivered_new = same_Some delivered.0.connection timely.newest (sym then_connection ∙ one ∙ newest_is)

  -- the server wasn't in it
  not_there : ends.server.connection ≡ Some timely.newest → ⊥
  not_there was = over ((enters_by laws names are 0 ends timely ordered bytes connection may in_new.server shut).is_new timely.newest was)
    where
      over : timely.newest < delivered.0.connection → ⊥
      over lt = omega (arith, lt, delivered_new)

  -- so the client asks
  asking : is_asking ends.client.link ≡ true
  asking = choose (is_asking ends.client.link) refl
    where
      choose : (b : Bool) → is_asking ends.client.link ≡ b → b ≡ true
      choose true e = refl
      choose false e = absurd (not_there (timely.ends_timed.joined (subst HasHeard (sym (standing_is ∙ ap (λ (b : Bool). Inside b ends.client.link.own_stamp ends.client.link.partner_stamp) e)) tt)))

  c : IsInside ends.client.link both.together.client
  c = client_inside names new both

  entered : Entered (reading_of ends.server.clock) ends.server.link bytes new.server.link (outcome (Receives bytes connection) ends.moment ends.server).pdus
  unfolding outcome end_after
  entered = outside_grants laws (reading_of ends.server.clock) bytes ends.server.link shut in_new.server

  abbrev request : Pdu
  request = entered.request

  key_is : ends.server.link.identity.key ≡ names.key
  key_is = ap (λ (i : Identity). i.key) timely.server.identity

  request_read : reading names.key delivered.0.bytes ≡ Ok request
  request_read = subst (λ (b : List ℕ). reading names.key b ≡ Ok request) (sym delivered.1.bytes_same) (subst (λ (k : Key). reading k bytes ≡ Ok request) key_is entered.read)

  flight : InFlight names times delivered.0
  flight = among (InFlight names times) delivered.0 ends.sent delivered.1.was_sent timely.datagrams

  same_read : (b : List ℕ) (p q : Pdu) → reading names.key b ≡ Ok p → reading names.key b ≡ Ok q → p ≡ q
  same_read b p q e f = cc

  -- what the client has sent in it
  record IsAsked (d : Sent) (pdu : Pdu) : Type 0 where
    read_as : ℕ
    stamped : pdu.time_stamp ≡ stamp read_as
    was_read : WasReadThen ends.time ends.client.clock read_as d.at
    sent_before : d.at ≤ ends.time

  asked : (d : Sent) (flies : InFlight names times d) → d.sender ≡ Role.Client → d.connection ≡ timely.newest → (pdu : Pdu) → reading names.key d.bytes ≡ Ok pdu → IsAsked d pdu
  asked d flies sender there pdu read = record {
    read_as = known.read_as;
    stamped = ap (λ (q : Pdu). q.time_stamp) (same_read d.bytes pdu flies.pdu read flies.read) ∙ known.stamp_is;
    was_read = let w = known.was_read there inside in let behind = w.small.behind in let ahead = w.small.ahead in let least = w.least in let most = w.most in
        record { before = w.before; least = omega (arith, least, behind); most = omega (arith, most, ahead) };
    sent_before = known.sent_before;
  }
    where
      known : IsKnown times Role.Client d.at d.connection flies.pdu flies.back
      known = subst (λ (r : Role). IsKnown times r d.at d.connection flies.pdu flies.back) sender flies.known

  its_sender : delivered.0.sender ≡ Role.Client
  its_sender = (enters_by laws names are 0 ends timely ordered bytes connection may in_new.server shut).of_client

  first_asked : IsAsked delivered.0 request
  first_asked = asked delivered.0 flight its_sender delivered_new request request_read

  abbrev kept : ℕ
  kept = first_asked.read_as

  one_sent : length both.together.client.flow ≡ 1
  one_sent = c.alone asking

  spelled : Each (IsSpelledIn names Role.Client both.together.connection both.together.client.flow) ends.sent
  spelled = first_part (IsSpelledIn names Role.Client both.together.connection both.together.client.flow) ends.sent _ both.together.client_flow

  there_is : (d : Sent) → ends.client.connection ≡ Some d.connection → d.connection ≡ both.together.connection
  there_is d same = same_Some d.connection both.together.connection (sym same ∙ both.together.of_client)

  of_flow : IsOfFlow request both.together.client.flow
  of_flow = among (IsSpelledIn names Role.Client both.together.connection both.together.client.flow) delivered.0 ends.sent delivered.1.was_sent spelled its_sender
      (there_is delivered.0 (sym one ∙ then_connection)) request request_read

  clock_now : kept ≤ reading_of ends.client.clock
  clock_now = let w = first_asked.was_read.before in omega (arith, w)

  -- all that the client has sent in it is the request that came
  its_place : (d : Sent) → InFlight names times d × IsSpelledIn names Role.Client both.together.connection both.together.client.flow d → IsOf names (the_client new kept) d (the_stand 1 kept 0 0)
  its_place d known sender same in_time pdu read = record {
    some = omega arith;
    number = made.number ∙ ap (wire both.together.client.first) place ∙ ap (λ (f : ℕ). wire f 0) (sym c.own_first);
    stamped = ap (λ (q : Pdu). q.time_stamp) same_pdu ∙ first_asked.stamped;
    was_read = subst (λ (r : ℕ). WasReadThen ends.time ends.client.clock r d.at) alike this.was_read;
    confirms = λ more. absurd (omega (arith, more));
    returns = λ more. absurd (omega (arith, more));
    recent = λ more. absurd (omega (arith, more));
    fresh = λ behind. absurd (let e = entered.granted.expected in omega (arith, behind, e));
    early = λ few. absurd (omega (arith, few));
    paired = λ few. absurd (omega (arith, few));
  }
    where
      of : IsOfFlow pdu both.together.client.flow
      of = known.1 sender (there_is d same) pdu read

      made : IsSent both.together.client both.together.server.first of.0 pdu
      made = both.together.order.there.each of.0 pdu of.1

      place : of.0 ≡ 0
      place = let lt = within of.0 pdu both.together.client.flow of.1 in let n = one_sent in omega (arith, lt, n)

      same_pdu : pdu ≡ request
      same_pdu = only_one both.together.client.flow of.0 of_flow.0 pdu request one_sent of.1 of_flow.1

      this : IsAsked d pdu
      this = asked d known.0 sender (same_Some d.connection timely.newest (sym same ∙ newest_is)) pdu read

      alike : this.read_as ≡ kept
      alike =
          let a = this.was_read.before in let b = this.was_read.most
          in let f = first_asked.was_read.before in let g = first_asked.was_read.most in let i = delivered.1.in_time
          in same_reading this.read_as kept (reading_of ends.client.clock) (omega (arith, a)) (omega (arith, b, in_time)) (omega (arith, f)) (omega (arith, g, i))
          (sym this.stamped ∙ ap (λ (q : Pdu). q.time_stamp) same_pdu ∙ first_asked.stamped)

  -- and the server has sent nothing in it before
  none_of_server : (d : Sent) → InFlight names times d → IsOf names (the_server new 0) d nothing_sent
  none_of_server d flies sender same in_time pdu read = absurd (not_there (known.entered newest tt))
    where
      known : IsKnown times Role.Server d.at d.connection flies.pdu flies.back
      known = subst (λ (r : Role). IsKnown times r d.at d.connection flies.pdu flies.back) sender flies.known

      newest : d.connection ≡ timely.newest
      newest = same_Some d.connection timely.newest (sym same ∙ one ∙ newest_is)

  turned_each : (P Q : Sent → Type 0) → ((d : Sent) → P d → Q d) → (ds : List Sent) → Each P ds → Each Q ds
  turned_each P Q turn [] each = tt
  turned_each P Q turn (d ∷ ds) each = (turn d each.0, turned_each P Q turn ds each.1)

  abbrev more : List Sent
  more = handed_out ends.time Role.Server new.server.connection (spellings ends.server.link.identity.key (outcome (Receives bytes connection) ends.moment ends.server).pdus)

  client_rises : Rises (IsOf names (the_client new kept)) nothing_sent (ends.sent ++ more) (stands ends.client.link 0)
  client_rises = rises_append (IsOf names (the_client new kept)) nothing_sent (the_stand 1 kept 0 0) (stands ends.client.link 0) ends.sent more
      (rises_low (IsOf names (the_client new kept)) nothing_sent (the_stand 1 kept 0 0) (the_stand 1 kept 0 0) ends.sent (omega arith, omega arith, omega arith, omega arith)
      (rises_alike (IsOf names (the_client new kept)) (the_stand 1 kept 0 0) ends.sent
      (turned_each _ _ its_place ends.sent
      (each_both (InFlight names times) (IsSpelledIn names Role.Client both.together.connection both.together.client.flow) ends.sent timely.datagrams spelled))))
      (rises_high (IsOf names (the_client new kept)) (the_stand 1 kept 0 0) (the_stand 1 kept 0 0) (stands ends.client.link 0) more
      (let n = c.counted in let o = one_sent in omega (arith, n, o), let k = clock_now in let t = timely.client.clock in omega (arith, k, t), omega arith, omega arith)
      (rises_others (IsOf names (the_client new kept)) Role.Server (the_stand 1 kept 0 0) ends.time new.server.connection
      (spellings ends.server.link.identity.key (outcome (Receives bytes connection) ends.moment ends.server).pdus)
      (λ d at from sender same in_time pdu read. absurd (cc (from, sender)))))

  abbrev answer : Pdu
  answer = entered.granted.answer

  answer_told : IsToldAt (the_server new 0) ends.time (the_stand 1 (reading_of ends.server.clock) 0 0) answer
  unfolding end_after
  answer_told = record {
    some = omega arith;
    number = entered.granted.number;
    stamped = entered.granted.stamped;
    was_read = record { before = omega arith; least = omega arith; most = omega arith };
    confirms = λ more_sent. absurd (omega (arith, more_sent));
    returns = λ more_sent. absurd (omega (arith, more_sent));
    recent = λ more_sent. absurd (omega (arith, more_sent));
    fresh = λ behind. omega arith;
    early = λ few. absurd (omega (arith, few));
    paired = λ few. absurd (omega (arith, few));
  }

  server_rises : Rises (IsOf names (the_server new 0)) nothing_sent (ends.sent ++ more) (stands new.server.link kept)
  server_rises = rises_append (IsOf names (the_server new 0)) nothing_sent nothing_sent (stands new.server.link kept) ends.sent more
      (rises_alike (IsOf names (the_server new 0)) nothing_sent ends.sent (turned_each (InFlight names times) _ none_of_server ends.sent timely.datagrams))
      (subst (λ (key : Key). Rises (IsOf names (the_server new 0)) nothing_sent
      (handed_out ends.time Role.Server new.server.connection (spellings key (outcome (Receives bytes connection) ends.moment ends.server).pdus)) (stands new.server.link kept))
      (sym key_is)
      (subst (λ (ps : List Pdu). Each IsPdu ps → Rises (IsOf names (the_server new 0)) nothing_sent (handed_out ends.time Role.Server new.server.connection (spellings names.key ps))
      (stands new.server.link kept)) (sym entered.granted.pdus) said
      (laws.calls_hand_out_pdus names ends Role.Server (Receives bytes connection) timely may)))
    where
      g : Granted (reading_of ends.server.clock) new.server.link request (outcome (Receives bytes connection) ends.moment ends.server).pdus
      g = entered.granted

      said : Each IsPdu (g.answer ∷ [])
          → Rises (IsOf names (the_server new 0)) nothing_sent (handed_out ends.time Role.Server new.server.connection (spellings names.key (g.answer ∷ []))) (stands new.server.link kept)
      said are_pdus = (
        the_stand 1 (reading_of ends.server.clock) 0 0,
        (omega arith, omega arith, omega arith, omega arith),
        λ sender same in_time pdu read. subst (IsToldAt (the_server new 0) ends.time (the_stand 1 (reading_of ends.server.clock) 0 0))
            (reads_as laws names.key g.answer pdu are_pdus.0 read) answer_told,
        (let n = g.sent in omega (arith, n), let k = g.clock in omega (arith, k), omega arith, omega arith),
      )

  pub enters : Rising names new
  unfolding end_after
  enters = record {
    client_kept = 0;
    server_kept = kept;
    none_yet = λ e. refl;
    client_keeps = λ e. absurd (false≢true (sym e ∙ asking));
    server_keeps = record {
      kept_is = entered.granted.heard ∙ first_asked.stamped;
      before = clock_now;
      lately = let w = first_asked.was_read.most in let i = delivered.1.in_time in let o = entered.granted.own in omega (arith, w, i, o);
    };
    of_client = client_rises;
    of_server = server_rises;
    client_marked = record { before = omega arith; paired = λ few. absurd (omega (arith, few)); waits = λ young. from_none ends.client.link.waiting };
    server_marked = record { before = omega arith; paired = λ few. absurd (omega (arith, few)); waits = λ young. from_none new.server.link.waiting };
  }
