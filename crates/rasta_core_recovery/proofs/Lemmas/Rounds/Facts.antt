-- What is so of two ends at any moment, and is used of good rounds: from the invariants of time and of order.
use Rattle.rasta_core_recovery.proofs.Words.Basics.{◌≡◌, ◌≢◌, ℕ, zero, suc, ◌⊎◌, inl, inr, ◌∙◌, ◌+◌, ◌*◌, ◌/◌, ◌^◌, ◌≤◌, ◌<◌, Bool, true, false, ◌&&◌, not, nat_le, if◌then◌else◌, List, [], ◌∷◌, length, drop, Some, Ok, refl, sym, ap, subst, arith, leb-true, leb-false}
use Rattle.rasta_core_recovery.proofs.Words.Links.{stamp, wire, LinkState, is_open, is_asking, is_up, Role, Key, Pdu, Body, ConnectionRequest, ConnectionResponse, RetransmissionRequest, RetransmissionResponse, DisconnectionRequest, Heartbeat, Data, RetransmittedData, reading, lifetime, Each, Sent, Ends, Names, identity_of, Inside, Outside, IsOutside, HasHeard, own_stamp, heard_stamp, closed_at, standing, Times, times_of, IsKnown, IsAnswering, InFlight, Timely, AreTogether, IsSpelledIn, Ordered, unbegun, alone, together, BeginsByResponse, OpensOn, EndFlow, IsAt, IsOf, Plays, joined, left, HasJoined, IsStillAsking}
use Rattle.rasta_core_recovery.proofs.Words.Recovery.{Flow, can_come}
use Rattle.rasta_core.specs.TimedEnds.{IsInside}
use Rattle.rasta_core.specs.LinkAndFlow.{asking}
use Rattle.rasta_core_recovery.proofs.Lemmas.Rounds.Links.{Pair}
use Rattle.rasta_core_recovery.proofs.Lemmas.Rounds.Lists.{each_drop}
use Rattle.rasta_core_recovery.proofs.Lemmas.Rounds.Mirror.{Mirrors, AreRead, arriving, pending, bytes_from, chosen}
use Rattle.rasta_core_recovery.proofs.Lemmas.Rounds.Words.{IsSpeech}
use Rattle.rasta_core_recovery.proofs.Lemmas.ComingUp.Returned.{IsReturned}

-- an end inside, by its clock: its own stamp isn't younger than its clock, and not too old
pub record Young (l : LinkState) : Type 0 where
  pub own : l.own_stamp ≤ l.clock
  pub young : l.clock < l.own_stamp + 1800

-- the reading whose stamp an end keeps of its partner
pub record Kept (l m : LinkState) : Type 0 where
  pub reading : ℕ
  pub kept_is : l.partner_stamp ≡ stamp reading
  pub before : reading ≤ m.clock
  pub recent : m.clock ≤ reading + 4000

-- one end has joined the connection of the other
pub record Shares (l m : LinkState) : Type 0 where
  pub first : l.partner_first ≡ m.own_first
  pub some : 1 ≤ l.expected
  pub most : l.expected ≤ m.sent
  pub fits : l.sent < 2 ^ 31
  pub kept : Kept l m

-- an end that is outside left a short time ago, whatever the PDU
abbrev pub IsLately : LinkState → Pdu → Type 0
IsLately l p = l.clock ≤ l.closed_at + 1804

-- the first PDU of a server, with a stamp of lately
pub record IsFirst (m : LinkState) (p : Pdu) : Type 0 where
  pub number : p.sequence_number ≡ wire m.own_first 0
  pub read_as : ℕ
  pub stamped : p.time_stamp ≡ stamp read_as
  pub before : read_as ≤ m.clock
  pub recent : m.clock ≤ read_as + 4000

-- a server that has entered the connection of a client that still asks: it isn't up, and has said its response alone
pub record Calls (l m : LinkState) (ps : List Pdu) : Type 0 where
  pub down : is_up m.phase ≡ false
  pub most : m.expected ≤ l.sent
  pub some : 1 ≤ l.sent
  pub said : 1 ≤ m.sent
  pub alone : m.sent ≤ 1
  pub partner : m.partner_first ≡ l.own_first
  pub first : Each (IsFirst m) ps

pub record Facts (names : Names) (p : Pair) : Type 0 where
  pub client : p.client.identity ≡ identity_of Role.Client names
  pub server : p.server.identity ≡ identity_of Role.Server names
  pub client_young : is_open p.client.phase ≡ true → Young p.client
  pub server_young : is_open p.server.phase ≡ true → Young p.server
  pub shares : is_open p.client.phase ≡ true → is_asking p.client ≡ false → is_open p.server.phase ≡ true → Shares p.client p.server × Shares p.server p.client
  -- a client that has joined a connection is left alone for a short time only
  pub alone : is_open p.client.phase ≡ true → is_asking p.client ≡ false → is_open p.server.phase ≡ false → p.server.clock ≤ p.server.closed_at + 1804
  -- nor is one that asks, to which something comes
  pub called : is_open p.client.phase ≡ true → is_open p.server.phase ≡ false → Each (IsLately p.server) p.to_client
  pub calls : is_open p.client.phase ≡ true → is_asking p.client ≡ true → is_open p.server.phase ≡ true → Calls p.client p.server p.to_client
  -- what comes to a server inside returns no reading of its clock that is still to come
  pub returned : is_open p.server.phase ≡ true → Each (IsReturned p.server.clock) p.to_server
  -- a client that is outside for so long has a server that is outside, and nothing is under way
  pub waited : is_open p.client.phase ≡ false → p.client.closed_at + 5990 ≤ p.client.clock → (is_open p.server.phase ≡ false) × (p.to_client ≡ []) × (p.to_server ≡ [])

pub standing_in : (l : LinkState) → is_open l.phase ≡ true → standing l ≡ Inside (is_asking l) l.own_stamp l.partner_stamp
standing_in l e = ap (λ (b : Bool). if b then Inside (is_asking l) l.own_stamp l.partner_stamp else Outside l.closed_at) e

standing_out : (l : LinkState) → is_open l.phase ≡ false → standing l ≡ Outside l.closed_at
standing_out l e = ap (λ (b : Bool). if b then Inside (is_asking l) l.own_stamp l.partner_stamp else Outside l.closed_at) e

pub is_inside : (l : LinkState) → is_open l.phase ≡ true → IsInside (standing l)
is_inside l e = subst IsInside (sym (standing_in l e)) tt

is_outside : (l : LinkState) → is_open l.phase ≡ false → IsOutside (standing l)
is_outside l e = subst IsOutside (sym (standing_out l e)) tt

pub has_heard : (l : LinkState) → is_open l.phase ≡ true → is_asking l ≡ false → HasHeard (standing l)
has_heard l e joined_is = subst HasHeard (sym (standing_in l e ∙ ap (λ (b : Bool). Inside b l.own_stamp l.partner_stamp) joined_is)) tt

of_open : (link : LinkState) → is_open link.phase ≡ false → is_open link.phase ≡ true → ⊥
of_open link e f = cc

-- a server inside is in the connection that its client began last, whether or not this has left
pub is_newest : (names : Names) (ends : Ends) (timely : Timely names ends) → is_open ends.server.link.phase ≡ true
    → (ends.server.connection ≡ Some timely.newest) × (ends.client.connection ≡ Some timely.newest)
is_newest names ends timely opened = (timely.ends_timed.server.in_newest (is_inside ends.server.link opened), timely.ends_timed.begun (is_inside ends.server.link opened))

-- and the two are in order there
pub together_in : (names : Names) (ends : Ends) → Timely names ends → Ordered names ends → is_open ends.server.link.phase ≡ true → AreTogether names ends
together_in names ends timely ordered opened = of_order ordered
  where
    newest : (ends.server.connection ≡ Some timely.newest) × (ends.client.connection ≡ Some timely.newest)
    newest = is_newest names ends timely opened

    of_order : Ordered names ends → AreTogether names ends
    of_order (unbegun e) = let n = newest.1 in absurd (cc (e, n))
    of_order (alone a) = absurd (a.not_of_server (newest.0 ∙ sym newest.1 ∙ a.of_client))
    of_order (together t) = t

-- two ends inside are in one connection, in order
pub are_together : (names : Names) (ends : Ends) → Timely names ends → Ordered names ends → is_open ends.client.link.phase ≡ true → is_open ends.server.link.phase ≡ true → AreTogether names ends
are_together names ends timely ordered client_in server_in = together_in names ends timely ordered server_in

pub each_map : {X : Type 0} (P Q : X → Type 0) → ((x : X) → P x → Q x) → (xs : List X) → Each P xs → Each Q xs
each_map P Q f [] each = tt
each_map P Q f (x ∷ xs) each = (f x each.0, each_map P Q f xs each.1)

pub each_both : {X : Type 0} (P Q : X → Type 0) (xs : List X) → Each P xs → Each Q xs → Each (λ x. P x × Q x) xs
each_both P Q [] a b = tt
each_both P Q (x ∷ xs) a b = ((a.0, b.0), each_both P Q xs a.1 b.1)

-- the only PDU of a flow
only_place : (flow : List Pdu) (place : ℕ) (pdu : Pdu) → length flow ≡ 1 → IsAt place pdu flow → place ≡ 0
only_place [] place pdu one is = absurd is
only_place (first ∷ others) zero pdu one is = refl
only_place (first ∷ []) (suc place) pdu one is = absurd is
only_place (first ∷ (second ∷ others)) (suc place) pdu one is = absurd (omega (arith, one))

-- what holds of what each datagram of an end that can come is read as, holds of each PDU that comes
pub each_read : (key : Key) (Q : Pdu → Type 0) (who : Role) (time : ℕ) (ds : List Sent) (ps : List Pdu) → Each (λ d. d.sender ≡ who → can_come time d ≡ true → (pdu : Pdu) → reading key d.bytes ≡ Ok pdu → Q pdu) ds
    → AreRead key (bytes_from who (arriving time ds)) ps → Each Q ps
each_read key Q who time [] [] each are = tt
each_read key Q who time [] (p ∷ ps) each are = absurd are
each_read key Q who time (d ∷ ds) ps each are = by_coming (λ qs more. each_read key Q who time ds qs each.1 more) (can_come time d) refl are
  where
    Others : Type 0
    Others = (qs : List Pdu) → AreRead key (bytes_from who (arriving time ds)) qs → Each Q qs

    taken : Others → (qs : List Pdu) → d.sender ≡ who → can_come time d ≡ true → AreRead key (d.bytes ∷ bytes_from who (arriving time ds)) qs → Each Q qs
    taken others [] same can more = absurd more
    taken others (q ∷ qs) same can more = (each.0 same can q more.0, others qs more.1)

    by_sender : Others → (one other : Role) → one ≡ who → d.sender ≡ other → can_come time d ≡ true → AreRead key (chosen one other d.bytes (bytes_from who (arriving time ds))) ps → Each Q ps
    by_sender others Role.Client Role.Client e f can more = taken others ps (f ∙ e) can more
    by_sender others Role.Server Role.Server e f can more = taken others ps (f ∙ e) can more
    by_sender others Role.Client Role.Server e f can more = others ps more
    by_sender others Role.Server Role.Client e f can more = others ps more

    by_coming : Others → (b : Bool) → can_come time d ≡ b → AreRead key (bytes_from who (if b then d ∷ arriving time ds else arriving time ds)) ps → Each Q ps
    by_coming others false e more = others ps more
    by_coming others true e more = by_sender others who d.sender refl refl e more

answering : (body : Body) → IsSpeech body → IsAnswering Role.Client body
answering (ConnectionRequest o) is = is
answering (ConnectionResponse o) is = absurd is
answering RetransmissionRequest is = tt
answering RetransmissionResponse is = tt
answering (DisconnectionRequest d r) is = is
answering Heartbeat is = tt
answering (Data items) is = tt
answering (RetransmittedData items) is = tt

module _ (names : Names) (f : Flow) (p : Pair) (m : Mirrors names f p) (ordered : Ordered names f.ends) where
  abbrev timely : Timely names f.ends
  timely = m.timely

  abbrev times : Times
  times = times_of f.ends timely.of_client timely.of_server timely.newest

  client_clock : p.client.clock ≡ f.ends.client.clock / 1000
  client_clock = sym (ap (λ (l : LinkState). l.clock) m.client) ∙ timely.client.clock

  server_clock : p.server.clock ≡ f.ends.server.clock / 1000
  server_clock = sym (ap (λ (l : LinkState). l.clock) m.server) ∙ timely.server.clock

  abbrev c : LinkState
  c = f.ends.client.link

  abbrev s : LinkState
  s = f.ends.server.link

  -- how long ago what was returned last was sent, of an end inside
  client_time : is_open c.phase ≡ true → (1000 * c.own_stamp ≤ f.ends.client.clock) × (f.ends.client.clock < 1000 * (c.own_stamp + 1800)) × (f.ends.time ≤ timely.of_client.returned_at + 1801811)
  client_time is_in =
      let own : own_stamp (standing c) ≡ c.own_stamp = ap own_stamp (standing_in c is_in) in
      let read = timely.ends_timed.client.was_read (is_inside c is_in) in
      let reached = timely.ends_timed.client.reached (is_inside c is_in) in
      let behind = timely.ends_timed.client.small.behind in
      let young = timely.ends_timed.client.young (is_inside c is_in) in
      (omega (arith, own, reached), omega (arith, own, young), omega (arith, own, read, behind, young))

  server_time : is_open s.phase ≡ true → (1000 * s.own_stamp ≤ f.ends.server.clock) × (f.ends.server.clock < 1000 * (s.own_stamp + 1800)) × (f.ends.time ≤ timely.of_server.returned_at + 1801811)
  server_time is_in =
      let own : own_stamp (standing s) ≡ s.own_stamp = ap own_stamp (standing_in s is_in) in
      let read = timely.ends_timed.server.was_read (is_inside s is_in) in
      let reached = timely.ends_timed.server.reached (is_inside s is_in) in
      let behind = timely.ends_timed.server.small.behind in
      let young = timely.ends_timed.server.young (is_inside s is_in) in
      (omega (arith, own, reached), omega (arith, own, young), omega (arith, own, read, behind, young))

  pub young_client : is_open c.phase ≡ true → Young c
  young_client is_in = let t = client_time is_in in let at = timely.client.clock in record { own = omega (arith, t.0, at); young = omega (arith, t.1, at) }

  pub young_server : is_open s.phase ≡ true → Young s
  young_server is_in = let t = server_time is_in in let at = timely.server.clock in record { own = omega (arith, t.0, at); young = omega (arith, t.1, at) }

  client_keeps : is_open c.phase ≡ true → is_asking c ≡ false → is_open s.phase ≡ true → Kept c s
  client_keeps is_in joined_is server_in =
      let heard = has_heard c is_in joined_is in
      let read = timely.ends_timed.client_heard heard (is_inside s server_in) in
      let t = client_time is_in in
      let prompt = timely.ends_timed.client.prompt heard in
      let at = timely.server.clock in
      let reached = read.before in let most = read.most in let ahead = read.small.ahead in
      record {
        reading = timely.of_client.heard_clock;
        kept_is = sym (ap heard_stamp (standing_in c is_in)) ∙ timely.ends_timed.client.heard_is heard;
        before = omega (arith, reached, at);
        recent = omega (arith, most, ahead, prompt, t.2, at);
      }

  server_keeps : is_open s.phase ≡ true → is_asking s ≡ false → is_open c.phase ≡ true → Kept s c
  server_keeps is_in joined_is client_in =
      let heard = has_heard s is_in joined_is in
      let read = timely.ends_timed.server_heard heard (is_inside c client_in) in
      let t = server_time is_in in
      let prompt = timely.ends_timed.server.prompt heard in
      let at = timely.client.clock in
      let reached = read.before in let most = read.most in let ahead = read.small.ahead in
      record {
        reading = timely.of_server.heard_clock;
        kept_is = sym (ap heard_stamp (standing_in s is_in)) ∙ timely.ends_timed.server.heard_is heard;
        before = omega (arith, reached, at);
        recent = omega (arith, most, ahead, prompt, t.2, at);
      }

  server_joined : is_open s.phase ≡ true → is_asking s ≡ false
  server_joined is_in = not_client s (ap (λ i. i.role) timely.server.identity)
    where
      not_client : (l : LinkState) → l.identity.role ≡ Role.Server → is_asking l ≡ false
      not_client l e = grind (arith, e)

  both_share : is_open c.phase ≡ true → is_asking c ≡ false → is_open s.phase ≡ true → Shares c s × Shares s c
  both_share client_in client_joined server_in = of_order (are_together names f.ends timely ordered client_in server_in)
    where
      plays_in : (l : LinkState) (own other : EndFlow) → is_open l.phase ≡ true → is_asking l ≡ false → Plays l own other → HasJoined l own other
      plays_in l own other is_in joined_is (joined h) = h
      plays_in l own other is_in joined_is (asking a) = absurd (cc (a.asking, joined_is))
      plays_in l own other is_in joined_is (left out keeps) = absurd (of_open l out is_in)

      of_order : AreTogether names f.ends → Shares c s × Shares s c
      of_order t =
          let x = plays_in c t.client t.server client_in client_joined t.client_plays in
          let y = plays_in s t.server t.client server_in (server_joined server_in) t.server_plays in
          let there = t.order.back.counts in let back = t.order.there.counts in (
            record {
              first = x.partner_first ∙ sym y.inside.own_first;
              some = omega (arith, x.expected, there.some);
              most = omega (arith, x.expected, there.most, y.inside.counted);
              fits = omega (arith, x.inside.counted, x.inside.room);
              kept = client_keeps client_in client_joined server_in;
            },
            record {
              first = y.partner_first ∙ sym x.inside.own_first;
              some = omega (arith, y.expected, back.some);
              most = omega (arith, y.expected, back.most, x.inside.counted);
              fits = omega (arith, y.inside.counted, y.inside.room);
              kept = server_keeps server_in (server_joined server_in) client_in;
            },
          )

  left_in_newest : is_open c.phase ≡ true → is_open s.phase ≡ false → f.ends.server.connection ≡ Some timely.newest → s.clock ≤ s.closed_at + 1804
  left_in_newest client_in server_out entered =
      let t = client_time client_in in
      let lone = timely.ends_timed.client_alone (is_inside c client_in) (is_outside s server_out) entered in
      let apart = timely.ends_timed.server.apart (is_outside s server_out) in
      let ahead = timely.ends_timed.server.small.ahead in
      let closed = timely.ends_timed.server.closed (is_outside s server_out) ∙ ap closed_at (standing_out s server_out) in
      let at = timely.server.clock in
      omega (arith, t.2, lone, apart, ahead, closed, at)

  left_alone : is_open c.phase ≡ true → is_asking c ≡ false → is_open s.phase ≡ false → s.clock ≤ s.closed_at + 1804
  left_alone client_in client_joined server_out = left_in_newest client_in server_out (timely.ends_timed.joined (has_heard c client_in client_joined))

  -- how long ago a client that is outside left, by true time
  long_ago : is_open c.phase ≡ false → c.closed_at + 5990 ≤ c.clock → timely.of_client.left_at + 5983000 ≤ f.ends.time
  long_ago client_out long =
      let apart = timely.ends_timed.client.apart (is_outside c client_out) in
      let ahead = timely.ends_timed.client.small.ahead in
      let closed = timely.ends_timed.client.closed (is_outside c client_out) ∙ ap closed_at (standing_out c client_out) in
      let at = timely.client.clock in
      omega (arith, apart, ahead, closed, at, long)

  server_gone : is_open c.phase ≡ false → c.closed_at + 5990 ≤ c.clock → is_open s.phase ≡ false
  server_gone client_out long = choose (is_open s.phase) refl
    where
      choose : (b : Bool) → is_open s.phase ≡ b → is_open s.phase ≡ false
      choose false e = e
      choose true e =
          let lone = timely.ends_timed.server_alone (is_inside s e) (is_outside c client_out) in
          let t = server_time e in
          absurd (omega (arith, lone, t.2, long_ago client_out long))

  nothing_comes : is_open c.phase ≡ false → c.closed_at + 5990 ≤ c.clock → pending f ≡ []
  nothing_comes client_out long = none (drop f.passed f.ends.sent) (each_drop (InFlight names times) f.passed f.ends.sent timely.datagrams)
    where
      ago : timely.of_client.left_at + 5983000 ≤ f.ends.time
      ago = long_ago client_out long

      by_sender : (who : Role) (d : Sent) (pdu : Pdu) (back : ℕ) → IsKnown times who d.at d.connection pdu back → d.connection ≡ timely.newest → d.at < timely.of_client.left_at + 3802000
      by_sender Role.Client d pdu back known newest = let w = known.last_word newest (is_outside c client_out) in omega (arith, w)
      by_sender Role.Server d pdu back known newest = known.lonely newest tt (is_outside c client_out)

      old : (d : Sent) → InFlight names times d → can_come (f.ends.time + 10000) d ≡ false
      old d flies = choose (can_come (f.ends.time + 10000) d) refl
        where
          both_true : (a b : Bool) → (a && b) ≡ true → b ≡ true
          both_true true b e = e
          both_true false b e = cc

          choose : (b : Bool) → can_come (f.ends.time + 10000) d ≡ b → can_come (f.ends.time + 10000) d ≡ false
          choose false e = e
          choose true e =
              let g = leb-true _ _ (both_true (not d.is_lost) (nat_le (f.ends.time + 10000) (d.at + lifetime)) e) in
              absurd (in_new (λ newest. omega (arith, g, ago, by_sender d.sender d flies.pdu flies.back flies.known newest)) (λ h. let i = flies.known.dead h in omega (arith, g, i)))
            where
              in_new : ((d.connection ≡ timely.newest) → ⊥) → ((d.connection ≢ timely.newest) → ⊥) → ⊥
              in_new a b = b a

      none : (ds : List Sent) → Each (InFlight names times) ds → arriving (f.ends.time + 10000) ds ≡ []
      none [] each = refl
      none (d ∷ ds) each = ap (λ (b : Bool). if b then d ∷ arriving (f.ends.time + 10000) ds else arriving (f.ends.time + 10000) ds) (old d each.0) ∙ none ds each.1

  none_read : (key : Key) (bs : List (List ℕ)) (ps : List Pdu) → bs ≡ [] → AreRead key bs ps → ps ≡ []
  none_read key [] [] e are = refl
  none_read key [] (q ∷ ps) e are = absurd are
  none_read key (b ∷ bs) ps e are = cc

  -- a datagram that can come is of the newest connection
  pub in_newest : (d : Sent) → InFlight names times d → can_come (f.ends.time + 10000) d ≡ true → (d.connection ≡ timely.newest) × (f.ends.time + 10000 ≤ d.at + lifetime)
  in_newest d flies e = (choose (nat_le d.connection timely.newest) (nat_le timely.newest d.connection) refl refl, late)
    where
      both_true : (a b : Bool) → (a && b) ≡ true → b ≡ true
      both_true true b e = e
      both_true false b e = cc

      late : f.ends.time + 10000 ≤ d.at + lifetime
      late = leb-true _ _ (both_true (not d.is_lost) (nat_le (f.ends.time + 10000) (d.at + lifetime)) e)

      alive : (d.connection ≢ timely.newest) → d.connection ≡ timely.newest
      alive other = let i = flies.known.dead other in absurd (omega (arith, late, i))

      choose : (a b : Bool) → nat_le d.connection timely.newest ≡ a → nat_le timely.newest d.connection ≡ b → d.connection ≡ timely.newest
      choose true true e f = omega (arith, leb-true _ _ e, leb-true _ _ f)
      choose true false e f = alive (λ same. omega (arith, leb-false _ _ f, same))
      choose false b e f = alive (λ same. omega (arith, leb-false _ _ e, same))

  -- a server that is outside, but has said something that comes
  server_called : is_open c.phase ≡ true → is_open s.phase ≡ false → (d : Sent) → InFlight names times d → d.sender ≡ Role.Server → can_come (f.ends.time + 10000) d ≡ true → (pdu : Pdu) → reading names.key d.bytes ≡ Ok pdu → IsLately s pdu
  server_called client_in server_out d flies sender can pdu read = of_sender d.sender sender flies.known
    where
      of_sender : (who : Role) → who ≡ Role.Server → IsKnown times who d.at d.connection flies.pdu flies.back → s.clock ≤ s.closed_at + 1804
      of_sender Role.Client e known = absurd (cc e)
      of_sender Role.Server e known = left_in_newest client_in server_out (known.entered (in_newest d flies can).0 tt)

  calls_client : is_open c.phase ≡ true → is_open s.phase ≡ false → Each (IsLately s) p.to_client
  calls_client client_in server_out = each_read names.key (IsLately s) Role.Server (f.ends.time + 10000) (drop f.passed f.ends.sent) p.to_client
      (each_map (InFlight names times) _ (λ d flies. server_called client_in server_out d flies) (drop f.passed f.ends.sent) (each_drop (InFlight names times) f.passed f.ends.sent timely.datagrams)) m.to_client

  -- a server that has entered the connection of a client that asks
  called_in : is_open c.phase ≡ true → is_asking c ≡ true → is_open s.phase ≡ true → Calls c s p.to_client
  called_in client_in asks server_in = of_order (are_together names f.ends timely ordered client_in server_in)
    where
      newest_server : f.ends.server.connection ≡ Some timely.newest
      newest_server = timely.ends_timed.server.in_newest (is_inside s server_in)

      of_order : AreTogether names f.ends → Calls c s p.to_client
      of_order t = by_plays t.client_plays t.server_plays
        where
          in_it : (l : LinkState) (own other : EndFlow) → is_open l.phase ≡ true → is_asking l ≡ false → Plays l own other → HasJoined l own other
          in_it l own other is_in joined_is (joined h) = h
          in_it l own other is_in joined_is (asking a) = absurd (cc (a.asking, joined_is))
          in_it l own other is_in joined_is (left out keeps) = absurd (of_open l out is_in)

          newest_is : t.connection ≡ timely.newest
          newest_is = cc (t.of_server, newest_server)

          both : HasJoined s t.server t.client → IsStillAsking c t.client t.server → Calls c s p.to_client
          both y a = record {
            down = down (is_up s.phase) refl;
            most = omega (arith, y.expected, t.order.there.counts.most, a.inside.counted);
            some = omega (arith, a.inside.counted, a.inside.alone a.asking);
            said = omega (arith, y.inside.counted, one);
            alone = omega (arith, y.inside.counted, one);
            partner = y.partner_first ∙ sym a.inside.own_first;
            first = each_read names.key (IsFirst s) Role.Server (f.ends.time + 10000) (drop f.passed f.ends.sent) p.to_client
                (each_map _ _ (λ d known. first_of d known.0 known.1) (drop f.passed f.ends.sent) (each_drop _ f.passed f.ends.sent (each_both (InFlight names times) (IsSpelledIn names Role.Server t.connection t.server.flow) f.ends.sent timely.datagrams t.server_flow))) m.to_client;
          }
            where
              down : (b : Bool) → is_up s.phase ≡ b → is_up s.phase ≡ false
              down false e = e
              down true e = absurd (heard (y.come.heard e))
                where
                  heard : BeginsByResponse t.client.flow ⊎ ((2 ≤ length t.client.flow) × OpensOn t.client.flow) → ⊥
                  heard (inl begins) = a.client begins
                  heard (inr more) = omega (arith, more.0, a.inside.alone a.asking)

              one : length t.server.flow ≡ 1
              one = (y.come.starting (down (is_up s.phase) refl)).0

              first_of : (d : Sent) → InFlight names times d → IsSpelledIn names Role.Server t.connection t.server.flow d → d.sender ≡ Role.Server → can_come (f.ends.time + 10000) d ≡ true → (pdu : Pdu) → reading names.key d.bytes ≡ Ok pdu → IsFirst s pdu
              first_of d flies spelled sender can pdu read = of_sender d.sender sender flies.known
                where
                  newest : (d.connection ≡ timely.newest) × (f.ends.time + 10000 ≤ d.at + lifetime)
                  newest = in_newest d flies can

                  place : IsOf pdu t.server.flow
                  place = spelled sender (newest.0 ∙ sym newest_is) pdu read

                  numbered : pdu.sequence_number ≡ wire t.server.first 0
                  numbered = (t.order.back.each place.0 pdu place.1).number ∙ ap (wire t.server.first) (only_place t.server.flow place.0 pdu one place.1)

                  same : flies.pdu ≡ pdu
                  same = cc (flies.read, read)

                  of_sender : (who : Role) → who ≡ Role.Server → IsKnown times who d.at d.connection flies.pdu flies.back → IsFirst s pdu
                  of_sender Role.Client e known = absurd (cc e)
                  of_sender Role.Server e known =
                      let then_read = known.was_read newest.0 (is_inside s server_in) in
                      let reached = then_read.before in let most = then_read.most in let ahead = then_read.small.ahead in let soon = newest.1 in let at = timely.server.clock in record {
                        number = numbered ∙ ap (λ (n : ℕ). wire n 0) (sym y.inside.own_first);
                        read_as = known.read_as;
                        stamped = sym (ap (λ (x : Pdu). x.time_stamp) same) ∙ known.stamp_is;
                        before = omega (arith, reached, at);
                        recent = omega (arith, most, ahead, soon, at);
                      }

          by_plays : Plays c t.client t.server → Plays s t.server t.client → Calls c s p.to_client
          by_plays (asking a) served = both (in_it s t.server t.client server_in (server_joined server_in) served) a
          by_plays (joined h) served = absurd (cc (h.joined, asks))
          by_plays (left out keeps) served = absurd (of_open c out client_in)

  -- what comes to a server
  returned_to_server : is_open s.phase ≡ true → (d : Sent) → InFlight names times d → d.sender ≡ Role.Client → can_come (f.ends.time + 10000) d ≡ true → (pdu : Pdu) → reading names.key d.bytes ≡ Ok pdu → IsReturned p.server.clock pdu
  returned_to_server server_in d flies sender can pdu read speech = of_sender d.sender sender flies.known
    where
      same : flies.pdu ≡ pdu
      same = cc (flies.read, read)

      of_sender : (who : Role) → who ≡ Role.Client → IsKnown times who d.at d.connection flies.pdu flies.back → (q : ℕ) × (pdu.confirmed_time_stamp ≡ stamp q) × (q ≤ p.server.clock) × (p.server.clock < q + 10000)
      of_sender Role.Server e known = absurd (cc e)
      of_sender Role.Client e known =
          let newest = in_newest d flies can in
          let answers : IsAnswering Role.Client flies.pdu.body = answering flies.pdu.body (subst (λ (x : Pdu). IsSpeech x.body) (sym same) speech) in
          let then_read = known.returns newest.0 answers (is_inside s server_in) in
          let reached = then_read.before in let most = then_read.most in let ahead = then_read.small.ahead in let prompt = known.promptly answers in let soon = newest.1 in
          (known.returned, sym (ap (λ (x : Pdu). x.confirmed_time_stamp) same) ∙ known.returned_is answers, omega (arith, reached, server_clock), omega (arith, most, ahead, prompt, soon, server_clock))

  returns_to_server : is_open s.phase ≡ true → Each (IsReturned p.server.clock) p.to_server
  returns_to_server server_in = each_read names.key (IsReturned p.server.clock) Role.Client (f.ends.time + 10000) (drop f.passed f.ends.sent) p.to_server
      (each_map (InFlight names times) _ (λ d flies. returned_to_server server_in d flies) (drop f.passed f.ends.sent) (each_drop (InFlight names times) f.passed f.ends.sent timely.datagrams)) m.to_server

  pub facts : Facts names p
  facts = record {
    client = sym (ap (λ (l : LinkState). l.identity) m.client) ∙ timely.client.identity;
    server = sym (ap (λ (l : LinkState). l.identity) m.server) ∙ timely.server.identity;
    client_young = subst (λ (l : LinkState). is_open l.phase ≡ true → Young l) m.client young_client;
    server_young = subst (λ (l : LinkState). is_open l.phase ≡ true → Young l) m.server young_server;
    shares = subst (λ (l : LinkState). is_open l.phase ≡ true → is_asking l ≡ false → is_open p.server.phase ≡ true → Shares l p.server × Shares p.server l) m.client
        (subst (λ (k : LinkState). is_open c.phase ≡ true → is_asking c ≡ false → is_open k.phase ≡ true → Shares c k × Shares k c) m.server both_share);
    alone = subst (λ (l : LinkState). is_open l.phase ≡ true → is_asking l ≡ false → is_open p.server.phase ≡ false → p.server.clock ≤ p.server.closed_at + 1804) m.client
        (subst (λ (k : LinkState). is_open c.phase ≡ true → is_asking c ≡ false → is_open k.phase ≡ false → k.clock ≤ k.closed_at + 1804) m.server left_alone);
    called = λ client_in server_out. subst (λ (l : LinkState). Each (IsLately l) p.to_client) m.server
        (calls_client (ap (λ (l : LinkState). is_open l.phase) m.client ∙ client_in) (ap (λ (l : LinkState). is_open l.phase) m.server ∙ server_out));
    calls = subst (λ (l : LinkState). is_open l.phase ≡ true → is_asking l ≡ true → is_open p.server.phase ≡ true → Calls l p.server p.to_client) m.client
        (subst (λ (k : LinkState). is_open c.phase ≡ true → is_asking c ≡ true → is_open k.phase ≡ true → Calls c k p.to_client) m.server called_in);
    returned = λ server_in. returns_to_server (ap (λ (l : LinkState). is_open l.phase) m.server ∙ server_in);
    waited = subst (λ (l : LinkState). is_open l.phase ≡ false → l.closed_at + 5990 ≤ l.clock → (is_open p.server.phase ≡ false) × (p.to_client ≡ []) × (p.to_server ≡ [])) m.client
        (λ client_out long. (
          ap (λ (l : LinkState). is_open l.phase) (sym m.server) ∙ server_gone client_out long,
          none_read names.key _ p.to_client (ap (bytes_from Role.Server) (nothing_comes client_out long)) m.to_client,
          none_read names.key _ p.to_server (ap (bytes_from Role.Client) (nothing_comes client_out long)) m.to_server,
        ));
  }
