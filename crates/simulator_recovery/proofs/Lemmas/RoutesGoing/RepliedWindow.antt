-- What waits at a server that has taken all that its client gave is news to the client as it gave the last of that.
use Rattle.simulator_recovery.proofs.Words.Basics.{◌≡◌, inl, inr, ℕ, zero, suc, ◌∙◌, ◌+◌, ◌-◌, ◌^◌, ◌≤◌, ◌<◌, Bool, true, false, nat_le, List, [], ◌∷◌, ◌++◌, length, take, Some, Ok, if◌then◌else◌, refl, sym, ap, subst, arith, leb-false, eqb-true, false≢true, same_Some}
use Rattle.simulator_recovery.proofs.Words.Links.{receiving, IsAt, IsOf, sent as sent_in, EndState, Sent, reading_of, IsAmong, IsDelivered, Each, InFlight, Timely, HasJoined, Plays, joined, left, AreNames, Names, identity_of, name_of, IsSent, IsUnanswered, Rises, AreTogether, IsSpelledIn, Ordered, alone, together, unbegun, ahead, behind, still_waiting, Ends, before, distance, wire, LinkState, is_asking, is_client, is_open, times_of, Identity, Role, Phase, Unconfirmed, reading, Body, ConnectionRequest, ConnectionResponse, Data, DisconnectionRequest, Heartbeat, RetransmissionRequest, RetransmissionResponse, RetransmittedData, Key, Pdu}
use Rattle.simulator_spec.specs.rasta_core.EndFlow.{later as waiting_from}
use Rattle.simulator_spec.specs.rasta_core.LinkAndFlow.{asking}
use Rattle.simulator_recovery.proofs.Lemmas.RoutesGoing.RepliedReceipt.{CarriesItems, IsAtHome, TakesOne, takes_one}

-- ---- numbers and lists

most_taken : {X : Type 0} (n : ℕ) (list : List X) → length (take n list) ≤ n
most_taken zero list = omega arith
most_taken (suc n) [] = omega arith
most_taken (suc n) (first ∷ others) = let few = most_taken n others in omega (arith, few)

all_later : (low high number : ℕ) (waiting : List Unconfirmed) → Rises low high waiting → number ≤ low → waiting_from number waiting ≡ length waiting
all_later low high number [] rises below = refl
all_later low high number (first ∷ others) rises below = choose (nat_le number first.tag) refl (all_later (first.tag + 1) high number others rises.2 (omega (arith, rises.0, below)))
  where
    choose : (a : Bool) → nat_le number first.tag ≡ a → waiting_from number others ≡ length others → (if a then suc (waiting_from number others) else waiting_from number others) ≡ suc (length others)
    choose true e all = ap suc all
    choose false e all = absurd (omega (arith, leb-false _ _ e, rises.0, below))

-- what still waits waits above what is confirmed
still_above : (confirmed low high : ℕ) (waiting : List Unconfirmed) → Rises low high waiting → length (still_waiting confirmed waiting) ≤ waiting_from (confirmed + 1) waiting
unfolding still_waiting
still_above confirmed low high [] rises = omega arith
still_above confirmed low high (first ∷ others) rises = choose (nat_le first.tag confirmed) refl (nat_le (confirmed + 1) first.tag) refl (still_above confirmed (first.tag + 1) high others rises.2)
  where
    choose : (a : Bool) → nat_le first.tag confirmed ≡ a → (b : Bool) → nat_le (confirmed + 1) first.tag ≡ b → length (still_waiting confirmed others) ≤ waiting_from (confirmed + 1) others
        → length (if a then still_waiting confirmed others else first ∷ others) ≤ (if b then suc (waiting_from (confirmed + 1) others) else waiting_from (confirmed + 1) others)
    choose true e true f few = omega (arith, few)
    choose true e false f few = few
    choose false e true f few = let all = all_later (first.tag + 1) high (confirmed + 1) others rises.2 (omega (arith, leb-false _ _ e)) in omega (arith, all)
    choose false e false f few = absurd (omega (arith, leb-false _ _ e, leb-false _ _ f))

-- where none waits from a number on, the last one waits below it
last_below : (number : ℕ) (waiting : List Unconfirmed) (last : Unconfirmed) → waiting_from number (waiting ++ last ∷ []) ≡ 0 → last.tag < number
last_below number [] last none = choose (nat_le number last.tag) refl none
  where
    choose : (a : Bool) → nat_le number last.tag ≡ a → (if a then suc 0 else 0) ≡ 0 → last.tag < number
    choose true e f = absurd (omega (arith, f))
    choose false e f = leb-false _ _ e
last_below number (first ∷ others) last none = choose (nat_le number first.tag) none (last_below number others last)
  where
    choose : (a : Bool) → (if a then suc (waiting_from number (others ++ last ∷ [])) else waiting_from number (others ++ last ∷ [])) ≡ 0 → (waiting_from number (others ++ last ∷ []) ≡ 0 → last.tag < number) → last.tag < number
    choose true f below = absurd (omega (arith, f))
    choose false f below = below f

-- numbers of fewer than 2^31 PDUs
behind_is : (first sent expected : ℕ) → 1 ≤ expected → expected ≤ sent → sent < 2 ^ 31 → sent - 1 - distance (wire first (before expected)) (wire first (before sent)) ≡ expected - 1
behind_is first sent expected some most fits = omega arith

ahead_none : (first expected place : ℕ) → expected < 2 ^ 31 → place < 2 ^ 31 → distance (wire first expected) (wire first place) ≡ 0 → place ≡ expected
ahead_none first expected place e p d = omega (arith, d)

wire_once : (first one other : ℕ) → one < 2 ^ 31 → other < 2 ^ 31 → wire first one ≡ wire first other → one ≡ other
wire_once first one other fits also same = omega (arith, same)

next_one : (expected : ℕ) → expected < 2 ^ 31 → wire expected (0 + 1) ≡ expected + 1
next_one expected fits = omega arith

within_flow : (place : ℕ) (pdu : Pdu) (flow : List Pdu) → IsAt place pdu flow → place < length flow
within_flow place pdu [] at = absurd at
within_flow zero pdu (first ∷ flow) at = omega arith
within_flow (suc place) pdu (first ∷ flow) at = let lt = within_flow place pdu flow at in omega (arith, lt)

one_at : (place : ℕ) (one other : Pdu) (flow : List Pdu) → IsAt place one flow → IsAt place other flow → one ≡ other
one_at place one other [] at also = absurd at
one_at zero one other (first ∷ flow) at also = sym at ∙ also
one_at (suc place) one other (first ∷ flow) at also = one_at place one other flow at also

among : (P : Sent → Type 0) (datagram : Sent) (list : List Sent) → IsAmong datagram list → Each P list → P datagram
among P datagram [] is each = absurd is
among P datagram (first ∷ others) (inl same) each = subst P same each.0
among P datagram (first ∷ others) (inr is) each = among P datagram others is each.1

-- ---- what a client gave last

-- The item that a client gave last waits under its last PDU, which confirms all that the client had taken then, and now.
pub record GaveLast (names : Names) (connection : ℕ) (link : LinkState) (sent : List Sent) : Type 0 where
  pub others : List Unconfirmed
  pub last : Unconfirmed
  pub waits : link.waiting ≡ others ++ last ∷ []
  pub under : link.sent ≡ last.tag + 1
  pub datagram : Sent
  pub is_sent : IsAmong datagram sent
  pub sender : datagram.sender ≡ Role.Client
  pub of : datagram.connection ≡ connection
  pub pdu : Pdu
  pub read : reading names.key datagram.bytes ≡ Ok pdu
  pub number : pdu.sequence_number ≡ wire link.own_first last.tag
  pub confirms : pdu.confirmed_sequence_number ≡ wire link.partner_first (before link.expected)

-- ---- two ends

never_asks : (l : LinkState) → is_client l.identity.role ≡ false → is_asking l ≡ false
never_asks l e = by_phase l.phase refl
  where
    by_phase : (at : Phase) → l.phase ≡ at → is_asking l ≡ false
    by_phase Phase.Start f = grind (arith, f, e)
    by_phase Phase.Closed f = grind (arith, f)
    by_phase Phase.Up f = grind (arith, f)
    by_phase Phase.RetransmissionRequested f = grind (arith, f)
    by_phase Phase.RetransmissionRunning f = grind (arith, f)

together_in : (names : Names) (ends : Ends) (connection : ℕ) → Ordered names ends → ends.client.connection ≡ Some connection → ends.server.connection ≡ Some connection → AreTogether names ends
together_in names ends connection (unbegun e) client server = absurd (cc (e, client))
together_in names ends connection (alone a) client server = absurd (a.not_of_server (server ∙ sym client ∙ a.of_client))
together_in names ends connection (together t) client server = t

-- both ends of a link in a connection
pub record AreBoth (names : Names) (connection : ℕ) (ends : Ends) : Type 0 where
  pub timely : Timely names ends
  pub ordered : Ordered names ends
  pub client_at : ends.client.connection ≡ Some connection
  pub server_at : ends.server.connection ≡ Some connection
  pub client_in : is_open ends.client.link.phase ≡ true
  pub server_in : is_open ends.server.link.phase ≡ true
  pub asks : is_asking ends.client.link ≡ false

module _ (names : Names) (connection : ℕ) (ends : Ends) (b : AreBoth names connection ends) where
  t : AreTogether names ends
  t = together_in names ends connection b.ordered b.client_at b.server_at

  server_role : is_client ends.server.link.identity.role ≡ false
  server_role = ap (λ (i : Identity). is_client i.role) b.timely.server.identity

  server_joined : HasJoined ends.server.link t.server t.client
  server_joined = choose t.server_plays
    where
      choose : Plays ends.server.link t.server t.client → HasJoined ends.server.link t.server t.client
      choose (joined has) = has
      choose (asking on) = absurd (false≢true (sym (never_asks ends.server.link server_role) ∙ on.asking))
      choose (left shut keeps) = absurd (false≢true (sym shut ∙ b.server_in))

  client_joined : HasJoined ends.client.link t.client t.server
  client_joined = choose t.client_plays
    where
      choose : Plays ends.client.link t.client t.server → HasJoined ends.client.link t.client t.server
      choose (joined has) = has
      choose (asking on) = absurd (false≢true (sym b.asks ∙ on.asking))
      choose (left shut keeps) = absurd (false≢true (sym shut ∙ b.client_in))

  client_fits : ends.client.link.sent < 2 ^ 31
  client_fits = let c = client_joined.inside.counted in let f = t.order.there.counts.fits in omega (arith, c, f)

  server_fits : ends.server.link.sent < 2 ^ 31
  server_fits = let c = server_joined.inside.counted in let f = t.order.back.counts.fits in omega (arith, c, f)

  expected_most : ends.server.link.expected ≤ ends.client.link.sent
  expected_most = let e = server_joined.expected in let m = t.order.there.counts.most in let c = client_joined.inside.counted in omega (arith, e, m, c)

  -- a server that has taken all that its client gave
  all_taken : length ends.client.given ≤ length ends.server.taken → waiting_from ends.server.link.expected ends.client.link.waiting ≡ 0
  all_taken all =
      let level = t.order.there.level
      in let w = ap (waiting_from t.server.reached) client_joined.inside.keeps.waiting
      in let e = ap (λ (n : ℕ). waiting_from n ends.client.link.waiting) server_joined.expected
      in let g = ap length t.client_given
      in let took = ap length (sym t.server_taken ∙ t.order.there.taken)
      in let m = most_taken (t.client.passed t.server.reached) t.client.given
      in omega (arith, level, w, e, g, took, m, all)

  -- what the server gave and the client hasn't taken waits from the PDU on that the client expects
  news : waiting_from ends.client.link.expected ends.server.link.waiting + length ends.client.taken ≤ length ends.server.given
  news =
      let level = t.order.back.level
      in let w = ap (waiting_from t.client.reached) server_joined.inside.keeps.waiting
      in let e = ap (λ (n : ℕ). waiting_from n ends.server.link.waiting) client_joined.expected
      in let g = ap length t.server_given
      in let took = ap length (sym t.client_taken ∙ t.order.back.taken)
      in let m = most_taken (t.server.passed t.client.reached) t.server.given
      in omega (arith, level, w, e, g, took, m)

-- ---- the server takes the last item

not_unanswered : (flow : List Pdu) (place : ℕ) (body : Body) → CarriesItems body → IsUnanswered flow place body → ⊥
not_unanswered flow place (Data x) carries (inl request) = request
not_unanswered flow place (Data x) carries (inr closing) = closing.1
not_unanswered flow place (RetransmittedData x) carries (inl request) = request
not_unanswered flow place (RetransmittedData x) carries (inr closing) = closing.1
not_unanswered flow place (ConnectionRequest o) carries is = carries
not_unanswered flow place (ConnectionResponse o) carries is = carries
not_unanswered flow place RetransmissionRequest carries is = carries
not_unanswered flow place RetransmissionResponse carries is = carries
not_unanswered flow place (DisconnectionRequest d r) carries is = carries
not_unanswered flow place Heartbeat carries is = carries

module _ (names : Names) (are : AreNames names) (connection : ℕ) (ends : Ends) (b : AreBoth names connection ends) (gave : GaveLast names connection ends.client.link ends.sent)
    (bytes : List ℕ) (datagram : Sent) (delivered : IsDelivered ends bytes connection datagram) (home : IsAtHome (reading_of ends.server.clock) ends.server.link)
    (some : (receiving (reading_of ends.server.clock) bytes ends.server.link).items ≡ [] → ⊥) where
  abbrev now : ℕ
  now = reading_of ends.server.clock

  abbrev l : LinkState
  l = ends.server.link

  abbrev after : LinkState
  after = (receiving (reading_of ends.server.clock) bytes ends.server.link).link

  one : TakesOne now bytes l
  one = takes_one now l home bytes (server_role names connection ends b) some

  abbrev p : Pdu
  p = one.pdu

  abbrev both : AreTogether names ends
  both = t names connection ends b

  abbrev server : HasJoined ends.server.link both.server both.client
  server = server_joined names connection ends b

  abbrev client : HasJoined ends.client.link both.client both.server
  client = client_joined names connection ends b

  identity_is : l.identity ≡ identity_of Role.Server names
  identity_is = b.timely.server.identity

  reads : reading names.key bytes ≡ Ok p
  reads = subst (λ (key : Key). reading key bytes ≡ Ok p) (ap (λ (i : Identity). i.key) identity_is) one.read

  from : p.sender ≡ name_of Role.Client names
  from = eqb-true p.sender l.identity.partner one.takes.sender ∙ ap (λ (i : Identity). i.partner) identity_is

  flies : InFlight names (times_of ends b.timely.of_client b.timely.of_server b.timely.newest) datagram
  flies = among (InFlight names (times_of ends b.timely.of_client b.timely.of_server b.timely.newest)) datagram ends.sent delivered.was_sent b.timely.datagrams

  read_there : reading names.key datagram.bytes ≡ Ok p
  read_there = subst (λ (x : List ℕ). reading names.key x ≡ Ok p) (sym delivered.bytes_same) reads

  of_client : datagram.sender ≡ Role.Client
  of_client = by_role datagram.sender refl
    where
      same : flies.pdu ≡ p
      same = let f = flies.read in let r = read_there in cc

      by_role : (s : Role) → datagram.sender ≡ s → s ≡ Role.Client
      by_role Role.Client e = refl
      by_role Role.Server e = absurd (are.differ (sym from ∙ (ap (λ (q : Pdu). q.sender) (sym same) ∙ flies.sender ∙ ap (λ (r : Role). name_of r names) e)))

  spelled : IsOf p both.client.flow
  spelled = among (IsSpelledIn names Role.Client both.connection both.client.flow) datagram ends.sent delivered.was_sent both.client_flow of_client
      (delivered.connection_same ∙ same_Some connection both.connection (sym b.client_at ∙ both.of_client)) p read_there

  made : IsSent both.client both.server.first spelled.0 p
  made = both.order.there.each spelled.0 p spelled.1

  first_is : l.partner_first ≡ both.client.first
  first_is = server.partner_first

  spelled_fits : spelled.0 < 2 ^ 31
  spelled_fits = let w = within_flow spelled.0 p both.client.flow spelled.1 in let f = both.order.there.counts.fits in omega (arith, w, f)

  expected_fits : l.expected < 2 ^ 31
  expected_fits = let m = expected_most names connection ends b in let f = client_fits names connection ends b in omega (arith, m, f)

  -- it stands where the server expects it
  stands : spelled.0 ≡ l.expected
  unfolding ahead
  stands = ahead_none both.client.first l.expected spelled.0 expected_fits spelled_fits
      (ap (distance (wire both.client.first l.expected)) (sym made.number) ∙ ap (λ (f : ℕ). distance (wire f l.expected) p.sequence_number) (sym first_is) ∙ one.takes.next)

  moves : after.expected ≡ l.expected + 1
  moves = one.takes.expected ∙ (ap (λ (n : ℕ). wire l.expected (n + 1)) one.takes.next ∙ next_one l.expected expected_fits)

  -- the one that the client gave last
  gave_of : IsOf gave.pdu both.client.flow
  gave_of = among (IsSpelledIn names Role.Client both.connection both.client.flow) gave.datagram ends.sent gave.is_sent both.client_flow gave.sender
      (gave.of ∙ same_Some connection both.connection (sym b.client_at ∙ both.of_client)) gave.pdu gave.read

  gave_stands : gave_of.0 ≡ gave.last.tag
  gave_stands =
      let made_then = both.order.there.each gave_of.0 gave.pdu gave_of.1
      in let w = within_flow gave_of.0 gave.pdu both.client.flow gave_of.1
      in let f = both.order.there.counts.fits
      in let u = gave.under
      in let c = client_fits names connection ends b
      in wire_once both.client.first gave_of.0 gave.last.tag (omega (arith, w, f)) (omega (arith, u, c))
      (sym made_then.number ∙ gave.number ∙ ap (λ (x : ℕ). wire x gave.last.tag) client.inside.own_first)

  -- where all is taken after it, this is the one that came
  module _ (last_one : after.expected ≡ ends.client.link.sent) where
    same_place : spelled.0 ≡ gave_of.0
    same_place = let s = stands in let m = moves in let u = gave.under in let g = gave_stands in omega (arith, s, m, u, g, last_one)

    same_pdu : p ≡ gave.pdu
    same_pdu = one_at gave_of.0 p gave.pdu both.client.flow (subst (λ (n : ℕ). IsAt n p both.client.flow) same_place spelled.1) gave_of.1

    confirmed_is : l.sent - 1 - behind p l ≡ ends.client.link.expected - 1
    unfolding behind
    confirmed_is =
        let some_one = both.order.back.counts.some
        in let most = both.order.back.counts.most
        in let e = client.expected
        in let c = server.inside.counted
        in ap (λ (n : ℕ). l.sent - 1 - distance n (wire l.own_first (before l.sent)))
        (ap (λ (q : Pdu). q.confirmed_sequence_number) same_pdu ∙ gave.confirms ∙ ap (λ (f : ℕ). wire f (before ends.client.link.expected)) (client.partner_first ∙ sym server.inside.own_first))
        ∙ behind_is l.own_first l.sent ends.client.link.expected (omega (arith, some_one, e)) (omega (arith, most, e, c)) (server_fits names connection ends b)

    rises : Rises 0 l.sent l.waiting
    rises = subst (λ (n : ℕ). Rises 0 n l.waiting) (sym server.inside.counted) (subst (Rises 0 (sent_in both.server)) (sym server.inside.keeps.waiting) both.order.back.waits.rises)

    few_wait : length after.waiting + length ends.client.taken ≤ length ends.server.given
    few_wait =
        let some_one = both.order.back.counts.some
        in let e = client.expected
        in let above = still_above (ends.client.link.expected - 1) 0 l.sent l.waiting rises
        in let w = ap length one.takes.waiting ∙ ap (λ (n : ℕ). length (still_waiting n l.waiting)) confirmed_is
        in let from_there : waiting_from (ends.client.link.expected - 1 + 1) l.waiting ≡ waiting_from ends.client.link.expected l.waiting = ap (λ (n : ℕ). waiting_from n l.waiting) (omega (arith, some_one, e))
        in let n = news names connection ends b
        in omega (arith, above, w, from_there, n)

-- after the datagram with which a server has taken all, few items wait there
pub window_then : (names : Names) → AreNames names → (connection : ℕ) (ends : Ends) → AreBoth names connection ends → GaveLast names connection ends.client.link ends.sent → (bytes : List ℕ) (datagram : Sent) → IsDelivered ends bytes connection datagram
    → IsAtHome (reading_of ends.server.clock) ends.server.link → ((receiving (reading_of ends.server.clock) bytes ends.server.link).items ≡ [] → ⊥) → (behind_it : Ends) → AreBoth names connection behind_it
    → behind_it.client ≡ ends.client → behind_it.server.link ≡ (receiving (reading_of ends.server.clock) bytes ends.server.link).link → length behind_it.client.given ≤ length behind_it.server.taken
    → length behind_it.server.link.waiting + length ends.client.taken ≤ length ends.server.given
window_then names are connection ends b gave bytes datagram delivered home some behind_it then_b same_client link_is all =
    subst (λ (x : LinkState). length x.waiting + length ends.client.taken ≤ length ends.server.given) (sym link_is) (few_wait names are connection ends b gave bytes datagram delivered home some reaches)
  where
    none_from : waiting_from behind_it.server.link.expected ends.client.link.waiting ≡ 0
    none_from = ap (λ (c : EndState). waiting_from behind_it.server.link.expected c.link.waiting) (sym same_client) ∙ all_taken names connection behind_it then_b all

    below : gave.last.tag < behind_it.server.link.expected
    below = last_below behind_it.server.link.expected gave.others gave.last (ap (waiting_from behind_it.server.link.expected) (sym gave.waits) ∙ none_from)

    most : behind_it.server.link.expected ≤ ends.client.link.sent
    most = subst (λ (c : EndState). behind_it.server.link.expected ≤ c.link.sent) same_client (expected_most names connection behind_it then_b)

    reaches : (receiving (reading_of ends.server.clock) bytes ends.server.link).link.expected ≡ ends.client.link.sent
    reaches = let lt = below in let m = most in let u = gave.under in let e = ap (λ (x : LinkState). x.expected) link_is in omega (arith, lt, m, u, e)
