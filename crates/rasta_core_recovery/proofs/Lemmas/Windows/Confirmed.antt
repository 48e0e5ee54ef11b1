-- How few of a client's items wait: what a call at one of two ends in a connection makes of it.
use Rattle.rasta_core_recovery.proofs.Words.Basics.{◌≡◌, ℕ, zero, suc, ◌∙◌, ◌+◌, ◌-◌, ◌^◌, ◌≤◌, ◌<◌, ◌⊎◌, inl, inr, Bool, true, false, List, [], ◌∷◌, ◌++◌, length, if◌then◌else◌, refl, sym, ap, subst, arith, false≢true}
use Rattle.rasta_core_recovery.proofs.Words.Links.{before, distance, wire, LinkState, is_asking, is_client, is_open, ahead, behind, retagged, still_waiting, Identity, Phase, Unconfirmed, EndState, Sent, Names, Ends, Pdu, Body, ConnectionRequest, ConnectionResponse, Data, DisconnectionRequest, Heartbeat, RetransmissionRequest, RetransmissionResponse, RetransmittedData, EndFlow, IsAt, IsOf, sent as sent_in, Timely, HasJoined, IsInside, Plays, joined, left, InOrder, IsAsking, IsClosing, IsRequest, IsSent, IsUnanswered, AreTogether}
use Rattle.rasta_core_recovery.proofs.Words.Recovery.{Answers, Confirms, FewWait, IsNumbered, reached_by, exchanged}
use Rattle.std.proofs.lemmas.Bool.{ltb-false}
use Rattle.rasta_core.specs.EndFlow.{later as waiting_from}
use Rattle.rasta_core.specs.LinkAndFlow.{asking}
use Rattle.rasta_core_recovery.proofs.Lemmas.Rounds.Given.{fewer_wait}
use Rattle.rasta_core_recovery.proofs.Lemmas.Windows.StaysIn.{Asks, Does, IsFrom, IsWord, Passes, Speaks, answers, calm, gives, joins, still, takes}
use Rattle.rasta_core_recovery.proofs.Lemmas.Windows.WindowNumbers.{again_later, ahead_is, at_most, before_is as before_one, behind_is, count_one, drops_below, given_later, next_is, still_above, waits_most, wire_once}
use Rattle.rasta_core_recovery.proofs.Lemmas.Rounds.Words.{row_most}
use Rattle.rasta_core_recovery.proofs.Lemmas.Rounds.Blocks.{retagged_as_many, as_many_both}

-- ---- two ends in a connection

pub record Both (names : Names) (ends : Ends) : Type 0 where
  pub timely : Timely names ends
  pub together : AreTogether names ends
  pub client_in : is_open ends.client.link.phase ≡ true
  pub server_in : is_open ends.server.link.phase ≡ true

pub never_asks : (l : LinkState) → is_client l.identity.role ≡ false → is_asking l ≡ false
never_asks l e = by_phase l.phase refl
  where
    by_phase : (at : Phase) → l.phase ≡ at → is_asking l ≡ false
    by_phase Phase.Start f = grind (arith, f, e)
    by_phase Phase.Closed f = grind (arith, f)
    by_phase Phase.Up f = grind (arith, f)
    by_phase Phase.RetransmissionRequested f = grind (arith, f)
    by_phase Phase.RetransmissionRunning f = grind (arith, f)

word_requests : (body : Body) → IsWord body → IsRequest body → ⊥
word_requests (ConnectionRequest o) word is = word
word_requests (ConnectionResponse o) word is = is
word_requests RetransmissionRequest word is = is
word_requests RetransmissionResponse word is = is
word_requests (DisconnectionRequest d r) word is = is
word_requests Heartbeat word is = is
word_requests (Data x) word is = is
word_requests (RetransmittedData x) word is = is

pub word_closes : (body : Body) → IsWord body → IsClosing body → ⊥
word_closes (ConnectionRequest o) word is = is
word_closes (ConnectionResponse o) word is = is
word_closes RetransmissionRequest word is = is
word_closes RetransmissionResponse word is = is
word_closes (DisconnectionRequest d r) word is = word
word_closes Heartbeat word is = is
word_closes (Data x) word is = is
word_closes (RetransmittedData x) word is = is

answered : (flow : List Pdu) (place : ℕ) (body : Body) → IsWord body → IsUnanswered flow place body → ⊥
answered flow place body word (inl request) = word_requests body word request
answered flow place body word (inr closing) = word_closes body word closing.1

pub within : (place : ℕ) (pdu : Pdu) (flow : List Pdu) → IsAt place pdu flow → place < length flow
within place pdu [] at = absurd at
within zero pdu (first ∷ flow) at = omega arith
within (suc place) pdu (first ∷ flow) at = let lt = within place pdu flow at in omega (arith, lt)

-- Two ends in one connection, whichever of them is the client: each of the two may stand in the place of the other.
pub record Sides (ends : Ends) : Type 0 where
  pub client : EndFlow
  pub server : EndFlow
  pub order : InOrder client server
  pub client_inside : IsInside ends.client.link client
  pub server_inside : IsInside ends.server.link server
  pub client_joined : is_asking ends.client.link ≡ false → HasJoined ends.client.link client server
  pub server_joined : is_asking ends.server.link ≡ false → HasJoined ends.server.link server client
  pub client_reached : reached_by ends.client.link ≡ client.reached
  pub server_reached : reached_by ends.server.link ≡ server.reached
  pub client_given : client.given ≡ ends.client.given
  pub client_taken : client.taken ≡ ends.client.taken
  pub server_given : server.given ≡ ends.server.given
  pub server_taken : server.taken ≡ ends.server.taken

abbrev pub exchange : (ends : Ends) → Sides ends → Sides (exchanged ends)
exchange ends s = record {
  client = s.server;
  server = s.client;
  order = record { there = s.order.back; back = s.order.there };
  client_inside = s.server_inside;
  server_inside = s.client_inside;
  client_joined = s.server_joined;
  server_joined = s.client_joined;
  client_reached = s.server_reached;
  server_reached = s.client_reached;
  client_given = s.server_given;
  client_taken = s.server_taken;
  server_given = s.client_given;
  server_taken = s.client_taken;
}

module _ (ends : Ends) (sides : Sides ends) where
  client_fits : ends.client.link.sent < 2 ^ 31
  client_fits = let c = sides.client_inside.counted in let f = sides.order.there.counts.fits in omega (arith, c, f)

  server_fits : ends.server.link.sent < 2 ^ 31
  server_fits = let c = sides.server_inside.counted in let f = sides.order.back.counts.fits in omega (arith, c, f)

  -- what the server has taken was given under the PDUs that it came to
  server_has : length ends.server.taken + waiting_from sides.server.reached ends.client.link.waiting ≤ length ends.client.given
  server_has =
      let level = sides.order.there.level
      in let w = ap (waiting_from sides.server.reached) sides.client_inside.keeps.waiting
      in let g = ap length sides.client_given
      in let took = ap length (sym sides.server_taken ∙ sides.order.there.taken)
      in let m = at_most (sides.client.passed sides.server.reached) sides.client.given
      in omega (arith, level, w, g, took, m)

  -- what of the server's PDUs a PDU of the client confirms is below what the client came to
  client_confirms : (p : Pdu) → IsOf p sides.client.flow → IsWord p.body → ends.server.link.sent - 1 - behind p ends.server.link < sides.client.reached
  unfolding behind
  client_confirms p of word = choose made.confirms
    where
      made : IsSent sides.client sides.server.first of.0 p
      made = sides.order.there.each of.0 p of.1

      choose : (p.confirmed_sequence_number ≡ wire sides.server.first (sides.client.expecting of.0 - 1)) ⊎ IsUnanswered sides.client.flow of.0 p.body
          → ends.server.link.sent - 1 - behind p ends.server.link < sides.client.reached
      choose (inr none) = absurd (answered sides.client.flow of.0 p.body word none)
      choose (inl e) =
          let first = sides.server_inside.own_first
          in let counted = sides.server_inside.counted
          in let some = made.some_expected
          in let most = made.expected
          in let reached = sides.order.back.counts.most
          in let is : ends.server.link.sent - 1 - distance p.confirmed_sequence_number (wire ends.server.link.own_first (before ends.server.link.sent)) ≡ sides.client.expecting of.0 - 1
          = ap (λ (n : ℕ). ends.server.link.sent - 1 - distance n (wire ends.server.link.own_first (before ends.server.link.sent))) (e ∙ ap (λ (f : ℕ). wire f (sides.client.expecting of.0 - 1)) (sym first))
          ∙ behind_is ends.server.link.own_first ends.server.link.sent (sides.client.expecting of.0) some (omega (arith, most, reached, counted)) server_fits
          in omega (arith, is, some, most)

pub client_has : (ends : Ends) (sides : Sides ends) → length ends.client.taken + waiting_from sides.client.reached ends.server.link.waiting ≤ length ends.server.given
client_has ends sides = server_has (exchanged ends) (exchange ends sides)

module _ (names : Names) (ends : Ends) (both : Both names ends) where
  server_link : is_asking ends.server.link ≡ false
  server_link = never_asks ends.server.link (ap (λ (i : Identity). is_client i.role) both.timely.server.identity)

  pub server_joined : HasJoined ends.server.link both.together.server both.together.client
  server_joined = choose both.together.server_plays
    where
      choose : Plays ends.server.link both.together.server both.together.client → HasJoined ends.server.link both.together.server both.together.client
      choose (joined has) = has
      choose (asking on) = absurd (false≢true (sym server_link ∙ on.asking))
      choose (left shut keeps) = absurd (false≢true (sym shut ∙ both.server_in))

  pub client_inside : IsInside ends.client.link both.together.client
  client_inside = choose both.together.client_plays
    where
      choose : Plays ends.client.link both.together.client both.together.server → IsInside ends.client.link both.together.client
      choose (joined has) = has.inside
      choose (asking on) = on.inside
      choose (left shut keeps) = absurd (false≢true (sym shut ∙ both.client_in))

  pub client_joined : is_asking ends.client.link ≡ false → HasJoined ends.client.link both.together.client both.together.server
  client_joined not = choose both.together.client_plays
    where
      choose : Plays ends.client.link both.together.client both.together.server → HasJoined ends.client.link both.together.client both.together.server
      choose (joined has) = has
      choose (asking on) = absurd (false≢true (sym not ∙ on.asking))
      choose (left shut keeps) = absurd (false≢true (sym shut ∙ both.client_in))

  reads_reached : (b : Bool) → is_asking ends.client.link ≡ b → (n : ℕ) → (if b then 1 else ends.client.link.expected) ≡ n → reached_by ends.client.link ≡ n
  reads_reached b e n f = ap (λ (c : Bool). if c then 1 else ends.client.link.expected) e ∙ f

  pub reached_is : reached_by ends.client.link ≡ both.together.client.reached
  reached_is = choose both.together.client_plays
    where
      choose : Plays ends.client.link both.together.client both.together.server → reached_by ends.client.link ≡ both.together.client.reached
      choose (joined has) = reads_reached false has.joined both.together.client.reached has.expected
      choose (asking on) = reads_reached true on.asking both.together.client.reached (sym on.reached)
      choose (left shut keeps) = absurd (false≢true (sym shut ∙ both.client_in))

  pub server_reached_is : reached_by ends.server.link ≡ both.together.server.reached
  server_reached_is = ap (λ (b : Bool). if b then 1 else ends.server.link.expected) server_link ∙ server_joined.expected

abbrev pub sides_of : (names : Names) (ends : Ends) → Both names ends → Sides ends
sides_of names ends both = record {
  client = both.together.client;
  server = both.together.server;
  order = both.together.order;
  client_inside = client_inside names ends both;
  server_inside = (server_joined names ends both).inside;
  client_joined = client_joined names ends both;
  server_joined = λ not. server_joined names ends both;
  client_reached = reached_is names ends both;
  server_reached = server_reached_is names ends both;
  client_given = both.together.client_given;
  client_taken = both.together.client_taken;
  server_given = both.together.server_given;
  server_taken = both.together.server_taken;
}

module _ (names : Names) (ends : Ends) (both : Both names ends) where
  pub server_level : length ends.server.taken + waiting_from both.together.server.reached ends.client.link.waiting ≤ length ends.client.given
  server_level = server_has ends (sides_of names ends both)

  pub client_level : length ends.client.taken + waiting_from both.together.client.reached ends.server.link.waiting ≤ length ends.server.given
  client_level = client_has ends (sides_of names ends both)

-- ---- the server is called

abbrev pub with_server : EndState → List Sent → ℕ → Ends → Ends
with_server end sent moment ends = record ends { server = end; sent = sent; moment = moment }

module _ (spare : ℕ) (old : Ends) (end : EndState) (datagrams : List Sent) (moment : ℕ) (before_is : Sides old) (after_is : Sides (with_server end datagrams moment old))
    (Came : Pdu → Type 0) (ps : List Pdu) (accepted handed : List (List ℕ)) (given_is : end.given ≡ old.server.given ++ accepted) (taken_is : end.taken ≡ old.server.taken ++ handed)
    (does : Does Came old.server.link end.link ps accepted handed) (of_client : (p : Pdu) → Came p → Passes old.server.link p → IsOf p before_is.client.flow) (within_spare : Answers spare (with_server end datagrams moment old)) where
  abbrev new : Ends
  new = with_server end datagrams moment old

  pub server_speaks : Speaks old.server.link end.link ps
  server_speaks = choose does
    where
      choose : Does Came old.server.link end.link ps accepted handed → Speaks old.server.link end.link ps
      choose (calm s x w a h) = s
      choose (gives item s x w a h) = s
      choose (takes p c pass s x w a) = s
      choose (answers p c pass b s x w a) = s

  joined_then : HasJoined end.link after_is.server after_is.client
  joined_then = after_is.server_joined server_speaks.joined

  -- what is given meanwhile waits above it
  waits_above : (place : ℕ) → place < old.server.link.sent → reached_by old.client.link ≤ place
      → waiting_from (place + 1) old.server.link.waiting + length accepted ≤ waiting_from (place + 1) end.link.waiting
  waits_above place below come = choose does
    where
      reached : before_is.client.reached ≤ place
      reached = let r = before_is.client_reached in omega (arith, r, come)

      choose : Does Came old.server.link end.link ps accepted handed → waiting_from (place + 1) old.server.link.waiting + length accepted ≤ waiting_from (place + 1) end.link.waiting
      choose (calm s x w a h) = let e = ap (waiting_from (place + 1)) w in let z = ap length a in omega (arith, e, z)
      choose (gives item s x w a h) =
          let e = ap (waiting_from (place + 1)) w
          in let g = given_later (place + 1) old.server.link.waiting (record { tag = old.server.link.sent; item = item }) (omega (arith, below))
          in let z = ap length a
          in omega (arith, e, g, z)
      choose (takes p c pass s x w a) =
          let e = ap (waiting_from (place + 1)) w
          in let lt = client_confirms old before_is p (of_client p c pass) pass.word
          in let d = drops_below (old.server.link.sent - 1 - behind p old.server.link) (place + 1) old.server.link.waiting (omega (arith, lt, reached))
          in let z = ap length a
          in omega (arith, e, d, z)
      choose (answers p c pass b s x w a) =
          let e = ap (waiting_from (place + 1)) w
          in let lt = client_confirms old before_is p (of_client p c pass) pass.word
          in let d = drops_below (old.server.link.sent - 1 - behind p old.server.link) (place + 1) old.server.link.waiting (omega (arith, lt, reached))
          in let m = waits_most (place + 1) (still_waiting (old.server.link.sent - 1 - behind p old.server.link) old.server.link.waiting)
          in let r = again_later (old.server.link.sent + 1) (place + 1) (still_waiting (old.server.link.sent - 1 - behind p old.server.link) old.server.link.waiting) (omega (arith, below))
          in let z = ap length a
          in omega (arith, e, d, m, r, z)

  pub server_keeps : (pdu : Pdu) → IsNumbered spare old pdu → IsNumbered spare (with_server end datagrams moment old) pdu
  server_keeps pdu n = record {
    place = n.place;
    number = n.number ∙ ap (λ (first : ℕ). wire first n.place) (sym server_speaks.own_first);
    sent = let more = row_most (IsFrom end.link) old.server.link.sent end.link.sent ps server_speaks.pdus in let s = n.sent in omega (arith, more, s);
    confirms = λ come. let c = n.confirms come in record {
      expecting = c.expecting;
      some = c.some;
      most = c.most;
      confirmed = c.confirmed;
      had = c.had;
      few = let t = ap length taken_is ∙ as_many_both old.server.taken handed in let f = c.few in omega (arith, t, f);
      waits = c.waits;
      answers =
          let above = waits_above n.place n.sent come
          in let g = ap length given_is ∙ as_many_both old.server.given accepted
          in let a = c.answers
          in omega (arith, above, g, a);
    };
  }

  -- what it says now
  pub server_says : (n : ℕ) (pdu : Pdu) → n < end.link.sent → IsFrom end.link n pdu → IsNumbered spare (with_server end datagrams moment old) pdu
  server_says n pdu below from = record {
    place = n;
    number = from.number;
    sent = below;
    confirms = λ come. record {
      expecting = end.link.expected;
      some = let e = joined_then in let x = e.expected in let s = after_is.order.there.counts.some in omega (arith, x, s);
      most = most;
      confirmed = from.confirms ∙ ap (λ (first : ℕ). wire first (before end.link.expected)) (joined_then.partner_first ∙ sym after_is.client_inside.own_first)
          ∙ ap (wire old.client.link.own_first) (before_is_one joined_then.expected after_is.order.there.counts.some);
      had = length end.taken;
      few = omega arith;
      waits = subst (λ (m : ℕ). length end.taken + waiting_from m old.client.link.waiting ≤ length old.client.given) (sym joined_then.expected) (server_has new after_is);
      answers = let w = within_spare in omega (arith, w);
    };
  }
    where
      most : end.link.expected ≤ old.client.link.sent
      most = let x = joined_then.expected in let m = after_is.order.there.counts.most in let c = after_is.client_inside.counted in omega (arith, x, m, c)

      before_is_one : end.link.expected ≡ after_is.server.reached → 1 ≤ after_is.server.reached → before end.link.expected ≡ end.link.expected - 1
      before_is_one x s = before_one end.link.expected (omega (arith, x, s)) (let f = client_fits new after_is in omega (arith, most, f))

-- ---- the client is called

abbrev pub with_client : EndState → List Sent → ℕ → Ends → Ends
with_client end sent moment ends = record ends { client = end; sent = sent; moment = moment }

-- what of it matters for the server's PDUs
pub record Moves (spare : ℕ) (old : Ends) (end : EndState) : Type 0 where
  pub own_first : end.link.own_first ≡ old.client.link.own_first
  pub sent : old.client.link.sent ≤ end.link.sent
  pub reached : reached_by old.client.link ≤ reached_by end.link
  pub waits : (expecting had : ℕ) → expecting ≤ old.client.link.sent → had ≤ length old.server.taken → had + waiting_from expecting old.client.link.waiting ≤ length old.client.given → had + waiting_from expecting end.link.waiting ≤ length end.given
  pub few : length end.taken + length end.link.waiting ≤ length end.given + spare

module _ (spare : ℕ) (old : Ends) (end : EndState) (datagrams : List Sent) (moment : ℕ) (before_is : Sides old) (after_is : Sides (with_client end datagrams moment old))
    (accepted handed : List (List ℕ)) (given_is : end.given ≡ old.client.given ++ accepted) (taken_is : end.taken ≡ old.client.taken ++ handed) (few_before : FewWait spare old) where
  gave : length end.given ≡ length old.client.given + length accepted
  gave = ap length given_is ∙ as_many_both old.client.given accepted

  took : length end.taken ≡ length old.client.taken + length handed
  took = ap length taken_is ∙ as_many_both old.client.taken handed

  -- nothing comes of the partner's
  quiet : (reached_by old.client.link ≤ reached_by end.link) → end.link.own_first ≡ old.client.link.own_first → old.client.link.sent ≤ end.link.sent → end.link.waiting ≡ old.client.link.waiting → accepted ≡ [] → handed ≡ [] → Moves spare old end
  quiet reached own sent waiting none nothing = record {
    own_first = own;
    sent = sent;
    reached = reached;
    waits = λ expecting had most few has. let w = ap (waiting_from expecting) waiting in let z = ap length none in let g = gave in omega (arith, w, z, g, has);
    few = let w = ap length waiting in let z = ap length none in let y = ap length nothing in let g = gave in let k = took in let f = few_before in omega (arith, w, z, y, g, k, f);
  }

  module _ (Came : Pdu → Type 0) (ps : List Pdu) (is_joined : is_asking old.client.link ≡ false) (does : Does Came old.client.link end.link ps accepted handed)
      (numbered : (p : Pdu) → Came p → Passes old.client.link p → IsNumbered spare old p) (of_server : (p : Pdu) → Came p → Passes old.client.link p → IsOf p before_is.server.flow) where
    at_old : reached_by old.client.link ≡ old.client.link.expected
    at_old = ap (λ (b : Bool). if b then 1 else old.client.link.expected) is_joined

    at_new : is_asking end.link ≡ false → reached_by end.link ≡ end.link.expected
    at_new e = ap (λ (b : Bool). if b then 1 else end.link.expected) e

    -- a PDU of the server that passes the tests stands where it is expected, or ahead of that
    place_of : (p : Pdu) → Passes old.client.link p → (place : ℕ) → place < 2 ^ 31 → p.sequence_number ≡ wire old.server.link.own_first place → place ≡ old.client.link.expected + ahead p old.client.link
    unfolding ahead
    place_of p pass place fits number =
        let j = before_is.client_joined is_joined
        in let first : old.client.link.partner_first ≡ old.server.link.own_first = j.partner_first ∙ sym before_is.server_inside.own_first
        in let same : distance (wire old.client.link.partner_first old.client.link.expected) p.sequence_number ≡ distance (wire old.server.link.own_first old.client.link.expected) (wire old.server.link.own_first place)
        = ap (λ (f : ℕ). distance (wire f old.client.link.expected) p.sequence_number) first ∙ ap (distance (wire old.server.link.own_first old.client.link.expected)) number
        in let near = ltb-false 200 (distance (wire old.client.link.partner_first old.client.link.expected) p.sequence_number) pass.near
        in let expects = j.expected
        in let most = before_is.order.back.counts.most
        in let all = before_is.order.back.counts.fits
        in let is = ahead_is old.server.link.own_first old.client.link.expected place (omega (arith, expects, most, all)) fits (subst (λ (steps : ℕ). steps ≤ 200) same near)
        in omega (arith, is, same)

    module _ (p : Pdu) (came : Came p) (pass : Passes old.client.link p) where
      n : IsNumbered spare old p
      n = numbered p came pass

      place_fits : n.place < 2 ^ 31
      place_fits = let s = n.sent in let f = server_fits old before_is in omega (arith, s, f)

      stands : n.place ≡ old.client.link.expected + ahead p old.client.link
      stands = place_of p pass n.place place_fits n.number

      c : Confirms spare old n.place p
      c = n.confirms (let r = at_old in let s = stands in omega (arith, r, s))

      confirms_is : old.client.link.sent - 1 - behind p old.client.link ≡ c.expecting - 1
      unfolding behind
      confirms_is = ap (λ (m : ℕ). old.client.link.sent - 1 - distance m (wire old.client.link.own_first (before old.client.link.sent))) c.confirmed
          ∙ behind_is old.client.link.own_first old.client.link.sent c.expecting c.some c.most (client_fits old before_is)

      still_few : length (still_waiting (old.client.link.sent - 1 - behind p old.client.link) old.client.link.waiting) ≤ waiting_from c.expecting old.client.link.waiting
      still_few =
          let some = c.some
          in let above = still_above (c.expecting - 1) 0 (sent_in before_is.client) before_is.client.waiting before_is.order.there.waits.rises
          in let same : c.expecting - 1 + 1 ≡ c.expecting = omega (arith, some)
          in subst (λ (m : ℕ). length (still_waiting m old.client.link.waiting) ≤ waiting_from c.expecting old.client.link.waiting) (sym confirms_is)
          (subst (λ (m : ℕ). length (still_waiting (c.expecting - 1) old.client.link.waiting) ≤ waiting_from m old.client.link.waiting) same
          (subst (λ (w : List Unconfirmed). length (still_waiting (c.expecting - 1) w) ≤ waiting_from (c.expecting - 1 + 1) w) (sym before_is.client_inside.keeps.waiting) above))

      moved : end.link.expected ≡ wire old.client.link.expected (ahead p old.client.link + 1) → end.link.expected ≡ n.place + 1
      moved e =
          let s = stands
          in let f = place_fits
          in let x = next_is old.client.link.expected (ahead p old.client.link) (omega (arith, s, f))
          in omega (arith, e, x, s)

      few_then : is_asking end.link ≡ false → end.link.expected ≡ n.place + 1 → accepted ≡ [] → length end.link.waiting ≤ waiting_from c.expecting old.client.link.waiting → length end.taken + length end.link.waiting ≤ length end.given + spare
      few_then asks e none wait =
          let r = sym after_is.client_reached ∙ at_new asks ∙ e
          in let level = subst (λ (m : ℕ). length end.taken + waiting_from m old.server.link.waiting ≤ length old.server.given) r (client_has (with_client end datagrams moment old) after_is)
          in let a = c.answers
          in let w = c.waits
          in let z = ap length none
          in let g = gave
          in omega (arith, level, a, w, z, g, wait)

      -- where the server asks for a retransmission, it stands still
      asks_still : p.body ≡ RetransmissionRequest → length old.server.taken + waiting_from c.expecting old.client.link.waiting ≤ length old.client.given
      asks_still body = subst (λ (m : ℕ). length old.server.taken + waiting_from m old.client.link.waiting ≤ length old.client.given) (sym expecting_is) (server_has old before_is)
        where
          of : IsOf p before_is.server.flow
          of = of_server p came pass

          made : IsSent before_is.server before_is.client.first of.0 p
          made = before_is.order.back.each of.0 p of.1

          there : before_is.client.reached ≤ of.0
          there =
              let in_flow = within of.0 p before_is.server.flow of.1
              in let all = before_is.order.back.counts.fits
              in let s = place_of p pass of.0 (omega (arith, in_flow, all)) (made.number ∙ ap (λ (f : ℕ). wire f of.0) (sym before_is.server_inside.own_first))
              in let x = (before_is.client_joined is_joined).expected
              in omega (arith, s, x)

          waits_so : IsAsking before_is.client before_is.server of.0
          waits_so = before_is.order.there.askings of.0 p of.1 body there

          by_confirms : (p.confirmed_sequence_number ≡ wire before_is.client.first (before_is.server.expecting of.0 - 1)) ⊎ IsUnanswered before_is.server.flow of.0 p.body → c.expecting ≡ before_is.server.reached
          by_confirms (inr none) = absurd (answered before_is.server.flow of.0 p.body (subst IsWord (sym body) tt) none)
          by_confirms (inl e) =
              let first = before_is.client_inside.own_first
              in let some = made.some_expected
              in let still_is = waits_so.still
              in let most = before_is.order.there.counts.most
              in let all = before_is.order.there.counts.fits
              in let one = c.some
              in let up = c.most
              in let f = client_fits old before_is
              in let same = wire_once old.client.link.own_first (c.expecting - 1) (before_is.server.expecting of.0 - 1) (omega (arith, up, f)) (omega (arith, still_is, most, all))
              (sym c.confirmed ∙ e ∙ ap (λ (g : ℕ). wire g (before_is.server.expecting of.0 - 1)) (sym first))
              in omega (arith, same, one, some, still_is)

          expecting_is : c.expecting ≡ before_is.server.reached
          expecting_is = by_confirms made.confirms

    pub client_moves : Moves spare old end
    client_moves = choose does
      where
        choose : Does Came old.client.link end.link ps accepted handed → Moves spare old end
        choose (calm s x w a h) = quiet (let o = at_old in let e = at_new s.joined in omega (arith, o, e, x)) s.own_first (row_most (IsFrom end.link) old.client.link.sent end.link.sent ps s.pdus) w a h
        choose (gives item s x w a h) = record {
          own_first = s.own_first;
          sent = row_most (IsFrom end.link) old.client.link.sent end.link.sent ps s.pdus;
          reached = let o = at_old in let e = at_new s.joined in omega (arith, o, e, x);
          waits = λ expecting had most few has.
              let e = ap (waiting_from expecting) w
              in let g = given_later expecting old.client.link.waiting (record { tag = old.client.link.sent; item = item }) most
              in let z = ap length a
              in let y = gave
              in omega (arith, e, g, z, y, has);
          few =
              let e = ap length w ∙ count_one old.client.link.waiting (record { tag = old.client.link.sent; item = item })
              in let z = ap length a
              in let y = ap length h
              in let g = gave
              in let k = took
              in let f = few_before
              in omega (arith, e, z, y, g, k, f);
        }
        choose (takes p came pass s x w a) = record {
          own_first = s.own_first;
          sent = row_most (IsFrom end.link) old.client.link.sent end.link.sent ps s.pdus;
          reached = let o = at_old in let e = at_new s.joined in let m = moved p came pass x in let at = stands p came pass in omega (arith, o, e, m, at);
          waits = λ expecting had most few has.
              let e = ap (waiting_from expecting) w
              in let g = fewer_wait (old.client.link.sent - 1 - behind p old.client.link) expecting old.client.link.waiting
              in let z = gave
              in omega (arith, e, g, z, has);
          few = few_then p came pass s.joined (moved p came pass x) a (let e = ap length w in let f = still_few p came pass in omega (arith, e, f));
        }
        choose (answers p came pass b s x w a) = record {
          own_first = s.own_first;
          sent = row_most (IsFrom end.link) old.client.link.sent end.link.sent ps s.pdus;
          reached = let o = at_old in let e = at_new s.joined in let m = moved p came pass x in let at = stands p came pass in omega (arith, o, e, m, at);
          waits = λ expecting had most few has.
              let e = ap (waiting_from expecting) w
              in let u = waits_most expecting (retagged (old.client.link.sent + 1) (still_waiting (old.client.link.sent - 1 - behind p old.client.link) old.client.link.waiting))
              in let v = retagged_as_many (old.client.link.sent + 1) (still_waiting (old.client.link.sent - 1 - behind p old.client.link) old.client.link.waiting)
              in let f = still_few p came pass
              in let q = asks_still p came pass b
              in let z = gave
              in omega (arith, e, u, v, f, q, z, few);
          few = few_then p came pass s.joined (moved p came pass x) a
              (let e = ap length w in let v = retagged_as_many (old.client.link.sent + 1) (still_waiting (old.client.link.sent - 1 - behind p old.client.link) old.client.link.waiting) in let f = still_few p came pass in omega (arith, e, v, f));
        }

  -- a client that asks
  pub asking_moves : is_asking old.client.link ≡ true → Asks old.client.link end.link accepted handed → Moves spare old end
  asking_moves asks (still on own sent w a h) = quiet (let o = ap (λ (b : Bool). if b then 1 else old.client.link.expected) asks in let e = ap (λ (b : Bool). if b then 1 else end.link.expected) on in omega (arith, o, e)) own sent w a h
  asking_moves asks (joins on x own sent w a h) = quiet (let o = ap (λ (b : Bool). if b then 1 else old.client.link.expected) asks in let e = ap (λ (b : Bool). if b then 1 else end.link.expected) on in omega (arith, o, e, x)) own sent w a h

-- so the server's PDUs are as they were
pub client_keeps : (spare : ℕ) (old : Ends) (end : EndState) (datagrams : List Sent) (moment : ℕ) → Moves spare old end → (pdu : Pdu) → IsNumbered spare old pdu → IsNumbered spare (with_client end datagrams moment old) pdu
client_keeps spare old end datagrams moment m pdu n = record {
  place = n.place;
  number = n.number;
  sent = n.sent;
  confirms = λ come. let r = m.reached in let c = n.confirms (omega (arith, r, come)) in record {
    expecting = c.expecting;
    some = c.some;
    most = let s = m.sent in let t = c.most in omega (arith, s, t);
    confirmed = c.confirmed ∙ ap (λ (first : ℕ). wire first (c.expecting - 1)) (sym m.own_first);
    had = c.had;
    few = c.few;
    waits = m.waits c.expecting c.had c.most c.few c.waits;
    answers = c.answers;
  };
}
