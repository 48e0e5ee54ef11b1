-- A new connection comes up.
use Rattle.rasta_core_recovery.proofs.Words.Basics.{◌≡◌, ℕ, ◌∙◌, ◌+◌, ◌-◌, ◌^◌, ◌≤◌, ◌<◌, true, false, ◌==◌, nat_le, nat_lt, List, [], ◌∷◌, refl, ap, arith, nat_tests}
use Rattle.rasta_core_recovery.proofs.Words.Links.{wire, stamp, distance, LinkState, settled, deadline, state_at, Step, silent, header_of, pdu_of, sending, limited, entered, beating, own_opening, beginning, requesting, meeting, judging, granting, joining, age, ahead, behind, still_waiting, taking, bringing, in_turn, admitting, testing, connected, asking, resting, by_state, hearing, opens, opening, ticking, Unconfirmed, Role, Phase, Pdu, ConnectionRequest, ConnectionResponse, Heartbeat, Names, identity_of}
use Rattle.rasta_core_recovery.proofs.Lemmas.Rounds.Calls.{calm_round, one_heard}
use Rattle.rasta_core_recovery.proofs.Lemmas.Rounds.Links.{Pair, heard, all_heard, worked, end_round, pair_round, pair_rounds}

-- an end outside, with whatever is left of its last connection
pub record Left : Type 0 where
  pub own_stamp : ℕ
  pub own_first : ℕ
  pub sent : ℕ
  pub sent_at : ℕ
  pub confirmed : ℕ
  pub partner_first : ℕ
  pub opening_stamp : ℕ
  pub expected : ℕ
  pub partner_stamp : ℕ
  pub waiting : List Unconfirmed
  pub given : ℕ
  pub taken : ℕ

abbrev pub resting_link : Names → Role → ℕ → ℕ → Left → LinkState
resting_link names who clock closed_at left = record {
  identity = identity_of who names;
  phase = Phase.Closed;
  clock = clock;
  closed_at = closed_at;
  own_stamp = left.own_stamp;
  own_first = left.own_first;
  sent = left.sent;
  sent_at = left.sent_at;
  confirmed = left.confirmed;
  partner_first = left.partner_first;
  opening_stamp = left.opening_stamp;
  expected = left.expected;
  partner_stamp = left.partner_stamp;
  waiting = left.waiting;
  given = left.given;
  taken = left.taken;
}

-- a client that asked at a reading
abbrev pub asking_link : Names → ℕ → ℕ → ℕ → ℕ → LinkState
asking_link names clock closed_at first at = record {
  identity = identity_of Role.Client names;
  phase = Phase.Start;
  clock = clock;
  closed_at = closed_at;
  own_stamp = at;
  own_first = first;
  sent = 1;
  sent_at = at;
  confirmed = 0;
  partner_first = 0;
  opening_stamp = 0;
  expected = 0;
  partner_stamp = 0;
  waiting = [];
  given = 0;
  taken = 0;
}

abbrev pub request : Names → ℕ → ℕ → Pdu
request names first at = record {
  receiver = names.server;
  sender = names.client;
  sequence_number = wire first 0;
  confirmed_sequence_number = 0;
  time_stamp = stamp at;
  confirmed_time_stamp = 0;
  body = ConnectionRequest own_opening;
}

pub not_quiet : (now closed_at : ℕ) → closed_at + 6000 ≤ now → nat_lt now (closed_at + 6000) ≡ false
not_quiet now closed_at h = grind (arith, nat_tests)

-- the client opens
pub client_opens : (names : Names) (clock closed_at : ℕ) (left : Left) → closed_at + 6000 ≤ clock + 10
    → end_round (clock + 10) [] (resting_link names Role.Client clock closed_at left)
    ≡ record { link = asking_link names (clock + 10) closed_at (wire left.own_first left.sent) (clock + 10); pdus = request names (wire left.own_first left.sent) (clock + 10) ∷ [] }
unfolding end_round all_heard worked settled deadline ticking opening opens entered limited beating state_at requesting beginning sending header_of pdu_of
client_opens names clock closed_at left h = rw (not_quiet _ _ h) refl

lives_now : (at : ℕ) → nat_le (at + 1800) at ≡ false
lives_now at = grind (arith, nat_tests)

pub same_eq : (a : ℕ) → (a == a) ≡ true
same_eq a = grind (arith, nat_tests)

-- a client that asked waits
pub client_waits : (names : Names) (closed_at first at clock : ℕ) → at ≤ clock → clock + 10 < at + 1800
    → end_round (clock + 10) [] (asking_link names (clock) closed_at first at)
    ≡ record { link = asking_link names (clock + 10) closed_at first at; pdus = [] }
client_waits names closed_at first at clock g h = calm_round _ _ (record { connected = refl; young = omega (arith, g, h); room = omega arith }) refl

-- a server that took a request
abbrev pub granted_link : Names → ℕ → ℕ → ℕ → Pdu → ℕ → LinkState
granted_link names clock closed_at first pdu at = record (asking_link names clock closed_at first at) {
  identity = identity_of Role.Server names;
  partner_first = pdu.sequence_number;
  opening_stamp = pdu.time_stamp;
  expected = 1;
  partner_stamp = pdu.time_stamp;
}

abbrev pub response : Names → ℕ → Pdu → ℕ → Pdu
response names first pdu at = record {
  receiver = names.client;
  sender = names.server;
  sequence_number = wire first 0;
  confirmed_sequence_number = wire pdu.sequence_number 0;
  time_stamp = stamp at;
  confirmed_time_stamp = pdu.time_stamp;
  body = ConnectionResponse own_opening;
}

server_grants : (names : Names) (clock closed_at first at : ℕ) (left : Left) → closed_at + 6000 ≤ clock + 10
    → end_round (clock + 10) (request names first at ∷ []) (resting_link names Role.Server clock closed_at left)
    ≡ record {
      link = granted_link names (clock + 10) closed_at (wire left.own_first left.sent) (request names first at) (clock + 10);
      pdus = response names (wire left.own_first left.sent) (request names first at) (clock + 10) ∷ [];
    }
unfolding end_round all_heard heard hearing by_state resting granting judging meeting worked settled deadline ticking opening opens entered limited beating state_at requesting beginning sending header_of pdu_of
server_grants names clock closed_at first at left h = rw (not_quiet _ _ h, same_eq names.server, same_eq names.client, lives_now (clock + 10)) refl

pub server_rests : (names : Names) (clock closed_at : ℕ) (left : Left)
    → end_round (clock + 10) [] (resting_link names Role.Server clock closed_at left) ≡ record { link = resting_link names Role.Server (clock + 10) closed_at left; pdus = [] }
unfolding end_round all_heard worked settled deadline ticking entered limited beating
server_rests names clock closed_at left = refl

pub server_waits : (names : Names) (closed_at first at clock : ℕ) (pdu : Pdu) → at ≤ clock → clock + 10 < at + 1800
    → end_round (clock + 10) [] (granted_link names (clock) closed_at first pdu at)
    ≡ record { link = granted_link names (clock + 10) closed_at first pdu at; pdus = [] }
unfolding end_round all_heard worked settled deadline ticking opening opens entered limited beating state_at requesting beginning sending header_of pdu_of
server_waits names closed_at first at clock pdu g h = rw (alive, alive) refl
  where
    alive : nat_le (at + 1800) (clock + 10) ≡ false
    alive = let g' = g in let h' = h in grind (arith, nat_tests)

-- a client that took the response
abbrev pub joined_link : Names → ℕ → ℕ → ℕ → ℕ → Pdu → LinkState
joined_link names clock closed_at first at pdu = record (asking_link names clock closed_at first at) {
  phase = Phase.Up;
  sent = 2;
  sent_at = clock;
  partner_first = pdu.sequence_number;
  opening_stamp = pdu.time_stamp;
  expected = 1;
  partner_stamp = pdu.time_stamp;
}

abbrev pub first_beat : Names → ℕ → ℕ → Pdu → Pdu
first_beat names clock first pdu = record {
  receiver = names.server;
  sender = names.client;
  sequence_number = wire first 1;
  confirmed_sequence_number = wire pdu.sequence_number 0;
  time_stamp = stamp clock;
  confirmed_time_stamp = pdu.time_stamp;
  body = Heartbeat;
}

pub client_joins : (names : Names) (closed_at first at clock server_first reading : ℕ) → at ≤ clock → clock + 10 < at + 1800 → first < 2 ^ 32
    → end_round (clock + 10) (response names server_first (request names first at) reading ∷ []) (asking_link names (clock) closed_at first at)
    ≡ record {
      link = joined_link names (clock + 10) closed_at first at (response names server_first (request names first at) reading);
      pdus = first_beat names (clock + 10) first (response names server_first (request names first at) reading) ∷ [];
    }
unfolding hearing by_state asking joining judging meeting deadline state_at sending header_of pdu_of
client_joins names closed_at first at clock server_first reading g h fits =
    one_heard _ _ _ _ _ (record { connected = refl; young = omega (arith, g, h); room = omega arith })
    (rw (alive_lt, same_eq names.server, same_eq names.client, answers, same_eq (stamp at)) refl)
    (rw (alive_lt, same_eq names.server, same_eq names.client, answers, same_eq (stamp at)) refl)
    refl (record { connected = refl; young = omega (arith, g, h); room = omega arith }) silent_now refl
  where
    alive_lt : nat_lt (clock + 10) (at + 1800) ≡ true
    alive_lt = let g' = g in let h' = h in grind (arith, nat_tests)

    once : wire (wire first 0) 0 ≡ first
    once = omega (arith, fits)

    answers : (wire (wire first 0) 0 == first) ≡ true
    answers = rw once (same_eq first)

    silent_now : nat_le 300 (clock + 10 - (clock + 10)) ≡ false
    silent_now = let g' = g in let h' = h in grind (arith, nat_tests)

-- a server that heard the first heartbeat
abbrev pub up_link : Names → ℕ → ℕ → ℕ → Pdu → ℕ → ℕ → LinkState
up_link names clock closed_at first pdu at heard_stamp = record (granted_link names clock closed_at first pdu at) { phase = Phase.Up; expected = 2; partner_stamp = heard_stamp }

pub server_comes_up : (names : Names) (closed_at first asked server_first at clock beat : ℕ) → at ≤ clock → clock + 10 < at + 300 → first < 2 ^ 32 → server_first < 2 ^ 32
    → end_round (clock + 10) (first_beat names beat first (response names server_first (request names first asked) at) ∷ []) (granted_link names (clock) closed_at server_first (request names first asked) at)
    ≡ record { link = up_link names (clock + 10) closed_at server_first (request names first asked) at (stamp beat); pdus = [] }
unfolding hearing by_state connected testing ahead behind age admitting in_turn bringing taking still_waiting deadline state_at
server_comes_up names closed_at first asked server_first at clock beat g h fits server_fits =
    one_heard _ _ _ _ _ (record { connected = refl; young = omega (arith, g, h); room = omega arith })
    (rw (alive_lt, same_eq names.server, same_eq names.client, level, confirmed, young, not_stale) (ap (λ (own : ℕ). record (up_link names (clock + 10) closed_at server_first (request names first asked) at (stamp beat)) { own_stamp = own }) back))
    (rw (alive_lt, same_eq names.server, same_eq names.client, level, confirmed, young, not_stale) refl)
    refl (record { connected = refl; young = omega (arith, g, h); room = omega arith }) silent_now refl
  where
    alive_lt : nat_lt (clock + 10) (at + 1800) ≡ true
    alive_lt = let g' = g in let h' = h in grind (arith, nat_tests)

    level : distance (wire (wire first 0) 1) (wire first 1) ≡ 0
    level = omega (arith, fits)

    confirmed : distance (wire (wire server_first 0) 0) (wire server_first 0) ≡ 0
    confirmed = omega (arith, server_fits)

    young : distance (stamp at) (stamp (clock + 10)) ≡ clock + 10 - at
    young = omega (arith, g, h)

    not_stale : nat_lt (clock + 10 - at) (clock + 10 - at) ≡ false
    not_stale = let g' = g in let h' = h in grind (arith, nat_tests)

    back : clock + 10 - (clock + 10 - at) ≡ at
    back = omega arith

    silent_now : nat_le 300 (clock + 10 - at) ≡ false
    silent_now = let g' = g in let h' = h in grind (arith, nat_tests)

-- a client that joined, a round later
pub client_up : (names : Names) (clock closed_at first at : ℕ) (pdu : Pdu) → clock + 10 < at + 1800
    → end_round (clock + 10) [] (joined_link names clock closed_at first at pdu) ≡ silent (record (joined_link names clock closed_at first at pdu) { clock = clock + 10 })
client_up names clock closed_at first at pdu h = calm_round _ _ (record { connected = refl; young = h; room = omega arith }) calm
  where
    calm : nat_le 300 (clock + 10 - clock) ≡ false
    calm = grind (arith, nat_tests)

pub step_is : (p : Pair) (c s : Step) → end_round (p.client.clock + 10) p.to_client p.client ≡ c → end_round (p.server.clock + 10) p.to_server p.server ≡ s
    → pair_round p ≡ record { client = c.link; server = s.link; to_client = s.pdus; to_server = c.pdus }
unfolding pair_round
step_is p c s e f = cc

-- two ends that are down, with nothing between them: both are up after four rounds
pub comes_up : (names : Names) (c s client_closed server_closed : ℕ) (client server : Left) → client_closed + 6000 ≤ c + 10 → server_closed + 6000 ≤ s + 20
    → let cf = wire client.own_first client.sent in let sf = wire server.own_first server.sent in
    let asked = request names cf (c + 10) in let answer = response names sf asked (s + 10 + 10) in
    pair_rounds 4 (record { client = resting_link names Role.Client c client_closed client; server = resting_link names Role.Server s server_closed server; to_client = []; to_server = [] })
    ≡ record {
      client = record (joined_link names (c + 10 + 10 + 10) client_closed cf (c + 10) answer) { clock = c + 10 + 10 + 10 + 10 };
      server = up_link names (s + 10 + 10 + 10 + 10) server_closed sf asked (s + 10 + 10) (stamp (c + 10 + 10 + 10));
      to_client = [];
      to_server = [];
    }
comes_up names c s client_closed server_closed client server h g =
    ap (λ (p : Pair). pair_round (pair_round (pair_round p))) one
    ∙ ap (λ (p : Pair). pair_round (pair_round p)) two
    ∙ ap (λ (p : Pair). pair_round p) three
    ∙ four
  where
    cf : ℕ
    cf = wire client.own_first client.sent

    sf : ℕ
    sf = wire server.own_first server.sent

    fits : cf < 2 ^ 32
    fits = omega arith

    server_fits : sf < 2 ^ 32
    server_fits = omega arith

    p1 : Pair
    p1 = record { client = asking_link names (c + 10) client_closed cf (c + 10); server = resting_link names Role.Server (s + 10) server_closed server; to_client = []; to_server = request names cf (c + 10) ∷ [] }

    asked : Pdu
    asked = request names cf (c + 10)

    answer : Pdu
    answer = response names sf asked (s + 10 + 10)

    p2 : Pair
    p2 = record { client = asking_link names (c + 10 + 10) client_closed cf (c + 10); server = granted_link names (s + 10 + 10) server_closed sf asked (s + 10 + 10); to_client = answer ∷ []; to_server = [] }

    p3 : Pair
    p3 = record {
      client = joined_link names (c + 10 + 10 + 10) client_closed cf (c + 10) answer;
      server = granted_link names (s + 10 + 10 + 10) server_closed sf asked (s + 10 + 10);
      to_client = [];
      to_server = first_beat names (c + 10 + 10 + 10) cf answer ∷ [];
    }

    p4 : Pair
    p4 = record {
      client = record (joined_link names (c + 10 + 10 + 10) client_closed cf (c + 10) answer) { clock = c + 10 + 10 + 10 + 10 };
      server = up_link names (s + 10 + 10 + 10 + 10) server_closed sf asked (s + 10 + 10) (stamp (c + 10 + 10 + 10));
      to_client = [];
      to_server = [];
    }

    one : pair_round (record { client = resting_link names Role.Client c client_closed client; server = resting_link names Role.Server s server_closed server; to_client = []; to_server = [] }) ≡ p1
    one = step_is _ _ _ (client_opens names c client_closed client h) (server_rests names s server_closed server)

    two : pair_round p1 ≡ p2
    two = step_is _ _ _ (client_waits names client_closed cf (c + 10) (c + 10) (omega arith) (omega arith)) (server_grants names (s + 10) server_closed cf (c + 10) server (omega (arith, g)))

    three : pair_round p2 ≡ p3
    three = step_is _ _ _ (client_joins names client_closed cf (c + 10) (c + 10 + 10) sf (s + 10 + 10) (omega arith) (omega arith) fits) (server_waits names server_closed sf (s + 10 + 10) (s + 10 + 10) asked (omega arith) (omega arith))

    four : pair_round p3 ≡ p4
    four = step_is _ _ _ (client_up names (c + 10 + 10 + 10) client_closed cf (c + 10) answer (omega arith)) (server_comes_up names server_closed cf (c + 10) sf (s + 10 + 10) (s + 10 + 10 + 10) (c + 10 + 10 + 10) (omega arith) (omega arith) fits server_fits)
