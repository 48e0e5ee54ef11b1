-- Two ends through good rounds: what is so after each of them, and how a connection that both stay in becomes healthy.
use Rattle.rasta_core_recovery.proofs.Words.Basics.{◌≡◌, ℕ, zero, suc, ◌∙◌, ◌+◌, ◌*◌, ◌-◌, ◌≤◌, ◌<◌, Bool, true, false, List, [], refl, sym, ap, subst, arith}
use Rattle.rasta_core_recovery.proofs.Words.Links.{LinkState, is_open, is_asking, is_up, Step, Role, Pdu, Names, identity_of, Each}
use Rattle.rasta_core_recovery.proofs.Lemmas.Rounds.Links.{Pair, end_round, pair_round, pair_rounds}
use Rattle.rasta_core_recovery.proofs.Lemmas.ComingUp.Healthy.{beats, count, IsRecent, IsSteady, Near, Healthy, Follows}
use Rattle.rasta_core_recovery.proofs.Lemmas.Rounds.Words.{Row, Voice, voice_of, IsNumbered, Chain, chain_ends}
use Rattle.rasta_core_recovery.proofs.Lemmas.Rounds.Course.{Joined}
use Rattle.rasta_core_recovery.proofs.Lemmas.Rounds.Fold.{Begins, late, on, begins, stays_out}
use Rattle.rasta_core_recovery.proofs.Lemmas.Rounds.Turn.{Either, gone, so, Numbers, numbers}
use Rattle.rasta_core_recovery.proofs.Lemmas.ComingUp.Converse.{Way, Talk, GoesQuietly, talks_on}
use Rattle.rasta_core_recovery.proofs.Lemmas.Asking.Asks.{Asks}
use Rattle.rasta_core_recovery.proofs.Lemmas.ComingUp.Joins.{joins_row}
use Rattle.rasta_core_recovery.proofs.Lemmas.ComingUp.Returned.{IsReturned, IsBehind, own_behind}
use Rattle.rasta_core_recovery.proofs.Lemmas.Rounds.Facts.{Young, Facts}
use Rattle.rasta_core_recovery.proofs.Lemmas.Rounds.Pasts.{Past}
use Rattle.rasta_core_recovery.proofs.Lemmas.ComingUp.Health.{reading_up, near_kept, client_due, server_due, client_steady, server_steady, client_said, server_said, health_kept}

-- no end in a connection is near the limit of PDUs
pub record Rooms (p : Pair) : Type 0 where
  pub client : is_open p.client.phase ≡ true → p.client.sent + 1 < 2147483000
  pub server : is_open p.server.phase ≡ true → p.server.sent + 1 < 2147483000

-- what is so after each round, up to this one
pub record Seen (names : Names) (n : ℕ) (p : Pair) : Type 0 where
  pub facts : (k : ℕ) → Facts names (pair_rounds k p)
  pub client_clock : (k : ℕ) → (pair_rounds k p).client.clock ≡ p.client.clock + 10 * k
  pub server_clock : (k : ℕ) → (pair_rounds k p).server.clock ≡ p.server.clock + 10 * k
  pub client_past : (k : ℕ) → Past (pair_rounds k p).client
  pub server_past : (k : ℕ) → Past (pair_rounds k p).server
  pub room : (k : ℕ) → k ≤ n → Rooms (pair_rounds k p)

pub round_first : (k : ℕ) (p : Pair) → pair_rounds k (pair_round p) ≡ pair_rounds (suc k) p
round_first zero p = refl
round_first (suc k) p = ap pair_round (round_first k p)

-- the same from a round later on
pub seen_on : (names : Names) (n : ℕ) (p : Pair) → Seen names (suc n) p → Seen names n (pair_round p)
seen_on names n p seen = record {
  facts = λ k. subst (Facts names) (sym (round_first k p)) (seen.facts (suc k));
  client_clock = λ k. let e = ap (λ (q : Pair). q.client.clock) (round_first k p) in let f = seen.client_clock (suc k) in let g = seen.client_clock 1 in omega (arith, e, f, g);
  server_clock = λ k. let e = ap (λ (q : Pair). q.server.clock) (round_first k p) in let f = seen.server_clock (suc k) in let g = seen.server_clock 1 in omega (arith, e, f, g);
  client_past = λ k. subst (λ (q : Pair). Past q.client) (sym (round_first k p)) (seen.client_past (suc k));
  server_past = λ k. subst (λ (q : Pair). Past q.server) (sym (round_first k p)) (seen.server_past (suc k));
  room = λ k most. subst Rooms (sym (round_first k p)) (seen.room (suc k) (omega (arith, most)));
}

pub seen_later : (names : Names) (m n : ℕ) (p : Pair) → Seen names (m + n) p → Seen names n (pair_rounds m p)
seen_later names zero n p seen = subst (λ (k : ℕ). Seen names k p) (omega arith) seen
seen_later names (suc m) n p seen = seen_on names n (pair_rounds m p) (seen_later names m (suc n) p (subst (λ (k : ℕ). Seen names k p) (omega arith) seen))

pub rounds_add : (n m : ℕ) (p : Pair) → pair_rounds n (pair_rounds m p) ≡ pair_rounds (n + m) p
rounds_add zero m p = let e : m ≡ zero + m = omega arith in ap (λ (k : ℕ). pair_rounds k p) e
rounds_add (suc n) m p = let e : suc (n + m) ≡ suc n + m = omega arith in ap pair_round (rounds_add n m p) ∙ ap (λ (k : ℕ). pair_rounds k p) e

-- both ends are inside
pub record BothIn (p : Pair) : Type 0 where
  pub client : is_open p.client.phase ≡ true
  pub server : is_open p.server.phase ≡ true

pub joined_of : (l : LinkState) → is_open l.phase ≡ true → is_asking l ≡ false → Young l → Joined l.clock l
joined_of l is_in joined young = record { clock = refl; connected = is_in; joined = joined; young = young.young; own = young.own }

pub server_not_asking : (names : Names) (l : LinkState) → l.identity ≡ identity_of Role.Server names → is_asking l ≡ false
server_not_asking names l is = by l (ap (λ i. i.role) is)
  where
    by : (l : LinkState) → l.identity.role ≡ Role.Server → is_asking l ≡ false
    by l e = grind (arith, e)

-- ---- the first rounds

pub record Rows (p q : Pair) : Type 0 where
  pub joined : is_asking q.client ≡ false
  pub client : Row (IsNumbered (voice_of q.client)) p.client.sent q.to_server q.client.sent
  pub server : Row (IsNumbered (voice_of q.server)) p.server.sent q.to_client q.server.sent

pub server_says : (p : Pair) → Joined p.server.clock p.server → BothIn (pair_round p) → Numbers (p.server.clock + 10) p.server (end_round (p.server.clock + 10) p.to_server p.server)
unfolding pair_round
server_says p s then_in = choose (numbers (p.server.clock + 10) p.to_server p.server s refl)
  where
    choose : Either (p.server.clock + 10) (end_round (p.server.clock + 10) p.to_server p.server).link (Numbers (p.server.clock + 10) p.server (end_round (p.server.clock + 10) p.to_server p.server))
        → Numbers (p.server.clock + 10) p.server (end_round (p.server.clock + 10) p.to_server p.server)
    choose (gone left) = absurd (cc (left.is_out, then_in.server))
    choose (so n) = n

pub rows_after : (p : Pair) → Joined p.client.clock p.client → Joined p.server.clock p.server → BothIn (pair_round p) → Rows p (pair_round p)
unfolding pair_round
rows_after p c s then_in = record { joined = x.is.joined; client = x.row; server = (server_says p s then_in).row }
  where
    x : Numbers (p.client.clock + 10) p.client (end_round (p.client.clock + 10) p.to_client p.client)
    x = choose (numbers (p.client.clock + 10) p.to_client p.client c refl)
      where
        choose : Either (p.client.clock + 10) (end_round (p.client.clock + 10) p.to_client p.client).link (Numbers (p.client.clock + 10) p.client (end_round (p.client.clock + 10) p.to_client p.client))
            → Numbers (p.client.clock + 10) p.client (end_round (p.client.clock + 10) p.to_client p.client)
        choose (gone left) = absurd (cc (left.is_out, then_in.client))
        choose (so n) = n

-- the same of a client that asks before the round, and joins in it
pub rows_joining : (p : Pair) → Asks p.client.clock p.client → Joined p.server.clock p.server → is_asking (pair_round p).client ≡ false → BothIn (pair_round p) → Rows p (pair_round p)
unfolding pair_round
rows_joining p c s joined then_in = record { joined = joined; client = joins_row (p.client.clock + 10) p.to_client p.client c refl then_in.client joined; server = (server_says p s then_in).row }

-- the server knows no own stamp that is younger than before a round in which nothing younger is returned to it
pub server_behind : (p : Pair) → Joined p.server.clock p.server → Each (IsReturned p.server.clock) p.to_server → is_open (pair_round p).server.phase ≡ true → (pair_round p).server.own_stamp ≤ p.server.clock
unfolding pair_round
server_behind p is each then_in = choose (own_behind p.server.clock (p.server.clock + 10) refl p.to_server p.server refl is each)
  where
    s : Step
    s = end_round (p.server.clock + 10) p.to_server p.server

    choose : Either (p.server.clock + 10) s.link (IsBehind p.server.clock (p.server.clock + 10) s.link) → s.link.own_stamp ≤ p.server.clock
    choose (gone left) = absurd (cc (left.is_out, then_in))
    choose (so b) = b.own

-- while both stay
pub record Stay (n : ℕ) (p : Pair) : Type 0 where
  pub both : (k : ℕ) → k ≤ n → BothIn (pair_rounds k p)

pub stay_on : (n : ℕ) (p : Pair) → Stay (suc n) p → Stay n (pair_round p)
stay_on n p stay = record { both = λ k most. subst BothIn (sym (round_first k p)) (stay.both (suc k) (omega (arith, most))) }

pub stay_later : (m n : ℕ) (p : Pair) → Stay (m + n) p → Stay n (pair_rounds m p)
stay_later zero n p stay = subst (λ (k : ℕ). Stay k p) (omega arith) stay
stay_later (suc m) n p stay = stay_on n (pair_rounds m p) (stay_later m (suc n) p (subst (λ (k : ℕ). Stay k p) (omega arith) stay))

pub talk_step : (names : Names) (of_client of_server : ℕ) (client_tuned server_tuned : Bool) (p : Pair) → (talk : Talk names of_client of_server client_tuned server_tuned p) → Rooms p → BothIn p → BothIn (pair_round p)
    → p.client.clock ≤ of_client + 100000 → p.server.clock ≤ of_server + 100000 → GoesQuietly names of_client of_server client_tuned server_tuned p talk
talk_step names of_client of_server client_tuned server_tuned p talk rooms now_in then_in client_short server_short =
    let c = rooms.client now_in.client in let s = rooms.server now_in.server in
    talks_on names of_client of_server client_tuned server_tuned p talk (omega (arith, c)) (omega (arith, s)) client_short server_short then_in.client then_in.server

-- ---- two rounds later there are heartbeats alone

pub tuned_up : (partner_start own_start kept other_kept : ℕ) (l m : LinkState) (ps : List Pdu) → Way partner_start own_start true kept other_kept l m ps → is_up l.phase ≡ true
tuned_up partner_start own_start kept other_kept l m ps w = reading_up l.phase w.mode.0.reading

level : (v : Voice) (n c r end d q : ℕ) (f : Bool) (m : LinkState) → Chain v n c r (beats f m) end d q → n + count f ≡ end
level v n c r end d q false m chain = omega (arith, chain.0)
level v n c r end d q true m (x, y, h, i, w, more) = more.0

recent_is : (f : Bool) (m : LinkState) (kept : ℕ) → (beats f m ≡ [] → m.sent_at ≤ kept) → (f ≡ true → m.sent_at ≡ m.clock) → m.clock ≤ kept + 309 → IsRecent f m kept
recent_is false m kept last said near = last refl
recent_is true m kept last said near = (said refl, near)

hears_of : (partner_start own_start kept other_kept : ℕ) (f : Bool) (l m : LinkState) (ps qs : List Pdu) → Way partner_start own_start true kept other_kept l m ps → Way own_start partner_start true other_kept kept m l qs
    → ps ≡ beats f m → (f ≡ true → m.sent_at ≡ m.clock) → m.clock < m.sent_at + 300 → m.clock ≤ kept + 309 → Follows f l m
hears_of partner_start own_start kept other_kept f l m ps qs there back same said calm near =
    let e = chain_ends (voice_of l) back.number back.count back.reading l.sent (l.expected - 1) kept qs back.chain in record {
      reads = there.mode.0.reading;
      first = there.first;
      some = there.some;
      expected = ap (λ (x : ℕ). x + count f) there.mode.0.expected
          ∙ level (voice_of m) there.number there.count there.reading m.sent (m.expected - 1) other_kept f m
          (subst (λ (rs : List Pdu). Chain (voice_of m) there.number there.count there.reading rs m.sent (m.expected - 1) other_kept) same there.chain);
      confirmed = omega (arith, back.mode.0.confirmed, e.1, there.some);
      reading = kept;
      kept = there.kept_is;
      since = omega (arith, back.mode.0.own, e.2);
      before = there.before;
      sent_before = there.sent_before;
      calm = calm;
      recent = recent_is f m kept (λ none. there.mode.1 (same ∙ none)) said near;
      own_before = there.is.own;
    }

-- what two rounds of two tuned ends leave
pub record NearBy (names : Names) (p : Pair) : Type 0 where
  pub of_client : Bool
  pub of_server : Bool
  pub near : Near names 1 of_client of_server p

-- a pair with heartbeats alone under way
record Beating (p : Pair) : Type 0 where
  client_beats : (b : Bool) × (p.to_server ≡ beats b p.client) × (b ≡ true → p.client.sent_at ≡ p.client.clock)
  server_beats : (b : Bool) × (p.to_client ≡ beats b p.server) × (b ≡ true → p.server.sent_at ≡ p.server.clock)
  client_calm : is_up p.client.phase ≡ true → p.client.clock < p.client.sent_at + 300
  server_calm : is_up p.server.phase ≡ true → p.server.clock < p.server.sent_at + 300

near_from : (names : Names) (of_client of_server : ℕ) (p : Pair) (tc ts : Bool) → tc ≡ true → ts ≡ true → (talk : Talk names of_client of_server tc ts p)
    → p.server.clock ≤ talk.client_kept + 309 → p.client.clock ≤ talk.server_kept + 309 → Beating p → Rooms p → BothIn p → NearBy names p
near_from names of_client of_server p false ts e f talk client_near server_near b rooms in_it = absurd (cc e)
near_from names of_client of_server p true false e f talk client_near server_near b rooms in_it = absurd (cc f)
near_from names of_client of_server p true true e f talk client_near server_near b rooms in_it = let cr = rooms.client in_it.client in let sr = rooms.server in_it.server in record {
  of_client = b.client_beats.0;
  of_server = b.server_beats.0;
  near = record {
    beside = record {
      client = talk.client;
      server = talk.server;
      to_client = b.server_beats.1;
      to_server = b.client_beats.1;
      hears_server = hears_of of_server of_client talk.client_kept talk.server_kept b.server_beats.0 p.client p.server p.to_client p.to_server talk.to_client talk.to_server b.server_beats.1 b.server_beats.2
          (b.server_calm (tuned_up of_client of_server talk.server_kept talk.client_kept p.server p.client p.to_server talk.to_server)) client_near;
      hears_client = hears_of of_client of_server talk.server_kept talk.client_kept b.client_beats.0 p.server p.client p.to_server p.to_client talk.to_server talk.to_client b.client_beats.1 b.client_beats.2
          (b.client_calm (tuned_up of_server of_client talk.client_kept talk.server_kept p.client p.server p.to_client talk.to_client)) server_near;
    };
    client_room = omega (arith, cr);
    server_room = omega (arith, sr);
  };
}

pub near_by : (names : Names) (n of_client of_server : ℕ) (p : Pair) → 2 ≤ n → Seen names n p → Stay n p → Talk names of_client of_server true true p → p.client.clock + 10 ≤ of_client + 100000 → p.server.clock + 10 ≤ of_server + 100000
    → NearBy names (pair_rounds 2 p)
near_by names n of_client of_server p long seen stay talk client_short server_short =
    near_from names of_client of_server (pair_rounds 2 p) g2.goes.then_client g2.goes.then_server (g2.goes.client_keeps refl) (g2.goes.server_keeps refl) g2.goes.talk (g2.goes.client_near refl server_calm) (g2.goes.server_near refl client_calm)
    (record { client_beats = g2.client_beats refl (g1.goes.server_plain refl); server_beats = g2.server_beats refl (g1.goes.client_plain refl); client_calm = g2.goes.client_calm; server_calm = g2.goes.server_calm })
    (seen.room 2 long) (stay.both 2 long)
  where
    g1 : GoesQuietly names of_client of_server true true p talk
    g1 = talk_step names of_client of_server true true p talk (seen.room 0 (omega arith)) (stay.both 0 (omega arith)) (stay.both 1 (omega (arith, long))) (omega (arith, client_short)) (omega (arith, server_short))

    mid_talk : Talk names of_client of_server true true (pair_round p)
    mid_talk = subst (λ (b : Bool). Talk names of_client of_server true b (pair_round p)) (g1.goes.server_keeps refl) (subst (λ (b : Bool). Talk names of_client of_server b g1.goes.then_server (pair_round p)) (g1.goes.client_keeps refl) g1.goes.talk)

    g2 : GoesQuietly names of_client of_server true true (pair_round p) mid_talk
    g2 = talk_step names of_client of_server true true (pair_round p) mid_talk (seen.room 1 (omega (arith, long))) (stay.both 1 (omega (arith, long))) (stay.both 2 long)
        (omega (arith, client_short, g1.goes.client_clock)) (omega (arith, server_short, g1.goes.server_clock))

    client_calm : (pair_round p).client.clock < (pair_round p).client.sent_at + 300
    client_calm = g1.goes.client_calm (tuned_up of_server of_client mid_talk.client_kept mid_talk.server_kept (pair_round p).client (pair_round p).server (pair_round p).to_client mid_talk.to_client)

    server_calm : (pair_round p).server.clock < (pair_round p).server.sent_at + 300
    server_calm = g1.goes.server_calm (tuned_up of_client of_server mid_talk.server_kept mid_talk.client_kept (pair_round p).server (pair_round p).client (pair_round p).to_server mid_talk.to_server)

-- ---- and 31 rounds later both are healthy

-- an end has been heard lately, or its partner's heartbeat is under way or due
data Awaits (start : ℕ) (flies : Bool) (l m : LinkState) : Type 0 where
  steady : IsSteady flies l m → Awaits start flies l m
  under_way : flies ≡ true → Awaits start flies l m
  due : flies ≡ false → m.sent_at ≤ start → Awaits start flies l m

awaits_on : (start : ℕ) (f g : Bool) (l m l1 m1 : LinkState) → Awaits start f l m → ((f ≡ false → IsSteady f l m) → IsSteady g l1 m1) → (g ≡ false → f ≡ false → m1.sent_at ≡ m.sent_at) → Awaits start g l1 m1
awaits_on start f g l m l1 m1 (steady s) becomes stays = steady (becomes (λ e. s))
awaits_on start f g l m l1 m1 (under_way e) becomes stays = steady (becomes (λ h. absurd (cc (e, h))))
awaits_on start f true l m l1 m1 (due e old) becomes stays = under_way refl
awaits_on start f false l m l1 m1 (due e old) becomes stays = due refl (omega (arith, old, stays refl e))

near_room : (names : Names) (of_client of_server : Bool) (p : Pair) → Near names 0 of_client of_server p → Rooms p → BothIn p → Near names 1 of_client of_server p
near_room names of_client of_server p near rooms in_it =
    let c = rooms.client in_it.client in let s = rooms.server in_it.server in record { beside = near.beside; client_room = omega (arith, c); server_room = omega (arith, s) }

record NearAt (names : Names) (client_start server_start : ℕ) (p : Pair) : Type 0 where
  of_client : Bool
  of_server : Bool
  near : Near names 1 of_client of_server p
  client : Awaits server_start of_server p.client p.server
  server : Awaits client_start of_client p.server p.client

-- an end that stays through a round lives through it
pub lives_through : (l : LinkState) (ps : List Pdu) → is_open l.phase ≡ true → Young l → is_open (end_round (l.clock + 10) ps l).link.phase ≡ true → l.clock + 10 < l.own_stamp + 1800
lives_through l ps is_in young then_in = choose (begins (l.clock + 10) l refl is_in young.young)
  where
    choose : Begins (l.clock + 10) l → l.clock + 10 < l.own_stamp + 1800
    choose (late left) = let gone_then = stays_out (l.clock + 10) ps l left in absurd (cc (gone_then.is_out, then_in))
    choose (on e young) = young

client_lives : (p : Pair) → Young p.client → BothIn p → BothIn (pair_round p) → p.client.clock + 10 < p.client.own_stamp + 1800
unfolding pair_round
client_lives p young now_in then_in = lives_through p.client p.to_client now_in.client young then_in.client

server_lives : (p : Pair) → Young p.server → BothIn p → BothIn (pair_round p) → p.server.clock + 10 < p.server.own_stamp + 1800
unfolding pair_round
server_lives p young now_in then_in = lives_through p.server p.to_server now_in.server young then_in.server

near_step : (names : Names) (client_start server_start : ℕ) (p : Pair) → Facts names p → NearAt names client_start server_start p → BothIn p → BothIn (pair_round p) → Rooms (pair_round p) → NearAt names client_start server_start (pair_round p)
near_step names client_start server_start p facts at in_it then_in rooms = record {
  of_client = client_due names 0 at.of_client at.of_server p at.near cy sy;
  of_server = server_due names 0 at.of_client at.of_server p at.near cy sy;
  near = near_room names _ _ (pair_round p) (near_kept names 0 at.of_client at.of_server p at.near cy sy) rooms then_in;
  client = awaits_on server_start at.of_server _ p.client p.server (pair_round p).client (pair_round p).server at.client (client_steady names 0 at.of_client at.of_server p at.near cy sy) (server_said names 0 at.of_client at.of_server p at.near cy sy);
  server = awaits_on client_start at.of_client _ p.server p.client (pair_round p).server (pair_round p).client at.server (server_steady names 0 at.of_client at.of_server p at.near cy sy) (client_said names 0 at.of_client at.of_server p at.near cy sy);
}
  where
    cy : p.client.clock + 10 < p.client.own_stamp + 1800
    cy = client_lives p (facts.client_young in_it.client) in_it then_in

    sy : p.server.clock + 10 < p.server.own_stamp + 1800
    sy = server_lives p (facts.server_young in_it.server) in_it then_in

near_at : (names : Names) (j n : ℕ) (p : Pair) → Seen names n p → Stay n p → j ≤ n → NearAt names p.client.clock p.server.clock p → NearAt names p.client.clock p.server.clock (pair_rounds j p)
near_at names zero n p seen stay most at = at
near_at names (suc j) n p seen stay most at =
    near_step names p.client.clock p.server.clock (pair_rounds j p) (seen.facts j) (near_at names j n p seen stay (omega (arith, most)) at) (stay.both j (omega (arith, most))) (stay.both (suc j) most) (seen.room (suc j) most)

begin_awaits : (start : ℕ) (f : Bool) (l m : LinkState) → m.sent_at ≤ m.clock → m.clock ≡ start → Awaits start f l m
begin_awaits start true l m before at = under_way refl
begin_awaits start false l m before at = due refl (omega (arith, before, at))

-- after 300 ms a heartbeat isn't only due
not_due_then : (start : ℕ) (f : Bool) (l m : LinkState) → Awaits start f l m → m.clock < m.sent_at + 300 → start + 300 ≤ m.clock → (f ≡ false → IsSteady f l m)
not_due_then start f l m (steady s) calm long = λ e. s
not_due_then start f l m (under_way e) calm long = λ h. absurd (cc (e, h))
not_due_then start f l m (due e old) calm long = absurd (omega (arith, old, calm, long))

pub healthy_after : (names : Names) (n : ℕ) (p : Pair) → Seen names n p → Stay n p → 31 ≤ n → NearBy names p → Healthy names 1 (pair_rounds 31 p)
healthy_after names n p seen stay long by = record {
  of_client = client_due names 0 at.of_client at.of_server q at.near cy sy;
  of_server = server_due names 0 at.of_client at.of_server q at.near cy sy;
  near = near_room names _ _ (pair_round q) (near_kept names 0 at.of_client at.of_server q at.near cy sy) (seen.room 31 long) (stay.both 31 long);
  steady_client = client_steady names 0 at.of_client at.of_server q at.near cy sy (not_due_then p.server.clock at.of_server q.client q.server at.client at.near.hears_server.calm (omega (arith, seen.server_clock 30)));
  steady_server = server_steady names 0 at.of_client at.of_server q at.near cy sy (not_due_then p.client.clock at.of_client q.server q.client at.server at.near.hears_client.calm (omega (arith, seen.client_clock 30)));
}
  where
    q : Pair
    q = pair_rounds 30 p

    at : NearAt names p.client.clock p.server.clock q
    at = near_at names 30 n p seen stay (omega (arith, long)) (record {
      of_client = by.of_client;
      of_server = by.of_server;
      near = by.near;
      client = begin_awaits p.server.clock by.of_server p.client p.server by.near.hears_server.sent_before refl;
      server = begin_awaits p.client.clock by.of_client p.server p.client by.near.hears_client.sent_before refl;
    })

    in_it : BothIn q
    in_it = stay.both 30 (omega (arith, long))

    then_in : BothIn (pair_round q)
    then_in = stay.both 31 long

    cy : q.client.clock + 10 < q.client.own_stamp + 1800
    cy = client_lives q ((seen.facts 30).client_young in_it.client) in_it then_in

    sy : q.server.clock + 10 < q.server.own_stamp + 1800
    sy = server_lives q ((seen.facts 30).server_young in_it.server) in_it then_in

-- ---- and stay so

-- health is kept as long as there is room
pub healthy_for : (names : Names) (j n : ℕ) (p : Pair) → Seen names n p → j ≤ n → Healthy names 1 p → Healthy names 1 (pair_rounds j p)
healthy_for names zero n p seen most h = h
healthy_for names (suc j) n p seen most h = roomy (health_kept names 0 (pair_rounds j p) (healthy_for names j n p seen (omega (arith, most)) h))
  where
    roomy : Healthy names 0 (pair_rounds (suc j) p) → Healthy names 1 (pair_rounds (suc j) p)
    roomy k = record {
      of_client = k.of_client;
      of_server = k.of_server;
      near = near_room names k.of_client k.of_server (pair_rounds (suc j) p) k.near (seen.room (suc j) most) (record { client = ap is_open k.steady_client.up; server = ap is_open k.steady_server.up });
      steady_client = k.steady_client;
      steady_server = k.steady_server;
    }
