-- Two ends at work that are up and stay so: each takes what the other says, and has been heard lately.
use Rattle.rasta_core_recovery.proofs.Words.Basics.{◌≡◌, ℕ, ◌+◌, ◌^◌, ◌≤◌, ◌<◌, ◌⊎◌, inl, inr, Bool, true, false, List, [], ◌∷◌, refl, sym, ap, subst, arith}
use Rattle.rasta_core_recovery.proofs.Words.Links.{LinkState, is_up, settled, Step, Role, Pdu, Each, Names, identity_of}
use Rattle.rasta_core_recovery.proofs.Lemmas.Rounds.Links.{Pair}
use Rattle.rasta_core_recovery.proofs.Lemmas.Rounds.Acts.{Act, acted, all_did, HasRoom, Roomy, WorkRound, client_step, server_step, behind}
use Rattle.rasta_core_recovery.proofs.Lemmas.Rounds.Calls.{at_reading}
use Rattle.rasta_core_recovery.proofs.Lemmas.Rounds.Fold.{settled_in}
use Rattle.rasta_core_recovery.proofs.Lemmas.ComingUp.Health.{reading_up}
use Rattle.rasta_core_recovery.proofs.Lemmas.ComingUp.TunedEnds.{IsPlainPdu, Round, Bounds}
use Rattle.rasta_core_recovery.proofs.Lemmas.Rounds.Turn.{EndMode, reading_joined}
use Rattle.rasta_core_recovery.proofs.Lemmas.Rounds.Given.{Grows}
use Rattle.rasta_core_recovery.proofs.Lemmas.Rounds.Course.{Joined}
use Rattle.rasta_core_recovery.proofs.Lemmas.Rounds.Within.{Within, all_grow, work_brings}
use Rattle.rasta_core_recovery.proofs.Lemmas.ComingUp.Converse.{Way, Talk, Goes, client_round, server_round, hearing_now}
use Rattle.rasta_core_recovery.proofs.Lemmas.AtWork.WorkTurn.{IsSimplePdu, simple_are_plain, Worked, Left, has_left, stays_in, works_surely}
use Rattle.rasta_core_recovery.proofs.Lemmas.AtWork.WorkTalk.{GoesAtWork, client_bounds, server_bounds, both_go}

-- One direction: an end takes what comes, has heard its partner lately, and what comes is heartbeats and new items, which return a
-- stamp of lately.
pub record Close (kept other_kept : ℕ) (l m : LinkState) (ps : List Pdu) : Type 0 where
  pub way : Way kept other_kept true kept other_kept l m ps
  pub simple : Each IsSimplePdu ps
  pub calm : m.clock < m.sent_at + 300
  pub recent : m.clock ≤ kept + 309
  pub lately : l.clock ≤ way.reading + 319

pub record Closely (names : Names) (p : Pair) : Type 0 where
  pub client : p.client.identity ≡ identity_of Role.Client names
  pub server : p.server.identity ≡ identity_of Role.Server names
  pub client_kept : ℕ
  pub server_kept : ℕ
  pub to_client : Close client_kept server_kept p.client p.server p.to_client
  pub to_server : Close server_kept client_kept p.server p.client p.to_server

-- the own stamp that its partner returned last isn't old
pub record Alive (l m : LinkState) (ps : List Pdu) : Type 0 where
  pub under : l.clock ≤ l.own_stamp + 640
  pub idle : ps ≡ [] → l.clock + m.sent_at ≤ l.own_stamp + 320 + m.clock

pub record Hale (names : Names) (p : Pair) : Type 0 where
  pub near : Closely names p
  pub client : Alive p.client p.server p.to_client
  pub server : Alive p.server p.client p.to_server

-- ---- a round

-- what a round is to one direction
pub record Onward (l m : LinkState) (ps : List Pdu) (k n : LinkState) (qs : List Pdu) : Type 0 where
  pub clock : k.clock ≡ l.clock + 10
  pub other_clock : n.clock ≡ m.clock + 10
  pub own : (l.clock ≤ k.own_stamp + 319) ⊎ ((ps ≡ []) × (k.own_stamp ≡ l.own_stamp))
  pub said : qs ≡ [] → n.sent_at ≡ m.sent_at
  pub before : m.sent_at ≤ m.clock
  pub calm : m.clock < m.sent_at + 300

alive_on : (l m : LinkState) (ps : List Pdu) (k n : LinkState) (qs : List Pdu) → Onward l m ps k n qs → Alive l m ps → Alive k n qs
alive_on l m ps k n qs o a = choose o.own
  where
    choose : (l.clock ≤ k.own_stamp + 319) ⊎ ((ps ≡ []) × (k.own_stamp ≡ l.own_stamp)) → Alive k n qs
    choose (inl fresh) = record { under = omega (arith, fresh, o.clock); idle = λ none. omega (arith, fresh, o.clock, o.other_clock, o.said none, o.before) }
    choose (inr (none_came, same)) = let i = a.idle none_came in record {
      under = omega (arith, i, same, o.clock, o.calm);
      idle = λ none. omega (arith, i, same, o.clock, o.other_clock, o.said none);
    }

-- it has been heard lately, or what its partner says is under way, or due
pub data Awaits (start : ℕ) (l m : LinkState) (ps : List Pdu) : Type 0 where
  alive : Alive l m ps → Awaits start l m ps
  under_way : (ps ≡ [] → ⊥) → Awaits start l m ps
  due : ps ≡ [] → m.sent_at ≤ start → Awaits start l m ps

fresh_alive : (l m : LinkState) (ps : List Pdu) (k n : LinkState) (qs : List Pdu) → Onward l m ps k n qs → (ps ≡ [] → ⊥) → Alive k n qs
fresh_alive l m ps k n qs o some = choose o.own
  where
    choose : (l.clock ≤ k.own_stamp + 319) ⊎ ((ps ≡ []) × (k.own_stamp ≡ l.own_stamp)) → Alive k n qs
    choose (inl fresh) = record { under = omega (arith, fresh, o.clock); idle = λ none. omega (arith, fresh, o.clock, o.other_clock, o.said none, o.before) }
    choose (inr (none_came, same)) = absurd (some none_came)

awaits_on : (start : ℕ) (l m : LinkState) (ps : List Pdu) (k n : LinkState) (qs : List Pdu) → Onward l m ps k n qs → Awaits start l m ps → Awaits start k n qs
awaits_on start l m ps k n qs o (alive a) = alive (alive_on l m ps k n qs o a)
awaits_on start l m ps k n qs o (under_way some) = alive (fresh_alive l m ps k n qs o some)
awaits_on start l m ps k n qs o (due none old) = choose qs refl
  where
    choose : (rs : List Pdu) → qs ≡ rs → Awaits start k n qs
    choose [] e = due e (omega (arith, o.said e, old))
    choose (p ∷ rs) e = under_way (λ f. cc (e, f))

-- with the starts at what both have kept
rebased : (start own_start kept other_kept : ℕ) (b : Bool) (l m : LinkState) (ps : List Pdu) → b ≡ true → (w : Way start own_start b kept other_kept l m ps) → other_kept ≤ w.reading + 5000
    → (v : Way kept other_kept true kept other_kept l m ps) × (v.reading ≡ w.reading)
rebased start own_start kept other_kept false l m ps e w near = absurd (cc e)
rebased start own_start kept other_kept true l m ps e w near = (
  record {
    is = w.is;
    first = w.first;
    some = w.some;
    most = w.most;
    kept_is = w.kept_is;
    before = w.before;
    low = omega arith;
    sent_before = w.sent_before;
    number = w.number;
    count = w.count;
    reading = w.reading;
    chain = w.chain;
    since = omega (arith, near);
    mode = w.mode;
    later = w.before;
    young = λ f. omega arith;
    deaf = λ f. absurd (cc f);
  },
  refl,
)

-- an end that takes what comes is up
way_up : (start own_start kept other_kept : ℕ) (b : Bool) (l m : LinkState) (ps : List Pdu) → b ≡ true → Way start own_start b kept other_kept l m ps → is_up l.phase ≡ true
way_up start own_start kept other_kept false l m ps e w = absurd (cc e)
way_up start own_start kept other_kept true l m ps e w = reading_up l.phase w.mode.0.reading

-- what the end's round makes of its own stamp
own_goes : (x : Round) (b : Bounds x) (y : Bool) (kept : ℕ) (k : LinkState) (least : ℕ) → y ≡ true → least ≤ x.reading + 319 → EndMode x b y kept k → (least ≤ k.own_stamp + 319) ⊎ ((x.pdus ≡ []) × (k.own_stamp ≡ x.own))
own_goes x b false kept k least e lately mode = absurd (cc e)
own_goes x b true kept k least e lately (t, inl h) = inl (omega (arith, lately, h.1))
own_goes x b true kept k least e lately (t, inr (none, w)) = inr (none, w.2)

pub room_first : (now : ℕ) (acts : List Act) (l : LinkState) → Roomy now acts l → HasRoom l
room_first now [] l room = room
room_first now (a ∷ acts) l room = room.0

module _ (names : Names) (p : Pair) (r : WorkRound p) (c : Closely names p) (client_young : p.client.clock + 10 < p.client.own_stamp + 1800) (server_young : p.server.clock + 10 < p.server.own_stamp + 1800) where
  abbrev talk : Talk names c.server_kept c.client_kept true true p
  talk = record { client = c.client; server = c.server; client_kept = c.client_kept; server_kept = c.server_kept; to_client = c.to_client.way; to_server = c.to_server.way }

  pub client_on : settled (p.client.clock + 10) p.client ≡ at_reading (p.client.clock + 10) p.client
  client_on = settled_in (p.client.clock + 10) p.client c.to_client.way.is.connected client_young

  pub server_on : settled (p.server.clock + 10) p.server ≡ at_reading (p.server.clock + 10) p.server
  server_on = settled_in (p.server.clock + 10) p.server c.to_server.way.is.connected server_young

  client_room : Roomy (p.client.clock + 10) r.client_acts (at_reading (p.client.clock + 10) p.client)
  client_room = subst (Roomy (p.client.clock + 10) r.client_acts) client_on r.client_room

  server_room : Roomy (p.server.clock + 10) r.server_acts (at_reading (p.server.clock + 10) p.server)
  server_room = subst (Roomy (p.server.clock + 10) r.server_acts) server_on r.server_room

  pub client_fits : p.client.sent < 2 ^ 31
  client_fits = let room = room_first (p.client.clock + 10) r.client_acts (at_reading (p.client.clock + 10) p.client) client_room c.to_client.way.is.connected in omega (arith, room)

  pub server_fits : p.server.sent < 2 ^ 31
  server_fits = let room = room_first (p.server.clock + 10) r.server_acts (at_reading (p.server.clock + 10) p.server) server_room c.to_server.way.is.connected in omega (arith, room)

  client_short : p.client.clock ≤ c.server_kept + 100000
  client_short = omega (arith, c.to_server.recent)

  server_short : p.server.clock ≤ c.client_kept + 100000
  server_short = omega (arith, c.to_client.recent)

  abbrev xc : Round
  xc = client_round names c.server_kept c.client_kept true true p talk

  abbrev xs : Round
  xs = server_round names c.server_kept c.client_kept true true p talk

  abbrev bc : Bounds xc
  bc = client_bounds names c.server_kept c.client_kept true true p r talk client_fits server_fits client_short server_short

  abbrev bs : Bounds xs
  bs = server_bounds names c.server_kept c.client_kept true true p r talk client_fits server_fits client_short server_short

  surely : {x : Round} {b : Bounds x} {l : LinkState} {s : Step} → Left x b true true l s → Worked x b true l s
  surely (has_left why left) = absurd why
  surely (stays_in w) = w

  client_does : client_step p r ≡ all_did (p.client.clock + 10) r.client_acts (at_reading (p.client.clock + 10) p.client)
  unfolding acted
  client_does = ap (all_did (p.client.clock + 10) r.client_acts) client_on

  server_does : server_step p r ≡ all_did (p.server.clock + 10) r.server_acts (at_reading (p.server.clock + 10) p.server)
  unfolding acted
  server_does = ap (all_did (p.server.clock + 10) r.server_acts) server_on

  client_worked : Worked xc bc true p.client (client_step p r)
  client_worked = surely (works_surely xc bc true Role.Client r.client_acts (record { kept = c.client_kept; tuned = true }) p.client r.client_work refl refl
      (hearing_now names Role.Client c.client_kept c.server_kept true true c.client_kept c.server_kept p.client p.server p.to_client p.to_server (record { own = c.client; other = c.server }) c.to_client.way c.to_server.way server_fits client_short client_young)
      c.to_client.simple client_room (client_step p r) client_does)

  server_worked : Worked xs bs true p.server (server_step p r)
  server_worked = surely (works_surely xs bs true Role.Server r.server_acts (record { kept = c.server_kept; tuned = true }) p.server r.server_work refl refl
      (hearing_now names Role.Server c.server_kept c.client_kept true true c.server_kept c.client_kept p.server p.client p.to_server p.to_client (record { own = c.server; other = c.client }) c.to_server.way c.to_client.way client_fits server_short server_young)
      c.to_server.simple server_room (server_step p r) server_does)

  at_work : GoesAtWork names c.server_kept c.client_kept true true p r talk
  at_work = both_go names c.server_kept c.client_kept true true p r talk client_fits server_fits client_short server_short client_worked server_worked

  goes : Goes names c.server_kept c.client_kept true true p (behind p r) talk
  goes = at_work.goes

  new_client : (v : Way goes.talk.client_kept goes.talk.server_kept true goes.talk.client_kept goes.talk.server_kept (behind p r).client (behind p r).server (behind p r).to_client) × (v.reading ≡ goes.talk.to_client.reading)
  new_client = rebased c.client_kept c.server_kept goes.talk.client_kept goes.talk.server_kept goes.then_client (behind p r).client (behind p r).server (behind p r).to_client (goes.client_keeps refl) goes.talk.to_client
      (omega (arith, goes.talk.to_server.before, goes.client_way.2, goes.client_clock, c.to_server.recent))

  new_server : (v : Way goes.talk.server_kept goes.talk.client_kept true goes.talk.server_kept goes.talk.client_kept (behind p r).server (behind p r).client (behind p r).to_server) × (v.reading ≡ goes.talk.to_server.reading)
  new_server = rebased c.server_kept c.client_kept goes.talk.server_kept goes.talk.client_kept goes.then_server (behind p r).server (behind p r).client (behind p r).to_server (goes.server_keeps refl) goes.talk.to_server
      (omega (arith, goes.talk.to_client.before, goes.server_way.2, goes.server_clock, c.to_client.recent))

  pub closely_on : Closely names (behind p r)
  closely_on = record {
    client = goes.talk.client;
    server = goes.talk.server;
    client_kept = goes.talk.client_kept;
    server_kept = goes.talk.server_kept;
    to_client = record {
      way = new_client.0;
      simple = at_work.server_simple refl (simple_are_plain p.to_server c.to_server.simple);
      calm = goes.server_calm (way_up _ _ _ _ goes.then_server _ _ _ (goes.server_keeps refl) goes.talk.to_server);
      recent = goes.client_near refl c.to_client.calm;
      lately = omega (arith, new_client.1, goes.client_way.2, goes.client_clock, c.to_server.recent);
    };
    to_server = record {
      way = new_server.0;
      simple = at_work.client_simple refl (simple_are_plain p.to_client c.to_client.simple);
      calm = goes.client_calm (way_up _ _ _ _ goes.then_client _ _ _ (goes.client_keeps refl) goes.talk.to_client);
      recent = goes.server_near refl c.to_server.calm;
      lately = omega (arith, new_server.1, goes.server_way.2, goes.server_clock, c.to_client.recent);
    };
  }

  pub client_onward : Onward p.client p.server p.to_client (behind p r).client (behind p r).server (behind p r).to_client
  client_onward = record {
    clock = goes.client_clock;
    other_clock = goes.server_clock;
    own = own_goes xc bc client_worked.heeds.then_tuned client_worked.heeds.says.kept (client_step p r).link p.client.clock (client_worked.heeds.keeps refl) c.to_client.lately client_worked.heeds.mode;
    said = server_worked.heeds.says.spoken;
    before = c.to_client.way.sent_before;
    calm = c.to_client.calm;
  }

  pub server_onward : Onward p.server p.client p.to_server (behind p r).server (behind p r).client (behind p r).to_server
  server_onward = record {
    clock = goes.server_clock;
    other_clock = goes.client_clock;
    own = own_goes xs bs server_worked.heeds.then_tuned server_worked.heeds.says.kept (server_step p r).link p.server.clock (server_worked.heeds.keeps refl) c.to_server.lately server_worked.heeds.mode;
    said = client_worked.heeds.says.spoken;
    before = c.to_server.way.sent_before;
    calm = c.to_server.calm;
  }

  level_then : (x : Round) (b : Bounds x) (y : Bool) (kept : ℕ) (k : LinkState) → y ≡ true → EndMode x b y kept k → k.expected ≡ x.end
  level_then x b false kept k e mode = absurd (cc e)
  level_then x b true kept k e mode = mode.0.expected

  -- each then expects what the other says next
  pub client_level : (behind p r).client.expected ≡ p.server.sent
  client_level = level_then xc bc client_worked.heeds.then_tuned client_worked.heeds.says.kept (client_step p r).link (client_worked.heeds.keeps refl) client_worked.heeds.mode

  pub server_level : (behind p r).server.expected ≡ p.client.sent
  server_level = level_then xs bs server_worked.heeds.then_tuned server_worked.heeds.says.kept (server_step p r).link (server_worked.heeds.keeps refl) server_worked.heeds.mode

  client_all : Within (p.client.clock + 10) r.client_acts (at_reading (p.client.clock + 10) p.client) × Grows (at_reading (p.client.clock + 10) p.client) (all_did (p.client.clock + 10) r.client_acts (at_reading (p.client.clock + 10) p.client)).link
  client_all = all_grow (p.client.clock + 10) r.client_acts (at_reading (p.client.clock + 10) p.client) (reading_joined (p.client.clock + 10) p.client c.to_client.way.is refl client_young) client_room
      (subst (Each IsSimplePdu) (sym (work_brings Role.Client p.to_client r.client_acts r.client_work)) c.to_client.simple)

  server_all : Within (p.server.clock + 10) r.server_acts (at_reading (p.server.clock + 10) p.server) × Grows (at_reading (p.server.clock + 10) p.server) (all_did (p.server.clock + 10) r.server_acts (at_reading (p.server.clock + 10) p.server)).link
  server_all = all_grow (p.server.clock + 10) r.server_acts (at_reading (p.server.clock + 10) p.server) (reading_joined (p.server.clock + 10) p.server c.to_server.way.is refl server_young) server_room
      (subst (Each IsSimplePdu) (sym (work_brings Role.Server p.to_server r.server_acts r.server_work)) c.to_server.simple)

  -- and each stays in its connection, and gives on in it
  pub client_within : Within (p.client.clock + 10) r.client_acts (settled (p.client.clock + 10) p.client)
  client_within = subst (Within (p.client.clock + 10) r.client_acts) (sym client_on) client_all.0

  pub server_within : Within (p.server.clock + 10) r.server_acts (settled (p.server.clock + 10) p.server)
  server_within = subst (Within (p.server.clock + 10) r.server_acts) (sym server_on) server_all.0

  pub client_grows : Grows p.client (behind p r).client
  client_grows = let g = subst (λ (s : Step). Grows (at_reading (p.client.clock + 10) p.client) s.link) (sym client_does) client_all.1 in record { sent = g.sent; waits = g.waits }

  pub server_grows : Grows p.server (behind p r).server
  server_grows = let g = subst (λ (s : Step). Grows (at_reading (p.server.clock + 10) p.server) s.link) (sym server_does) server_all.1 in record { sent = g.sent; waits = g.waits }

-- health at work is kept by a round
pub hale_on : (names : Names) (p : Pair) (r : WorkRound p) → Hale names p → Hale names (behind p r)
hale_on names p r h = let c : p.client.clock + 10 < p.client.own_stamp + 1800 = omega (arith, h.client.under) in let s : p.server.clock + 10 < p.server.own_stamp + 1800 = omega (arith, h.server.under) in record {
  near = closely_on names p r h.near c s;
  client = alive_on _ _ _ _ _ _ (client_onward names p r h.near c s) h.client;
  server = alive_on _ _ _ _ _ _ (server_onward names p r h.near c s) h.server;
}

-- ---- what a round keeps of two in a connection

-- Each stays in its connection, and gives on in it; and after the round it expects what the other says next.
pub record Keeps (p : Pair) (r : WorkRound p) : Type 0 where
  pub client : Joined p.client.clock p.client
  pub server : Joined p.server.clock p.server
  pub client_within : Within (p.client.clock + 10) r.client_acts (settled (p.client.clock + 10) p.client)
  pub server_within : Within (p.server.clock + 10) r.server_acts (settled (p.server.clock + 10) p.server)
  pub client_level : (behind p r).client.expected ≡ p.server.sent
  pub server_level : (behind p r).server.expected ≡ p.client.sent
  pub client_grows : Grows p.client (behind p r).client
  pub server_grows : Grows p.server (behind p r).server

pub hale_keeps : (names : Names) (p : Pair) (r : WorkRound p) → Hale names p → Keeps p r
hale_keeps names p r h = record {
  client = h.near.to_client.way.is;
  server = h.near.to_server.way.is;
  client_within = client_within names p r h.near c s;
  server_within = server_within names p r h.near c s;
  client_level = client_level names p r h.near c s;
  server_level = server_level names p r h.near c s;
  client_grows = client_grows names p r h.near c s;
  server_grows = server_grows names p r h.near c s;
}
  where
    c : p.client.clock + 10 < p.client.own_stamp + 1800
    c = omega (arith, h.client.under)

    s : p.server.clock + 10 < p.server.own_stamp + 1800
    s = omega (arith, h.server.under)

-- two that take what the other says, of whom each waits to be heard
pub record Waiting (names : Names) (client_start server_start : ℕ) (p : Pair) : Type 0 where
  pub near : Closely names p
  pub client : Awaits server_start p.client p.server p.to_client
  pub server : Awaits client_start p.server p.client p.to_server

pub waiting_on : (names : Names) (client_start server_start : ℕ) (p : Pair) (r : WorkRound p) → p.client.clock + 10 < p.client.own_stamp + 1800 → p.server.clock + 10 < p.server.own_stamp + 1800 → Waiting names client_start server_start p
    → Waiting names client_start server_start (behind p r)
waiting_on names client_start server_start p r c s w = record {
  near = closely_on names p r w.near c s;
  client = awaits_on server_start _ _ _ _ _ _ (client_onward names p r w.near c s) w.client;
  server = awaits_on client_start _ _ _ _ _ _ (server_onward names p r w.near c s) w.server;
}

begins_to_wait : (start : ℕ) (l m : LinkState) (ps : List Pdu) → m.sent_at ≤ m.clock → m.clock ≡ start → Awaits start l m ps
begins_to_wait start l m [] before at = due refl (omega (arith, before, at))
begins_to_wait start l m (q ∷ ps) before at = under_way (λ e. cc e)

pub waiting_begins : (names : Names) (p : Pair) → Closely names p → Waiting names p.client.clock p.server.clock p
waiting_begins names p c = record {
  near = c;
  client = begins_to_wait p.server.clock p.client p.server p.to_client c.to_client.way.sent_before refl;
  server = begins_to_wait p.client.clock p.server p.client p.to_server c.to_server.way.sent_before refl;
}

-- after 300 ms none of it is due any more, and a round later both have been heard
heard_then : (start : ℕ) (l m : LinkState) (ps : List Pdu) (k n : LinkState) (qs : List Pdu) → Onward l m ps k n qs → start + 300 ≤ m.clock → Awaits start l m ps → Alive k n qs
heard_then start l m ps k n qs o long (alive a) = alive_on l m ps k n qs o a
heard_then start l m ps k n qs o long (under_way some) = fresh_alive l m ps k n qs o some
heard_then start l m ps k n qs o long (due none old) = absurd (omega (arith, old, long, o.calm))

pub hale_then : (names : Names) (client_start server_start : ℕ) (p : Pair) (r : WorkRound p) → p.client.clock + 10 < p.client.own_stamp + 1800 → p.server.clock + 10 < p.server.own_stamp + 1800 → Waiting names client_start server_start p
    → client_start + 300 ≤ p.client.clock → server_start + 300 ≤ p.server.clock → Hale names (behind p r)
hale_then names client_start server_start p r c s w client_long server_long = record {
  near = closely_on names p r w.near c s;
  client = heard_then server_start _ _ _ _ _ _ (client_onward names p r w.near c s) server_long w.client;
  server = heard_then client_start _ _ _ _ _ _ (server_onward names p r w.near c s) client_long w.server;
}

-- both ends are up
pub hale_up : (names : Names) (p : Pair) → Hale names p → (is_up p.client.phase ≡ true) × (is_up p.server.phase ≡ true)
hale_up names p h = (way_up _ _ _ _ true _ _ _ refl h.near.to_client.way, way_up _ _ _ _ true _ _ _ refl h.near.to_server.way)

-- ---- from two that take what the other says

-- and said nothing that asks in the last round, after which both ticked
pub record Calmly (names : Names) (of_client of_server : ℕ) (p : Pair) : Type 0 where
  pub talk : Talk names of_client of_server true true p
  pub to_client : Each IsPlainPdu p.to_client
  pub to_server : Each IsPlainPdu p.to_server
  pub client_calm : p.client.clock < p.client.sent_at + 300
  pub server_calm : p.server.clock < p.server.sent_at + 300

-- and before it, so that each has heard the other lately
pub record Simply (names : Names) (of_client of_server : ℕ) (p : Pair) : Type 0 where
  pub calm : Calmly names of_client of_server p
  pub to_client : Each IsSimplePdu p.to_client
  pub to_server : Each IsSimplePdu p.to_server
  pub client_recent : p.server.clock ≤ calm.talk.client_kept + 309
  pub server_recent : p.client.clock ≤ calm.talk.server_kept + 309

both_tuned : (names : Names) (of_client of_server : ℕ) (a b : Bool) (p : Pair) → a ≡ true → b ≡ true → (t : Talk names of_client of_server a b p) → (u : Talk names of_client of_server true true p) × (u.client_kept ≡ t.client_kept) × (u.server_kept ≡ t.server_kept)
    × (u.to_client.reading ≡ t.to_client.reading) × (u.to_server.reading ≡ t.to_server.reading)
both_tuned names of_client of_server false b p e f t = absurd (cc e)
both_tuned names of_client of_server true false p e f t = absurd (cc f)
both_tuned names of_client of_server true true p e f t = (t, refl, refl, refl, refl)

pub calmly_then : (names : Names) (of_client of_server : ℕ) (p : Pair) (r : WorkRound p) (t : Talk names of_client of_server true true p) → GoesAtWork names of_client of_server true true p r t → Calmly names of_client of_server (behind p r)
calmly_then names of_client of_server p r t g = record {
  talk = (both_tuned names of_client of_server g.goes.then_client g.goes.then_server (behind p r) (g.goes.client_keeps refl) (g.goes.server_keeps refl) g.goes.talk).0;
  to_client = g.goes.server_plain refl;
  to_server = g.goes.client_plain refl;
  client_calm = g.goes.client_calm (way_up _ _ _ _ g.goes.then_client _ _ _ (g.goes.client_keeps refl) g.goes.talk.to_client);
  server_calm = g.goes.server_calm (way_up _ _ _ _ g.goes.then_server _ _ _ (g.goes.server_keeps refl) g.goes.talk.to_server);
}

pub simply_then : (names : Names) (of_client of_server : ℕ) (p : Pair) (r : WorkRound p) (c : Calmly names of_client of_server p) → GoesAtWork names of_client of_server true true p r c.talk → Simply names of_client of_server (behind p r)
simply_then names of_client of_server p r c g =
    let u = both_tuned names of_client of_server g.goes.then_client g.goes.then_server (behind p r) (g.goes.client_keeps refl) (g.goes.server_keeps refl) g.goes.talk in record {
      calm = record {
        talk = u.0;
        to_client = g.goes.server_plain refl;
        to_server = g.goes.client_plain refl;
        client_calm = g.goes.client_calm (way_up _ _ _ _ g.goes.then_client _ _ _ (g.goes.client_keeps refl) g.goes.talk.to_client);
        server_calm = g.goes.server_calm (way_up _ _ _ _ g.goes.then_server _ _ _ (g.goes.server_keeps refl) g.goes.talk.to_server);
      };
      to_client = g.server_simple refl c.to_server;
      to_server = g.client_simple refl c.to_client;
      client_recent = omega (arith, u.1, g.goes.client_near refl c.server_calm);
      server_recent = omega (arith, u.2, g.goes.server_near refl c.client_calm);
    }

pub closely_then : (names : Names) (of_client of_server : ℕ) (p : Pair) (r : WorkRound p) (c : Simply names of_client of_server p) → GoesAtWork names of_client of_server true true p r c.calm.talk → Closely names (behind p r)
closely_then names of_client of_server p r c g =
    let u = both_tuned names of_client of_server g.goes.then_client g.goes.then_server (behind p r) (g.goes.client_keeps refl) (g.goes.server_keeps refl) g.goes.talk in
    let way_c = rebased of_server of_client u.0.client_kept u.0.server_kept true (behind p r).client (behind p r).server (behind p r).to_client refl u.0.to_client (omega (arith, u.0.to_server.before, u.3, g.goes.client_way.2, g.goes.client_clock, c.server_recent)) in
    let way_s = rebased of_client of_server u.0.server_kept u.0.client_kept true (behind p r).server (behind p r).client (behind p r).to_server refl u.0.to_server (omega (arith, u.0.to_client.before, u.4, g.goes.server_way.2, g.goes.server_clock, c.client_recent)) in record {
      client = u.0.client;
      server = u.0.server;
      client_kept = u.0.client_kept;
      server_kept = u.0.server_kept;
      to_client = record {
        way = way_c.0;
        simple = g.server_simple refl c.calm.to_server;
        calm = g.goes.server_calm (way_up _ _ _ _ g.goes.then_server _ _ _ (g.goes.server_keeps refl) g.goes.talk.to_server);
        recent = omega (arith, u.1, g.goes.client_near refl c.calm.server_calm);
        lately = omega (arith, way_c.1, u.3, g.goes.client_way.2, g.goes.client_clock, c.server_recent);
      };
      to_server = record {
        way = way_s.0;
        simple = g.client_simple refl c.calm.to_client;
        calm = g.goes.client_calm (way_up _ _ _ _ g.goes.then_client _ _ _ (g.goes.client_keeps refl) g.goes.talk.to_client);
        recent = omega (arith, u.2, g.goes.server_near refl c.calm.client_calm);
        lately = omega (arith, way_s.1, u.4, g.goes.server_way.2, g.goes.server_clock, c.client_recent);
      };
    }
