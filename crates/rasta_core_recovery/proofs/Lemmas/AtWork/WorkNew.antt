-- Two ends whose server took a request: two rounds later they are up at work, and stay so.
use Rattle.rasta_core_recovery.proofs.Words.Basics.{◌≡◌, ℕ, ◌∙◌, ◌+◌, ◌-◌, ◌^◌, ◌≤◌, ◌<◌, ◌⊎◌, inl, inr, Bool, true, false, List, [], ◌∷◌, refl, sym, ap, subst, arith}
use Rattle.rasta_core_recovery.proofs.Words.Links.{wire, stamp, LinkState, is_up, settled, Step, silent, Role, Identity, Pdu, Each, Names, identity_of}
use Rattle.rasta_core_recovery.proofs.Lemmas.Rounds.Links.{Pair}
use Rattle.rasta_core_recovery.proofs.Lemmas.Rounds.Acts.{acted, all_did, IsWork, Roomy, WorkRound, client_step, server_step, behind}
use Rattle.rasta_core_recovery.proofs.Lemmas.Rounds.Calls.{at_reading}
use Rattle.rasta_core_recovery.proofs.Lemmas.Rounds.Words.{Voice, voice_of, Chain, chain_ends}
use Rattle.rasta_core_recovery.proofs.Lemmas.ComingUp.Opens.{request, asking_link, granted_link, response, joined_link, first_beat, up_link}
use Rattle.rasta_core_recovery.proofs.Lemmas.Rounds.Fold.{settled_in}
use Rattle.rasta_core_recovery.proofs.Lemmas.ComingUp.Health.{reading_up}
use Rattle.rasta_core_recovery.proofs.Lemmas.ComingUp.Healthy.{is_reading}
use Rattle.rasta_core_recovery.proofs.Lemmas.Rounds.Course.{Joined, voice_goes}
use Rattle.rasta_core_recovery.proofs.Lemmas.ComingUp.TunedEnds.{Round, Bounds, Hearing}
use Rattle.rasta_core_recovery.proofs.Lemmas.Rounds.Turn.{EndMode, reading_joined}
use Rattle.rasta_core_recovery.proofs.Lemmas.AtWork.WorkTurn.{IsSimplePdu, simple_are_plain, Worked, Left, has_left, stays_in, works_surely}
use Rattle.rasta_core_recovery.proofs.Lemmas.AtWork.WorkOpens.{client_joins_at_work, Joins, server_waits_at_work, server_comes_up_at_work, ComesUp, Tells, TellsAll, tells_through}
use Rattle.rasta_core_recovery.proofs.Lemmas.ComingUp.Hale.{Closely, Hale, Keeps, room_first}
use Rattle.rasta_core_recovery.proofs.Lemmas.Rounds.Given.{Grows}
use Rattle.rasta_core_recovery.proofs.Lemmas.Rounds.Within.{Within, all_grow, work_brings}

-- a pair by its parts
pub record Is (p : Pair) (c s : LinkState) (tc ts : List Pdu) : Type 0 where
  pub client : p.client ≡ c
  pub server : p.server ≡ s
  pub to_client : p.to_client ≡ tc
  pub to_server : p.to_server ≡ ts

pub client_acted : (p : Pair) (r : WorkRound p) (c : LinkState) → p.client ≡ c → client_step p r ≡ acted (c.clock + 10) r.client_acts c
client_acted p r c e = ap (λ (l : LinkState). acted (l.clock + 10) r.client_acts l) e

pub server_acted : (p : Pair) (r : WorkRound p) (s : LinkState) → p.server ≡ s → server_step p r ≡ acted (s.clock + 10) r.server_acts s
server_acted p r s e = ap (λ (l : LinkState). acted (l.clock + 10) r.server_acts l) e

pub then_is : (p : Pair) (r : WorkRound p) (x y : Step) → client_step p r ≡ x → server_step p r ≡ y → Is (behind p r) x.link y.link y.pdus x.pdus
then_is p r x y e f = record { client = ap (λ (s : Step). s.link) e; server = ap (λ (s : Step). s.link) f; to_client = ap (λ (s : Step). s.pdus) f; to_server = ap (λ (s : Step). s.pdus) e }

pub client_work_of : (p : Pair) (r : WorkRound p) (tc : List Pdu) → p.to_client ≡ tc → IsWork Role.Client tc r.client_acts
client_work_of p r tc e = subst (λ (ps : List Pdu). IsWork Role.Client ps r.client_acts) e r.client_work

pub server_work_of : (p : Pair) (r : WorkRound p) (ts : List Pdu) → p.to_server ≡ ts → IsWork Role.Server ts r.server_acts
server_work_of p r ts e = subst (λ (ps : List Pdu). IsWork Role.Server ps r.server_acts) e r.server_work

client_room_of : (p : Pair) (r : WorkRound p) (c : LinkState) → p.client ≡ c → Roomy (c.clock + 10) r.client_acts (settled (c.clock + 10) c)
client_room_of p r c e = subst (λ (l : LinkState). Roomy (l.clock + 10) r.client_acts (settled (l.clock + 10) l)) e r.client_room

server_room_of : (p : Pair) (r : WorkRound p) (s : LinkState) → p.server ≡ s → Roomy (s.clock + 10) r.server_acts (settled (s.clock + 10) s)
server_room_of p r s e = subst (λ (l : LinkState). Roomy (l.clock + 10) r.server_acts (settled (l.clock + 10) l)) e r.server_room

-- ---- the client has joined, and has said a heartbeat and items; the server hears them

module _ (names : Names) (client_closed server_closed cf sf at grant : ℕ) (fits : cf < 2 ^ 32) (server_fits : sf < 2 ^ 32) where
  abbrev asked : Pdu
  asked = request names cf at

  abbrev answer : Pdu
  answer = response names sf asked grant

  -- the server after it took the request in the round before the last
  abbrev granted : ℕ → LinkState
  granted clock = granted_link names clock server_closed sf asked grant

  abbrev joined : ℕ → LinkState
  joined now = joined_link names now client_closed cf at answer

  abbrev beat : ℕ → Pdu
  beat now = first_beat names now cf answer

  -- a round later
  pub record JoinedBy (p : Pair) : Type 0 where
    pub others : List Pdu
    pub now : ℕ
    pub past : at ≤ now
    pub tells : Tells now grant (joined now) others p.client
    pub is : Joined now p.client
    pub server : p.server ≡ granted (grant + 10)
    pub to_client : p.to_client ≡ []
    pub to_server : p.to_server ≡ beat now ∷ others

  module _ (p : Pair) (j : JoinedBy p) (r : WorkRound p) (living : j.now + 10 < at + 1800) where
    abbrev c3 : ℕ
    c3 = j.now

    abbrev s4 : ℕ
    s4 = grant + 10 + 10

    abbrev up : LinkState
    up = up_link names s4 server_closed sf asked grant (stamp c3)

    k_expected : p.client.expected ≡ 1
    k_expected = ap (λ (l : LinkState). l.expected) j.tells.same

    k_clock : p.client.clock ≡ c3
    k_clock = ap (λ (l : LinkState). l.clock) j.tells.same

    k_own : p.client.own_stamp ≡ at
    k_own = ap (λ (l : LinkState). l.own_stamp) j.tells.same

    k_sent_at : p.client.sent_at ≤ c3
    k_sent_at = either j.tells.goes.sent_at
      where
        either : (p.client.sent_at ≡ c3) ⊎ (p.client.sent_at ≡ c3) → p.client.sent_at ≤ c3
        either (inl e) = omega (arith, e)
        either (inr e) = omega (arith, e)

    young : p.client.clock + 10 < p.client.own_stamp + 1800
    young = omega (arith, k_clock, k_own, living)

    client_on : settled (p.client.clock + 10) p.client ≡ at_reading (p.client.clock + 10) p.client
    client_on = settled_in (p.client.clock + 10) p.client j.is.connected young

    client_room : Roomy (p.client.clock + 10) r.client_acts (at_reading (p.client.clock + 10) p.client)
    client_room = subst (Roomy (p.client.clock + 10) r.client_acts) client_on r.client_room

    k_fits : p.client.sent < 2 ^ 31
    k_fits = let room = room_first (p.client.clock + 10) r.client_acts (at_reading (p.client.clock + 10) p.client) client_room j.is.connected in omega (arith, room)

    -- the client tells on
    client_all : TellsAll (p.client.clock + 10) grant (at_reading (p.client.clock + 10) p.client) (client_step p r)
    unfolding acted
    client_all = subst (TellsAll (p.client.clock + 10) grant (at_reading (p.client.clock + 10) p.client)) (sym (ap (all_did (p.client.clock + 10) r.client_acts) client_on))
        (tells_through Role.Client (p.client.clock + 10) grant r.client_acts (at_reading (p.client.clock + 10) p.client) (client_work_of p r [] j.to_client)
        (record { clock = refl; connected = j.is.connected; joined = j.is.joined; young = young; own = omega (arith, j.is.own, k_clock) })
        (omega (arith, k_expected)) (omega (arith, k_expected)) (ap (λ (l : LinkState). l.partner_stamp) j.tells.same) client_room)

    -- the server comes up, and hears the rest
    server_part : ComesUp s4 up j.others (server_step p r)
    server_part = subst (ComesUp s4 up j.others) (sym (server_acted p r (granted (grant + 10)) j.server))
        (server_comes_up_at_work names server_closed cf at sf grant (grant + 10) s4 c3 j.others r.server_acts (omega arith) (omega arith) fits server_fits (server_work_of p r (beat c3 ∷ j.others) j.to_server) (server_room_of p r (granted (grant + 10)) j.server))

    abbrev x : Round
    x = record { now = s4; said_at = c3; end = p.client.sent; confirmed = 0; returned = grant; voice = voice_of p.client; kept = c3; own = grant; tuned = true; before = up; number = 2; count = 0; reading = grant; pdus = j.others }

    chain_k : Chain (voice_of p.client) 2 0 grant j.others p.client.sent 0 grant
    chain_k = subst (λ (v : Voice). Chain v 2 0 grant j.others p.client.sent 0 grant) (sym (voice_goes c3 (joined c3) p.client j.others j.tells.goes)) j.tells.chain

    two_most : 2 ≤ p.client.sent
    two_most = (chain_ends (voice_of p.client) 2 0 grant p.client.sent 0 grant j.others chain_k).0

    bx : Bounds x
    bx = record { level = omega arith; fits = k_fits; old = omega arith; stamped = ap stamp k_clock; kept = omega arith }

    identity_k : p.client.identity ≡ identity_of Role.Client names
    identity_k = ap (λ (l : LinkState). l.identity) j.tells.same

    own_first_k : p.client.own_first ≡ cf
    own_first_k = ap (λ (l : LinkState). l.own_first) j.tells.same

    partner_first_k : p.client.partner_first ≡ wire sf 0
    partner_first_k = ap (λ (l : LinkState). l.partner_first) j.tells.same

    hearing_k : Hearing x (record { kept = c3; tuned = true }) j.others (at_reading s4 up)
    hearing_k = record {
      is = record { clock = refl; connected = refl; joined = refl; young = omega arith; own = omega arith };
      first = omega (arith, own_first_k, fits);
      partner_first = omega (arith, partner_first_k, server_fits);
      receiver = ap (λ (i : Identity). i.partner) identity_k;
      sender = ap (λ (i : Identity). i.own) identity_k;
      some = omega arith;
      most = omega (arith, two_most);
      kept_is = refl;
      kept_before = omega arith;
      since = omega arith;
      counts = omega arith;
      number = 2;
      count = 0;
      reading = grant;
      chain = chain_k;
      low = omega arith;
      mode = (record { reading = refl; expected = refl; confirmed = omega arith; own = omega arith }, inl (refl, omega arith));
      plain = λ e. e;
      from_number = omega arith;
      from_count = omega arith;
      from_reading = omega arith;
      deaf = λ e. absurd (cc e);
      shut = λ s. absurd (not_shut s.0);
      outdated_on = λ f o. absurd (not_shut f);
    }
      where
        not_shut : true ≡ false → ⊥
        not_shut e = cc e

    surely : Left x bx true true up (server_step p r) → Worked x bx true up (server_step p r)
    surely (has_left why left) = absurd why
    surely (stays_in w) = w

    server_worked : Worked x bx true up (server_step p r)
    server_worked = surely (works_surely x bx true Role.Server server_part.acts (record { kept = c3; tuned = true }) up server_part.work refl refl hearing_k j.tells.simple server_part.room (server_step p r) server_part.does)

    -- what the server keeps, and how old its own stamp is
    end_of : (y : Bool) (kept : ℕ) → y ≡ true → EndMode x bx y kept (server_step p r).link → (kept ≡ c3) × (grant ≤ (server_step p r).link.own_stamp) × ((server_step p r).link.own_stamp ≤ grant) × EndMode x bx true kept (server_step p r).link
    end_of false kept e mode = absurd (cc e)
    end_of true kept e (t, inl h) = (h.0, h.1, t.own, (t, inl h))
    end_of true kept e (t, inr (none, w)) = (w.0, omega (arith, w.2), t.own, (t, inr (none, w)))

    ended : (server_worked.heeds.says.kept ≡ c3) × (grant ≤ (server_step p r).link.own_stamp) × ((server_step p r).link.own_stamp ≤ grant) × EndMode x bx true server_worked.heeds.says.kept (server_step p r).link
    ended = end_of server_worked.heeds.then_tuned server_worked.heeds.says.kept (server_worked.heeds.keeps refl) server_worked.heeds.mode

    abbrev now4 : ℕ
    now4 = p.client.clock + 10

    same4 : (client_step p r).link ≡ record (at_reading now4 p.client) { sent = (client_step p r).link.sent; sent_at = (client_step p r).link.sent_at; waiting = (client_step p r).link.waiting; given = (client_step p r).link.given }
    same4 = client_all.tells.same

    client_expected : (client_step p r).link.expected ≡ 1
    client_expected = ap (λ (l : LinkState). l.expected) same4 ∙ k_expected

    client_confirmed : (client_step p r).link.confirmed ≡ 0
    client_confirmed = ap (λ (l : LinkState). l.confirmed) same4 ∙ ap (λ (l : LinkState). l.confirmed) j.tells.same

    client_own : (client_step p r).link.own_stamp ≡ at
    client_own = ap (λ (l : LinkState). l.own_stamp) same4 ∙ k_own

    client_clock : (client_step p r).link.clock ≡ c3 + 10
    client_clock = omega (arith, ap (λ (l : LinkState). l.clock) same4, k_clock)

    server_clock : (server_step p r).link.clock ≡ s4
    server_clock = server_worked.heeds.says.is.clock

    server_said : (server_step p r).link.sent_at ≤ s4
    server_said = either server_worked.heeds.says.sent_at
      where
        either : ((server_step p r).link.sent_at ≡ grant) ⊎ ((server_step p r).link.sent_at ≡ s4) → (server_step p r).link.sent_at ≤ s4
        either (inl e) = omega (arith, e)
        either (inr e) = omega (arith, e)

    client_said : (client_step p r).link.sent_at ≤ c3 + 10
    client_said = either client_all.tells.goes.sent_at
      where
        either : ((client_step p r).link.sent_at ≡ p.client.sent_at) ⊎ ((client_step p r).link.sent_at ≡ p.client.clock + 10) → (client_step p r).link.sent_at ≤ c3 + 10
        either (inl e) = omega (arith, e, k_sent_at)
        either (inr e) = omega (arith, e, k_clock)

    client_is : Joined (client_step p r).link.clock (client_step p r).link
    client_is = subst (λ (n : ℕ). Joined n (client_step p r).link) (sym client_all.is.clock) client_all.is

    server_is : Joined (server_step p r).link.clock (server_step p r).link
    server_is = subst (λ (n : ℕ). Joined n (server_step p r).link) (sym server_clock) server_worked.heeds.says.is

    chain4 : Chain (voice_of (client_step p r).link) p.client.sent 0 grant (client_step p r).pdus (client_step p r).link.sent ((client_step p r).link.expected - 1) grant
    chain4 = subst (λ (y : ℕ). Chain (voice_of (client_step p r).link) p.client.sent 0 grant (client_step p r).pdus (client_step p r).link.sent y grant) (omega (arith, client_expected))
        (subst (λ (y : ℕ). Chain (voice_of (client_step p r).link) p.client.sent y grant (client_step p r).pdus (client_step p r).link.sent y grant) (omega (arith, k_expected))
        (subst (λ (v : Voice). Chain v p.client.sent (p.client.expected - 1) grant (client_step p r).pdus (client_step p r).link.sent (p.client.expected - 1) grant)
        (sym (voice_goes now4 (at_reading now4 p.client) (client_step p r).link (client_step p r).pdus client_all.tells.goes)) client_all.tells.chain))

    sent_most : p.client.sent ≤ (client_step p r).link.sent
    sent_most = (chain_ends (voice_of (client_step p r).link) p.client.sent 0 grant (client_step p r).link.sent ((client_step p r).link.expected - 1) grant (client_step p r).pdus chain4).0

    server_sent : 1 ≤ (server_step p r).link.sent
    server_sent = (chain_ends (voice_of (server_step p r).link) 1 1 c3 (server_step p r).link.sent ((server_step p r).link.expected - 1) server_worked.heeds.says.kept (server_step p r).pdus server_worked.heeds.says.chain).0

    is_up_then : is_up (client_step p r).link.phase ≡ true
    is_up_then = ap (λ (l : LinkState). is_up l.phase) same4 ∙ ap (λ (l : LinkState). is_up l.phase) j.tells.same

    client_calm : (client_step p r).link.clock < (client_step p r).link.sent_at + 300
    client_calm = omega (arith, client_all.calm is_up_then, client_all.is.clock)

    server_up : is_up (server_step p r).link.phase ≡ true
    server_up = reading_up (server_step p r).link.phase ended.3.0.reading

    server_calm : (server_step p r).link.clock < (server_step p r).link.sent_at + 300
    server_calm = omega (arith, server_worked.calm server_up, server_clock)

    reading_then : is_reading (client_step p r).link.phase ≡ true
    reading_then = ap (λ (l : LinkState). is_reading l.phase) same4 ∙ ap (λ (l : LinkState). is_reading l.phase) j.tells.same

    pub closely_now : Closely names (behind p r)
    closely_now = record {
      client = ap (λ (l : LinkState). l.identity) same4 ∙ identity_k;
      server = server_worked.heeds.says.identity;
      client_kept = grant;
      server_kept = server_worked.heeds.says.kept;
      to_client = record {
        way = record {
          is = client_is;
          first = ap (λ (l : LinkState). l.partner_first) same4 ∙ partner_first_k ∙ omega (arith, server_fits) ∙ sym server_worked.heeds.says.own_first;
          some = omega (arith, client_expected);
          most = omega (arith, client_expected, server_sent);
          kept_is = ap (λ (l : LinkState). l.partner_stamp) same4 ∙ ap (λ (l : LinkState). l.partner_stamp) j.tells.same;
          before = omega (arith, server_clock);
          low = omega arith;
          sent_before = omega (arith, server_said, server_clock);
          number = 1;
          count = 1;
          reading = c3;
          chain = server_worked.heeds.says.chain;
          since = omega (arith, ended.0);
          mode = (
            record { reading = reading_then; expected = client_expected; confirmed = omega (arith, client_confirmed); own = omega (arith, client_own, j.past) },
            λ none. omega (arith, server_worked.heeds.says.spoken none),
          );
          later = omega (arith, server_clock);
          young = λ e. omega arith;
          deaf = λ e. absurd (cc e);
        };
        simple = server_worked.simple refl (simple_are_plain j.others j.tells.simple);
        calm = server_calm;
        recent = omega (arith, server_clock);
        lately = omega (arith, client_clock);
      };
      to_server = record {
        way = record {
          is = server_is;
          first = server_worked.heeds.says.partner_first ∙ omega (arith, fits) ∙ sym (ap (λ (l : LinkState). l.own_first) same4 ∙ own_first_k);
          some = server_worked.heeds.says.some;
          most = omega (arith, server_worked.heeds.says.most, sent_most);
          kept_is = server_worked.heeds.says.kept_is;
          before = omega (arith, ended.0, client_clock);
          low = omega arith;
          sent_before = omega (arith, client_said, client_clock);
          number = p.client.sent;
          count = 0;
          reading = grant;
          chain = chain4;
          since = omega arith;
          mode = (ended.3.0, λ none. omega (arith, client_all.tells.goes.spoken none, k_sent_at, ended.0));
          later = omega (arith, ended.0, client_clock);
          young = λ e. omega arith;
          deaf = λ e. absurd (cc e);
        };
        simple = client_all.tells.simple;
        calm = client_calm;
        recent = omega (arith, ended.0, client_clock);
        lately = omega (arith, server_clock);
      };
    }

    -- where it asked just before, both have been heard lately
    pub hale_now : j.now ≡ at + 20 → Hale names (behind p r)
    hale_now soon = record {
      near = closely_now;
      client = record { under = omega (arith, client_clock, client_own, soon); idle = λ none. omega (arith, client_clock, client_own, soon, server_clock, server_worked.heeds.says.spoken none) };
      server = record { under = omega (arith, server_clock, ended.1); idle = λ none. omega (arith, server_clock, ended.1, client_said, client_clock) };
    }

    -- ---- and what the round keeps

    server_in : Joined p.server.clock p.server
    server_in = subst (λ (l : LinkState). Joined l.clock l) (sym j.server) (record { clock = refl; connected = refl; joined = refl; young = omega arith; own = omega arith })

    server_young : p.server.clock + 10 < p.server.own_stamp + 1800
    server_young = omega (arith, ap (λ (l : LinkState). l.clock) j.server, ap (λ (l : LinkState). l.own_stamp) j.server)

    server_on : settled (p.server.clock + 10) p.server ≡ at_reading (p.server.clock + 10) p.server
    server_on = settled_in (p.server.clock + 10) p.server server_in.connected server_young

    server_room : Roomy (p.server.clock + 10) r.server_acts (at_reading (p.server.clock + 10) p.server)
    server_room = subst (Roomy (p.server.clock + 10) r.server_acts) server_on r.server_room

    client_in : Joined p.client.clock p.client
    client_in = subst (λ (n : ℕ). Joined n p.client) (sym k_clock) j.is

    client_kept : Within (p.client.clock + 10) r.client_acts (at_reading (p.client.clock + 10) p.client) × Grows (at_reading (p.client.clock + 10) p.client) (all_did (p.client.clock + 10) r.client_acts (at_reading (p.client.clock + 10) p.client)).link
    client_kept = all_grow (p.client.clock + 10) r.client_acts (at_reading (p.client.clock + 10) p.client) (reading_joined (p.client.clock + 10) p.client client_in refl young) client_room
        (subst (Each IsSimplePdu) (sym (work_brings Role.Client [] r.client_acts (client_work_of p r [] j.to_client))) tt)

    server_kept : Within (p.server.clock + 10) r.server_acts (at_reading (p.server.clock + 10) p.server) × Grows (at_reading (p.server.clock + 10) p.server) (all_did (p.server.clock + 10) r.server_acts (at_reading (p.server.clock + 10) p.server)).link
    server_kept = all_grow (p.server.clock + 10) r.server_acts (at_reading (p.server.clock + 10) p.server) (reading_joined (p.server.clock + 10) p.server server_in refl server_young) server_room
        (subst (Each IsSimplePdu) (sym (work_brings Role.Server (beat c3 ∷ j.others) r.server_acts (server_work_of p r (beat c3 ∷ j.others) j.to_server))) (tt, j.tells.simple))

    client_goes : Grows p.client (client_step p r).link
    unfolding acted
    client_goes = let g = subst (λ (l : LinkState). Grows (at_reading (p.client.clock + 10) p.client) (all_did (p.client.clock + 10) r.client_acts l).link) (sym client_on) client_kept.1 in record { sent = g.sent; waits = g.waits }

    server_goes : Grows p.server (server_step p r).link
    unfolding acted
    server_goes = let g = subst (λ (l : LinkState). Grows (at_reading (p.server.clock + 10) p.server) (all_did (p.server.clock + 10) r.server_acts l).link) (sym server_on) server_kept.1 in record { sent = g.sent; waits = g.waits }

    pub joined_keeps : Keeps p r
    joined_keeps = record {
      client = client_in;
      server = server_in;
      client_within = subst (Within (p.client.clock + 10) r.client_acts) (sym client_on) client_kept.0;
      server_within = subst (Within (p.server.clock + 10) r.server_acts) (sym server_on) server_kept.0;
      client_level = omega (arith, client_expected, ap (λ (l : LinkState). l.sent) j.server);
      server_level = ended.3.0.expected;
      client_grows = client_goes;
      server_grows = server_goes;
    }

  -- the round in which the client joins
  pub joins_then : (c : ℕ) → at ≤ c → c + 10 < at + 1800 → (p : Pair) (r : WorkRound p) → Is p (asking_link names c client_closed cf at) (granted grant) (answer ∷ []) [] → (j : JoinedBy (behind p r)) × (j.now ≡ c + 10)
  joins_then clock since_asked living p r i = (
    record {
      others = c.others;
      now = clock + 10;
      past = omega (arith, since_asked);
      tells = c.tells;
      is = c.is;
      server = ap (λ (s : Step). s.link) s;
      to_client = ap (λ (s : Step). s.pdus) s;
      to_server = c.pdus;
    },
    refl,
  )
    where
      c : Joins (clock + 10) grant (joined (clock + 10)) (beat (clock + 10)) (client_step p r)
      c = subst (Joins (clock + 10) grant (joined (clock + 10)) (beat (clock + 10))) (sym (client_acted p r (asking_link names clock client_closed cf at) i.client))
          (client_joins_at_work names (clock + 10) client_closed cf at clock sf grant r.client_acts living (omega (arith, since_asked)) fits (client_work_of p r (answer ∷ []) i.to_client) (client_room_of p r (asking_link names clock client_closed cf at) i.client))

      s : server_step p r ≡ silent (granted (grant + 10))
      s = server_acted p r (granted grant) i.server ∙ server_waits_at_work names (grant + 10) server_closed sf grant grant asked r.server_acts (omega arith) (server_work_of p r [] i.to_server)
