-- A client that still asks after the first good round: its server has just taken its request, or no stamp of the good rounds comes to it.
use Rattle.rasta_core_recovery.proofs.Words.Basics.{◌≡◌, ℕ, zero, suc, ◌⊎◌, inl, inr, ◌∙◌, ◌+◌, ◌*◌, ◌-◌, ◌^◌, ◌≤◌, ◌<◌, Bool, true, false, ◌&&◌, nat_le, List, [], ◌∷◌, refl, sym, ap, subst, arith, leb-true, leb-false}
use Rattle.rasta_core_recovery.proofs.Words.Links.{stamp, LinkState, is_asking, is_open, is_up, Step, silent, Role, Each, Names, Pdu}
use Rattle.rasta_core_recovery.proofs.Lemmas.Asking.Asks.{Asks, AsksOn, IsTalkPdu, alone_round, asks_asking, not_up}
use Rattle.rasta_core_recovery.proofs.Lemmas.Rounds.Calls.{at_reading, calm_round}
use Rattle.rasta_core_recovery.proofs.Lemmas.Rounds.Course.{Joined}
use Rattle.rasta_core_recovery.proofs.Lemmas.Rounds.Facts.{Facts}
use Rattle.rasta_core_recovery.proofs.Lemmas.ComingUp.Fates.{Asking as AskingStep, Comes, Leaves, Stays, asking_step, asks_on, client_late, comes_later, goes_out, inside_then, joining, joins, leaves_comes, out_comes, over_comes, search, seen_narrow, stuck_comes}
use Rattle.rasta_core_recovery.proofs.Lemmas.Rounds.Fold.{Begins, begins, late, late_round, on}
use Rattle.rasta_core_recovery.proofs.Lemmas.Rounds.Links.{Pair, end_round, pair_round}
use Rattle.rasta_core_recovery.proofs.Lemmas.ComingUp.Opens.{asking_link, client_joins, client_up, first_beat, granted_link, joined_link, request, response, server_comes_up, server_rests, server_waits, step_is, up_link}
use Rattle.rasta_core_recovery.proofs.Lemmas.ComingUp.Seen.{NearBy, Rooms, Seen, healthy_after, seen_on}
use Rattle.rasta_core_recovery.proofs.Lemmas.ComingUp.Stays.{left_of, out_is}
use Rattle.rasta_core_recovery.proofs.Lemmas.Rounds.Turn.{Either, gone, so}

-- ---- both are up, and nothing comes

-- a client that joined ten before, and its server
abbrev pub both_up : Names → ℕ → ℕ → ℕ → ℕ → ℕ → ℕ → ℕ → ℕ → Pair
both_up names client_closed server_closed cf sf at grant joined now = record {
  client = record (joined_link names joined client_closed cf at (response names sf (request names cf at) grant)) { clock = joined + 10 };
  server = up_link names now server_closed sf (request names cf at) grant (stamp joined);
  to_client = [];
  to_server = [];
}

pub up_near : (names : Names) (client_closed server_closed cf sf at grant joined now : ℕ) → cf < 2 ^ 32 → sf < 2 ^ 32 → at ≤ joined → grant ≤ now → now ≤ grant + 20
    → NearBy names (both_up names client_closed server_closed cf sf at grant joined now)
up_near names client_closed server_closed cf sf at grant joined now fits server_fits past since soon = record {
  of_client = false;
  of_server = false;
  near = record {
    beside = record {
      client = refl;
      server = refl;
      to_client = refl;
      to_server = refl;
      hears_server = record {
        reads = refl;
        first = omega (arith, server_fits);
        some = omega arith;
        expected = refl;
        confirmed = omega arith;
        reading = grant;
        kept = refl;
        since = omega (arith, since, soon);
        before = omega (arith, since);
        sent_before = omega (arith, since);
        calm = omega (arith, soon);
        recent = omega (arith, since, soon);
        own_before = omega (arith, past);
      };
      hears_client = record {
        reads = refl;
        first = omega (arith, fits);
        some = omega arith;
        expected = refl;
        confirmed = omega arith;
        reading = joined;
        kept = refl;
        since = omega (arith, past);
        before = omega arith;
        sent_before = omega arith;
        calm = omega arith;
        recent = omega arith;
        own_before = omega (arith, since);
      };
    };
    client_room = omega arith;
    server_room = omega arith;
  };
}

-- ---- its server has just taken its request

module _ (names : Names) (client_closed server_closed cf sf at grant : ℕ) (fits : cf < 2 ^ 32) (server_fits : sf < 2 ^ 32) where
  abbrev answer : Pdu
  answer = response names sf (request names cf at) grant

  abbrev pub just_granted : ℕ → Pair
  just_granted c = record { client = asking_link names c client_closed cf at; server = granted_link names grant server_closed sf (request names cf at) grant; to_client = answer ∷ []; to_server = [] }

  abbrev just_joined : ℕ → Pair
  just_joined c = record {
    client = joined_link names (c + 10) client_closed cf at answer;
    server = granted_link names (grant + 10) server_closed sf (request names cf at) grant;
    to_client = [];
    to_server = first_beat names (c + 10) cf answer ∷ [];
  }

  abbrev then_up : ℕ → Pair
  then_up c = both_up names client_closed server_closed cf sf at grant (c + 10) (grant + 10 + 10)

  joins_now : (c : ℕ) → at ≤ c → c + 10 < at + 1800 → pair_round (just_granted c) ≡ just_joined c
  joins_now c past young = step_is (just_granted c) _ _ (client_joins names client_closed cf at c sf grant past young fits)
      (server_waits names server_closed sf grant grant (request names cf at) (omega arith) (omega arith))

  comes_up : (c : ℕ) → c + 20 < at + 1800 → pair_round (just_joined c) ≡ then_up c
  comes_up c young = step_is (just_joined c) _ _ (client_up names (c + 10) client_closed cf at answer (omega (arith, young)))
      (server_comes_up names server_closed cf at sf grant (grant + 10) (c + 10) (omega arith) (omega arith) fits server_fits)

  -- both become healthy, or one of them leaves early
  pub near_comes : (n : ℕ) (p : Pair) → 1000 ≤ n → Seen names n p → NearBy names p → Joined p.client.clock p.client → Comes names 1414 p
  near_comes n p long seen near j = choose (search 31 p j)
    where
      choose : Leaves 31 p ⊎ Stays 31 p → Comes names 1414 p
      choose (inl l) = leaves_comes names 31 n p (omega arith) long seen l
      choose (inr s) = record { rounds = 31; soon = omega arith; healthy = healthy_after names 31 p (seen_narrow names 31 n p (omega (arith, long)) seen) s.stay (omega arith) near }

  late_comes : (n : ℕ) (p : Pair) → 1001 ≤ n → Seen names n p → is_open p.client.phase ≡ true → p.client.clock < p.client.own_stamp + 1800 → p.client.own_stamp + 1800 ≤ p.client.clock + 10
      → Comes names 1384 p
  late_comes n p long seen is_in young over = comes_later names 1 1383 1384 p (omega arith)
      (out_comes names (n - 1) (pair_round p) (omega (arith, long)) (seen_on names (n - 1) p (subst (λ (k : ℕ). Seen names k p) (omega (arith, long)) seen)) (client_late p is_in young over).0.is_out)

  pub granted_comes : (c n : ℕ) → 1100 ≤ n → at ≤ c → c < at + 1800 → Seen names n (just_granted c) → Comes names 1416 (just_granted c)
  granted_comes c n long past young seen = by_young (nat_le (at + 1800) (c + 10)) refl
    where
      seen1 : Seen names (n - 1) (pair_round (just_granted c))
      seen1 = seen_on names (n - 1) (just_granted c) (subst (λ (k : ℕ). Seen names k (just_granted c)) (omega (arith, long)) seen)

      seen_joined : c + 10 < at + 1800 → Seen names (n - 1) (just_joined c)
      seen_joined then_young = subst (Seen names (n - 1)) (joins_now c past then_young) seen1

      seen_up : c + 10 < at + 1800 → c + 20 < at + 1800 → Seen names (n - 2) (then_up c)
      seen_up then_young last_young =
          subst (Seen names (n - 2)) (comes_up c last_young)
          (seen_on names (n - 2) (just_joined c) (subst (λ (k : ℕ). Seen names k (just_joined c)) (omega (arith, long)) (seen_joined then_young)))

      up_comes : c + 10 < at + 1800 → c + 20 < at + 1800 → Comes names 1414 (then_up c)
      up_comes then_young last_young = near_comes (n - 2) (then_up c) (omega (arith, long)) (seen_up then_young last_young)
          (up_near names client_closed server_closed cf sf at grant (c + 10) (grant + 10 + 10) fits server_fits (omega (arith, past)) (omega arith) (omega arith))
          (record { clock = refl; connected = refl; joined = refl; young = omega (arith, last_young); own = omega (arith, past) })

      by_then : c + 10 < at + 1800 → (b : Bool) → nat_le (at + 1800) (c + 20) ≡ b → Comes names 1415 (just_joined c)
      by_then then_young true e = let r =
          late_comes (n - 1) (just_joined c) (omega (arith, long)) (seen_joined then_young) refl (omega (arith, then_young)) (omega (arith, leb-true _ _ e)) in
          record { rounds = r.rounds; soon = omega (arith, r.soon); healthy = r.healthy }
      by_then then_young false e = comes_later names 1 1414 1415 (just_joined c) (omega arith) (subst (Comes names 1414) (sym (comes_up c (leb-false _ _ e))) (up_comes then_young (leb-false _ _ e)))

      by_young : (b : Bool) → nat_le (at + 1800) (c + 10) ≡ b → Comes names 1416 (just_granted c)
      by_young true e = let r = late_comes n (just_granted c) (omega (arith, long)) seen refl young (leb-true _ _ e) in record { rounds = r.rounds; soon = omega (arith, r.soon); healthy = r.healthy }
      by_young false e = comes_later names 1 1415 1416 (just_granted c) (omega arith)
          (subst (Comes names 1415) (sym (joins_now c past (leb-false _ _ e))) (by_then (leb-false _ _ e) (nat_le (at + 1800) (c + 20)) refl))

-- ---- nothing comes to either

-- it asks, and nothing is under way; its server knows no own stamp that is younger than this reading
record Still (reading : ℕ) (p : Pair) : Type 0 where
  asks : Asks p.client.clock p.client
  to_server : p.to_server ≡ []
  to_client : p.to_client ≡ []
  inside : is_open p.server.phase ≡ true → p.server.own_stamp ≤ reading

calm_asking : (now : ℕ) (l : LinkState) → is_up l.phase ≡ false → (b : Bool) → (is_up l.phase && b) ≡ false
calm_asking now l down b = rw down refl

-- a server to which nothing comes says nothing, while its client asks
server_mute : (names : Names) (p : Pair) → Facts names p → Asks p.client.clock p.client → p.to_server ≡ [] → Rooms p → (pair_round p).to_client ≡ []
unfolding pair_round
server_mute names p facts is mute rooms = subst (λ (ps : List Pdu). (end_round (p.server.clock + 10) ps p.server).pdus ≡ []) (sym mute) (by_phase (is_open p.server.phase) refl)
  where
    resting_says : is_open p.server.phase ≡ false → (end_round (p.server.clock + 10) [] p.server).pdus ≡ []
    resting_says shut = ap (λ (l : LinkState). (end_round (p.server.clock + 10) [] l).pdus) (out_is names Role.Server p.server facts.server shut)
        ∙ ap (λ (s : Step). s.pdus) (server_rests names p.server.clock p.server.closed_at (left_of p.server))

    inside_says : (e : is_open p.server.phase ≡ true) → Begins (p.server.clock + 10) p.server → (end_round (p.server.clock + 10) [] p.server).pdus ≡ []
    inside_says e (late left) = ap (λ (s : Step). s.pdus) (late_round (p.server.clock + 10) [] p.server left)
    inside_says e (on same young) = ap (λ (s : Step). s.pdus) (calm_round (p.server.clock + 10) p.server (record { connected = e; young = young; room = let r = rooms.server e in omega (arith, r) })
        (calm_asking (p.server.clock + 10) p.server (facts.calls (ap is_open is.starts) (asks_asking p.client.clock p.client is) e).down (nat_le 300 (p.server.clock + 10 - p.server.sent_at))))

    by_phase : (b : Bool) → is_open p.server.phase ≡ b → (end_round (p.server.clock + 10) [] p.server).pdus ≡ []
    by_phase false e = resting_says e
    by_phase true e = inside_says e (begins (p.server.clock + 10) p.server refl e (facts.server_young e).young)

-- while its time isn't over it asks on
client_still : (p : Pair) → Asks p.client.clock p.client → p.to_client ≡ [] → p.client.clock + 10 < p.client.own_stamp + 1800 → Rooms p
    → ((pair_round p).client ≡ at_reading (p.client.clock + 10) p.client) × ((pair_round p).to_server ≡ [])
unfolding pair_round
client_still p is none young rooms = (ap (λ (s : Step). s.link) whole, ap (λ (s : Step). s.pdus) whole)
  where
    whole : end_round (p.client.clock + 10) p.to_client p.client ≡ silent (at_reading (p.client.clock + 10) p.client)
    whole = ap (λ (ps : List Pdu). end_round (p.client.clock + 10) ps p.client) none
        ∙ calm_round (p.client.clock + 10) p.client (record { connected = ap is_open is.starts; young = young; room = let r = rooms.client (ap is_open is.starts) in omega (arith, r) })
        (calm_asking (p.client.clock + 10) p.client (not_up p.client (asks_asking p.client.clock p.client is)) (nat_le 300 (p.client.clock + 10 - p.client.sent_at)))

still_on : (names : Names) (reading : ℕ) (p : Pair) → Facts names p → Rooms p → Still reading p → p.client.clock + 10 < p.client.own_stamp + 1800
    → Still reading (pair_round p) × ((pair_round p).client.own_stamp ≡ p.client.own_stamp)
still_on names reading p facts rooms still young = (
  record {
    asks = subst (λ (l : LinkState). Asks l.clock l) (sym on.0)
        (record { clock = refl; starts = still.asks.starts; client = still.asks.client; young = young; own = let o = still.asks.own in omega (arith, o) });
    to_server = on.1;
    to_client = server_mute names p facts still.asks still.to_server rooms;
    inside = inside_then names reading p facts still.asks still.to_server still.inside;
  },
  ap (λ (l : LinkState). l.own_stamp) on.0,
)
  where
    on : ((pair_round p).client ≡ at_reading (p.client.clock + 10) p.client) × ((pair_round p).to_server ≡ [])
    on = client_still p still.asks still.to_client young rooms

no_talk : (ps : List Pdu) → ps ≡ [] → Each IsTalkPdu ps
no_talk ps none = subst (Each IsTalkPdu) (sym none) tt

-- so many rounds later its time is over, and its server's in the next round
still_comes : (names : Names) (reading fuel n : ℕ) (p : Pair) → 1000 ≤ n → Seen names (fuel + n) p → Still reading p → p.client.clock + 10 * fuel < p.client.own_stamp + 1800
    → p.client.own_stamp + 1800 ≤ p.client.clock + 10 * fuel + 10 → reading + 1780 ≤ p.server.clock + 10 * fuel → Comes names (fuel + 605) p
still_comes names reading zero n p long seen still young over server_over =
    let r = over_comes names reading n p long (subst (λ (k : ℕ). Seen names k p) (omega arith) seen)
    (record { asks = still.asks; mute = still.to_server; inside = still.inside; talk = no_talk p.to_client still.to_client }) (omega (arith, over)) (omega (arith, server_over)) in
    record { rounds = r.rounds; soon = omega (arith, r.soon); healthy = r.healthy }
still_comes names reading (suc fuel) n p long seen still young over server_over = comes_later names 1 (fuel + 605) (suc fuel + 605) p (omega arith)
    (still_comes names reading fuel n (pair_round p) long (seen_on names (fuel + n) p (subst (λ (k : ℕ). Seen names k p) (omega arith) seen)) on.0
    (omega (arith, young, on.1, seen.client_clock 1)) (omega (arith, over, on.1, seen.client_clock 1)) (omega (arith, server_over, seen.server_clock 1)))
  where
    on : Still reading (pair_round p) × ((pair_round p).client.own_stamp ≡ p.client.own_stamp)
    on = still_on names reading p (seen.facts 0) (seen.room 0 (omega arith)) still (omega (arith, young))

-- a client that asks, to which nothing comes, goes out or asks on
stays_asking : (p : Pair) → Asks p.client.clock p.client → p.to_client ≡ [] → (is_open (pair_round p).client.phase ≡ false) ⊎ (is_asking (pair_round p).client ≡ true)
unfolding pair_round
stays_asking p is none = choose (alone_round (p.client.clock + 10) p.to_client p.client is (no_talk p.to_client none) refl)
  where
    choose : Either (p.client.clock + 10) (end_round (p.client.clock + 10) p.to_client p.client).link (AsksOn (p.client.clock + 10) p.client (end_round (p.client.clock + 10) p.to_client p.client))
        → (is_open (end_round (p.client.clock + 10) p.to_client p.client).link.phase ≡ false) ⊎ (is_asking (end_round (p.client.clock + 10) p.to_client p.client).link ≡ true)
    choose (gone left) = inl left.is_out
    choose (so a) = inr (asks_asking (p.client.clock + 10) (end_round (p.client.clock + 10) p.to_client p.client).link a.asks)

-- ---- after the first round

-- a client that asks after it, and of whose server nothing that is said since comes to it
module _ (names : Names) (n : ℕ) (p : Pair) (long : 1500 ≤ n) (seen : Seen names n p) (is : Asks p.client.clock p.client) (mute : p.to_server ≡ []) (reading : ℕ) (clock : p.server.clock ≡ reading + 10) (asked : p.client.own_stamp + 10 ≤ p.client.clock)
    (inside : is_open p.server.phase ≡ true → (p.server.own_stamp ≤ reading) × (p.to_client ≡ [])) where
  seen1 : Seen names (n - 1) (pair_round p)
  seen1 = seen_on names (n - 1) p (subst (λ (k : ℕ). Seen names k p) (omega (arith, long)) seen)

  -- nothing comes by which it could join
  not_joined : p.to_client ≡ [] → Joined (pair_round p).client.clock (pair_round p).client → ⊥
  not_joined none j = choose (stays_asking p is none)
    where
      choose : (is_open (pair_round p).client.phase ≡ false) ⊎ (is_asking (pair_round p).client ≡ true) → ⊥
      choose (inl shut) = cc (shut, j.connected)
      choose (inr asks) = cc (asks, j.joined)

  then_still : Asks (pair_round p).client.clock (pair_round p).client → (pair_round p).to_server ≡ [] → Still reading (pair_round p)
  then_still a none = record {
    asks = a;
    to_server = none;
    to_client = server_mute names p (seen.facts 0) is mute (seen.room 0 (omega (arith, long)));
    inside = inside_then names reading p (seen.facts 0) is mute (λ e. (inside e).0);
  }

  -- its time is over early, or with its server's
  on_comes : Asks (pair_round p).client.clock (pair_round p).client → (pair_round p).to_server ≡ [] → (pair_round p).client.own_stamp ≡ p.client.own_stamp → Comes names 1559 (pair_round p)
  on_comes a none own = by_time (nat_le (p.client.own_stamp + 20) p.client.clock) refl
    where
      s : Still reading (pair_round p)
      s = then_still a none

      early : p.client.own_stamp + 20 ≤ p.client.clock → Comes names 1559 (pair_round p)
      early over = stuck_comes names reading 176 (n - 177) (pair_round p) (omega (arith, long)) (subst (λ (k : ℕ). Seen names k (pair_round p)) (omega (arith, long)) seen1)
          (record { asks = s.asks; mute = s.to_server; inside = s.inside; talk = no_talk (pair_round p).to_client s.to_client }) (omega (arith, own, over, seen.client_clock 1))
          (omega (arith, clock, seen.server_clock 1))

      late_then : p.client.clock < p.client.own_stamp + 20 → Comes names 1559 (pair_round p)
      late_then soon = let r = still_comes names reading 177 (n - 178) (pair_round p) (omega (arith, long)) (subst (λ (k : ℕ). Seen names k (pair_round p)) (omega (arith, long)) seen1) s
          (omega (arith, own, soon, seen.client_clock 1)) (omega (arith, own, asked, seen.client_clock 1)) (omega (arith, clock, seen.server_clock 1)) in
          record { rounds = r.rounds; soon = omega (arith, r.soon); healthy = r.healthy }

      by_time : (b : Bool) → nat_le (p.client.own_stamp + 20) p.client.clock ≡ b → Comes names 1559 (pair_round p)
      by_time true e = early (leb-true _ _ e)
      by_time false e = late_then (leb-false _ _ e)

  pub alone_comes_on : Comes names 1560 p
  alone_comes_on = choose (asking_step p is)
    where
      choose : AskingStep p → Comes names 1560 p
      choose (goes_out shut) = comes_later names 1 1383 1560 p (omega arith) (out_comes names (n - 1) (pair_round p) (omega (arith, long)) seen1 shut)
      choose (joins j) = joining names 1560 n p (omega arith) (omega (arith, long)) seen is j (λ s e. absurd (not_joined (inside e).1 j))
      choose (asks_on a none own) = comes_later names 1 1559 1560 p (omega arith) (on_comes a none own)
