-- Two ends that have taken of the first round, or have not: healthy soon, or the server never hears of a stamp of the good rounds.
use Rattle.rasta_core_recovery.proofs.Words.Basics.{◌≡◌, ℕ, zero, suc, ◌∙◌, ◌+◌, ◌-◌, ◌≤◌, ◌<◌, ◌⊎◌, inl, inr, Bool, true, false, nat_lt, length, refl, ap, subst, arith, ltb-true, ltb-false}
use Rattle.rasta_core_recovery.proofs.Words.Links.{Each, is_open, Pdu, RetransmissionRequest, Names}
use Rattle.rasta_core_recovery.proofs.Lemmas.ComingUp.Converse.{Goes, GoesQuietly, Talk}
use Rattle.rasta_core_recovery.proofs.Lemmas.ComingUp.Early.{HealthyOrOld, early_from, ever_old, lasting, soon_healthy}
use Rattle.rasta_core_recovery.proofs.Lemmas.FirstRound.FirstAnswered.{chain_long, stands_some}
use Rattle.rasta_core_recovery.proofs.Lemmas.FirstRound.FirstNew.{StandsAt}
use Rattle.rasta_core_recovery.proofs.Lemmas.FirstRound.FirstTakes.{HeldClient, HeldServer, IsShort, Place, PlacedClient, PlacedServer, Soon, all_by, came_to_client, came_to_server, client_held_on, client_placed_on, client_soon, server_held_on, server_placed_on, server_soon, turn}
use Rattle.rasta_core_recovery.proofs.Lemmas.FirstRound.FirstTurns.{Answer, AskOrAnswer, Turns, answer_comes, ask_comes, stands_in}
use Rattle.rasta_core_recovery.proofs.Lemmas.ComingUp.Healthy.{Healthy, waits}
use Rattle.rasta_core_recovery.proofs.Lemmas.Rounds.Links.{Pair, pair_rounds}
use Rattle.rasta_core_recovery.proofs.Lemmas.ComingUp.Sealed.{Lasting, ServerAlone}
use Rattle.rasta_core_recovery.proofs.Lemmas.ComingUp.Seen.{NearBy, Seen, Stay, healthy_after, near_by, rounds_add, seen_later, stay_later}
use Rattle.rasta_core_recovery.proofs.Lemmas.Rounds.Steps.{stands_behind}
use Rattle.rasta_core_recovery.proofs.Lemmas.Rounds.Turn.{EndMode}
use Rattle.rasta_core_recovery.proofs.Lemmas.ComingUp.TunedEnds.{IsNoAnswerPdu, IsPlainPdu, missed, stuck}
use Rattle.rasta_core_recovery.proofs.Lemmas.Rounds.Words.{voice_of}
use Rattle.rasta_core_recovery.proofs.Lemmas.Asking.AsksGoes.{plain_asks as asks_no_plain}

module _ (names : Names) (last n m : ℕ) (p : Pair) (seen : Seen names last p) (stay : Stay last p) (least : 103 ≤ last) (most_rounds : last ≤ 1000)
    (short_client : (k : ℕ) → k ≤ 2 → IsShort (pair_rounds k p).to_client) (short_server : (k : ℕ) → k ≤ 2 → IsShort (pair_rounds k p).to_server)
    (turns : (k : ℕ) → k ≤ 2 → Turns (all_by k p) n m) (reading : ℕ) (time : p.server.clock ≡ reading + 10) where
  abbrev at : ℕ → Pair
  at k = pair_rounds k p

  abbrev pub Talks : ℕ → Bool → Bool → Type 0
  Talks k client_tuned server_tuned = Talk names p.client.clock p.server.clock client_tuned server_tuned (pair_rounds k p)

  abbrev pub PlaceAt : ℕ → Bool → Bool → Type 0
  PlaceAt k client_tuned server_tuned = Place names last n m p seen stay (omega (arith, least)) short_client short_server turns k client_tuned server_tuned

  abbrev pub Early : Type 0
  Early = HealthyOrOld names last p reading

  abbrev lasts : Lasting names last p.client.clock p.server.clock (λ k. pair_rounds k p)
  lasts = lasting names p.client.clock p.server.clock last p seen stay most_rounds (omega arith) (omega arith)

  -- ---- both take what comes

  pub healthy_soon : (k : ℕ) → k ≤ 4 → Talks k true true → Early
  healthy_soon k le tuned = soon_healthy (31 + (2 + k)) (omega (arith, le)) (subst (Healthy names 1) there (healthy_after names (last - k - 2) (pair_rounds 2 q) seen4 stay4 (omega (arith, le, least)) by))
    where
      q : Pair
      q = pair_rounds k p

      seen3 : Seen names (last - k) q
      seen3 = seen_later names k (last - k) p (subst (λ (i : ℕ). Seen names i p) (omega (arith, le, least)) seen)

      stay3 : Stay (last - k) q
      stay3 = stay_later k (last - k) p (subst (λ (i : ℕ). Stay i p) (omega (arith, le, least)) stay)

      seen4 : Seen names (last - k - 2) (pair_rounds 2 q)
      seen4 = seen_later names 2 (last - k - 2) q (subst (λ (i : ℕ). Seen names i q) (omega (arith, le, least)) seen3)

      stay4 : Stay (last - k - 2) (pair_rounds 2 q)
      stay4 = stay_later 2 (last - k - 2) q (subst (λ (i : ℕ). Stay i q) (omega (arith, le, least)) stay3)

      by : NearBy names (pair_rounds 2 q)
      by = near_by names (last - k) p.client.clock p.server.clock q (omega (arith, le, least)) seen3 stay3 tuned (omega (arith, le, seen.client_clock k)) (omega (arith, le, seen.server_clock k))

      there : pair_rounds 31 (pair_rounds 2 q) ≡ pair_rounds (31 + (2 + k)) p
      there = ap (pair_rounds 31) (rounds_add 2 k p) ∙ rounds_add 31 (2 + k) p

  -- ---- the client does, and the server knows no own stamp of the round

  from_talk : (k : ℕ) → k ≤ 2 → Talks k true false → (at k).server.own_stamp ≤ reading → Early
  from_talk k le talk old = early_from names k last p le least most_rounds seen stay p.client.clock reading (omega (arith, le, seen.client_clock k)) (omega (arith, le, seen.server_clock k, time)) true false (record {
    client = talk.client;
    server = talk.server;
    client_kept = talk.client_kept;
    server_kept = talk.server_kept;
    to_client = record {
      is = talk.to_client.is;
      first = talk.to_client.first;
      some = talk.to_client.some;
      most = talk.to_client.most;
      kept_is = talk.to_client.kept_is;
      before = talk.to_client.before;
      low = omega (arith, talk.to_client.low, time);
      sent_before = talk.to_client.sent_before;
      number = talk.to_client.number;
      count = talk.to_client.count;
      reading = talk.to_client.reading;
      chain = talk.to_client.chain;
      since = talk.to_client.since;
      mode = talk.to_client.mode;
      later = omega (arith, talk.to_client.later, time);
      young = λ e. let y = talk.to_client.young e in omega (arith, y, time);
      deaf = λ e. absurd (cc e);
    };
    to_server = record {
      is = talk.to_server.is;
      first = talk.to_server.first;
      some = talk.to_server.some;
      most = talk.to_server.most;
      kept_is = talk.to_server.kept_is;
      before = talk.to_server.before;
      low = talk.to_server.low;
      sent_before = talk.to_server.sent_before;
      number = talk.to_server.number;
      count = talk.to_server.count;
      reading = talk.to_server.reading;
      chain = talk.to_server.chain;
      since = omega (arith, talk.to_server.since, time);
      mode = talk.to_server.mode;
      later = talk.to_server.later;
      young = talk.to_server.young;
      deaf = λ e. ((talk.to_server.deaf e).0, old);
    };
  })

  -- ---- the client waits for ever, and the server has missed what asks

  record LostAt (k : ℕ) (client_tuned server_tuned : Bool) : Type 0 where
    talk : Talks k client_tuned server_tuned
    waiting : waits (at k).client.phase ≡ true
    to_client : Each IsNoAnswerPdu (at k).to_client
    to_server : Each IsNoAnswerPdu (at k).to_server
    missing : (at k).server.expected < talk.to_server.number
    own : (at k).server.own_stamp ≤ reading

  lost_on : (k : ℕ) → k < last → LostAt k false false → LostAt (suc k) false false
  lost_on k lt lost = subst (λ (b : Bool). LostAt (suc k) false b) u (subst (λ (b : Bool). LostAt (suc k) b g.then_server) t (record {
    talk = g.talk;
    waiting = (g.client_notes.waits_on lost.waiting t).0;
    to_client = g.server_notes.hush u;
    to_server = g.client_notes.hush t;
    missing = (let d = (g.server_notes.deaf u).expected in let l = long in let x = lost.missing in omega (arith, d, g.server_way.0, l, x));
    own = (let s = (g.server_still u).1 in let o = lost.own in omega (arith, s, o));
  }))
    where
      g : Goes names p.client.clock p.server.clock false false (at k) (at (suc k)) lost.talk
      g = lasts.goes k lt false false lost.talk

      t : g.then_client ≡ false
      t = g.client_notes.shut (refl, stuck lost.waiting lost.to_client)

      u : g.then_server ≡ false
      u = g.server_notes.shut (refl, missed lost.missing lost.to_server)

      long : lost.talk.to_server.number + length (at k).to_server ≡ (at k).client.sent
      long = chain_long (voice_of (at k).client) lost.talk.to_server.number lost.talk.to_server.count lost.talk.to_server.reading (at k).client.sent ((at k).client.expected - 1) lost.talk.client_kept
          (at k).to_server lost.talk.to_server.chain

  lost_to : (j k i : ℕ) → i ≡ k + j → i ≤ last → LostAt k false false → LostAt i false false
  lost_to zero k i e le lost = subst (λ (x : ℕ). LostAt x false false) (omega (arith, e)) lost
  lost_to (suc j) k i e le lost = lost_to j (suc k) i (omega (arith, e)) le (lost_on k (omega (arith, e, le)) lost)

  lost_ever : (k : ℕ) → k ≤ 2 → LostAt k false false → Early
  lost_ever k le lost = then_ever (lost_to (last - k) k last (omega (arith, le, least)) (omega arith) lost)
    where
      then_ever : LostAt last false false → Early
      then_ever ever = ever_old ever.own next
        where
          next : is_open (at (suc last)).server.phase ≡ true → (at (suc last)).server.own_stamp ≤ reading
          next then_in = by alone.then_tuned (alone.shut (refl, missed ever.missing ever.to_server)) alone.mode
            where
              alone : ServerAlone names p.client.clock p.server.clock false false (at last) (at (suc last)) ever.talk
              alone = lasts.alone false false ever.talk then_in

              by : (b : Bool) → b ≡ false → EndMode _ alone.bounds b alone.kept (at (suc last)).server → (at (suc last)).server.own_stamp ≤ reading
              by true e mode = absurd (cc e)
              by false e mode = let o = ever.own in omega (arith, o, mode.1)

  -- ---- what is so after the first round

  pub soon : Soon names last n m p seen stay (omega (arith, least)) short_client short_server turns → Early
  soon s = healthy_soon s.0 s.1 s.2

  abbrev TurnAt : (k : ℕ) → k ≤ 3 → (client_tuned server_tuned : Bool) (place : PlaceAt k client_tuned server_tuned) → GoesQuietly names p.client.clock p.server.clock client_tuned server_tuned (at k) place.talk
  TurnAt = turn names last n m p seen stay (omega (arith, least)) short_client short_server turns

  abbrev pub ClientHeld : (k : ℕ) (client_tuned server_tuned : Bool) → Talks k client_tuned server_tuned → Type 0
  ClientHeld = HeldClient names last n m p seen stay (omega (arith, least)) short_client short_server turns

  abbrev pub ServerHeld : (k : ℕ) (client_tuned server_tuned : Bool) → Talks k client_tuned server_tuned → Type 0
  ServerHeld = HeldServer names last n m p seen stay (omega (arith, least)) short_client short_server turns

  abbrev ClientPlaced : ℕ → Bool → Bool → Type 0
  ClientPlaced = PlacedClient names last n m p seen stay (omega (arith, least)) short_client short_server turns

  abbrev ServerPlaced : ℕ → Bool → Bool → Type 0
  ServerPlaced = PlacedServer names last n m p seen stay (omega (arith, least)) short_client short_server turns

  talk_by : (k : ℕ) (a b c d : Bool) → Talks k a b → a ≡ c → b ≡ d → Talks k c d
  talk_by k a b c d talk e f = subst (λ (y : Bool). Talks k c y) f (subst (λ (x : Bool). Talks k x b) e talk)

  -- both wait, and an answer comes to one of them
  module _ (place : PlaceAt 0 false false) where
    one : Goes names p.client.clock p.server.clock false false (at 0) (at 1) place.talk
    one = (TurnAt 0 (omega arith) false false place).goes

    client_placed : ClientHeld 0 false false place.talk → (b : Bool) → one.then_client ≡ false → one.then_server ≡ b → ClientPlaced 1 false b
    unfolding one
    client_placed held b e f = subst (λ (y : Bool). ClientPlaced 1 false y) f (subst (λ (x : Bool). ClientPlaced 1 x one.then_server) e
        (client_placed_on names last n m p seen stay (omega (arith, least)) short_client short_server turns 0 (omega arith) (omega arith) false place held e))

    server_placed : ServerHeld 0 false false place.talk → (b : Bool) → one.then_client ≡ b → one.then_server ≡ false → ServerPlaced 1 b false
    unfolding one
    server_placed held b e f = subst (λ (y : Bool). ServerPlaced 1 b y) f (subst (λ (x : Bool). ServerPlaced 1 x one.then_server) e
        (server_placed_on names last n m p seen stay (omega (arith, least)) short_client short_server turns 0 (omega arith) (omega arith) false place held f))

    pub both_early : ClientHeld 0 false false place.talk → ServerHeld 0 false false place.talk
        → Answer p.client p.server n (came_to_client 1 p) ⊎ Answer p.server p.client m (came_to_server 1 p) → Early
    both_early client_held server_held (inl answer) = by one.then_client one.then_server refl refl
      where
        by : (a b : Bool) → one.then_client ≡ a → one.then_server ≡ b → Early
        by true true e f = healthy_soon 1 (omega arith) (talk_by 1 one.then_client one.then_server true true one.talk e f)
        by true false e f = let s = server_placed server_held true e f in soon (server_soon names last n m p seen stay (omega (arith, least)) short_client short_server turns 1 (omega arith) s.place s.held)
        by false b e f = let h = client_held_on names last n m p seen stay (omega (arith, least)) short_client short_server turns 0 (omega arith) false place.talk client_held one e in
            absurd (h.unanswered answer.number (let a = answer.ahead in omega (arith, a, client_held.expected)) (let a = answer.below in omega (arith, a, one.client_way.0)) answer.answers)
    both_early client_held server_held (inr answer) = by one.then_client one.then_server refl refl
      where
        by : (a b : Bool) → one.then_client ≡ a → one.then_server ≡ b → Early
        by true true e f = healthy_soon 1 (omega arith) (talk_by 1 one.then_client one.then_server true true one.talk e f)
        by false true e f = let s = client_placed client_held true e f in soon (client_soon names last n m p seen stay (omega (arith, least)) short_client short_server turns 1 (omega arith) s.place s.held)
        by b false e f = let h = server_held_on names last n m p seen stay (omega (arith, least)) short_client short_server turns 0 (omega arith) false place.talk server_held one f in
            absurd (h.unanswered answer.number (let a = answer.ahead in omega (arith, a, server_held.expected)) (let a = answer.below in omega (arith, a, one.server_way.0)) answer.answers)

    -- the client waits, and the server took none of the round
    pub old_early : ClientHeld 0 false false place.talk → p.server.own_stamp ≤ reading → Early
    unfolding came_to_server
    old_early held old = by one.then_client one.then_server refl refl
      where
        still : one.then_server ≡ false → (at 1).server.own_stamp ≤ reading
        still f = let s = (one.server_still f).1 in omega (arith, s, old)

        again : one.then_client ≡ false → one.then_server ≡ false → ClientPlaced 1 false false → Early
        again t u next = choose ((turns 1 (omega arith)).client next.held.waiting)
          where
            two : Goes names p.client.clock p.server.clock false false (at 1) (at 2) next.place.talk
            two = (TurnAt 1 (omega arith) false false next.place).goes

            long_list : next.place.talk.to_server.number + length (at 1).to_server ≡ (at 1).client.sent
            long_list = chain_long (voice_of (at 1).client) next.place.talk.to_server.number next.place.talk.to_server.count next.place.talk.to_server.reading (at 1).client.sent
                ((at 1).client.expected - 1) next.place.talk.client_kept (at 1).to_server next.place.talk.to_server.chain

            plain_asks : (a : ℕ) → next.place.talk.to_server.number ≤ a → ((i : ℕ) (x : Pdu) → m + i ≡ a → StandsAt i x (came_to_server 2 p) → x.body ≡ RetransmissionRequest)
                → ((x : Pdu) × StandsAt (a - next.place.talk.to_server.number) x (at 1).to_server) → ⊥
            plain_asks a from asks (x, stands) = asks_no_plain x.body (stands_in IsPlainPdu (a - next.place.talk.to_server.number) x (at 1).to_server (one.client_notes.waits_on held.waiting t).1 stands)
                (asks (length (came_to_server 1 p) + (a - next.place.talk.to_server.number)) x (let f = next.place.server_from in omega (arith, f, from))
                (stands_behind (came_to_server 1 p) (at 1).to_server (a - next.place.talk.to_server.number) x stands))

            lost : (a : ℕ) → (at 1).server.expected ≤ a → a < next.place.talk.to_server.number → Early
            lost a ahead below = lost_ever 1 (omega arith) (record {
              talk = next.place.talk;
              waiting = next.held.waiting;
              to_client = one.server_notes.hush u;
              to_server = one.client_notes.hush t;
              missing = omega (arith, ahead, below);
              own = still u;
            })

            choose : AskOrAnswer (at 1).client (at 1).server n m (came_to_client 2 p) (came_to_server 2 p) → Early
            choose (ask_comes a ahead below asks) = by_place (nat_lt a next.place.talk.to_server.number) refl
              where
                by_place : (b : Bool) → nat_lt a next.place.talk.to_server.number ≡ b → Early
                by_place true e = lost a ahead (ltb-true _ _ e)
                by_place false e = let from = ltb-false _ _ e in
                    absurd (plain_asks a from asks (stands_some (a - next.place.talk.to_server.number) (at 1).to_server (omega (arith, long_list, from, below))))
            choose (answer_comes a ahead below answers) = by_two two.then_client two.then_server refl refl
              where
                by_two : (x y : Bool) → two.then_client ≡ x → two.then_server ≡ y → Early
                by_two true true e f = healthy_soon 2 (omega arith) (talk_by 2 two.then_client two.then_server true true two.talk e f)
                by_two true false e f = from_talk 2 (omega arith) (talk_by 2 two.then_client two.then_server true false two.talk e f) (let s = (two.server_still f).1 in let o = still u in omega (arith, s, o))
                by_two false y e f = let h = client_held_on names last n m p seen stay (omega (arith, least)) short_client short_server turns 1 (omega arith) false next.place.talk next.held two e in
                    absurd (h.unanswered a (let x = next.held.expected in omega (arith, ahead, x)) (omega (arith, below, two.client_way.0)) answers)

        by : (a b : Bool) → one.then_client ≡ a → one.then_server ≡ b → Early
        by true true e f = healthy_soon 1 (omega arith) (talk_by 1 one.then_client one.then_server true true one.talk e f)
        by true false e f = from_talk 1 (omega arith) (talk_by 1 one.then_client one.then_server true false one.talk e f) (still f)
        by false true e f = let s = client_placed held true e f in soon (client_soon names last n m p seen stay (omega (arith, least)) short_client short_server turns 1 (omega arith) s.place s.held)
        by false false e f = again e f (client_placed held false e f)
