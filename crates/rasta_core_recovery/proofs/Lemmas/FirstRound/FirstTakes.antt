-- Two ends from a first round on, one of which waits though it took one of it.
use Rattle.rasta_core_recovery.proofs.Words.Basics.{◌≡◌, ℕ, zero, suc, ◌+◌, ◌-◌, ◌≤◌, Bool, true, false, List, [], ◌++◌, length, refl, sym, subst, arith}
use Rattle.rasta_core_recovery.proofs.Words.Links.{Pdu, Role, Names}
use Rattle.rasta_core_recovery.proofs.Lemmas.Rounds.Blocks.{as_many_both}
use Rattle.rasta_core_recovery.proofs.Lemmas.ComingUp.Converse.{Goes, GoesQuietly, Talk}
use Rattle.rasta_core_recovery.proofs.Lemmas.FirstRound.FirstAnswered.{chain_long, stands_some}
use Rattle.rasta_core_recovery.proofs.Lemmas.FirstRound.FirstNew.{StandsAt}
use Rattle.rasta_core_recovery.proofs.Lemmas.FirstRound.FirstSoon.{Held, held_on}
use Rattle.rasta_core_recovery.proofs.Lemmas.FirstRound.FirstTurns.{AskOrAnswer, Turns, answer_comes, ask_comes, stands_in}
use Rattle.rasta_core_recovery.proofs.Lemmas.Rounds.Links.{Pair, pair_round, pair_rounds}
use Rattle.rasta_core_recovery.proofs.Lemmas.ComingUp.Seen.{Seen, Stay, talk_step}
use Rattle.rasta_core_recovery.proofs.Lemmas.Rounds.Steps.{FewMarks, stands_behind}
use Rattle.rasta_core_recovery.proofs.Lemmas.ComingUp.TunedEnds.{IsPlainPdu}
use Rattle.rasta_core_recovery.proofs.Lemmas.Rounds.Words.{voice_of}
use Rattle.rasta_core_recovery.proofs.Lemmas.Asking.AsksGoes.{plain_asks as asks_no_plain}

-- all that came to them in so many rounds
unfoldable pub came_to_client : ℕ → Pair → List Pdu
came_to_client zero p = []
came_to_client (suc k) p = came_to_client k p ++ (pair_rounds k p).to_client

unfoldable pub came_to_server : ℕ → Pair → List Pdu
came_to_server zero p = []
came_to_server (suc k) p = came_to_server k p ++ (pair_rounds k p).to_server

-- it and what is under way
abbrev pub all_by : ℕ → Pair → Pair
all_by k p = record { client = (pair_rounds k p).client; server = (pair_rounds k p).server; to_client = came_to_client (suc k) p; to_server = came_to_server (suc k) p }

-- few PDUs where few of them ask or answer
abbrev pub IsShort : List Pdu → Type 0
IsShort ps = FewMarks 0 ps → length ps ≤ 67

module _ (names : Names) (last n m : ℕ) (p : Pair) (seen : Seen names last p) (stay : Stay last p) (long : 4 ≤ last)
    (short_client : (k : ℕ) → k ≤ 2 → IsShort (pair_rounds k p).to_client) (short_server : (k : ℕ) → k ≤ 2 → IsShort (pair_rounds k p).to_server)
    (turns : (k : ℕ) → k ≤ 2 → Turns (all_by k p) n m) where
  abbrev at : ℕ → Pair
  at k = pair_rounds k p

  abbrev pub TalkAt : ℕ → Bool → Bool → Type 0
  TalkAt k client_tuned server_tuned = Talk names p.client.clock p.server.clock client_tuned server_tuned (pair_rounds k p)

  -- they talk, and what came before is what comes now began with
  pub record Place (k : ℕ) (client_tuned server_tuned : Bool) : Type 0 where
    pub talk : TalkAt k client_tuned server_tuned
    pub client_from : n + length (came_to_client k p) ≡ talk.to_client.number
    pub server_from : m + length (came_to_server k p) ≡ talk.to_server.number

  pub goes_at : (k : ℕ) → k ≤ 3 → (client_tuned server_tuned : Bool) (talk : TalkAt k client_tuned server_tuned) → GoesQuietly names p.client.clock p.server.clock client_tuned server_tuned (at k) talk
  goes_at k most client_tuned server_tuned talk = talk_step names p.client.clock p.server.clock client_tuned server_tuned (at k) talk (seen.room k (omega (arith, most, long))) (stay.both k (omega (arith, most, long)))
      (stay.both (suc k) (omega (arith, most, long))) (omega (arith, most, seen.client_clock k)) (omega (arith, most, seen.server_clock k))

  module _ (k : ℕ) (most : k ≤ 3) (client_tuned server_tuned : Bool) (place : Place k client_tuned server_tuned) where
    abbrev pub turn : GoesQuietly names p.client.clock p.server.clock client_tuned server_tuned (at k) place.talk
    turn = goes_at k most client_tuned server_tuned place.talk

    pub place_on : Place (suc k) turn.goes.then_client turn.goes.then_server
    unfolding came_to_client came_to_server
    place_on = record {
      talk = turn.goes.talk;
      client_from = (let b : length (came_to_client (suc k) p) ≡ length (came_to_client k p) + length (at k).to_client = as_many_both (came_to_client k p) (at k).to_client in let l = long_client in omega (arith, b, l, place.client_from, turn.goes.client_way.0));
      server_from = (let b : length (came_to_server (suc k) p) ≡ length (came_to_server k p) + length (at k).to_server = as_many_both (came_to_server k p) (at k).to_server in let l = long_server in omega (arith, b, l, place.server_from, turn.goes.server_way.0));
    }
      where
        long_client : place.talk.to_client.number + length (at k).to_client ≡ (at k).server.sent
        long_client = chain_long (voice_of (at k).server) place.talk.to_client.number place.talk.to_client.count place.talk.to_client.reading (at k).server.sent ((at k).server.expected - 1) place.talk.server_kept
            (at k).to_client place.talk.to_client.chain

        long_server : place.talk.to_server.number + length (at k).to_server ≡ (at k).client.sent
        long_server = chain_long (voice_of (at k).client) place.talk.to_server.number place.talk.to_server.count place.talk.to_server.reading (at k).client.sent ((at k).client.expected - 1) place.talk.client_kept
            (at k).to_server place.talk.to_server.chain

  -- both take soon what comes
  abbrev pub Soon : Type 0
  Soon = (k : ℕ) × (k ≤ 4) × TalkAt k true true

  abbrev pub HeldClient : (k : ℕ) (client_tuned server_tuned : Bool) → TalkAt k client_tuned server_tuned → Type 0
  HeldClient k client_tuned server_tuned talk = Held n k (came_to_client k p) (at k).client talk.to_client.number talk.to_client.count talk.to_client.reading

  abbrev pub HeldServer : (k : ℕ) (client_tuned server_tuned : Bool) → TalkAt k client_tuned server_tuned → Type 0
  HeldServer k client_tuned server_tuned talk = Held m k (came_to_server k p) (at k).server talk.to_server.number talk.to_server.count talk.to_server.reading

  -- ---- the client waits

  module _ (k : ℕ) (most : k ≤ 2) (server_tuned : Bool) (talk : TalkAt k false server_tuned) (held : HeldClient k false server_tuned talk) where
    client_goes : GoesQuietly names p.client.clock p.server.clock false server_tuned (at k) talk
    client_goes = goes_at k (omega (arith, most)) false server_tuned talk

    pub client_held_on : (goes : Goes names p.client.clock p.server.clock false server_tuned (at k) (pair_round (at k)) talk) → goes.then_client ≡ false
        → Held n (suc k) (came_to_client (suc k) p) (at (suc k)).client goes.talk.to_client.number goes.talk.to_client.count goes.talk.to_client.reading
    unfolding pair_round came_to_client
    client_held_on goes deaf = subst (λ (x : ℕ). Held n (suc k) (came_to_client (suc k) p) (at (suc k)).client goes.talk.to_client.number goes.talk.to_client.count x) (sym goes.client_way.2)
        (subst (λ (x : ℕ). Held n (suc k) (came_to_client (suc k) p) (at (suc k)).client goes.talk.to_client.number x talk.server_kept) (sym goes.client_way.1)
        (subst (λ (x : ℕ). Held n (suc k) (came_to_client (suc k) p) (at (suc k)).client x ((at k).server.expected - 1) talk.server_kept) (sym goes.client_way.0) here))
      where
        marks : FewMarks 0 (came_to_client (suc k) p)
        marks = let e : (at k).client.expected - n ≡ 0 = omega (arith, held.expected) in subst (λ (x : ℕ). FewMarks x (came_to_client (suc k) p)) e (turns k most).client_few

        here : Held n (suc k) (came_to_client (suc k) p) (at (suc k)).client (at k).server.sent ((at k).server.expected - 1) talk.server_kept
        here = held_on names Role.Client p.server.clock p.client.clock server_tuned talk.client_kept talk.server_kept (at k).client (at k).server (at k).to_client (at k).to_server
            (record { own = talk.client; other = talk.server }) talk.to_client talk.to_server (let r = (seen.room k (omega (arith, most, long))).server (stay.both k (omega (arith, most, long))).server in omega (arith, r))
            (omega (arith, most, seen.client_clock k)) n k (came_to_client k p) most held marks (short_client k most) (stay.both (suc k) (omega (arith, most, long))).client
            (goes.client_notes.waits_on held.waiting deaf).0 (goes.client_still deaf).1 (goes.client_notes.deaf deaf)

  -- so also after the next round
  pub record PlacedClient (k : ℕ) (client_tuned server_tuned : Bool) : Type 0 where
    pub place : Place k client_tuned server_tuned
    pub held : HeldClient k client_tuned server_tuned place.talk

  pub client_placed_on : (k : ℕ) (most : k ≤ 2) (short : k ≤ 3) (server_tuned : Bool) (place : Place k false server_tuned) → HeldClient k false server_tuned place.talk
      → (turn k short false server_tuned place).goes.then_client ≡ false → PlacedClient (suc k) (turn k short false server_tuned place).goes.then_client (turn k short false server_tuned place).goes.then_server
  unfolding place_on goes_at
  client_placed_on k most short server_tuned place held deaf = record {
    place = place_on k short false server_tuned place;
    held = client_held_on k most server_tuned place.talk held (turn k short false server_tuned place).goes deaf;
  }

  -- its partner takes what comes: so it answers
  pub client_soon : (k : ℕ) → k ≤ 1 → (place : Place k false true) → HeldClient k false true place.talk → Soon
  unfolding came_to_server place_on goes_at
  client_soon k most place held = by one.then_client refl
    where
      one : Goes names p.client.clock p.server.clock false true (at k) (at (suc k)) place.talk
      one = (turn k (omega (arith, most)) false true place).goes

      server_too : one.then_server ≡ true
      server_too = one.server_keeps refl

      then_talk : (b : Bool) → one.then_client ≡ b → TalkAt (suc k) b true
      then_talk b e = subst (λ (y : Bool). TalkAt (suc k) b y) server_too (subst (λ (x : Bool). TalkAt (suc k) x one.then_server) e one.talk)

      next : one.then_client ≡ false → Soon
      next deaf = again (subst (λ (y : Bool). Again false y) server_too (subst (λ (x : Bool). Again x one.then_server) deaf
          ((place_on k (omega (arith, most)) false true place), client_held_on k (omega (arith, most)) true place.talk held one deaf)))
        where
          Again : Bool → Bool → Type 0
          Again x y = (then_place : Place (suc k) x y) × HeldClient (suc k) x y then_place.talk

          again : Again false true → Soon
          again (then_place, then_held) = choose two.then_client refl
            where
              two : Goes names p.client.clock p.server.clock false true (at (suc k)) (at (suc (suc k))) then_place.talk
              two = (turn (suc k) (omega (arith, most)) false true then_place).goes

              never : two.then_client ≡ false → AskOrAnswer (at (suc k)).client (at (suc k)).server n m (came_to_client (suc (suc k)) p) (came_to_server (suc (suc k)) p) → ⊥
              never still (answer_comes a ahead below answers) = let h = client_held_on (suc k) (omega (arith, most)) true then_place.talk then_held two still in
                  h.unanswered a (omega (arith, ahead, then_held.expected)) (omega (arith, below, two.client_way.0)) answers
              never still (ask_comes a ahead below asks) = plain_asks (stands_some (a - then_place.talk.to_server.number) (at (suc k)).to_server (omega (arith, long_list, level, ahead, below)))
                where
                  long_list : then_place.talk.to_server.number + length (at (suc k)).to_server ≡ (at (suc k)).client.sent
                  long_list = chain_long (voice_of (at (suc k)).client) then_place.talk.to_server.number then_place.talk.to_server.count then_place.talk.to_server.reading (at (suc k)).client.sent
                      ((at (suc k)).client.expected - 1) then_place.talk.client_kept (at (suc k)).to_server then_place.talk.to_server.chain

                  level : (at (suc k)).server.expected ≡ then_place.talk.to_server.number
                  level = then_place.talk.to_server.mode.0.expected

                  plain_asks : ((x : Pdu) × StandsAt (a - then_place.talk.to_server.number) x (at (suc k)).to_server) → ⊥
                  plain_asks (x, stands) = asks_no_plain x.body (stands_in IsPlainPdu (a - then_place.talk.to_server.number) x (at (suc k)).to_server (one.client_notes.waits_on held.waiting deaf).1 stands)
                      (asks (length (came_to_server (suc k) p) + (a - then_place.talk.to_server.number)) x (omega (arith, then_place.server_from, level, ahead))
                      (stands_behind (came_to_server (suc k) p) (at (suc k)).to_server (a - then_place.talk.to_server.number) x stands))

              choose : (b : Bool) → two.then_client ≡ b → Soon
              choose true e = (suc (suc k), omega (arith, most), subst (λ (y : Bool). TalkAt (suc (suc k)) true y) (two.server_keeps refl) (subst (λ (x : Bool). TalkAt (suc (suc k)) x two.then_server) e two.talk))
              choose false e = absurd (never e ((turns (suc k) (omega (arith, most))).client then_held.waiting))

      by : (b : Bool) → one.then_client ≡ b → Soon
      by true e = (suc k, omega (arith, most), then_talk true e)
      by false e = next e

  -- ---- the server waits

  module _ (k : ℕ) (most : k ≤ 2) (client_tuned : Bool) (talk : TalkAt k client_tuned false) (held : HeldServer k client_tuned false talk) where
    server_goes : GoesQuietly names p.client.clock p.server.clock client_tuned false (at k) talk
    server_goes = goes_at k (omega (arith, most)) client_tuned false talk

    pub server_held_on : (goes : Goes names p.client.clock p.server.clock client_tuned false (at k) (pair_round (at k)) talk) → goes.then_server ≡ false
        → Held m (suc k) (came_to_server (suc k) p) (at (suc k)).server goes.talk.to_server.number goes.talk.to_server.count goes.talk.to_server.reading
    unfolding pair_round came_to_server
    server_held_on goes deaf = subst (λ (x : ℕ). Held m (suc k) (came_to_server (suc k) p) (at (suc k)).server goes.talk.to_server.number goes.talk.to_server.count x) (sym goes.server_way.2)
        (subst (λ (x : ℕ). Held m (suc k) (came_to_server (suc k) p) (at (suc k)).server goes.talk.to_server.number x talk.client_kept) (sym goes.server_way.1)
        (subst (λ (x : ℕ). Held m (suc k) (came_to_server (suc k) p) (at (suc k)).server x ((at k).client.expected - 1) talk.client_kept) (sym goes.server_way.0) here))
      where
        marks : FewMarks 0 (came_to_server (suc k) p)
        marks = let e : (at k).server.expected - m ≡ 0 = omega (arith, held.expected) in subst (λ (x : ℕ). FewMarks x (came_to_server (suc k) p)) e (turns k most).server_few

        here : Held m (suc k) (came_to_server (suc k) p) (at (suc k)).server (at k).client.sent ((at k).client.expected - 1) talk.client_kept
        here = held_on names Role.Server p.client.clock p.server.clock client_tuned talk.server_kept talk.client_kept (at k).server (at k).client (at k).to_server (at k).to_client
            (record { own = talk.server; other = talk.client }) talk.to_server talk.to_client (let r = (seen.room k (omega (arith, most, long))).client (stay.both k (omega (arith, most, long))).client in omega (arith, r))
            (omega (arith, most, seen.server_clock k)) m k (came_to_server k p) most held marks (short_server k most) (stay.both (suc k) (omega (arith, most, long))).server
            (goes.server_notes.waits_on held.waiting deaf).0 (goes.server_still deaf).1 (goes.server_notes.deaf deaf)

  -- so also after the next round
  pub record PlacedServer (k : ℕ) (client_tuned server_tuned : Bool) : Type 0 where
    pub place : Place k client_tuned server_tuned
    pub held : HeldServer k client_tuned server_tuned place.talk

  pub server_placed_on : (k : ℕ) (most : k ≤ 2) (short : k ≤ 3) (client_tuned : Bool) (place : Place k client_tuned false) → HeldServer k client_tuned false place.talk
      → (turn k short client_tuned false place).goes.then_server ≡ false → PlacedServer (suc k) (turn k short client_tuned false place).goes.then_client (turn k short client_tuned false place).goes.then_server
  unfolding place_on goes_at
  server_placed_on k most short client_tuned place held deaf = record {
    place = place_on k short client_tuned false place;
    held = server_held_on k most client_tuned place.talk held (turn k short client_tuned false place).goes deaf;
  }

  -- its partner takes what comes: so it answers
  pub server_soon : (k : ℕ) → k ≤ 1 → (place : Place k true false) → HeldServer k true false place.talk → Soon
  unfolding came_to_client place_on goes_at
  server_soon k most place held = by one.then_server refl
    where
      one : Goes names p.client.clock p.server.clock true false (at k) (at (suc k)) place.talk
      one = (turn k (omega (arith, most)) true false place).goes

      client_too : one.then_client ≡ true
      client_too = one.client_keeps refl

      then_talk : (b : Bool) → one.then_server ≡ b → TalkAt (suc k) true b
      then_talk b e = subst (λ (y : Bool). TalkAt (suc k) y b) client_too (subst (λ (x : Bool). TalkAt (suc k) one.then_client x) e one.talk)

      next : one.then_server ≡ false → Soon
      next deaf = again (subst (λ (y : Bool). Again y false) client_too (subst (λ (x : Bool). Again one.then_client x) deaf
          ((place_on k (omega (arith, most)) true false place), server_held_on k (omega (arith, most)) true place.talk held one deaf)))
        where
          Again : Bool → Bool → Type 0
          Again x y = (then_place : Place (suc k) x y) × HeldServer (suc k) x y then_place.talk

          again : Again true false → Soon
          again (then_place, then_held) = choose two.then_server refl
            where
              two : Goes names p.client.clock p.server.clock true false (at (suc k)) (at (suc (suc k))) then_place.talk
              two = (turn (suc k) (omega (arith, most)) true false then_place).goes

              never : two.then_server ≡ false → AskOrAnswer (at (suc k)).server (at (suc k)).client m n (came_to_server (suc (suc k)) p) (came_to_client (suc (suc k)) p) → ⊥
              never still (answer_comes a ahead below answers) = let h = server_held_on (suc k) (omega (arith, most)) true then_place.talk then_held two still in
                  h.unanswered a (omega (arith, ahead, then_held.expected)) (omega (arith, below, two.server_way.0)) answers
              never still (ask_comes a ahead below asks) = plain_asks (stands_some (a - then_place.talk.to_client.number) (at (suc k)).to_client (omega (arith, long_list, level, ahead, below)))
                where
                  long_list : then_place.talk.to_client.number + length (at (suc k)).to_client ≡ (at (suc k)).server.sent
                  long_list = chain_long (voice_of (at (suc k)).server) then_place.talk.to_client.number then_place.talk.to_client.count then_place.talk.to_client.reading (at (suc k)).server.sent
                      ((at (suc k)).server.expected - 1) then_place.talk.server_kept (at (suc k)).to_client then_place.talk.to_client.chain

                  level : (at (suc k)).client.expected ≡ then_place.talk.to_client.number
                  level = then_place.talk.to_client.mode.0.expected

                  plain_asks : ((x : Pdu) × StandsAt (a - then_place.talk.to_client.number) x (at (suc k)).to_client) → ⊥
                  plain_asks (x, stands) = asks_no_plain x.body (stands_in IsPlainPdu (a - then_place.talk.to_client.number) x (at (suc k)).to_client (one.server_notes.waits_on held.waiting deaf).1 stands)
                      (asks (length (came_to_client (suc k) p) + (a - then_place.talk.to_client.number)) x (omega (arith, then_place.client_from, level, ahead))
                      (stands_behind (came_to_client (suc k) p) (at (suc k)).to_client (a - then_place.talk.to_client.number) x stands))

              choose : (b : Bool) → two.then_server ≡ b → Soon
              choose true e = (suc (suc k), omega (arith, most), subst (λ (y : Bool). TalkAt (suc (suc k)) y true) (two.client_keeps refl) (subst (λ (x : Bool). TalkAt (suc (suc k)) two.then_client x) e two.talk))
              choose false e = absurd (never e ((turns (suc k) (omega (arith, most))).server then_held.waiting))

      by : (b : Bool) → one.then_server ≡ b → Soon
      by true e = (suc k, omega (arith, most), then_talk true e)
      by false e = next e
