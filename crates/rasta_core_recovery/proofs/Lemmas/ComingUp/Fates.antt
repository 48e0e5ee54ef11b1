-- A client that is outside opens again; and one way or another two ends become healthy.
use Rattle.rasta_core_recovery.proofs.Words.Basics.{◌≡◌, ℕ, zero, suc, ◌⊎◌, inl, inr, ◌∙◌, ◌+◌, ◌*◌, ◌-◌, ◌≤◌, ◌<◌, Bool, true, false, nat_le, List, [], ◌∷◌, refl, sym, ap, subst, arith, leb-true, leb-false, nat_tests}
use Rattle.rasta_core_recovery.proofs.Words.Links.{wire, LinkState, is_open, is_asking, settled, deadline, Step, silent, Role, Pdu, Each, Names, identity_of}
use Rattle.rasta_core_recovery.proofs.Lemmas.Rounds.Links.{Pair, all_heard, worked, end_round, pair_round, pair_rounds}
use Rattle.rasta_core_recovery.proofs.Lemmas.ComingUp.Healthy.{Healthy}
use Rattle.rasta_core_recovery.proofs.Lemmas.ComingUp.Opens.{Left, resting_link, asking_link, request, client_opens, client_waits, server_rests, step_is}
use Rattle.rasta_core_recovery.proofs.Lemmas.ComingUp.Stays.{left_of, out_is, both_down, new_is_healthy, quiet_stays, quiet_works}
use Rattle.rasta_core_recovery.proofs.Lemmas.Rounds.Calls.{at_reading}
use Rattle.rasta_core_recovery.proofs.Lemmas.Rounds.Fold.{Out, Begins, late, on, begins, late_round}
use Rattle.rasta_core_recovery.proofs.Lemmas.Rounds.Course.{Joined}
use Rattle.rasta_core_recovery.proofs.Lemmas.Rounds.Turn.{Either, gone, so}
use Rattle.rasta_core_recovery.proofs.Lemmas.Asking.Asks.{Asks, AsksOn, InIt, IsTalkPdu, asks_asking, asking_is, in_round, alone_round, server_talks}
use Rattle.rasta_core_recovery.proofs.Lemmas.Rounds.Facts.{Young, IsLately, Facts}
use Rattle.rasta_core_recovery.proofs.Lemmas.Rounds.Pasts.{Past}
use Rattle.rasta_core_recovery.proofs.Lemmas.ComingUp.Seen.{Seen, BothIn, Stay, round_first, rounds_add, seen_on, seen_later, joined_of, server_not_asking, lives_through}
use Rattle.rasta_core_recovery.proofs.Lemmas.ComingUp.Entered.{server_silent}
use Rattle.rasta_core_recovery.proofs.Lemmas.ComingUp.Early.{HealthyOrOld, soon_healthy, ever_old}

-- healthy after so many rounds at most
pub record Comes (names : Names) (most : ℕ) (p : Pair) : Type 0 where
  pub rounds : ℕ
  pub soon : rounds ≤ most
  pub healthy : Healthy names 1 (pair_rounds rounds p)

pub comes_later : (names : Names) (m most all : ℕ) (p : Pair) → m + most ≤ all → Comes names most (pair_rounds m p) → Comes names all p
comes_later names m most all p le c = record { rounds = c.rounds + m; soon = omega (arith, le, c.soon); healthy = subst (Healthy names 1) (rounds_add c.rounds m p) c.healthy }

-- ---- the client is outside, quiet no longer in the next round, and nothing is under way

abbrev pub the_pair : LinkState → LinkState → List Pdu → List Pdu → Pair
the_pair c s tc ts = record { client = c; server = s; to_client = tc; to_server = ts }

pub same_pair : {a b c d : LinkState} {e f g h : List Pdu} → a ≡ b → c ≡ d → e ≡ f → g ≡ h → the_pair a c e g ≡ the_pair b d f h
same_pair w x y z = cc

module _ (names : Names) (c s client_closed server_closed : ℕ) (client server : Left) (over : client_closed + 6000 ≤ c + 10) where
  abbrev cf : ℕ
  cf = wire client.own_first client.sent

  abbrev start : Pair
  start = both_down names c s client_closed server_closed client server

  abbrev asked : ℕ → ℕ → Pair
  asked now other = the_pair (asking_link names now client_closed cf (c + 10)) (resting_link names Role.Server other server_closed server) [] []

  opened : pair_round start ≡ the_pair (asking_link names (c + 10) client_closed cf (c + 10)) (resting_link names Role.Server (s + 10) server_closed server) [] (request names cf (c + 10) ∷ [])
  opened = step_is start _ _ (client_opens names c client_closed client over) (server_rests names s server_closed server)

  -- a server that is quiet refuses the request
  refused : s + 20 < server_closed + 6000 → pair_rounds 2 start ≡ asked (c + 10 + 10) (s + 10 + 10)
  refused quiet = ap pair_round opened ∙ step_is _ _ _ (client_waits names client_closed cf (c + 10) (c + 10) (omega arith) (omega arith))
      (quiet_stays (s + 10 + 10) (request names cf (c + 10) ∷ []) (resting_link names Role.Server (s + 10) server_closed server) refl (omega (arith, quiet)))

  -- the client waits in vain
  waits : (i : ℕ) → i ≤ 178 → pair_rounds i (asked (c + 10 + 10) (s + 10 + 10)) ≡ asked (c + 20 + 10 * i) (s + 20 + 10 * i)
  waits zero most = two (omega arith) (omega arith)
    where
      two : {a b d e : ℕ} → a ≡ b → d ≡ e → asked a d ≡ asked b e
      two f g = cc
  waits (suc i) most = ap pair_round (waits i (omega (arith, most)))
      ∙ step_is (asked (c + 20 + 10 * i) (s + 20 + 10 * i)) _ _ (client_waits names client_closed cf (c + 10) (c + 20 + 10 * i) (omega arith) (omega (arith, most))) (server_rests names (s + 20 + 10 * i) server_closed server)
      ∙ two (omega arith) (omega arith)
    where
      two : {a b d e : ℕ} → a ≡ b → d ≡ e → asked a d ≡ asked b e
      two f g = cc

  abbrev after : Left
  after = left_of (asking_link names 0 client_closed cf (c + 10))

  abbrev rested : ℕ → ℕ → Pair
  rested now other = both_down names now other (c + 1810) server_closed after server

  -- and closes by time
  closes : pair_round (asked (c + 1800) (s + 1800)) ≡ rested (c + 1810) (s + 1810)
  unfolding settled deadline end_round all_heard
  closes = step_is (asked (c + 1800) (s + 1800)) _ _ closing (server_rests names (s + 1800) server_closed server) ∙ two (omega arith) (omega arith) (omega arith)
    where
      two : {a b d e g h : ℕ} → a ≡ b → d ≡ e → g ≡ h → both_down names a d g server_closed after server ≡ both_down names b e h server_closed after server
      two f g h = cc

      at : LinkState
      at = asking_link names (c + 1800) client_closed cf (c + 10)

      shut : LinkState
      shut = resting_link names Role.Client (c + 1800 + 10) (c + 10 + 1800) after

      settles : settled (c + 1800 + 10) at ≡ shut
      settles = rw is_late refl
        where
          is_late : nat_le (c + 10 + 1800) (c + 1800 + 10) ≡ true
          is_late = grind (arith, nat_tests)

      closing : end_round (c + 1800 + 10) [] at ≡ silent shut
      closing = ap (λ (k : LinkState). worked (c + 1800 + 10) Role.Client k) settles ∙ quiet_works (c + 1800 + 10) Role.Client shut refl (omega arith)

  rests : (i : ℕ) → i ≤ 599 → pair_rounds i (rested (c + 1810) (s + 1810)) ≡ rested (c + 1810 + 10 * i) (s + 1810 + 10 * i)
  rests zero most = two (omega arith) (omega arith)
    where
      two : {a b d e : ℕ} → a ≡ b → d ≡ e → rested a d ≡ rested b e
      two f g = cc
  rests (suc i) most = ap pair_round (rests i (omega (arith, most)))
      ∙ step_is (rested (c + 1810 + 10 * i) (s + 1810 + 10 * i)) _ _
      (quiet_stays (c + 1810 + 10 * i + 10) [] (resting_link names Role.Client (c + 1810 + 10 * i) (c + 1810) after) refl (omega (arith, most)))
      (server_rests names (s + 1810 + 10 * i) server_closed server)
      ∙ two (omega arith) (omega arith)
    where
      two : {a b d e : ℕ} → a ≡ b → d ≡ e → rested a d ≡ rested b e
      two f g = cc

  failing : s + 20 < server_closed + 6000 → server_closed ≤ s → Healthy names 1 (pair_rounds 784 start)
  failing quiet before = subst (Healthy names 1) (sym whole) (new_is_healthy names 1 (c + 1810 + 10 * 599) (s + 1810 + 10 * 599) (c + 1810) server_closed after server (omega arith) (omega (arith, before)) (omega arith))
    where
      there : (a b d e : ℕ) → pair_rounds (a + (b + (d + e))) start ≡ pair_rounds a (pair_rounds b (pair_rounds d (pair_rounds e start)))
      there a b d e = sym (ap (λ (q : Pair). pair_rounds a (pair_rounds b q)) (rounds_add d e start) ∙ ap (pair_rounds a) (rounds_add b (d + e) start) ∙ rounds_add a (b + (d + e)) start)

      whole : pair_rounds 784 start ≡ pair_rounds 4 (rested (c + 1810 + 10 * 599) (s + 1810 + 10 * 599))
      whole = there 4 600 178 2
          ∙ ap (λ (q : Pair). pair_rounds 4 (pair_rounds 600 (pair_rounds 178 q))) (refused quiet)
          ∙ ap (λ (q : Pair). pair_rounds 4 (pair_rounds 600 q)) (waits 178 (omega arith))
          ∙ ap (λ (q : Pair). pair_rounds 4 q) (sym (rounds_add 599 1 (asked (c + 20 + 10 * 178) (s + 20 + 10 * 178))))
          ∙ ap (λ (q : Pair). pair_rounds 4 (pair_rounds 599 (pair_round q))) (two (omega arith) (omega arith))
          ∙ ap (λ (q : Pair). pair_rounds 4 (pair_rounds 599 q)) closes
          ∙ ap (λ (q : Pair). pair_rounds 4 q) (rests 599 (omega arith))
        where
          two : {a b d e : ℕ} → a ≡ b → d ≡ e → asked a d ≡ asked b e
          two f g = cc

  pub opens_at_last : server_closed ≤ s → Comes names 784 start
  opens_at_last before = choose (nat_le (server_closed + 6000) (s + 20)) refl
    where
      choose : (b : Bool) → nat_le (server_closed + 6000) (s + 20) ≡ b → Comes names 784 start
      choose true e = record { rounds = 4; soon = omega arith; healthy = new_is_healthy names 1 c s client_closed server_closed client server over (leb-true _ _ e) (omega arith) }
      choose false e = record { rounds = 784; soon = omega arith; healthy = failing (leb-false _ _ e) before }

-- a client that is outside, and quiet no longer in the next round: its server is outside, and nothing is under way
pub both_rest : (names : Names) (p : Pair) → Facts names p → is_open p.client.phase ≡ false → p.client.closed_at + 6000 ≤ p.client.clock + 10
    → p ≡ both_down names p.client.clock p.server.clock p.client.closed_at p.server.closed_at (left_of p.client) (left_of p.server)
both_rest names p facts client_out over = same_pair (out_is names Role.Client p.client facts.client client_out) (out_is names Role.Server p.server facts.server waited.0) waited.1 waited.2
  where
    waited : (is_open p.server.phase ≡ false) × (p.to_client ≡ []) × (p.to_server ≡ [])
    waited = facts.waited client_out (omega (arith, over))

ready_comes : (names : Names) (p : Pair) → Facts names p → Past p.server → is_open p.client.phase ≡ false → p.client.closed_at + 6000 ≤ p.client.clock + 10 → Comes names 784 p
ready_comes names p facts past client_out over = subst (Comes names 784) (sym (both_rest names p facts client_out over))
    (opens_at_last names p.client.clock p.server.clock p.client.closed_at p.server.closed_at (left_of p.client) (left_of p.server) over (past.closed waited.0))
  where
    waited : (is_open p.server.phase ≡ false) × (p.to_client ≡ []) × (p.to_server ≡ [])
    waited = facts.waited client_out (omega (arith, over))

-- an end outside that is quiet stays so in a round
pub client_quiet : (p : Pair) → is_open p.client.phase ≡ false → p.client.clock + 10 < p.client.closed_at + 6000 → (pair_round p).client ≡ record p.client { clock = p.client.clock + 10 }
unfolding pair_round
client_quiet p shut quiet = ap (λ (s : Step). s.link) (quiet_stays (p.client.clock + 10) p.to_client p.client shut quiet)

pub server_quiet : (p : Pair) → is_open p.server.phase ≡ false → p.server.clock + 10 < p.server.closed_at + 6000 → (pair_round p).server ≡ record p.server { clock = p.server.clock + 10 }
unfolding pair_round
server_quiet p shut quiet = ap (λ (s : Step). s.link) (quiet_stays (p.server.clock + 10) p.to_server p.server shut quiet)

waits_comes : (names : Names) (fuel n : ℕ) (p : Pair) → Seen names (fuel + n) p → is_open p.client.phase ≡ false → p.client.closed_at + 6000 ≤ p.client.clock + 10 + 10 * fuel → Comes names (fuel + 784) p
waits_comes names zero n p seen shut over = let r = ready_comes names p (seen.facts 0) (seen.server_past 0) shut (omega (arith, over)) in record { rounds = r.rounds; soon = omega (arith, r.soon); healthy = r.healthy }
waits_comes names (suc fuel) n p seen shut over = choose (λ s e f. waits_comes names fuel n (pair_round p) s e f) (nat_le (p.client.closed_at + 6000) (p.client.clock + 10)) refl
  where
    Again : Type 0
    Again = Seen names (fuel + n) (pair_round p) → is_open (pair_round p).client.phase ≡ false → (pair_round p).client.closed_at + 6000 ≤ (pair_round p).client.clock + 10 + 10 * fuel → Comes names (fuel + 784) (pair_round p)

    choose : Again → (b : Bool) → nat_le (p.client.closed_at + 6000) (p.client.clock + 10) ≡ b → Comes names (suc fuel + 784) p
    choose again true e = let r = ready_comes names p (seen.facts 0) (seen.server_past 0) shut (leb-true _ _ e) in record { rounds = r.rounds; soon = omega (arith, r.soon); healthy = r.healthy }
    choose again false e =
        let on = client_quiet p shut (leb-false _ _ e) in
        let r = again (seen_on names (fuel + n) p (subst (λ (k : ℕ). Seen names k p) (omega arith) seen)) (ap (λ (l : LinkState). is_open l.phase) on ∙ shut)
        (omega (arith, over, ap (λ (l : LinkState). l.closed_at) on, ap (λ (l : LinkState). l.clock) on)) in
        record { rounds = suc r.rounds; soon = omega (arith, r.soon); healthy = subst (Healthy names 1) (round_first r.rounds p) r.healthy }

-- a client that is outside
pub out_comes : (names : Names) (n : ℕ) (p : Pair) → 599 ≤ n → Seen names n p → is_open p.client.phase ≡ false → Comes names 1383 p
out_comes names n p long seen shut = let r = waits_comes names 599 (n - 599) p (subst (λ (k : ℕ). Seen names k p) (omega (arith, long)) seen) shut (omega (arith, (seen.client_past 0).closed shut)) in
    record { rounds = r.rounds; soon = omega (arith, r.soon); healthy = r.healthy }

to_role : (names : Names) (l : LinkState) → l.identity ≡ identity_of Role.Server names → l.identity.role ≡ Role.Server
to_role names l e = ap (λ i. i.role) e

pub record OutAt (most : ℕ) (p : Pair) : Type 0 where
  pub rounds : ℕ
  pub soon : rounds ≤ most
  pub is_out : is_open (pair_rounds rounds p).client.phase ≡ false

-- a client that went out in the last round
pub record JustOut (l : LinkState) : Type 0 where
  pub is_out : is_open l.phase ≡ false
  pub lately : l.clock < l.closed_at + 10

-- and its server was outside before
record OutAlone (most : ℕ) (p : Pair) : Type 0 where
  rounds : ℕ
  soon : rounds ≤ most
  client : JustOut (pair_rounds rounds p).client
  server : is_open (pair_rounds rounds p).server.phase ≡ false
  closed : (pair_rounds rounds p).server.closed_at ≡ p.server.closed_at
  clock : (pair_rounds rounds p).server.clock ≡ p.server.clock + 10 * rounds
  some : 1 ≤ rounds

-- ---- a client that is left alone

-- an end that had joined, and is outside after a round
just_out : (ps : List Pdu) (l : LinkState) → Joined l.clock l → is_open (end_round (l.clock + 10) ps l).link.phase ≡ false → JustOut (end_round (l.clock + 10) ps l).link
just_out ps l is shut = choose (in_round (l.clock + 10) ps l (inl is) refl)
  where
    k : LinkState
    k = (end_round (l.clock + 10) ps l).link

    choose : Either (l.clock + 10) k (Joined (l.clock + 10) k ⊎ AsksOn (l.clock + 10) l (end_round (l.clock + 10) ps l)) → JustOut k
    choose (gone left) = record { is_out = left.is_out; lately = omega (arith, left.clock, left.lately) }
    choose (so (inl j)) = absurd (cc (j.connected, shut))
    choose (so (inr a)) = absurd (cc (a.asked, is.joined))

-- an end whose own stamp is too old in the next round
late_out : (ps : List Pdu) (l : LinkState) → Joined l.clock l → l.own_stamp + 1800 ≤ l.clock + 10 → JustOut (end_round (l.clock + 10) ps l).link
late_out ps l is over = choose (is_open (end_round (l.clock + 10) ps l).link.phase) refl
  where
    choose : (b : Bool) → is_open (end_round (l.clock + 10) ps l).link.phase ≡ b → JustOut (end_round (l.clock + 10) ps l).link
    choose false e = just_out ps l is e
    choose true e = let y = lives_through l ps is.connected (record { own = is.own; young = is.young }) e in absurd (omega (arith, y, over))

server_late : (p : Pair) → Joined p.server.clock p.server → p.server.own_stamp + 1800 ≤ p.server.clock + 10 → JustOut (pair_round p).server
unfolding pair_round
server_late p is over = late_out p.to_server p.server is over

server_leaves_now : (p : Pair) → Joined p.server.clock p.server → is_open (pair_round p).server.phase ≡ false → JustOut (pair_round p).server
unfolding pair_round
server_leaves_now p is shut = just_out p.to_server p.server is shut

pub server_joined : (names : Names) (p : Pair) → Facts names p → is_open p.server.phase ≡ true → Joined p.server.clock p.server
server_joined names p facts is_in = joined_of p.server is_in (server_not_asking names p.server facts.server) (facts.server_young is_in)

-- a client inside that has joined goes out, or stays so
pub joined_step : (p : Pair) → Joined p.client.clock p.client → JustOut (pair_round p).client ⊎ Joined (pair_round p).client.clock (pair_round p).client
unfolding pair_round
joined_step p is = choose (in_round (p.client.clock + 10) p.to_client p.client (inl is) refl)
  where
    c : Step
    c = end_round (p.client.clock + 10) p.to_client p.client

    choose : Either (p.client.clock + 10) c.link (Joined (p.client.clock + 10) c.link ⊎ AsksOn (p.client.clock + 10) p.client c) → JustOut c.link ⊎ Joined c.link.clock c.link
    choose (gone left) = inl (record { is_out = left.is_out; lately = omega (arith, left.clock, left.lately) })
    choose (so (inl j)) = inr (subst (λ (n : ℕ). Joined n c.link) (sym j.clock) j)
    choose (so (inr a)) = absurd (cc (a.asked, is.joined))

alone_out : (names : Names) (fuel n : ℕ) (p : Pair) → Seen names (fuel + n) p → Joined p.client.clock p.client → is_open p.server.phase ≡ false → p.server.closed_at + 1804 < p.server.clock + 10 * fuel → OutAlone fuel p
alone_out names zero n p seen joined shut over = absurd (omega (arith, over, (seen.facts 0).alone joined.connected joined.joined shut))
alone_out names (suc fuel) n p seen joined shut over = choose (λ s j e f. alone_out names fuel n (pair_round p) s j e f) (joined_step p joined)
  where
    Again : Type 0
    Again = Seen names (fuel + n) (pair_round p) → Joined (pair_round p).client.clock (pair_round p).client → is_open (pair_round p).server.phase ≡ false
        → (pair_round p).server.closed_at + 1804 < (pair_round p).server.clock + 10 * fuel → OutAlone fuel (pair_round p)

    lately : p.server.clock ≤ p.server.closed_at + 1804
    lately = (seen.facts 0).alone joined.connected joined.joined shut

    on : (pair_round p).server ≡ record p.server { clock = p.server.clock + 10 }
    on = server_quiet p shut (omega (arith, lately))

    then_shut : is_open (pair_round p).server.phase ≡ false
    then_shut = ap (λ (l : LinkState). is_open l.phase) on ∙ shut

    choose : Again → JustOut (pair_round p).client ⊎ Joined (pair_round p).client.clock (pair_round p).client → OutAlone (suc fuel) p
    choose again (inl gone_out) = record {
      rounds = 1;
      soon = omega arith;
      client = gone_out;
      server = then_shut;
      closed = ap (λ (l : LinkState). l.closed_at) on;
      clock = ap (λ (l : LinkState). l.clock) on ∙ omega arith;
      some = omega arith;
    }
    choose again (inr still) =
        let r = again (seen_on names (fuel + n) p (subst (λ (k : ℕ). Seen names k p) (omega arith) seen)) still then_shut
        (omega (arith, over, ap (λ (l : LinkState). l.closed_at) on, ap (λ (l : LinkState). l.clock) on)) in
        let e = round_first r.rounds p in record {
          rounds = suc r.rounds;
          soon = omega (arith, r.soon);
          client = subst (λ (q : Pair). JustOut q.client) e r.client;
          server = subst (λ (q : Pair). is_open q.server.phase ≡ false) e r.server;
          closed = sym (ap (λ (q : Pair). q.server.closed_at) e) ∙ r.closed ∙ ap (λ (l : LinkState). l.closed_at) on;
          clock = sym (ap (λ (q : Pair). q.server.clock) e) ∙ omega (arith, r.clock, ap (λ (l : LinkState). l.clock) on);
          some = omega arith;
        }

-- ---- a client that goes out after its server opens at its first try

-- a server outside to which nothing comes, or that is quiet, stays as it is
server_round : (p : Pair) → p.to_server ≡ [] → (pair_round p).server ≡ (end_round (p.server.clock + 10) [] p.server).link
unfolding pair_round
server_round p none = ap (λ (ps : List Pdu). (end_round (p.server.clock + 10) ps p.server).link) none

-- the client is ready, and so is the server
quick : (names : Names) (p : Pair) → Facts names p → is_open p.client.phase ≡ false → p.client.closed_at + 6000 ≤ p.client.clock + 10 → p.server.closed_at + 6000 ≤ p.server.clock + 20 → Comes names 4 p
quick names p facts client_out over server_over = subst (Comes names 4) (sym (both_rest names p facts client_out over))
    (record { rounds = 4; soon = omega arith; healthy = new_is_healthy names 1 p.client.clock p.server.clock p.client.closed_at p.server.closed_at (left_of p.client) (left_of p.server) over server_over (omega arith) })

pub server_stays : (names : Names) (p : Pair) → Facts names p → is_open p.server.phase ≡ false → (p.to_server ≡ []) ⊎ (p.server.clock + 10 < p.server.closed_at + 6000) → (pair_round p).server ≡ record p.server { clock = p.server.clock + 10 }
server_stays names p facts shut (inr quiet) = server_quiet p shut quiet
server_stays names p facts shut (inl none) = server_round p none ∙ rests_then
  where
    resting : LinkState
    resting = resting_link names Role.Server p.server.clock p.server.closed_at (left_of p.server)

    same : p.server ≡ resting
    same = out_is names Role.Server p.server facts.server shut

    rests_then : (end_round (p.server.clock + 10) [] p.server).link ≡ record p.server { clock = p.server.clock + 10 }
    rests_then = ap (λ (l : LinkState). (end_round (p.server.clock + 10) [] l).link) same
        ∙ ap (λ (s : Step). s.link) (server_rests names p.server.clock p.server.closed_at (left_of p.server))
        ∙ sym (ap (λ (l : LinkState). record l { clock = p.server.clock + 10 }) same)

pub mute_quiet : (p : Pair) → is_open p.client.phase ≡ false → p.client.clock + 10 < p.client.closed_at + 6000 → (pair_round p).to_server ≡ []
unfolding pair_round
mute_quiet p shut quiet = ap (λ (s : Step). s.pdus) (quiet_stays (p.client.clock + 10) p.to_client p.client shut quiet)

-- the client isn't ready for so many rounds yet, and the server is ready after them
opens_quickly : (names : Names) (fuel n j : ℕ) (p : Pair) → Seen names (fuel + n) p → is_open p.client.phase ≡ false → is_open p.server.phase ≡ false → (p.to_server ≡ []) ⊎ (p.server.clock + 10 < p.server.closed_at + 6000)
    → p.client.clock + 10 * j < p.client.closed_at + 6000 → p.server.closed_at + 6000 ≤ p.server.clock + 20 + 10 * j → p.client.closed_at + 6000 ≤ p.client.clock + 10 + 10 * fuel → Comes names (fuel + 4) p
opens_quickly names zero n j p seen shut server_shut rests_or quiet before over = let r = quick names p (seen.facts 0) shut (omega (arith, over)) (omega (arith, over, quiet, before)) in record { rounds = r.rounds; soon = omega (arith, r.soon); healthy = r.healthy }
opens_quickly names (suc fuel) n j p seen shut server_shut rests_or quiet before over =
    choose (λ s a b d e f g. opens_quickly names fuel n (j - 1) (pair_round p) s a b d e f g) (nat_le (p.client.closed_at + 6000) (p.client.clock + 10)) refl
  where
    Again : Type 0
    Again = Seen names (fuel + n) (pair_round p) → is_open (pair_round p).client.phase ≡ false → is_open (pair_round p).server.phase ≡ false
        → ((pair_round p).to_server ≡ []) ⊎ ((pair_round p).server.clock + 10 < (pair_round p).server.closed_at + 6000)
        → (pair_round p).client.clock + 10 * (j - 1) < (pair_round p).client.closed_at + 6000
        → (pair_round p).server.closed_at + 6000 ≤ (pair_round p).server.clock + 20 + 10 * (j - 1)
        → (pair_round p).client.closed_at + 6000 ≤ (pair_round p).client.clock + 10 + 10 * fuel → Comes names (fuel + 4) (pair_round p)

    choose : Again → (b : Bool) → nat_le (p.client.closed_at + 6000) (p.client.clock + 10) ≡ b → Comes names (suc fuel + 4) p
    choose again true e = let g = leb-true _ _ e in let r = quick names p (seen.facts 0) shut g (omega (arith, g, quiet, before)) in record { rounds = r.rounds; soon = omega (arith, r.soon); healthy = r.healthy }
    choose again false e =
        let still = leb-false _ _ e in
        let on = client_quiet p shut still in
        let server_on = server_stays names p (seen.facts 0) server_shut rests_or in
        let c = ap (λ (l : LinkState). l.closed_at) on in let d = ap (λ (l : LinkState). l.clock) on in
        let g = ap (λ (l : LinkState). l.closed_at) server_on in let h = ap (λ (l : LinkState). l.clock) server_on in
        comes_later names 1 (fuel + 4) (suc fuel + 4) p (omega arith) (again (seen_on names (fuel + n) p (subst (λ (k : ℕ). Seen names k p) (omega arith) seen))
        (ap (λ (l : LinkState). is_open l.phase) on ∙ shut) (ap (λ (l : LinkState). is_open l.phase) server_on ∙ server_shut)
        (inl (mute_quiet p shut still)) (omega (arith, quiet, still, c, d)) (omega (arith, before, g, h)) (omega (arith, over, c, d)))

-- both are outside, and haven't been for long
both_left : (names : Names) (n : ℕ) (p : Pair) → 599 ≤ n → Seen names n p → is_open p.client.phase ≡ false → is_open p.server.phase ≡ false
    → p.client.clock < p.client.closed_at + 20 → p.server.clock < p.server.closed_at + 20 → Comes names 603 p
both_left names n p long seen shut server_shut lately server_lately = opens_quickly names 599 (n - 599) 598 p (subst (λ (k : ℕ). Seen names k p) (omega (arith, long)) seen) shut server_shut
    (inr (omega (arith, server_lately))) (omega (arith, lately)) (omega (arith, (seen.server_past 0).closed server_shut)) (omega (arith, (seen.client_past 0).closed shut))

-- ---- the sum

out_at_comes : (names : Names) (most n : ℕ) (p : Pair) → most + 599 ≤ n → Seen names n p → OutAt most p → Comes names (most + 1383) p
out_at_comes names most n p long seen o =
    comes_later names o.rounds 1383 (most + 1383) p (omega (arith, o.soon))
    (out_comes names (n - o.rounds) (pair_rounds o.rounds p) (omega (arith, long, o.soon)) (seen_later names o.rounds (n - o.rounds) p (subst (λ (k : ℕ). Seen names k p) (omega (arith, long, o.soon)) seen)) o.is_out)

-- one of the two is outside after one of these rounds, the client having joined until then
pub data Leaves (n : ℕ) (p : Pair) : Type 0 where
  client_leaves : OutAt n p → Leaves n p
  server_leaves : (k : ℕ) → k ≤ n → Joined (pair_rounds k p).client.clock (pair_rounds k p).client → is_open (pair_rounds k p).server.phase ≡ false → Leaves n p

-- or both stay
pub record Stays (n : ℕ) (p : Pair) : Type 0 where
  pub stay : Stay n p
  pub joined : Joined (pair_rounds n p).client.clock (pair_rounds n p).client

-- both stayed until these rounds, and are inside after the last
all_stay : (n : ℕ) (p : Pair) → Joined (pair_rounds n p).client.clock (pair_rounds n p).client → ((k : ℕ) → k < n → BothIn (pair_rounds k p)) → is_open (pair_rounds n p).server.phase ≡ true → Stays n p
all_stay n p j before e = record { stay = record { both = both }; joined = j }
  where
    both : (k : ℕ) → k ≤ n → BothIn (pair_rounds k p)
    both k most = pick (nat_le n k) refl
      where
        pick : (b : Bool) → nat_le n k ≡ b → BothIn (pair_rounds k p)
        pick false f = before k (leb-false _ _ f)
        pick true f = let g = leb-true _ _ f in let h : n ≡ k = omega (arith, g, most) in subst (λ (i : ℕ). BothIn (pair_rounds i p)) h (record { client = j.connected; server = e })

stays_on : (n : ℕ) (p : Pair) → Stays n p → Joined (pair_rounds (suc n) p).client.clock (pair_rounds (suc n) p).client → is_open (pair_rounds (suc n) p).server.phase ≡ true → Stays (suc n) p
stays_on n p s j e = all_stay (suc n) p j (λ k lt. s.stay.both k (omega (arith, lt))) e

-- the server after the last of these rounds
last_server : (n : ℕ) (p : Pair) → Joined (pair_rounds n p).client.clock (pair_rounds n p).client → ((k : ℕ) → k < n → BothIn (pair_rounds k p)) → (b : Bool) → is_open (pair_rounds n p).server.phase ≡ b → Leaves n p ⊎ Stays n p
last_server n p j before false e = inl (server_leaves n (omega arith) j e)
last_server n p j before true e = inr (all_stay n p j before e)

leaves_later : (n : ℕ) (p : Pair) → Leaves n p → Leaves (suc n) p
leaves_later n p (client_leaves o) = client_leaves (record { rounds = o.rounds; soon = omega (arith, o.soon); is_out = o.is_out })
leaves_later n p (server_leaves k most j e) = server_leaves k (omega (arith, most)) j e

search_on : (n : ℕ) (p : Pair) → Stays n p → Leaves (suc n) p ⊎ Stays (suc n) p
search_on n p s = client_on (joined_step (pair_rounds n p) s.joined)
  where
    client_on : JustOut (pair_rounds (suc n) p).client ⊎ Joined (pair_rounds (suc n) p).client.clock (pair_rounds (suc n) p).client → Leaves (suc n) p ⊎ Stays (suc n) p
    client_on (inl j) = inl (client_leaves (record { rounds = suc n; soon = omega arith; is_out = j.is_out }))
    client_on (inr j) = last_server (suc n) p j (λ k lt. s.stay.both k (omega (arith, lt))) (is_open (pair_rounds (suc n) p).server.phase) refl

search_then : (n : ℕ) (p : Pair) → Leaves n p ⊎ Stays n p → Leaves (suc n) p ⊎ Stays (suc n) p
search_then n p (inl l) = inl (leaves_later n p l)
search_then n p (inr s) = search_on n p s

pub search : (n : ℕ) (p : Pair) → Joined p.client.clock p.client → Leaves n p ⊎ Stays n p
search zero p j = last_server zero p j (λ k lt. absurd (omega (arith, lt))) (is_open p.server.phase) refl
search (suc n) p j = search_then n p (search n p j)

pub search_from : (fuel m n : ℕ) (p : Pair) → n ≡ m + fuel → Stays m p → Leaves n p ⊎ Stays n p
search_from zero m n p e s = inr (subst (λ (k : ℕ). Stays k p) (omega (arith, e)) s)
search_from (suc fuel) m n p e s = subst (λ (k : ℕ). Leaves k p ⊎ Stays k p) (omega (arith, e)) (search_then (m + fuel) p (search_from fuel m (m + fuel) p refl s))

-- the server is outside, and the client has joined its connection
alone_comes : (names : Names) (n : ℕ) (p : Pair) → 780 ≤ n → Seen names n p → Joined p.client.clock p.client → is_open p.server.phase ≡ false → Comes names 784 p
alone_comes names n p long seen joined shut =
    comes_later names o.rounds 603 784 p (omega (arith, o.soon))
    (opens_quickly names 599 (n - o.rounds - 599) 598 q (subst (λ (k : ℕ). Seen names k q) (omega (arith, long, o.soon)) seen_q) o.client.is_out o.server (inr (omega (arith, o.closed, o.clock, o.soon, lately)))
    (omega (arith, o.client.lately)) (omega (arith, o.closed, o.clock, closed)) (omega (arith, (seen.client_past o.rounds).closed o.client.is_out)))
  where
    closed : p.server.closed_at ≤ p.server.clock
    closed = (seen.server_past 0).closed shut

    lately : p.server.clock ≤ p.server.closed_at + 1804
    lately = (seen.facts 0).alone joined.connected joined.joined shut

    o : OutAlone 181 p
    o = alone_out names 181 (n - 181) p (subst (λ (k : ℕ). Seen names k p) (omega (arith, long)) seen) joined shut (omega (arith, closed))

    q : Pair
    q = pair_rounds o.rounds p

    seen_q : Seen names (n - o.rounds) q
    seen_q = seen_later names o.rounds (n - o.rounds) p (subst (λ (k : ℕ). Seen names k p) (omega (arith, long, o.soon)) seen)

-- Both have stayed for so many rounds, and the server knows no own stamp that is younger than this reading: so time is over for it,
-- and where the client leaves first, the server isn't quiet any more as the client asks.
module _ (names : Names) (n : ℕ) (p : Pair) (long : 1000 ≤ n) (seen : Seen names n p) (m reading : ℕ) (few : m ≤ 200) (s : Stays m p) (over : reading + 1780 ≤ p.server.clock + 10 * m)
    (early : (k : ℕ) → m ≤ k → k ≤ suc m → Stay k p → HealthyOrOld names k p reading) where
  abbrev before : Pair
  before = pair_rounds m p

  abbrev next : Pair
  next = pair_rounds (suc m) p

  abbrev last : Pair
  last = pair_rounds (suc (suc m)) p

  seen_at : (k : ℕ) → k ≤ 202 → Seen names (n - k) (pair_rounds k p)
  seen_at k most = seen_later names k (n - k) p (subst (λ (i : ℕ). Seen names i p) (omega (arith, most, long)) seen)

  -- the client has left, and its server leaves a round later at the latest
  client_first : (is_open next.server.phase ≡ true → next.server.own_stamp ≤ reading) → JustOut next.client → (b : Bool) → is_open next.server.phase ≡ b → Comes names (m + 1383) p
  client_first old left false e =
      let out = server_leaves_now before (server_joined names before (seen.facts m) (s.stay.both m (omega arith)).server) e in
      comes_later names (suc m) 603 (m + 1383) p (omega arith) (both_left names (n - suc m) next (omega (arith, long, few)) (seen_at (suc m) (omega (arith, few))) left.is_out e (omega (arith, left.lately)) (omega (arith, out.lately)))
  client_first old left true e =
      let out = server_late next (server_joined names next (seen.facts (suc m)) e) (omega (arith, old e, seen.server_clock (suc m), over)) in
      let on = client_quiet next left.is_out (omega (arith, left.lately)) in
      comes_later names (suc (suc m)) 603 (m + 1383) p (omega arith) (both_left names (n - suc (suc m)) last (omega (arith, long, few)) (seen_at (suc (suc m)) (omega (arith, few))) (ap (λ (l : LinkState). is_open l.phase) on ∙ left.is_out) out.is_out
      (omega (arith, left.lately, ap (λ (l : LinkState). l.clock) on, ap (λ (l : LinkState). l.closed_at) on)) (omega (arith, out.lately)))

  -- both stay for a round more, and then the server leaves
  server_first : JustOut last.server → JustOut last.client ⊎ Joined last.client.clock last.client → Comes names (m + 1383) p
  server_first out (inl left) = comes_later names (suc (suc m)) 603 (m + 1383) p (omega arith) (both_left names (n - suc (suc m)) last (omega (arith, long, few)) (seen_at (suc (suc m)) (omega (arith, few))) left.is_out out.is_out (omega (arith, left.lately)) (omega (arith, out.lately)))
  server_first out (inr j) = comes_later names (suc (suc m)) 784 (m + 1383) p (omega arith) (alone_comes names (n - suc (suc m)) last (omega (arith, long, few)) (seen_at (suc (suc m)) (omega (arith, few))) j out.is_out)

  both_last : Stays (suc m) p → HealthyOrOld names (suc m) p reading → Comes names (m + 1383) p
  both_last more (soon_healthy k le h) = record { rounds = k; soon = omega (arith, le); healthy = h }
  both_last more (ever_old d then_d) =
      server_first (server_late next (server_joined names next (seen.facts (suc m)) (more.stay.both (suc m) (omega arith)).server) (omega (arith, d, seen.server_clock (suc m), over))) (joined_step next more.joined)

  pub stays_comes : Comes names (m + 1383) p
  stays_comes = choose (early m (omega arith) (omega arith) s.stay)
    where
      both_stay : (b : Bool) → is_open next.server.phase ≡ b → Joined next.client.clock next.client → Comes names (m + 1383) p
      both_stay false e j = comes_later names (suc m) 784 (m + 1383) p (omega arith) (alone_comes names (n - suc m) next (omega (arith, long, few)) (seen_at (suc m) (omega (arith, few))) j e)
      both_stay true e j = let more = stays_on m p s j e in both_last more (early (suc m) (omega arith) (omega arith) more.stay)

      choose : HealthyOrOld names m p reading → Comes names (m + 1383) p
      choose (soon_healthy k le h) = record { rounds = k; soon = omega (arith, le); healthy = h }
      choose (ever_old d then_d) = follow (joined_step before s.joined)
        where
          follow : JustOut next.client ⊎ Joined next.client.clock next.client → Comes names (m + 1383) p
          follow (inl left) = client_first then_d left (is_open next.server.phase) refl
          follow (inr j) = both_stay (is_open next.server.phase) refl j

-- one of them leaves in these rounds
pub leaves_comes : (names : Names) (m n : ℕ) (p : Pair) → m ≤ 200 → 1000 ≤ n → Seen names n p → Leaves m p → Comes names (m + 1383) p
leaves_comes names m n p few long seen (client_leaves o) = out_at_comes names m n p (omega (arith, few, long)) seen o
leaves_comes names m n p few long seen (server_leaves k most j shut) =
    comes_later names k 784 (m + 1383) p (omega (arith, most))
    (alone_comes names (n - k) (pair_rounds k p) (omega (arith, few, long, most)) (seen_later names k (n - k) p (subst (λ (i : ℕ). Seen names i p) (omega (arith, few, long, most)) seen)) j shut)

pub seen_narrow : (names : Names) (k n : ℕ) (p : Pair) → k ≤ n → Seen names n p → Seen names k p
seen_narrow names k n p most seen = record { facts = seen.facts; client_clock = seen.client_clock; server_clock = seen.server_clock; client_past = seen.client_past; server_past = seen.server_past; room = λ i le. seen.room i (omega (arith, le, most)) }

-- a client that asks, and joins in this round: where its server is outside it left lately, for it has said something that comes
pub called_lately : (names : Names) (p : Pair) → Facts names p → Asks p.client.clock p.client → Joined (pair_round p).client.clock (pair_round p).client → is_open p.server.phase ≡ false → p.server.clock ≤ p.server.closed_at + 1804
unfolding pair_round
called_lately names p facts is j shut = choose p.to_client refl (facts.called (ap is_open is.starts) shut)
  where
    mute : Either (p.client.clock + 10) (end_round (p.client.clock + 10) p.to_client p.client).link (AsksOn (p.client.clock + 10) p.client (end_round (p.client.clock + 10) p.to_client p.client)) → ⊥
    mute (gone left) = cc (left.is_out, j.connected)
    mute (so a) = cc (asks_asking (p.client.clock + 10) (end_round (p.client.clock + 10) p.to_client p.client).link a.asks, j.joined)

    choose : (ps : List Pdu) → p.to_client ≡ ps → Each (IsLately p.server) ps → p.server.clock ≤ p.server.closed_at + 1804
    choose [] e each = absurd (mute (alone_round (p.client.clock + 10) p.to_client p.client is (subst (Each IsTalkPdu) (sym e) tt) refl))
    choose (q ∷ qs) e each = each.0

-- what it comes to where its server is inside, too
pub joining : (names : Names) (most n : ℕ) (p : Pair) → 785 ≤ most → 1000 ≤ n → Seen names n p → Asks p.client.clock p.client → Joined (pair_round p).client.clock (pair_round p).client → (Stays 1 p → is_open p.server.phase ≡ true → Comes names most p) → Comes names most p
joining names most n p many long seen is j goes_on = by_server (is_open p.server.phase) refl
  where
    left_alone : is_open (pair_round p).server.phase ≡ false → Comes names most p
    left_alone shut = comes_later names 1 784 most p (omega (arith, many)) (alone_comes names (n - 1) (pair_round p) (omega (arith, long)) (seen_on names (n - 1) p (subst (λ (k : ℕ). Seen names k p) (omega (arith, long)) seen)) j shut)

    first_in : is_open p.server.phase ≡ true → (k : ℕ) → k < 1 → BothIn (pair_rounds k p)
    first_in e zero lt = record { client = ap is_open is.starts; server = e }
    first_in e (suc k) lt = absurd (omega (arith, lt))

    both_in : (b : Bool) → is_open (pair_round p).server.phase ≡ b → is_open p.server.phase ≡ true → Comes names most p
    both_in false f e = left_alone f
    both_in true f e = goes_on (all_stay 1 p j (first_in e) f) e

    by_server : (b : Bool) → is_open p.server.phase ≡ b → Comes names most p
    by_server true e = both_in (is_open (pair_round p).server.phase) refl e
    by_server false e = left_alone (ap (λ (l : LinkState). is_open l.phase) (server_quiet p e (omega (arith, called_lately names p (seen.facts 0) is j e))) ∙ e)

-- an end inside has joined, or asks
pub in_it_of : (l : LinkState) → is_open l.phase ≡ true → Young l → InIt l.clock l
in_it_of l is_in young = choose (is_asking l) refl
  where
    choose : (b : Bool) → is_asking l ≡ b → InIt l.clock l
    choose false e = inl (joined_of l is_in e young)
    choose true e = inr (asking_is l.clock l refl e young.young young.own)

-- what a round makes of a client that asks: it goes out, has joined, or asks on and has said nothing
pub data Asking (p : Pair) : Type 0 where
  goes_out : is_open (pair_round p).client.phase ≡ false → Asking p
  joins : Joined (pair_round p).client.clock (pair_round p).client → Asking p
  asks_on : Asks (pair_round p).client.clock (pair_round p).client → (pair_round p).to_server ≡ [] → (pair_round p).client.own_stamp ≡ p.client.own_stamp → Asking p

pub asking_step : (p : Pair) → Asks p.client.clock p.client → Asking p
unfolding pair_round
asking_step p is = choose (in_round (p.client.clock + 10) p.to_client p.client (inr is) refl)
  where
    c : Step
    c = end_round (p.client.clock + 10) p.to_client p.client

    choose : Either (p.client.clock + 10) c.link (Joined (p.client.clock + 10) c.link ⊎ AsksOn (p.client.clock + 10) p.client c) → Asking p
    choose (gone left) = goes_out left.is_out
    choose (so (inl j)) = joins (subst (λ (n : ℕ). Joined n c.link) (sym j.clock) j)
    choose (so (inr a)) = asks_on (subst (λ (n : ℕ). Asks n c.link) (sym a.asks.clock) a.asks) a.silent a.own

-- ---- a client that asks in vain

-- it asks, has said nothing in the last round, and what is under way to it opens nothing; its server knows no own stamp that is younger
-- than this reading
pub record Stuck (reading : ℕ) (p : Pair) : Type 0 where
  pub asks : Asks p.client.clock p.client
  pub mute : p.to_server ≡ []
  pub inside : is_open p.server.phase ≡ true → p.server.own_stamp ≤ reading
  pub talk : Each IsTalkPdu p.to_client

-- a server to which nothing comes, and whose client asks, goes out or stands as before
server_waits : (names : Names) (p : Pair) → Facts names p → Asks p.client.clock p.client → p.to_server ≡ [] → is_open p.server.phase ≡ true → Out (p.server.clock + 10) (pair_round p).server ⊎ ((pair_round p).server ≡ at_reading (p.server.clock + 10) p.server)
unfolding pair_round
server_waits names p facts is mute e = choose (server_silent (p.server.clock + 10) p.server (server_joined names p facts e) (facts.calls (ap is_open is.starts) (asks_asking p.client.clock p.client is) e).down refl)
  where
    choose : Out (p.server.clock + 10) (end_round (p.server.clock + 10) [] p.server).link ⊎ (end_round (p.server.clock + 10) [] p.server ≡ silent (at_reading (p.server.clock + 10) p.server))
        → Out (p.server.clock + 10) (end_round (p.server.clock + 10) p.to_server p.server).link ⊎ ((end_round (p.server.clock + 10) p.to_server p.server).link ≡ at_reading (p.server.clock + 10) p.server)
    choose (inl left) = inl (subst (λ (ps : List Pdu). Out (p.server.clock + 10) (end_round (p.server.clock + 10) ps p.server).link) (sym mute) left)
    choose (inr same) = inr (ap (λ (ps : List Pdu). (end_round (p.server.clock + 10) ps p.server).link) mute ∙ ap (λ (s : Step). s.link) same)

pub inside_then : (names : Names) (reading : ℕ) (p : Pair) → Facts names p → Asks p.client.clock p.client → p.to_server ≡ [] → (is_open p.server.phase ≡ true → p.server.own_stamp ≤ reading) → is_open (pair_round p).server.phase ≡ true → (pair_round p).server.own_stamp ≤ reading
inside_then names reading p facts is mute inside then_in = by_server (is_open p.server.phase) refl
  where
    served : is_open p.server.phase ≡ true → Out (p.server.clock + 10) (pair_round p).server ⊎ ((pair_round p).server ≡ at_reading (p.server.clock + 10) p.server) → (pair_round p).server.own_stamp ≤ reading
    served e (inl left) = absurd (cc (left.is_out, then_in))
    served e (inr same) = omega (arith, ap (λ (l : LinkState). l.own_stamp) same, inside e)

    by_server : (b : Bool) → is_open p.server.phase ≡ b → (pair_round p).server.own_stamp ≤ reading
    by_server true e = served e (server_waits names p facts is mute e)
    by_server false e = absurd (cc (ap (λ (l : LinkState). is_open l.phase) (server_stays names p facts e (inl mute)) ∙ e, then_in))

pub no_opening : (names : Names) (p : Pair) → Facts names p → p.to_server ≡ [] → Each IsTalkPdu (pair_round p).to_client
unfolding pair_round
no_opening names p facts none = subst (λ (ps : List Pdu). Each IsTalkPdu (end_round (p.server.clock + 10) ps p.server).pdus) (sym none) (server_talks (p.server.clock + 10) p.server (to_role names p.server facts.server))

-- a client that asks, to which nothing comes that opens, goes out or asks on, and says nothing
asked_alone : (p : Pair) → Asks p.client.clock p.client → Each IsTalkPdu p.to_client
    → (is_open (pair_round p).client.phase ≡ false) ⊎ (Asks (pair_round p).client.clock (pair_round p).client × ((pair_round p).to_server ≡ []) × ((pair_round p).client.own_stamp ≡ p.client.own_stamp))
unfolding pair_round
asked_alone p is talk = choose (alone_round (p.client.clock + 10) p.to_client p.client is talk refl)
  where
    c : Step
    c = end_round (p.client.clock + 10) p.to_client p.client

    choose : Either (p.client.clock + 10) c.link (AsksOn (p.client.clock + 10) p.client c) → (is_open c.link.phase ≡ false) ⊎ (Asks c.link.clock c.link × (c.pdus ≡ []) × (c.link.own_stamp ≡ p.client.own_stamp))
    choose (gone left) = inl left.is_out
    choose (so a) = inr (subst (λ (n : ℕ). Asks n c.link) (sym a.asks.clock) a.asks, a.silent, a.own)

-- and where its time is over it goes out
pub client_late : (p : Pair) → is_open p.client.phase ≡ true → p.client.clock < p.client.own_stamp + 1800 → p.client.own_stamp + 1800 ≤ p.client.clock + 10 → JustOut (pair_round p).client × ((pair_round p).to_server ≡ [])
unfolding pair_round
client_late p is_in young over = choose (begins (p.client.clock + 10) p.client refl is_in young)
  where
    choose : Begins (p.client.clock + 10) p.client → JustOut (end_round (p.client.clock + 10) p.to_client p.client).link × ((end_round (p.client.clock + 10) p.to_client p.client).pdus ≡ [])
    choose (late left) = let e = late_round (p.client.clock + 10) p.to_client p.client left in
        (subst (λ (s : Step). JustOut s.link) (sym e) (record { is_out = left.is_out; lately = omega (arith, left.clock, left.lately) }), ap (λ (s : Step). s.pdus) e)
    choose (on e then_young) = absurd (omega (arith, then_young, over))

stuck_step : (names : Names) (reading : ℕ) (p : Pair) → Facts names p → Stuck reading p → (is_open (pair_round p).client.phase ≡ false) ⊎ (Stuck reading (pair_round p) × ((pair_round p).client.own_stamp ≡ p.client.own_stamp))
stuck_step names reading p facts stuck = choose (asked_alone p stuck.asks stuck.talk)
  where
    choose : (is_open (pair_round p).client.phase ≡ false) ⊎ (Asks (pair_round p).client.clock (pair_round p).client × ((pair_round p).to_server ≡ []) × ((pair_round p).client.own_stamp ≡ p.client.own_stamp))
        → (is_open (pair_round p).client.phase ≡ false) ⊎ (Stuck reading (pair_round p) × ((pair_round p).client.own_stamp ≡ p.client.own_stamp))
    choose (inl shut) = inl shut
    choose (inr (asks, mute, own)) = inr (record { asks = asks; mute = mute; inside = inside_then names reading p facts stuck.asks stuck.mute stuck.inside; talk = no_opening names p facts stuck.mute }, own)

-- Its time is over in the next round. Its server is outside then, or a round later: so it isn't quiet any more as the client asks again.
pub over_comes : (names : Names) (reading n : ℕ) (p : Pair) → 1000 ≤ n → Seen names n p → Stuck reading p → p.client.own_stamp + 1800 ≤ p.client.clock + 10 → reading + 1780 ≤ p.server.clock → Comes names 605 p
over_comes names reading n p long seen stuck over server_over = by_server (is_open (pair_round p).server.phase) refl
  where
    left : JustOut (pair_round p).client × ((pair_round p).to_server ≡ [])
    left = client_late p (ap is_open stuck.asks.starts) stuck.asks.young over

    seen1 : Seen names (n - 1) (pair_round p)
    seen1 = seen_on names (n - 1) p (subst (λ (k : ℕ). Seen names k p) (omega (arith, long)) seen)

    both : is_open (pair_round p).server.phase ≡ true → Comes names 605 p
    both e =
        let own = inside_then names reading p (seen.facts 0) stuck.asks stuck.mute stuck.inside e in
        let out = server_late (pair_round p) (server_joined names (pair_round p) (seen.facts 1) e) (omega (arith, own, server_over, seen.server_clock 1)) in
        let on = client_quiet (pair_round p) left.0.is_out (omega (arith, left.0.lately)) in
        comes_later names 2 603 605 p (omega arith) (both_left names (n - 2) (pair_rounds 2 p) (omega (arith, long)) (seen_later names 2 (n - 2) p (subst (λ (k : ℕ). Seen names k p) (omega (arith, long)) seen))
        (ap (λ (l : LinkState). is_open l.phase) on ∙ left.0.is_out) out.is_out (omega (arith, left.0.lately, ap (λ (l : LinkState). l.clock) on, ap (λ (l : LinkState). l.closed_at) on)) (omega (arith, out.lately)))

    by_server : (b : Bool) → is_open (pair_round p).server.phase ≡ b → Comes names 605 p
    by_server true e = both e
    by_server false e = comes_later names 1 603 605 p (omega arith) (opens_quickly names 599 (n - 600) 599 (pair_round p) (subst (λ (k : ℕ). Seen names k (pair_round p)) (omega (arith, long)) seen1) left.0.is_out e (inl left.1)
        (omega (arith, left.0.lately)) (omega (arith, (seen.server_past 1).closed e)) (omega (arith, (seen.client_past 1).closed left.0.is_out)))

pub stuck_comes : (names : Names) (reading fuel n : ℕ) (p : Pair) → 1000 ≤ n → Seen names (fuel + n) p → Stuck reading p → p.client.own_stamp + 1800 ≤ p.client.clock + 10 * fuel + 10 → reading + 1780 ≤ p.server.clock + 10 * fuel → Comes names (fuel + 1383) p
stuck_comes names reading zero n p long seen stuck over server_over = let r = over_comes names reading n p long (subst (λ (k : ℕ). Seen names k p) (omega arith) seen) stuck (omega (arith, over)) (omega (arith, server_over)) in
    record { rounds = r.rounds; soon = omega (arith, r.soon); healthy = r.healthy }
stuck_comes names reading (suc fuel) n p long seen stuck over server_over = choose (λ s k e f. stuck_comes names reading fuel n (pair_round p) long s k e f) (stuck_step names reading p (seen.facts 0) stuck)
  where
    seen1 : Seen names (fuel + n) (pair_round p)
    seen1 = seen_on names (fuel + n) p (subst (λ (k : ℕ). Seen names k p) (omega arith) seen)

    Again : Type 0
    Again = Seen names (fuel + n) (pair_round p) → Stuck reading (pair_round p) → (pair_round p).client.own_stamp + 1800 ≤ (pair_round p).client.clock + 10 * fuel + 10 → reading + 1780 ≤ (pair_round p).server.clock + 10 * fuel → Comes names (fuel + 1383) (pair_round p)

    choose : Again → (is_open (pair_round p).client.phase ≡ false) ⊎ (Stuck reading (pair_round p) × ((pair_round p).client.own_stamp ≡ p.client.own_stamp)) → Comes names (suc fuel + 1383) p
    choose again (inl shut) = comes_later names 1 1383 (suc fuel + 1383) p (omega arith) (out_comes names (fuel + n) (pair_round p) (omega (arith, long)) seen1 shut)
    choose again (inr (still, own)) = comes_later names 1 (fuel + 1383) (suc fuel + 1383) p (omega arith) (again seen1 still (omega (arith, over, own, seen.client_clock 1)) (omega (arith, server_over, seen.server_clock 1)))
