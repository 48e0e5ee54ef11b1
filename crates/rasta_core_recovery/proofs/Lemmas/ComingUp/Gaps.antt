-- Two ends that have come up: where one of them comes to the limit of PDUs, both are up again 6040 ms later at the latest, and for
-- more than 20 years.
use Rattle.rasta_core_recovery.proofs.Words.Basics.{◌≡◌, ℕ, zero, suc, ◌∙◌, ◌+◌, ◌*◌, ◌-◌, ◌≤◌, ◌<◌, ◌⊎◌, inl, inr, Bool, true, false, nat_le, List, [], ◌∷◌, ◌++◌, refl, sym, ap, subst, arith, leb-true, leb-false}
use Rattle.rasta_core_recovery.proofs.Words.Links.{stamp, LinkState, is_open, Step, Receipt, Role, Identity, Pdu, Names, identity_of}
use Rattle.rasta_core_recovery.proofs.Lemmas.Rounds.Links.{Pair, heard, worked, end_round, pair_round, pair_rounds, the_step}
use Rattle.rasta_core_recovery.proofs.Lemmas.ComingUp.Healthy.{beats, count, is_reading, IsSteady, Follows, Beside, Healthy}
use Rattle.rasta_core_recovery.proofs.Lemmas.Rounds.Calls.{at_reading, heard_lives, spoken}
use Rattle.rasta_core_recovery.proofs.Lemmas.Rounds.Fold.{Out, settled_in, Begins, late, on, begins, stays_out}
use Rattle.rasta_core_recovery.proofs.Lemmas.ComingUp.Health.{reading_open, Sides, Speaker, Heard, word, last_word, heeded, heard_by, word_is, word_heard, hears_then, healthy_round, fresh_by, fresh, heard_clock, heard_sent, heard_said, identity_stays, counts_by, IsSlow, client_slow, server_slow, hearing_leaves, speaker_stays, way_kept, steady_after, steady_young, beside_kept, client_counts, server_counts, beside_client_steady, beside_server_steady, count_most}
use Rattle.rasta_core_recovery.proofs.Lemmas.ComingUp.Opens.{step_is, comes_up}
use Rattle.rasta_core_recovery.proofs.Lemmas.ComingUp.Stays.{left_of, new_is_healthy}
use Rattle.rasta_core_recovery.proofs.Lemmas.Rounds.Facts.{Facts}
use Rattle.rasta_core_recovery.proofs.Lemmas.Rounds.Pasts.{Past}
use Rattle.rasta_core_recovery.proofs.Lemmas.ComingUp.Seen.{round_first, rounds_add}
use Rattle.rasta_core_recovery.proofs.Lemmas.ComingUp.Fates.{both_rest, client_quiet, server_quiet, server_stays, mute_quiet, the_pair}
use Rattle.rasta_core_recovery.proofs.Lemmas.ComingUp.Limit.{told, parting, full_round, closes_at_limit, parting_is, goes_out, out_by_one, out_by_two}

-- what is so after each round
pub record Lasts (names : Names) (p : Pair) : Type 0 where
  pub facts : (k : ℕ) → Facts names (pair_rounds k p)
  pub client_past : (k : ℕ) → Past (pair_rounds k p).client
  pub server_past : (k : ℕ) → Past (pair_rounds k p).server

pub lasts_on : (names : Names) (p : Pair) → Lasts names p → Lasts names (pair_round p)
lasts_on names p lasts = record {
  facts = λ k. subst (Facts names) (sym (round_first k p)) (lasts.facts (suc k));
  client_past = λ k. subst (λ (q : Pair). Past q.client) (sym (round_first k p)) (lasts.client_past (suc k));
  server_past = λ k. subst (λ (q : Pair). Past q.server) (sym (round_first k p)) (lasts.server_past (suc k));
}

-- ---- both come up in a new connection

-- what two ends have said in their connection is little
abbrev pub AreFresh : Pair → Type 0
AreFresh p = (300 * p.client.sent + p.client.clock ≤ p.client.sent_at + 610) × (300 * p.server.sent + p.server.clock ≤ p.server.sent_at + 610)

-- healthy after so many rounds at most, in a connection that is new
pub record Returns (names : Names) (most : ℕ) (p : Pair) : Type 0 where
  pub rounds : ℕ
  pub soon : rounds ≤ most
  pub healthy : Healthy names 1 (pair_rounds rounds p)
  pub fresh : AreFresh (pair_rounds rounds p)

returns_later : (names : Names) (m most all : ℕ) (p : Pair) → m + most ≤ all → Returns names most (pair_rounds m p) → Returns names all p
returns_later names m most all p le c = record {
  rounds = c.rounds + m;
  soon = omega (arith, le, c.soon);
  healthy = subst (Healthy names 1) (rounds_add c.rounds m p) c.healthy;
  fresh = subst AreFresh (rounds_add c.rounds m p) c.fresh;
}

-- both are ready
at_once : (names : Names) (p : Pair) → Facts names p → is_open p.client.phase ≡ false → p.client.closed_at + 6000 ≤ p.client.clock + 10 → p.server.closed_at + 6000 ≤ p.server.clock + 20 → Returns names 4 p
at_once names p facts client_out over server_over = subst (Returns names 4) (sym (both_rest names p facts client_out over)) (record {
  rounds = 4;
  soon = omega arith;
  healthy = new_is_healthy names 1 p.client.clock p.server.clock p.client.closed_at p.server.closed_at (left_of p.client) (left_of p.server) over server_over (omega arith);
  fresh = subst AreFresh (sym (comes_up names p.client.clock p.server.clock p.client.closed_at p.server.closed_at (left_of p.client) (left_of p.server) over server_over)) (omega arith, omega arith);
})

-- ---- both are outside: the client opens after so many rounds, and the server is quiet no longer

opens_in : (names : Names) (fuel : ℕ) (p : Pair) → Lasts names p → is_open p.client.phase ≡ false → is_open p.server.phase ≡ false → (p.to_server ≡ []) ⊎ (p.server.clock + 10 < p.server.closed_at + 6000)
    → p.client.clock + 10 * fuel < p.client.closed_at + 6000 → p.client.closed_at + 6000 ≤ p.client.clock + 10 + 10 * fuel → p.server.closed_at + 6000 ≤ p.server.clock + 20 + 10 * fuel → Returns names (fuel + 4) p
opens_in names zero p lasts shut server_shut rests early over server_over =
    returns_later names 0 4 _ p (omega arith) (at_once names p (lasts.facts 0) shut (omega (arith, over)) (omega (arith, server_over)))
opens_in names (suc fuel) p lasts shut server_shut rests early over server_over =
    let on = client_quiet p shut quiet in
    let server_on = server_stays names p (lasts.facts 0) server_shut rests in
    let c = ap (λ (l : LinkState). l.closed_at) on in let d = ap (λ (l : LinkState). l.clock) on in
    let g = ap (λ (l : LinkState). l.closed_at) server_on in let h = ap (λ (l : LinkState). l.clock) server_on in
    returns_later names 1 (fuel + 4) (suc fuel + 4) p (omega arith)
    (opens_in names fuel (pair_round p) (lasts_on names p lasts) (ap (λ (l : LinkState). is_open l.phase) on ∙ shut) (ap (λ (l : LinkState). is_open l.phase) server_on ∙ server_shut)
    (inl (mute_quiet p shut quiet)) (omega (arith, early, c, d)) (omega (arith, over, c, d)) (omega (arith, server_over, g, h)))
  where
    quiet : p.client.clock + 10 < p.client.closed_at + 6000
    quiet = omega (arith, early)

-- ---- two ends that are up

-- the client has room for a PDU; the server may have come to the limit
pub record UpNow (names : Names) (p : Pair) : Type 0 where
  pub of_client : Bool
  pub of_server : Bool
  pub beside : Beside names of_client of_server p
  pub steady_client : IsSteady of_server p.client p.server
  pub steady_server : IsSteady of_client p.server p.client
  pub client_room : p.client.sent < 2147483000
  pub server_most : p.server.sent ≤ 2147483000

-- what a heartbeat of its own leaves of an end
record SameBut (k l : LinkState) : Type 0 where
  own_stamp : k.own_stamp ≡ l.own_stamp
  reading : is_reading k.phase ≡ is_reading l.phase
  expected : k.expected ≡ l.expected
  confirmed : k.confirmed ≡ l.confirmed
  own_first : k.own_first ≡ l.own_first
  partner_first : k.partner_first ≡ l.partner_first
  clock : k.clock ≡ l.clock

spoken_same : (g : Bool) (l : LinkState) → SameBut (spoken g l) l
spoken_same false l = record { own_stamp = refl; reading = refl; expected = refl; confirmed = refl; own_first = refl; partner_first = refl; clock = refl }
spoken_same true l = record { own_stamp = refl; reading = refl; expected = refl; confirmed = refl; own_first = refl; partner_first = refl; clock = refl }

heard_firsts : (f : Bool) (now own : ℕ) (m l : LinkState) → ((heard_by f now own m l).own_first ≡ l.own_first) × ((heard_by f now own m l).partner_first ≡ l.partner_first)
heard_firsts false now own m l = (refl, refl)
heard_firsts true now own m l = (refl, refl)

module _ (names : Names) (p : Pair) (u : UpNow names p) where
  abbrev c : LinkState
  c = p.client

  abbrev s : LinkState
  s = p.server

  abbrev gc : Bool
  gc = nat_le 300 (c.clock + 10 - c.sent_at)

  abbrev gs : Bool
  gs = nat_le 300 (s.clock + 10 - s.sent_at)

  abbrev there : Follows u.of_server c s
  there = u.beside.hears_server

  abbrev back : Follows u.of_client s c
  back = u.beside.hears_client

  -- both, once they have heard what came
  abbrev kc : LinkState
  kc = heard_by u.of_server (c.clock + 10) back.reading s c

  abbrev ks : LinkState
  ks = heard_by u.of_client (s.clock + 10) there.reading c s

  client_young : c.clock + 10 < c.own_stamp + 1800
  client_young = steady_young u.of_server c s there u.steady_client

  server_young : s.clock + 10 < s.own_stamp + 1800
  server_young = steady_young u.of_client s c back u.steady_server

  client_role : c.identity.role ≡ Role.Client
  client_role = ap (λ (i : Identity). i.role) u.beside.client

  server_role : s.identity.role ≡ Role.Server
  server_role = ap (λ (i : Identity). i.role) u.beside.server

  client_sides : Sides names Role.Client c s
  client_sides = record { own = u.beside.client; other = u.beside.server }

  server_sides : Sides names Role.Server s c
  server_sides = record { own = u.beside.server; other = u.beside.client }

  client_lives : (is_reading kc.phase ≡ true) × (c.clock + 10 < kc.own_stamp + 1800)
  client_lives = fresh_by u.of_server u.of_client c s there back client_young

  -- the client says its last PDU, and closes
  abbrev said : LinkState
  said = spoken true kc

  client_closes : gc ≡ true → c.sent + 1 ≡ 2147483000 → end_round (c.clock + 10) p.to_client c ≡ the_step (told said) (beats true said ++ parting said)
  client_closes due last =
      ap (λ (ps : List Pdu). end_round (c.clock + 10) ps c) u.beside.to_client
      ∙ hears_then names Role.Client u.of_server u.of_client c s client_sides there back client_young u.client_room (omega (arith, u.server_most))
      ∙ ap (λ (who : Role). worked (c.clock + 10) who kc) client_role
      ∙ closes_at_limit (c.clock + 10) kc (heard_clock u.of_server (c.clock + 10) back.reading s c) client_lives.0 client_lives.1
      (ap (λ (n : ℕ). n + 1) (heard_sent u.of_server (c.clock + 10) back.reading s c) ∙ last)
      (ap (λ (n : ℕ). nat_le 300 (c.clock + 10 - n)) (heard_said u.of_server (c.clock + 10) back.reading s c) ∙ due)

  said_clock : said.clock ≡ c.clock + 10
  said_clock = heard_clock u.of_server (c.clock + 10) back.reading s c

  -- ---- the server hears of that in the next round

  module _ (due : gc ≡ true) (last : c.sent + 1 ≡ 2147483000) (server_room : s.sent < 2147483000) where
    abbrev s1 : LinkState
    s1 = spoken gs ks

    server_goes : end_round (s.clock + 10) p.to_server s ≡ the_step s1 (beats gs s1)
    server_goes =
        ap (λ (ps : List Pdu). end_round (s.clock + 10) ps s) u.beside.to_server
        ∙ healthy_round names Role.Server u.of_client u.of_server gs s c server_sides back there server_young server_room (omega (arith, u.client_room)) not_client refl
      where
        not_client : gs ≡ true → s.identity.role ≡ Role.Client → s.sent + 1 < 2147483000
        not_client e f = absurd (cc (f, server_role))

    abbrev q : Pair
    q = the_pair (told said) s1 (beats gs s1) (beats true said ++ parting said)

    to_q : pair_round p ≡ q
    to_q = step_is p _ _ (client_closes due last) server_goes

    ahead_of : Follows true s1 said
    ahead_of = way_kept u.of_client u.of_server gs true s c back there due

    behind_of : Follows gs said s1
    behind_of = way_kept u.of_server u.of_client true gs c s there back refl

    young : s1.clock + 10 < s1.own_stamp + 1800
    young = steady_young true s1 said ahead_of (steady_after u.of_client u.of_server gs true s c back there (λ e. u.steady_server) due)

    server_is : s1.identity ≡ identity_of Role.Server names
    server_is = identity_stays u.of_client gs (s.clock + 10) there.reading c s ∙ u.beside.server

    said_is : said.identity ≡ identity_of Role.Client names
    said_is = identity_stays u.of_server true (c.clock + 10) back.reading s c ∙ u.beside.client

    sides : Sides names Role.Server s1 said
    sides = record { own = server_is; other = said_is }

    said_sent : said.sent ≡ 2147483000
    said_sent = ap (λ (n : ℕ). n + 1) (heard_sent u.of_server (c.clock + 10) back.reading s c) ∙ last

    abbrev now : ℕ
    now = s1.clock + 10

    abbrev s2 : LinkState
    s2 = heeded now (s1.expected + 1) (stamp said.clock) behind_of.reading (said.expected - 1) s1

    words : s1.sent < 2147483000 → beats true said ++ parting said ≡ word s1 (said.expected - 1) behind_of.reading (stamp said.clock) ∷ last_word s2 (said.expected - 1) behind_of.reading (stamp said.clock) ∷ []
    words room = two (word_is names Role.Server gs s1 said sides ahead_of behind_of (omega (arith, room)))
        (parting_is names Role.Server gs said.clock s2 s1 said sides behind_of (omega (arith, room)) refl refl ahead_of.first ahead_of.expected)
      where
        two : {a b : Pdu} {ps qs : List Pdu} → a ≡ b → ps ≡ qs → a ∷ ps ≡ b ∷ qs
        two e f = cc

    takes : s1.sent < 2147483000 → (heard now (word s1 (said.expected - 1) behind_of.reading (stamp said.clock)) (at_reading now s1)).link ≡ s2
    takes room =
        ap (λ (t : Step). t.link) (heard_lives now (word s1 (said.expected - 1) behind_of.reading (stamp said.clock)) (at_reading now s1) (record { connected = reading_open s1.phase ahead_of.reads; young = young; room = room }))
        ∙ ap (λ (r : Receipt). r.link) (word_heard now s1 (said.expected - 1) behind_of.reading (stamp said.clock) young behind_of.since (omega (arith, behind_of.before)) (omega (arith, behind_of.confirmed))
        (omega (arith, behind_of.expected, behind_of.some)) (omega (arith, room)) (omega (arith, ahead_of.expected, said_sent)) s1.phase ahead_of.reads)

    server_out : Out now (end_round now (beats true said ++ parting said) s1).link
    server_out = choose (nat_le 2147483000 s1.sent) refl
      where
        is_in : is_open s1.phase ≡ true
        is_in = reading_open s1.phase ahead_of.reads

        near : s1.clock ≤ behind_of.reading + 309
        near = fresh gs s1 behind_of.reading behind_of.recent behind_of.calm

        choose : (b : Bool) → nat_le 2147483000 s1.sent ≡ b → Out now (end_round now (beats true said ++ parting said) s1).link
        choose true e = subst (λ (t : Step). Out now t.link) (sym (full_round now (beats true said ++ parting said) s1 (ap (λ (i : Identity). i.role) server_is) is_in young (leb-true _ _ e)))
            (record { clock = refl; is_out = refl; quiet = omega arith; lately = omega arith })
        choose false e = let room = leb-false _ _ e in
            subst (λ (ps : List Pdu). Out now (end_round now ps s1).link) (sym (words room))
            (out_by_two now _ _ s1 s2 (settled_in now s1 is_in young) (takes room)
            (goes_out now s2 (said.expected - 1) behind_of.reading (stamp said.clock) refl (omega (arith, near)) (omega arith) (omega (arith, behind_of.before)) (omega arith)
            (omega (arith, behind_of.expected, behind_of.some)) room (omega (arith, ahead_of.expected, said_sent))))

    left_in : is_open (pair_round q).server.phase ≡ false
    unfolding pair_round
    left_in = server_out.is_out

    server_now : (pair_round q).server.clock ≡ s1.clock + 10
    unfolding pair_round
    server_now = server_out.clock

    by_client : Lasts names (pair_round p) → Returns names 604 (pair_round p)
    by_client lasts = subst (Returns names 604) (sym to_q) (returns_later names 1 602 604 q (omega arith)
        (opens_in names 598 (pair_round q) after (ap (λ (l : LinkState). is_open l.phase) waits) left_in (inl (mute_quiet q refl quiet))
        (omega (arith, closed, clock)) (omega (arith, closed, clock)) (omega (arith, (after.server_past 0).closed left_in))))
      where
        quiet : said.clock + 10 < said.clock + 6000
        quiet = omega arith

        after : Lasts names (pair_round q)
        after = lasts_on names q (subst (Lasts names) to_q lasts)

        waits : (pair_round q).client ≡ record (told said) { clock = said.clock + 10 }
        waits = client_quiet q refl quiet

        closed : (pair_round q).client.closed_at ≡ said.clock
        closed = ap (λ (l : LinkState). l.closed_at) waits

        clock : (pair_round q).client.clock ≡ said.clock + 10
        clock = ap (λ (l : LinkState). l.clock) waits

  -- ---- the server is at the limit

  module _ (full : 2147483000 ≤ s.sent) where
    abbrev s0 : LinkState
    s0 = at_reading (s.clock + 10) s

    server_closes : end_round (s.clock + 10) p.to_server s ≡ the_step (told s0) (parting s0)
    server_closes = full_round (s.clock + 10) p.to_server s server_role (reading_open s.phase back.reads) server_young full

    -- and so is the client in this round
    by_both : gc ≡ true → c.sent + 1 ≡ 2147483000 → Lasts names (pair_round p) → Returns names 604 (pair_round p)
    by_both due last lasts = subst (Returns names 604) (sym to_q) (returns_later names 0 603 604 q (omega arith)
        (opens_in names 599 q (subst (Lasts names) to_q lasts) refl refl (inr (omega arith)) (omega arith) (omega arith) (omega arith)))
      where
        q : Pair
        q = the_pair (told said) (told s0) (parting s0) (beats true said ++ parting said)

        to_q : pair_round p ≡ q
        to_q = step_is p _ _ (client_closes due last) server_closes

    -- or it hears of that in the next round
    module _ (further : gc ≡ true → c.sent + 1 < 2147483000) where
      abbrev c1 : LinkState
      c1 = spoken gc kc

      same : SameBut c1 kc
      same = spoken_same gc kc

      client_goes : end_round (c.clock + 10) p.to_client c ≡ the_step c1 (beats gc c1)
      client_goes =
          ap (λ (ps : List Pdu). end_round (c.clock + 10) ps c) u.beside.to_client
          ∙ healthy_round names Role.Client u.of_server u.of_client gc c s client_sides there back client_young u.client_room (omega (arith, u.server_most)) (λ e f. further e) refl

      abbrev r : Pair
      r = the_pair c1 (told s0) (parting s0) (beats gc c1)

      to_r : pair_round p ≡ r
      to_r = step_is p _ _ client_goes server_closes

      firsts : (kc.own_first ≡ c.own_first) × (kc.partner_first ≡ c.partner_first)
      firsts = heard_firsts u.of_server (c.clock + 10) back.reading s c

      leaves : Heard u.of_server back.reading c s kc
      leaves = hearing_leaves u.of_server u.of_client c s there back

      speaks : Speaker back.reading s.expected c kc
      speaks = speaker_stays u.of_client u.of_server s c back there

      expects : c1.expected ≡ s.sent
      expects = same.expected ∙ leaves.expected ∙ there.expected

      counts : c1.sent ≡ c.sent + count gc
      counts = counts_by gc u.of_server (c.clock + 10) back.reading s c

      room : c1.sent < 2147483000
      room = by gc refl counts
        where
          by : (g : Bool) → gc ≡ g → c1.sent ≡ c.sent + count g → c1.sent < 2147483000
          by true e f = let m = further e in omega (arith, m, f)
          by false e f = let m = u.client_room in omega (arith, m, f)

      last_words : parting s0 ≡ last_word c1 (s.expected - 1) back.reading (stamp (s.clock + 10)) ∷ []
      last_words = parting_is names Role.Client u.of_client (s.clock + 10) c1 c s client_sides back (omega (arith, u.client_room)) (identity_stays u.of_server gc (c.clock + 10) back.reading s c)
          (same.own_first ∙ firsts.0) (same.partner_first ∙ firsts.1 ∙ there.first) expects

      client_now : c1.clock ≡ c.clock + 10
      client_now = same.clock ∙ heard_clock u.of_server (c.clock + 10) back.reading s c

      reads : is_reading c1.phase ≡ true
      reads = same.reading ∙ client_lives.0

      client_out : Out (c1.clock + 10) (end_round (c1.clock + 10) (parting s0) c1).link
      client_out = choose (begins (c1.clock + 10) c1 refl (reading_open c1.phase reads) (omega (arith, client_now, client_lives.1, same.own_stamp)))
        where
          choose : Begins (c1.clock + 10) c1 → Out (c1.clock + 10) (end_round (c1.clock + 10) (parting s0) c1).link
          choose (late left) = stays_out (c1.clock + 10) (parting s0) c1 left
          choose (on e young) = subst (λ (ps : List Pdu). Out (c1.clock + 10) (end_round (c1.clock + 10) ps c1).link) (sym last_words)
              (out_by_one (c1.clock + 10) _ [] c1 e (goes_out (c1.clock + 10) (at_reading (c1.clock + 10) c1) (s.expected - 1) back.reading (stamp (s.clock + 10)) reads young
              (omega (arith, same.own_stamp, speaks.since)) (omega (arith, client_now, back.before)) (omega (arith, same.confirmed, speaks.confirmed))
              (omega (arith, counts, back.expected, back.some)) room (omega (arith, expects, u.server_most))))

      client_left : is_open (pair_round r).client.phase ≡ false
      unfolding pair_round
      client_left = client_out.is_out

      lately : (pair_round r).client.clock < (pair_round r).client.closed_at + 10
      unfolding pair_round
      lately = let a = client_out.lately in let b = client_out.clock in omega (arith, a, b)

      by_server : Lasts names (pair_round p) → Returns names 604 (pair_round p)
      by_server lasts = subst (Returns names 604) (sym to_r) (returns_later names 1 603 604 r (omega arith)
          (opens_in names 599 (pair_round r) after client_left (ap (λ (l : LinkState). is_open l.phase) waits) (inr (omega (arith, closed, clock)))
          (omega (arith, lately)) (omega (arith, (after.client_past 0).closed client_left)) (omega (arith, closed, clock))))
        where
          after : Lasts names (pair_round r)
          after = lasts_on names r (subst (Lasts names) to_r lasts)

          waits : (pair_round r).server ≡ record (told s0) { clock = s.clock + 10 + 10 }
          waits = server_quiet r refl (omega arith)

          closed : (pair_round r).server.closed_at ≡ s.clock + 10
          closed = ap (λ (l : LinkState). l.closed_at) waits

          clock : (pair_round r).server.clock ≡ s.clock + 10 + 10
          clock = ap (λ (l : LinkState). l.clock) waits

  -- ---- and both stay up in all other rounds

  stays_up : s.sent < 2147483000 → (gc ≡ true → c.sent + 1 < 2147483000) → UpNow names (pair_round p)
  stays_up server_room further = record {
    of_client = gc;
    of_server = gs;
    beside = beside_kept names u.of_client u.of_server p u.beside client_young server_young u.client_room server_room further;
    steady_client = beside_client_steady names u.of_client u.of_server p u.beside client_young server_young u.client_room server_room further (λ e. u.steady_client);
    steady_server = beside_server_steady names u.of_client u.of_server p u.beside client_young server_young u.client_room server_room further (λ e. u.steady_server);
    client_room = room gc refl (client_counts names u.of_client u.of_server p u.beside client_young server_young u.client_room server_room further);
    server_most = omega (arith, server_counts names u.of_client u.of_server p u.beside client_young server_young u.client_room server_room further, count_most gs, server_room);
  }
    where
      room : (g : Bool) → gc ≡ g → (pair_round p).client.sent ≡ c.sent + count g → (pair_round p).client.sent < 2147483000
      room true e f = let m = further e in omega (arith, m, f)
      room false e f = let m = u.client_room in omega (arith, m, f)

-- ---- so both are up, or come up again

pub data Goes (names : Names) (p : Pair) : Type 0 where
  up_now : UpNow names p → Goes names p
  up_later : Returns names 604 p → Goes names p

pub up_of : (names : Names) (p : Pair) → Healthy names 1 p → UpNow names p
up_of names p h = record {
  of_client = h.of_client;
  of_server = h.of_server;
  beside = h.near.beside;
  steady_client = h.steady_client;
  steady_server = h.steady_server;
  client_room = let r = h.near.client_room in omega (arith, r);
  server_most = let r = h.near.server_room in omega (arith, r);
}

up_on : (names : Names) (p : Pair) → Lasts names p → UpNow names p → Goes names (pair_round p)
up_on names p lasts u = by_server_room (nat_le 2147483000 p.server.sent) refl
  where
    due : Bool
    due = nat_le 300 (p.client.clock + 10 - p.client.sent_at)

    lasts1 : Lasts names (pair_round p)
    lasts1 = lasts_on names p lasts

    at_full : (g last : Bool) → due ≡ g → nat_le 2147483000 (p.client.sent + 1) ≡ last → 2147483000 ≤ p.server.sent → Goes names (pair_round p)
    at_full true true e f full = let m = leb-true _ _ f in let r = u.client_room in up_later (by_both names p u full e (omega (arith, m, r)) lasts1)
    at_full true false e f full = up_later (by_server names p u full (λ g. leb-false _ _ f) lasts1)
    at_full false last e f full = up_later (by_server names p u full (λ g. absurd (cc (g, e))) lasts1)

    not_full : (g last : Bool) → due ≡ g → nat_le 2147483000 (p.client.sent + 1) ≡ last → p.server.sent < 2147483000 → Goes names (pair_round p)
    not_full true true e f room = let m = leb-true _ _ f in let r = u.client_room in up_later (by_client names p u e (omega (arith, m, r)) room lasts1)
    not_full true false e f room = up_now (stays_up names p u room (λ g. leb-false _ _ f))
    not_full false last e f room = up_now (stays_up names p u room (λ g. absurd (cc (g, e))))

    by_server_room : (b : Bool) → nat_le 2147483000 p.server.sent ≡ b → Goes names (pair_round p)
    by_server_room true e = at_full due (nat_le 2147483000 (p.client.sent + 1)) refl refl (leb-true _ _ e)
    by_server_room false e = not_full due (nat_le 2147483000 (p.client.sent + 1)) refl refl (leb-false _ _ e)

pub goes_on : (names : Names) (p : Pair) → Lasts names p → Goes names p → Goes names (pair_round p)
goes_on names p lasts (up_now u) = up_on names p lasts u
goes_on names p lasts (up_later c) = after c.rounds c.soon c.healthy c.fresh
  where
    after : (k : ℕ) → k ≤ 604 → Healthy names 1 (pair_rounds k p) → AreFresh (pair_rounds k p) → Goes names (pair_round p)
    after zero soon h fresh = up_on names p lasts (up_of names p h)
    after (suc k) soon h fresh = up_later (record { rounds = k; soon = omega (arith, soon); healthy = subst (Healthy names 1) (sym (round_first k p)) h; fresh = subst AreFresh (sym (round_first k p)) fresh })

pub lasts_later : (names : Names) (n : ℕ) (p : Pair) → Lasts names p → Lasts names (pair_rounds n p)
lasts_later names zero p lasts = lasts
lasts_later names (suc n) p lasts = lasts_on names (pair_rounds n p) (lasts_later names n p lasts)

pub goes_for : (names : Names) (n : ℕ) (p : Pair) → Lasts names p → Goes names p → Goes names (pair_rounds n p)
goes_for names zero p lasts h = h
goes_for names (suc n) p lasts h = goes_on names (pair_rounds n p) (lasts_later names n p lasts) (goes_for names n p lasts h)

-- ---- and stay up for long

-- two ends that came up so many rounds ago, in a connection that was new
record AreYoung (names : Names) (client server rounds : ℕ) (p : Pair) : Type 0 where
  up : UpNow names p
  of_client : IsSlow client rounds p.client
  of_server : IsSlow server rounds p.server

young_on : (names : Names) (client server rounds : ℕ) (p : Pair) → AreYoung names client server rounds p → rounds < 64000000000 → AreYoung names client server (suc rounds) (pair_round p)
young_on names client server rounds p young soon = record {
  up = stays_up names p u server_room further;
  of_client = client_slow names u.of_client u.of_server p u.beside (client_young names p u) (server_young names p u) u.client_room server_room further client rounds young.of_client;
  of_server = server_slow names u.of_client u.of_server p u.beside (client_young names p u) (server_young names p u) u.client_room server_room further server rounds young.of_server;
}
  where
    u : UpNow names p
    u = young.up

    server_room : p.server.sent < 2147483000
    server_room = omega (arith, young.of_server.clock, young.of_server.said, u.beside.hears_server.sent_before, soon)

    further : nat_le 300 (p.client.clock + 10 - p.client.sent_at) ≡ true → p.client.sent + 1 < 2147483000
    further due = omega (arith, young.of_client.clock, young.of_client.said, u.beside.hears_client.sent_before, soon)

young_for : (names : Names) (client server k : ℕ) (p : Pair) → AreYoung names client server 0 p → k < 64000000000 → AreYoung names client server k (pair_rounds k p)
young_for names client server zero p young soon = young
young_for names client server (suc k) p young soon = young_on names client server k (pair_rounds k p) (young_for names client server k p young (omega (arith, soon))) (omega (arith, soon))

pub calm_for : (names : Names) (most k : ℕ) (p : Pair) → Returns names most p → most ≤ k → k < 64000000000 → UpNow names (pair_rounds k p)
calm_for names most k p c least soon = subst (UpNow names) (rounds_add (k - c.rounds) c.rounds p ∙ ap (λ (n : ℕ). pair_rounds n p) (omega (arith, least, c.soon)))
    (young_for names q.client.clock q.server.clock (k - c.rounds) q first (omega (arith, soon))).up
  where
    q : Pair
    q = pair_rounds c.rounds p

    first : AreYoung names q.client.clock q.server.clock 0 q
    first = record {
      up = up_of names q c.healthy;
      of_client = record { clock = omega arith; said = c.fresh.0 };
      of_server = record { clock = omega arith; said = c.fresh.1 };
    }
