-- Two ends, whatever has happened before: as soon as it can be they become healthy.
use Rattle.rasta_core_recovery.proofs.Words.Basics.{◌≡◌, ℕ, ◌⊎◌, inl, inr, ◌∙◌, ◌+◌, ◌-◌, ◌^◌, ◌≤◌, ◌<◌, Bool, true, false, List, [], ◌∷◌, refl, sym, ap, subst, arith}
use Rattle.rasta_core_recovery.proofs.Words.Links.{wire, LinkState, is_asking, is_open, Step, Role, Each, Names, identity_of, Pdu}
use Rattle.rasta_core_recovery.proofs.Lemmas.Asking.Asks.{Asks, InIt, asks_asking}
use Rattle.rasta_core_recovery.proofs.Lemmas.ComingUp.Converse.{Talk}
use Rattle.rasta_core_recovery.proofs.Lemmas.Rounds.Course.{Joined}
use Rattle.rasta_core_recovery.proofs.Lemmas.ComingUp.Early.{HealthyOrOld, early_from}
use Rattle.rasta_core_recovery.proofs.Lemmas.Rounds.Facts.{Calls, IsFirst}
use Rattle.rasta_core_recovery.proofs.Lemmas.ComingUp.Fates.{Asking as AskingStep, Comes, Leaves, Stays, asking_step, asks_on, comes_later, goes_out, in_it_of, joining, joins, leaves_comes, out_comes, search, search_from, seen_narrow, server_joined, stays_comes, same_pair}
use Rattle.rasta_core_recovery.proofs.Lemmas.FirstRound.FirstGrants.{Asking, ServerFirst, grants, rests, server_first}
use Rattle.rasta_core_recovery.proofs.Lemmas.FirstRound.FirstHears.{Below}
use Rattle.rasta_core_recovery.proofs.Lemmas.FirstRound.FirstRises.{Climbs}
use Rattle.rasta_core_recovery.proofs.Lemmas.FirstRound.FirstTalk.{talk_at_once, talk_on_joining}
use Rattle.rasta_core_recovery.proofs.Lemmas.FirstRound.FirstWaits.{alone_comes_on, granted_comes, just_granted}
use Rattle.rasta_core_recovery.proofs.Lemmas.Rounds.Links.{Pair, end_round, pair_round, pair_rounds, the_step}
use Rattle.rasta_core_recovery.proofs.Lemmas.ComingUp.Opens.{asking_link, granted_link, request, response}
use Rattle.rasta_core_recovery.proofs.Lemmas.ComingUp.Seen.{BothIn, Seen, Stay, rows_after, rows_joining, seen_on, server_behind, server_says}
use Rattle.rasta_core_recovery.proofs.Lemmas.ComingUp.Stays.{left_of, out_is}
use Rattle.rasta_core_recovery.proofs.Lemmas.Windows.WindowNumbers.{wire_once}
use Rattle.rasta_core_recovery.proofs.Lemmas.Rounds.Words.{IsNumbered, Row, row_most, voice_of}

-- a client that asks stands as it did when it asked
abbrev pub AskingOn : Names → Pair → Type 0
AskingOn names p = (k : ℕ) → is_asking (pair_rounds k p).client ≡ true → Asking names (pair_rounds k p)

-- ---- a client that asks after the first round

-- no PDU of a later number is the first of its sender
pub none_first : (m : LinkState) (n end : ℕ) (ps : List Pdu) → 1 ≤ n → end < 2 ^ 31 → Row (IsNumbered (voice_of m)) n ps end → Each (IsFirst m) ps → ps ≡ []
none_first m n end [] some fits row first = refl
none_first m n end (p ∷ ps) some fits row first =
    let most = row_most (IsNumbered (voice_of m)) (n + 1) end ps row.1
    in let zero_is = wire_once m.own_first n 0 (omega (arith, most, fits)) (omega arith) (sym row.0.number ∙ first.0.number)
    in absurd (omega (arith, zero_is, some))

-- a server that was inside has said nothing in the first round
pub none_says : (p : Pair) → Joined p.server.clock p.server → 1 ≤ p.server.sent → (pair_round p).server.sent < 2 ^ 31 → BothIn (pair_round p)
    → Each (IsFirst (pair_round p).server) (pair_round p).to_client → (pair_round p).to_client ≡ []
unfolding pair_round
none_says p is some fits then_in first =
    none_first (end_round (p.server.clock + 10) p.to_server p.server).link p.server.sent (end_round (p.server.clock + 10) p.to_server p.server).link.sent
    (end_round (p.server.clock + 10) p.to_server p.server).pdus some fits
    (server_says p is then_in).row first

-- what a server that was outside makes of the request
pub first_of : (names : Names) (p : Pair) → p.server.identity ≡ identity_of Role.Server names → Asking names p → is_open p.server.phase ≡ false
    → ServerFirst names (p.server.clock + 10) p.server.closed_at (left_of p.server) p.client.own_first p.client.own_stamp (record { link = (pair_round p).server; pdus = (pair_round p).to_client })
unfolding pair_round
first_of names p is_server asking shut =
    subst (λ (l : LinkState). ServerFirst names (p.server.clock + 10) p.server.closed_at (left_of p.server) p.client.own_first p.client.own_stamp
    (end_round (p.server.clock + 10) p.to_server l))
    (sym (out_is names Role.Server p.server is_server shut)) (server_first names p.server.clock p.server.closed_at p.client.own_first p.client.own_stamp (left_of p.server) p.to_server asking.due)

pub asked_as : {a b c d : ℕ} (names : Names) (clock closed : ℕ) → a ≡ b → c ≡ d → asking_link names clock closed a c ≡ asking_link names clock closed b d
asked_as names clock closed e f = cc

module _ (names : Names) (n : ℕ) (p : Pair) (long : 1561 ≤ n) (seen : Seen names n p) (below : BothIn p → Below p) (climbing : BothIn (pair_round p) → Climbs (pair_round p))
    (askings : AskingOn names p) where
  long_enough : 1000 ≤ n
  long_enough = omega (arith, long)

  seen1 : Seen names (n - 1) (pair_round p)
  seen1 = seen_on names (n - 1) p (subst (λ (k : ℕ). Seen names k p) (omega (arith, long)) seen)

  -- ---- it shares a connection

  talked_early : (m : ℕ) → 103 ≤ m → m ≤ 1000 → Stay m p → Talk names (pair_round p).client.clock p.server.clock false false (pair_round p) → HealthyOrOld names m p p.server.clock
  talked_early m least most stay talk =
      early_from names 1 m p (omega arith) least most (seen_narrow names m n p (omega (arith, most, long)) seen) stay
      (pair_rounds 1 p).client.clock p.server.clock (omega arith) (omega (arith, seen.server_clock 1)) false false talk

  come_by : (BothIn p → BothIn (pair_round p) → Talk names (pair_round p).client.clock p.server.clock false false (pair_round p)) → Leaves 178 p ⊎ Stays 178 p → Comes names 1561 p
  come_by talk (inl l) = leaves_comes names 178 n p (omega arith) long_enough seen l
  come_by talk (inr s) = stays_comes names n p long_enough seen 178 p.server.clock (omega arith) s (omega arith)
      (λ k least most stay. talked_early k (omega (arith, least)) (omega (arith, most)) stay (talk (stay.both 0 (omega arith)) (stay.both 1 (omega (arith, least)))))

  joined_talks : Joined p.client.clock p.client → BothIn p → BothIn (pair_round p) → Talk names (pair_round p).client.clock p.server.clock false false (pair_round p)
  joined_talks j now_in then_in = talk_at_once names p (seen.facts 0) (seen.facts 1) (seen.client_past 1) (seen.server_past 1) (below now_in)
      (climbing then_in) now_in j.joined then_in
      (rows_after p j (server_joined names p (seen.facts 0) now_in.server) then_in) (omega (arith, seen.client_clock 1)) (omega (arith, seen.server_clock 1))

  joining_talks : Asks p.client.clock p.client → is_asking (pair_round p).client ≡ false → BothIn p → BothIn (pair_round p)
      → Talk names (pair_round p).client.clock p.server.clock false false (pair_round p)
  joining_talks is joined now_in then_in =
      talk_on_joining names p (seen.facts 0) (seen.facts 1) (seen.client_past 1) (seen.server_past 1) (below now_in) (climbing then_in) is now_in.server joined then_in
      (rows_joining p is (server_joined names p (seen.facts 0) now_in.server) joined then_in) (omega (arith, seen.client_clock 1)) (omega (arith, seen.server_clock 1))

  -- ---- it asks on

  module _ (is : Asks p.client.clock p.client) (a : Asks (pair_round p).client.clock (pair_round p).client) (mute : (pair_round p).to_server ≡ [])
      (own : (pair_round p).client.own_stamp ≡ p.client.own_stamp) where
    asking_now : Asking names p
    asking_now = askings 0 (asks_asking p.client.clock p.client is)

    asking_then : Asking names (pair_round p)
    asking_then = askings 1 (asks_asking (pair_round p).client.clock (pair_round p).client a)

    calls_then : is_open (pair_round p).server.phase ≡ true → Calls (pair_round p).client (pair_round p).server (pair_round p).to_client
    calls_then e = (seen.facts 1).calls (ap is_open a.starts) (asks_asking (pair_round p).client.clock (pair_round p).client a) e

    waits_by : (is_open (pair_round p).server.phase ≡ true → ((pair_round p).server.own_stamp ≤ p.server.clock) × ((pair_round p).to_client ≡ [])) → Comes names 1561 p
    waits_by inside = comes_later names 1 1560 1561 p (omega arith)
        (alone_comes_on names (n - 1) (pair_round p) (omega (arith, long)) seen1 a mute p.server.clock (omega (arith, seen.server_clock 1)) (omega (arith, own, is.own, seen.client_clock 1)) inside)

    -- its server was inside
    was_inside : is_open p.server.phase ≡ true → Comes names 1561 p
    was_inside e = waits_by (λ f. (
      server_behind p server_is ((seen.facts 0).returned e) f,
      none_says p server_is calls.said (let r = (seen.room 1 (omega (arith, long))).server f in omega (arith, r))
          (record { client = ap is_open a.starts; server = f }) (calls_then f).first,
    ))
      where
        server_is : Joined p.server.clock p.server
        server_is = server_joined names p (seen.facts 0) e

        calls : Calls p.client p.server p.to_client
        calls = (seen.facts 0).calls (ap is_open is.starts) (asks_asking p.client.clock p.client is) e

    abbrev taken_at : ℕ
    taken_at = p.server.clock + 10

    abbrev sf : ℕ
    sf = wire p.server.own_first p.server.sent

    sf_fits : sf < 2 ^ 32
    sf_fits = omega arith

    -- it has just taken the request
    has_taken : the_step (pair_round p).server (pair_round p).to_client ≡ the_step
        (granted_link names taken_at p.server.closed_at sf (request names p.client.own_first p.client.own_stamp) taken_at)
        (response names sf (request names p.client.own_first p.client.own_stamp) taken_at ∷ [])
        → Comes names 1561 p
    has_taken same = comes_later names 1 1416 1561 p (omega arith) (subst (Comes names 1416) (sym whole)
        (granted_comes names (pair_round p).client.closed_at p.server.closed_at p.client.own_first sf p.client.own_stamp taken_at asking_now.fits sf_fits (pair_round p).client.clock (n - 1)
        (omega (arith, long)) (omega (arith, own, a.own)) (omega (arith, own, a.young))
        (subst (Seen names (n - 1)) whole seen1)))
      where
        server_then : (pair_round p).server ≡ granted_link names taken_at p.server.closed_at sf (request names p.client.own_first p.client.own_stamp) taken_at
        server_then = ap (λ (s : Step). s.link) same

        first_same : (pair_round p).client.own_first ≡ p.client.own_first
        first_same = sym (calls_then (ap (λ (l : LinkState). is_open l.phase) server_then)).partner ∙ ap (λ (l : LinkState). l.partner_first) server_then
            ∙ (let f = asking_now.fits in omega (arith, f))

        whole : pair_round p ≡ just_granted names (pair_round p).client.closed_at p.server.closed_at p.client.own_first sf p.client.own_stamp taken_at asking_now.fits sf_fits
            (pair_round p).client.clock
        whole = same_pair (asking_then.link ∙ asked_as names (pair_round p).client.clock (pair_round p).client.closed_at first_same own) server_then (ap (λ (s : Step). s.pdus) same) mute

    -- its server was outside
    was_outside : is_open p.server.phase ≡ false → Comes names 1561 p
    was_outside shut = by (first_of names p (seen.facts 0).server asking_now shut)
      where
        by : ServerFirst names (p.server.clock + 10) p.server.closed_at (left_of p.server) p.client.own_first p.client.own_stamp
            (record { link = (pair_round p).server; pdus = (pair_round p).to_client }) → Comes names 1561 p
        by (rests same) = waits_by (λ f. absurd (cc (f, ap (λ (s : Step). is_open s.link.phase) same)))
        by (grants same) = has_taken same

    pub waits_comes : Comes names 1561 p
    waits_comes = by_server (is_open p.server.phase) refl
      where
        by_server : (b : Bool) → is_open p.server.phase ≡ b → Comes names 1561 p
        by_server true e = was_inside e
        by_server false e = was_outside e

  -- ---- the sum

  pub first_comes : Comes names 1561 p
  first_comes = by_phase (is_open p.client.phase) refl
    where
      asked : Asks p.client.clock p.client → AskingStep p → Comes names 1561 p
      asked is (goes_out shut) = comes_later names 1 1383 1561 p (omega arith) (out_comes names (n - 1) (pair_round p) (omega (arith, long)) seen1 shut)
      asked is (joins j) = joining names 1561 n p (omega arith) long_enough seen is j (λ s e. come_by (joining_talks is j.joined) (search_from 177 1 178 p (omega arith) s))
      asked is (asks_on a mute own) = waits_comes is a mute own

      inside : InIt p.client.clock p.client → Comes names 1561 p
      inside (inl j) = come_by (joined_talks j) (search 178 p j)
      inside (inr a) = asked a (asking_step p a)

      by_phase : (b : Bool) → is_open p.client.phase ≡ b → Comes names 1561 p
      by_phase false e = let r = out_comes names n p (omega (arith, long)) seen e in record { rounds = r.rounds; soon = omega (arith, r.soon); healthy = r.healthy }
      by_phase true e = inside (in_it_of p.client e ((seen.facts 0).client_young e))
