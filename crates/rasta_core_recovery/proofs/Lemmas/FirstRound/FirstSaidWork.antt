-- The first round at work, in which what the client says may come in it, too: both ends are up after so many rounds.
use Rattle.rasta_core_recovery.proofs.Words.Basics.{◌≡◌, ℕ, zero, suc, ◌⊎◌, inl, inr, ◌∙◌, ◌+◌, ◌-◌, ◌≤◌, Bool, true, false, List, [], ◌∷◌, ◌++◌, refl, sym, ap, subst, arith}
use Rattle.rasta_core_recovery.proofs.Words.Links.{LinkState, is_open, Step, Role, Pdu, Each, Sent, Event, IsAmong, Passes, AreNames, Names, later}
use Rattle.rasta_core_recovery.proofs.Words.Recovery.{AlsoOfClient, IsFirstAtWork, WereSent, Flow, HaveRoom, LeavesOpen, work_round, LawsBelow}
use Rattle.rasta_core_recovery.proofs.Lemmas.Rounds.Acts.{WorkRound, behind, client_step}
use Rattle.rasta_core_recovery.proofs.Lemmas.FirstRound.AnyFirst.{waiting_for}
use Rattle.rasta_core_recovery.proofs.Lemmas.ComingUp.Answered.{HasEntered}
use Rattle.rasta_core_recovery.proofs.Lemmas.Asking.Asks.{Asks, AsksOn, InIt, asks_asking}
use Rattle.rasta_core_recovery.proofs.Lemmas.Rounds.Bridge.{Lists}
use Rattle.rasta_core_recovery.proofs.Lemmas.ComingUp.Converse.{Talk}
use Rattle.rasta_core_recovery.proofs.Lemmas.Rounds.Course.{Joined}
use Rattle.rasta_core_recovery.proofs.Lemmas.Rounds.Facts.{Calls, Facts, IsLately, Shares}
use Rattle.rasta_core_recovery.proofs.Lemmas.ComingUp.Fates.{in_it_of, server_joined}
use Rattle.rasta_core_recovery.proofs.Lemmas.FirstRound.FirstComes.{before_mute, below_now as comes_below, c as comes_to_client, facts_now as comes_facts, mirror as comes_mirror, p as comes_pair, read as comes_read, to_server_each as comes_to_server}
use Rattle.rasta_core_recovery.proofs.Lemmas.FirstRound.FirstDue.{of_each}
use Rattle.rasta_core_recovery.proofs.Lemmas.FirstRound.FirstHears.{Below, IsBelow}
use Rattle.rasta_core_recovery.proofs.Lemmas.FirstRound.FirstRises.{Climbs, KeepsOf, Lately, lately_of}
use Rattle.rasta_core_recovery.proofs.Lemmas.FirstRound.FirstSaid.{chain_returns}
use Rattle.rasta_core_recovery.proofs.Lemmas.FirstRound.FirstTalk.{IsBehindIt, behind_of, kept_behind, talk_without}
use Rattle.rasta_core_recovery.proofs.Lemmas.FirstRound.FirstWork.{old_at_work}
use Rattle.rasta_core_recovery.proofs.Lemmas.Rounds.Links.{Pair}
use Rattle.rasta_core_recovery.proofs.Lemmas.Rounds.Lists.{each_drop}
use Rattle.rasta_core_recovery.proofs.Lemmas.Rounds.Mirror.{Mirrors, arriving}
use Rattle.rasta_core_recovery.proofs.Lemmas.Rounds.Passed.{without}
use Rattle.rasta_core_recovery.proofs.Lemmas.Rounds.Holds.{Holds, holds_run}
use Rattle.rasta_core_recovery.proofs.Lemmas.ComingUp.Returned.{IsReturned}
use Rattle.rasta_core_recovery.proofs.Lemmas.ComingUp.Seen.{BothIn, Rows}
use Rattle.rasta_core_recovery.proofs.Lemmas.Rounds.Turn.{Either, gone, so}
use Rattle.rasta_core_recovery.proofs.Lemmas.AtWork.WorkAnswered.{entered_at_work}
use Rattle.rasta_core_recovery.proofs.Lemmas.AtWork.WorkBridge.{Follows, follows_all}
use Rattle.rasta_core_recovery.proofs.Lemmas.AtWork.WorkEarly.{HaleOrOld, early_hale}
use Rattle.rasta_core_recovery.proofs.Lemmas.AtWork.WorkFates.{Soon, client_clock_on, left_alone, out_comes, quiet_step, server_clock_on}
use Rattle.rasta_core_recovery.proofs.Lemmas.AtWork.WorkJoins.{rows_joining_at_work}
use Rattle.rasta_core_recovery.proofs.Lemmas.AtWork.WorkPassed.{SameRound, same_at_work}
use Rattle.rasta_core_recovery.proofs.Lemmas.AtWork.WorkRecovers.{climbs_of, sound_of}
use Rattle.rasta_core_recovery.proofs.Lemmas.AtWork.WorkRun.{Rounds, Run, Sound, reached, rounds_of}
use Rattle.rasta_core_recovery.proofs.Lemmas.AtWork.WorkStays.{Stays, search, stays_comes, stays_first}
use Rattle.rasta_core_recovery.proofs.Lemmas.AtWork.WorkSum.{asked_round, not_joined}
use Rattle.rasta_core_recovery.proofs.Lemmas.AtWork.WorkTalk.{client_joined, own_behind_at_work, rows_at_work}
use Rattle.rasta_core_recovery.proofs.Lemmas.Rounds.Words.{IsNumbered, row_most, voice_of}

-- ---- two ends after a round, of which the server has passed something that is under way

-- they talk since a reading, but for what the server has passed
module _ (names : Names) (n k reading : ℕ) (q z : Pair) (long : 1558 ≤ n) (sound : Sound names q) (j : Joined q.client.clock q.client) (in_it : BothIn q)
    (clock : q.server.clock ≡ reading + 10) (talk : Talk names q.client.clock reading false false (without 0 k q)) where
  abbrev less : Pair
  less = without 0 k q

  less_sound : Sound names less
  less_sound = record {
    facts = record {
      client = sound.facts.client;
      server = sound.facts.server;
      client_young = sound.facts.client_young;
      server_young = sound.facts.server_young;
      shares = sound.facts.shares;
      alone = sound.facts.alone;
      called = sound.facts.called;
      calls = sound.facts.calls;
      returned = λ e. each_drop (IsReturned q.server.clock) k q.to_server (sound.facts.returned e);
      waited = λ shut long_ago. absurd (cc (shut, j.connected));
    };
    client_past = sound.client_past;
    server_past = sound.server_past;
    below = λ both. let b = sound.below in_it in record {
      client_kept = b.client_kept;
      server_kept = b.server_kept;
      client_keeps = b.client_keeps;
      server_keeps = b.server_keeps;
      to_client = b.to_client;
      to_server = each_drop (IsBelow q.client.own_first q.client.sent q.client.clock) k q.to_server b.to_server;
    };
    asking = λ asks. absurd (cc (asks, j.joined));
  }

  -- the next round is the same
  module _ (r2 : WorkRound q) (then_sound : Sound names (behind q r2)) (run : Run names n (behind q r2) z) (s : SameRound q (without 0 k q) r2)
      (then_j : Joined (behind q r2).client.clock (behind q r2).client) (e : is_open (behind q r2).server.phase ≡ true) where
    less_run : Run names (suc n) less z
    less_run = (s.round, subst (Sound names) s.same then_sound, subst (λ (x : Pair). Run names n x z) s.same run)

    abbrev at : ℕ → Pair
    at i = reached i names (suc n) less z less_run

    rounds : Rounds names (suc n) z at
    rounds = rounds_of names (suc n) less z less_sound less_run

    first : Stays names (suc n) z at rounds 1
    unfolding less_run
    first = stays_first names (suc n) z at rounds (record { client = in_it.client; server = in_it.server }) (subst (λ (x : Pair). Joined x.client.clock x.client) s.same then_j)
        (ap (λ (x : Pair). is_open x.server.phase) (sym s.same) ∙ e)

    all_joined : (i m : ℕ) → Stays names (suc n) z at rounds i → m ≤ i → Joined (at m).client.clock (at m).client
    all_joined i zero t le = j
    all_joined i (suc m) t le = t.joined (suc m) (omega arith) le

    early : (i : ℕ) → 177 ≤ i → i ≤ 178 → Stays names (suc n) z at rounds i → HaleOrOld names z (at i) (at (suc i)) reading
    early i least most t = early_hale names (suc n) z at rounds i (omega (arith, most, long)) (omega (arith, most))
        (record { both = t.both; joined = λ m le. all_joined i m t le }) reading clock (omega (arith, least)) (omega (arith, long)) talk

    both_stay : Soon names z
    both_stay = by (search names (suc n) z at rounds 176 1 (omega (arith, long)) (omega arith) first)
      where
        by : Soon names z ⊎ Stays names (suc n) z at rounds 177 → Soon names z
        by (inl h) = h
        by (inr t) = stays_comes names (suc n) z at rounds 177 reading (omega (arith, long)) (omega arith) t (omega (arith, clock)) early

  talked_comes : (r2 : WorkRound q) → Sound names (behind q r2) → Run names n (behind q r2) z → (BothIn (behind q r2) → SameRound q (without 0 k q) r2) → Soon names z
  talked_comes r2 then_sound run same = choose (client_joined q r2 j)
    where
      by_server : Joined (behind q r2).client.clock (behind q r2).client → (b : Bool) → is_open (behind q r2).server.phase ≡ b → Soon names z
      by_server then_j false e = left_alone names n (behind q r2) z (omega (arith, long)) then_sound run then_j e
      by_server then_j true e = both_stay r2 then_sound run (same (record { client = then_j.connected; server = e })) then_j e

      choose : Either (q.client.clock + 10) (behind q r2).client (Joined (behind q r2).client.clock (behind q r2).client) → Soon names z
      choose (gone left) = out_comes names n (behind q r2) z (omega (arith, long)) then_sound run left.is_out
      choose (so then_j) = by_server then_j (is_open (behind q r2).server.phase) refl

-- ---- the first round

module _ (laws : LawsBelow) (names : Names) (are : AreNames names) (f : Flow) (calls : List Event) (start : Holds names f.ends) (is : IsFirstAtWork names f calls)
    (also : AlsoOfClient calls f is.due) (opens : Each LeavesOpen calls) (room : HaveRoom calls (later 10000 10000 10000 f.ends)) where
  abbrev pub g : Flow
  g = work_round calls f

  pub then_holds : Holds names g.ends
  then_holds = holds_run laws names are (Passes 10000 10000 10000 ∷ calls) f.ends start is.may

  pub was_sent : (d : Sent) → IsAmong d is.due → IsAmong d g.ends.sent
  was_sent d among = of_each (λ (x : Sent). IsAmong x g.ends.sent) is.due d also.were_sent among

  abbrev read : Lists names (arriving (f.ends.time + 10000) is.due)
  read = comes_read names f start is.due g.ends then_holds.timely was_sent also.of_server

  abbrev mirror : (a : Pair) × Mirrors names (waiting_for f.ends.sent f) a
  mirror = comes_mirror names f start is.due g.ends then_holds.timely was_sent also.of_server

  abbrev pub p : Pair
  p = comes_pair names f start is.due g.ends then_holds.timely was_sent also.of_server

  abbrev c : Pair
  c = comes_to_client names f start is.due g.ends then_holds.timely was_sent also.of_server

  facts_now : Facts names c
  facts_now = comes_facts names f start is.due g.ends then_holds.timely was_sent also.of_server

  below_now : BothIn c → Below c
  below_now = comes_below names f start is.due g.ends then_holds.timely was_sent also.of_server

  pub follow : Follows names f p calls
  follow = follows_all laws names are f is.due p calls (record {
    timely = start.timely;
    client = mirror.1.client;
    server = mirror.1.server;
    to_client = read.of_server;
    to_server = read.of_client;
    may = is.may;
    only = is.only;
    client_work = is.client;
    server_work = is.server;
  }) opens room

  abbrev pub r : WorkRound p
  r = follow.round

  abbrev pub q : Pair
  q = behind p r

  pub then_mirrors_said : Mirrors names g q
  then_mirrors_said = follow.mirrors

  sound : Sound names q
  sound = sound_of names g q then_holds follow.mirrors

  among_all : (d : Sent) → IsAmong d is.due → IsAmong d (f.ends.sent ++ follow.new)
  among_all d among = subst (IsAmong d) follow.sent (was_sent d among)

  before_asking : q.to_server ≡ [] → WereSent f.ends.sent is.due
  before_asking mute = before_mute names.key f.ends.sent is.due follow.new q.to_server also.of_server among_all follow.of_client mute

  -- ---- after it

  module _ (n : ℕ) (z : Pair) (long : 1559 ≤ n) (run : Run names n q z) where
    -- the server was inside before, too, and it is known what the client has come to
    module _ (j : Joined q.client.clock q.client) (in_it : BothIn q) (was : is_open p.server.phase ≡ true) (some : 1 ≤ p.client.sent) (server_some : 1 ≤ p.server.sent) (rows : Rows p q)
        (behind_is : IsBehindIt p.server.sent p.server.clock q.client) (client_clock : q.client.clock ≡ p.client.clock + 10) (server_clock : q.server.clock ≡ p.server.clock + 10) where
      shares : Shares q.client q.server × Shares q.server q.client
      shares = sound.facts.shares in_it.client j.joined in_it.server

      climbs : Climbs q
      climbs = climbs_of names g q then_holds follow.mirrors in_it

      kept : climbs.client_kept ≤ p.server.clock
      kept = kept_behind p q climbs j.joined behind_is server_clock

      said : Lately q.server q.client p.client.sent q.client.sent (q.client.expected - 1) climbs.client_kept q.to_server
      said = lately_of q.server q.client p.client.sent q.client.sent climbs.client_kept q.to_server climbs.client_low some shares.0.fits refl j.joined
          (let x = (climbs.client_keeps j.joined).recent in omega (arith, x)) rows.client climbs.to_server

      returns : Each (IsReturned p.server.clock) p.to_server
      returns = comes_to_server names f start is.due g.ends then_holds.timely was_sent also.of_server (IsReturned p.server.clock) (facts_now.returned was) follow.new among_all q.to_server
          (chain_returns p.server.clock (voice_of q.client) p.client.sent said.count said.reading q.client.sent (q.client.expected - 1) climbs.client_kept q.to_server said.chain kept
          (let x = said.recent in omega (arith, x, server_clock))) follow.of_client

      own : q.server.own_stamp ≤ p.server.clock
      own = own_behind_at_work p.server.clock (p.server.clock + 10) refl Role.Server p.to_server r.server_acts p.server r.server_work refl (server_joined names c facts_now was) returns r.server_room in_it.server

      abbrev k : ℕ
      k = q.server.expected - p.client.sent

      talk : Talk names q.client.clock p.server.clock false false (without 0 k q)
      talk = talk_without names p q k sound.facts sound.client_past sound.server_past climbs in_it rows some server_some client_clock server_clock behind_is
          (omega arith) (let m = row_most (IsNumbered (voice_of q.client)) p.client.sent q.client.sent q.to_server rows.client in omega (arith, m, shares.1.most)) own

      comes_in_it : (m : ℕ) → m ≡ n → Run names m q z → Soon names z
      comes_in_it zero same run = absurd (omega (arith, same, long))
      comes_in_it (suc m) same (r2, then_sound, run) = talked_comes names m k p.server.clock q z (omega (arith, same, long)) sound j in_it server_clock talk r2 then_sound run
          (λ both. same_at_work q r2 p.server.sent p.client.sent 0 k
          (record { is = j; first = shares.0.first; row = rows.server; passed = omega arith; most = shares.0.most; fits = shares.1.fits })
          (record { is = server_joined names q sound.facts in_it.server; first = shares.1.first; row = rows.client; passed = omega arith; most = shares.1.most; fits = shares.0.fits }) both)

    -- a client that has joined, before the round or in it
    by_server : Joined q.client.clock q.client → (BothIn q → Soon names z) → Soon names z
    by_server j goes_on = choose (is_open q.server.phase) refl
      where
        choose : (b : Bool) → is_open q.server.phase ≡ b → Soon names z
        choose false e = left_alone names n q z (omega (arith, long)) sound run j e
        choose true e = goes_on (record { client = j.connected; server = e })

    server_was : p.server.clock ≤ p.server.closed_at + 1804 → is_open p.server.phase ≡ false → is_open q.server.phase ≡ true → ⊥
    server_was lately shut then_in =
        cc (ap (λ (s : Step). is_open s.link.phase) (quiet_step (p.server.clock + 10) r.server_acts p.server shut (omega (arith, lately))), shut, then_in)

    joined_before : Joined p.client.clock p.client → Soon names z
    joined_before was = choose (client_joined p r was)
      where
        inside : (j : Joined q.client.clock q.client) → BothIn q → (b : Bool) → is_open p.server.phase ≡ b → Soon names z
        inside j in_it false e = absurd (server_was (facts_now.alone was.connected was.joined e) e in_it.server)
        inside j in_it true e = comes_in_it j in_it e (omega (arith, shares.1.some, shares.1.most)) (omega (arith, shares.0.some, shares.0.most)) (rows_at_work p r was server_is in_it)
            (behind_of p.server.sent p.server.clock (p.client.clock + 10) (client_step p r).link
            (old_at_work p.server.own_first p.server.sent p.server.clock (p.client.clock + 10) shares.1.fits Role.Client p.to_client r.client_acts p.client r.client_work refl was shares.0.first shares.0.most
            below.client_kept keeps.kept_is keeps.before keeps.recent below.to_client r.client_room j.connected))
            (client_clock_on p r was in_it.client) (server_clock_on p r server_is in_it.server) n refl run
          where
            shares : Shares p.client p.server × Shares p.server p.client
            shares = facts_now.shares was.connected was.joined e

            server_is : Joined p.server.clock p.server
            server_is = server_joined names c facts_now e

            below : Below c
            below = below_now (record { client = was.connected; server = e })

            keeps : KeepsOf p.client p.server below.client_kept
            keeps = below.client_keeps was.joined

        choose : Either (p.client.clock + 10) q.client (Joined q.client.clock q.client) → Soon names z
        choose (gone left) = out_comes names n q z (omega (arith, long)) sound run left.is_out
        choose (so j) = by_server j (λ in_it. inside j in_it (is_open p.server.phase) refl)

    joins_in_it : Asks p.client.clock p.client → Joined q.client.clock q.client → q.client.clock ≡ p.client.clock + 10 → Soon names z
    joins_in_it asks j clock = by_server j (λ in_it. inside in_it (is_open p.server.phase) refl)
      where
        lately : is_open p.server.phase ≡ false → p.server.clock ≤ p.server.closed_at + 1804
        lately shut = choose p.to_client refl (facts_now.called (ap is_open asks.starts) shut)
          where
            choose : (ps : List Pdu) → p.to_client ≡ ps → Each (IsLately p.server) ps → p.server.clock ≤ p.server.closed_at + 1804
            choose [] e each = absurd (not_joined p r asks e j.connected j.joined)
            choose (x ∷ xs) e each = each.0

        inside : BothIn q → (b : Bool) → is_open p.server.phase ≡ b → Soon names z
        inside in_it false e = absurd (server_was (lately e) e in_it.server)
        inside in_it true e = comes_in_it j in_it e called.some called.said (rows_joining_at_work p r asks server_is j.joined in_it)
            (record { most = omega (arith, entered.expected, called.said); kept = entered.heard.reading; kept_is = entered.heard.kept_is; before = entered.heard.before; recent = entered.heard.recent })
            clock (server_clock_on p r server_is in_it.server) n refl run
          where
            called : Calls c.client c.server c.to_client
            called = facts_now.calls (ap is_open asks.starts) (asks_asking p.client.clock p.client asks) e

            server_is : Joined p.server.clock p.server
            server_is = server_joined names c facts_now e

            entered : HasEntered p.server p.client (client_step p r)
            entered = entered_at_work (p.client.clock + 10) p.server p.to_client r.client_acts p.client r.client_work asks called.first refl r.client_room j.connected j.joined

  -- ---- the sum

  -- all that comes was sent before, or they come to be ready
  abbrev pub OldOrSoon : Type 0
  OldOrSoon = WereSent f.ends.sent is.due ⊎ ((n : ℕ) (z : Pair) → 1559 ≤ n → Run names n q z → Soon names z)

  pub old_or_soon : OldOrSoon
  old_or_soon = by_phase (is_open p.client.phase) refl
    where
      asking : Asks p.client.clock p.client → Either (p.client.clock + 10) (client_step p r).link (Joined (p.client.clock + 10) (client_step p r).link ⊎ AsksOn (p.client.clock + 10) p.client (client_step p r))
          → OldOrSoon
      asking asks (gone left) = inr (λ n z long run. out_comes names n q z (omega (arith, long)) sound run left.is_out)
      asking asks (so (inl j)) = inr (λ n z long run. joins_in_it n z long run asks (subst (λ (k : ℕ). Joined k (client_step p r).link) (sym j.clock) j) j.clock)
      asking asks (so (inr on)) = inl (before_asking on.silent)

      inside : InIt p.client.clock p.client → OldOrSoon
      inside (inl was) = inr (λ n z long run. joined_before n z long run was)
      inside (inr asks) = asking asks (asked_round p r asks)

      by_phase : (b : Bool) → is_open p.client.phase ≡ b → OldOrSoon
      by_phase false e = absurd (cc (ap (λ (l : LinkState). is_open l.phase) mirror.1.client, e, also.client_in))
      by_phase true e = inside (in_it_of p.client e (facts_now.client_young e))
