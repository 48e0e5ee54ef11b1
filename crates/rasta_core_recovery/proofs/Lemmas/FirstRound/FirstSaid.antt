-- After whatever events, and whatever comes in the first round of what was sent before it, or of what the client says in it: both ends are
-- up after every good round from some round on.
use Rattle.rasta_core_recovery.proofs.Words.Basics.{◌≡◌, ℕ, ◌⊎◌, inl, inr, ◌∙◌, ◌+◌, ◌-◌, ◌≤◌, ◌<◌, Bool, true, false, nat_le, List, [], ◌∷◌, ◌++◌, refl, sym, ap, subst, arith, leb-true, leb-false, suc}
use Rattle.rasta_core_recovery.proofs.Words.Links.{LinkState, is_open, settled, spellings, Step, Role, Pdu, Each, Sent, IsAmong, Passes, AreNames, Names}
use Rattle.rasta_core_recovery.proofs.Words.Recovery.{ComeFirst, StayBelowLimitFrom, WereSaidBefore, WereSent, behind_comings, round_of, AreUp, Flow, comings, good_rounds, own_work, recovery_rounds, LawsBelow}
use Rattle.rasta_core_recovery.proofs.Lemmas.FirstRound.AnyFirst.{waiting_for}
use Rattle.rasta_core_recovery.proofs.Lemmas.FirstRound.AnyFirstRecovers.{up_then}
use Rattle.rasta_core_recovery.proofs.Lemmas.Asking.Asks.{Asks, InIt, asks_asking}
use Rattle.rasta_core_recovery.proofs.Lemmas.Rounds.Bridge.{LeavesIt, Lists, leaves_it, left_clocks}
use Rattle.rasta_core_recovery.proofs.Lemmas.ComingUp.Converse.{Talk}
use Rattle.rasta_core_recovery.proofs.Lemmas.Rounds.Course.{Joined}
use Rattle.rasta_core_recovery.proofs.Lemmas.Rounds.Facts.{Calls, Facts, Shares}
use Rattle.rasta_core_recovery.proofs.Lemmas.ComingUp.Fates.{Asking as AskingStep, Comes, Leaves, Stays, asking_step, asks_on, called_lately, goes_out, in_it_of, joined_step, joins, JustOut, leaves_comes, out_comes, search, server_joined, server_quiet}
use Rattle.rasta_core_recovery.proofs.Lemmas.FirstRound.FirstComes.{all_before, before_mute, below_now as comes_below, c as comes_to_client, facts_now as comes_facts, mirror as comes_mirror, p as comes_pair, read as comes_read, to_server_each as comes_to_server}
use Rattle.rasta_core_recovery.proofs.Lemmas.FirstRound.FirstDue.{of_each}
use Rattle.rasta_core_recovery.proofs.Lemmas.FirstRound.FirstHears.{Below}
use Rattle.rasta_core_recovery.proofs.Lemmas.FirstRound.FirstRises.{Climbs, Lately, lately_of}
use Rattle.rasta_core_recovery.proofs.Lemmas.FirstRound.FirstTalks.{comes_talking}
use Rattle.rasta_core_recovery.proofs.Lemmas.FirstRound.FirstTalk.{IsBehindIt, by_response, client_behind, kept_behind, talk_without}
use Rattle.rasta_core_recovery.proofs.Lemmas.Rounds.Happen.{sent_by_then}
use Rattle.rasta_core_recovery.proofs.Lemmas.ComingUp.Healthy.{Healthy}
use Rattle.rasta_core_recovery.proofs.Lemmas.Rounds.Links.{Pair, all_heard, pair_round, pair_rounds}
use Rattle.rasta_core_recovery.proofs.Lemmas.Rounds.Mirror.{Mirrors, arriving}
use Rattle.rasta_core_recovery.proofs.Lemmas.Rounds.Passed.{without}
use Rattle.rasta_core_recovery.proofs.Lemmas.ComingUp.Recovers.{climbing, healthy_at, is_up_then, mirrors, seen}
use Rattle.rasta_core_recovery.proofs.Lemmas.Rounds.Holds.{Holds, holds_run}
use Rattle.rasta_core_recovery.proofs.Lemmas.ComingUp.Returned.{IsReturned}
use Rattle.rasta_core_recovery.proofs.Lemmas.ComingUp.Seen.{BothIn, Rows, Seen, rows_after, rows_joining, server_behind}
use Rattle.rasta_core_recovery.proofs.Lemmas.ComingUp.Stays.{quiet_hears_all, settled_out}
use Rattle.rasta_core_recovery.proofs.Lemmas.Rounds.Words.{Chain, IsNumbered, Voice, chain_ends, row_most, voice_of}

-- what a chain returns
pub chain_returns : (last : ℕ) (v : Voice) (n c r end confirmed returned : ℕ) (ps : List Pdu) → Chain v n c r ps end confirmed returned → returned ≤ last → last < r + 10000
    → Each (IsReturned last) ps
chain_returns last v n c r end confirmed returned [] chain most low = tt
chain_returns last v n c r end confirmed returned (p ∷ ps) (x, y, h, i, w, more) most low = (
  λ speech. (y, w.returns, omega (arith, chain_tail.2, most), omega (arith, low, i)),
  chain_returns last v (n + 1) x y end confirmed returned ps more most (omega (arith, low, i)),
)
  where
    chain_tail : (n + 1 ≤ end) × (x ≤ confirmed) × (y ≤ returned)
    chain_tail = chain_ends v (n + 1) x y end confirmed returned ps more

module _ (laws : LawsBelow) (names : Names) (are : AreNames names) (f : Flow) (start : Holds names f.ends) (due : List Sent) (comes : ComeFirst names due f)
    (before : WereSaidBefore Role.Server f.ends.sent due) where
  abbrev g : Flow
  g = round_of due f

  abbrev t : ℕ
  t = f.ends.time + 10000

  then_holds : Holds names g.ends
  then_holds = holds_run laws names are (Passes 10000 10000 10000 ∷ (comings (f.ends.time + 10000) due ++ own_work)) f.ends start comes.may

  was_sent : (d : Sent) → IsAmong d due → IsAmong d g.ends.sent
  was_sent d is = sent_by_then due f d (of_each (λ (x : Sent). IsAmong x (behind_comings due f).sent) due d comes.were_sent is)

  -- what comes, as it is read
  abbrev read : Lists names (arriving t due)
  read = comes_read names f start due g.ends then_holds.timely was_sent before

  abbrev mirror : (a : Pair) × Mirrors names (waiting_for f.ends.sent f) a
  mirror = comes_mirror names f start due g.ends then_holds.timely was_sent before

  abbrev p : Pair
  p = comes_pair names f start due g.ends then_holds.timely was_sent before

  -- and with what comes to the client alone
  abbrev c : Pair
  c = comes_to_client names f start due g.ends then_holds.timely was_sent before

  facts_now : Facts names c
  facts_now = comes_facts names f start due g.ends then_holds.timely was_sent before

  below_now : BothIn c → Below c
  below_now = comes_below names f start due g.ends then_holds.timely was_sent before

  abbrev q : Pair
  q = pair_round p

  left : LeavesIt names f due p
  left = leaves_it laws names are f due p
      (record { timely = start.timely; client = mirror.1.client; server = mirror.1.server; to_client = read.of_server; to_server = read.of_client; may = comes.may })

  among_all : (d : Sent) → IsAmong d due → IsAmong d (f.ends.sent ++ left.new)
  among_all d is = subst (IsAmong d) left.sent (was_sent d is)

  same_client : (pair_round c).client ≡ q.client
  unfolding pair_round
  same_client = refl

  -- ---- where the client says nothing till all has come, all was sent before

  out_is_mute : is_open p.client.phase ≡ false → (all_heard (p.client.clock + 10) p.to_client (settled (p.client.clock + 10) p.client)).pdus ≡ []
  unfolding all_heard
  out_is_mute shut = choose (nat_le (p.client.closed_at + 5990) p.client.clock) refl
    where
      now : ℕ
      now = p.client.clock + 10

      choose : (b : Bool) → nat_le (p.client.closed_at + 5990) p.client.clock ≡ b → (all_heard now p.to_client (settled now p.client)).pdus ≡ []
      choose true e = ap (λ (ps : List Pdu). (all_heard now ps (settled now p.client)).pdus) (facts_now.waited shut (leb-true _ _ e)).1
      choose false e = ap (λ (l : LinkState). (all_heard now p.to_client l).pdus) (settled_out now p.client shut)
          ∙ ap (λ (s : Step). s.pdus) (quiet_hears_all now p.to_client (record p.client { clock = now }) shut (let h = leb-false _ _ e in omega (arith, h)) refl)

  before_out : is_open p.client.phase ≡ false → WereSent f.ends.sent due
  before_out shut = all_before f.ends.sent due left.early before
      (λ d is. subst (IsAmong d) left.then_sent (of_each (λ (x : Sent). IsAmong x (behind_comings due f).sent) due d comes.were_sent is))
      (left.early_client ∙ ap (λ (ps : List Pdu). spellings names.key ps) (out_is_mute shut))

  before_asking : q.to_server ≡ [] → WereSent f.ends.sent due
  before_asking mute = before_mute names.key f.ends.sent due left.new q.to_server before among_all left.to_server mute

  -- ---- after it

  module _ (n : ℕ) (long : recovery_rounds ≤ suc n) (room : StayBelowLimitFrom due n f) where
    then_seen : Seen names n q
    then_seen = seen laws names are g then_holds q left.mirrors n room.2

    client_clock : q.client.clock ≡ p.client.clock + 10
    client_clock = (left_clocks names f due p start.timely mirror.1.client mirror.1.server left).0

    server_clock : q.server.clock ≡ p.server.clock + 10
    server_clock = (left_clocks names f due p start.timely mirror.1.client mirror.1.server left).1

    -- the server was inside before, too, and it is known what the client has come to
    module _ (j : Joined q.client.clock q.client) (s : Stays 1 q) (was : is_open p.server.phase ≡ true) (some : 1 ≤ p.client.sent) (server_some : 1 ≤ p.server.sent) (rows : Rows p q)
        (behind : IsBehindIt p.server.sent p.server.clock q.client) where
      in_it : BothIn q
      in_it = s.stay.both 0 (omega arith)

      shares : Shares q.client q.server × Shares q.server q.client
      shares = (then_seen.facts 0).shares in_it.client j.joined in_it.server

      climbs : Climbs q
      climbs = climbing laws names are g then_holds q left.mirrors 0 in_it

      kept : climbs.client_kept ≤ p.server.clock
      kept = kept_behind p q climbs j.joined behind server_clock

      -- what the client said returns no stamp of the server that is of this round
      said : Lately q.server q.client p.client.sent q.client.sent (q.client.expected - 1) climbs.client_kept q.to_server
      said = lately_of q.server q.client p.client.sent q.client.sent climbs.client_kept q.to_server climbs.client_low some shares.0.fits refl j.joined
          (let r = (climbs.client_keeps j.joined).recent in omega (arith, r)) rows.client climbs.to_server

      said_returns : Each (IsReturned p.server.clock) q.to_server
      said_returns = chain_returns p.server.clock (voice_of q.client) p.client.sent said.count said.reading q.client.sent (q.client.expected - 1) climbs.client_kept q.to_server said.chain kept
          (let r = said.recent in omega (arith, r, server_clock))

      returns : Each (IsReturned p.server.clock) p.to_server
      returns = comes_to_server names f start due g.ends then_holds.timely was_sent before (IsReturned p.server.clock) (facts_now.returned was) left.new among_all q.to_server said_returns left.to_server

      own : q.server.own_stamp ≤ p.server.clock
      own = server_behind p (server_joined names c facts_now was) returns in_it.server

      abbrev k : ℕ
      k = q.server.expected - p.client.sent

      talk : Talk names q.client.clock p.server.clock false false (without 0 k q)
      talk = talk_without names p q k (then_seen.facts 0) (then_seen.client_past 0) (then_seen.server_past 0) climbs in_it rows some server_some client_clock server_clock behind
          (omega arith) (let m = row_most (IsNumbered (voice_of q.client)) p.client.sent q.client.sent q.to_server rows.client in omega (arith, m, shares.1.most)) own

      -- what the server has passed of what is under way is left out
      comes_in_it : Comes names 1560 q
      comes_in_it = comes_talking names n q (omega (arith, long)) then_seen j s p.server.sent p.client.sent 0 k
          (record { is = j; first = shares.0.first; row = rows.server; passed = omega arith; most = shares.0.most; fits = shares.1.fits })
          (record {
            is = server_joined names q (then_seen.facts 0) in_it.server;
            first = shares.1.first;
            row = rows.client;
            passed = omega arith;
            most = shares.1.most;
            fits = shares.0.fits;
          }) p.server.clock server_clock false false talk

    -- a client that has joined, before the round or in it
    stays_or_leaves : Joined q.client.clock q.client → (Stays 1 q → Comes names 1560 q) → Comes names 1560 q
    stays_or_leaves j goes_on = choose (search 1 q j)
      where
        choose : Leaves 1 q ⊎ Stays 1 q → Comes names 1560 q
        choose (inl l) = let x = leaves_comes names 1 n q (omega arith) (omega (arith, long)) then_seen l in record { rounds = x.rounds; soon = omega (arith, x.soon); healthy = x.healthy }
        choose (inr s) = goes_on s

    out_comes_then : is_open q.client.phase ≡ false → Comes names 1560 q
    out_comes_then shut = let x = out_comes names n q (omega (arith, long)) then_seen shut in record { rounds = x.rounds; soon = omega (arith, x.soon); healthy = x.healthy }

    -- its server was inside, or left lately and stays outside
    server_was : p.server.clock ≤ p.server.closed_at + 1804 → is_open p.server.phase ≡ false → is_open q.server.phase ≡ true → ⊥
    server_was lately shut then_in = cc (ap (λ (l : LinkState). is_open l.phase) (server_quiet p shut (omega (arith, lately))), shut, then_in)

    joined_before : Joined p.client.clock p.client → Comes names 1560 q
    joined_before is = choose (joined_step p is)
      where
        inside : (j : Joined q.client.clock q.client) (s : Stays 1 q) → (b : Bool) → is_open p.server.phase ≡ b → Comes names 1560 q
        inside j s false e = absurd (server_was (facts_now.alone is.connected is.joined e) e (s.stay.both 0 (omega arith)).server)
        inside j s true e = comes_in_it j s e (omega (arith, shares.1.some, shares.1.most)) (omega (arith, shares.0.some, shares.0.most))
            (rows_after p is (server_joined names c facts_now e) (s.stay.both 0 (omega arith)))
            (subst (IsBehindIt p.server.sent p.server.clock) same_client
            (client_behind c (below_now (record { client = is.connected; server = e })) is shares.0.first shares.0.most shares.1.fits (ap (λ (l : LinkState). is_open l.phase) same_client ∙ j.connected)))
          where
            shares : Shares p.client p.server × Shares p.server p.client
            shares = facts_now.shares is.connected is.joined e

        choose : JustOut q.client ⊎ Joined q.client.clock q.client → Comes names 1560 q
        choose (inl out) = out_comes_then out.is_out
        choose (inr j) = stays_or_leaves j (λ s. inside j s (is_open p.server.phase) refl)

    joins_in_it : Asks p.client.clock p.client → Joined q.client.clock q.client → Comes names 1560 q
    joins_in_it is j = stays_or_leaves j (λ s. inside s (is_open p.server.phase) refl)
      where
        then_joined : Joined (pair_round c).client.clock (pair_round c).client
        then_joined = subst (λ (l : LinkState). Joined l.clock l) (sym same_client) j

        inside : (s : Stays 1 q) → (b : Bool) → is_open p.server.phase ≡ b → Comes names 1560 q
        inside s false e = absurd (server_was (called_lately names c facts_now is then_joined e) e (s.stay.both 0 (omega arith)).server)
        inside s true e = comes_in_it j s e calls.some calls.said
            (rows_joining p is (server_joined names c facts_now e) j.joined (s.stay.both 0 (omega arith)))
            (subst (IsBehindIt p.server.sent p.server.clock) same_client (by_response c is calls then_joined.connected then_joined.joined))
          where
            calls : Calls c.client c.server c.to_client
            calls = facts_now.calls (ap is_open is.starts) (asks_asking p.client.clock p.client is) e

    -- ---- the sum

    comes_up : Comes names 1560 q → AreUp (good_rounds n g).ends
    comes_up comes =
        let h : Healthy names 1 (pair_rounds n q) = healthy_at names 1560 n q (omega (arith, long)) then_seen comes in
        let m : Mirrors names (good_rounds n g) (pair_rounds n q) = mirrors laws names are g then_holds q left.mirrors n in
        (is_up_then _ _ m.client h.steady_client.up, is_up_then _ _ m.server h.steady_server.up)

    pub up_from : AreUp (good_rounds n g).ends
    up_from = by_phase (is_open p.client.phase) refl
      where
        all_old : WereSent f.ends.sent due → AreUp (good_rounds n g).ends
        all_old were = up_then laws names are f start due were n room long

        asking : Asks p.client.clock p.client → AskingStep p → AreUp (good_rounds n g).ends
        asking is (goes_out shut) = comes_up (out_comes_then shut)
        asking is (joins j) = comes_up (joins_in_it is j)
        asking is (asks_on x mute own_stays) = all_old (before_asking mute)

        inside : InIt p.client.clock p.client → AreUp (good_rounds n g).ends
        inside (inl is) = comes_up (joined_before is)
        inside (inr is) = asking is (asking_step p is)

        by_phase : (b : Bool) → is_open p.client.phase ≡ b → AreUp (good_rounds n g).ends
        by_phase false e = all_old (before_out e)
        by_phase true e = inside (in_it_of p.client e (facts_now.client_young e))
