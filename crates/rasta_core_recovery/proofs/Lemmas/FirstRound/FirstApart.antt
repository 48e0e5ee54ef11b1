-- Whatever comes in the first round of what was sent by then, also of what the server says in it: both ends come up, where the client is outside
-- before the round, or asks in it and doesn't join.
use Rattle.rasta_core_recovery.proofs.Words.Basics.{◌≡◌, ℕ, suc, ◌⊎◌, inl, inr, ◌∙◌, ◌+◌, ◌^◌, ◌≤◌, ◌<◌, Bool, true, false, nat_le, List, [], ◌∷◌, ◌++◌, refl, sym, ap, subst, arith, leb-true, leb-false}
use Rattle.rasta_core_recovery.proofs.Words.Links.{stamp, wire, LinkState, is_asking, is_client, is_open, settled, spellings, Step, then_do, Identity, Role, Pdu, Each, Sent, IsAmong, Passes, AreNames, Names, identity_of, Ends, later, Timely, Ordered}
use Rattle.rasta_core_recovery.proofs.Words.Recovery.{EndsAskInTurn, AreIn, ComeFirst, StayBelowLimitFrom, WereSaidBefore, WereSent, behind_comings, round_of, AreUp, Flow, comings, good_rounds, own_work, recovery_rounds, LawsBelow}
use Rattle.rasta_core_recovery.proofs.Lemmas.FirstRound.AnyFirst.{waiting_for, waits_asked, waits_ordered}
use Rattle.rasta_core_recovery.proofs.Lemmas.Asking.Asks.{Asks, IsTalkPdu, asks_asking}
use Rattle.rasta_core_recovery.proofs.Lemmas.Asking.AsksEvents.{event_asks}
use Rattle.rasta_core_recovery.proofs.Lemmas.Asking.AsksFresh.{IsFresh, all_fresh, fresh_asking}
use Rattle.rasta_core_recovery.proofs.Lemmas.Asking.AsksRound.{comings_come}
use Rattle.rasta_core_recovery.proofs.Lemmas.Rounds.Bridge.{front_may, passed_on, ten_later, left_clocks}
use Rattle.rasta_core_recovery.proofs.Lemmas.Windows.ConfirmingEvents.{both_of}
use Rattle.rasta_core_recovery.proofs.Lemmas.Rounds.Course.{Joined}
use Rattle.rasta_core_recovery.proofs.Lemmas.Rounds.Facts.{Calls, IsLately, each_map}
use Rattle.rasta_core_recovery.proofs.Lemmas.ComingUp.Fates.{Asking as AskingStep, Comes, asking_step, asks_on, client_quiet, goes_out, joins, leaves_comes, out_comes, same_pair, server_joined, server_leaves, server_quiet}
use Rattle.rasta_core_recovery.proofs.Lemmas.FirstRound.FirstComes.{each_none, none_left, none_read}
use Rattle.rasta_core_recovery.proofs.Lemmas.FirstRound.FirstDue.{each_of, none_of}
use Rattle.rasta_core_recovery.proofs.Lemmas.FirstRound.FirstEnters.{comes_to, enters, open_then, out_round, out_settled, round_one, row_talks, says_one}
use Rattle.rasta_core_recovery.proofs.Lemmas.FirstRound.FirstFates.{asked_as, first_of, none_says}
use Rattle.rasta_core_recovery.proofs.Lemmas.FirstRound.FirstGrants.{Asking, ServerFirst, asking_of, grants, rests}
use Rattle.rasta_core_recovery.proofs.Lemmas.FirstRound.FirstHeard.{heard_in, heard_mute}
use Rattle.rasta_core_recovery.proofs.Lemmas.FirstRound.FirstMeets.{just_met, met_comes}
use Rattle.rasta_core_recovery.proofs.Lemmas.FirstRound.FirstQuiet.{all_left, left_all}
use Rattle.rasta_core_recovery.proofs.Lemmas.FirstRound.FirstSaid.{up_from}
use Rattle.rasta_core_recovery.proofs.Lemmas.FirstRound.FirstWaits.{alone_comes_on, granted_comes, just_granted}
use Rattle.rasta_core_recovery.proofs.Lemmas.Rounds.Fold.{Begins, begins, late, on}
use Rattle.rasta_core_recovery.proofs.Lemmas.ComingUp.Healthy.{Healthy}
use Rattle.rasta_core_recovery.proofs.Lemmas.ComingUp.Joins.{joins_row}
use Rattle.rasta_core_recovery.proofs.Lemmas.Rounds.Links.{Pair, all_heard, end_round, pair_round, pair_rounds, worked, the_step}
use Rattle.rasta_core_recovery.proofs.Lemmas.Rounds.Mirror.{Mirrors, bytes_from}
use Rattle.rasta_core_recovery.proofs.Lemmas.ComingUp.Opens.{asking_link, first_beat, granted_link, joined_link, request, response, resting_link, server_rests, up_link}
use Rattle.rasta_core_recovery.proofs.Lemmas.ComingUp.Recovers.{askings, healthy_at, is_up_then, mirrors, seen}
use Rattle.rasta_core_recovery.proofs.Lemmas.Rounds.Holds.{Holds}
use Rattle.rasta_core_recovery.proofs.Lemmas.ComingUp.Returned.{IsReturned}
use Rattle.rasta_core_recovery.proofs.Lemmas.ComingUp.Seen.{Seen, server_behind}
use Rattle.rasta_core_recovery.proofs.Lemmas.ComingUp.Stays.{left_of, out_is, settled_out}
use Rattle.rasta_core_recovery.proofs.Lemmas.Rounds.Words.{voice_of}
use Rattle.rasta_core_recovery.proofs.Lemmas.FirstRound.FirstRead.{ReadRound, all_to_client, all_to_server, old_to_server, read_round}
use Rattle.rasta_core_recovery.proofs.Lemmas.Asking.AsksSaid.{among_both}

-- ---- lists

-- what an end said that says nothing more was sent before
old_of : (who : Role) (sent more : List Sent) (d : Sent) → bytes_from who more ≡ [] → IsAmong d (sent ++ more) → d.sender ≡ who → IsAmong d sent
old_of who sent more d none is e = choose (among_both d sent more is)
  where
    choose : IsAmong d sent ⊎ IsAmong d more → IsAmong d sent
    choose (inl one) = one
    choose (inr other) = absurd (none_of who d more none other e)

-- a server that is outside, and to which nothing comes, says nothing
rests_mute : (names : Names) (p : Pair) → p.server.identity ≡ identity_of Role.Server names → is_open p.server.phase ≡ false → p.to_server ≡ [] → (pair_round p).to_client ≡ []
unfolding pair_round
rests_mute names p is_server shut none = ap (λ (ps : List Pdu). (end_round (p.server.clock + 10) ps p.server).pdus) none
    ∙ ap (λ (l : LinkState). (end_round (p.server.clock + 10) [] l).pdus) (out_is names Role.Server p.server is_server shut)
    ∙ ap (λ (s : Step). s.pdus) (server_rests names p.server.clock p.server.closed_at (left_of p.server))

-- a client that asks before a round and is inside after it was inside when all had come; and so is a server that has joined
joining_in : (p : Pair) → Asks p.client.clock p.client → is_open (pair_round p).client.phase ≡ true
    → is_open (all_heard (p.client.clock + 10) p.to_client (settled (p.client.clock + 10) p.client)).link.phase ≡ true
unfolding pair_round
joining_in p is then_in = heard_in (p.client.clock + 10) p.to_client p.client (inr is) refl then_in

server_mid_in : (p : Pair) → Joined p.server.clock p.server → is_open (pair_round p).server.phase ≡ true
    → is_open (all_heard (p.server.clock + 10) p.to_server (settled (p.server.clock + 10) p.server)).link.phase ≡ true
unfolding pair_round
server_mid_in p is then_in = heard_in (p.server.clock + 10) p.to_server p.server (inl is) refl then_in

-- what it says as it joins is talk
joining_talks : (p : Pair) → Asks p.client.clock p.client → is_open (pair_round p).client.phase ≡ true → is_asking (pair_round p).client ≡ false → Each IsTalkPdu (pair_round p).to_server
unfolding pair_round
joining_talks p is then_in joined = row_talks (voice_of (end_round (p.client.clock + 10) p.to_client p.client).link) p.client.sent (end_round (p.client.clock + 10) p.to_client p.client).link.sent
    (end_round (p.client.clock + 10) p.to_client p.client).pdus (joins_row (p.client.clock + 10) p.to_client p.client is refl then_in joined)

-- a round of each end
client_step : (p : Pair) → the_step (pair_round p).client (pair_round p).to_server ≡ end_round (p.client.clock + 10) p.to_client p.client
unfolding pair_round
client_step p = refl

server_step : (p : Pair) → the_step (pair_round p).server (pair_round p).to_client ≡ end_round (p.server.clock + 10) p.to_server p.server
unfolding pair_round
server_step p = refl

-- nothing comes of a server that has been outside for so long
none_lately : (m : LinkState) (ps : List Pdu) → m.closed_at + 5990 ≤ m.clock → Each (IsLately m) ps → ps ≡ []
none_lately m [] over each = refl
none_lately m (p ∷ ps) over each = absurd (let l = each.0 in omega (arith, over, l))

module _ (laws : LawsBelow) (names : Names) (are : AreNames names) (f : Flow) (start : Holds names f.ends) (due : List Sent) (comes : ComeFirst names due f) where
  abbrev g : Flow
  g = round_of due f

  abbrev t : ℕ
  t = f.ends.time + 10000

  first_round : ReadRound names f due
  first_round = read_round laws names are f start due comes

  open first_round use {then_holds, read, mirror, facts_now, left, among_new, among_early}

  abbrev w : Flow
  w = waiting_for f.ends.sent f

  -- the ends before it, for which all waits that was sent; and with what comes
  abbrev a : Pair
  a = mirror.0

  abbrev p : Pair
  p = record { client = a.client; server = a.server; to_client = read.to_client; to_server = read.to_server }

  abbrev q : Pair
  q = pair_round p

  all_were : WereSent f.ends.sent f.ends.sent
  all_were = each_of (λ (d : Sent). IsAmong d f.ends.sent) f.ends.sent (λ d is. is)

  ordered_now : Ordered names w.ends
  ordered_now = waits_ordered names f f.ends.sent all_were start.ordered

  -- where the server says nothing till all has come, nothing that it says comes
  server_before : bytes_from Role.Server left.early ≡ [] → WereSaidBefore Role.Server f.ends.sent due
  server_before none = each_of (λ (d : Sent). d.sender ≡ Role.Server → IsAmong d f.ends.sent) due (λ d is e. old_of Role.Server f.ends.sent left.early d none (among_early d is) e)

  server_mute : q.to_client ≡ [] → WereSaidBefore Role.Server f.ends.sent due
  server_mute none = each_of (λ (d : Sent). d.sender ≡ Role.Server → IsAmong d f.ends.sent) due
      (λ d is e. old_of Role.Server f.ends.sent left.new d (none_read names.key (bytes_from Role.Server left.new) q.to_client left.to_client none) (among_new d is) e)

  -- and the same of the client
  abbrev OldOfClient : Type 0
  OldOfClient = (d : Sent) → IsAmong d due → d.sender ≡ Role.Client → IsAmong d f.ends.sent

  client_before : bytes_from Role.Client left.early ≡ [] → OldOfClient
  client_before none d is e = old_of Role.Client f.ends.sent left.early d none (among_early d is) e

  client_mute : q.to_server ≡ [] → OldOfClient
  client_mute none d is e = old_of Role.Client f.ends.sent left.new d (none_read names.key (bytes_from Role.Client left.new) q.to_server left.to_server none) (among_new d is) e

  -- ---- after it

  module _ (n : ℕ) (long : recovery_rounds ≤ suc n) (room : StayBelowLimitFrom due n f) where
    then_seen : Seen names n q
    then_seen = seen laws names are g then_holds q left.mirrors n room.2

    client_clock : q.client.clock ≡ p.client.clock + 10
    client_clock = (left_clocks names f due p start.timely mirror.1.client mirror.1.server left).0

    server_clock : q.server.clock ≡ p.server.clock + 10
    server_clock = (left_clocks names f due p start.timely mirror.1.client mirror.1.server left).1

    comes_up : Comes names 1560 q → AreUp (good_rounds n g).ends
    comes_up comes =
        let h : Healthy names 1 (pair_rounds n q) = healthy_at names 1560 n q (omega (arith, long)) then_seen comes in
        let m : Mirrors names (good_rounds n g) (pair_rounds n q) = mirrors laws names are g then_holds q left.mirrors n in
        (is_up_then _ _ m.client h.steady_client.up, is_up_then _ _ m.server h.steady_server.up)

    out_comes_then : is_open q.client.phase ≡ false → Comes names 1560 q
    out_comes_then shut = let x = out_comes names n q (omega (arith, long)) then_seen shut in record { rounds = x.rounds; soon = omega (arith, x.soon); healthy = x.healthy }

    -- where nothing comes that the server says in the round
    pub said_up : WereSaidBefore Role.Server f.ends.sent due → AreUp (good_rounds n g).ends
    said_up before = up_from laws names are f start due comes before n long room

    -- ---- a client that is outside

    up_out : is_open a.client.phase ≡ false → AreUp (good_rounds n g).ends
    up_out shut = choose (nat_le (a.client.closed_at + 5990) a.client.clock) refl
      where
        is_client_end : is_client a.client.identity.role ≡ true
        is_client_end = ap (λ (i : Identity). is_client i.role) facts_now.client

        says_none : (all_heard (a.client.clock + 10) read.to_client (settled (a.client.clock + 10) a.client)).pdus ≡ []
        says_none = ap (λ (l : LinkState). (all_heard (a.client.clock + 10) read.to_client l).pdus) (settled_out (a.client.clock + 10) a.client shut)
            ∙ ap (λ (s : Step). s.pdus) (left_all (a.client.clock + 10) read.to_client (record a.client { clock = a.client.clock + 10 }) shut refl
            (all_left (a.client.clock + 10) read.to_client (record a.client { clock = a.client.clock + 10 }) is_client_end))

        old : OldOfClient
        old = client_before (left.early_client ∙ ap (λ (ps : List Pdu). spellings names.key ps) says_none)

        nothing : a.client.closed_at + 5990 ≤ a.client.clock → read.to_server ≡ []
        nothing over = none_left read.to_server (old_to_server names f due first_round (λ (pdu : Pdu). ⊥) (each_none a.to_server (facts_now.waited shut over).2) old)

        rests_then : a.client.closed_at + 5990 ≤ a.client.clock → q.to_client ≡ []
        rests_then over = rests_mute names p facts_now.server (facts_now.waited shut over).0 (nothing over)

        choose : (b : Bool) → nat_le (a.client.closed_at + 5990) a.client.clock ≡ b → AreUp (good_rounds n g).ends
        choose true e = said_up (server_mute (rests_then (leb-true _ _ e)))
        choose false e = comes_up (out_comes_then (ap (λ (l : LinkState). is_open l.phase) (client_quiet p shut (let h = leb-false _ _ e in omega (arith, h))) ∙ shut))

    pub up_outside : is_open f.ends.client.link.phase ≡ false → AreUp (good_rounds n g).ends
    up_outside shut = up_out (ap (λ (l : LinkState). is_open l.phase) (sym mirror.1.client) ∙ shut)

    -- ---- a client that asks, and asks on

    module _ (is : Asks p.client.clock p.client) (x : Asks q.client.clock q.client) (mute : q.to_server ≡ []) (own : q.client.own_stamp ≡ p.client.own_stamp) where
      asking_before : Asking names a
      asking_before = asking_of names w a mirror.1 ordered_now (waits_asked names f f.ends.sent all_were start.asked) (asks_asking a.client.clock a.client is)

      asking_now : Asking names p
      asking_now = record { link = asking_before.link; fits = asking_before.fits; due = old_to_server names f due first_round _ asking_before.due (client_mute mute) }

      asking_then : Asking names q
      asking_then = askings laws names are g then_holds q left.mirrors 0 (asks_asking q.client.clock q.client x)

      calls_then : is_open q.server.phase ≡ true → Calls q.client q.server q.to_client
      calls_then e = (then_seen.facts 0).calls (ap is_open x.starts) (asks_asking q.client.clock q.client x) e

      waits_by : (is_open q.server.phase ≡ true → (q.server.own_stamp ≤ p.server.clock) × (q.to_client ≡ [])) → Comes names 1560 q
      waits_by inside = alone_comes_on names n q (omega (arith, long)) then_seen x mute p.server.clock server_clock (let o = is.own in omega (arith, own, o, client_clock)) inside

      was_inside : is_open p.server.phase ≡ true → Comes names 1560 q
      was_inside e = waits_by (λ h. (
        server_behind p server_is (old_to_server names f due first_round (IsReturned p.server.clock) (facts_now.returned e) (client_mute mute)) h,
        none_says p server_is calls.said (let r = (then_seen.room 0 (omega arith)).server h in omega (arith, r)) (record { client = ap is_open x.starts; server = h }) (calls_then h).first,
      ))
        where
          server_is : Joined p.server.clock p.server
          server_is = server_joined names a facts_now e

          calls : Calls a.client a.server a.to_client
          calls = facts_now.calls (ap is_open is.starts) (asks_asking a.client.clock a.client is) e

      abbrev taken_at : ℕ
      taken_at = p.server.clock + 10

      abbrev sf : ℕ
      sf = wire p.server.own_first p.server.sent

      sf_fits : sf < 2 ^ 32
      sf_fits = omega arith

      -- its server has just taken the request
      has_taken : the_step q.server q.to_client ≡ the_step
          (granted_link names taken_at p.server.closed_at sf (request names p.client.own_first p.client.own_stamp) taken_at)
          (response names sf (request names p.client.own_first p.client.own_stamp) taken_at ∷ [])
          → Comes names 1560 q
      has_taken same = let r = subst (Comes names 1416) (sym whole)
          (granted_comes names q.client.closed_at p.server.closed_at p.client.own_first sf p.client.own_stamp taken_at asking_now.fits sf_fits q.client.clock n
          (omega (arith, long)) (let o = x.own in omega (arith, own, o)) (let y = x.young in omega (arith, own, y))
          (subst (Seen names n) whole then_seen)) in record { rounds = r.rounds; soon = omega (arith, r.soon); healthy = r.healthy }
        where
          server_then : q.server ≡ granted_link names taken_at p.server.closed_at sf (request names p.client.own_first p.client.own_stamp) taken_at
          server_then = ap (λ (s : Step). s.link) same

          first_same : q.client.own_first ≡ p.client.own_first
          first_same = sym (calls_then (ap (λ (l : LinkState). is_open l.phase) server_then)).partner ∙ ap (λ (l : LinkState). l.partner_first) server_then
              ∙ (let h = asking_now.fits in omega (arith, h))

          whole : q ≡ just_granted names q.client.closed_at p.server.closed_at p.client.own_first sf p.client.own_stamp taken_at asking_now.fits sf_fits q.client.clock
          whole = same_pair (asking_then.link ∙ asked_as names q.client.clock q.client.closed_at first_same own) server_then (ap (λ (s : Step). s.pdus) same) mute

      was_outside : is_open p.server.phase ≡ false → Comes names 1560 q
      was_outside shut = by (first_of names p facts_now.server asking_now shut)
        where
          by : ServerFirst names (p.server.clock + 10) p.server.closed_at (left_of p.server) p.client.own_first p.client.own_stamp (record { link = q.server; pdus = q.to_client }) → Comes names 1560 q
          by (rests same) = waits_by (λ h. absurd (cc (h, ap (λ (s : Step). is_open s.link.phase) same)))
          by (grants same) = has_taken same

      asks_on_comes : Comes names 1560 q
      asks_on_comes = by_server (is_open p.server.phase) refl
        where
          by_server : (b : Bool) → is_open p.server.phase ≡ b → Comes names 1560 q
          by_server true e = was_inside e
          by_server false e = was_outside e

    -- ---- a client that asks, and joins

    module _ (asks : EndsAskInTurn names f.ends) (is : Asks p.client.clock p.client) (j : Joined q.client.clock q.client) where
      -- both ends as all has come, before their own work
      abbrev mid : Ends
      mid = behind_comings due f

      abbrev passed : Ends
      passed = later 10000 10000 10000 f.ends

      passed_timely : Timely names passed
      passed_timely = laws.every_event_keeps_time names (Passes 10000 10000 10000) f.ends are start.timely comes.may.0

      passed_ordered : Ordered names passed
      passed_ordered = laws.every_event_keeps_order_kept names (Passes 10000 10000 10000) f.ends are start.timely start.ordered comes.may.0

      passed_asks : EndsAskInTurn names passed
      passed_asks = event_asks laws names (Passes 10000 10000 10000) f.ends are start.timely start.ordered comes.may.0 asks

      asking_passed : is_open passed.client.link.phase ≡ true → is_asking passed.client.link ≡ true
      asking_passed opened = choose (begins (l.clock + 10) l refl (ap is_open was.starts) was.young)
        where
          l : LinkState
          l = f.ends.client.link

          was : Asks l.clock l
          was = subst (λ (k : LinkState). Asks k.clock k) (sym mirror.1.client) is

          then_is : passed.client.link ≡ settled (l.clock + 10) l
          then_is = (passed_on f.ends).0 ∙ ap (λ (m : ℕ). settled m l) (ten_later f.ends.client.clock l.clock start.timely.client.clock)

          choose : Begins (l.clock + 10) l → is_asking passed.client.link ≡ true
          choose (late out) = absurd (cc (ap (λ (k : LinkState). is_open k.phase) then_is, out.is_out, opened))
          choose (on e young) = ap is_asking (then_is ∙ e) ∙ asks_asking l.clock l was

      mid_fresh : AreIn mid → IsFresh names mid
      mid_fresh = all_fresh laws names are (comings (f.ends.time + 10000) due) passed passed_timely passed_ordered passed_asks
          (λ both. fresh_asking names passed (both_of names passed passed_timely passed_ordered both) (asking_passed both.client))
          (comings_come (f.ends.time + 10000) due) (front_may names (comings (f.ends.time + 10000) due) own_work passed comes.may.1)

      client_mid : is_open mid.client.link.phase ≡ true
      client_mid = ap (λ (l : LinkState). is_open l.phase) left.then_client ∙ joining_in p is j.connected

      -- its server was inside: it says nothing till all has come
      was_in : is_open a.server.phase ≡ true → is_open q.server.phase ≡ true → AreUp (good_rounds n g).ends
      was_in e h = said_up (server_before (left.early_server ∙ ap (λ (ps : List Pdu). spellings names.key ps)
          (heard_mute (a.server.clock + 10) read.to_server a.server server_is refl opened few)))
        where
          server_is : Joined a.server.clock a.server
          server_is = server_joined names a facts_now e

          calls : Calls a.client a.server a.to_client
          calls = facts_now.calls (ap is_open is.starts) (asks_asking a.client.clock a.client is) e

          opened : is_open (all_heard (a.server.clock + 10) read.to_server (settled (a.server.clock + 10) a.server)).link.phase ≡ true
          opened = server_mid_in p server_is h

          few : (all_heard (a.server.clock + 10) read.to_server (settled (a.server.clock + 10) a.server)).link.sent ≤ a.server.sent
          few =
              let m = (mid_fresh (record { client = client_mid; server = ap (λ (l : LinkState). is_open l.phase) left.then_server ∙ opened })).server_few in
              let x = ap (λ (l : LinkState). l.sent) left.then_server in let y = calls.said in omega (arith, m, x, y)

      -- its server was outside: it grants its request in the round
      module _ (shut : is_open a.server.phase ≡ false) (h : is_open q.server.phase ≡ true) where
        abbrev nows : ℕ
        nows = a.server.clock + 10

        abbrev nowc : ℕ
        nowc = a.client.clock + 10

        abbrev cf : ℕ
        cf = a.client.own_first

        abbrev at : ℕ
        at = a.client.own_stamp

        asking_old : Asking names a
        asking_old = asking_of names w a mirror.1 ordered_now (waits_asked names f f.ends.sent all_were start.asked) (asks_asking a.client.clock a.client is)

        over : a.server.closed_at + 6000 ≤ nows
        over = choose (nat_le (a.server.closed_at + 6000) nows) refl
          where
            choose : (b : Bool) → nat_le (a.server.closed_at + 6000) nows ≡ b → a.server.closed_at + 6000 ≤ nows
            choose true e = leb-true _ _ e
            choose false e = absurd (cc (ap (λ (l : LinkState). is_open l.phase) (server_quiet p shut (leb-false _ _ e)), shut, h))

        -- nothing that the server said before comes
        none_old : a.to_client ≡ []
        none_old = none_lately a.server a.to_client (omega (arith, over)) (facts_now.called (ap is_open is.starts) shut)

        abbrev request_now : Pdu
        request_now = request names cf at

        abbrev server_cf : ℕ
        server_cf = wire a.server.own_first a.server.sent

        abbrev answer_now : Pdu
        answer_now = response names server_cf request_now nows

        abbrev beat_now : Pdu
        beat_now = first_beat names nowc cf answer_now

        abbrev IsAny : Pdu → Type 0
        IsAny x = (x ≡ request_now) ⊎ IsTalkPdu x

        any_comes : Each IsAny read.to_server
        any_comes = all_to_server names f due first_round IsAny (each_map _ IsAny (λ x e. inl e) a.to_server asking_old.due)
            (each_map IsTalkPdu IsAny (λ x talk. inr talk) q.to_server (joining_talks p is j.connected j.joined))

        abbrev rest_now : LinkState
        rest_now = resting_link names Role.Server nows a.server.closed_at (left_of a.server)

        abbrev heard_all : Step
        heard_all = all_heard nows read.to_server rest_now

        whole_round : the_step q.server q.to_client ≡ then_do heard_all (λ k. worked nows Role.Server k)
        whole_round = server_step p ∙ out_round names nows read.to_server a.server facts_now.server shut

        opened : is_open heard_all.link.phase ≡ true
        opened = open_then names nows a.server.closed_at cf at (left_of a.server) over IsAny (λ x e. e) read.to_server any_comes (ap (λ (s : Step). is_open s.link.phase) (sym whole_round) ∙ h)

        server_heard : mid.server.link ≡ heard_all.link
        server_heard = left.then_server ∙ ap (λ (l : LinkState). (all_heard nows read.to_server l).link) (out_settled names nows a.server facts_now.server shut)

        few : heard_all.link.sent ≤ 1
        few = let m = (mid_fresh (record { client = client_mid; server = ap (λ (l : LinkState). is_open l.phase) server_heard ∙ opened })).server_few in
            let x = ap (λ (l : LinkState). l.sent) server_heard in omega (arith, m, x)

        one : the_step q.server q.to_client ≡ the_step heard_all.link (answer_now ∷ [])
        one = whole_round ∙ round_one names nows a.server.closed_at cf at (left_of a.server) over read.to_server
            (says_one names nows a.server.closed_at cf at (left_of a.server) over IsAny (λ x e. e) read.to_server any_comes opened few) few

        said_one : q.to_client ≡ answer_now ∷ []
        said_one = ap (λ (s : Step). s.pdus) one

        -- so that comes to the client alone
        answers_come : Each (λ x. x ≡ answer_now) read.to_client
        answers_come = all_to_client names f due first_round (λ x. x ≡ answer_now) (subst (Each (λ x. x ≡ answer_now)) (sym none_old) tt) (subst (Each (λ x. x ≡ answer_now)) (sym said_one) (refl, tt))

        client_is : a.client ≡ asking_link names a.client.clock a.client.closed_at cf at
        client_is = asking_old.link

        joins_at : the_step q.client q.to_server ≡ the_step (joined_link names nowc a.client.closed_at cf at answer_now) (beat_now ∷ [])
        joins_at = whole ∙ enters names a.client.closed_at cf at a.client.clock server_cf nows asking_old.fits is.own is.young read.to_client
            (subst (Asks a.client.clock) client_is is) answers_come
            (ap (λ (s : Step). is_open s.link.phase) (sym whole) ∙ j.connected) (ap (λ (s : Step). is_asking s.link) (sym whole) ∙ j.joined)
          where
            whole : the_step q.client q.to_server ≡ end_round nowc read.to_client (asking_link names a.client.clock a.client.closed_at cf at)
            whole = client_step p ∙ ap (λ (l : LinkState). end_round nowc read.to_client l) client_is

        client_then : q.client ≡ joined_link names nowc a.client.closed_at cf at answer_now
        client_then = ap (λ (s : Step). s.link) joins_at

        beat_said : q.to_server ≡ beat_now ∷ []
        beat_said = ap (λ (s : Step). s.pdus) joins_at

        abbrev IsEitherNow : Pdu → Type 0
        IsEitherNow x = (x ≡ request_now) ⊎ (x ≡ beat_now)

        either_comes : Each IsEitherNow read.to_server
        either_comes = all_to_server names f due first_round IsEitherNow (each_map _ IsEitherNow (λ x e. inl e) a.to_server asking_old.due) (subst (Each IsEitherNow) (sym beat_said) (inr refl, tt))

        server_then : (q.server ≡ granted_link names nows a.server.closed_at server_cf request_now nows) ⊎ (q.server ≡ up_link names nows a.server.closed_at server_cf request_now nows (stamp nowc))
        server_then = by (comes_to names nows a.server.closed_at cf at (left_of a.server) over nowc asking_old.fits read.to_server either_comes opened)
          where
            by : (heard_all.link ≡ granted_link names nows a.server.closed_at server_cf request_now nows) ⊎ (heard_all.link ≡ up_link names nows a.server.closed_at server_cf request_now nows (stamp nowc))
                → (q.server ≡ granted_link names nows a.server.closed_at server_cf request_now nows) ⊎ (q.server ≡ up_link names nows a.server.closed_at server_cf request_now nows (stamp nowc))
            by (inl e) = inl (ap (λ (s : Step). s.link) one ∙ e)
            by (inr e) = inr (ap (λ (s : Step). s.link) one ∙ e)

        whole : q ≡ just_met names a.client.closed_at a.server.closed_at cf server_cf at nowc nows asking_old.fits (omega arith) (let o = is.own in omega (arith, o)) q.server
        whole = same_pair client_then refl said_one beat_said

        meets : Comes names 1560 q
        meets = subst (Comes names 1560) (sym whole) (met_comes names a.client.closed_at a.server.closed_at cf server_cf at nowc nows asking_old.fits (omega arith) (let o = is.own in omega (arith, o))
            q.server server_then n (omega (arith, long)) (subst (Seen names n) whole then_seen)
            (subst (Joined nowc) client_then (subst (λ (c : ℕ). Joined c q.client) client_clock j)))

      joins_up : AreUp (good_rounds n g).ends
      joins_up = by_server (is_open q.server.phase) refl
        where
          left_alone : is_open q.server.phase ≡ false → Comes names 1560 q
          left_alone e = let x = leaves_comes names 1 n q (omega arith) (omega (arith, long)) then_seen (server_leaves 0 (omega arith) j e) in
              record { rounds = x.rounds; soon = omega (arith, x.soon); healthy = x.healthy }

          was : is_open q.server.phase ≡ true → (b : Bool) → is_open a.server.phase ≡ b → AreUp (good_rounds n g).ends
          was h true e = was_in e h
          was h false e = comes_up (meets e h)

          by_server : (b : Bool) → is_open q.server.phase ≡ b → AreUp (good_rounds n g).ends
          by_server true h = was h (is_open a.server.phase) refl
          by_server false h = comes_up (left_alone h)

    -- ---- the sum

    pub up_asking : EndsAskInTurn names f.ends → Asks f.ends.client.link.clock f.ends.client.link → AreUp (good_rounds n g).ends
    up_asking asks asked = by (asking_step p is)
      where
        is : Asks a.client.clock a.client
        is = subst (λ (l : LinkState). Asks l.clock l) mirror.1.client asked

        by : AskingStep p → AreUp (good_rounds n g).ends
        by (goes_out shut) = comes_up (out_comes_then shut)
        by (joins j) = joins_up asks is j
        by (asks_on x mute own) = comes_up (asks_on_comes is x mute own)
