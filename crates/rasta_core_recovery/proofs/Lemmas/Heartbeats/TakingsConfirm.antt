-- What a server takes in a round at work confirms what its client had taken before the round before.
use Rattle.rasta_core_recovery.proofs.Words.Basics.{◌≡◌, ℕ, ◌∙◌, ◌+◌, ◌-◌, ◌^◌, ◌≤◌, ◌<◌, List, [], ◌∷◌, ◌++◌, length, refl, sym, ap, subst, arith, false}
use Rattle.rasta_core_recovery.proofs.Words.Links.{LinkState, confirmed_items, is_asking, settled, Step, Pdu, Each, Event, MayRun, Start, started, Names, AreNames, Ends, Rises}
use Rattle.rasta_core_recovery.proofs.Words.Recovery.{StaysAtWork, in_round, Flow, flow_after, AreAtWork, LeavesOpen, StayBelow, recovery_rounds_at_work, work_round, work_rounds, LawsBelow}
use Rattle.rasta_core_recovery.proofs.Lemmas.Rounds.Links.{Pair}
use Rattle.rasta_core_recovery.proofs.Lemmas.Rounds.Acts.{Act, Hears, Beats, Asks, Gives, did, all_did, all_brought, brought, HasRoom, Roomy, WorkRound, behind}
use Rattle.rasta_core_recovery.proofs.Lemmas.Windows.Confirmed.{Both, sides_of}
use Rattle.rasta_core_recovery.proofs.Lemmas.Rounds.Course.{Joined, lively}
use Rattle.rasta_core_recovery.proofs.Lemmas.Rounds.Given.{Grows, grows_then}
use Rattle.rasta_core_recovery.proofs.Lemmas.ComingUp.Hale.{room_first, server_grows}
use Rattle.rasta_core_recovery.proofs.Lemmas.Heartbeats.InTurn.{Tells, Whole, all_tell, last_of, same_first, whole_joined, whole_then}
use Rattle.rasta_core_recovery.proofs.Lemmas.Rounds.Lists.{each_append}
use Rattle.rasta_core_recovery.proofs.Lemmas.Rounds.Own.{IsOwnAct, own_utters}
use Rattle.rasta_core_recovery.proofs.Lemmas.Rounds.Within.{Within, all_grow, brought_both, each_split}
use Rattle.rasta_core_recovery.proofs.Lemmas.AtWork.WorkBridge.{Follows, follows}
use Rattle.rasta_core_recovery.proofs.Lemmas.AtWork.WorkTurn.{IsSimplePdu}
use Rattle.rasta_core_recovery.proofs.Lemmas.Heartbeats.AllConfirmed.{few_given, some_reached, taken_confirmed, waits_behind}
use Rattle.rasta_core_recovery.proofs.Lemmas.Heartbeats.HaleRounds.{HaleAfter, Worked, behind_it, both_of, client_did, client_is, client_whole, client_young, hale_after, server_brings, server_is, server_whole, server_young, worked, Middle, middle}
use Rattle.rasta_core_recovery.proofs.Lemmas.Rounds.Blocks.{as_many_both}

-- ---- the first part of a round

-- an end that takes all that comes does so in the first part of it
whole_front : (now : ℕ) (one other : List Act) (l : LinkState) → Whole now (one ++ other) l → Whole now one l
unfolding all_did
whole_front now [] other l w = record {
  within = whole_joined now other l w;
  room = room_first now other l w.room;
  simple = tt;
  fits = let fits = w.fits in omega (arith, fits);
  reaches = omega arith;
}
whole_front now (a ∷ one) other l w =
    let next = whole_then now a (one ++ other) l w
    in let more = whole_front now one other (did now a l).link next.0
    in let level = next.1
    in let many = as_many_both (brought a) (all_brought one)
    in let fits = more.fits
    in let reaches = more.reaches
    in record {
      within = (w.within.0, more.within);
      room = (w.room.0, more.room);
      simple = each_append IsSimplePdu (brought a) (all_brought one) (each_split IsSimplePdu (brought a) (all_brought (one ++ other)) w.simple).0 more.simple;
      fits = omega (arith, level, many, fits);
      reaches = omega (arith, level, many, reaches);
    }

own_taken : (now : ℕ) (a : Act) (l : LinkState) → IsOwnAct a → Joined now l → HasRoom l → (did now a l).link.taken ≡ l.taken
own_taken now a l own is room = ap (λ (j : LinkState). j.taken) (own_utters now a l own (lively now l is) room).same

-- where nothing comes no item is taken
none_taken : (now : ℕ) (acts : List Act) (l : LinkState) → Within now acts l → Roomy now acts l → all_brought acts ≡ [] → (all_did now acts l).link.taken ≡ l.taken
unfolding all_did
none_taken now [] l within room none = refl
none_taken now (Hears p ∷ acts) l within room none = absurd (cc none)
none_taken now (Beats ∷ acts) l within room none = none_taken now acts (did now Beats l).link within.1 room.1 none ∙ own_taken now Beats l tt within.0 room.0
none_taken now (Asks ∷ acts) l within room none = none_taken now acts (did now Asks l).link within.1 room.1 none ∙ own_taken now Asks l tt within.0 room.0
none_taken now (Gives item ∷ acts) l within room none = none_taken now acts (did now (Gives item) l).link within.1 room.1 none ∙ own_taken now (Gives item) l tt within.0 room.0

-- ---- two rounds

module _ (laws : LawsBelow) (names : Names) (are : AreNames names) (g : Flow) (old : HaleAfter names g)
    (one front rest : List Event) (first_round : StaysAtWork names g one) (second_round : StaysAtWork names (work_round one g) (front ++ rest))
    (takes : (work_round one g).ends.server.link.taken < (in_round front (work_round one g)).server.link.taken) where
  open old use {last as p, mirrors as m, holds, hale as h}

  abbrev whole : List Event
  whole = front ++ rest

  one_round : Worked names g old one
  one_round = worked laws names are g old one first_round

  open one_round use {goes as w1, hale as h1}

  abbrev r1 : WorkRound p
  r1 = w1.round

  abbrev p1 : Pair
  p1 = behind p r1

  abbrev g1 : Flow
  g1 = work_round one g

  w2 : Follows names g1 p1 whole
  w2 = follows laws names are g1 p1 whole w1.mirrors second_round.work second_round.opens second_round.room

  abbrev r2 : WorkRound p1
  r2 = w2.round

  abbrev mid : Ends
  mid = in_round front g1

  abbrev nowc : ℕ
  nowc = p.client.clock + 10

  abbrev lc : LinkState
  lc = settled nowc p.client

  -- of the second round
  abbrev nows : ℕ
  nows = p1.server.clock + 10

  abbrev ls : LinkState
  ls = settled nows p1.server

  half : Middle names g1 (behind_it names g old one one_round) front rest w2
  half = middle laws names are g1 (behind_it names g old one one_round) front rest second_round w2

  open half use {parts as c, server_mid, both as both_mid}

  server_all : Whole nows (c.server.one ++ c.server.other) ls
  server_all = subst (λ (acts : List Act). Whole nows acts ls) c.server.are (server_whole names p1 r2 h1)

  server_front : Whole nows c.server.one ls
  server_front = whole_front nows c.server.one c.server.other ls server_all

  both0 : Both names g.ends
  both0 = both_of names g p m holds h

  few_mid : mid.server.link.given < 2 ^ 31
  few_mid = few_given mid (sides_of names mid both_mid) mid.server.link both_mid.together.server_few refl

  joins : is_asking g.ends.client.link ≡ false
  joins = ap is_asking m.client ∙ h.near.to_client.way.is.joined

  ls_is : ls ≡ record p1.server { clock = nows }
  ls_is = server_is names p1 r2 h1

  lc_is : lc ≡ record p.client { clock = nowc }
  lc_is = client_is names p r1 h

  grows : Grows g.ends.server.link mid.server.link
  grows = subst (λ (l : LinkState). Grows l mid.server.link) (sym m.server)
      (grows_then p.server p1.server mid.server.link (server_grows names p r1 h.near (client_young names p r1 h) (server_young names p r1 h))
      (subst (Grows p1.server) (sym server_mid) (grows_then p1.server ls (all_did nows c.server.one ls).link
      (subst (Grows p1.server) (sym ls_is) (record { sent = omega arith; waits = λ few. (omega arith, λ number most. omega arith) }))
      (all_grow nows c.server.one ls (whole_joined nows c.server.one ls server_front) server_front.room server_front.simple).1)))

  -- ---- what the client says in the first round

  abbrev reached : ℕ
  reached = g.ends.client.link.expected

  reaches_some : 1 ≤ reached
  reaches_some = some_reached g.ends (sides_of names g.ends both0) both0.together.server_few joins mid.server.link few_mid grows

  abbrev least : ℕ
  least = reached - 1

  abbrev most : ℕ
  most = p1.client.expected - 1

  abbrev Q : Pdu → Type 0
  Q = Tells p1.server.own_first least most

  client_first : Whole nowc r1.client_acts lc
  client_first = client_whole names p r1 h

  is_first : lc.partner_first ≡ p1.server.own_first
  is_first = sym (ap (λ (s : Step). s.link.partner_first) (client_did p r1) ∙ same_first nowc r1.client_acts lc client_first) ∙ h1.near.to_client.way.first

  told : Each Q p1.to_server
  told =
      let some = reaches_some
      in let reaches = client_first.reaches
      in let fits = client_first.fits
      in let end = ap (λ (s : Step). s.link.expected) (client_did p r1)
      in let is = ap (λ (l : LinkState). l.expected) lc_is ∙ ap (λ (l : LinkState). l.expected) (sym m.client)
      in subst (λ (s : Step). Each Q s.pdus) (sym (client_did p r1))
      (all_tell p1.server.own_first least most nowc r1.client_acts lc client_first is_first (omega (arith, some, is)) (omega (arith, some, reaches, end, is)) (omega (arith, some, reaches, fits, end, is)))

  -- ---- what the server hears of it in the second

  brings : all_brought c.server.one ++ all_brought c.server.other ≡ p1.to_server
  brings = sym (brought_both c.server.one c.server.other) ∙ (ap all_brought (sym c.server.are) ∙ server_brings names p1 r2 h1)

  heard : Each Q (all_brought c.server.one)
  heard = (each_split Q (all_brought c.server.one) (all_brought c.server.other) (subst (Each Q) (sym brings) told)).0

  -- else it had taken no item
  some_heard : all_brought c.server.one ≡ [] → ⊥
  some_heard none =
      let same = none_taken nows c.server.one ls server_front.within server_front.room none
      in let end = ap (λ (l : LinkState). l.taken) server_mid
      in let was = ap (λ (l : LinkState). l.taken) ls_is
      in let is = ap (λ (l : LinkState). l.taken) w1.mirrors.server
      in let more = takes
      in omega (arith, same, end, was, is, more)

  above : Rises (least + 1) mid.server.link.sent mid.server.link.waiting
  above =
      let some = h1.near.to_client.way.some
      in let far = h1.near.to_client.way.most
      in subst (λ (l : LinkState). Rises (least + 1) l.sent l.waiting) (sym server_mid)
      (waits_behind g1.ends (sides_of names g1.ends one_round.both) nows c.server.one least most (all_brought c.server.one) p1.server w1.mirrors.server ls_is server_front (omega (arith, some, far)) refl
      (last_of Q (all_brought c.server.one) heard some_heard))

  round_confirmed : g.ends.client.link.taken ≤ confirmed_items mid.server.link
  round_confirmed = taken_confirmed g.ends (sides_of names g.ends both0) both0.together.server_few joins mid.server.link few_mid grows (least + 1) (let some = reaches_some in omega (arith, some)) above

pub takings_confirm : LawsBelow → (names : Names) (start : Start) (events : List Event) (passed : ℕ) (rounds : List (List Event)) (one front rest : List Event) → AreNames names → MayRun names events (started names start)
    → AreAtWork names rounds (flow_after names start events passed) → Each (Each LeavesOpen) rounds → StayBelow rounds (flow_after names start events passed) → recovery_rounds_at_work ≤ length rounds
    → StaysAtWork names (work_rounds rounds (flow_after names start events passed)) one
    → StaysAtWork names (work_round one (work_rounds rounds (flow_after names start events passed))) (front ++ rest)
    → (work_round one (work_rounds rounds (flow_after names start events passed))).ends.server.link.taken < (in_round front (work_round one (work_rounds rounds (flow_after names start events passed)))).server.link.taken
    → (work_rounds rounds (flow_after names start events passed)).ends.client.link.taken ≤ confirmed_items (in_round front (work_round one (work_rounds rounds (flow_after names start events passed)))).server.link
takings_confirm laws names start events passed rounds one front rest are may work opens room long =
    round_confirmed laws names are (work_rounds rounds (flow_after names start events passed)) (hale_after laws names are start events passed rounds may work opens room long) one front rest
