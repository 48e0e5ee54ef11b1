-- What is given in a round at work is taken in the next.
use Rattle.rasta_core_recovery.proofs.Words.Basics.{◌≡◌, ℕ, zero, suc, ◌∙◌, ◌+◌, ◌^◌, ◌≤◌, ◌<◌, true, false, List, [], ◌∷◌, ◌++◌, length, take, refl, sym, ap, subst, arith}
use Rattle.rasta_core_recovery.proofs.Words.Links.{stops_at_greatest, LinkState, is_open, is_asking, is_up, EndState, Ends, later, Event, MayRun, Passes, Start, started, Each, Names, AreNames, EndFlow, sent, Plays, joined, left, HasJoined, Way as Order, AreTogether}
use Rattle.rasta_core_recovery.proofs.Words.Recovery.{Flow, flow_after, BeginAtWork, HandOver, HasTaken, HaveRoom, IsAtWork, LeavesOpen, StayBelow, recovery_rounds_at_work, work_round, work_rounds, LawsBelow}
use Rattle.rasta_core.specs.EndFlow.{later as waiting_from}
use Rattle.rasta_core.specs.LinkAndFlow.{asking}
use Rattle.rasta_core_recovery.proofs.Lemmas.Rounds.Links.{Pair}
use Rattle.rasta_core_recovery.proofs.Lemmas.Rounds.Acts.{behind}
use Rattle.rasta_core_recovery.proofs.Lemmas.Rounds.Given.{Grows}
use Rattle.rasta_core_recovery.proofs.Lemmas.Rounds.Course.{Joined}
use Rattle.rasta_core_recovery.proofs.Lemmas.Rounds.Mirror.{Mirrors}
use Rattle.rasta_core_recovery.proofs.Lemmas.Rounds.Facts.{are_together}
use Rattle.rasta_core_recovery.proofs.Lemmas.Rounds.Holds.{Holds, holds_run, holds_after}
use Rattle.rasta_core_recovery.proofs.Lemmas.Rounds.Within.{Continues}
use Rattle.rasta_core_recovery.proofs.Lemmas.ComingUp.Hale.{Hale, Keeps}
use Rattle.rasta_core_recovery.proofs.Lemmas.AtWork.WorkBridge.{Follows, follows}
use Rattle.rasta_core_recovery.proofs.Lemmas.AtWork.WorkFates.{Soon, soon_on, soon_keeps, soon_up}
use Rattle.rasta_core_recovery.proofs.Lemmas.FirstRound.AnyFirstWork.{Begins, begins}
use Rattle.rasta_core_recovery.proofs.Lemmas.Lasting.LongGiven.{none_from}

-- ---- lists

beginning_of : {X : Type 0} (n : ℕ) (xs ys : List X) → length xs ≤ n → (rest : List X) × (take n (xs ++ ys) ≡ xs ++ rest)
beginning_of n [] ys most = (take n ys, refl)
beginning_of zero (x ∷ xs) ys most = absurd (omega (arith, most))
beginning_of (suc n) (x ∷ xs) ys most = let more = beginning_of n xs ys (omega (arith, most)) in (more.0, ap (λ l. x ∷ l) more.1)

no_more : {X : Type 0} (n : ℕ) (xs : List X) → length (take n xs) ≤ length xs
no_more zero xs = omega arith
no_more (suc n) [] = omega arith
no_more (suc n) (x ∷ xs) = let more = no_more n xs in omega (arith, more)

count_both : {X : Type 0} (xs ys : List X) → length xs ≤ length (xs ++ ys)
count_both [] ys = omega arith
count_both (x ∷ xs) ys = let more = count_both xs ys in omega (arith, more)

pub fits_in : (n : ℕ) → n < 2 ^ 31 → stops_at_greatest n ≡ n
fits_in n few = grind (arith, few)

-- ---- one direction

module _ (old_giver new_giver new_taker : EndState) (a c b t : EndFlow)
    (x : HasJoined old_giver.link a c) (before : Order a c) (few_before : length a.given ≤ length a.flow) (given_before : a.given ≡ old_giver.given)
    (y : HasJoined new_giver.link b t) (z : HasJoined new_taker.link t b) (now : Order b t) (few_now : length b.given ≤ length b.flow) (given_now : b.given ≡ new_giver.given) (taken_now : t.taken ≡ new_taker.taken)
    (level : new_taker.link.expected ≡ old_giver.link.sent) (grows : Grows old_giver.link new_giver.link) (goes : Continues old_giver new_giver) where
  old_count : old_giver.link.given ≡ length a.given
  old_count = x.inside.keeps.given ∙ fits_in (length a.given) (omega (arith, few_before, before.counts.fits))

  new_count : new_giver.link.given ≡ length b.given
  new_count = y.inside.keeps.given ∙ fits_in (length b.given) (omega (arith, few_now, now.counts.fits))

  reached : t.reached ≡ old_giver.link.sent
  reached = sym z.expected ∙ level

  -- nothing waited under a PDU that wasn't sent yet
  waited : waiting_from old_giver.link.sent old_giver.link.waiting ≡ 0
  waited = ap (waiting_from old_giver.link.sent) x.inside.keeps.waiting ∙ ap (λ (n : ℕ). waiting_from n a.waiting) x.inside.counted ∙ none_from 0 (sent a) a.waiting before.waits.rises

  waits : waiting_from old_giver.link.sent new_giver.link.waiting + length a.given ≤ length b.given
  waits = let few = (grows.waits (omega (arith, new_count, few_now, now.counts.fits))).1 old_giver.link.sent (omega arith) in omega (arith, few, old_count, new_count, waited)

  level_now : b.passed t.reached + waiting_from old_giver.link.sent new_giver.link.waiting ≡ length b.given
  level_now = ap (λ (n : ℕ). b.passed t.reached + n) (ap (λ (n : ℕ). waiting_from n new_giver.link.waiting) (sym reached) ∙ ap (waiting_from t.reached) y.inside.keeps.waiting) ∙ now.level

  most : length old_giver.given ≤ b.passed t.reached
  most = omega (arith, waits, level_now, ap length given_before)

  some : (rest : List (List ℕ)) × (take (b.passed t.reached) (old_giver.given ++ goes.more) ≡ old_giver.given ++ rest)
  some = beginning_of (b.passed t.reached) old_giver.given goes.more most

  taken_is : new_taker.taken ≡ old_giver.given ++ some.0
  taken_is = sym taken_now ∙ now.taken ∙ ap (take (b.passed t.reached)) (given_now ∙ goes.given) ∙ some.1

  few_taken : length t.taken < 2 ^ 31
  few_taken = let fewer = no_more (b.passed t.reached) b.given in omega (arith, fewer, ap length now.taken, few_now, now.counts.fits)

  taken_count : new_taker.link.taken ≡ length t.taken
  taken_count = z.inside.keeps.taken ∙ fits_in (length t.taken) few_taken

  all_taken : HasTaken old_giver new_taker
  all_taken = record {
    rest = some.0;
    taken = taken_is;
    counts = let more = count_both old_giver.given some.0 in omega (arith, old_count, ap length given_before, more, ap length taken_is, ap length taken_now, taken_count);
    few = omega (arith, taken_count, few_taken);
  }

-- ---- both

plays_in : (l : LinkState) (own other : EndFlow) → is_open l.phase ≡ true → is_asking l ≡ false → Plays l own other → HasJoined l own other
plays_in l own other is_in joined_is (joined h) = h
plays_in l own other is_in joined_is (asking a) = absurd (cc (a.asking, joined_is))
plays_in l own other is_in joined_is (left out keeps) = absurd (cc (out, is_in))

-- both ends have joined
record BothJoined (ends : Ends) : Type 0 where
  client : Joined ends.client.link.clock ends.client.link
  server : Joined ends.server.link.clock ends.server.link

module _ (old new : Ends) (names : Names) (o : AreTogether names old) (n : AreTogether names new) (oj : BothJoined old) (nj : BothJoined new)
    (client_goes : Continues old.client new.client) (server_goes : Continues old.server new.server)
    (at_client : new.client.link.expected ≡ old.server.link.sent) (at_server : new.server.link.expected ≡ old.client.link.sent)
    (of_client : Grows old.client.link new.client.link) (of_server : Grows old.server.link new.server.link) (client_up : is_up old.client.link.phase ≡ true) where
  old_c : HasJoined old.client.link o.client o.server
  old_c = plays_in old.client.link o.client o.server oj.client.connected oj.client.joined o.client_plays

  old_s : HasJoined old.server.link o.server o.client
  old_s = plays_in old.server.link o.server o.client oj.server.connected oj.server.joined o.server_plays

  new_c : HasJoined new.client.link n.client n.server
  new_c = plays_in new.client.link n.client n.server nj.client.connected nj.client.joined n.client_plays

  new_s : HasJoined new.server.link n.server n.client
  new_s = plays_in new.server.link n.server n.client nj.server.connected nj.server.joined n.server_plays

  both_hand_over : HandOver old new
  both_hand_over = record {
    client_up = client_up;
    connection = o.connection;
    old_client = o.of_client;
    old_server = o.of_server;
    new_client = client_goes.connection ∙ o.of_client;
    new_server = server_goes.connection ∙ o.of_server;
    to_client = all_taken old.server new.server new.client o.server o.client n.server n.client old_s o.order.back o.server_few o.server_given new_s new_c n.order.back n.server_few n.server_given n.client_taken at_client of_server server_goes;
    to_server = all_taken old.client new.client new.server o.client o.server n.client n.server old_c o.order.there o.client_few o.client_given new_c new_s n.order.there n.client_few n.client_given n.server_taken at_server of_client client_goes;
  }

-- ---- a round of two ends that are ready at work after it

joined_both : (names : Names) (f : Flow) (p : Pair) → Mirrors names f p → Joined p.client.clock p.client → Joined p.server.clock p.server → BothJoined f.ends
joined_both names f p m c s = record {
  client = subst (λ (l : LinkState). Joined l.clock l) (sym m.client) c;
  server = subst (λ (l : LinkState). Joined l.clock l) (sym m.server) s;
}

module _ (names : Names) (f : Flow) (p : Pair) (calls : List Event) (m : Mirrors names f p) (now : Holds names f.ends) (later_on : Holds names (work_round calls f).ends) (h : Soon names p) (w : Follows names f p calls) where
  keeps : Keeps p w.round
  keeps = soon_keeps names p w.round h

  then_hale : Hale names (behind p w.round)
  then_hale = soon_on names p w.round h

  oj : BothJoined f.ends
  oj = joined_both names f p m keeps.client keeps.server

  nj : BothJoined (work_round calls f).ends
  nj = joined_both names (work_round calls f) (behind p w.round) w.mirrors then_hale.near.to_client.way.is then_hale.near.to_server.way.is

  round_hands_over : HandOver f.ends (work_round calls f).ends
  round_hands_over = both_hand_over f.ends (work_round calls f).ends names
      (are_together names f.ends now.timely now.ordered oj.client.connected oj.server.connected)
      (are_together names (work_round calls f).ends later_on.timely later_on.ordered nj.client.connected nj.server.connected) oj nj
      (w.client_on keeps.client_within) (w.server_on keeps.server_within)
      (ap (λ (l : LinkState). l.expected) w.mirrors.client ∙ keeps.client_level ∙ ap (λ (l : LinkState). l.sent) (sym m.server))
      (ap (λ (l : LinkState). l.expected) w.mirrors.server ∙ keeps.server_level ∙ ap (λ (l : LinkState). l.sent) (sym m.client))
      (subst (Grows f.ends.client.link) (sym w.mirrors.client) (subst (λ (l : LinkState). Grows l (behind p w.round).client) (sym m.client) keeps.client_grows))
      (subst (Grows f.ends.server.link) (sym w.mirrors.server) (subst (λ (l : LinkState). Grows l (behind p w.round).server) (sym m.server) keeps.server_grows))
      (ap (λ (l : LinkState). is_up l.phase) m.client ∙ soon_up names p h)

pub hands_over : LawsBelow → (names : Names) (start : Start) (events : List Event) (passed : ℕ) (rounds : List (List Event)) (calls : List Event) → AreNames names → MayRun names events (started names start)
    → BeginAtWork names rounds (flow_after names start events passed) → Each (Each LeavesOpen) rounds → StayBelow rounds (flow_after names start events passed)
    → recovery_rounds_at_work ≤ suc (length rounds)
    → IsAtWork names (work_rounds rounds (flow_after names start events passed)) calls → Each LeavesOpen calls → HaveRoom calls (later 10000 10000 10000 (work_rounds rounds (flow_after names start events passed)).ends)
    → HandOver (work_rounds rounds (flow_after names start events passed)).ends (work_round calls (work_rounds rounds (flow_after names start events passed))).ends
hands_over laws names start events passed rounds calls are may work opens room long last last_open last_room =
    let first = holds_after laws names start events are may in
    let f : Flow = flow_after names start events passed in
    let l : Begins names (length rounds) (work_rounds rounds f) = begins laws names are rounds f first work opens room in
    let g : Flow = work_rounds rounds f in
    let soon = l.soon (omega (arith, long)) in
    round_hands_over names g l.last calls l.mirrors l.holds (holds_run laws names are (Passes 10000 10000 10000 ∷ calls) g.ends l.holds last.may) soon
    (follows laws names are g l.last calls l.mirrors last last_open last_room)
