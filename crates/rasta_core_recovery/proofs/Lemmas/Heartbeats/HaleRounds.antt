-- Rounds at work of two ends that are healthy: each takes all that comes.
use Rattle.rasta_core_recovery.proofs.Words.Basics.{◌≡◌, ℕ, ◌∙◌, ◌+◌, ◌≤◌, ◌<◌, true, List, [], ◌∷◌, ◌++◌, length, refl, sym, ap, subst, arith}
use Rattle.rasta_core_recovery.proofs.Words.Links.{LinkState, is_open, settled, Step, Key, Role, Each, EndState, Call, reading_of, Event, Calls, Passes, Loses, Restarts, Elsewhere, MayRun, Start, run, started, Names, AreNames, Ends, called, Timely, later}
use Rattle.rasta_core_recovery.proofs.Words.Recovery.{StaysAtWork, Flow, flow_after, AreAtWork, IsCall, LeavesOpen, StayBelow, calls_in, recovery_rounds_at_work, work_round, work_rounds, LawsBelow, in_round}
use Rattle.rasta_core_recovery.proofs.Lemmas.Rounds.Links.{Pair}
use Rattle.rasta_core_recovery.proofs.Lemmas.Rounds.Acts.{Act, did, all_did, all_brought, acted, WorkRound, client_step, server_step, behind}
use Rattle.rasta_core_recovery.proofs.Lemmas.Rounds.Bridge.{client_alone, server_alone, mirror_of, front_may}
use Rattle.rasta_core_recovery.proofs.Lemmas.Windows.Confirmed.{Both}
use Rattle.rasta_core_recovery.proofs.Lemmas.Rounds.Facts.{are_together}
use Rattle.rasta_core_recovery.proofs.Lemmas.ComingUp.Hale.{Hale, hale_on, client_on, server_on, client_fits, server_fits, client_level, server_level, client_within, server_within}
use Rattle.rasta_core_recovery.proofs.Lemmas.Heartbeats.InTurn.{Whole, whole_joined, whole_rest}
use Rattle.rasta_core_recovery.proofs.Lemmas.Rounds.Mirror.{Mirrors}
use Rattle.rasta_core_recovery.proofs.Lemmas.Rounds.Holds.{Holds, holds_run, holds_after}
use Rattle.rasta_core_recovery.proofs.Lemmas.AtWork.WorkTurn.{IsSimplePdu}
use Rattle.rasta_core_recovery.proofs.Lemmas.Rounds.Within.{work_brings, each_split}
use Rattle.rasta_core_recovery.proofs.Lemmas.AtWork.WorkBridge.{AllAct, Follows, follows, key_of, one_client, one_server}
use Rattle.rasta_core_recovery.proofs.Lemmas.AtWork.WorkSum.{all_come}
use Rattle.rasta_core_recovery.proofs.Lemmas.AtWork.WorkRecovers.{leads, sound_of}
use Rattle.rasta_core_recovery.proofs.Lemmas.Rounds.Course.{Joined}
use Rattle.rasta_core_recovery.proofs.Lemmas.FirstRound.FirstAnswered.{chain_long}

-- ---- two ends in the middle of a round

-- what was done at an end so far, and what is done then
pub record Cut (key : Key) (now : ℕ) (old mid : LinkState) (calls : List Call) (acts : List Act) : Type 0 where
  pub one : List Act
  pub other : List Act
  pub are : acts ≡ one ++ other
  pub link : mid ≡ (all_did now one old).link
  pub other_as : AllAct key calls other

pub record BothCut (names : Names) (old mid : Ends) (rest : List Event) (client_acts server_acts : List Act) : Type 0 where
  pub client : Cut names.key (reading_of old.client.clock) old.client.link mid.client.link (calls_in Role.Client rest) client_acts
  pub server : Cut names.key (reading_of old.server.clock) old.server.link mid.server.link (calls_in Role.Server rest) server_acts
  pub server_clock : mid.server.clock ≡ old.server.clock

-- after one act more at an end
cut_then : (key : Key) (now : ℕ) (a b mid : LinkState) (calls : List Call) (act : Act) (acts : List Act) → b ≡ (did now act a).link → Cut key now b mid calls acts → Cut key now a mid calls (act ∷ acts)
unfolding all_did
cut_then key now a b mid calls act acts link c = record {
  one = act ∷ c.one;
  other = c.other;
  are = ap (λ (l : List Act). act ∷ l) c.are;
  link = c.link ∙ ap (λ (l : LinkState). (all_did now c.one l).link) link;
  other_as = c.other_as;
}

-- of an end that is as it was
cut_as : (key : Key) (a b : EndState) (mid : LinkState) (calls : List Call) (acts : List Act) → b ≡ a → Cut key (reading_of b.clock) b.link mid calls acts → Cut key (reading_of a.clock) a.link mid calls acts
cut_as key a b mid calls acts same c = subst (λ (e : EndState). Cut key (reading_of e.clock) e.link mid calls acts) same c

cut_at : (key : Key) (one other : ℕ) (l mid : LinkState) (calls : List Call) (acts : List Act) → other ≡ one → Cut key (reading_of other) l mid calls acts → Cut key (reading_of one) l mid calls acts
cut_at key one other l mid calls acts same c = subst (λ (n : ℕ). Cut key (reading_of n) l mid calls acts) same c

module _ (laws : LawsBelow) (names : Names) (are : AreNames names) (rest : List Event) where
  pub cut : (front : List Event) (ends : Ends) (client_acts server_acts : List Act) → Timely names ends → Each IsCall front → MayRun names front ends
      → AllAct names.key (calls_in Role.Client (front ++ rest)) client_acts → AllAct names.key (calls_in Role.Server (front ++ rest)) server_acts → BothCut names ends (run front ends) rest client_acts server_acts
  unfolding all_did
  cut [] ends ca sa is only may client_as server_as = record {
    client = record { one = []; other = ca; are = refl; link = refl; other_as = client_as };
    server = record { one = []; other = sa; are = refl; link = refl; other_as = server_as };
    server_clock = refl;
  }
  cut (Calls Role.Client call ∷ front) ends [] sa is only may client_as server_as = absurd client_as
  cut (Calls Role.Client call ∷ front) ends (act ∷ ca) sa is only may client_as server_as =
      let mid : Ends = called Role.Client call ends in
      let does = one_client call act ends (key_of names Role.Client ends.client.link call act is.client.identity client_as.0) in
      let alone = client_alone call ends in
      let c = cut front mid ca sa (laws.every_event_keeps_time names (Calls Role.Client call) ends are is may.0) only.1 may.1 client_as.1 server_as in record {
        client = cut_then names.key (reading_of ends.client.clock) ends.client.link mid.client.link (run front mid).client.link (calls_in Role.Client rest) act ca does.0
            (cut_at names.key ends.client.clock mid.client.clock mid.client.link (run front mid).client.link (calls_in Role.Client rest) ca alone.1 c.client);
        server = cut_as names.key ends.server mid.server (run front mid).server.link (calls_in Role.Server rest) sa alone.0 c.server;
        server_clock = c.server_clock ∙ ap (λ (e : EndState). e.clock) alone.0;
      }
  cut (Calls Role.Server call ∷ front) ends ca [] is only may client_as server_as = absurd server_as
  cut (Calls Role.Server call ∷ front) ends ca (act ∷ sa) is only may client_as server_as =
      let mid : Ends = called Role.Server call ends in
      let does = one_server call act ends (key_of names Role.Server ends.server.link call act is.server.identity server_as.0) in
      let alone = server_alone call ends in
      let c = cut front mid ca sa (laws.every_event_keeps_time names (Calls Role.Server call) ends are is may.0) only.1 may.1 client_as server_as.1 in record {
        server = cut_then names.key (reading_of ends.server.clock) ends.server.link mid.server.link (run front mid).server.link (calls_in Role.Server rest) act sa does.0
            (cut_at names.key ends.server.clock mid.server.clock mid.server.link (run front mid).server.link (calls_in Role.Server rest) sa alone.1 c.server);
        client = cut_as names.key ends.client mid.client (run front mid).client.link (calls_in Role.Client rest) ca alone.0 c.client;
        server_clock = c.server_clock ∙ alone.1;
      }
  cut (Elsewhere count ∷ front) ends ca sa is only may client_as server_as =
      let c = cut front (record ends { moment = ends.moment + count }) ca sa (laws.every_event_keeps_time names (Elsewhere count) ends are is may.0) only.1 may.1 client_as server_as in
      record { client = c.client; server = c.server; server_clock = c.server_clock }
  cut (Passes elapsed of_client of_server ∷ front) ends ca sa is only may client_as server_as = absurd only.0
  cut (Loses bytes ∷ front) ends ca sa is only may client_as server_as = absurd only.0
  cut (Restarts who clock first ∷ front) ends ca sa is only may client_as server_as = absurd only.0

-- ---- a round of two ends that are healthy at work takes all that comes

pub client_did : (p : Pair) (r : WorkRound p) → client_step p r ≡ all_did (p.client.clock + 10) r.client_acts (settled (p.client.clock + 10) p.client)
unfolding acted
client_did p r = refl

pub server_did : (p : Pair) (r : WorkRound p) → server_step p r ≡ all_did (p.server.clock + 10) r.server_acts (settled (p.server.clock + 10) p.server)
unfolding acted
server_did p r = refl

module _ (names : Names) (p : Pair) (r : WorkRound p) (h : Hale names p) where
  pub client_young : p.client.clock + 10 < p.client.own_stamp + 1800
  client_young = omega (arith, h.client.under)

  pub server_young : p.server.clock + 10 < p.server.own_stamp + 1800
  server_young = omega (arith, h.server.under)

  abbrev client_first : LinkState
  client_first = settled (p.client.clock + 10) p.client

  abbrev server_first : LinkState
  server_first = settled (p.server.clock + 10) p.server

  pub client_is : client_first ≡ record p.client { clock = p.client.clock + 10 }
  client_is = client_on names p r h.near client_young server_young

  pub server_is : server_first ≡ record p.server { clock = p.server.clock + 10 }
  server_is = server_on names p r h.near client_young server_young

  pub client_brings : all_brought r.client_acts ≡ p.to_client
  client_brings = work_brings Role.Client p.to_client r.client_acts r.client_work

  pub server_brings : all_brought r.server_acts ≡ p.to_server
  server_brings = work_brings Role.Server p.to_server r.server_acts r.server_work

  client_counts : client_first.expected + length (all_brought r.client_acts) ≡ p.server.sent
  client_counts =
      let w = h.near.to_client.way
      in let e = ap (λ (l : LinkState). l.expected) client_is
      in let n = w.mode.0.expected
      in let c = chain_long _ w.number w.count w.reading _ _ _ p.to_client w.chain
      in let b = ap length client_brings
      in omega (arith, e, n, c, b)

  server_counts : server_first.expected + length (all_brought r.server_acts) ≡ p.client.sent
  server_counts =
      let w = h.near.to_server.way
      in let e = ap (λ (l : LinkState). l.expected) server_is
      in let n = w.mode.0.expected
      in let c = chain_long _ w.number w.count w.reading _ _ _ p.to_server w.chain
      in let b = ap length server_brings
      in omega (arith, e, n, c, b)

  pub client_whole : Whole (p.client.clock + 10) r.client_acts client_first
  client_whole = record {
    within = client_within names p r h.near client_young server_young;
    room = r.client_room;
    simple = subst (Each IsSimplePdu) (sym client_brings) h.near.to_client.simple;
    fits = let f = server_fits names p r h.near client_young server_young in let c = client_counts in omega (arith, f, c);
    reaches = ap (λ (s : Step). s.link.expected) (sym (client_did p r)) ∙ client_level names p r h.near client_young server_young ∙ sym client_counts;
  }

  pub server_whole : Whole (p.server.clock + 10) r.server_acts server_first
  server_whole = record {
    within = server_within names p r h.near client_young server_young;
    room = r.server_room;
    simple = subst (Each IsSimplePdu) (sym server_brings) h.near.to_server.simple;
    fits = let f = client_fits names p r h.near client_young server_young in let c = server_counts in omega (arith, f, c);
    reaches = ap (λ (s : Step). s.link.expected) (sym (server_did p r)) ∙ server_level names p r h.near client_young server_young ∙ sym server_counts;
  }

-- two ends that are healthy at work are in one connection
pub both_of : (names : Names) (f : Flow) (p : Pair) → Mirrors names f p → Holds names f.ends → Hale names p → Both names f.ends
both_of names f p m holds h = record {
  timely = holds.timely;
  together = are_together names f.ends holds.timely holds.ordered client_in server_in;
  client_in = client_in;
  server_in = server_in;
}
  where
    client_in : is_open f.ends.client.link.phase ≡ true
    client_in = ap (λ (l : LinkState). is_open l.phase) m.client ∙ h.near.to_client.way.is.connected

    server_in : is_open f.ends.server.link.phase ≡ true
    server_in = ap (λ (l : LinkState). is_open l.phase) m.server ∙ h.near.to_server.way.is.connected

-- ---- what a round more leaves

-- Two ends that are healthy at work after rounds, and the pair that mirrors them.
pub record HaleAfter (names : Names) (g : Flow) : Type 0 where
  pub last : Pair
  pub mirrors : Mirrors names g last
  pub holds : Holds names g.ends
  pub hale : Hale names last

-- They are so whatever has happened to them before.
pub hale_after : LawsBelow → (names : Names) → AreNames names → (start : Start) (events : List Event) (passed : ℕ) (rounds : List (List Event)) → MayRun names events (started names start)
    → AreAtWork names rounds (flow_after names start events passed) → Each (Each LeavesOpen) rounds → StayBelow rounds (flow_after names start events passed)
    → recovery_rounds_at_work ≤ length rounds → HaleAfter names (work_rounds rounds (flow_after names start events passed))
hale_after laws names are start events passed rounds may work opens room long =
    let first = holds_after laws names start events are may in
    let f : Flow = flow_after names start events passed in
    let m = mirror_of names f first.timely in
    let l = leads laws names are rounds f m.0 first m.1 work opens room in record {
      last = l.last;
      mirrors = l.mirrors;
      holds = l.holds;
      hale = all_come names (length rounds) m.0 l.last long (sound_of names f m.0 first m.1) l.is_run l.climb;
    }

pub record Worked (names : Names) (g : Flow) (old : HaleAfter names g) (calls : List Event) : Type 0 where
  pub goes : Follows names g old.last calls
  pub hale : Hale names (behind old.last goes.round)
  pub holds : Holds names (work_round calls g).ends
  pub both : Both names (work_round calls g).ends

abbrev pub behind_it : (names : Names) (g : Flow) (old : HaleAfter names g) (calls : List Event) → Worked names g old calls → HaleAfter names (work_round calls g)
behind_it names g old calls w = record { last = behind old.last w.goes.round; mirrors = w.goes.mirrors; holds = w.holds; hale = w.hale }

pub worked : LawsBelow → (names : Names) → AreNames names → (g : Flow) (old : HaleAfter names g) (calls : List Event) → StaysAtWork names g calls → Worked names g old calls
worked laws names are g old calls stays = record {
  goes = w;
  hale = hale_on names old.last w.round old.hale;
  holds = then_holds;
  both = both_of names (work_round calls g) (behind old.last w.round) w.mirrors then_holds (hale_on names old.last w.round old.hale);
}
  where
    w : Follows names g old.last calls
    w = follows laws names are g old.last calls old.mirrors stays.work stays.opens stays.room

    then_holds : Holds names (work_round calls g).ends
    then_holds = holds_run laws names are (Passes 10000 10000 10000 ∷ calls) g.ends old.holds stays.work.may

-- ---- the middle of a round

-- Two ends behind the first part of a round: what was done at each so far, and that it takes all that comes in the rest.
pub record Middle (names : Names) (g : Flow) (old : HaleAfter names g) (front rest : List Event) (w : Follows names g old.last (front ++ rest)) : Type 0 where
  pub parts : BothCut names (later 10000 10000 10000 g.ends) (in_round front g) rest w.round.client_acts w.round.server_acts
  pub client_mid : (in_round front g).client.link ≡ (all_did (old.last.client.clock + 10) parts.client.one (settled (old.last.client.clock + 10) old.last.client)).link
  pub server_mid : (in_round front g).server.link ≡ (all_did (old.last.server.clock + 10) parts.server.one (settled (old.last.server.clock + 10) old.last.server)).link
  pub client_goes : Whole (old.last.client.clock + 10) parts.client.other (in_round front g).client.link
  pub server_goes : Whole (old.last.server.clock + 10) parts.server.other (in_round front g).server.link
  pub client_at : Joined (old.last.client.clock + 10) (in_round front g).client.link
  pub server_at : Joined (old.last.server.clock + 10) (in_round front g).server.link
  pub both : Both names (in_round front g)

module _ (laws : LawsBelow) (names : Names) (are : AreNames names) (g : Flow) (old : HaleAfter names g) (front rest : List Event) (stays : StaysAtWork names g (front ++ rest))
    (w : Follows names g old.last (front ++ rest)) where
  open old use {last as p, holds, hale as h}

  abbrev passed : Ends
  passed = later 10000 10000 10000 g.ends

  abbrev mid : Ends
  mid = in_round front g

  abbrev nowc : ℕ
  nowc = p.client.clock + 10

  abbrev nows : ℕ
  nows = p.server.clock + 10

  abbrev lc : LinkState
  lc = settled nowc p.client

  abbrev ls : LinkState
  ls = settled nows p.server

  may_front : MayRun names front passed
  may_front = front_may names front rest passed stays.work.may.1

  holds_mid : Holds names mid
  holds_mid = holds_run laws names are (Passes 10000 10000 10000 ∷ front) g.ends holds (stays.work.may.0, may_front)

  c : BothCut names passed mid rest w.round.client_acts w.round.server_acts
  c = cut laws names are rest front passed w.round.client_acts w.round.server_acts (laws.every_event_keeps_time names (Passes 10000 10000 10000) g.ends are holds.timely stays.work.may.0)
      (each_split IsCall front rest stays.work.only).0 may_front w.client_as w.server_as

  client_then : mid.client.link ≡ (all_did nowc c.client.one lc).link
  client_then = c.client.link ∙ ap (λ (n : ℕ). (all_did n c.client.one passed.client.link).link) w.client_begins.now ∙ ap (λ (l : LinkState). (all_did nowc c.client.one l).link) w.client_begins.link

  server_then : mid.server.link ≡ (all_did nows c.server.one ls).link
  server_then = c.server.link ∙ ap (λ (n : ℕ). (all_did n c.server.one passed.server.link).link) w.server_begins.now ∙ ap (λ (l : LinkState). (all_did nows c.server.one l).link) w.server_begins.link

  client_rest : Whole nowc c.client.other mid.client.link
  client_rest = subst (Whole nowc c.client.other) (sym client_then) (whole_rest nowc c.client.one c.client.other lc (subst (λ (acts : List Act). Whole nowc acts lc) c.client.are (client_whole names p w.round h)))

  server_rest : Whole nows c.server.other mid.server.link
  server_rest = subst (Whole nows c.server.other) (sym server_then) (whole_rest nows c.server.one c.server.other ls (subst (λ (acts : List Act). Whole nows acts ls) c.server.are (server_whole names p w.round h)))

  client_in : Joined nowc mid.client.link
  client_in = whole_joined nowc c.client.other mid.client.link client_rest

  server_in : Joined nows mid.server.link
  server_in = whole_joined nows c.server.other mid.server.link server_rest

  pub middle : Middle names g old front rest w
  middle = record {
    parts = c;
    client_mid = client_then;
    server_mid = server_then;
    client_goes = client_rest;
    server_goes = server_rest;
    client_at = client_in;
    server_at = server_in;
    both = record {
      timely = holds_mid.timely;
      together = are_together names mid holds_mid.timely holds_mid.ordered client_in.connected server_in.connected;
      client_in = client_in.connected;
      server_in = server_in.connected;
    };
  }
