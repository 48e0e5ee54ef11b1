-- An end at work that is up says something in each 300 ms: its heartbeat is due then.
use Rattle.rasta_core_recovery.proofs.Words.Basics.{◌≡◌, ℕ, ◌∙◌, ◌+◌, ◌*◌, ◌≤◌, ◌<◌, Bool, true, false, nat_le, List, [], ◌∷◌, length, refl, ap, arith, leb-false, leb-true}
use Rattle.rasta_core_recovery.proofs.Words.Links.{LinkState, Each, Event, MayRun, Start, started, Names, AreNames}
use Rattle.rasta_core_recovery.proofs.Words.Recovery.{speaking_rounds, Flow, flow_after, AreAtWork, LeavesOpen, StayBelow, recovery_rounds_at_work, work_round, work_rounds, LawsBelow}
use Rattle.rasta_core_recovery.proofs.Lemmas.Rounds.Links.{Pair}
use Rattle.rasta_core_recovery.proofs.Lemmas.Rounds.Acts.{WorkRound, behind}
use Rattle.rasta_core_recovery.proofs.Lemmas.ComingUp.Hale.{Hale, Onward, hale_on, server_level, client_grows, server_onward, client_level, client_onward, server_grows}
use Rattle.rasta_core_recovery.proofs.Lemmas.Rounds.Lists.{none_are}
use Rattle.rasta_core_recovery.proofs.Lemmas.Rounds.Mirror.{Mirrors}
use Rattle.rasta_core_recovery.proofs.Lemmas.AtWork.WorkBridge.{Follows, follows}
use Rattle.rasta_core_recovery.proofs.Lemmas.Heartbeats.HaleRounds.{HaleAfter, client_young, hale_after, server_young}
use Rattle.rasta_core_recovery.proofs.Lemmas.FirstRound.FirstAnswered.{chain_long}

-- One end at two moments of a connection: time has passed, it has sent no fewer PDUs, and where it has sent no more it last sent when
-- it did.
pub record Lasts (elapsed : ℕ) (l k : LinkState) : Type 0 where
  pub clock : k.clock ≡ l.clock + elapsed
  pub sent : l.sent ≤ k.sent
  pub same : k.sent ≡ l.sent → k.sent_at ≡ l.sent_at

pub lasts_then : (one other : ℕ) (l k j : LinkState) → Lasts one l k → Lasts other k j → Lasts (one + other) l j
lasts_then one other l k j a b = record {
  clock = omega (arith, a.clock, b.clock);
  sent = omega (arith, a.sent, b.sent);
  same = λ e. b.same (omega (arith, e, a.sent, b.sent)) ∙ a.same (omega (arith, e, a.sent, b.sent));
}

-- after so many rounds it would be silent for longer than it may
sent_more : (rounds : ℕ) (l k : LinkState) → speaking_rounds ≤ rounds → Lasts (10 * rounds) l k → l.sent_at ≤ l.clock → k.clock < k.sent_at + 300 → l.sent < k.sent
sent_more rounds l k long lasts before due = choose (nat_le k.sent l.sent) refl
  where
    choose : (b : Bool) → nat_le k.sent l.sent ≡ b → l.sent < k.sent
    choose true e =
        let few = leb-true _ _ e
        in let clock = lasts.clock
        in let same = lasts.same (omega (arith, few, lasts.sent))
        in absurd (omega (arith, long, clock, same, due, before))
    choose false e = omega (arith, leb-false _ _ e)

module _ (names : Names) (p : Pair) (r : WorkRound p) (h : Hale names p) where
  abbrev then_on : Pair
  then_on = behind p r

  abbrev client_in_time : p.client.clock + 10 < p.client.own_stamp + 1800
  client_in_time = client_young names p r h

  abbrev server_in_time : p.server.clock + 10 < p.server.own_stamp + 1800
  server_in_time = server_young names p r h

  of_client : Onward p.server p.client p.to_server then_on.server then_on.client then_on.to_server
  of_client = server_onward names p r h.near client_in_time server_in_time

  of_server : Onward p.client p.server p.to_client then_on.client then_on.server then_on.to_client
  of_server = client_onward names p r h.near client_in_time server_in_time

  -- what is said after the round is what was sent in it
  pub client_counted : p.client.sent + length then_on.to_server ≡ then_on.client.sent
  client_counted =
      let w = (hale_on names p r h).near.to_server.way
      in let n = w.mode.0.expected
      in let c = chain_long _ w.number w.count w.reading _ _ _ then_on.to_server w.chain
      in let level = server_level names p r h.near client_in_time server_in_time
      in omega (arith, n, c, level)

  pub server_counted : p.server.sent + length then_on.to_client ≡ then_on.server.sent
  server_counted =
      let w = (hale_on names p r h).near.to_client.way
      in let n = w.mode.0.expected
      in let c = chain_long _ w.number w.count w.reading _ _ _ then_on.to_client w.chain
      in let level = client_level names p r h.near client_in_time server_in_time
      in omega (arith, n, c, level)

  pub client_lasts : Lasts 10 p.client then_on.client
  client_lasts = record {
    clock = of_client.other_clock;
    sent = (client_grows names p r h.near client_in_time server_in_time).sent;
    same = λ e. of_client.said (none_are then_on.to_server (let c = client_counted in omega (arith, c, e)));
  }

  server_lasts : Lasts 10 p.server then_on.server
  server_lasts = record {
    clock = of_server.other_clock;
    sent = (server_grows names p r h.near client_in_time server_in_time).sent;
    same = λ e. of_server.said (none_are then_on.to_client (let c = server_counted in omega (arith, c, e)));
  }

record Reaches (names : Names) (n : ℕ) (f : Flow) (p : Pair) : Type 0 where
  last : Pair
  mirrors : Mirrors names f last
  hale : Hale names last
  client : Lasts (10 * n) p.client last.client
  server : Lasts (10 * n) p.server last.server

module _ (laws : LawsBelow) (names : Names) (are : AreNames names) where
  reaches : (rounds : List (List Event)) (f : Flow) (p : Pair) → Mirrors names f p → Hale names p → AreAtWork names rounds f → Each (Each LeavesOpen) rounds → StayBelow rounds f → Reaches names (length rounds) (work_rounds rounds f) p
  reaches [] f p m h work opens room = record { last = p; mirrors = m; hale = h; client = at_once p.client; server = at_once p.server }
    where
      at_once : (l : LinkState) → Lasts (10 * 0) l l
      at_once l = record { clock = omega arith; sent = omega arith; same = λ e. refl }
  reaches (calls ∷ others) f p m h work opens room = on (reaches others (work_round calls f) (behind p now.round) now.mirrors (hale_on names p now.round h) work.1 opens.1 room.1)
    where
      now : Follows names f p calls
      now = follows laws names are f p calls m work.0 opens.0 room.0

      one_more : (l k j : LinkState) → Lasts 10 l k → Lasts (10 * length others) k j → Lasts (10 * length (calls ∷ others)) l j
      one_more l k j a b = let both = lasts_then 10 (10 * length others) l k j a b in record { clock = let c = both.clock in omega (arith, c); sent = both.sent; same = both.same }

      on : Reaches names (length others) (work_rounds others (work_round calls f)) (behind p now.round) → Reaches names (length (calls ∷ others)) (work_rounds (calls ∷ others) f) p
      on s = record {
        last = s.last;
        mirrors = s.mirrors;
        hale = s.hale;
        client = one_more p.client (behind p now.round).client s.last.client (client_lasts names p now.round h) s.client;
        server = one_more p.server (behind p now.round).server s.last.server (server_lasts names p now.round h) s.server;
      }

  module _ (rounds : List (List Event)) (f : Flow) (old : HaleAfter names f) (work : AreAtWork names rounds f) (opens : Each (Each LeavesOpen) rounds) (room : StayBelow rounds f) (long : speaking_rounds ≤ length rounds) where
    open old use {last as p, mirrors as m, hale as h}

    s : Reaches names (length rounds) (work_rounds rounds f) p
    s = reaches rounds f p m h work opens room

    client_speaks : f.ends.client.link.sent < (work_rounds rounds f).ends.client.link.sent
    client_speaks =
        let more = sent_more (length rounds) p.client s.last.client long s.client h.near.to_server.way.sent_before s.hale.near.to_server.calm
        in let was = ap (λ (l : LinkState). l.sent) m.client
        in let is = ap (λ (l : LinkState). l.sent) s.mirrors.client
        in omega (arith, more, was, is)

    server_speaks : f.ends.server.link.sent < (work_rounds rounds f).ends.server.link.sent
    server_speaks =
        let more = sent_more (length rounds) p.server s.last.server long s.server h.near.to_client.way.sent_before s.hale.near.to_client.calm
        in let was = ap (λ (l : LinkState). l.sent) m.server
        in let is = ap (λ (l : LinkState). l.sent) s.mirrors.server
        in omega (arith, more, was, is)

pub clients_speak : LawsBelow → (names : Names) (start : Start) (events : List Event) (passed : ℕ) (rounds more : List (List Event)) → AreNames names → MayRun names events (started names start)
    → AreAtWork names rounds (flow_after names start events passed) → Each (Each LeavesOpen) rounds → StayBelow rounds (flow_after names start events passed) → recovery_rounds_at_work ≤ length rounds
    → AreAtWork names more (work_rounds rounds (flow_after names start events passed)) → Each (Each LeavesOpen) more → StayBelow more (work_rounds rounds (flow_after names start events passed)) → speaking_rounds ≤ length more
    → (work_rounds rounds (flow_after names start events passed)).ends.client.link.sent < (work_rounds more (work_rounds rounds (flow_after names start events passed))).ends.client.link.sent
clients_speak laws names start events passed rounds more are may work opens room long =
    client_speaks laws names are more (work_rounds rounds (flow_after names start events passed)) (hale_after laws names are start events passed rounds may work opens room long)

pub servers_speak : LawsBelow → (names : Names) (start : Start) (events : List Event) (passed : ℕ) (rounds more : List (List Event)) → AreNames names → MayRun names events (started names start)
    → AreAtWork names rounds (flow_after names start events passed) → Each (Each LeavesOpen) rounds → StayBelow rounds (flow_after names start events passed) → recovery_rounds_at_work ≤ length rounds
    → AreAtWork names more (work_rounds rounds (flow_after names start events passed)) → Each (Each LeavesOpen) more → StayBelow more (work_rounds rounds (flow_after names start events passed)) → speaking_rounds ≤ length more
    → (work_rounds rounds (flow_after names start events passed)).ends.server.link.sent < (work_rounds more (work_rounds rounds (flow_after names start events passed))).ends.server.link.sent
servers_speak laws names start events passed rounds more are may work opens room long =
    server_speaks laws names are more (work_rounds rounds (flow_after names start events passed)) (hale_after laws names are start events passed rounds may work opens room long)
