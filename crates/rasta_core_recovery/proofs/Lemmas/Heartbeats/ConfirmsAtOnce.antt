-- Where a client is given nothing, what it says confirms all that came to it before, and in the round before it has said nothing.
use Rattle.rasta_core_recovery.proofs.Words.Basics.{◌≡◌, ℕ, ◌∙◌, ◌+◌, ◌-◌, ◌^◌, ◌≤◌, ◌<◌, List, [], length, sym, ap, subst, arith}
use Rattle.rasta_core_recovery.proofs.Words.Links.{LinkState, confirmed_items, is_asking, Each, Event, MayRun, Start, started, Names, AreNames}
use Rattle.rasta_core_recovery.proofs.Words.Recovery.{SpeaksAlone, StaysAtWork, Flow, flow_after, AreAtWork, LeavesOpen, StayBelow, recovery_rounds_at_work, work_round, work_rounds, LawsBelow, exchanged}
use Rattle.rasta_core_recovery.proofs.Lemmas.Rounds.Links.{Pair}
use Rattle.rasta_core_recovery.proofs.Lemmas.Rounds.Acts.{WorkRound, behind}
use Rattle.rasta_core_recovery.proofs.Lemmas.Windows.Confirmed.{sides_of, exchange}
use Rattle.rasta_core_recovery.proofs.Lemmas.Rounds.Given.{Grows}
use Rattle.rasta_core_recovery.proofs.Lemmas.ComingUp.Hale.{client_grows, server_grows}
use Rattle.rasta_core_recovery.proofs.Lemmas.Heartbeats.Heartbeats.{client_counted}
use Rattle.rasta_core_recovery.proofs.Lemmas.Heartbeats.HeartbeatsAlone.{pauses, told, unconfirmed}
use Rattle.rasta_core_recovery.proofs.Lemmas.Heartbeats.InTurn.{IsLast, Tells, last_of}
use Rattle.rasta_core_recovery.proofs.Lemmas.Heartbeats.AllConfirmed.{few_given, taken_confirmed}
use Rattle.rasta_core_recovery.proofs.Lemmas.Heartbeats.Confirms.{server_waits_behind}
use Rattle.rasta_core_recovery.proofs.Lemmas.Heartbeats.HaleRounds.{HaleAfter, Worked, behind_it, client_young, hale_after, server_young, worked}

module _ (laws : LawsBelow) (names : Names) (are : AreNames names) (g : Flow) (old : HaleAfter names g) (one two : List Event) (alone : SpeaksAlone names g one two) where
  open old use {last as p, mirrors as m, hale as h}

  one_round : Worked names g old one
  one_round = worked laws names are g old one alone.first

  open one_round use {goes as w1, hale as h1, both as both1}

  abbrev r1 : WorkRound p
  r1 = w1.round

  abbrev p1 : Pair
  p1 = behind p r1

  abbrev g1 : Flow
  g1 = work_round one g

  other_round : Worked names g1 (behind_it names g old one one_round) two
  other_round = worked laws names are g1 (behind_it names g old one one_round) two alone.second

  open other_round use {goes as w2, hale as h2, both as both2}

  abbrev r2 : WorkRound p1
  r2 = w2.round

  abbrev p2 : Pair
  p2 = behind p1 r2

  abbrev g2 : Flow
  g2 = work_round two g1

  few1 : p1.client.given < 2 ^ 31
  few1 = few_given (exchanged g1.ends) (exchange g1.ends (sides_of names g1.ends both1)) p1.client both1.together.client_few w1.mirrors.client

  few2 : p2.client.given < 2 ^ 31
  few2 = few_given (exchanged g2.ends) (exchange g2.ends (sides_of names g2.ends both2)) p2.client both2.together.client_few w2.mirrors.client

  no_more : p2.client.given ≤ p.client.given
  no_more = let q = alone.quiet in let e = ap (λ (l : LinkState). l.given) w2.mirrors.client in let f = ap (λ (l : LinkState). l.given) m.client in omega (arith, q, e, f)

  more1 : p.client.given ≤ p1.client.given
  more1 = ((client_grows names p r1 h.near (client_young names p r1 h) (server_young names p r1 h)).waits (let few = few1 in omega (arith, few))).0

  more2 : p1.client.given ≤ p2.client.given
  more2 = ((client_grows names p1 r2 h1.near (client_young names p1 r2 h1) (server_young names p1 r2 h1)).waits (let few = few2 in omega (arith, few))).0

  quiet1 : p1.client.given ≤ p.client.given
  quiet1 = let n = no_more in let b = more2 in omega (arith, n, b)

  quiet2 : p2.client.given ≤ p1.client.given
  quiet2 = let n = no_more in let a = more1 in omega (arith, n, a)

  some : p2.to_server ≡ [] → ⊥
  some none =
      let s = alone.speaks
      in let e = ap (λ (l : LinkState). l.sent) w1.mirrors.client
      in let f = ap (λ (l : LinkState). l.sent) w2.mirrors.client
      in let c = client_counted names p1 r2 h1
      in let n = ap length none
      in omega (arith, s, e, f, c, n)

  -- the server hears nothing in the round in which the client says it
  pub still : confirmed_items g2.ends.server.link ≤ confirmed_items g1.ends.server.link
  still =
      let u = unconfirmed names p1 r2 h1 (pauses names p r1 h few1 quiet1 r2 few2 quiet2 some)
      in let e = ap confirmed_items w1.mirrors.server
      in let f = ap confirmed_items w2.mirrors.server
      in omega (arith, u, e, f)

  last : IsLast (Tells p2.server.own_first (p2.client.expected - 1) (p2.client.expected - 1)) p2.to_server
  last = last_of (Tells p2.server.own_first (p2.client.expected - 1) (p2.client.expected - 1)) p2.to_server (told names p1 r2 h1 few2 quiet2) some

  -- and in the next one all is confirmed
  module _ (three : List Event) (third : StaysAtWork names g2 three) where
    last_round : Worked names g2 (behind_it names g1 (behind_it names g old one one_round) two other_round) three
    last_round = worked laws names are g2 (behind_it names g1 (behind_it names g old one one_round) two other_round) three third

    open last_round use {goes as w3, both as both3}

    abbrev r3 : WorkRound p2
    r3 = w3.round

    abbrev p3 : Pair
    p3 = behind p2 r3

    abbrev g3 : Flow
    g3 = work_round three g2

    grows : Grows g2.ends.server.link p3.server
    grows = subst (λ (l : LinkState). Grows l p3.server) (sym w2.mirrors.server) (server_grows names p2 r3 h2.near (client_young names p2 r3 h2) (server_young names p2 r3 h2))

    low_is : p2.client.expected - 1 + 1 ≡ g2.ends.client.link.expected
    low_is = let s = h2.near.to_client.way.some in let e = ap (λ (l : LinkState). l.expected) w2.mirrors.client in omega (arith, s, e)

    pub all_confirmed : g2.ends.client.link.taken ≤ confirmed_items g3.ends.server.link
    all_confirmed = subst (λ (l : LinkState). g2.ends.client.link.taken ≤ confirmed_items l) (sym w3.mirrors.server)
        (taken_confirmed g2.ends (sides_of names g2.ends both2) both2.together.server_few (ap is_asking w2.mirrors.client ∙ h2.near.to_client.way.is.joined) p3.server
        (few_given g3.ends (sides_of names g3.ends both3) p3.server both3.together.server_few w3.mirrors.server) grows (p2.client.expected - 1 + 1) low_is
        (server_waits_behind names g2 p2 w2.mirrors both2 h2 r3 (p2.client.expected - 1) last))

module _ (laws : LawsBelow) (names : Names) (start : Start) (events : List Event) (passed : ℕ) (rounds : List (List Event)) (one two : List Event) (are : AreNames names) (may : MayRun names events (started names start))
    (work : AreAtWork names rounds (flow_after names start events passed)) (opens : Each (Each LeavesOpen) rounds) (room : StayBelow rounds (flow_after names start events passed)) (long : recovery_rounds_at_work ≤ length rounds)
    (alone : SpeaksAlone names (work_rounds rounds (flow_after names start events passed)) one two) where
  abbrev g : Flow
  g = work_rounds rounds (flow_after names start events passed)

  old : HaleAfter names g
  old = hale_after laws names are start events passed rounds may work opens room long

  pub speaks_alone : confirmed_items (work_round two (work_round one g)).ends.server.link ≤ confirmed_items (work_round one g).ends.server.link
  speaks_alone = still laws names are g old one two alone

  pub confirms_at_once : (three : List Event) → StaysAtWork names (work_round two (work_round one g)) three
      → (work_round two (work_round one g)).ends.client.link.taken ≤ confirmed_items (work_round three (work_round two (work_round one g))).ends.server.link
  confirms_at_once three third = all_confirmed laws names are g old one two alone three third
