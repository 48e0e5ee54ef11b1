-- What a server says in a round at work confirms what it had taken before it, and its client knows that after the next round.
use Rattle.rasta_core_recovery.proofs.Words.Basics.{◌≡◌, ℕ, ◌∙◌, ◌+◌, ◌-◌, ◌^◌, ◌≤◌, ◌<◌, List, [], length, sym, ap, subst, arith, false}
use Rattle.rasta_core_recovery.proofs.Words.Links.{LinkState, confirmed_items, is_asking, settled, Step, Pdu, Each, Event, MayRun, Start, started, Names, AreNames, Rises}
use Rattle.rasta_core_recovery.proofs.Words.Recovery.{StaysAtWork, Flow, flow_after, AreAtWork, LeavesOpen, StayBelow, recovery_rounds_at_work, work_round, work_rounds, LawsBelow, exchanged}
use Rattle.rasta_core_recovery.proofs.Lemmas.Rounds.Links.{Pair}
use Rattle.rasta_core_recovery.proofs.Lemmas.Rounds.Acts.{WorkRound, behind}
use Rattle.rasta_core_recovery.proofs.Lemmas.Windows.Confirmed.{Both, server_joined, Sides, sides_of, exchange}
use Rattle.rasta_core_recovery.proofs.Lemmas.Rounds.Given.{Grows, grows_then}
use Rattle.rasta_core_recovery.proofs.Lemmas.ComingUp.Hale.{client_grows}
use Rattle.rasta_core_recovery.proofs.Lemmas.Heartbeats.InTurn.{IsLast, Tells, Whole, all_tell, last_of, same_first}
use Rattle.rasta_core_recovery.proofs.Lemmas.Heartbeats.AllConfirmed.{few_given, some_reached, taken_confirmed, waits_behind}
use Rattle.rasta_core_recovery.proofs.Lemmas.Heartbeats.Heartbeats.{server_counted}
use Rattle.rasta_core_recovery.proofs.Lemmas.Heartbeats.HaleRounds.{HaleAfter, Worked, behind_it, both_of, client_brings, client_did, client_is, client_whole, client_young, hale_after, server_did, server_is, server_whole, server_young, worked}

-- ---- two rounds

module _ (laws : LawsBelow) (names : Names) (are : AreNames names) (g : Flow) (old : HaleAfter names g)
    (one two : List Event) (first_round : StaysAtWork names g one) (second_round : StaysAtWork names (work_round one g) two) (speaks : g.ends.server.link.sent < (work_round one g).ends.server.link.sent) where
  open old use {last as p, mirrors as m, holds, hale as h}

  one_round : Worked names g old one
  one_round = worked laws names are g old one first_round

  open one_round use {goes as w1, hale as h1}

  abbrev r1 : WorkRound p
  r1 = w1.round

  abbrev p1 : Pair
  p1 = behind p r1

  abbrev g1 : Flow
  g1 = work_round one g

  other_round : Worked names g1 (behind_it names g old one one_round) two
  other_round = worked laws names are g1 (behind_it names g old one one_round) two second_round

  open other_round use {goes as w2, both as both2}

  abbrev r2 : WorkRound p1
  r2 = w2.round

  abbrev p2 : Pair
  p2 = behind p1 r2

  abbrev g2 : Flow
  g2 = work_round two g1

  abbrev nows : ℕ
  nows = p.server.clock + 10

  abbrev ls : LinkState
  ls = settled nows p.server

  ls_is : ls ≡ record p.server { clock = nows }
  ls_is = server_is names p r1 h

  both0 : Both names g.ends
  both0 = both_of names g p m holds h

  -- the client gives, the server takes
  abbrev sides : Sides (exchanged g.ends)
  sides = exchange g.ends (sides_of names g.ends both0)

  few : p2.client.given < 2 ^ 31
  few = few_given (exchanged g2.ends) (exchange g2.ends (sides_of names g2.ends both2)) p2.client both2.together.client_few w2.mirrors.client

  joins : is_asking g.ends.server.link ≡ false
  joins = (server_joined names g.ends both0).joined

  grows : Grows g.ends.client.link p2.client
  grows = subst (λ (l : LinkState). Grows l p2.client) (sym m.client) (grows_then p.client p1.client p2.client
      (client_grows names p r1 h.near (client_young names p r1 h) (server_young names p r1 h))
      (client_grows names p1 r2 h1.near (client_young names p1 r2 h1) (server_young names p1 r2 h1)))

  -- ---- what the server says in the first

  abbrev reached : ℕ
  reached = g.ends.server.link.expected

  reaches_some : 1 ≤ reached
  reaches_some = some_reached (exchanged g.ends) sides both0.together.client_few joins p2.client few grows

  abbrev least : ℕ
  least = reached - 1

  abbrev most : ℕ
  most = p1.server.expected - 1

  abbrev Q : Pdu → Type 0
  Q = Tells p1.client.own_first least most

  server_first : Whole nows r1.server_acts ls
  server_first = server_whole names p r1 h

  is_first : ls.partner_first ≡ p1.client.own_first
  is_first = sym (ap (λ (s : Step). s.link.partner_first) (server_did p r1) ∙ same_first nows r1.server_acts ls server_first) ∙ h1.near.to_server.way.first

  told : Each Q p1.to_client
  told =
      let some = reaches_some
      in let reaches = server_first.reaches
      in let fits = server_first.fits
      in let end = ap (λ (s : Step). s.link.expected) (server_did p r1)
      in let is = ap (λ (l : LinkState). l.expected) ls_is ∙ ap (λ (l : LinkState). l.expected) (sym m.server)
      in subst (λ (s : Step). Each Q s.pdus) (sym (server_did p r1))
      (all_tell p1.client.own_first least most nows r1.server_acts ls server_first is_first (omega (arith, some, is)) (omega (arith, some, reaches, end, is)) (omega (arith, some, reaches, fits, end, is)))

  -- else it had sent no more
  some_said : p1.to_client ≡ [] → ⊥
  some_said none =
      let more = speaks
      in let count = server_counted names p r1 h
      in let few = ap length none
      in let was = ap (λ (l : LinkState). l.sent) m.server
      in let is = ap (λ (l : LinkState). l.sent) w1.mirrors.server
      in omega (arith, more, count, few, was, is)

  last : IsLast Q p1.to_client
  last = last_of Q p1.to_client told some_said

  -- ---- the round in which it comes

  above : Rises (least + 1) p2.client.sent p2.client.waiting
  above =
      let some = h1.near.to_server.way.some
      in let far = h1.near.to_server.way.most
      in subst (λ (s : Step). Rises (least + 1) s.link.sent s.link.waiting) (sym (client_did p1 r2))
      (waits_behind (exchanged g1.ends) (exchange g1.ends (sides_of names g1.ends one_round.both)) (p1.client.clock + 10) r2.client_acts least most p1.to_client p1.client w1.mirrors.client
      (client_is names p1 r2 h1) (client_whole names p1 r2 h1) (omega (arith, some, far)) (client_brings names p1 r2 h1) last)

  round_confirms : g.ends.server.link.taken ≤ confirmed_items g2.ends.client.link
  round_confirms = subst (λ (l : LinkState). g.ends.server.link.taken ≤ confirmed_items l) (sym w2.mirrors.client)
      (taken_confirmed (exchanged g.ends) sides both0.together.client_few joins p2.client few grows (least + 1) (let some = reaches_some in omega (arith, some)) above)

pub servers_confirm : LawsBelow → (names : Names) (start : Start) (events : List Event) (passed : ℕ) (rounds : List (List Event)) (one two : List Event) → AreNames names → MayRun names events (started names start)
    → AreAtWork names rounds (flow_after names start events passed) → Each (Each LeavesOpen) rounds → StayBelow rounds (flow_after names start events passed) → recovery_rounds_at_work ≤ length rounds
    → StaysAtWork names (work_rounds rounds (flow_after names start events passed)) one
    → StaysAtWork names (work_round one (work_rounds rounds (flow_after names start events passed))) two
    → (work_rounds rounds (flow_after names start events passed)).ends.server.link.sent < (work_round one (work_rounds rounds (flow_after names start events passed))).ends.server.link.sent
    → (work_rounds rounds (flow_after names start events passed)).ends.server.link.taken ≤ confirmed_items (work_round two (work_round one (work_rounds rounds (flow_after names start events passed)))).ends.client.link
servers_confirm laws names start events passed rounds one two are may work opens room long =
    round_confirms laws names are (work_rounds rounds (flow_after names start events passed)) (hale_after laws names are start events passed rounds may work opens room long) one two
