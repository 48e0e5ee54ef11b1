-- What a client says in a round at work confirms what it has taken, and its server knows that after the next round.
use Rattle.rasta_core_recovery.proofs.Words.Basics.{◌≡◌, ℕ, ◌∙◌, ◌+◌, ◌-◌, ◌^◌, ◌≤◌, ◌<◌, List, [], ◌∷◌, ◌++◌, length, refl, sym, ap, subst, arith}
use Rattle.rasta_core_recovery.proofs.Words.Links.{LinkState, confirmed_items, settled, Step, header_of, Header, Body, Pdu, Each, Event, MayRun, Start, started, Names, AreNames, Ends, Rises}
use Rattle.rasta_core_recovery.proofs.Words.Recovery.{ClientSpeaks, StaysAtWork, in_round, Flow, flow_after, AreAtWork, LeavesOpen, StayBelow, recovery_rounds_at_work, work_round, work_rounds, LawsBelow}
use Rattle.rasta_core_recovery.proofs.Lemmas.Rounds.Links.{Pair}
use Rattle.rasta_core_recovery.proofs.Lemmas.Rounds.Acts.{Act, Hears, Beats, Asks, Gives, did, all_did, HasRoom, WorkRound, behind}
use Rattle.rasta_core_recovery.proofs.Lemmas.Windows.Confirmed.{Both, sides_of}
use Rattle.rasta_core_recovery.proofs.Lemmas.Rounds.Course.{Joined, lively}
use Rattle.rasta_core_recovery.proofs.Lemmas.Rounds.Given.{Grows, grows_then}
use Rattle.rasta_core_recovery.proofs.Lemmas.ComingUp.Hale.{Hale, server_grows}
use Rattle.rasta_core_recovery.proofs.Lemmas.Heartbeats.InTurn.{IsLast, Tells, Whole, all_tell, hears_takes, last_of, last_then, links_both, pdus_both, same_first, whole_then}
use Rattle.rasta_core_recovery.proofs.Lemmas.Rounds.Lists.{none_of_both}
use Rattle.rasta_core_recovery.proofs.Lemmas.Rounds.Mirror.{Mirrors}
use Rattle.rasta_core_recovery.proofs.Lemmas.Rounds.Own.{IsOwnAct, own_utters}
use Rattle.rasta_core_recovery.proofs.Lemmas.Rounds.Within.{all_grow}
use Rattle.rasta_core_recovery.proofs.Lemmas.Rounds.Words.{IsSimple, Says}
use Rattle.rasta_core_recovery.proofs.Lemmas.Heartbeats.AllConfirmed.{few_given, some_reached, taken_confirmed, waits_behind}
use Rattle.rasta_core_recovery.proofs.Lemmas.Heartbeats.HaleRounds.{HaleAfter, Worked, behind_it, client_did, client_young, hale_after, server_brings, server_did, server_is, server_whole, server_young, worked, Middle, middle}

-- ---- what is sent is said

none_more : (P : Body → Type 0) (h : Header) (n m : ℕ) (ps : List Pdu) → ps ≡ [] → Says P h n ps m → m ≡ n
none_more P h n m [] none s = sym s
none_more P h n m (p ∷ ps) none s = absurd (cc none)

own_still : (now : ℕ) (a : Act) (l : LinkState) → IsOwnAct a → Joined now l → HasRoom l → (did now a l).pdus ≡ [] → (did now a l).link.sent ≡ l.sent
own_still now a l own is room none =
    let u = own_utters now a l own (lively now l is) room in none_more IsSimple (header_of l) l.sent (did now a l).link.sent (did now a l).pdus none u.says

one_still : (now : ℕ) (a : Act) (acts : List Act) (l : LinkState) → Whole now (a ∷ acts) l → (did now a l).pdus ≡ [] → (did now a l).link.sent ≡ l.sent
one_still now (Hears p) acts l w none = (hears_takes now p acts l w).sent
one_still now Beats acts l w none = own_still now Beats l tt w.within.0 w.room.0 none
one_still now Asks acts l w none = own_still now Asks l tt w.within.0 w.room.0 none
one_still now (Gives item) acts l w none = own_still now (Gives item) l tt w.within.0 w.room.0 none

-- an end that takes what comes and says nothing has sent no more
all_still : (now : ℕ) (acts : List Act) (l : LinkState) → Whole now acts l → (all_did now acts l).pdus ≡ [] → (all_did now acts l).link.sent ≡ l.sent
unfolding all_did
all_still now [] l w none = refl
all_still now (a ∷ acts) l w none =
    let both = none_of_both (did now a l).pdus (all_did now acts (did now a l).link).pdus none
    in all_still now acts (did now a l).link (whole_then now a acts l w).0 both.1 ∙ one_still now a acts l w both.0

-- ---- what comes of it in the next round

-- where the last PDU of the client confirms a count, what waits of the server after the next round waits above it
pub server_waits_behind : (names : Names) (g1 : Flow) (p1 : Pair) → Mirrors names g1 p1 → Both names g1.ends → (h1 : Hale names p1) (r2 : WorkRound p1) (least : ℕ)
    → IsLast (Tells p1.server.own_first least (p1.client.expected - 1)) p1.to_server → Rises (least + 1) (behind p1 r2).server.sent (behind p1 r2).server.waiting
server_waits_behind names g1 p1 m1 both1 h1 r2 least last =
    let some = h1.near.to_client.way.some
    in let far = h1.near.to_client.way.most
    in subst (λ (s : Step). Rises (least + 1) s.link.sent s.link.waiting) (sym (server_did p1 r2))
    (waits_behind g1.ends (sides_of names g1.ends both1) (p1.server.clock + 10) r2.server_acts least (p1.client.expected - 1) p1.to_server p1.server m1.server
    (server_is names p1 r2 h1) (server_whole names p1 r2 h1) (omega (arith, some, far)) (server_brings names p1 r2 h1) last)

-- ---- two rounds

module _ (laws : LawsBelow) (names : Names) (are : AreNames names) (g : Flow) (old : HaleAfter names g)
    (front rest calls : List Event) (first_round : StaysAtWork names g (front ++ rest)) (second_round : StaysAtWork names (work_round (front ++ rest) g) calls)
    (speaks : ClientSpeaks front rest g) where
  open old use {last as p}

  abbrev whole : List Event
  whole = front ++ rest

  abbrev mid : Ends
  mid = in_round front g

  one_round : Worked names g old whole
  one_round = worked laws names are g old whole first_round

  open one_round use {goes as w1, hale as h1}

  abbrev r1 : WorkRound p
  r1 = w1.round

  abbrev p1 : Pair
  p1 = behind p r1

  abbrev g1 : Flow
  g1 = work_round whole g

  other_round : Worked names g1 (behind_it names g old whole one_round) calls
  other_round = worked laws names are g1 (behind_it names g old whole one_round) calls second_round

  open other_round use {goes as w2, both as both2}

  abbrev r2 : WorkRound p1
  r2 = w2.round

  abbrev p2 : Pair
  p2 = behind p1 r2

  abbrev g2 : Flow
  g2 = work_round calls g1

  abbrev nows : ℕ
  nows = p.server.clock + 10

  abbrev nowc : ℕ
  nowc = p.client.clock + 10

  abbrev ls : LinkState
  ls = settled nows p.server

  abbrev lc : LinkState
  lc = settled nowc p.client

  half : Middle names g old front rest w1
  half = middle laws names are g old front rest first_round w1

  open half use {parts as c, client_mid, server_mid, client_goes, server_goes, client_at, server_at, both as both_mid}

  abbrev says : List Act
  says = c.client.other

  server_end : p1.server ≡ (all_did nows c.server.other mid.server.link).link
  server_end = ap (λ (s : Step). s.link) (server_did p r1) ∙ ap (λ (acts : List Act). (all_did nows acts ls).link) c.server.are ∙ links_both nows c.server.one c.server.other ls
      ∙ ap (λ (l : LinkState). (all_did nows c.server.other l).link) (sym server_mid)

  grows : Grows mid.server.link p2.server
  grows = grows_then mid.server.link p1.server p2.server
      (subst (Grows mid.server.link) (sym server_end) (all_grow nows c.server.other mid.server.link server_at server_goes.room server_goes.simple).1)
      (server_grows names p1 r2 h1.near (client_young names p1 r2 h1) (server_young names p1 r2 h1))

  few : p2.server.given < 2 ^ 31
  few = few_given g2.ends (sides_of names g2.ends both2) p2.server both2.together.server_few w2.mirrors.server

  abbrev reached : ℕ
  reached = mid.client.link.expected

  reaches_some : 1 ≤ reached
  reaches_some = some_reached mid (sides_of names mid both_mid) both_mid.together.server_few client_at.joined p2.server few grows

  abbrev least : ℕ
  least = reached - 1

  abbrev most : ℕ
  most = p1.client.expected - 1

  client_end : p1.client ≡ (all_did nowc says mid.client.link).link
  client_end = ap (λ (s : Step). s.link) (client_did p r1) ∙ ap (λ (acts : List Act). (all_did nowc acts lc).link) c.client.are ∙ links_both nowc c.client.one says lc
      ∙ ap (λ (l : LinkState). (all_did nowc says l).link) (sym client_mid)

  client_pdus : p1.to_server ≡ (all_did nowc c.client.one lc).pdus ++ (all_did nowc says mid.client.link).pdus
  client_pdus = ap (λ (s : Step). s.pdus) (client_did p r1) ∙ ap (λ (acts : List Act). (all_did nowc acts lc).pdus) c.client.are ∙ pdus_both nowc c.client.one says lc
      ∙ ap (λ (l : LinkState). (all_did nowc c.client.one lc).pdus ++ (all_did nowc says l).pdus) (sym client_mid)

  is_first : mid.client.link.partner_first ≡ p1.server.own_first
  is_first = sym (ap (λ (l : LinkState). l.partner_first) client_end ∙ same_first nowc says mid.client.link client_goes) ∙ h1.near.to_client.way.first

  abbrev Q : Pdu → Type 0
  Q = Tells p1.server.own_first least most

  told : Each Q (all_did nowc says mid.client.link).pdus
  told =
      let some = reaches_some
      in let reaches = client_goes.reaches
      in let fits = client_goes.fits
      in let end = ap (λ (l : LinkState). l.expected) client_end
      in all_tell p1.server.own_first least most nowc says mid.client.link client_goes is_first (omega (arith, some)) (omega (arith, some, reaches, end)) (omega (arith, some, reaches, fits, end))

  -- else it had sent no more
  some_said : (all_did nowc says mid.client.link).pdus ≡ [] → ⊥
  some_said none =
      let more = speaks
      in let still = all_still nowc says mid.client.link client_goes none
      in let end = ap (λ (l : LinkState). l.sent) (w1.mirrors.client ∙ client_end)
      in omega (arith, more, still, end)

  last : IsLast Q p1.to_server
  last = subst (IsLast Q) (sym client_pdus) (last_then Q (all_did nowc c.client.one lc).pdus (all_did nowc says mid.client.link).pdus
      (last_of Q (all_did nowc says mid.client.link).pdus told some_said))

  round_confirmed : mid.client.link.taken ≤ confirmed_items g2.ends.server.link
  round_confirmed = subst (λ (l : LinkState). mid.client.link.taken ≤ confirmed_items l) (sym w2.mirrors.server)
      (taken_confirmed mid (sides_of names mid both_mid) both_mid.together.server_few client_at.joined p2.server few grows (least + 1) (let some = reaches_some in omega (arith, some))
      (server_waits_behind names g1 p1 w1.mirrors one_round.both h1 r2 least last))

pub clients_confirm : LawsBelow → (names : Names) (start : Start) (events : List Event) (passed : ℕ) (rounds : List (List Event)) (front rest calls : List Event) → AreNames names → MayRun names events (started names start)
    → AreAtWork names rounds (flow_after names start events passed) → Each (Each LeavesOpen) rounds → StayBelow rounds (flow_after names start events passed) → recovery_rounds_at_work ≤ length rounds
    → StaysAtWork names (work_rounds rounds (flow_after names start events passed)) (front ++ rest)
    → StaysAtWork names (work_round (front ++ rest) (work_rounds rounds (flow_after names start events passed))) calls
    → ClientSpeaks front rest (work_rounds rounds (flow_after names start events passed))
    → (in_round front (work_rounds rounds (flow_after names start events passed))).client.link.taken ≤ confirmed_items (work_round calls (work_round (front ++ rest) (work_rounds rounds (flow_after names start events passed)))).ends.server.link
clients_confirm laws names start events passed rounds front rest calls are may work opens room long =
    round_confirmed laws names are (work_rounds rounds (flow_after names start events passed)) (hale_after laws names are start events passed rounds may work opens room long) front rest calls
