-- What a server says in a round at work confirms what it has taken, and its client knows that after the next round.
use Rattle.rasta_core_recovery.proofs.Words.Basics.{◌≡◌, ℕ, ◌∙◌, ◌+◌, ◌-◌, ◌^◌, ◌≤◌, ◌<◌, Bool, true, List, [], ◌∷◌, ◌++◌, length, if◌then◌else◌, sym, ap, subst, arith, is_ok}
use Rattle.rasta_core_recovery.proofs.Words.Links.{LinkState, confirmed_items, settled, acceptance, answer_to_send, Step, giving, sending, silent, Key, Role, Pdu, Each, Call, Sends, reading_of, Event, Calls, MayRun, Start, started, Names, AreNames, Ends, Rises}
use Rattle.rasta_core_recovery.proofs.Words.Recovery.{Accepts, StaysAtWork, in_round, with_reply, Flow, flow_after, AreAtWork, LeavesOpen, StayBelow, calls_in, recovery_rounds_at_work, work_round, work_rounds, LawsBelow, exchanged}
use Rattle.rasta_core_recovery.proofs.Lemmas.Rounds.Links.{Pair}
use Rattle.rasta_core_recovery.proofs.Lemmas.Rounds.Acts.{Act, Hears, Beats, Asks, Gives, did, all_did, HasRoom, WorkRound, behind}
use Rattle.rasta_core_recovery.proofs.Lemmas.Rounds.Calls.{entered_lives}
use Rattle.rasta_core_recovery.proofs.Lemmas.Windows.Confirmed.{Sides, sides_of, exchange}
use Rattle.rasta_core_recovery.proofs.Lemmas.Rounds.Course.{Joined, lively}
use Rattle.rasta_core_recovery.proofs.Lemmas.Rounds.Fold.{same_clock}
use Rattle.rasta_core_recovery.proofs.Lemmas.Rounds.Given.{Grows, grows_then}
use Rattle.rasta_core_recovery.proofs.Lemmas.ComingUp.Hale.{client_grows}
use Rattle.rasta_core_recovery.proofs.Lemmas.Heartbeats.InTurn.{IsLast, Tells, Whole, all_tell, gives_at_once, last_of, last_then, links_both, pdus_both, same_first}
use Rattle.rasta_core_recovery.proofs.Lemmas.Rounds.Own.{lives_of}
use Rattle.rasta_core_recovery.proofs.Lemmas.Rounds.Within.{all_grow}
use Rattle.rasta_core_recovery.proofs.Lemmas.AtWork.WorkBridge.{AllAct}
use Rattle.rasta_core_recovery.proofs.Lemmas.Heartbeats.AllConfirmed.{few_given, some_reached, taken_confirmed, waits_behind}
use Rattle.rasta_core_recovery.proofs.Lemmas.Heartbeats.HaleRounds.{HaleAfter, Worked, behind_it, client_brings, client_did, client_is, client_whole, client_young, hale_after, server_did, server_young, worked, Middle, middle}

gives_first : (key : Key) (item : List ℕ) (calls : List Call) (acts : List Act) → AllAct key (Sends item ∷ calls) acts → (others : List Act) × (acts ≡ Gives item ∷ others)
gives_first key item calls [] so_is = absurd so_is
gives_first key item calls (Gives given ∷ others) so_is = (others, ap (λ (x : List ℕ). Gives x ∷ others) (sym so_is.0))
gives_first key item calls (Hears pdu ∷ others) so_is = absurd so_is.0
gives_first key item calls (Beats ∷ others) so_is = absurd so_is.0
gives_first key item calls (Asks ∷ others) so_is = absurd so_is.0

-- ---- the reply

accept_of : (now : ℕ) (l : LinkState) → Joined now l → HasRoom l → is_ok (answer_to_send now l) ≡ true → is_ok (acceptance l) ≡ true
unfolding answer_to_send
accept_of now l is room e = sym (ap (λ (s : Step). is_ok (acceptance s.link)) (entered_lives now l (lives_of now l (lively now l is) room) ∙ ap silent (same_clock now l is.clock))) ∙ e

not_none : (ps qs : List Pdu) (pdu : Pdu) → ps ≡ pdu ∷ [] → ps ++ qs ≡ [] → ⊥
not_none [] qs pdu e f = cc e
not_none (p ∷ ps) qs pdu e f = cc f

-- an end that accepts an item says something
some_said : (now : ℕ) (item : List ℕ) (others : List Act) (l : LinkState) → Joined now l → HasRoom l → is_ok (acceptance l) ≡ true → (all_did now (Gives item ∷ others) l).pdus ≡ [] → ⊥
unfolding all_did giving sending
some_said now item others l is room accepts none = not_none (did now (Gives item) l).pdus (all_did now others (did now (Gives item) l).link).pdus _
    (ap (λ (s : Step). s.pdus) (gives_at_once now item l (lively now l is) room ∙ ap (λ (b : Bool). if b then giving item l else silent l) accepts)) none

-- ---- two rounds

module _ (laws : LawsBelow) (names : Names) (are : AreNames names) (g : Flow) (old : HaleAfter names g) (front : List Event) (item : List ℕ) (rest calls : List Event)
    (first_round : StaysAtWork names g (with_reply front item rest)) (second_round : StaysAtWork names (work_round (with_reply front item rest) g) calls) (accepts : Accepts (in_round front g).server) where
  open old use {last as p}

  abbrev reply : List Event
  reply = with_reply front item rest

  abbrev behind_reply : List Event
  behind_reply = Calls Role.Server (Sends item) ∷ rest

  abbrev mid : Ends
  mid = in_round front g

  one_round : Worked names g old reply
  one_round = worked laws names are g old reply first_round

  open one_round use {goes as w1, hale as h1}

  abbrev r1 : WorkRound p
  r1 = w1.round

  abbrev p1 : Pair
  p1 = behind p r1

  abbrev g1 : Flow
  g1 = work_round reply g

  other_round : Worked names g1 (behind_it names g old reply one_round) calls
  other_round = worked laws names are g1 (behind_it names g old reply one_round) calls second_round

  open other_round use {goes as w2, both as both2}

  abbrev r2 : WorkRound p1
  r2 = w2.round

  abbrev p2 : Pair
  p2 = behind p1 r2

  abbrev g2 : Flow
  g2 = work_round calls g1

  abbrev nowc : ℕ
  nowc = p.client.clock + 10

  abbrev nows : ℕ
  nows = p.server.clock + 10

  abbrev lc : LinkState
  lc = settled nowc p.client

  abbrev ls : LinkState
  ls = settled nows p.server

  half : Middle names g old front behind_reply w1
  half = middle laws names are g old front behind_reply first_round w1

  open half use {parts as c, client_mid, server_mid, client_goes, client_at, server_at, both as both_mid}

  given : (others : List Act) × (c.server.other ≡ Gives item ∷ others)
  given = gives_first names.key item (calls_in Role.Server rest) c.server.other c.server.other_as

  abbrev says : List Act
  says = Gives item ∷ given.0

  server_are : r1.server_acts ≡ c.server.one ++ says
  server_are = c.server.are ∙ ap (λ (acts : List Act). c.server.one ++ acts) given.1

  server_goes : Whole nows says mid.server.link
  server_goes = subst (λ (acts : List Act). Whole nows acts mid.server.link) given.1 half.server_goes

  accepted : is_ok (acceptance mid.server.link) ≡ true
  accepted = accept_of nows mid.server.link server_at server_goes.room.0
      (subst (λ (n : ℕ). is_ok (answer_to_send n mid.server.link) ≡ true) (ap reading_of c.server_clock ∙ w1.server_begins.now) accepts)

  -- the client gives, the server takes
  abbrev sides : Sides (exchanged mid)
  sides = exchange mid (sides_of names mid both_mid)

  abbrev reached : ℕ
  reached = mid.server.link.expected

  abbrev least : ℕ
  least = reached - 1

  abbrev most : ℕ
  most = p1.server.expected - 1

  server_end : p1.server ≡ (all_did nows says mid.server.link).link
  server_end = ap (λ (s : Step). s.link) (server_did p r1) ∙ ap (λ (acts : List Act). (all_did nows acts ls).link) server_are ∙ links_both nows c.server.one says ls
      ∙ ap (λ (l : LinkState). (all_did nows says l).link) (sym server_mid)

  server_pdus : p1.to_client ≡ (all_did nows c.server.one ls).pdus ++ (all_did nows says mid.server.link).pdus
  server_pdus = ap (λ (s : Step). s.pdus) (server_did p r1) ∙ ap (λ (acts : List Act). (all_did nows acts ls).pdus) server_are ∙ pdus_both nows c.server.one says ls
      ∙ ap (λ (l : LinkState). (all_did nows c.server.one ls).pdus ++ (all_did nows says l).pdus) (sym server_mid)

  client_end : p1.client ≡ (all_did nowc c.client.other mid.client.link).link
  client_end = ap (λ (s : Step). s.link) (client_did p r1) ∙ ap (λ (acts : List Act). (all_did nowc acts lc).link) c.client.are ∙ links_both nowc c.client.one c.client.other lc
      ∙ ap (λ (l : LinkState). (all_did nowc c.client.other l).link) (sym client_mid)

  grows : Grows mid.client.link p2.client
  grows = grows_then mid.client.link p1.client p2.client
      (subst (Grows mid.client.link) (sym client_end) (all_grow nowc c.client.other mid.client.link client_at client_goes.room client_goes.simple).1)
      (client_grows names p1 r2 h1.near (client_young names p1 r2 h1) (server_young names p1 r2 h1))

  few : p2.client.given < 2 ^ 31
  few = few_given (exchanged g2.ends) (exchange g2.ends (sides_of names g2.ends both2)) p2.client both2.together.client_few w2.mirrors.client

  reaches_some : 1 ≤ reached
  reaches_some = some_reached (exchanged mid) sides both_mid.together.client_few server_at.joined p2.client few grows

  is_first : mid.server.link.partner_first ≡ p1.client.own_first
  is_first = sym (ap (λ (l : LinkState). l.partner_first) server_end ∙ same_first nows says mid.server.link server_goes) ∙ h1.near.to_server.way.first

  abbrev Q : Pdu → Type 0
  Q = Tells p1.client.own_first least most

  told : Each Q (all_did nows says mid.server.link).pdus
  told =
      let some = reaches_some
      in let reaches = server_goes.reaches
      in let fits = server_goes.fits
      in let end = ap (λ (l : LinkState). l.expected) server_end
      in all_tell p1.client.own_first least most nows says mid.server.link server_goes is_first (omega (arith, some)) (omega (arith, some, reaches, end)) (omega (arith, some, reaches, fits, end))

  last : IsLast Q p1.to_client
  last = subst (IsLast Q) (sym server_pdus) (last_then Q (all_did nows c.server.one ls).pdus (all_did nows says mid.server.link).pdus
      (last_of Q (all_did nows says mid.server.link).pdus told (some_said nows item given.0 mid.server.link server_at server_goes.room.0 accepted)))

  above : Rises (least + 1) p2.client.sent p2.client.waiting
  above =
      let some = h1.near.to_server.way.some
      in let far = h1.near.to_server.way.most
      in subst (λ (s : Step). Rises (least + 1) s.link.sent s.link.waiting) (sym (client_did p1 r2))
      (waits_behind (exchanged g1.ends) (exchange g1.ends (sides_of names g1.ends one_round.both)) (p1.client.clock + 10) r2.client_acts least most p1.to_client p1.client w1.mirrors.client
      (client_is names p1 r2 h1) (client_whole names p1 r2 h1) (omega (arith, some, far)) (client_brings names p1 r2 h1) last)

  round_confirms : mid.server.link.taken ≤ confirmed_items g2.ends.client.link
  round_confirms = subst (λ (l : LinkState). mid.server.link.taken ≤ confirmed_items l) (sym w2.mirrors.client)
      (taken_confirmed (exchanged mid) sides both_mid.together.client_few server_at.joined p2.client few grows (least + 1) (let some = reaches_some in omega (arith, some)) above)

pub replies_confirm : LawsBelow → (names : Names) (start : Start) (events : List Event) (passed : ℕ) (rounds : List (List Event)) (front : List Event) (item : List ℕ) (rest calls : List Event) → AreNames names
    → MayRun names events (started names start)
    → AreAtWork names rounds (flow_after names start events passed) → Each (Each LeavesOpen) rounds → StayBelow rounds (flow_after names start events passed) → recovery_rounds_at_work ≤ length rounds
    → StaysAtWork names (work_rounds rounds (flow_after names start events passed)) (with_reply front item rest)
    → StaysAtWork names (work_round (with_reply front item rest) (work_rounds rounds (flow_after names start events passed))) calls
    → Accepts (in_round front (work_rounds rounds (flow_after names start events passed))).server
    → (in_round front (work_rounds rounds (flow_after names start events passed))).server.link.taken ≤ confirmed_items (work_round calls (work_round (with_reply front item rest) (work_rounds rounds (flow_after names start events passed)))).ends.client.link
replies_confirm laws names start events passed rounds front item rest calls are may work opens room long =
    round_confirms laws names are (work_rounds rounds (flow_after names start events passed)) (hale_after laws names are start events passed rounds may work opens room long) front item rest calls
