-- A client whose server has left its connection: few of its items wait, event by event.
use Rattle.rasta_core_recovery.proofs.Words.Basics.{◌≡◌, ℕ, ◌∙◌, ◌+◌, ◌-◌, ◌≤◌, Bool, true, false, List, [], ◌++◌, length, Option, Some, None, refl, sym, ap, subst, arith, false≢true, none-some}
use Rattle.rasta_core_recovery.proofs.Words.Links.{LinkState, is_asking, is_open, behind, still_waiting, created, Role, Pdu, Call, Closes, EndState, Opens, Receives, Sends, Ticks, end_after, end_later, end_restarted, kept, newer, outcome, Calls, Elsewhere, Event, Loses, May, MayCall, Passes as TimePasses, Restarts, happened, AreNames, Names, Ends, called, later, lost, restarted, items_of, Timely, Plays, joined, left, Ordered, alone, together, unbegun}
use Rattle.rasta_core_recovery.proofs.Words.Recovery.{AreIn, Confirming, FewLeft, HasLeft, Owes, LawsBelow}
use Rattle.rasta_core.specs.LinkAndFlow.{asking}
use Rattle.rasta_core_recovery.proofs.Lemmas.Windows.ConfirmingEvents.{as_many_wait, asks_by, client_enters_none, does_by, later_alike, settled_so}
use Rattle.rasta_core_recovery.proofs.Lemmas.Windows.StaysIn.{Asks, Does, answers, calm, gives, joins, still, takes}
use Rattle.rasta_core_recovery.proofs.Lemmas.Windows.WindowNumbers.{count_one}
use Rattle.rasta_core_recovery.proofs.Lemmas.Rounds.Blocks.{still_fewer, retagged_as_many, as_many_both}

-- ---- the window of an end that stays in its connection

pub does_window : {Came : Pdu → Type 0} (l k : LinkState) (ps : List Pdu) (accepted handed : List (List ℕ)) → Does Came l k ps accepted handed → length k.waiting ≤ length l.waiting + length accepted
does_window l k ps accepted handed (calm s x w a h) = let e = ap length w in omega (arith, e)
does_window l k ps accepted handed (gives item s x w a h) = let e = ap length w ∙ count_one l.waiting (record { tag = l.sent; item = item }) in let z = ap length a in omega (arith, e, z)
does_window l k ps accepted handed (takes p c pass s x w a) = let e = ap length w in let f = still_fewer (l.sent - 1 - behind p l) l.waiting in omega (arith, e, f)
does_window l k ps accepted handed (answers p c pass b s x w a) =
    let e = ap length w ∙ retagged_as_many (l.sent + 1) (still_waiting (l.sent - 1 - behind p l) l.waiting) in let f = still_fewer (l.sent - 1 - behind p l) l.waiting in omega (arith, e, f)

asks_window : (l k : LinkState) (accepted handed : List (List ℕ)) → Asks l k accepted handed → length k.waiting ≤ length l.waiting + length accepted
asks_window l k accepted handed (still on own sent w a h) = let e = ap length w in omega (arith, e)
asks_window l k accepted handed (joins on x own sent w a h) = let e = ap length w in omega (arith, e)

-- ---- an event

module _ (laws : LawsBelow) (names : Names) (are : AreNames names) (spare owed : ℕ) (ends : Ends) (timely : Timely names ends) (ordered : Ordered names ends) (confirming : Confirming names spare ends) (before : FewLeft (spare + owed) ends) where
  -- of a client that is in its connection after it
  of_client : (call : Call) → MayCall names Role.Client call ends → FewLeft (spare + owed) (called Role.Client call ends)
  unfolding called end_after
  of_client call may is = by_open (is_open ends.client.link.phase) refl
    where
      new : EndState
      new = end_after (outcome call ends.moment ends.client) ends.moment ends.client

      none : (outcome call ends.moment ends.client).enters ≡ None
      none = client_enters_none laws names are ends timely call may is.same

      given_is : length new.given ≡ length ends.client.given + length (outcome call ends.moment ends.client).given
      given_is = ap (λ (e : Option ℕ). length (kept e ends.client.given ++ (outcome call ends.moment ends.client).given)) none ∙ as_many_both ends.client.given (outcome call ends.moment ends.client).given

      connection_is : new.connection ≡ ends.client.connection
      connection_is = ap (λ (e : Option ℕ). newer e ends.client.connection) none

      window : is_open ends.client.link.phase ≡ true → length new.link.waiting ≤ length ends.client.link.waiting + length (outcome call ends.moment ends.client).given
      window opened = by_asking (is_asking ends.client.link) refl
        where
          by_asking : (b : Bool) → is_asking ends.client.link ≡ b → length (outcome call ends.moment ends.client).link.waiting ≤ length ends.client.link.waiting + length (outcome call ends.moment ends.client).given
          by_asking true e = asks_window ends.client.link _ _ _ (asks_by call ends.moment ends.client opened (settled_so laws names ends Role.Client timely opened) e none is.client)
          by_asking false e = does_window ends.client.link _ _ _ _ (does_by call ends.moment ends.client opened (settled_so laws names ends Role.Client timely opened) e none is.client)

      by_open : (b : Bool) → is_open ends.client.link.phase ≡ b → length ends.server.given + length new.link.waiting ≤ length new.given + (spare + owed)
      by_open true e = let w = window e in let g = given_is in let b = before (record { client = e; server = is.server; same = is.same ∙ connection_is }) in omega (arith, w, g, b)
      by_open false e = absurd (false≢true (sym (laws.outside_until_it_enters_stays call ends.moment ends.client e none) ∙ is.client))

  -- what a server that leaves gave is owed
  leaves : AreIn ends → (given : List (List ℕ)) → length given ≤ length ends.client.taken + owed → length given + length ends.client.link.waiting ≤ length ends.client.given + (spare + owed)
  leaves are_in given owes = let few = (confirming are_in).few in omega (arith, few, owes)

  -- of a server that is outside after it
  given_none : (call : Call) (c : ℕ) → (outcome call ends.moment ends.server).enters ≡ Some c → (outcome call ends.moment ends.server).given ≡ []
  unfolding outcome
  given_none Ticks c e = refl
  given_none Opens c e = refl
  given_none (Closes why) c e = refl
  given_none (Sends item) c e = absurd (none-some c e)
  given_none (Receives bytes connection) c e = refl

  waits_given : (new : Ends) → Ordered names new → new.client ≡ ends.client → is_open ends.client.link.phase ≡ true → new.server.connection ≡ ends.client.connection → (c : ℕ) → new.server.connection ≡ Some c → length ends.client.link.waiting ≤ length ends.client.given
  waits_given new ordered_new client_same client_in same c there = subst (λ (e : EndState). length e.link.waiting ≤ length e.given) client_same (choose ordered_new)
    where
      connection_is : new.client.connection ≡ Some c
      connection_is = ap (λ (e : EndState). e.connection) client_same ∙ sym same ∙ there

      choose : Ordered names new → length new.client.link.waiting ≤ length new.client.given
      choose (unbegun none) = absurd (none-some c (sym none ∙ connection_is))
      choose (alone a) = absurd (a.not_of_server (there ∙ sym connection_is ∙ a.of_client))
      choose (together t) =
          let last = t.order.there.waits.last
          in let many = ap length last.1 ∙ as_many_both last.0 (items_of t.client.waiting)
          in let waits = as_many_wait t.client.waiting
          in let w = ap length (keeps t.client_plays)
          in let g = ap length t.client_given
          in omega (arith, many, waits, w, g)
        where
          keeps : Plays new.client.link t.client t.server → new.client.link.waiting ≡ t.client.waiting
          keeps (joined has) = has.inside.keeps.waiting
          keeps (asking on) = on.inside.keeps.waiting
          keeps (left shut k) = absurd (false≢true (sym shut ∙ ap (λ (e : EndState). is_open e.link.phase) client_same ∙ client_in))

  of_server : (call : Call) → MayCall names Role.Server call ends → (AreIn ends → HasLeft (called Role.Server call ends) → Owes owed (called Role.Server call ends)) → FewLeft (spare + owed) (called Role.Server call ends)
  unfolding called end_after
  of_server call may owes is = by_open (is_open ends.server.link.phase) refl
    where
      new : EndState
      new = end_after (outcome call ends.moment ends.server) ends.moment ends.server

      ordered_new : Ordered names (called Role.Server call ends)
      ordered_new = laws.every_event_keeps_order_kept names (Calls Role.Server call) ends are timely ordered may

      by_enters : is_open ends.server.link.phase ≡ false → (found : Option ℕ) → (outcome call ends.moment ends.server).enters ≡ found → length new.given + length ends.client.link.waiting ≤ length ends.client.given + (spare + owed)
      by_enters shut None e =
          let g = ap (λ (x : Option ℕ). length (kept x ends.server.given ++ (outcome call ends.moment ends.server).given)) e ∙ as_many_both ends.server.given (outcome call ends.moment ends.server).given
          in let z = ap length (laws.outside_until_it_enters_nothing call ends.moment ends.server shut e).given
          in let b = before (record { client = is.client; server = shut; same = ap (λ (x : Option ℕ). newer x ends.server.connection) (sym e) ∙ is.same })
          in omega (arith, g, z, b)
      by_enters shut (Some c) e =
          let g = ap (λ (x : Option ℕ). length (kept x ends.server.given ++ (outcome call ends.moment ends.server).given)) e
          in let z = ap length (given_none call c e)
          in let w = waits_given (called Role.Server call ends) ordered_new refl is.client is.same c (ap (λ (x : Option ℕ). newer x ends.server.connection) e)
          in omega (arith, g, z, w)

      by_open : (b : Bool) → is_open ends.server.link.phase ≡ b → length new.given + length ends.client.link.waiting ≤ length ends.client.given + (spare + owed)
      by_open true e = leaves (record { client = is.client; server = e }) new.given (owes (record { client = is.client; server = e }) is)
      by_open false e = by_enters e (outcome call ends.moment ends.server).enters refl

  -- of time, and of an end that is made anew
  stays_left : (new : Ends) → length new.server.given ≡ length ends.server.given → new.server.connection ≡ ends.server.connection → length new.client.given ≡ length ends.client.given → length new.client.taken ≡ length ends.client.taken
      → new.client.connection ≡ ends.client.connection → (is_open new.client.link.phase ≡ true → (is_open ends.client.link.phase ≡ true) × (length new.client.link.waiting ≡ length ends.client.link.waiting)) → (AreIn ends → HasLeft new → Owes owed new) → FewLeft (spare + owed) new
  stays_left new given_is server_same client_given client_taken client_same was owes is = by_open (is_open ends.server.link.phase) refl
    where
      by_open : (b : Bool) → is_open ends.server.link.phase ≡ b → length new.server.given + length new.client.link.waiting ≤ length new.client.given + (spare + owed)
      by_open true e = let w = was is.client in let o = owes (record { client = w.0; server = e }) is in let l = leaves (record { client = w.0; server = e }) new.server.given (omega (arith, o, client_taken)) in let u = w.1 in omega (arith, l, u, client_given)
      by_open false e = let w = was is.client in let b = before (record { client = w.0; server = e; same = sym server_same ∙ is.same ∙ client_same }) in let u = w.1 in omega (arith, b, u, given_is, client_given)

  later_left : (elapsed of_clients of_servers : ℕ) → (AreIn ends → HasLeft (later elapsed of_clients of_servers ends) → Owes owed (later elapsed of_clients of_servers ends)) → FewLeft (spare + owed) (later elapsed of_clients of_servers ends)
  unfolding later end_later
  later_left elapsed of_clients of_servers = stays_left (later elapsed of_clients of_servers ends) refl refl refl refl refl (λ opened. let a = later_alike of_clients ends.moment ends.client opened in (a.1, ap length a.0.waiting))

  anew_left : (who : Role) (clock first : ℕ) → (AreIn ends → HasLeft (restarted who clock first ends) → Owes owed (restarted who clock first ends)) → FewLeft (spare + owed) (restarted who clock first ends)
  unfolding restarted end_restarted created
  anew_left Role.Client clock first owes is = absurd (false≢true is.client)
  anew_left Role.Server clock first owes is = stays_left (restarted Role.Server clock first ends) refl refl refl refl refl (λ opened. (opened, refl)) owes is

  pub event_left : (happening : Event) → May names happening ends → (AreIn ends → HasLeft (happened happening ends) → Owes owed (happened happening ends)) → FewLeft (spare + owed) (happened happening ends)
  unfolding lost
  event_left (Calls Role.Client call) may owes is = of_client call may is
  event_left (Calls Role.Server call) may owes is = of_server call may owes is
  event_left (TimePasses elapsed of_clients of_servers) may owes is = later_left elapsed of_clients of_servers owes is
  event_left (Loses bytes) may owes is = before (record { client = is.client; server = is.server; same = is.same })
  event_left (Restarts who clock first) may owes is = anew_left who clock first owes is
  event_left (Elsewhere count) may owes is = before (record { client = is.client; server = is.server; same = is.same })
