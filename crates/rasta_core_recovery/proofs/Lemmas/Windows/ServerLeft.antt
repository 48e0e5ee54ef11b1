-- A server whose client has left its connection: few of its items wait, event by event.
use Rattle.rasta_core_recovery.proofs.Words.Basics.{◌≡◌, ℕ, ◌∙◌, ◌+◌, ◌≤◌, Bool, true, false, ◌++◌, length, Option, Some, None, refl, sym, ap, arith, false≢true}
use Rattle.rasta_core_recovery.proofs.Words.Links.{is_client, is_open, created, Identity, Role, Call, EndState, Outcome, end_after, end_later, end_restarted, kept, outcome, Calls, Elsewhere, Event, Loses, May, MayCall, Passes as TimePasses, Restarts, happened, AreNames, Names, Ends, called, later, lost, restarted, Timely, Ordered}
use Rattle.rasta_core_recovery.proofs.Words.Recovery.{AreIn, ClientHasLeft, ClientOwes, FewOfServerLeft, ServerConfirming, LawsBelow}
use Rattle.rasta_core_recovery.proofs.Lemmas.Windows.ClientLeft.{does_window}
use Rattle.rasta_core_recovery.proofs.Lemmas.Windows.Confirmed.{never_asks}
use Rattle.rasta_core_recovery.proofs.Lemmas.Windows.ConfirmingEvents.{client_enters_none, client_new, client_timely, does_by, later_alike, server_enters_none, server_new, server_ordered, server_timely, settled_so}
use Rattle.rasta_core_recovery.proofs.Lemmas.Rounds.Facts.{is_newest, together_in}
use Rattle.rasta_core_recovery.proofs.Lemmas.Windows.ServerConfirmed.{server_waits, was_alone}
use Rattle.rasta_core_recovery.proofs.Lemmas.Rounds.Blocks.{as_many_both}

module _ (laws : LawsBelow) (names : Names) (are : AreNames names) (spare owed : ℕ) (ends : Ends) (timely : Timely names ends) (ordered : Ordered names ends)
    (confirming : ServerConfirming names spare ends) (before : FewOfServerLeft (spare + owed) ends) where
  -- of a server that is in its connection after it
  of_server : (call : Call) → MayCall names Role.Server call ends → FewOfServerLeft (spare + owed) (called Role.Server call ends)
  unfolding called end_after
  of_server call may is = by_open (is_open ends.server.link.phase) refl
    where
      new : EndState
      new = end_after (outcome call ends.moment ends.server) ends.moment ends.server

      next : Ends
      next = server_new laws names are spare ends timely ordered call may

      made : Outcome
      made = outcome call ends.moment ends.server

      given_is : made.enters ≡ None → length new.given ≡ length ends.server.given + length made.given
      given_is none = ap (λ (e : Option ℕ). length (kept e ends.server.given ++ made.given)) none ∙ as_many_both ends.server.given made.given

      window : is_open ends.server.link.phase ≡ true → made.enters ≡ None → length new.link.waiting ≤ length ends.server.link.waiting + length made.given
      window opened none = does_window ends.server.link _ _ _ _ (does_by call ends.moment ends.server opened (settled_so laws names ends Role.Server timely opened)
          (never_asks ends.server.link (ap (λ (i : Identity). is_client i.role) timely.server.identity)) none is.server)

      by_open : (b : Bool) → is_open ends.server.link.phase ≡ b → length ends.client.given + length new.link.waiting ≤ length new.given + (spare + owed)
      by_open true e =
          let none = server_enters_none laws names ends timely e call
          in let w = window e none
          in let g = given_is none
          in let b = before (record { client = is.client; server = e })
          in omega (arith, w, g, b)
      by_open false e =
          let a = was_alone laws names are spare ends timely ordered call may e is.server
          in let none = ap length a.given
          in let t = together_in names next (server_timely laws names are spare ends timely ordered call may) (server_ordered laws names are spare ends timely ordered call may) is.server
          in let w = server_waits names next t is.server
          in omega (arith, none, w)

  -- of a client that is outside after it: what one that leaves gave is owed
  of_client : (call : Call) → MayCall names Role.Client call ends → (AreIn ends → ClientHasLeft (called Role.Client call ends) → ClientOwes owed (called Role.Client call ends))
      → FewOfServerLeft (spare + owed) (called Role.Client call ends)
  unfolding called end_after
  of_client call may owes is = by_open (is_open ends.client.link.phase) refl
    where
      new : EndState
      new = end_after (outcome call ends.moment ends.client) ends.moment ends.client

      next : Ends
      next = client_new laws names are spare ends timely ordered call may

      timely_then : Timely names next
      timely_then = client_timely laws names are spare ends timely ordered call may

      newest : (ends.server.connection ≡ Some timely_then.newest) × (new.connection ≡ Some timely_then.newest)
      newest = is_newest names next timely_then is.server

      by_open : (b : Bool) → is_open ends.client.link.phase ≡ b → length new.given + length ends.server.link.waiting ≤ length ends.server.given + (spare + owed)
      by_open true e =
          let few = (confirming (record { client = e; server = is.server })).few
          in let o = owes (record { client = e; server = is.server }) is
          in omega (arith, few, o)
      by_open false e =
          let none = client_enters_none laws names are ends timely call may (newest.0 ∙ sym newest.1)
          in let g = ap (λ (x : Option ℕ). length (kept x ends.client.given ++ (outcome call ends.moment ends.client).given)) none
          ∙ as_many_both ends.client.given (outcome call ends.moment ends.client).given
          in let z = ap length (laws.outside_until_it_enters_nothing call ends.moment ends.client e none).given
          in let b = before (record { client = e; server = is.server })
          in omega (arith, g, z, b)

  -- of time, and of an end that is made anew
  stays_left : (new : Ends) → length new.client.given ≡ length ends.client.given → length new.server.given ≡ length ends.server.given → length new.server.taken ≡ length ends.server.taken
      → (is_open new.server.link.phase ≡ true → (is_open ends.server.link.phase ≡ true) × (length new.server.link.waiting ≡ length ends.server.link.waiting))
      → (AreIn ends → ClientHasLeft new → ClientOwes owed new) → FewOfServerLeft (spare + owed) new
  stays_left new client_given server_given server_taken was owes is = by_open (is_open ends.client.link.phase) refl
    where
      by_open : (b : Bool) → is_open ends.client.link.phase ≡ b → length new.client.given + length new.server.link.waiting ≤ length new.server.given + (spare + owed)
      by_open true e =
          let w = was is.server
          in let o = owes (record { client = e; server = w.0 }) is
          in let few = (confirming (record { client = e; server = w.0 })).few
          in let u = w.1
          in omega (arith, o, few, u, server_given, server_taken)
      by_open false e =
          let w = was is.server
          in let b = before (record { client = e; server = w.0 })
          in let u = w.1
          in omega (arith, b, u, client_given, server_given)

  later_left : (elapsed of_clients of_servers : ℕ) → (AreIn ends → ClientHasLeft (later elapsed of_clients of_servers ends) → ClientOwes owed (later elapsed of_clients of_servers ends))
      → FewOfServerLeft (spare + owed) (later elapsed of_clients of_servers ends)
  unfolding later end_later
  later_left elapsed of_clients of_servers = stays_left (later elapsed of_clients of_servers ends) refl refl refl
      (λ opened. let a = later_alike of_servers ends.moment ends.server opened in (a.1, ap length a.0.waiting))

  anew_left : (who : Role) (clock first : ℕ) → (AreIn ends → ClientHasLeft (restarted who clock first ends) → ClientOwes owed (restarted who clock first ends))
      → FewOfServerLeft (spare + owed) (restarted who clock first ends)
  unfolding restarted end_restarted created
  anew_left Role.Client clock first owes is = stays_left (restarted Role.Client clock first ends) refl refl refl (λ opened. (opened, refl)) owes is
  anew_left Role.Server clock first owes is = absurd (false≢true is.server)

  pub event_left_servers : (happening : Event) → May names happening ends → (AreIn ends → ClientHasLeft (happened happening ends) → ClientOwes owed (happened happening ends))
      → FewOfServerLeft (spare + owed) (happened happening ends)
  unfolding lost
  event_left_servers (Calls Role.Client call) may owes is = of_client call may owes is
  event_left_servers (Calls Role.Server call) may owes is = of_server call may is
  event_left_servers (TimePasses elapsed of_clients of_servers) may owes is = later_left elapsed of_clients of_servers owes is
  event_left_servers (Loses bytes) may owes is = before (record { client = is.client; server = is.server })
  event_left_servers (Restarts who clock first) may owes is = anew_left who clock first owes is
  event_left_servers (Elsewhere count) may owes is = before (record { client = is.client; server = is.server })
