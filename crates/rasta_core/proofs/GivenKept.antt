-- Every event keeps it that what an end gave is read off the datagrams that it sent.
use Rattle.std.proofs.Common.{◌≡◌, ℕ, ◌<◌, Bool, true, false, ◌&&◌, not, if◌then◌else◌, List, [], ◌∷◌, Some, None, refl, sym, ap, subst, ◌∙◌, arith}
use Rattle.std.proofs.lemmas.Option.{same_Some}
use Rattle.rasta_core_spec.specs.State.{is_open}
use Rattle.rasta_core_spec.specs.Calls.{opens, opening, ticking, closing_by, sending_item, receiving}
use Rattle.rasta_core_spec.specs.identity.Role.{Role}
use Rattle.rasta_core_spec.specs.identity.Role.TheVariants as role
use Rattle.rasta_core_spec.specs.reason.Reason.{Reason}
use Rattle.rasta_core_spec.specs.Ends.{Sent, Outcome, Call, Ticks, Opens, Closes, Sends, Receives, outcome, reading_of, end_later, end_restarted, is_taken}
use Rattle.rasta_core_spec.specs.Run.{Ends, end_of, called, later, lost, restarted}
use Rattle.rasta_core.specs.Carried.{carried}
use Rattle.rasta_core_spec.specs.Each.{Each}
use Rattle.rasta_core.specs.TimedEnds.{standing, times_of}
use Rattle.rasta_core_spec.specs.Names.{Names, AreNames}
use Rattle.rasta_core.specs.Invariant.{InFlight, Timely}
use Rattle.rasta_core_spec.specs.Events.{Event, Calls, Passes, Loses, Restarts, Elsewhere, May, MayCall, happened, run, MayRun, Start, started}
use Rattle.rasta_core.specs.Timely.{IsKnown}
use Rattle.rasta_core_spec.specs.Sentences.{IsOpening}
use Rattle.rasta_core.proofs.EachLaws.{each_turned}
use Rattle.rasta_core.proofs.CallsKept.{ends_ready}
use Rattle.rasta_core.proofs.Deeds.{IsFor, ticking_does, closing_does, sending_does, opening_does}
use Rattle.rasta_core.proofs.Receipts.{Receives as Hears}
use Rattle.rasta_core.proofs.HeardTimes.{read_pdu}
use Rattle.rasta_core.proofs.OrderLaws.{CarryingLaws, Laws}
use Rattle.rasta_core.proofs.Called.{ReadIsIntact, read_is, bytes_do, bytes_bring}
use Rattle.rasta_core.proofs.BothEndsAfter.{made_at}
use Rattle.rasta_core_spec.specs.pdu.Pdu.{Pdu}
use Rattle.rasta_core_spec.specs.Items.{IsItem}
use Rattle.rasta_core_spec.specs.PduRead.{reading}
use Rattle.rasta_core_spec.specs.Values.{IsPdu}
use Rattle.rasta_core_spec.specs.identity.Identity.{Identity}
use Rattle.rasta_core_spec.specs.Given.{IsGiven}
use Rattle.rasta_core.proofs.Comes.{deed_pdus, client_enters_none, Comes, comes, in_newest, IsGranted, deed_grants}
use Rattle.rasta_core.proofs.Calls.{client_key, server_key, at_clock, step_pdus}
use Rattle.rasta_core.proofs.Receptions.{both_true, not_true}
use Rattle.rasta_core.proofs.Events.{KeepsTime}
use Rattle.rasta_core.proofs.GivenRead.{client_gives, server_gives, client_given_kept, server_given_kept, without_given}

-- of both ends
pub record AreGiven (names : Names) (ends : Ends) : Type 0 where
  pub client : IsGiven names role.Client ends
  pub server : IsGiven names role.Server ends

passed : (names : Names) (elapsed of_client of_server : ℕ) (ends : Ends) → AreGiven names ends → AreGiven names (later elapsed of_client of_server ends)
unfolding later end_later
passed names elapsed of_client of_server ends are = record { client = are.client; server = are.server }

lost_kept : (names : Names) (bytes : List ℕ) (ends : Ends) → AreGiven names ends → AreGiven names (lost bytes ends)
unfolding lost
lost_kept names bytes ends are = record {
  client = λ connection is. are.client connection is ∙ sym (without_given names role.Client connection bytes ends.sent);
  server = λ connection is. are.server connection is ∙ sym (without_given names role.Server connection bytes ends.sent);
}

restarted_kept : (names : Names) (who : Role) (clock first : ℕ) (ends : Ends) → AreGiven names ends → AreGiven names (restarted who clock first ends)
unfolding restarted end_restarted
restarted_kept names role.Client clock first ends are = record { client = are.client; server = are.server }
restarted_kept names role.Server clock first ends are = record { client = are.client; server = are.server }

-- ---- calls

none_from : (P : ℕ → Type 0) (connection : ℕ) → None ≡ Some connection → P connection
none_from P connection e = absurd (cc (e))

-- nothing was sent yet in a connection that is only just beginning
nothing_at : (names : Names) (who : Role) (ends : Ends) → Timely names ends → Each (λ (d : Sent). d.connection ≡ ends.moment → d.sender ≡ who → ⊥) ends.sent
nothing_at names who ends is =
    each_turned (InFlight names (times_of ends is.of_client is.of_server is.newest)) (λ (d : Sent). d.connection ≡ ends.moment → d.sender ≡ who → ⊥)
    (λ (sent : Sent) flies same its. earlier sent.connection flies.known.counted same) ends.sent is.datagrams
  where
    earlier : (connection : ℕ) → connection < ends.moment → connection ≡ ends.moment → ⊥
    earlier connection lt same = omega arith

opened_at : (may : Bool) (moment connection : ℕ) → (if may then Some moment else None) ≡ Some connection → moment ≡ connection
opened_at true moment connection e = cc
opened_at false moment connection e = absurd (cc (e))

entered_at : (entering : Bool) (number connection : ℕ) → (if entering then Some number else None) ≡ Some connection → (entering ≡ true) × (number ≡ connection)
entered_at true number connection e = (refl, same_Some number connection e)
entered_at false number connection e = absurd (cc (e))

module _ (law : Laws) (carry : CarryingLaws) (intact : ReadIsIntact) (names : Names) (are : AreNames names) (ends : Ends) (timely : Timely names ends) where
  abbrev NoneIn : Role → ℕ → Type 0
  NoneIn who connection = Each (λ (d : Sent). d.connection ≡ connection → d.sender ≡ who → ⊥) ends.sent

  made_by_client : (made : Outcome) → Each IsPdu made.pdus → carried made.pdus ≡ made.given → ((connection : ℕ) → made.enters ≡ Some connection → NoneIn role.Client connection)
      → AreGiven names ends → AreGiven names (made_at role.Client made ends)
  made_by_client made pdus carries none given = record {
    client = client_gives law.written names ends made (client_key law names ends timely) pdus carries none given.client;
    server = server_given_kept names ends made given.server;
  }

  made_by_server : (made : Outcome) → Each IsPdu made.pdus → carried made.pdus ≡ made.given → ((connection : ℕ) → made.enters ≡ Some connection → NoneIn role.Server connection)
      → AreGiven names ends → AreGiven names (made_at role.Server made ends)
  made_by_server made pdus carries none given = record {
    client = client_given_kept names ends made given.client;
    server = server_gives law.written names ends made (server_key law names ends timely) pdus carries none given.server;
  }

  now_of : Role → ℕ
  now_of who = reading_of (end_of who ends).clock

  ticks_pdus : (who : Role) → Each IsPdu (ticking (reading_of (end_of who ends).clock) (end_of who ends).link).pdus
  ticks_pdus who = step_pdus law names ends timely (end_of who ends).link false (ticking (reading_of (end_of who ends).clock) (end_of who ends).link)
      (at_clock law names ends timely who (λ n. false) (λ n. ticking n (end_of who ends).link) (ticking_does (end_of who ends).link (ends_ready names ends who timely)))

  closes_pdus : (who : Role) (why : Reason) → Each IsPdu (closing_by (reading_of (end_of who ends).clock) why (end_of who ends).link).pdus
  closes_pdus who why = step_pdus law names ends timely (end_of who ends).link false (closing_by (reading_of (end_of who ends).clock) why (end_of who ends).link)
      (at_clock law names ends timely who (λ n. false) (λ n. closing_by n why (end_of who ends).link) (closing_does (end_of who ends).link why (ends_ready names ends who timely)))

  sends_pdus : (who : Role) (item : List ℕ) → IsItem item → Each IsPdu (sending_item (reading_of (end_of who ends).clock) item (end_of who ends).link).pdus
  sends_pdus who item may = step_pdus law names ends timely (end_of who ends).link false (sending_item (reading_of (end_of who ends).clock) item (end_of who ends).link)
      (at_clock law names ends timely who (λ n. false) (λ n. sending_item n item (end_of who ends).link) (sending_does (end_of who ends).link item (ends_ready names ends who timely) may))

  opens_pdus : (who : Role) → Each IsPdu (opening (reading_of (end_of who ends).clock) (end_of who ends).link).pdus
  opens_pdus who = step_pdus law names ends timely (end_of who ends).link (opens (reading_of (end_of who ends).clock) (end_of who ends).link) (opening (reading_of (end_of who ends).clock) (end_of who ends).link)
      (at_clock law names ends timely who (λ n. opens n (end_of who ends).link) (λ n. opening n (end_of who ends).link) (opening_does (end_of who ends).link (ends_ready names ends who timely)))

  -- a server that enters a connection has sent nothing there
  none_of_server : (bytes : List ℕ) (number : ℕ) → MayCall names role.Server (Receives bytes number) ends
      → (not (is_open ends.server.link.phase) && is_taken (receiving (reading_of ends.server.clock) bytes ends.server.link).verdict) ≡ true → NoneIn role.Server number
  none_of_server bytes number may e = of_grant (deed_grants _ _ _ _ _ _ _ _ does.deed e)
    where
      does : Hears ends.server.link (read_pdu (reading names.key bytes)) (receiving (reading_of ends.server.clock) bytes ends.server.link)
      does = bytes_do names ends role.Server bytes number timely (bytes_bring intact names role.Server ends bytes number timely may)

      both : (not (is_open ends.server.link.phase) ≡ true) × (is_taken (receiving (reading_of ends.server.clock) bytes ends.server.link).verdict ≡ true)
      both = both_true (not (is_open ends.server.link.phase)) (is_taken (receiving (reading_of ends.server.clock) bytes ends.server.link).verdict) e

      of_datagram : (pdu : Pdu) → Comes names role.Server ends timely bytes number pdu → NoneIn role.Server number
      of_datagram pdu from =
          each_turned (InFlight names (times_of ends timely.of_client timely.of_server timely.newest)) (λ (d : Sent). d.connection ≡ number → d.sender ≡ role.Server → ⊥)
          (λ (sent : Sent) flies same its. later sent flies same its) ends.sent timely.datagrams
        where
          first : from.datagram.connection ≡ timely.newest
          first = in_newest names role.Server ends timely bytes number pdu from

          opening_is : IsOpening names role.Server ends from.datagram
          opening_is = law.taken_opening names ends role.Server bytes number from.datagram are timely from.delivered (not_true (is_open ends.server.link.phase) both.0) both.1

          later : (sent : Sent) → InFlight names (times_of ends timely.of_client timely.of_server timely.newest) sent → sent.connection ≡ number → sent.sender ≡ role.Server → ⊥
          later sent flies same its =
              let known = subst (λ (r : Role). IsKnown (times_of ends timely.of_client timely.of_server timely.newest) r sent.at sent.connection flies.pdu flies.back) its flies.known
              in omega (arith, opening_is.is_new timely.newest (known.entered (same ∙ sym from.delivered.connection_same ∙ first) tt), first)

      of_grant : IsGranted ends.server.link.identity (reading names.key bytes) (standing ends.server.link) (receiving (reading_of ends.server.clock) bytes ends.server.link).items → NoneIn role.Server number
      of_grant granted = of_datagram granted.pdu (comes intact names are role.Server ends timely bytes number may granted.pdu (read_is (reading names.key bytes) granted.pdu granted.word)
          (subst (λ (i : Identity). IsFor i granted.pdu) timely.server.identity granted.is_for))

  hears_pdus : (who : Role) (bytes : List ℕ) (number : ℕ) → MayCall names who (Receives bytes number) ends → Each IsPdu (receiving (reading_of (end_of who ends).clock) bytes (end_of who ends).link).pdus
  hears_pdus who bytes number may = deed_pdus _ _ _ _ _ _ _ _ (bytes_do names ends who bytes number timely (bytes_bring intact names who ends bytes number timely may)).deed

  called_gives : (who : Role) (call : Call) → MayCall names who call ends → AreGiven names ends → AreGiven names (called who call ends)
  unfolding called outcome
  called_gives role.Client Ticks may = made_by_client _ (ticks_pdus role.Client) (carry.ticking_carries (reading_of ends.client.clock) ends.client.link) (λ c e. none_from (NoneIn role.Client) c e)
  called_gives role.Client (Closes why) may = made_by_client _ (closes_pdus role.Client why) (carry.closing_carries (reading_of ends.client.clock) why ends.client.link) (λ c e. none_from (NoneIn role.Client) c e)
  called_gives role.Client (Sends item) may = made_by_client _ (sends_pdus role.Client item may) (carry.sending_carries (reading_of ends.client.clock) item ends.client.link) (λ c e. none_from (NoneIn role.Client) c e)
  called_gives role.Client Opens may = made_by_client _ (opens_pdus role.Client) (carry.opening_carries (reading_of ends.client.clock) ends.client.link)
      (λ c e. subst (NoneIn role.Client) (opened_at (opens (reading_of ends.client.clock) ends.client.link) ends.moment c e) (nothing_at names role.Client ends timely))
  called_gives role.Client (Receives bytes number) may = made_by_client _ (hears_pdus role.Client bytes number may) (carry.receiving_carries (reading_of ends.client.clock) bytes ends.client.link)
      (λ c e. absurd (cc (
        (entered_at (not (is_open ends.client.link.phase) && is_taken (receiving (reading_of ends.client.clock) bytes ends.client.link).verdict) number c e).0,
        client_enters_none _ _ _ _ _ _ _ _ (bytes_do names ends role.Client bytes number timely (bytes_bring intact names role.Client ends bytes number timely may)).deed
            (ap (λ (i : Identity). i.role) timely.client.identity),
      )))
  called_gives role.Server Ticks may = made_by_server _ (ticks_pdus role.Server) (carry.ticking_carries (reading_of ends.server.clock) ends.server.link) (λ c e. none_from (NoneIn role.Server) c e)
  called_gives role.Server (Closes why) may = made_by_server _ (closes_pdus role.Server why) (carry.closing_carries (reading_of ends.server.clock) why ends.server.link) (λ c e. none_from (NoneIn role.Server) c e)
  called_gives role.Server (Sends item) may = made_by_server _ (sends_pdus role.Server item may) (carry.sending_carries (reading_of ends.server.clock) item ends.server.link) (λ c e. none_from (NoneIn role.Server) c e)
  called_gives role.Server Opens may = made_by_server _ (opens_pdus role.Server) (carry.opening_carries (reading_of ends.server.clock) ends.server.link)
      (λ c e. subst (NoneIn role.Server) (opened_at (opens (reading_of ends.server.clock) ends.server.link) ends.moment c e) (nothing_at names role.Server ends timely))
  called_gives role.Server (Receives bytes number) may = made_by_server _ (hears_pdus role.Server bytes number may) (carry.receiving_carries (reading_of ends.server.clock) bytes ends.server.link)
      (λ c e. let entered = entered_at (not (is_open ends.server.link.phase) && is_taken (receiving (reading_of ends.server.clock) bytes ends.server.link).verdict) number c e
      in subst (NoneIn role.Server) entered.1 (none_of_server bytes number may entered.0))

  event_gives : (event : Event) → May names event ends → AreGiven names ends → AreGiven names (happened event ends)
  event_gives (Calls who call) may given = called_gives who call may given
  event_gives (Passes elapsed of_client of_server) may given = passed names elapsed of_client of_server ends given
  event_gives (Loses bytes) may given = lost_kept names bytes ends given
  event_gives (Restarts who clock first) may given = restarted_kept names who clock first ends given
  event_gives (Elsewhere count) may given = record { client = given.client; server = given.server }

pub run_gives : Laws → CarryingLaws → ReadIsIntact → KeepsTime → (names : Names) (events : List Event) (ends : Ends) → AreNames names → Timely names ends → AreGiven names ends → MayRun names events ends
    → AreGiven names (run events ends)
run_gives law carry intact time names [] ends are timely given may = given
run_gives law carry intact time names (first ∷ others) ends are timely given may =
    run_gives law carry intact time names others (happened first ends) are (time names first ends are timely may.0) (event_gives law carry intact names are ends timely first may.0 given) may.1

pub starts_given : (names : Names) (start : Start) → AreGiven names (started names start)
starts_given names start = record { client = λ connection e. absurd (cc (e)); server = λ connection e. absurd (cc (e)) }

pub given_of : (names : Names) (ends : Ends) (who : Role) → AreGiven names ends → IsGiven names who ends
given_of names ends role.Client are = are.client
given_of names ends role.Server are = are.server
