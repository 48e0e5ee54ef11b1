-- An end's last connection is that of the newest datagram that it sent.
use Rattle.std.proofs.Common.{◌≡◌, ℕ, ◌⊎◌, inl, inr, Bool, true, false, if◌then◌else◌, List, [], ◌∷◌, ◌++◌, Option, Some, None, refl, sym, ap, ◌∙◌, append-nil}
use Rattle.rasta_core_spec.specs.Outbox.{spellings}
use Rattle.rasta_core_spec.specs.State.{is_open}
use Rattle.rasta_core_spec.specs.identity.Role.{Role}
use Rattle.rasta_core_spec.specs.identity.Role.TheVariants as role
use Rattle.rasta_core_spec.specs.Bag.{is_copy, without_oldest}
use Rattle.rasta_core_spec.specs.Ends.{Sent, Call, outcome, end_after, end_later, end_restarted, handed_out, newer}
use Rattle.rasta_core_spec.specs.Events.{Event, Calls, Passes, Loses, Restarts, Elsewhere, MayRun, Start, happened, run, started}
use Rattle.rasta_core_spec.specs.Given.{is_same}
use Rattle.rasta_core_spec.specs.Names.{AreNames, Names}
use Rattle.rasta_core_spec.specs.Newest.{IsNewest, newest_connection}
use Rattle.rasta_core_spec.specs.Run.{Ends, end_of, called, later, lost, restarted}
use Rattle.rasta_core_spec.specs.Sentences.{IsIn}
use Rattle.rasta_core.specs.Invariant.{Timely}
use Rattle.rasta_core.proofs.OutsideEntries.{IsSome, does_nothing, entering_speaks}
use Rattle.rasta_core.proofs.Events.{KeepsTime}
use Rattle.rasta_core.proofs.GivenRead.{same_self}
use Rattle.rasta_core.proofs.Outside.{EnteringLaws}
use Rattle.rasta_core.proofs.Tests.{by_test}
use Rattle.rasta_core_spec.specs.key.Key.{Key}
use Rattle.rasta_core_spec.specs.pdu.Pdu.{Pdu}

-- an end inside is in some connection
abbrev pub InsideIsSome : Type 0
InsideIsSome = (names : Names) (ends : Ends) (who : Role) → Timely names ends → IsIn who ends → (connection : ℕ) × ((end_of who ends).connection ≡ Some connection)

-- ---- lists

newest_later : (who : Role) (sent more : List Sent) (connection : ℕ) → newest_connection who more ≡ Some connection → newest_connection who (sent ++ more) ≡ Some connection
newest_later who [] more connection is = is
newest_later who (first ∷ others) more connection is =
    ap (λ (last : Option ℕ). newer last (if is_same first.sender who then Some first.connection else None)) (newest_later who others more connection is)

newest_before : (who : Role) (sent more : List Sent) → newest_connection who more ≡ None → newest_connection who (sent ++ more) ≡ newest_connection who sent
newest_before who [] more none = none
newest_before who (first ∷ others) more none =
    ap (λ (last : Option ℕ). newer last (if is_same first.sender who then Some first.connection else None)) (newest_before who others more none)

own_newest : (time : ℕ) (who : Role) (connection : ℕ) (datagrams : List (List ℕ)) → IsSome datagrams → newest_connection who (handed_out time who (Some connection) datagrams) ≡ Some connection
own_newest time who connection [] some = absurd some
own_newest time who connection (first ∷ []) some = ap (λ (same : Bool). newer None (if same then Some connection else None)) (same_self who)
own_newest time who connection (first ∷ second ∷ others) some =
    ap (λ (last : Option ℕ). newer last (if is_same who who then Some connection else None)) (own_newest time who connection (second ∷ others) tt)

others_newest : (time : ℕ) (who utterer : Role) (last : Option ℕ) (datagrams : List (List ℕ)) → is_same utterer who ≡ false → newest_connection who (handed_out time utterer last datagrams) ≡ None
others_newest time who utterer last [] other = refl
others_newest time who utterer None (first ∷ more) other =
    ap (λ (newest : Option ℕ). newer newest (if is_same utterer who then Some 0 else None)) (others_newest time who utterer None more other)
    ∙ ap (λ (same : Bool). newer None (if same then Some 0 else None)) other
others_newest time who utterer (Some connection) (first ∷ more) other =
    ap (λ (newest : Option ℕ). newer newest (if is_same utterer who then Some connection else None)) (others_newest time who utterer (Some connection) more other)
    ∙ ap (λ (same : Bool). newer None (if same then Some connection else None)) other

some_spelled : (key : Key) (pdus : List Pdu) → IsSome pdus → IsSome (spellings key pdus)
some_spelled key [] some = some
some_spelled key (first ∷ others) some = tt

newest_lost : (who : Role) (bytes : List ℕ) (sent : List Sent) → newest_connection who (without_oldest bytes sent) ≡ newest_connection who sent
newest_lost who bytes [] = refl
newest_lost who bytes (first ∷ others) =
    by_test (λ (all : List Sent). newest_connection who all ≡ newest_connection who (first ∷ others)) (is_copy bytes first) ((record first { is_lost = true }) ∷ others) (first ∷ without_oldest bytes others)
    (λ e. refl) (λ e. ap (λ (last : Option ℕ). newer last (if is_same first.sender who then Some first.connection else None)) (newest_lost who bytes others))

-- ---- calls

-- an end after a call: it sent something as it entered a connection, and otherwise only inside one
after_call : (who : Role) (time : ℕ) (key : Key) (enters old : Option ℕ) (pdus : List Pdu) (sent : List Sent) → ((connection : ℕ) → enters ≡ Some connection → IsSome pdus)
    → (enters ≡ None → (pdus ≡ []) ⊎ ((connection : ℕ) × (old ≡ Some connection))) → old ≡ newest_connection who sent
    → newer enters old ≡ newest_connection who (sent ++ handed_out time who (newer enters old) (spellings key pdus))
after_call who time key (Some entered) old pdus sent speaks stays was =
    sym (newest_later who sent (handed_out time who (Some entered) (spellings key pdus)) entered (own_newest time who entered (spellings key pdus) (some_spelled key pdus (speaks entered refl))))
after_call who time key None old [] sent speaks stays was = was ∙ ap (newest_connection who) (sym (append-nil sent))
after_call who time key None old (first ∷ others) sent speaks stays was = by_side (stays refl) where
  by_side : ((first ∷ others) ≡ []) ⊎ ((connection : ℕ) × (old ≡ Some connection)) → old ≡ newest_connection who (sent ++ handed_out time who old (spellings key (first ∷ others)))
  by_side (inl none) = absurd (cc none)
  by_side (inr (connection, is)) =
      is ∙ sym (ap (λ (last : Option ℕ). newest_connection who (sent ++ handed_out time who last (spellings key (first ∷ others)))) is
      ∙ newest_later who sent (handed_out time who (Some connection) (spellings key (first ∷ others))) connection (own_newest time who connection (spellings key (first ∷ others)) tt))

module _ (laws : EnteringLaws) (some : InsideIsSome) (names : Names) (ends : Ends) (timely : Timely names ends) where
  -- an end that enters nothing is silent or inside
  stays : (who : Role) (call : Call) → (outcome call ends.moment (end_of who ends)).enters ≡ None
      → ((outcome call ends.moment (end_of who ends)).pdus ≡ []) ⊎ ((connection : ℕ) × ((end_of who ends).connection ≡ Some connection))
  stays who call enters = by_phase (is_open (end_of who ends).link.phase) refl where
    by_phase : (inside : Bool) → is_open (end_of who ends).link.phase ≡ inside
        → ((outcome call ends.moment (end_of who ends)).pdus ≡ []) ⊎ ((connection : ℕ) × ((end_of who ends).connection ≡ Some connection))
    by_phase true e = inr (some names ends who timely e)
    by_phase false e = inl (does_nothing laws call ends.moment (end_of who ends) e enters).pdus

  call_newest : (utterer : Role) (call : Call) (who : Role) → IsNewest who ends → IsNewest who (called utterer call ends)
  unfolding called end_after
  call_newest role.Client call role.Client was =
      let made = outcome call ends.moment ends.client
      in after_call role.Client ends.time ends.client.link.identity.key made.enters ends.client.connection made.pdus ends.sent (λ c e. entering_speaks laws call ends.moment c ends.client e) (stays role.Client call) was
  call_newest role.Server call role.Server was =
      let made = outcome call ends.moment ends.server
      in after_call role.Server ends.time ends.server.link.identity.key made.enters ends.server.connection made.pdus ends.sent (λ c e. entering_speaks laws call ends.moment c ends.server e) (stays role.Server call) was
  call_newest role.Client call role.Server was =
      let made = outcome call ends.moment ends.client
      in was ∙ sym (newest_before role.Server ends.sent _ (others_newest ends.time role.Server role.Client (newer made.enters ends.client.connection) (spellings ends.client.link.identity.key made.pdus) refl))
  call_newest role.Server call role.Client was =
      let made = outcome call ends.moment ends.server
      in was ∙ sym (newest_before role.Client ends.sent _ (others_newest ends.time role.Client role.Server (newer made.enters ends.server.connection) (spellings ends.server.link.identity.key made.pdus) refl))

  later_newest : (elapsed of_client of_server : ℕ) (who : Role) → IsNewest who ends → IsNewest who (later elapsed of_client of_server ends)
  unfolding later end_later
  later_newest elapsed of_client of_server role.Client was = was
  later_newest elapsed of_client of_server role.Server was = was

  lost_newest : (bytes : List ℕ) (who : Role) → IsNewest who ends → IsNewest who (lost bytes ends)
  unfolding lost
  lost_newest bytes role.Client was = was ∙ sym (newest_lost role.Client bytes ends.sent)
  lost_newest bytes role.Server was = was ∙ sym (newest_lost role.Server bytes ends.sent)

  restarted_newest : (whose : Role) (clock first : ℕ) (who : Role) → IsNewest who ends → IsNewest who (restarted whose clock first ends)
  unfolding restarted end_restarted
  restarted_newest role.Client clock first role.Client was = was
  restarted_newest role.Client clock first role.Server was = was
  restarted_newest role.Server clock first role.Client was = was
  restarted_newest role.Server clock first role.Server was = was

  elsewhere_newest : (count : ℕ) (who : Role) → IsNewest who ends → IsNewest who (happened (Elsewhere count) ends)
  elsewhere_newest count role.Client was = was
  elsewhere_newest count role.Server was = was

  pub event_newest : (event : Event) (who : Role) → IsNewest who ends → IsNewest who (happened event ends)
  event_newest (Calls utterer call) who was = call_newest utterer call who was
  event_newest (Passes elapsed of_client of_server) who was = later_newest elapsed of_client of_server who was
  event_newest (Loses bytes) who was = lost_newest bytes who was
  event_newest (Restarts whose clock first) who was = restarted_newest whose clock first who was
  event_newest (Elsewhere count) who was = elsewhere_newest count who was

pub run_newest : EnteringLaws → InsideIsSome → KeepsTime → (names : Names) (events : List Event) (ends : Ends) (who : Role) → AreNames names → Timely names ends → IsNewest who ends → MayRun names events ends
    → IsNewest who (run events ends)
run_newest laws some time names [] ends who are timely was may = was
run_newest laws some time names (first ∷ others) ends who are timely was may =
    run_newest laws some time names others (happened first ends) who are (time names first ends are timely may.0) (event_newest laws some names ends timely first who was) may.1

pub starts_newest : (names : Names) (start : Start) (who : Role) → IsNewest who (started names start)
starts_newest names start role.Client = refl
starts_newest names start role.Server = refl
