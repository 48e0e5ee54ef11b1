-- What was given and taken before a connection: nothing.
use Rattle.std.proofs.Common.{◌≡◌, ℕ, Bool, true, false, List, [], ◌∷◌, ◌++◌, Option, Some, None, refl, sym, ap, ◌∙◌}
use Rattle.std.proofs.lemmas.Option.{same_Some}
use Rattle.rasta_core_spec.specs.State.{is_open}
use Rattle.rasta_core_spec.specs.identity.Role.{Role}
use Rattle.rasta_core_spec.specs.identity.Role.TheVariants as role
use Rattle.rasta_core_spec.specs.Ends.{Call, outcome, end_after, end_later, end_restarted, kept, newer}
use Rattle.rasta_core_spec.specs.Events.{Event, Calls, Passes, Loses, Restarts, Elsewhere, MayRun, Start, happened, run, started}
use Rattle.rasta_core_spec.specs.Names.{AreNames, Names}
use Rattle.rasta_core_spec.specs.Newest.{IsUnused}
use Rattle.rasta_core_spec.specs.Run.{Ends, end_of, called, later, lost, restarted}
use Rattle.rasta_core_spec.specs.Safe.{DoesNothing}
use Rattle.rasta_core.specs.Invariant.{Timely}
use Rattle.rasta_core.specs.Ordered.{Ordered, unbegun, alone, together}
use Rattle.rasta_core.proofs.OutsideEntries.{does_nothing}
use Rattle.rasta_core.proofs.Events.{KeepsTime}
use Rattle.rasta_core.proofs.Newest.{InsideIsSome}
use Rattle.rasta_core.proofs.Outside.{EnteringLaws}

-- an end after a call that leaves it without a connection
none_before : (enters old : Option ℕ) → newer enters old ≡ None → (enters ≡ None) × (old ≡ None)
none_before None old none = (refl, none)
none_before (Some entered) old none = absurd (cc none)

kept_none : (enters : Option ℕ) (old more : List (List ℕ)) → enters ≡ None → old ≡ [] → more ≡ [] → kept enters old ++ more ≡ []
kept_none enters old more e o m = ap (λ x. kept x old ++ more) e ∙ ap (λ x. x ++ more) o ∙ m

not_none : (connection : ℕ) (entered : Option ℕ) → entered ≡ None → entered ≡ Some connection → ⊥
not_none connection entered none is = absurd (cc (sym none ∙ is))

module _ (laws : EnteringLaws) (some : InsideIsSome) (names : Names) (ends : Ends) (timely : Timely names ends) where
  does : (who : Role) (call : Call) → (end_of who ends).connection ≡ None → (outcome call ends.moment (end_of who ends)).enters ≡ None → DoesNothing (outcome call ends.moment (end_of who ends))
  does who call none enters = by_phase (is_open (end_of who ends).link.phase) refl where
    by_phase : (inside : Bool) → is_open (end_of who ends).link.phase ≡ inside → DoesNothing (outcome call ends.moment (end_of who ends))
    by_phase true e = let within = some names ends who timely e in absurd (not_none within.0 (end_of who ends).connection none within.1)
    by_phase false e = does_nothing laws call ends.moment (end_of who ends) e enters

  unused_after : (who : Role) (call : Call) → IsUnused who ends → newer (outcome call ends.moment (end_of who ends)).enters (end_of who ends).connection ≡ None
      → (kept (outcome call ends.moment (end_of who ends)).enters (end_of who ends).given ++ (outcome call ends.moment (end_of who ends)).given ≡ [])
      × (kept (outcome call ends.moment (end_of who ends)).enters (end_of who ends).taken ++ (outcome call ends.moment (end_of who ends)).taken ≡ [])
  unused_after who call was none =
      let made = outcome call ends.moment (end_of who ends)
      in let before = none_before made.enters (end_of who ends).connection none
      in let nothing = does who call before.1 before.0
      in let lists = was before.1
      in (kept_none made.enters (end_of who ends).given made.given before.0 lists.0 nothing.given, kept_none made.enters (end_of who ends).taken made.taken before.0 lists.1 nothing.taken)

  call_unused : (utterer : Role) (call : Call) (who : Role) → IsUnused who ends → IsUnused who (called utterer call ends)
  unfolding called end_after
  call_unused role.Client call role.Client was none = unused_after role.Client call was none
  call_unused role.Server call role.Server was none = unused_after role.Server call was none
  call_unused role.Client call role.Server was none = was none
  call_unused role.Server call role.Client was none = was none

  later_unused : (elapsed of_client of_server : ℕ) (who : Role) → IsUnused who ends → IsUnused who (later elapsed of_client of_server ends)
  unfolding later end_later
  later_unused elapsed of_client of_server role.Client was none = was none
  later_unused elapsed of_client of_server role.Server was none = was none

  lost_unused : (bytes : List ℕ) (who : Role) → IsUnused who ends → IsUnused who (lost bytes ends)
  unfolding lost
  lost_unused bytes role.Client was none = was none
  lost_unused bytes role.Server was none = was none

  restarted_unused : (whose : Role) (clock first : ℕ) (who : Role) → IsUnused who ends → IsUnused who (restarted whose clock first ends)
  unfolding restarted end_restarted
  restarted_unused role.Client clock first role.Client was none = was none
  restarted_unused role.Client clock first role.Server was none = was none
  restarted_unused role.Server clock first role.Client was none = was none
  restarted_unused role.Server clock first role.Server was none = was none

  elsewhere_unused : (count : ℕ) (who : Role) → IsUnused who ends → IsUnused who (happened (Elsewhere count) ends)
  elsewhere_unused count role.Client was none = was none
  elsewhere_unused count role.Server was none = was none

  pub event_unused : (event : Event) (who : Role) → IsUnused who ends → IsUnused who (happened event ends)
  event_unused (Calls utterer call) who was = call_unused utterer call who was
  event_unused (Passes elapsed of_client of_server) who was = later_unused elapsed of_client of_server who was
  event_unused (Loses bytes) who was = lost_unused bytes who was
  event_unused (Restarts whose clock first) who was = restarted_unused whose clock first who was
  event_unused (Elsewhere count) who was = elsewhere_unused count who was

pub run_unused : EnteringLaws → InsideIsSome → KeepsTime → (names : Names) (events : List Event) (ends : Ends) (who : Role) → AreNames names → Timely names ends → IsUnused who ends → MayRun names events ends
    → IsUnused who (run events ends)
run_unused laws some time names [] ends who are timely was may = was
run_unused laws some time names (first ∷ others) ends who are timely was may =
    run_unused laws some time names others (happened first ends) who are (time names first ends are timely may.0) (event_unused laws some names ends timely first who was) may.1

pub starts_unused : (names : Names) (start : Start) (who : Role) → IsUnused who (started names start)
starts_unused names start role.Client none = (refl, refl)
starts_unused names start role.Server none = (refl, refl)

-- a client whose server hasn't entered its connection
pub alone_unused : (names : Names) (ends : Ends) (connection : ℕ) → Ordered names ends → ends.client.connection ≡ Some connection → (ends.server.connection ≡ Some connection → ⊥)
    → (ends.client.given ≡ []) × (ends.client.taken ≡ [])
alone_unused names ends connection (unbegun is) of_client before = absurd (not_none connection ends.client.connection is of_client)
alone_unused names ends connection (alone is) of_client before = (is.given, is.taken)
alone_unused names ends connection (together is) of_client before =
    absurd (before (is.of_server ∙ ap (λ (c : ℕ). Some c) (same_Some is.connection connection (sym is.of_client ∙ of_client))))
