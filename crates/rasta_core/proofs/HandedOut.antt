-- What an end hands out in a call are PDUs.
use Rattle.std.proofs.Common.{◌≡◌, ℕ, Bool, false, List, [], subst}
use Rattle.rasta_core_spec.specs.State.{LinkState}
use Rattle.rasta_core_spec.specs.PdusHandedOut.{Step}
use Rattle.rasta_core_spec.specs.Calls.{opens, opening, ticking, closing_by, sending_item}
use Rattle.rasta_core_spec.specs.identity.Role.{Role}
use Rattle.rasta_core_spec.specs.Ends.{Call, Ticks, Opens, Closes, Sends, Receives, outcome, reading_of}
use Rattle.rasta_core_spec.specs.Run.{Ends, end_of}
use Rattle.rasta_core_spec.specs.Each.{Each}
use Rattle.rasta_core_spec.specs.Events.{MayCall}
use Rattle.rasta_core_spec.specs.Names.{Names}
use Rattle.rasta_core_spec.specs.Values.{IsPdu}
use Rattle.rasta_core.specs.TimedEnds.{standing}
use Rattle.rasta_core.specs.Invariant.{Timely}
use Rattle.rasta_core.proofs.CallsKept.{ends_ready, ends_clock}
use Rattle.rasta_core.proofs.Deeds.{Own, Steps, ticking_does, closing_does, sending_does, opening_does}
use Rattle.rasta_core.proofs.Called.{ReadIsIntact, bytes_do, bytes_bring}
use Rattle.rasta_core.proofs.Comes.{deed_pdus}

of_step : (link : LinkState) (enters : Bool) (step : Step) → Steps link enters step → Each IsPdu step.pdus
of_step link enters step does = deed_pdus link.identity link.clock Own (standing link) (standing step.link) enters [] step.pdus does.deed

module _ (names : Names) (ends : Ends) (who : Role) (timely : Timely names ends) where
  at_clock : (enters : ℕ → Bool) (step : ℕ → Step) → Steps (end_of who ends).link (enters (end_of who ends).link.clock) (step (end_of who ends).link.clock)
      → Each IsPdu (step (reading_of (end_of who ends).clock)).pdus
  at_clock enters step does = of_step (end_of who ends).link (enters (reading_of (end_of who ends).clock)) (step (reading_of (end_of who ends).clock))
      (subst (λ (now : ℕ). Steps (end_of who ends).link (enters now) (step now)) (ends_clock names ends who timely) does)

  pub handed_out_are : ReadIsIntact → (call : Call) → MayCall names who call ends → Each IsPdu (outcome call ends.moment (end_of who ends)).pdus
  unfolding outcome
  handed_out_are intact Ticks may = at_clock (λ n. false) (λ n. ticking n (end_of who ends).link) (ticking_does (end_of who ends).link (ends_ready names ends who timely))
  handed_out_are intact Opens may = at_clock (λ n. opens n (end_of who ends).link) (λ n. opening n (end_of who ends).link) (opening_does (end_of who ends).link (ends_ready names ends who timely))
  handed_out_are intact (Closes why) may = at_clock (λ n. false) (λ n. closing_by n why (end_of who ends).link) (closing_does (end_of who ends).link why (ends_ready names ends who timely))
  handed_out_are intact (Sends item) may = at_clock (λ n. false) (λ n. sending_item n item (end_of who ends).link) (sending_does (end_of who ends).link item (ends_ready names ends who timely) may)
  handed_out_are intact (Receives bytes connection) may = deed_pdus _ _ _ _ _ _ _ _ (bytes_do names ends who bytes connection timely (bytes_bring intact names who ends bytes connection timely may)).deed
