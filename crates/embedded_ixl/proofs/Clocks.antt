-- The clocks of the interlocking's links.
use Rattle.std.proofs.Common.{◌≡◌, sym, subst, ℕ, ◌≤◌, arith}
use Rattle.std.proofs.lemmas.List.Elements.{All-map}
use Rattle.ixl_state.specs.layout.Entries.{Site}
use Rattle.ixl_state.specs.rasta_core.Calls.{MayStep, created}
use Rattle.ixl_state.specs.ixl_client.Client.{new_client}
use Rattle.ixl_state.specs.ixl_spec.State.{KnownDetectorState, IxlState, KnownSignalState, KnownPointState}
use Rattle.ixl_state.specs.ixl_spec.Table.{SitedTable, Table}
use Rattle.ixl_state.specs.First.{Beginning, new_detector_of, new_ixl, new_known_signal_of, new_known_point_of}
use Rattle.ixl_state.specs.State.{MayStepAll, StateView}

-- a clock that has just begun
new_clock : (site : Site) (table : Table) (sited : SitedTable) (begins : Beginning) (later : ℕ) → begins.clock ≤ later → MayStepAll later (record { sited = sited; ixl = new_ixl site table begins })
unfolding new_ixl new_client created
new_clock site table sited begins later within = record {
  known_signals = All-map (λ (known_signal : KnownSignalState). MayStep later known_signal.client.link) (new_known_signal_of site begins) site.signals (λ place signal below. omega (arith, within));
  known_points = All-map (λ (known_point : KnownPointState). MayStep later known_point.client.link) (new_known_point_of site begins) site.points (λ place point below. omega (arith, within));
  detectors = All-map (λ (detector : KnownDetectorState). MayStep later detector.client.link) (new_detector_of site begins) site.detectors (λ place detector below. omega (arith, within));
}

pub may_begin : (site : Site) (table : Table) (begins : Beginning) (state : StateView) → state.ixl ≡ new_ixl site table begins → (later : ℕ) → begins.clock ≤ later → MayStepAll later state
may_begin site table begins state is_new later within =
    let May : IxlState → Type 0 = λ ixl. MayStepAll later (record { sited = state.sited; ixl = ixl }) in
    subst May (sym is_new) (new_clock site table state.sited begins later within)
