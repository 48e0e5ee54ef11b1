-- The clocks of the interlocking's links.
use Rattle.std.proofs.Common.{◌≡◌, sym, subst, ℕ, ◌+◌, ◌*◌, ◌≤◌, List, arith}
use Rattle.std.specs.List.{All}
use Rattle.std.proofs.lemmas.List.Elements.{All-map}
use Rattle.ixl_state.specs.layout.Entries.{Site}
use Rattle.ixl_state.specs.rasta_core.Calls.{MayStep, created}
use Rattle.ixl_state.specs.rasta_core.Ends.{reading_of}
use Rattle.ixl_state.specs.ixl_client.Client.{ClientState, new_client}
use Rattle.ixl_state.specs.ixl_spec.State.{KnownDetectorState, IxlState, KnownSignalState, KnownPointState}
use Rattle.ixl_state.specs.ixl_spec.Table.{Table}
use Rattle.ixl_state.specs.ixl_table.Table.{SitedTable}
use Rattle.ixl_state.specs.State.{AllAt, MayStepAll, StateView}
use Rattle.ixl_state.specs.ixl_spec.First.{Beginning, new_detector_of, new_ixl, new_known_signal_of, new_known_point_of}

pub reading_restarted : (clock : ℕ) → reading_of (clock * 1000) ≡ clock
reading_restarted clock = omega arith

pub reading_later : (clock elapsed : ℕ) → reading_of clock ≤ reading_of (clock + elapsed)
reading_later clock elapsed = omega arith

module _ {Node : Type 0} (client_of : Node → ClientState) where
  each_later : (now later : ℕ) (nodes : List Node) → now ≤ later → All (λ node. MayStep now (client_of node).link) nodes → All (λ node. MayStep later (client_of node).link) nodes
  each_later now later nodes within may place node below = omega (arith, within, may place node below)

  each_at : (now : ℕ) (nodes : List Node) → All (λ node. (client_of node).link.clock ≡ now) nodes → All (λ node. MayStep now (client_of node).link) nodes
  each_at now nodes at place node below = omega (arith, at place node below)

pub may_later : (now later : ℕ) (state : StateView) → now ≤ later → MayStepAll now state → MayStepAll later state
may_later now later state within may = record {
  known_signals = each_later (λ (known_signal : KnownSignalState). known_signal.client) now later state.ixl.known_signals within may.known_signals;
  known_points = each_later (λ (known_point : KnownPointState). known_point.client) now later state.ixl.known_points within may.known_points;
  detectors = each_later (λ (detector : KnownDetectorState). detector.client) now later state.ixl.detectors within may.detectors;
}

pub may_at : (now : ℕ) (state : StateView) → AllAt now state → MayStepAll now state
may_at now state at = record {
  known_signals = each_at (λ (known_signal : KnownSignalState). known_signal.client) now state.ixl.known_signals at.known_signals;
  known_points = each_at (λ (known_point : KnownPointState). known_point.client) now state.ixl.known_points at.known_points;
  detectors = each_at (λ (detector : KnownDetectorState). detector.client) now state.ixl.detectors at.detectors;
}

-- a clock that has just begun
new_clock : (site : Site) (table : Table) (sited : SitedTable) (begins : Beginning) → MayStepAll begins.clock (record { sited = sited; ixl = new_ixl site table begins })
unfolding new_ixl new_client created
new_clock site table sited begins = record {
  known_signals = All-map (λ (known_signal : KnownSignalState). MayStep begins.clock known_signal.client.link) (new_known_signal_of site begins) site.signals (λ place signal below. omega arith);
  known_points = All-map (λ (known_point : KnownPointState). MayStep begins.clock known_point.client.link) (new_known_point_of site begins) site.points (λ place point below. omega arith);
  detectors = All-map (λ (detector : KnownDetectorState). MayStep begins.clock detector.client.link) (new_detector_of site begins) site.detectors (λ place detector below. omega arith);
}

pub may_begin : (site : Site) (table : Table) (begins : Beginning) (now : ℕ) (state : StateView) → state.ixl ≡ new_ixl site table begins → begins.clock ≡ now → MayStepAll now state
may_begin site table begins now state is_new at =
    let May : IxlState → Type 0 = λ ixl. MayStepAll now (record { sited = state.sited; ixl = ixl })
    in subst May (sym is_new) (may_later begins.clock now (record { sited = state.sited; ixl = new_ixl site table begins }) (omega (arith, at)) (new_clock site table state.sited begins))
