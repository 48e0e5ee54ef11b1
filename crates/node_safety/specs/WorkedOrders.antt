-- Small orders that don't keep what a history has to keep, and what is told to whom.
use Rattle.std.specs.Prelude.{◌≡◌, ℕ, List, [], ◌∷◌, None, Some}
use Rattle.node_kinds.specs.simulator_spec.layout.declared.port.Port.{Port}
use Rattle.node_kinds.specs.simulator_spec.object_host.declared.input.Input.TheVariants as inputs
use Rattle.node_kinds.specs.simulator_spec.object_host.declared.sense.Sense.TheVariants as sense
use Rattle.node_kinds.specs.simulator_spec.sci_telegram.declared.message.Occupancy.TheVariants.{Occupied}
use Rattle.node_kinds.specs.simulator_spec.sci_telegram.declared.message.Position.TheVariants as positions
use Rattle.node_kinds.specs.simulator_spec.simulator_event.declared.event.Event.TheVariants as event
use Rattle.node_kinds.specs.simulator_spec.simulator_event.refused.Refused.TheVariants.{Drift}
use Rattle.node_kinds.specs.simulator_spec.First.{world_at}
use Rattle.node_kinds.specs.simulator_spec.Refusals.{refusal}
use Rattle.node_kinds.specs.simulator_spec.TrueClocks.{KeepTime}
use Rattle.simulator_node_laws.specs.Said.{LeftInTime, detector_life}
use Rattle.simulator_node_laws.specs.Shown.{interlocking_life, point_life, signal_life}
use Rattle.simulator_node_laws.specs.Worked.{small, small_outset, small_table}
use Rattle.node_safety.specs.Orders.{Entry, MayPass, TellsTruth, events_of, up_to}

-- ---- clocks

-- so much time goes by, and the clock of the signal goes on by so much
abbrev pub goes_by : ℕ → ℕ → Entry
goes_by elapsed of_signal = record { elapsed = elapsed; clocks = elapsed ∷ of_signal ∷ elapsed ∷ elapsed ∷ []; deed = None }

-- the clocks keep time over it
abbrev pub Keep : Port → ℕ → ℕ → Type 0
Keep at elapsed of_signal = KeepTime (small at) small_table (events_of (goes_by elapsed of_signal ∷ [])) (world_at (small at) small_table small_outset)

-- In a second a clock may be off by a millisecond and ten microseconds. One microsecond more isn't in time. In a tenth of a
-- millisecond it may go on by a microsecond too much, which an event of a world may not.
pub record Drifts (at : Port) : Type 0 where
  pub passes : MayPass (small at) small_table small_outset [] (goes_by 1000000 1001010)
  pub within : Keep at 1000000 1001010
  pub beyond : Keep at 1000000 1001011 → ⊥
  pub short : Keep at 100 101
  pub short_in_world : refusal (small at) (event.Time 100 (goes_by 100 101).clocks) (world_at (small at) small_table small_outset) ≡ Some Drift

-- ---- contacts

-- the contact of the point tells, as no time has gone by
abbrev pub it_moves : Entry
it_moves = record { elapsed = 0; clocks = 0 ∷ 0 ∷ 0 ∷ 0 ∷ []; deed = Some (event.Reach (record { 0 = 0 }) positions.Right) }

-- A point that no order drives tells nothing new.
abbrev pub MovesUndriven : Port → Type 0
MovesUndriven at = TellsTruth (small at) small_table small_outset (up_to [] it_moves) (event.Reach (record { 0 = 0 }) positions.Right) → ⊥

-- ---- a detector

abbrev pub a_train : Entry
a_train = record { elapsed = 0; clocks = 0 ∷ 0 ∷ 0 ∷ 0 ∷ []; deed = Some (event.Occupy (record { 0 = 0 }) Occupied) }

-- Without the detector nobody is told of a train.
pub record TellsTheDetector (at : Port) : Type 0 where
  pub detector : (detector_life (small at) small_table small_outset (events_of (a_train ∷ [])) 0).came ≡ (0, inputs.Sense (sense.Section 0 Occupied)) ∷ []
  pub point : (point_life (small at) small_table small_outset (events_of (a_train ∷ [])) 0).came ≡ []
  pub signal : (signal_life (small at) small_table (events_of (a_train ∷ [])) 0).came ≡ []
  pub station : (interlocking_life (small at) small_table (events_of (a_train ∷ []))).came ≡ []

-- ---- datagrams

-- The interlocking is called as its clock reads 6000 ms, and so long afterwards a datagram comes somewhere.
abbrev pub is_called : Entry
is_called = record { elapsed = 6000000; clocks = 6000000 ∷ 6000000 ∷ 6000000 ∷ 6000000 ∷ []; deed = Some (event.Tick (record { 0 = 0 })) }

abbrev pub comes_after : ℕ → Entry
comes_after elapsed = record { elapsed = elapsed; clocks = elapsed ∷ elapsed ∷ elapsed ∷ elapsed ∷ []; deed = None }

-- What it sent may be heard 2000 ms later, as at once; and one microsecond more is too long.
pub record IsTooOld (at : Port) : Type 0 where
  pub in_time : (bytes : List ℕ) → LeftInTime (small at) small_table small_outset (up_to (is_called ∷ []) (comes_after 0)) bytes → LeftInTime (small at) small_table small_outset (up_to (is_called ∷ []) (comes_after 2000000)) bytes
  pub too_old : (bytes : List ℕ) → LeftInTime (small at) small_table small_outset (up_to (is_called ∷ []) (comes_after 2000001)) bytes → ⊥
