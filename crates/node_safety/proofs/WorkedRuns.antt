-- Small orders, computed.
use Rattle.std.proofs.Common.{◌≡◌, ◌∙◌, ◌+◌, ◌*◌, ◌<◌, ◌≤◌, ℕ, zero, suc, List, [], ◌∷◌, ◌++◌, map, Some, None, slice_get, refl, sym, ap, arith}
use Rattle.std.proofs.lemmas.Option.{same_Some}
use Rattle.std.proofs.lemmas.Bool.{false≢true}
use Rattle.node_kinds.specs.simulator_spec.layout.declared.port.Port.{Port}
use Rattle.node_kinds.specs.simulator_spec.object_host.Host.{keeping}
use Rattle.node_kinds.specs.simulator_spec.object_host.Hosted.{new_host}
use Rattle.node_kinds.specs.simulator_spec.First.{world_at}
use Rattle.node_kinds.specs.simulator_spec.Controllers.{controller_later}
use Rattle.node_kinds.specs.simulator_spec.Happens.{happens, passed}
use Rattle.node_kinds.specs.simulator_spec.Refusals.{refusal, refusal_of_time}
use Rattle.node_kinds.specs.simulator_spec.TrueClocks.{StaysSteady, moment_of, refusal_but_drift}
use Rattle.node_kinds.specs.simulator_spec.rasta_core.TrueClocks.{IsSteady}
use Rattle.simulator_node_laws.specs.Lives.{host_after}
use Rattle.simulator_node_laws.specs.Said.{Departure, LeftInTime}
use Rattle.simulator_node_laws.specs.Worked.{small, small_outset, small_table, the_point}
use Rattle.node_safety.specs.Orders.{events_of, up_to}
use Rattle.node_safety.specs.WorkedOrders.{Drifts, IsTooOld, Keep, MovesUndriven, TellsTheDetector, comes_after, goes_by, is_called}

-- the clocks over one entry, where that of the signal is steady
keeps : (at : Port) (elapsed of_signal : ℕ) → IsSteady (record { at = 0; clock = 0 }) (record { at = 0 + elapsed; clock = 0 + of_signal }) → Keep at elapsed of_signal
unfolding world_at happens passed controller_later
keeps at elapsed of_signal steady = (λ node below. by_node node below, tt) where
  exact : IsSteady (record { at = 0; clock = 0 }) (record { at = 0 + elapsed; clock = 0 + elapsed })
  exact = record { least = omega arith; most = omega arith }

  begun : IsSteady (record { at = 0; clock = 0 }) (record { at = 0; clock = 0 })
  begun = record { least = omega arith; most = omega arith }

  by_node : (node : ℕ) → node < 4 → StaysSteady (small at) small_table node (moment_of node (world_at (small at) small_table small_outset)) (events_of (goes_by elapsed of_signal ∷ [])) (world_at (small at) small_table small_outset)
  by_node zero below = (begun, exact)
  by_node (suc zero) below = (begun, steady)
  by_node (suc (suc zero)) below = (begun, exact)
  by_node (suc (suc (suc zero))) below = (begun, exact)
  by_node (suc (suc (suc (suc node)))) below = absurd (let no : ⊥ = omega (arith, below) in no)

beyond : (at : Port) → Keep at 1000000 1001011 → ⊥
unfolding world_at happens passed controller_later
beyond at keep =
    let most : 1000 * 1001011 + 1001 * 0 ≤ 1000 * 0 + 1001 * 1000000 + 10000 = ((keep.0 1 (omega arith)).1).most in
    omega (arith, most)

pub drifts : (at : Port) → Drifts at
unfolding world_at refusal refusal_of_time refusal_but_drift
drifts at = record {
  passes = refl;
  within = keeps at 1000000 1001010 (record { least = omega arith; most = omega arith });
  beyond = beyond at;
  short = keeps at 100 101 (record { least = omega arith; most = omega arith });
  short_in_world = refl;
}

pub undriven : (at : Port) → MovesUndriven at
unfolding host_after new_host keeping
undriven at truth = false≢true (truth the_point refl)

pub tells : (at : Port) → TellsTheDetector at
tells at = record { detector = refl; point = refl; signal = refl; station = refl }

-- ---- the departures of one step

none_some : {A : Type 0} (one : A) → None ≡ Some one → ⊥
none_some one e = cc (e)

-- all that one step hands out leaves at one time
leaves_at : (leaving : List ℕ → Departure) (time : ℕ) → ((bytes : List ℕ) → (leaving bytes).time ≡ time) → (handed : List (List ℕ)) (place : ℕ) (one : Departure) → slice_get (map leaving handed ++ []) place ≡ Some one → one.time ≡ time
leaves_at leaving time is [] place one there = absurd (none_some one there)
leaves_at leaving time is (first ∷ others) zero one there = ap (λ (d : Departure). d.time) (sym (same_Some (leaving first) one there)) ∙ is first
leaves_at leaving time is (first ∷ others) (suc place) one there = leaves_at leaving time is others place one there

module _ (at : Port) where
  sent_at_6000 : (elapsed : ℕ) (bytes : List ℕ) (left : LeftInTime (small at) small_table small_outset (up_to (is_called ∷ []) (comes_after elapsed)) bytes) → left.departure.time ≡ 6000000
  sent_at_6000 elapsed bytes left = leaves_at _ 6000000 (λ one. refl) _ left.place left.departure left.left

  later : (bytes : List ℕ) → LeftInTime (small at) small_table small_outset (up_to (is_called ∷ []) (comes_after 0)) bytes → LeftInTime (small at) small_table small_outset (up_to (is_called ∷ []) (comes_after 2000000)) bytes
  later bytes left =
      let time = sent_at_6000 0 bytes left in
      record { place = left.place; departure = left.departure; left = left.left; same = left.same; in_time = omega (arith, time) }

  too_late : (bytes : List ℕ) → LeftInTime (small at) small_table small_outset (up_to (is_called ∷ []) (comes_after 2000001)) bytes → ⊥
  too_late bytes left =
      let time = sent_at_6000 2000001 bytes left in
      let in_time = left.in_time in
      omega (arith, time, in_time)

pub too_old : (at : Port) → IsTooOld at
too_old at = record { in_time = later at; too_old = too_late at }
