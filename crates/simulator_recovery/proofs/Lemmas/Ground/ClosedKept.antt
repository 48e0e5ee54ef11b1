-- What is closed stays so through a step without a command.
use Rattle.simulator_recovery.proofs.Words.Basics.{◌≡◌, ℕ, List, Option, Some, None, slice_get, refl}
use Rattle.simulator_recovery.proofs.Words.Links.{reading, Key}
use Rattle.simulator_recovery.proofs.Words.Controllers.{Aspect, Side}
use Rattle.simulator_recovery.proofs.Words.Interlockings.{begun, hearing, come_to, count, freed_by_cancel, is_stop_due, moving_one, proceeding, ruled, withdrawing, Commands, Datagram, Input, Tick, addressed, all_clocked, detector_hearing, detector_ticking, given, known_point_hearing, known_point_ticking, known_signal_hearing, known_signal_ticking, looking, looks, node_hearing, occupied_heard, stepped, watching, Detector, Node, Point, Signal, StepSoFar, detector_after, giving_aspect, giving_move, noted, over, with_detector, with_one, with_route, Need, Table, is_signal_ready, Command, Phase}
use Rattle.simulator_spec.specs.ixl_spec.closings.declared.closed.Closings.{Closings}
use Rattle.simulator_recovery.proofs.Lemmas.Ground.DueShapes.{along_keeps, looking_turns, one_keeps, over_keeps, route_holds, ticked_keeps, turned_keeps, until_freed, watching_turns, where_both}

module _ (now : ℕ) (table : Table) (closed : Closings) where
  abbrev Stands : StepSoFar → Type 0
  Stands part = part.ixl.closed ≡ closed

  aspect_stands : (signal : ℕ) (aspect : Aspect) (part : StepSoFar) → Stands part → Stands (giving_aspect now signal aspect part)
  unfolding giving_aspect
  aspect_stands signal aspect part is = one_keeps Stands (slice_get part.ixl.known_signals signal) _ part (λ known e. is) is

  move_stands : (point : ℕ) (side : Side) (part : StepSoFar) → Stands part → Stands (giving_move now point side part)
  unfolding giving_move
  move_stands point side part is = one_keeps Stands (slice_get part.ixl.known_points point) _ part (λ known e. is) is

  -- ---- the rules

  withdrawing_stands : (number : ℕ) (part : StepSoFar) → Stands part → Stands (withdrawing now table number part)
  unfolding withdrawing
  withdrawing_stands number = route_holds Stands table number _ (λ row route part there here is. where_both Stands (is_stop_due table part.ixl row route) part _
      (where_both Stands (is_signal_ready part.ixl row.entry) _ _ (aspect_stands row.entry Aspect.Stop (with_route number (come_to Phase.Withdrawn) part) is) is) is)

  moving_one_stands : (number : ℕ) (need : Need) (part : StepSoFar) → Stands part → Stands (moving_one now table number need part)
  unfolding moving_one
  moving_one_stands number need = route_holds Stands table number _ (λ row route part there here is. where_both Stands _ part _ (move_stands need.point need.side part is) is)

  proceeding_stands : (number : ℕ) (part : StepSoFar) → Stands part → Stands (proceeding now table number part)
  unfolding proceeding
  proceeding_stands number = route_holds Stands table number _ (λ row route part there here is. where_both Stands _ part _ (aspect_stands row.entry row.aspect _ is) is)

  ruled_stands : (part : StepSoFar) → Stands part → Stands (ruled now table part)
  ruled_stands = turned_keeps Stands now table (λ number change part is. is) withdrawing_stands moving_one_stands proceeding_stands

  -- ---- what is heard

  hearing_stands : (bytes : List ℕ) (node : Node) (part : StepSoFar) → Stands part → Stands (node_hearing now table bytes node part)
  unfolding node_hearing known_signal_hearing known_point_hearing detector_hearing
  hearing_stands bytes (Signal place) part is = one_keeps Stands (slice_get part.ixl.known_signals place) _ part (λ known e. is) is
  hearing_stands bytes (Point place) part is = one_keeps Stands (slice_get part.ixl.known_points place) _ part (λ known e. is) is
  hearing_stands bytes (Detector place) part is = one_keeps Stands (slice_get table.detectors place) _ part (λ sections f. one_keeps Stands (slice_get part.ixl.detectors place) _ part (λ known e.
      let done = hearing now bytes (begun known.client part.outbox)
      in along_keeps Stands (looking table) (looking_turns Stands now table (λ number change part is. is)) (looks sections known done.heard done.client)
      (with_detector place (detector_after (occupied_heard done.heard known.occupied) done.client) (noted (Detector place) done part)) is) is) is

  heard_at : (bytes : List ℕ) (found : Option Node) (part : StepSoFar) → Stands part → Stands (with_one found (node_hearing now table bytes) part)
  heard_at bytes None part is = is
  heard_at bytes (Some node) part is = hearing_stands bytes node part is

  given_stands : (key : Key) (input : Input) (part : StepSoFar) → ((command : Command) → input ≡ Commands command → ⊥) → Stands part → Stands (given now table key input part)
  unfolding given
  given_stands key Tick part none is = is
  given_stands key (Datagram bytes) part none is = heard_at bytes (addressed (reading key bytes) part.ixl) part is
  given_stands key (Commands command) part none is = absurd (none command refl)

  -- ---- ticks

  signal_stands : (place : ℕ) (part : StepSoFar) → Stands part → Stands (known_signal_ticking now place part)
  unfolding known_signal_ticking
  signal_stands place part is = one_keeps Stands (slice_get part.ixl.known_signals place) _ part (λ known e. is) is

  point_stands : (place : ℕ) (part : StepSoFar) → Stands part → Stands (known_point_ticking now place part)
  unfolding known_point_ticking
  point_stands place part is = one_keeps Stands (slice_get part.ixl.known_points place) _ part (λ known e. is) is

  detector_stands : (place : ℕ) (part : StepSoFar) → Stands part → Stands (detector_ticking now place part)
  unfolding detector_ticking
  detector_stands place part is = one_keeps Stands (slice_get part.ixl.detectors place) _ part (λ known e. is) is

  -- ---- a step, up to the moves, and whole

  pub moves_stand : (key : Key) (input : Input) (part : StepSoFar) → ((command : Command) → input ≡ Commands command → ⊥) → Stands part
      → Stands (freed_by_cancel now table (over (watching table) (count table) (given now table key input (record part { ixl = all_clocked now part.ixl }))))
  unfolding all_clocked
  moves_stand key input part none is = until_freed Stands now table (λ number change part is. is) withdrawing_stands (given now table key input (record part { ixl = all_clocked now part.ixl }))
      (given_stands key input (record part { ixl = all_clocked now part.ixl }) none is)

  pub step_stands : (key : Key) (input : Input) (part : StepSoFar) → ((command : Command) → input ≡ Commands command → ⊥) → Stands part → Stands (stepped now table key input part)
  unfolding stepped all_clocked
  step_stands key input part none is = ticked_keeps Stands now signal_stands point_stands detector_stands input _ (ruled_stands _
      (over_keeps Stands (watching table) (watching_turns Stands now table (λ number change part is. is)) (count table) _
      (given_stands key input (record part { ixl = all_clocked now part.ixl }) none is)))
