-- What is so of one point of an interlocking is kept by a step in which no command comes, where each part keeps it that this point goes through.
use Rattle.simulator_recovery.proofs.Words.Basics.{◌≡◌, ◌⊎◌, inl, inr, ℕ, ◌∙◌, Bool, true, List, length, Option, Some, None, slice_get, refl, sym, ap, subst, Contains}
use Rattle.simulator_recovery.proofs.Words.Links.{OutboxState, reading, Key}
use Rattle.simulator_recovery.proofs.Words.Controllers.{Aspect, Side}
use Rattle.simulator_recovery.proofs.Words.Interlockings.{begun, hearing, ticking, count, ended, ending_authority, freed_by_cancel, freed_by_passage, freeing_by_cancel, freeing_by_passage, freeing_next, is_move_due, is_proceed_due, is_stop_due, moved, moving, moving_one, proceeding, ruled, withdrawing, withdrawn, IxlState, KnownPointState, KnownSignalState, RouteState, changed, Commands, Datagram, Input, Tick, addressed, all_clocked, clocked_known_point, detector_hearing, detector_ticking, given, known_point_hearing, known_point_ticking, known_signal_hearing, known_signal_ticking, looking, looking_by, looks, node_hearing, occupied_heard, stepped, ticked, watching, Detector, Node, Point, Signal, StepSoFar, detector_after, giving_aspect, giving_move, known_point_after, noted, over, with_detector, with_one, Need, Row, Table, is_signal_ready, Command}
use Rattle.simulator_recovery.proofs.Lemmas.Ground.DueShapes.{along_keeps, along_within, one_keeps, over_keeps, repeated_keeps, route_keeps, where_keeps}
use Rattle.simulator_recovery.proofs.Lemmas.Lamps.GivenNoMore.{NoCommand}
use Rattle.simulator_recovery.proofs.Lemmas.Ground.IxlClients.{changed_at, mapped_at}
use Rattle.simulator_recovery.proofs.Lemmas.RoutesComing.NothingDueMoves.{move_leaves}
use Rattle.simulator_recovery.proofs.Lemmas.Ground.SignalParts.{PartsKeep, both_rules, cancel_held, over_held, passage_held, watched_held}

module _ (point : ℕ) (P : KnownPointState → Type 0) where
  abbrev pub OfPoints : List KnownPointState → Type 0
  OfPoints points = (known : KnownPointState) → slice_get points point ≡ Some known → P known

  abbrev pub On : StepSoFar → Type 0
  On part = OfPoints part.ixl.known_points

  pub here : (place : ℕ) (new : KnownPointState) (points : List KnownPointState) → (point ≡ place → P new) → OfPoints points → OfPoints (changed (λ old. new) place points)
  here place new points so is known e = choose (changed_at (λ old. new) place points point known e)
    where
      choose : ((point ≡ place) × (was : KnownPointState) × (slice_get points place ≡ Some was) × (known ≡ new)) ⊎ (slice_get points point ≡ Some known) → P known
      choose (inl (same, was, there, f)) = subst P (sym f) (so same)
      choose (inr there) = is known there

  pub there_too : (place : ℕ) (points : List KnownPointState) (known : KnownPointState) → slice_get points place ≡ Some known → OfPoints points → point ≡ place → P known
  there_too place points known e is same = is known (ap (slice_get points) same ∙ e)

-- what is kept where time passes, and where the point's client hears or ticks
pub record ClientsKeep (now : ℕ) (P : KnownPointState → Type 0) : Type 0 where
  pub clock : (known : KnownPointState) → P known → P (clocked_known_point now known)
  pub hears : (known : KnownPointState) (side : Option Side) (bytes : List ℕ) (outbox : OutboxState) → P known
      → P (known_point_after side known.moved (hearing now bytes (begun known.client outbox)).client)
  pub ticks : (known : KnownPointState) (outbox : OutboxState) → P known → P (known_point_after known.side known.moved (ticking now (begun known.client outbox)).client)

-- a move that is due to a point that a route requires is given
pub record IsGivenMove (table : Table) (number : ℕ) (row : Row) (route : RouteState) (need : Need) (ixl : IxlState) : Type 0 where
  pub row_there : slice_get table.rows number ≡ Some row
  pub there : slice_get ixl.routes number ≡ Some route
  pub within : Contains row.needs need
  pub due : is_move_due table ixl number route need ≡ true

module _ (now point : ℕ) (P : KnownPointState → Type 0) (clients : ClientsKeep now P) where
  abbrev Here : StepSoFar → Type 0
  Here = On point P

  pub clocked_on : (part : StepSoFar) → Here part → Here (record part { ixl = all_clocked now part.ixl })
  unfolding all_clocked
  clocked_on part is known e =
      let found = mapped_at (clocked_known_point now) part.ixl.known_points point known e
      in subst P (sym found.2) (clients.clock found.0 (is found.0 found.1))

  aspect_on : (signal : ℕ) (aspect : Aspect) (part : StepSoFar) → Here part → Here (giving_aspect now signal aspect part)
  unfolding giving_aspect
  aspect_on signal aspect part is = one_keeps Here (slice_get part.ixl.known_signals signal) _ part (λ known e. is) is

  -- ---- the input

  looking_on : (table : Table) (look : ℕ × Bool) (part : StepSoFar) → Here part → Here (looking table look part)
  unfolding looking_by
  looking_on table look part is = over_keeps Here (looking_by look.0 look.1 table) (λ number q all. route_keeps Here table number _ q (λ row one there at. where_keeps Here _ q _ (λ due. all) all) all)
      (count table) part is

  hearing_on : (table : Table) (bytes : List ℕ) (node : Node) (part : StepSoFar) → Here part → Here (node_hearing now table bytes node part)
  unfolding node_hearing known_signal_hearing known_point_hearing detector_hearing
  hearing_on table bytes (Signal place) part is = one_keeps Here (slice_get part.ixl.known_signals place) _ part (λ known e. is) is
  hearing_on table bytes (Point place) part is = one_keeps Here (slice_get part.ixl.known_points place) _ part (λ known e.
      here point P place _ part.ixl.known_points (λ same. clients.hears known _ bytes part.outbox (there_too point P place part.ixl.known_points known e is same)) is) is
  hearing_on table bytes (Detector place) part is = one_keeps Here (slice_get table.detectors place) _ part (λ sections f. one_keeps Here (slice_get part.ixl.detectors place) _ part (λ known e.
      let done = hearing now bytes (begun known.client part.outbox)
      in along_keeps Here (looking table) (looking_on table) (looks sections known done.heard done.client)
      (with_detector place (detector_after (occupied_heard done.heard known.occupied) done.client) (noted (Detector place) done part)) is) is) is

  heard_on : (table : Table) (bytes : List ℕ) (found : Option Node) (part : StepSoFar) → Here part → Here (with_one found (node_hearing now table bytes) part)
  heard_on table bytes None part is = is
  heard_on table bytes (Some node) part is = hearing_on table bytes node part is

  pub given_on : (table : Table) (key : Key) (input : Input) (part : StepSoFar) → ((command : Command) → input ≡ Commands command → ⊥) → Here part → Here (given now table key input part)
  unfolding given
  given_on table key Tick part none is = is
  given_on table key (Datagram bytes) part none is = heard_on table bytes (addressed (reading key bytes) part.ixl) part is
  given_on table key (Commands command) part none is = absurd (none command refl)

  -- ---- the rules

  withdrawing_on : (table : Table) (number : ℕ) (part : StepSoFar) → Here part → Here (withdrawing now table number part)
  unfolding withdrawing
  withdrawing_on table number part is = route_keeps Here table number _ part (λ row one there at. where_keeps Here (is_stop_due table part.ixl row one) part _
      (λ due. where_keeps Here (is_signal_ready part.ixl row.entry) _ _ (λ ready. aspect_on row.entry Aspect.Stop _ is) is) is) is

  ending_on : (table : Table) (number : ℕ) (part : StepSoFar) → Here part → Here (ending_authority now table number part)
  unfolding ending_authority
  ending_on table number part is = route_keeps Here table number _ part (λ row one there at. where_keeps Here _ part _ (λ due. is) is) is

  next_on : (table : Table) (number : ℕ) (part : StepSoFar) → Here part → Here (freeing_next table number part)
  unfolding freeing_next
  next_on table number part is = route_keeps Here table number _ part (λ row one there at. where_keeps Here _ part _ (λ due. is) is) is

  passage_on : (table : Table) (number : ℕ) (part : StepSoFar) → Here part → Here (freeing_by_passage table number part)
  unfolding freeing_by_passage
  passage_on table number part is = route_keeps Here table number _ part (λ row one there at. repeated_keeps Here (length row.sections) (freeing_next table number) (next_on table number) part is) is

  cancel_on : (table : Table) (number : ℕ) (part : StepSoFar) → Here part → Here (freeing_by_cancel now table number part)
  unfolding freeing_by_cancel
  cancel_on table number part is = route_keeps Here table number _ part (λ row one there at. where_keeps Here _ part _ (λ due. is) is) is

  watching_on : (table : Table) (number : ℕ) (part : StepSoFar) → Here part → Here (watching table number part)
  unfolding watching
  watching_on table number part is = route_keeps Here table number _ part (λ row one there at. where_keeps Here _ part _ (λ due. is) is) is

  pub until_moves_on : (table : Table) (part : StepSoFar) → Here part → Here (freed_by_cancel now table (over (watching table) (count table) part))
  until_moves_on table part is =
      over_keeps Here (freeing_by_cancel now table) (cancel_on table) (count table) (freed_by_passage now table seen)
      (over_keeps Here (freeing_by_passage table) (passage_on table) (count table) (ended now table seen)
      (over_keeps Here (ending_authority now table) (ending_on table) (count table) (withdrawn now table seen)
      (over_keeps Here (withdrawing now table) (withdrawing_on table) (count table) seen (over_keeps Here (watching table) (watching_on table) (count table) part is))))
    where
      seen : StepSoFar
      seen = over (watching table) (count table) part

  proceeding_on : (table : Table) (number : ℕ) (part : StepSoFar) → Here part → Here (proceeding now table number part)
  unfolding proceeding
  proceeding_on table number part is = route_keeps Here table number _ part (λ row one there at. where_keeps Here (is_proceed_due now table part.ixl row one) part _
      (λ due. aspect_on row.entry row.aspect _ is) is) is

  -- ---- ticks

  signal_ticks_on : (place : ℕ) (part : StepSoFar) → Here part → Here (known_signal_ticking now place part)
  unfolding known_signal_ticking
  signal_ticks_on place part is = one_keeps Here (slice_get part.ixl.known_signals place) _ part (λ known e. is) is

  point_ticks_on : (place : ℕ) (part : StepSoFar) → Here part → Here (known_point_ticking now place part)
  unfolding known_point_ticking
  point_ticks_on place part is = one_keeps Here (slice_get part.ixl.known_points place) _ part (λ known e.
      here point P place _ part.ixl.known_points (λ same. clients.ticks known part.outbox (there_too point P place part.ixl.known_points known e is same)) is) is

  detector_ticks_on : (place : ℕ) (part : StepSoFar) → Here part → Here (detector_ticking now place part)
  unfolding detector_ticking
  detector_ticks_on place part is = one_keeps Here (slice_get part.ixl.detectors place) _ part (λ known e. is) is

  ticked_on : (input : Input) (part : StepSoFar) → Here part → Here (ticked now input part)
  unfolding ticked
  ticked_on Tick part is = over_keeps Here (detector_ticking now) detector_ticks_on (length part.ixl.detectors) _
      (over_keeps Here (known_point_ticking now) point_ticks_on (length part.ixl.known_points) _ (over_keeps Here (known_signal_ticking now) signal_ticks_on (length part.ixl.known_signals) part is))
  ticked_on (Datagram bytes) part is = is
  ticked_on (Commands command) part is = is

  pub behind_moves_on : (table : Table) (input : Input) (part : StepSoFar) → Here (moved now table part) → Here (ticked now input (ruled now table part))
  behind_moves_on table input part is = ticked_on input (ruled now table part) (over_keeps Here (proceeding now table) (proceeding_on table) (count table) (moved now table part) is)

  -- ---- the fifth rule

  module _ (table : Table) (R : List RouteState → Type 0)
      (moves : (number : ℕ) (row : Row) (route : RouteState) (need : Need) (part : StepSoFar) → IsGivenMove table number row route need part.ixl → R part.ixl.routes → On point P part
      → On point P (giving_move now need.point need.side part)) where
    abbrev Moving : StepSoFar → Type 0
    Moving part = R part.ixl.routes × Here part

    one_moves : (number : ℕ) (need : Need) (row : Row) (part : StepSoFar) → Contains row.needs need → slice_get table.rows number ≡ Some row → Moving part
        → Moving (moving_one now table number need part)
    unfolding moving_one
    one_moves number need row part within row_there is = route_keeps Moving table number _ part (λ other one there at. where_keeps Moving (is_move_due table part.ixl number one need) part _ (λ due. (
      subst R (sym (move_leaves now need.point need.side part).routes) is.0,
      moves number row one need part (record { row_there = row_there; there = at; within = within; due = due }) is.0 is.1,
    )) is) is

    moving_moves : (number : ℕ) (part : StepSoFar) → Moving part → Moving (moving now table number part)
    unfolding moving
    moving_moves number part is = route_keeps Moving table number _ part (λ row one there at. along_within Moving (moving_one now table number) row.needs
        (λ need within q so. one_moves number need row q within there so) part is) is

    -- ---- a step

    module _ (kept : PartsKeep now table NoCommand (λ routes signals. R routes)) where
      abbrev Q : List RouteState → List KnownSignalState → Type 0
      Q routes signals = R routes

      pub step_on : (key : Key) (input : Input) (part : StepSoFar) → ((command : Command) → input ≡ Commands command → ⊥) → R part.ixl.routes → Here part → Here (stepped now table key input part)
      unfolding stepped
      step_on key input part no_command so is = behind_moves_on table input seen (over_keeps Moving (moving now table) moving_moves (count table) freed (
        over_held now table Q kept.rules (freeing_by_cancel now table) (cancel_held now table Q kept.rules) (count table) (freed_by_passage now table seen)
            (over_held now table Q kept.rules (freeing_by_passage table) (passage_held now table Q kept.rules) (count table) (ended now table seen)
            (both_rules now table NoCommand Q kept seen (watched_held now table NoCommand Q kept key input part no_command so))),
        until_moves_on table (given now table key input begun_part) (given_on table key input begun_part no_command (clocked_on part is)),
      )).1
        where
          begun_part : StepSoFar
          begun_part = record part { ixl = all_clocked now part.ixl }

          seen : StepSoFar
          seen = over (watching table) (count table) (given now table key input begun_part)

          freed : StepSoFar
          freed = freed_by_cancel now table seen
