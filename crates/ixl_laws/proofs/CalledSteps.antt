-- The rules and ticks of a step call links.
use Rattle.std.proofs.Common.{◌≡◌, inl, inr, ℕ, List, [], length, refl, ap, ◌∙◌, subst}
use Rattle.std.specs.Prelude.{Option, Some, slice_get}
use Rattle.ixl_state.specs.rasta_core.Outbox.{OutboxState}
use Rattle.ixl_state.specs.sci_telegram.declared.message.Aspect.{Aspect}
use Rattle.ixl_state.specs.sci_telegram.declared.message.Side.{Side}
use Rattle.ixl_state.specs.bit_row.Places.{Places}
use Rattle.ixl_state.specs.ixl_client.Client.{ClientState}
use Rattle.ixl_state.specs.ixl_client.Made.{ActsOn, MakesAfterReceipt, MakesOwn}
use Rattle.ixl_state.specs.ixl_client.ClientSoFar as client
use Rattle.ixl_state.specs.ixl_client.ClientSoFar.{LinkCall, begun, calling}
use Rattle.ixl_state.specs.ixl_client.Step.{commanding, hearing, message_of, ticking}
use Rattle.ixl_state.specs.ixl_client.declared.command.Command.{Command}
use Rattle.ixl_state.specs.ixl_client.declared.command.Command.TheVariants as commands
use Rattle.ixl_state.specs.ixl_spec.StepSoFar.{Detector, Node, StepSoFar, Point, Signal, all_below, detector_after, giving_aspect, giving_move, known_signal_after, noted, over, known_point_after, with_detector, with_known_signal, with_route, with_known_point}
use Rattle.ixl_state.specs.ixl_spec.Rules.{count, ruled}
use Rattle.ixl_state.specs.ixl_spec.State.{KnownDetectorState, IxlState, KnownSignalState, RouteState, KnownPointState, changed}
use Rattle.ixl_state.specs.ixl_spec.Step.{Tick, client_at, detector_ticking, known_signal_ticking, known_point_ticking, ticked, watching}
use Rattle.ixl_state.specs.ixl_spec.Table.{Table}
use Rattle.ixl_laws.proofs.CalledNext.{Does, called_next}
use Rattle.ixl_laws.proofs.CalledSoFar.{SoFar, same_clients}
use Rattle.ixl_laws.proofs.Clients.{Puts, detection_at, detector_client, detector_kept, detector_put, known_signal_client, known_signal_kept, known_signal_put, point_at, signal_at, known_point_client, known_point_kept, known_point_put}
use Rattle.ixl_laws.proofs.Hears.{posting_posts}
use Rattle.ixl_laws.proofs.Ruled.{IsKeptByChanges, over_holds, ruled_holds, seen_holds, with_one_holds}
use Rattle.ixl_laws.proofs.Shut.{commanding_shut}

-- the laws of a client
pub record ClientLaws (now : ℕ) : Type 0 where
  pub receipt : (bytes : List ℕ) (part : client.ClientSoFar) → MakesAfterReceipt now bytes part (hearing now bytes part)
  pub acts : (bytes : List ℕ) (part : client.ClientSoFar) → ActsOn now bytes part (hearing now bytes part)
  pub command : (command : Command) (part : client.ClientSoFar) → MakesOwn now part (commanding now command part)
  pub tick : (part : client.ClientSoFar) → MakesOwn now part (ticking now part)
  pub same_receipt : (bytes : List ℕ) (part : client.ClientSoFar) → (hearing now bytes part).client.peer ≡ part.client.peer
  pub same_command : (command : Command) (part : client.ClientSoFar) → (commanding now command part).client.peer ≡ part.client.peer
  pub same_tick : (part : client.ClientSoFar) → (ticking now part).client.peer ≡ part.client.peer

pub commanding_acts : (now : ℕ) (command : Command) (part : client.ClientSoFar) → (commanding now command part).acted ≡ part.acted
unfolding commanding
commanding_acts now command part = (posting_posts now (message_of command) part).acted

pub ticking_acts : (now : ℕ) (part : client.ClientSoFar) → (ticking now part).acted ≡ part.acted
unfolding ticking calling
ticking_acts now part = refl

module _ (now : ℕ) (laws : ClientLaws now) (first : IxlState) (receipt : Node → List LinkCall) where
  abbrev pub On : StepSoFar → Type 0
  On part = SoFar now first receipt part

  abbrev pub DoesAt : Node → ClientState → OutboxState → client.ClientSoFar → Type 0
  DoesAt node old outbox done = Does now first receipt node old outbox done

  commanded : (node : Node) (old : ClientState) (outbox : OutboxState) (command : Command) → DoesAt node old outbox (commanding now command (begun old outbox))
  commanded node old outbox command = record {
    makes = laws.command command (begun old outbox);
    acted = commanding_acts now command (begun old outbox);
    same = laws.same_command command (begun old outbox);
    opens = inl (commanding_shut now command (begun old outbox));
  }

  beaten : (node : Node) (old : ClientState) (outbox : OutboxState) → receipt node ≡ [] → DoesAt node old outbox (ticking now (begun old outbox))
  beaten node old outbox none = record {
    makes = laws.tick (begun old outbox);
    acted = ticking_acts now (begun old outbox);
    same = laws.same_tick (begun old outbox);
    opens = inr none;
  }

  -- ---- what is done with a signal, a point, a detector

  known_signal_next : (place : ℕ) (known_signal : KnownSignalState) (part : StepSoFar) → slice_get part.ixl.known_signals place ≡ Some known_signal → (done : client.ClientSoFar) (aspect : Option Aspect) (number : ℕ) (indicated : Option Aspect) → DoesAt (Signal place) known_signal.client part.outbox done →
      On part → On (with_known_signal place (known_signal_after aspect number indicated done.client) (noted (Signal place) done part))
  known_signal_next place known_signal part there done aspect number indicated does on = called_next now first receipt (Signal place) known_signal.client part done new (signal_at place part.ixl ∙ ap known_signal_kept there) does
      (subst (λ c. Puts (Signal place) c part.ixl new) (known_signal_client aspect number indicated done.client) (known_signal_put place known_signal (known_signal_after aspect number indicated done.client) part.ixl there)) on
    where
      new : IxlState
      new = record part.ixl { known_signals = changed (λ old. known_signal_after aspect number indicated done.client) place part.ixl.known_signals }

  known_point_next : (place : ℕ) (known_point : KnownPointState) (part : StepSoFar) → slice_get part.ixl.known_points place ≡ Some known_point → (done : client.ClientSoFar) (side : Option Side) (moved : Places) → DoesAt (Point place) known_point.client part.outbox done →
      On part → On (with_known_point place (known_point_after side moved done.client) (noted (Point place) done part))
  known_point_next place known_point part there done side moved does on = called_next now first receipt (Point place) known_point.client part done new (point_at place part.ixl ∙ ap known_point_kept there) does
      (subst (λ c. Puts (Point place) c part.ixl new) (known_point_client side moved done.client) (known_point_put place known_point (known_point_after side moved done.client) part.ixl there)) on
    where
      new : IxlState
      new = record part.ixl { known_points = changed (λ old. known_point_after side moved done.client) place part.ixl.known_points }

  detector_next : (place : ℕ) (detector : KnownDetectorState) (part : StepSoFar) → slice_get part.ixl.detectors place ≡ Some detector → (done : client.ClientSoFar) (occupied : Places) → DoesAt (Detector place) detector.client part.outbox done →
      On part → On (with_detector place (detector_after occupied done.client) (noted (Detector place) done part))
  detector_next place detector part there done occupied does on = called_next now first receipt (Detector place) detector.client part done new (detection_at place part.ixl ∙ ap detector_kept there) does
      (subst (λ c. Puts (Detector place) c part.ixl new) (detector_client occupied done.client) (detector_put place detector (detector_after occupied done.client) part.ixl there)) on
    where
      new : IxlState
      new = record part.ixl { detectors = changed (λ old. detector_after occupied done.client) place part.ixl.detectors }

  -- ---- the rules

  pub route_called : (number : ℕ) (change : RouteState → RouteState) (part : StepSoFar) → On part → On (with_route number change part)
  route_called number change part on = same_clients now first receipt part (with_route number change part).ixl same on where
    same : (node : Node) → client_at node (with_route number change part).ixl ≡ client_at node part.ixl
    same (Signal place) = refl
    same (Point place) = refl
    same (Detector place) = refl

  aspect_called : (signal : ℕ) (aspect : Aspect) (part : StepSoFar) → On part → On (giving_aspect now signal aspect part)
  unfolding giving_aspect
  aspect_called signal aspect part on = with_one_holds On (slice_get part.ixl.known_signals signal) _ part (λ known_signal there.
      let done = commanding now (commands.Indicate aspect) (begun known_signal.client part.outbox)
      in known_signal_next signal known_signal part there done (Some aspect) done.client.link.given known_signal.indicated (commanded (Signal signal) known_signal.client part.outbox (commands.Indicate aspect)) on) on

  pub move_called : (point : ℕ) (side : Side) (part : StepSoFar) → On part → On (giving_move now point side part)
  unfolding giving_move
  move_called point side part on = with_one_holds On (slice_get part.ixl.known_points point) _ part (λ known_point there.
      known_point_next point known_point part there (commanding now (commands.Move side) (begun known_point.client part.outbox)) known_point.side (all_below (length part.ixl.routes))
      (commanded (Point point) known_point.client part.outbox (commands.Move side)) on) on

  changes_called : IsKeptByChanges now On
  changes_called = record { route = route_called; aspect = aspect_called; move = λ point side part available on. move_called point side part on }

  pub rules_called : (table : Table) (part : StepSoFar) → On part → On (ruled now table (over (watching table) (count table) part))
  rules_called table part on = ruled_holds On now changes_called table _ (seen_holds On route_called table part on)

  -- ---- ticks

  module _ (none : (node : Node) → receipt node ≡ []) where
    known_signal_ticks : (signal : ℕ) (part : StepSoFar) → On part → On (known_signal_ticking now signal part)
    unfolding known_signal_ticking
    known_signal_ticks signal part on = with_one_holds On (slice_get part.ixl.known_signals signal) _ part (λ known_signal there.
        known_signal_next signal known_signal part there (ticking now (begun known_signal.client part.outbox)) known_signal.aspect known_signal.number known_signal.indicated (beaten (Signal signal) known_signal.client part.outbox (none (Signal signal))) on) on

    known_point_ticks : (point : ℕ) (part : StepSoFar) → On part → On (known_point_ticking now point part)
    unfolding known_point_ticking
    known_point_ticks point part on = with_one_holds On (slice_get part.ixl.known_points point) _ part (λ known_point there.
        known_point_next point known_point part there (ticking now (begun known_point.client part.outbox)) known_point.side known_point.moved (beaten (Point point) known_point.client part.outbox (none (Point point))) on) on

    detector_ticks : (place : ℕ) (part : StepSoFar) → On part → On (detector_ticking now place part)
    unfolding detector_ticking
    detector_ticks place part on = with_one_holds On (slice_get part.ixl.detectors place) _ part (λ detector there.
        detector_next place detector part there (ticking now (begun detector.client part.outbox)) detector.occupied (beaten (Detector place) detector.client part.outbox (none (Detector place))) on) on

    pub tick_called : (part : StepSoFar) → On part → On (ticked now Tick part)
    unfolding ticked
    tick_called part on =
        over_holds On (detector_ticking now) detector_ticks (length part.ixl.detectors) _
        (over_holds On (known_point_ticking now) known_point_ticks (length part.ixl.known_points) _
        (over_holds On (known_signal_ticking now) known_signal_ticks (length part.ixl.known_signals) part on))
