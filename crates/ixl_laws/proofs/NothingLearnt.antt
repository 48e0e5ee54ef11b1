-- In the turns of a step nothing is learnt: what is known of sections, points and signals was known before.
use Rattle.std.proofs.Common.{◌≡◌, ◌⊎◌, inl, inr, ℕ, true, false, List, length, refl, ap, sym, ◌∙◌, subst}
use Rattle.std.specs.Prelude.{Option, Some, slice_get}
use Rattle.std.specs.FinSet.{contains}
use Rattle.std.proofs.lemmas.Bool.{false≢true}
use Rattle.ixl_state.specs.bit_row.Places.{Places}
use Rattle.ixl_state.specs.sci_telegram.declared.message.Aspect.{Aspect}
use Rattle.ixl_state.specs.sci_telegram.declared.message.Side.{Side}
use Rattle.ixl_state.specs.ixl_client.Client.{ClientState, is_available, is_outside, is_ready}
use Rattle.ixl_state.specs.ixl_client.ClientSoFar.{ClientSoFar, Opens, Ticks, begun, calling}
use Rattle.ixl_state.specs.ixl_client.Step.{at_stage, commanding, message_of, posting, stage_after_command, ticking}
use Rattle.ixl_state.specs.ixl_client.declared.command.Command.{Command}
use Rattle.ixl_state.specs.ixl_client.declared.command.Command.TheVariants as commands
use Rattle.ixl_state.specs.ixl_client.declared.stage.Stage.{Stage}
use Rattle.ixl_state.specs.ixl_client.declared.stage.Stage.TheVariants as stage
use Rattle.ixl_state.specs.ixl_spec.Due.{At, IsClear, IsSignalReady, Known}
use Rattle.ixl_state.specs.ixl_spec.Rules.{authorised, come_to, freed, one_freed, stopped}
use Rattle.ixl_state.specs.ixl_spec.State.{IxlState, KnownDetectorState, KnownPointState, KnownSignalState, RouteState, changed}
use Rattle.ixl_state.specs.ixl_spec.Step.{detector_ticking, known_point_ticking, known_signal_ticking}
use Rattle.ixl_state.specs.ixl_spec.StepSoFar.{Detector, Node, Point, Signal, StepSoFar, all_below, detector_after, giving_aspect, giving_move, known_point_after, known_signal_after, with_route}
use Rattle.ixl_state.specs.ixl_spec.Table.{Row, Table}
use Rattle.ixl_state.specs.ixl_spec.View.{is_signal_ready}
use Rattle.ixl_state.specs.ixl_spec.declared.phase.Phase.TheVariants as phase
use Rattle.ixl_laws.specs.WholeStep.{Beat, DoesItsTurn, EndAuthority, FreeCancelled, FreeSection, MovePoint, Passed, Proceed, Turn, Watch, Withdraw, approach_seen, beaten}
use Rattle.ixl_laws.proofs.Clients.{detector_client, known_point_client, known_signal_client}
use Rattle.ixl_laws.proofs.Hears.{inside_stays}
use Rattle.ixl_laws.proofs.Once.{inside_of}
use Rattle.ixl_laws.proofs.PickedByTest.{either}
use Rattle.ixl_laws.proofs.Ruled.{with_one_or_none}
use Rattle.ixl_laws.proofs.TurnKeeps.{Stays, where_stays}
use Rattle.ixl_laws.proofs.WholeFits.{changed_or_same}

-- ---- the stage of a client

ready_inside : (s : Stage) → is_ready s ≡ true → is_outside s ≡ false
ready_inside stage.Outside is = absurd (false≢true is)
ready_inside stage.AwaitsAnswer is = refl
ready_inside stage.AwaitsStart is = refl
ready_inside (stage.AwaitsStatus left) is = refl
ready_inside stage.Completed is = refl
ready_inside stage.AwaitsReport is = refl

tick_stage : (now : ℕ) (a : ClientSoFar) → is_outside (ticking now a).client.stage ≡ false → (ticking now a).client.stage ≡ a.client.stage
unfolding ticking calling
tick_stage now a inside = inside_stays (calling now Opens (calling now Ticks a)).client inside

command_stage : (now : ℕ) (command : Command) (a : ClientSoFar) → is_outside (commanding now command a).client.stage ≡ false → (commanding now command a).client.stage ≡ stage_after_command command a.client.stage
unfolding commanding
command_stage now command a inside = inside_stays (at_stage (stage_after_command command a.client.stage) (posting now (message_of command) a)).client inside

move_available : (side : Side) (s : Stage) → is_available (stage_after_command (commands.Move side) s) ≡ true → is_available s ≡ true
move_available side stage.Outside is = is
move_available side stage.AwaitsAnswer is = is
move_available side stage.AwaitsStart is = is
move_available side (stage.AwaitsStatus left) is = is
move_available side stage.Completed is = refl
move_available side stage.AwaitsReport is = is

side_inside : (side : Option Side) (moved : Places) (client : ClientState) → is_outside client.stage ≡ false → (known_point_after side moved client).side ≡ side
unfolding known_point_after
side_inside side moved client inside = rw inside refl

occupied_inside : (occupied : Places) (client : ClientState) → is_outside client.stage ≡ false → (detector_after occupied client).occupied ≡ occupied
unfolding detector_after
occupied_inside occupied client inside = rw inside refl

-- ---- one of a list is changed

at_changed : {A : Type 0} (new old : A) (place other : ℕ) (list : List A) (fact : A → Type 0) → slice_get list place ≡ Some old → (fact new → fact old) → At (changed (λ _. new) place list) other fact → At list other fact
at_changed new old place other list fact here back (one, is, holds) = by_place (changed_or_same (λ _. new) place other list one is) where
  by_place : (before : _) × (slice_get list other ≡ Some before) × ((one ≡ before) ⊎ ((other ≡ place) × (one ≡ new))) → At list other fact
  by_place (before, there, inl same) = (before, there, subst fact same holds)
  by_place (before, there, inr (at, same)) = (old, subst (λ n. slice_get list n ≡ Some old) (sym at) here, back (subst fact same holds))

-- what is known of the field was known at the start
pub record LearnsNothing (table : Table) (start : IxlState) (part : StepSoFar) : Type 0 where
  pub clear : (section : ℕ) → IsClear table part.ixl section → IsClear table start section
  pub known : (point : ℕ) (side : Side) → Known part.ixl point side → Known start point side
  pub ready : (signal : ℕ) → IsSignalReady part.ixl signal → IsSignalReady start signal

pub nothing_at_first : (table : Table) (part : StepSoFar) → LearnsNothing table part.ixl part
nothing_at_first table part = record { clear = λ section is. is; known = λ point side is. is; ready = λ signal is. is }

module _ (now : ℕ) (table : Table) (start : IxlState) where
  abbrev Same : StepSoFar → Type 0
  Same part = LearnsNothing table start part

  route_learns : (place : ℕ) (change : RouteState → RouteState) (part : StepSoFar) → Same part → Same (with_route place change part)
  route_learns place change part is = record { clear = is.clear; known = is.known; ready = is.ready }

  aspect_learns : (signal : ℕ) (aspect : Aspect) (part : StepSoFar) → Same part → Same (giving_aspect now signal aspect part)
  unfolding giving_aspect
  aspect_learns signal aspect part is = with_one_or_none Same (slice_get part.ixl.known_signals signal) _ part (λ old there. record {
    clear = is.clear;
    known = is.known;
    ready = λ other known. is.ready other (at_changed _ old signal other part.ixl.known_signals (λ (s : KnownSignalState). is_ready s.client.stage ≡ true) there (back old) known);
  }) (λ none. is) where
    back : (old : KnownSignalState) →
        is_ready (known_signal_after (Some aspect) (commanding now (commands.Indicate aspect) (begun old.client part.outbox)).client.link.given old.indicated (commanding now (commands.Indicate aspect) (begun old.client part.outbox)).client).client.stage ≡ true → is_ready old.client.stage ≡ true
    back old ready =
        let done : ClientSoFar = commanding now (commands.Indicate aspect) (begun old.client part.outbox)
        in let is_so : is_ready done.client.stage ≡ true = ap (λ (c : ClientState). is_ready c.stage) (sym (known_signal_client (Some aspect) done.client.link.given old.indicated done.client)) ∙ ready
        in ap is_ready (sym (command_stage now (commands.Indicate aspect) (begun old.client part.outbox) (ready_inside done.client.stage is_so))) ∙ is_so

  move_learns : (point : ℕ) (side : Side) (part : StepSoFar) → Same part → Same (giving_move now point side part)
  unfolding giving_move
  move_learns point side part is = with_one_or_none Same (slice_get part.ixl.known_points point) _ part (λ old there. record {
    clear = is.clear;
    known = λ other at known. is.known other at
        (at_changed _ old point other part.ixl.known_points (λ (p : KnownPointState). (is_available p.client.stage ≡ true) × (p.side ≡ Some at)) there (back old at) known);
    ready = is.ready;
  }) (λ none. is) where
    back : (old : KnownPointState) (at : Side) →
        (is_available (known_point_after old.side (all_below (length part.ixl.routes)) (commanding now (commands.Move side) (begun old.client part.outbox)).client).client.stage ≡ true)
        × ((known_point_after old.side (all_below (length part.ixl.routes)) (commanding now (commands.Move side) (begun old.client part.outbox)).client).side ≡ Some at) →
        (is_available old.client.stage ≡ true) × (old.side ≡ Some at)
    back old at (available, lies) =
        let done : ClientSoFar = commanding now (commands.Move side) (begun old.client part.outbox)
        in let is_so : is_available done.client.stage ≡ true = ap (λ (c : ClientState). is_available c.stage) (sym (known_point_client old.side (all_below (length part.ixl.routes)) done.client)) ∙ available
        in let inside : is_outside done.client.stage ≡ false = inside_of done.client.stage is_so
        in (
          move_available side old.client.stage (ap is_available (sym (command_stage now (commands.Move side) (begun old.client part.outbox) inside)) ∙ is_so),
          sym (side_inside old.side (all_below (length part.ixl.routes)) done.client inside) ∙ lies,
        )

  -- ---- ticks

  tick_learns : (node : Node) (part : StepSoFar) → Same part → Same (beaten now node part)
  unfolding known_signal_ticking known_point_ticking detector_ticking
  tick_learns (Signal place) part is = with_one_or_none Same (slice_get part.ixl.known_signals place) _ part (λ old there. record {
    clear = is.clear;
    known = is.known;
    ready = λ other known. is.ready other (at_changed _ old place other part.ixl.known_signals (λ (s : KnownSignalState). is_ready s.client.stage ≡ true) there (back old) known);
  }) (λ none. is) where
    back : (old : KnownSignalState) → is_ready (known_signal_after old.aspect old.number old.indicated (ticking now (begun old.client part.outbox)).client).client.stage ≡ true → is_ready old.client.stage ≡ true
    back old ready =
        let done : ClientSoFar = ticking now (begun old.client part.outbox)
        in let is_so : is_ready done.client.stage ≡ true = ap (λ (c : ClientState). is_ready c.stage) (sym (known_signal_client old.aspect old.number old.indicated done.client)) ∙ ready
        in ap is_ready (sym (tick_stage now (begun old.client part.outbox) (ready_inside done.client.stage is_so))) ∙ is_so
  tick_learns (Point place) part is = with_one_or_none Same (slice_get part.ixl.known_points place) _ part (λ old there. record {
    clear = is.clear;
    known = λ other at known. is.known other at
        (at_changed _ old place other part.ixl.known_points (λ (p : KnownPointState). (is_available p.client.stage ≡ true) × (p.side ≡ Some at)) there (back old at) known);
    ready = is.ready;
  }) (λ none. is) where
    back : (old : KnownPointState) (at : Side) →
        (is_available (known_point_after old.side old.moved (ticking now (begun old.client part.outbox)).client).client.stage ≡ true) × ((known_point_after old.side old.moved (ticking now (begun old.client part.outbox)).client).side ≡ Some at) →
        (is_available old.client.stage ≡ true) × (old.side ≡ Some at)
    back old at (available, lies) =
        let done : ClientSoFar = ticking now (begun old.client part.outbox)
        in let is_so : is_available done.client.stage ≡ true = ap (λ (c : ClientState). is_available c.stage) (sym (known_point_client old.side old.moved done.client)) ∙ available
        in let inside : is_outside done.client.stage ≡ false = inside_of done.client.stage is_so
        in (ap is_available (sym (tick_stage now (begun old.client part.outbox) inside)) ∙ is_so, sym (side_inside old.side old.moved done.client inside) ∙ lies)
  tick_learns (Detector place) part is = with_one_or_none Same (slice_get part.ixl.detectors place) _ part (λ old there. record {
    clear = λ section known. is.clear section (listed section old there known);
    known = is.known;
    ready = is.ready;
  }) (λ none. is) where
    back : (old : KnownDetectorState) (at : ℕ) →
        (is_ready (detector_after old.occupied (ticking now (begun old.client part.outbox)).client).client.stage ≡ true) × (contains (detector_after old.occupied (ticking now (begun old.client part.outbox)).client).occupied at ≡ false) →
        (is_ready old.client.stage ≡ true) × (contains old.occupied at ≡ false)
    back old at (ready, lies) =
        let done : ClientSoFar = ticking now (begun old.client part.outbox)
        in let is_so : is_ready done.client.stage ≡ true = ap (λ (c : ClientState). is_ready c.stage) (sym (detector_client old.occupied done.client)) ∙ ready
        in let inside : is_outside done.client.stage ≡ false = ready_inside done.client.stage is_so
        in (ap is_ready (sym (tick_stage now (begun old.client part.outbox) inside)) ∙ is_so, ap (λ (row : Places). contains row at) (sym (occupied_inside old.occupied done.client inside)) ∙ lies)

    listed : (section : ℕ) (old : KnownDetectorState) → slice_get part.ixl.detectors place ≡ Some old →
        At table.reporters section (λ reporter. At (changed (λ _. detector_after old.occupied (ticking now (begun old.client part.outbox)).client) place part.ixl.detectors) reporter.0
        (λ detector. (is_ready detector.client.stage ≡ true) × (contains detector.occupied reporter.1 ≡ false))) → IsClear table part.ixl section
    listed section old there (reporter, is_there, known) = (
      reporter,
      is_there,
      at_changed (detector_after old.occupied (ticking now (begun old.client part.outbox)).client) old place reporter.0 part.ixl.detectors (λ (d : KnownDetectorState). (is_ready d.client.stage ≡ true) × (contains d.occupied reporter.1 ≡ false)) there (back old reporter.1) known,
    )

  stopped_learns : (row : Row) (part : StepSoFar) → Same part → Same (stopped now row part)
  stopped_learns row part is = either Same (is_signal_ready part.ixl row.entry) _ _ (aspect_learns row.entry _ part is) is

  -- ---- each turn

  pub learns_kept : (turn : Turn) (before after : StepSoFar) → DoesItsTurn now table turn before after → LearnsNothing table start before → Stays (LearnsNothing table start after)
  learns_kept (Watch place) before after (row, route, is, does) same lost =
      where_stays Same before (with_route place (approach_seen table before.ixl row) before) after does same (λ due. route_learns place (approach_seen table before.ixl row) before same) lost
  learns_kept (Withdraw place) before after (row, route, is, does) same lost =
      where_stays Same before (stopped now row (with_route place (come_to phase.Withdrawn) before)) after does same
      (λ due. stopped_learns row (with_route place (come_to phase.Withdrawn) before) (route_learns place (come_to phase.Withdrawn) before same)) lost
  learns_kept (EndAuthority place) before after (row, route, is, does) same lost =
      where_stays Same before (with_route place (come_to (phase.Ended now 0)) before) after does same (λ due. route_learns place (come_to (phase.Ended now 0)) before same) lost
  learns_kept (FreeSection place) before after (row, route, is, does) same lost =
      where_stays Same before (with_route place (one_freed row route.phase) before) after does same (λ due. route_learns place (one_freed row route.phase) before same) lost
  learns_kept (Passed place) before after (row, route, is, (alike, none)) same lost = lost (subst Same (sym alike) same)
  learns_kept (FreeCancelled place) before after (row, route, is, does) same lost =
      where_stays Same before (with_route place freed before) after does same (λ due. route_learns place freed before same) lost
  learns_kept (MovePoint place need) before after (row, route, is, does) same lost =
      where_stays Same before (giving_move now need.point need.side before) after does same (λ due. move_learns need.point need.side before same) lost
  learns_kept (Proceed place) before after (row, route, is, does) same lost =
      where_stays Same before (giving_aspect now row.entry row.aspect (with_route place (authorised table before.ixl row) before)) after does same
      (λ due. aspect_learns row.entry row.aspect (with_route place (authorised table before.ixl row) before) (route_learns place (authorised table before.ixl row) before same)) lost
  learns_kept (Beat node) before after alike same lost = lost (subst Same (sym alike) (tick_learns node before same))
