-- What a command leaves.
use Rattle.std.proofs.Common.{◌≡◌, ◌∙◌, false, true, ℕ, ◌<◌, length, refl, sym, ap, subst}
use Rattle.std.specs.Prelude.{Option, Some, None, slice_get}
use Rattle.std.proofs.lemmas.List.Elements.{All-map}
use Rattle.ixl_state.specs.rasta_pdu.declared.key.Key.{Key}
use Rattle.ixl_state.specs.rasta_core.Outbox.{OutboxState}
use Rattle.ixl_state.specs.ixl_spec.Commands.{commanded_by, moved_at_once, obeyed, refusal, unmoved_for}
use Rattle.ixl_state.specs.ixl_spec.Operations.{has_named}
use Rattle.ixl_state.specs.ixl_spec.StepSoFar.{StepSoFar}
use Rattle.ixl_state.specs.ixl_spec.closings.declared.thing.Named.{Named}
use Rattle.ixl_state.specs.layout.declared.ids.PointId.{PointId}
use Rattle.ixl_state.specs.sci_telegram.declared.message.Side.{Side}
use Rattle.ixl_state.specs.ixl_spec.State.{RouteState, KnownPointState}
use Rattle.ixl_state.specs.ixl_spec.Step.{Commands, given}
use Rattle.ixl_state.specs.ixl_spec.Table.{Row, Table}
use Rattle.ixl_state.specs.ixl_spec.declared.command.Command.{Command}
use Rattle.ixl_state.specs.ixl_spec.declared.command.Command.TheVariants as commands
use Rattle.ixl_state.specs.ixl_spec.declared.command.Refusal.{Refusal}
use Rattle.ixl_state.specs.layout.declared.ids.RouteId.{RouteId}
use Rattle.ixl_state.specs.ixl_spec.View.{first_blocking, is_set}
use Rattle.ixl_state.specs.State.{AllAt, AtRoute, Goes, StateView}
use Rattle.ixl.proofs.Causes.{MaySet, cancel_passed, get_inside, release_passed, request_passed, same_route, same_row, thing_passed}
use Rattle.ixl.proofs.StepParts.{goes_nowhere, leads_at}

-- what is kept after a command
abbrev pub changing : ℕ → Command → StateView → StateView
changing now command state = record state { ixl = obeyed now command state.ixl }

pub changing_clock : (now : ℕ) (command : Command) (state : StateView) → AllAt now state → AllAt now (changing now command state)
unfolding obeyed
changing_clock now (commands.Request route) state at = record {
  known_signals = at.known_signals;
  known_points = All-map (λ (s : KnownPointState). s.client.link.clock ≡ now) (unmoved_for route.0) state.ixl.known_points (λ k d within. at.known_points k d within);
  detectors = at.detectors;
}
changing_clock now (commands.Cancel route) state at = record { known_signals = at.known_signals; known_points = at.known_points; detectors = at.detectors }
changing_clock now commands.Resume state at = record { known_signals = at.known_signals; known_points = at.known_points; detectors = at.detectors }
changing_clock now (commands.Release route) state at = record { known_signals = at.known_signals; known_points = at.known_points; detectors = at.detectors }
changing_clock now (commands.Move point side) state at = record { known_signals = at.known_signals; known_points = at.known_points; detectors = at.detectors }
changing_clock now (commands.Close named) state at = record { known_signals = at.known_signals; known_points = at.known_points; detectors = at.detectors }
changing_clock now (commands.Open named) state at = record { known_signals = at.known_signals; known_points = at.known_points; detectors = at.detectors }

-- what a command does, by why it is refused
abbrev done_by : ℕ → Option Refusal → Command → StepSoFar → StepSoFar
done_by now cause command part = moved_at_once now cause command (record part { ixl = commanded_by now cause command part.ixl })

-- a command that isn't refused is obeyed, and then its move is given
pub command_obeyed : (now : ℕ) (command : Command) (old mid new : StateView) (box out : OutboxState) → AllAt now old → refusal now old.sited.table command old.ixl ≡ None → mid ≡ changing now command old →
    Goes now 2 (moved_at_once now None command) mid box new out → (key : Key) → Goes now 2 (given now old.sited.table key (Commands command)) old box new out
unfolding given
command_obeyed now command old mid new box out at none is goes key =
    let begun : Goes now 2 (moved_at_once now None command) (changing now command old) box new out = subst (λ (m : StateView). Goes now 2 (moved_at_once now None command) m box new out) is goes
    in record {
      leads = λ part is_ixl is_box. subst (λ (cause : Option Refusal). ((done_by now cause command part).ixl ≡ new.ixl) × ((done_by now cause command part).outbox ≡ out))
          (sym (ap (refusal now old.sited.table command) is_ixl ∙ none)) (begun.leads (record part { ixl = obeyed now command part.ixl }) (ap (obeyed now command) is_ixl) is_box);
      sited = begun.sited;
      clock = begun.clock;
      capacity = begun.capacity;
      few = begun.few;
    }

-- one that is refused changes nothing
pub command_refused : (now : ℕ) (command : Command) (cause : Refusal) (old : StateView) (box : OutboxState) → AllAt now old → refusal now old.sited.table command old.ixl ≡ Some cause →
    (key : Key) → Goes now 2 (given now old.sited.table key (Commands command)) old box old box
unfolding given moved_at_once
command_refused now command cause old box at some key =
    goes_nowhere now 2 (given now old.sited.table key (Commands command)) old box at (leads_at (given now old.sited.table key (Commands command)) old.ixl box old.ixl box (λ calls acted. rw some (refl, refl)))

-- what is no move gives none
pub not_moved : (now : ℕ) (command : Command) (old : StateView) (box : OutboxState) → AllAt now old → ((point : PointId) (side : Side) → command ≡ commands.Move point side → ⊥) →
    Goes now 2 (moved_at_once now None command) old box old box
unfolding moved_at_once
not_moved now command old box at other = goes_nowhere now 2 (moved_at_once now None command) old box at (λ part is_ixl is_box.
    subst (λ (p : StepSoFar). (p.ixl ≡ old.ixl) × (p.outbox ≡ box)) (sym (stays now command part other)) (is_ixl, is_box))
  where
    stays : (now : ℕ) (command : Command) (part : StepSoFar) → ((point : PointId) (side : Side) → command ≡ commands.Move point side → ⊥) → moved_at_once now None command part ≡ part
    stays now (commands.Request route) part other = refl
    stays now (commands.Cancel route) part other = refl
    stays now commands.Resume part other = refl
    stays now (commands.Release route) part other = refl
    stays now (commands.Move point side) part other = absurd (other point side refl)
    stays now (commands.Close named) part other = refl
    stays now (commands.Open named) part other = refl

pub request_there : (now : ℕ) (table : Table) (state : StateView) (route : RouteId) → refusal now table (commands.Request route) state.ixl ≡ None →
    MaySet table state.ixl route.0 (slice_get table.rows route.0) (slice_get state.ixl.routes route.0)
unfolding refusal
request_there now table state route none = request_passed now table state.ixl route.0 (slice_get table.rows route.0) (slice_get state.ixl.routes route.0) none

pub set_there : (now : ℕ) (state : StateView) (command : Command) (route : RouteId) → command ≡ commands.Request route → refusal now state.sited.table command state.ixl ≡ None →
    MaySet state.sited.table state.ixl route.0 (slice_get state.sited.table.rows route.0) (slice_get state.ixl.routes route.0)
set_there now state command route is none =
    request_there now state.sited.table state route (subst (λ (k : Command). refusal now state.sited.table k state.ixl ≡ None) is none)

pub is_free : (state : StateView) (number : ℕ) → MaySet state.sited.table state.ixl number (slice_get state.sited.table.rows number) (slice_get state.ixl.routes number) →
    AtRoute state number (λ row route. is_set route.phase ≡ false)
is_free state number may row route kept =
    subst (λ (r : RouteState). is_set r.phase ≡ false) (same_route may.route route (slice_get state.ixl.routes number) may.is_route kept.1) may.free

pub is_unblocked : (state : StateView) (number : ℕ) → MaySet state.sited.table state.ixl number (slice_get state.sited.table.rows number) (slice_get state.ixl.routes number) →
    AtRoute state number (λ row route. first_blocking number row 0 state.sited.table.rows state.ixl.routes ≡ None)
is_unblocked state number may row route kept =
    subst (λ (r : Row). first_blocking number r 0 state.sited.table.rows state.ixl.routes ≡ None) (same_row may.row row (slice_get state.sited.table.rows number) may.is_row kept.0) may.unblocked

-- a route that is cancelled is there
pub cancelled_there : (now : ℕ) (state : StateView) (command : Command) (route : RouteId) → command ≡ commands.Cancel route → refusal now state.sited.table command state.ixl ≡ None →
    route.0 < length state.ixl.routes
unfolding refusal
cancelled_there now state command route is none =
    let there = cancel_passed now state.ixl (slice_get state.ixl.routes route.0) (subst (λ (k : Command). refusal now state.sited.table k state.ixl ≡ None) is none)
    in get_inside state.ixl.routes route.0 there.0 there.1

-- so is one that is released
pub released_there : (now : ℕ) (state : StateView) (command : Command) (route : RouteId) → command ≡ commands.Release route → refusal now state.sited.table command state.ixl ≡ None →
    route.0 < length state.ixl.routes
unfolding refusal
released_there now state command route is none =
    let there = release_passed now state.ixl (slice_get state.ixl.routes route.0) (subst (λ (k : Command). refusal now state.sited.table k state.ixl ≡ None) is none)
    in get_inside state.ixl.routes route.0 there.0 there.1

-- and what is closed or opened
pub closed_there : (now : ℕ) (state : StateView) (command : Command) (named : Named) → command ≡ commands.Close named → refusal now state.sited.table command state.ixl ≡ None →
    has_named state.sited.table state.ixl named ≡ true
unfolding refusal
closed_there now state command named is none =
    thing_passed (has_named state.sited.table state.ixl named) _ _ (subst (λ (k : Command). refusal now state.sited.table k state.ixl ≡ None) is none)

pub opened_there : (now : ℕ) (state : StateView) (command : Command) (named : Named) → command ≡ commands.Open named → refusal now state.sited.table command state.ixl ≡ None →
    has_named state.sited.table state.ixl named ≡ true
unfolding refusal
opened_there now state command named is none =
    thing_passed (has_named state.sited.table state.ixl named) _ _ (subst (λ (k : Command). refusal now state.sited.table k state.ixl ≡ None) is none)
