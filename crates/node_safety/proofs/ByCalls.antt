-- Nodes in a program's own loop are those of a world, and their equipment follows them.
use Rattle.std.proofs.Common.{◌≡◌, ◌∙◌, ℕ, List, [], ◌∷◌, ◌++◌, Option, Some, refl, sym, ap, subst, append-nil}
use Rattle.node_kinds.specs.simulator_spec.First.{new_ixl}
use Rattle.node_kinds.specs.simulator_spec.ixl_spec.Step as ixl
use Rattle.node_kinds.specs.simulator_spec.ixl_spec.Table.{Table}
use Rattle.node_kinds.specs.simulator_spec.layout.Entries.{Site}
use Rattle.node_kinds.specs.simulator_spec.object_host.Behaviour.{Behaviour}
use Rattle.node_kinds.specs.simulator_spec.object_host.Host.{HostState}
use Rattle.node_kinds.specs.simulator_spec.object_host.Step.{host_step}
use Rattle.node_kinds.specs.simulator_spec.object_host.declared.input.Input.{Input}
use Rattle.node_kinds.specs.simulator_spec.point_ctl.Controlled.{point_behaviour}
use Rattle.node_kinds.specs.simulator_spec.point_ctl.Drive.{PointState, drive_of, drives, driven_by as drive_at}
use Rattle.node_kinds.specs.simulator_spec.point_ctl.declared.drive.Drive.{Drive}
use Rattle.node_kinds.specs.simulator_spec.signal_ctl.Lamp.{Lamp, aspect_shown}
use Rattle.node_kinds.specs.simulator_spec.signal_ctl.Signal.{SignalState, signal_behaviour}
use Rattle.node_kinds.specs.node_drive.node_lines.Orders.{aspect_ordered, side_ordered}
use Rattle.node_kinds.specs.node_drive.node_lines.declared.order.Order.{Order}
use Rattle.node_kinds.specs.Controllers.{drive_order, lamp_order}
use Rattle.embedded_host.specs.Calls.{Call, Takes, after_calls, leaves_by}
use Rattle.embedded_host.specs.Embedded.{EmbeddedState, started}
use Rattle.embedded_host.specs.Inputs.{host_after as host_by, inputs_by}
use Rattle.embedded_host.specs.Leaving.{IsHandedOutBy}
use Rattle.embedded_host.specs.Orders.{followed_after, up_to_done}
use Rattle.embedded_ixl.specs.Calls as ixl_loop
use Rattle.embedded_ixl.specs.Embedded.{EmbeddedIxlState, new_state, started as ixl_started}
use Rattle.embedded_ixl.specs.Inputs.{inputs_by as ixl_inputs_by, state_after as ixl_state_after}
use Rattle.embedded_ixl.specs.ixl_state.State.{StateView}
use Rattle.simulator_node_laws.specs.Lives.{Life, host_after, ixl_after}
use Rattle.simulator_node_laws.specs.Shown.{interlocking_now}
use Rattle.node_safety.specs.Processes.{driven_by, shown_by}
use Rattle.node_safety.specs.Runs.{IsOfCalls, IsOfIxlCalls, IsWhole, order_by, point_order, signal_order, while_up}
use Rattle.node_safety.proofs.Seen.{LinesDrive, drive_line}

-- the laws of a loop, for a behaviour
abbrev pub ComesOfInputs : {Object : Type 0} → Behaviour Object → Type 0
ComesOfInputs {Object} does = (calls : List Call) (it : EmbeddedState Object) → (after_calls does calls it).hosted.host ≡ host_by does (inputs_by does calls it) it.hosted.host

abbrev pub FollowsWhatCounts : {Object : Type 0} → Behaviour Object → Type 0
FollowsWhatCounts {Object} does = (calls : List Call) (it : EmbeddedState Object) → followed_after does calls it it.hosted.host.object ≡ (host_by does (inputs_by does (up_to_done calls) it) it.hosted.host).object

abbrev pub LeavingCounts : {Object : Type 0} → Behaviour Object → Type 0
LeavingCounts {Object} does = (host : HostState Object) (begun : ℕ) (calls later : List Call) (now : ℕ) (datagram : List ℕ) → leaves_by (Takes now) (after_calls does calls (started host begun)) ≡ Some datagram
    → IsHandedOutBy does (inputs_by does (up_to_done (calls ++ later)) (started host begun)) host now datagram

-- ---- controllers

pub hosts_alike : {Object : Type 0} (does : Behaviour Object) (inputs : List (ℕ × Input)) (host : HostState Object) → host_by does inputs host ≡ host_after does inputs host
unfolding host_by host_after
hosts_alike does [] host = refl
hosts_alike does (one ∷ others) host = hosts_alike does others (host_step does one.0 one.1 host).host

-- what came of one that is up
pub so_far_is : {Object : Type 0} {does : Behaviour Object} {host : HostState Object} {begun : ℕ} {came : List (ℕ × Input)} (is : IsOfCalls does host begun came) → is.while_down ≡ [] → is.so_far ≡ came
so_far_is is up = sym (is.came_is ∙ ap (λ (l : List (ℕ × Input)). is.so_far ++ l) up ∙ append-nil is.so_far)

module _ {Object : Type 0} (does : Behaviour Object) (host : HostState Object) (begun : ℕ) (came : List (ℕ × Input)) (is : IsOfCalls does host begun came) (whole : IsWhole is) where
  all_came : inputs_by does (up_to_done is.calls) (started host begun) ≡ came
  all_came = is.calls_are ∙ ap (λ (l : List (ℕ × Input)). is.so_far ++ l) whole.none_later ∙ append-nil is.so_far ∙ so_far_is is whole.is_up

  came_to_it : host_by does (inputs_by does (up_to_done is.calls) (started host begun)) host ≡ host_after does came host
  came_to_it = hosts_alike does (inputs_by does (up_to_done is.calls) (started host begun)) host ∙ ap (λ (l : List (ℕ × Input)). host_after does l host) all_came

  pub node_is : ComesOfInputs does → (after_calls does (up_to_done is.calls) (started host begun)).hosted.host ≡ host_after does came host
  node_is law = law (up_to_done is.calls) (started host begun) ∙ came_to_it

  pub followed_is : FollowsWhatCounts does → followed_after does is.calls (started host begun) host.object ≡ (host_after does came host).object
  followed_is law = law is.calls (started host begun) ∙ ap (λ (h : HostState Object). h.object) came_to_it

  pub order_is : (order : Object → Option Order) → order_by order is ≡ order (host_after does came host).object
  order_is order =
      ap (λ (down : List (ℕ × Input)). while_up down (order (host_after does is.so_far host).object)) whole.is_up
      ∙ ap (λ (l : List (ℕ × Input)). order (host_after does l host).object) (so_far_is is whole.is_up)

  pub sent_is : LeavingCounts does → (before behind : List Call) (now : ℕ) (datagram : List ℕ) → is.calls ≡ before ++ Takes now ∷ behind → leaves_by (Takes now) (after_calls does before (started host begun)) ≡ Some datagram
      → IsHandedOutBy does came host now datagram
  sent_is law before behind now datagram are left =
      subst (λ (inputs : List (ℕ × Input)). IsHandedOutBy does inputs host now datagram) (ap (λ (l : List Call). inputs_by does (up_to_done l) (started host begun)) (sym are) ∙ all_came)
      (law host begun before (Takes now ∷ behind) now datagram left)

-- ---- lamps and motors

pub lamp_follows : FollowsWhatCounts signal_behaviour → ((lamp : Lamp) (now : ℕ) → aspect_ordered (lamp_order lamp) now ≡ aspect_shown lamp now)
    → (host : HostState SignalState) (begun : ℕ) (came : List (ℕ × Input)) (is : IsOfCalls signal_behaviour host begun came) → IsWhole is → (now : ℕ)
    → aspect_shown (followed_after signal_behaviour is.calls (started host begun) host.object).lamp now ≡ shown_by (order_by signal_order is) now
lamp_follows law lamps host begun came is whole now =
    ap (λ (signal : SignalState). aspect_shown signal.lamp now) (followed_is signal_behaviour host begun came is whole law)
    ∙ sym (lamps (host_after signal_behaviour came host).object.lamp now)
    ∙ sym (ap (λ (order : Option Order). shown_by order now) (order_is signal_behaviour host begun came is whole signal_order))

pub motor_follows : FollowsWhatCounts point_behaviour → ((drive : Option Drive) (now : ℕ) → side_ordered (drive_order drive) now ≡ drive_at drive now) → LinesDrive
    → (host : HostState PointState) (begun : ℕ) (came : List (ℕ × Input)) (is : IsOfCalls point_behaviour host begun came) → IsWhole is → (now : ℕ)
    → drives now (followed_after point_behaviour is.calls (started host begun) host.object) ≡ driven_by (order_by point_order is) now
motor_follows law motors lines host begun came is whole now =
    ap (λ (point : PointState). drives now point) (followed_is point_behaviour host begun came is whole law)
    ∙ drive_line lines (host_after point_behaviour came host) now
    ∙ sym (motors (drive_of (host_after point_behaviour came host).object) now)
    ∙ sym (ap (λ (order : Option Order). driven_by order now) (order_is point_behaviour host begun came is whole point_order))

-- ---- the interlocking

abbrev pub IxlComesOfInputs : Type 0
IxlComesOfInputs = (calls : List ixl_loop.Call) (it : EmbeddedIxlState) → (ixl_loop.after_calls calls it).interlocking.state ≡ ixl_state_after (ixl_inputs_by calls it) it.interlocking.state

pub ixl_alike : (inputs : List (ℕ × ixl.Input)) (state : StateView) → (ixl_state_after inputs state).ixl ≡ ixl_after state.sited.site state.sited.table inputs state.ixl
unfolding ixl_state_after ixl_after
ixl_alike [] state = refl
ixl_alike (one ∷ others) state = ixl_alike others (record state { ixl = (ixl_state_after (one ∷ []) state).ixl })

pub station_is : IxlComesOfInputs → (site : Site) (table : Table) (life : Life (Unit {0}) ixl.Input) (is : IsOfIxlCalls site table life.begins.first life.begins.clock life.came) → is.later ≡ []
    → (ixl_loop.after_calls is.calls (ixl_started (new_state (record { site = site; table = table }) life.begins.first life.begins.clock) life.begins.clock)).interlocking.state.ixl ≡ (interlocking_now site table life).ixl
station_is law site table life is none =
    let new : StateView = new_state (record { site = site; table = table }) life.begins.first life.begins.clock in
    ap (λ (state : StateView). state.ixl) (law is.calls (ixl_started new life.begins.clock))
    ∙ ixl_alike (ixl_inputs_by is.calls (ixl_started new life.begins.clock)) new
    ∙ ap (λ (l : List (ℕ × ixl.Input)). ixl_after site table l (new_ixl site table life.begins)) (is.calls_are ∙ ap (λ (l : List (ℕ × ixl.Input)). life.came ++ l) none ∙ append-nil life.came)
