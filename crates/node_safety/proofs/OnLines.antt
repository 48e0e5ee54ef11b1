-- What stands on the lines, or is ordered by programs, is what the nodes of a world show, or the equipment rests.
use Rattle.std.proofs.Common.{◌≡◌, ◌∙◌, ◌⊎◌, inl, inr, ◌<◌, ◌≤◌, ℕ, List, [], ◌∷◌, ◌++◌, length, get_or, Option, Some, None, slice_get, refl, sym, ap, append-nil, arith}
use Rattle.std.proofs.lemmas.Option.{same_Some, slice_get_cases, slice_get_within}
use Rattle.node_kinds.specs.simulator_spec.layout.Entries.{Site}
use Rattle.node_kinds.specs.simulator_spec.layout.declared.entries.Point.{Point as PointEntry}
use Rattle.node_kinds.specs.simulator_spec.layout.declared.entries.Signal.{Signal as SignalEntry}
use Rattle.node_kinds.specs.simulator_spec.layout.declared.ids.SignalId.{SignalId}
use Rattle.node_kinds.specs.simulator_spec.sci_telegram.declared.message.Aspect.{Aspect}
use Rattle.node_kinds.specs.simulator_spec.sci_telegram.declared.message.Aspect.TheVariants as aspects
use Rattle.node_kinds.specs.simulator_spec.sci_telegram.declared.message.Position.{Position}
use Rattle.node_kinds.specs.simulator_spec.sci_telegram.declared.message.Side.{Side}
use Rattle.node_kinds.specs.simulator_spec.rasta_core.Ends.{reading_of}
use Rattle.node_kinds.specs.simulator_spec.object_host.Host.{HostState}
use Rattle.node_kinds.specs.simulator_spec.object_host.declared.input.Input.{Input}
use Rattle.node_kinds.specs.simulator_spec.signal_ctl.Lamp.{Lamp, aspect_shown}
use Rattle.node_kinds.specs.simulator_spec.signal_ctl.Signal.{SignalState, signal_behaviour}
use Rattle.node_kinds.specs.simulator_spec.point_ctl.Controlled.{point_behaviour}
use Rattle.node_kinds.specs.simulator_spec.point_ctl.Drive.{PointState, drive_of, drives, driven_by as drive_at}
use Rattle.node_kinds.specs.simulator_spec.point_ctl.declared.drive.Drive.{Drive}
use Rattle.node_kinds.specs.simulator_spec.ixl_spec.Table.{Table}
use Rattle.node_kinds.specs.simulator_spec.simulator_event.declared.event.Event.{Event}
use Rattle.node_kinds.specs.simulator_spec.First.{Outset, new_point, new_signal}
use Rattle.node_kinds.specs.simulator_spec.simulator_event.Safe.{Shows}
use Rattle.node_kinds.specs.simulator_spec.simulator_event.declared.snapshot.Shown.{Shown}
use Rattle.node_kinds.specs.simulator_spec.simulator_event.declared.snapshot.Snapshot.{Snapshot}
use Rattle.node_kinds.specs.node_drive.Kinds.{Kind}
use Rattle.node_kinds.specs.node_drive.Lives.{state_after}
use Rattle.node_kinds.specs.node_drive.node_lines.Orders.{aspect_ordered, side_ordered}
use Rattle.node_kinds.specs.Controllers.{Controller, drive_order, lamp_order, point_kind, signal_kind}
use Rattle.node_kinds.specs.Processes.{point_made, signal_made}
use Rattle.simulator_node_laws.specs.Lives.{Life, host_after}
use Rattle.simulator_node_laws.specs.Shown.{AreAll, IsOfNodes, host_now, point_life, signal_life}
use Rattle.node_safety.specs.Orders.{IsOnLines}
use Rattle.node_safety.specs.Runs.{AreNodes, IsController, by_record, by_calls, IsNode, of_record, not_yet, IsOfCalls, IsOfRecord, is_contact, line_of, order_on, point_order, signal_order, while_up}
use Rattle.node_safety.specs.Processes.{driven_by, shown_by}
use Rattle.node_safety.proofs.ByCalls.{so_far_is}
use Rattle.node_safety.proofs.Rests.{Rests}
use Rattle.node_safety.proofs.Seen.{HostLives, LinesDrive, drive_line}

-- ---- lists that are seen of the same entries

none_some : {A : Type 0} (one : A) → None ≡ Some one → ⊥
none_some one e = cc (e)

-- an entry stands where something is seen
entry_at : {Entry Seen : Type 0} (entries : List Entry) (seen : List Seen) (place : ℕ) (one : Seen) → length seen ≡ length entries → slice_get seen place ≡ Some one → (entry : Entry) × (slice_get entries place ≡ Some entry)
entry_at {Entry} entries seen place one long there = by_case (slice_get_cases entries place).1 where
  within : place < length seen
  within = slice_get_within seen place one there

  by_case : ((entry : Entry) × (place < length entries) × (slice_get entries place ≡ Some entry) × (get_or entries place entry ≡ entry)) ⊎ ((length entries ≤ place) × (slice_get entries place ≡ None)) → (entry : Entry) × (slice_get entries place ≡ Some entry)
  by_case (inl found) = (found.0, found.2)
  by_case (inr past) = absurd (omega (arith, within, long, past))

nothing_at : {Entry Seen : Type 0} (entries : List Entry) (seen : List Seen) (place : ℕ) → length seen ≡ length entries → slice_get entries place ≡ None → slice_get seen place ≡ None
nothing_at {Entry} {Seen} entries seen place long none = by_at (slice_get seen place) refl where
  by_at : (at : Option Seen) → slice_get seen place ≡ at → slice_get seen place ≡ None
  by_at None is = is
  by_at (Some one) is =
      let entry = entry_at entries seen place one long is in
      absurd (none_some entry.0 (sym none ∙ entry.1))

-- two lists that say the same of each entry are the same at each place
same_at : {Entry Seen : Type 0} (entries : List Entry) (seen other : List Seen) (says : ℕ → Entry → Seen) → AreAll entries seen says → AreAll entries other says → (place : ℕ) → slice_get seen place ≡ slice_get other place
same_at {Entry} entries seen other says all those place = by_at (slice_get entries place) refl where
  by_at : (at : Option Entry) → slice_get entries place ≡ at → slice_get seen place ≡ slice_get other place
  by_at None none = nothing_at entries seen place all.0 none ∙ sym (nothing_at entries other place those.0 none)
  by_at (Some entry) is = all.1 place entry is ∙ sym (those.1 place entry is)

-- ---- the host of a node by its record

module _ {Object Contacts : Type 0} (kind : Kind (Controller Object Contacts) Input) (after : List (ℕ × Input) → HostState Object → HostState Object) (lives : HostLives kind after)
    (node : Controller Object Contacts) {Sensed : Type 0} (life : Life Sensed Input) (is : IsOfRecord kind is_contact node life) where
  pub host_is : is.while_down ≡ [] → (state_after kind is.so_far is.process.first.state).host ≡ after life.came node.host
  host_is up =
      lives is.so_far is.process.first.state
      ∙ ap (λ (c : Controller Object Contacts). after is.so_far c.host) is.recorded.first_is
      ∙ ap (λ (came : List (ℕ × Input)). after came node.host) (sym (is.life_is ∙ ap (λ l. is.so_far ++ l) up ∙ append-nil is.so_far))

-- ---- lamps and motors

module _ (signal_lives : HostLives signal_kind (host_after signal_behaviour)) (lamps : (lamp : Lamp) (now : ℕ) → aspect_ordered (lamp_order lamp) now ≡ aspect_shown lamp now)
    (site : Site) (table : Table) (events : List Event) (place : ℕ) (entry : SignalEntry) where
  abbrev lit : Life (Unit {0}) Input
  lit = signal_life site table events place

  abbrev signal_new : Controller SignalState (Unit {0})
  signal_new = signal_made site lit.begins.first entry lit.sensed lit.begins.clock

  abbrev shows : ℕ → Aspect
  shows now = aspect_shown (host_now signal_behaviour (λ begins sensed. new_signal site begins entry) lit).object.lamp now

  lamp_of_record : (is : IsOfRecord signal_kind is_contact signal_new lit) (now : ℕ) (down : List (ℕ × Input)) → is.while_down ≡ down
      → (shown_by (while_up down (signal_kind.order (state_after signal_kind is.so_far is.process.first.state))) now ≡ aspects.Stop)
      ⊎ (shown_by (while_up down (signal_kind.order (state_after signal_kind is.so_far is.process.first.state))) now ≡ shows now)
  lamp_of_record is now [] up = inr (
      lamps (state_after signal_kind is.so_far is.process.first.state).host.object.lamp now
      ∙ ap (λ (h : HostState SignalState). aspect_shown h.object.lamp now) (host_is signal_kind (host_after signal_behaviour) signal_lives signal_new lit is up))
  lamp_of_record is now (one ∷ others) down = inl refl

  lamp_of_process : (is : IsNode signal_kind is_contact signal_new lit) (now : ℕ) → (shown_by (line_of is) now ≡ aspects.Stop) ⊎ (shown_by (line_of is) now ≡ shows now)
  lamp_of_process (of_record is) now = lamp_of_record is now is.while_down refl
  lamp_of_process (not_yet begins contacts) now = inl refl

  lamp_of_calls : (is : IsOfCalls signal_behaviour signal_new.host lit.begins.clock lit.came) (now : ℕ) (down : List (ℕ × Input)) → is.while_down ≡ down
      → (shown_by (while_up down (signal_order (host_after signal_behaviour is.so_far signal_new.host).object)) now ≡ aspects.Stop)
      ⊎ (shown_by (while_up down (signal_order (host_after signal_behaviour is.so_far signal_new.host).object)) now ≡ shows now)
  lamp_of_calls is now [] up = inr (
      lamps (host_after signal_behaviour is.so_far signal_new.host).object.lamp now
      ∙ ap (λ (came : List (ℕ × Input)). aspect_shown (host_after signal_behaviour came signal_new.host).object.lamp now) (so_far_is is up))
  lamp_of_calls is now (one ∷ others) down = inl refl

  pub lamp_is : (is : IsController signal_kind signal_behaviour signal_new lit) (now : ℕ) → (shown_by (order_on signal_order is) now ≡ aspects.Stop) ⊎ (shown_by (order_on signal_order is) now ≡ shows now)
  lamp_is (by_record is) now = lamp_of_process is now
  lamp_is (by_calls is) now = lamp_of_calls is now is.while_down refl

module _ (point_lives : HostLives point_kind (host_after point_behaviour)) (motors : (drive : Option Drive) (now : ℕ) → side_ordered (drive_order drive) now ≡ drive_at drive now) (lines : LinesDrive)
    (site : Site) (table : Table) (outset : Outset) (events : List Event) (place : ℕ) (entry : PointEntry) where
  abbrev moved : Life Position Input
  moved = point_life site table outset events place

  abbrev point_new : Controller PointState Position
  point_new = point_made site moved.begins.first entry moved.sensed moved.begins.clock

  abbrev drives_to : ℕ → Option Side
  drives_to now = drives now (host_now point_behaviour (λ begins position. new_point site begins position entry) moved).object

  motor_of_record : (is : IsOfRecord point_kind is_contact point_new moved) (now : ℕ) (down : List (ℕ × Input)) → is.while_down ≡ down
      → (driven_by (while_up down (point_kind.order (state_after point_kind is.so_far is.process.first.state))) now ≡ None)
      ⊎ (driven_by (while_up down (point_kind.order (state_after point_kind is.so_far is.process.first.state))) now ≡ drives_to now)
  motor_of_record is now [] up = inr (
      motors (drive_of (state_after point_kind is.so_far is.process.first.state).host.object) now
      ∙ sym (drive_line lines (state_after point_kind is.so_far is.process.first.state).host now)
      ∙ ap (λ (h : HostState PointState). drives now h.object) (host_is point_kind (host_after point_behaviour) point_lives point_new moved is up))
  motor_of_record is now (one ∷ others) down = inl refl

  motor_of_process : (is : IsNode point_kind is_contact point_new moved) (now : ℕ) → (driven_by (line_of is) now ≡ None) ⊎ (driven_by (line_of is) now ≡ drives_to now)
  motor_of_process (of_record is) now = motor_of_record is now is.while_down refl
  motor_of_process (not_yet begins contacts) now = inl refl

  motor_of_calls : (is : IsOfCalls point_behaviour point_new.host moved.begins.clock moved.came) (now : ℕ) (down : List (ℕ × Input)) → is.while_down ≡ down
      → (driven_by (while_up down (point_order (host_after point_behaviour is.so_far point_new.host).object)) now ≡ None)
      ⊎ (driven_by (while_up down (point_order (host_after point_behaviour is.so_far point_new.host).object)) now ≡ drives_to now)
  motor_of_calls is now [] up = inr (
      motors (drive_of (host_after point_behaviour is.so_far point_new.host).object) now
      ∙ sym (drive_line lines (host_after point_behaviour is.so_far point_new.host) now)
      ∙ ap (λ (came : List (ℕ × Input)). drives now (host_after point_behaviour came point_new.host).object) (so_far_is is up))
  motor_of_calls is now (one ∷ others) down = inl refl

  pub motor_is : (is : IsController point_kind point_behaviour point_new moved) (now : ℕ) → (driven_by (order_on point_order is) now ≡ None) ⊎ (driven_by (order_on point_order is) now ≡ drives_to now)
  motor_is (by_record is) now = motor_of_process is now
  motor_is (by_calls is) now = motor_of_calls is now is.while_down refl

-- ---- all of it

abbrev as_shown : Aspect → Option Shown
as_shown aspect = Some (record { 0 = aspect })

-- what rests, or is as a line says that rests or is as it should be
either_way : {A : Type 0} (one rest line right : A) → (one ≡ rest) ⊎ (one ≡ line) → (line ≡ rest) ⊎ (line ≡ right) → (one ≡ rest) ⊎ (one ≡ right)
either_way one rest line right (inl rests) says = inl rests
either_way one rest line right (inr is) (inl rests) = inl (is ∙ rests)
either_way one rest line right (inr is) (inr same) = inr (is ∙ same)

module _ (signal_lives : HostLives signal_kind (host_after signal_behaviour)) (point_lives : HostLives point_kind (host_after point_behaviour))
    (lamps : (lamp : Lamp) (now : ℕ) → aspect_ordered (lamp_order lamp) now ≡ aspect_shown lamp now) (motors : (drive : Option Drive) (now : ℕ) → side_ordered (drive_order drive) now ≡ drive_at drive now) (lines : LinesDrive)
    (site : Site) (table : Table) (outset : Outset) (events : List Event) (are : AreNodes site table outset events) (seen : Snapshot) (on : IsOnLines site table outset events are seen)
    (shot : Snapshot) (of_nodes : IsOfNodes site table outset events shot) where
  shown_at : (signal : SignalId) (aspect : Aspect) → Shows seen signal aspect → (aspect ≡ aspects.Stop) ⊎ Shows shot signal aspect
  shown_at signal aspect is =
      let at = entry_at site.signals seen.shows.items signal.0 (record { 0 = aspect }) on.shows.0 is in
      let now = reading_of (signal_life site table events signal.0).clock in
      let there = on.shows.1 signal.0 at.0 at.1 in
      let same : there.0 ≡ record { 0 = aspect } = same_Some there.0 (record { 0 = aspect }) (sym there.1 ∙ is) in
      by_either aspect now (ap (λ (s : Shown). s.0) same) at.0 at.1
      (either_way there.0.0 aspects.Stop (shown_by (order_on signal_order (are.signal signal.0 at.0 at.1)) now) (shows signal_lives lamps site table events signal.0 at.0 now) there.2
      (lamp_is signal_lives lamps site table events signal.0 at.0 (are.signal signal.0 at.0 at.1) now))
    where
      by_either : {one : Aspect} (aspect : Aspect) (now : ℕ) → one ≡ aspect → (entry : SignalEntry) → slice_get site.signals signal.0 ≡ Some entry
          → (one ≡ aspects.Stop) ⊎ (one ≡ shows signal_lives lamps site table events signal.0 entry (reading_of (signal_life site table events signal.0).clock)) → (aspect ≡ aspects.Stop) ⊎ Shows shot signal aspect
      by_either aspect now same entry there (inl stop) = inl (sym same ∙ stop)
      by_either aspect now same entry there (inr is) = inr (of_nodes.shows.1 signal.0 entry there ∙ ap as_shown (sym is ∙ same))

  driven_to : (place : ℕ) (side : Option Side) → slice_get shot.driven.items place ≡ Some side → (slice_get seen.driven.items place ≡ Some None) ⊎ (slice_get seen.driven.items place ≡ Some side)
  driven_to place side is =
      let at = entry_at site.points shot.driven.items place side of_nodes.driven.0 is in
      let now = reading_of (point_life site table outset events place).clock in
      let there = on.driven.1 place at.0 at.1 in
      by_either (same_Some _ side (sym (of_nodes.driven.1 place at.0 at.1) ∙ is)) there.1
      (either_way there.0 None (driven_by (order_on point_order (are.point place at.0 at.1)) now) (drives_to point_lives motors lines site table outset events place at.0 now) there.2
      (motor_is point_lives motors lines site table outset events place at.0 (are.point place at.0 at.1) now))
    where
      by_either : {one right : Option Side} → right ≡ side → slice_get seen.driven.items place ≡ Some one → (one ≡ None) ⊎ (one ≡ right) → (slice_get seen.driven.items place ≡ Some None) ⊎ (slice_get seen.driven.items place ≡ Some side)
      by_either same there (inl none) = inl (there ∙ ap Some none)
      by_either same there (inr is) = inr (there ∙ ap Some (is ∙ same))

  pub lines_rest : Rests shot seen
  lines_rest = record {
    signals = on.shows.0 ∙ sym of_nodes.shows.0;
    drives = on.driven.0 ∙ sym of_nodes.driven.0;
    positions = on.position.0 ∙ sym of_nodes.position.0;
    shows = shown_at;
    driven = driven_to;
    position = same_at site.points seen.position.items shot.position.items (λ place entry. record { 0 = (point_life site table outset events place).contacts }) on.position of_nodes.position;
    held = on.held ∙ sym of_nodes.held;
  }
