-- What nodes show, drive and hold by their lives alone.
use Rattle.std.specs.Prelude.{◌≡◌, ℕ, Bool, true, false, List, [], ◌∷◌, length, Some, slice_get}
use Rattle.simulator_spec.specs.sci_telegram.declared.message.Position.{Position}
use Rattle.simulator_spec.specs.layout.declared.entries.Signal.{Signal as SignalEntry}
use Rattle.simulator_spec.specs.layout.Entries.{Site}
use Rattle.simulator_spec.specs.rasta_core.Ends.{reading_of}
use Rattle.simulator_spec.specs.object_host.Behaviour.{Behaviour}
use Rattle.simulator_spec.specs.object_host.Host.{HostState}
use Rattle.simulator_spec.specs.object_host.declared.input.Input.{Input}
use Rattle.simulator_spec.specs.signal_ctl.Lamp.{aspect_shown}
use Rattle.simulator_spec.specs.signal_ctl.Signal.{signal_behaviour}
use Rattle.simulator_spec.specs.point_ctl.Controlled.{point_behaviour}
use Rattle.simulator_spec.specs.point_ctl.Drive.{drives}
use Rattle.simulator_spec.specs.ixl_spec.Step as ixl
use Rattle.simulator_spec.specs.ixl_spec.Table.{Table}
use Rattle.simulator_spec.specs.simulator_event.declared.event.Event.{Event}
use Rattle.simulator_spec.specs.simulator_event.declared.event.Event.TheVariants as event
use Rattle.simulator_spec.specs.First.{Beginning, Outset, new_ixl, new_point, new_signal}
use Rattle.simulator_spec.specs.Nodes.{node_at}
use Rattle.simulator_spec.specs.State.{ClockedInterlockingState}
use Rattle.simulator_spec.specs.Interlocking.{frozen_by_restart, held_of}
use Rattle.simulator_spec.specs.simulator_event.declared.snapshot.Held.{Held}
use Rattle.simulator_spec.specs.simulator_event.declared.snapshot.Shown.{Shown}
use Rattle.simulator_spec.specs.simulator_event.declared.snapshot.Snapshot.{Snapshot}
use Rattle.simulator_node_laws.specs.Lives.{Life, first_life, host_after, is_interlocking, ixl_after, life_after, life_in, point_at, position_in, signal_at, the_interlocking}

-- a controller by its life
abbrev pub host_now : {Object Contacts : Type 0} → Behaviour Object → (Beginning → Contacts → HostState Object) → Life Contacts Input → HostState Object
host_now does new life = host_after does life.came (new life.begins life.sensed)

-- an interlocking by its life
abbrev pub interlocking_now : Site → Table → Life (Unit {0}) ixl.Input → ClockedInterlockingState
interlocking_now site table life = record { ixl = ixl_after site table life.came (new_ixl site table life.begins); clock = life.clock; connections = [] }

-- ---- the pairs that stand for the locks in the hold: what the interlocking before held when it ended

abbrev pub frozen_where : Bool → List Held → List Held → List Held
frozen_where true new old = new
frozen_where false new old = old

abbrev pub frozen_after : Site → Table → Event → Life (Unit {0}) ixl.Input → List Held → List Held
frozen_after site table (event.Restart node clock first) life frozen =
    frozen_where (is_interlocking (node_at site node.0)) (frozen_by_restart table (interlocking_now site table life) frozen) frozen
frozen_after site table _ life frozen = frozen

abbrev pub frozen_in : Site → Table → List Event → Life (Unit {0}) ixl.Input → List Held → List Held
frozen_in site table [] life frozen = frozen
frozen_in site table (first ∷ others) life frozen = frozen_in site table others (life_after site table the_interlocking first life) (frozen_after site table first life frozen)

-- ---- what is seen

abbrev pub AreAll : {Entry Seen : Type 0} → List Entry → List Seen → (ℕ → Entry → Seen) → Type 0
AreAll {Entry} entries seen says = (length seen ≡ length entries) × ((place : ℕ) (entry : Entry) → slice_get entries place ≡ Some entry → slice_get seen place ≡ Some (says place entry))

abbrev pub signal_life : Site → Table → List Event → ℕ → Life (Unit {0}) Input
signal_life site table events place = life_in site table (signal_at place) events (first_life tt)

abbrev pub point_life : Site → Table → Outset → List Event → ℕ → Life Position Input
point_life site table outset events place = life_in site table (point_at site place) events (first_life (position_in outset place))

abbrev pub interlocking_life : Site → Table → List Event → Life (Unit {0}) ixl.Input
interlocking_life site table events = life_in site table the_interlocking events (first_life tt)

abbrev pub signal_shows : Site → SignalEntry → Life (Unit {0}) Input → Shown
signal_shows site entry life = record { 0 = aspect_shown (host_now signal_behaviour (λ begins sensed. new_signal site begins entry) life).object.lamp (reading_of life.clock) }

-- A snapshot is what each node shows, drives or holds by its own life, and where the points stand.
pub record IsOfNodes (site : Site) (table : Table) (outset : Outset) (events : List Event) (seen : Snapshot) : Type 0 where
  pub shows : AreAll site.signals seen.shows.items (λ place entry. signal_shows site entry (signal_life site table events place))
  pub held : seen.held.items ≡ held_of table (interlocking_now site table (interlocking_life site table events)) (frozen_in site table events (first_life tt) [])
  pub position : AreAll site.points seen.position.items (λ place entry. record { 0 = (point_life site table outset events place).contacts })
  pub driven : AreAll site.points seen.driven.items (λ place entry. drives (reading_of (point_life site table outset events place).clock)
      (host_now point_behaviour (λ begins position. new_point site begins position entry) (point_life site table outset events place)).object)
