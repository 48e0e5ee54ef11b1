-- Every event is a list of moves that keep a world represented, and so is every list of events.
use Rattle.std.proofs.Common.{◌≡◌, ◌⊎◌, inl, inr, ℕ, zero, suc, List, [], ◌∷◌, ◌++◌, Some, None, refl, ap}
use Rattle.std.specs.Prelude.{◌≢◌}
use Rattle.simulator_link_laws.specs.layout.Entries.{Site}
use Rattle.simulator_link_laws.specs.layout.Once.{Once}
use Rattle.simulator_link_laws.specs.layout.Station.{IsStation}
use Rattle.simulator_link_laws.specs.ixl_spec.Table.{Table}
use Rattle.simulator_link_laws.specs.ixl_spec.declared.command.Command.{Command}
use Rattle.ixl_table.specs.Table.{IsTableOf}
use Rattle.simulator_link_laws.specs.simulator_event.declared.event.Event.{Event}
use Rattle.simulator_link_laws.specs.simulator_event.declared.event.Event.TheVariants as event
use Rattle.simulator_link_laws.specs.simulator_event.layout.declared.ids.NodeId.{NodeId}
use Rattle.simulator_machine.specs.Chains.{MovesTo}
use Rattle.simulator_machine.specs.Machine.{Machine, made_anew}
use Rattle.simulator_link_laws.specs.simulator_move_laws.Rows.{machine_table}
use Rattle.simulator_link_laws.specs.simulator_spec.Run.{CanHappen, after_all}
use Rattle.simulator_link_laws.specs.simulator_spec.Happens.{happens}
use Rattle.simulator_link_laws.specs.simulator_spec.Nodes.{Interlocking, node_at}
use Rattle.simulator_link_laws.specs.simulator_spec.Refusals.{refusal}
use Rattle.simulator_link_laws.specs.simulator_spec.State.{WorldState}
use Rattle.simulator_safety.specs.Represents.{Represents, RepresentsAfter}
use Rattle.simulator_safety.specs.Events.{IsOfControllers}

-- the laws that this stands on
pub record KeepingLaws : Type 0 where
  pub controllers : (site : Site) (table : Table) (happening : Event) (world : WorldState) (machine : Machine) → IsStation site → Once site → IsOfControllers happening
      → refusal site happening world ≡ None → Represents site table world machine → RepresentsAfter site table machine (happens site table happening world)
  pub request : (site : Site) (table : Table) (command : Command) (world : WorldState) (machine : Machine) → Once site → IsStation site → IsTableOf site table
      → Represents site table world machine → RepresentsAfter site table machine (happens site table (event.Request command) world)
  pub tick : (site : Site) (table : Table) (node : NodeId) (world : WorldState) (machine : Machine) → Once site → IsStation site → IsTableOf site table
      → Represents site table world machine → refusal site (event.Tick node) world ≡ None → node_at site node.0 ≡ Some Interlocking
      → RepresentsAfter site table machine (happens site table (event.Tick node) world)
  pub delivery : (site : Site) (table : Table) (node : NodeId) (bytes : List ℕ) (world : WorldState) (machine : Machine) → Once site → IsStation site
      → IsTableOf site table → Represents site table world machine → refusal site (event.Deliver node bytes) world ≡ None → node_at site node.0 ≡ Some Interlocking
      → RepresentsAfter site table machine (happens site table (event.Deliver node bytes) world)
  pub time : (site : Site) (table : Table) (elapsed : ℕ) (clocks : List ℕ) (world : WorldState) (machine : Machine) → Once site → IsStation site
      → Represents site table world machine → refusal site (event.Time elapsed clocks) world ≡ None → RepresentsAfter site table machine (happens site table (event.Time elapsed clocks) world)
  pub restart : (site : Site) (table : Table) (node : NodeId) (clock first : ℕ) (world : WorldState) (machine : Machine) → Once site → IsStation site → IsTableOf site table
      → Represents site table world machine → refusal site (event.Restart node clock first) world ≡ None → node_at site node.0 ≡ Some Interlocking
      → (after : RepresentsAfter site table machine (happens site table (event.Restart node clock first) world)) × (after.machine ≡ made_anew machine)

-- the station has the number 0
station_or_other : (node : ℕ) → (node ≡ 0) ⊎ (node ≢ 0)
station_or_other zero = inl refl
station_or_other (suc node) = inr (λ e. cc (e))

module _ (laws : KeepingLaws) (site : Site) (table : Table) (once : Once site) (station : IsStation site) (is : IsTableOf site table) where
  at_station : (node : NodeId) → node.0 ≡ 0 → node_at site node.0 ≡ Some Interlocking
  at_station node zero_is = ap (node_at site) zero_is

  module _ (world : WorldState) (machine : Machine) (represented : Represents site table world machine) where
    of_controllers : (happening : Event) → IsOfControllers happening → refusal site happening world ≡ None → RepresentsAfter site table machine (happens site table happening world)
    of_controllers happening at none = laws.controllers site table happening world machine station once at none represented

    ticked : (node : NodeId) → (node.0 ≡ 0) ⊎ (node.0 ≢ 0) → refusal site (event.Tick node) world ≡ None → RepresentsAfter site table machine (happens site table (event.Tick node) world)
    ticked node (inl at) none = laws.tick site table node world machine once station is represented none (at_station node at)
    ticked node (inr other) none = of_controllers (event.Tick node) other none

    delivered : (node : NodeId) (bytes : List ℕ) → (node.0 ≡ 0) ⊎ (node.0 ≢ 0) → refusal site (event.Deliver node bytes) world ≡ None
        → RepresentsAfter site table machine (happens site table (event.Deliver node bytes) world)
    delivered node bytes (inl at) none = laws.delivery site table node bytes world machine once station is represented none (at_station node at)
    delivered node bytes (inr other) none = of_controllers (event.Deliver node bytes) other none

    restarted : (node : NodeId) (clock first : ℕ) → (node.0 ≡ 0) ⊎ (node.0 ≢ 0) → refusal site (event.Restart node clock first) world ≡ None
        → RepresentsAfter site table machine (happens site table (event.Restart node clock first) world)
    restarted node clock first (inl at) none = (laws.restart site table node clock first world machine once station is represented none (at_station node at)).0
    restarted node clock first (inr other) none = of_controllers (event.Restart node clock first) other none

    pub kept : (happening : Event) → refusal site happening world ≡ None → RepresentsAfter site table machine (happens site table happening world)
    kept (event.Request command) none = laws.request site table command world machine once station is represented
    kept (event.Occupy section occupancy) none = of_controllers (event.Occupy section occupancy) tt none
    kept (event.Tick node) none = ticked node (station_or_other node.0) none
    kept (event.Time elapsed clocks) none = laws.time site table elapsed clocks world machine once station represented none
    kept (event.Deliver node bytes) none = delivered node bytes (station_or_other node.0) none
    kept (event.Lose bytes) none = of_controllers (event.Lose bytes) tt none
    kept (event.Reach point position) none = of_controllers (event.Reach point position) tt none
    kept (event.Restart node clock first) none = restarted node clock first (station_or_other node.0) none

-- ---- a list of events

-- the laws that this stands on
pub record MovingLaws (site : Site) (table : Table) : Type 0 where
  pub none : (machine : Machine) → MovesTo (machine_table table) machine machine
  pub compose : (old between new : Machine) → MovesTo (machine_table table) old between → MovesTo (machine_table table) between new → MovesTo (machine_table table) old new
  pub each : (happening : Event) (world : WorldState) (machine : Machine) → Represents site table world machine → refusal site happening world ≡ None
      → RepresentsAfter site table machine (happens site table happening world)

module _ (site : Site) (table : Table) (laws : MovingLaws site table) where
  pub all_kept : (events : List Event) (world : WorldState) (machine : Machine) → Represents site table world machine → CanHappen site table events world
      → RepresentsAfter site table machine (after_all site table events world)
  all_kept [] world machine represented can = record { machine = machine; moves = laws.none machine; represented = represented }
  all_kept (first ∷ others) world machine represented can =
      let one = laws.each first world machine represented can.0
      in let all = all_kept others (happens site table first world) one.machine one.represented can.1
      in record { machine = all.machine; moves = laws.compose machine one.machine all.machine one.moves all.moves; represented = all.represented }

-- ---- one more event

pub can_go_on : (site : Site) (table : Table) (events : List Event) (one : Event) (world : WorldState) → CanHappen site table events world
    → refusal site one (after_all site table events world) ≡ None → CanHappen site table (events ++ one ∷ []) world
can_go_on site table [] one world can none = (none, tt)
can_go_on site table (first ∷ others) one world can none = (can.0, can_go_on site table others one (happens site table first world) can.1 none)

pub goes_on : (site : Site) (table : Table) (events : List Event) (one : Event) (world : WorldState)
    → after_all site table (events ++ one ∷ []) world ≡ happens site table one (after_all site table events world)
goes_on site table [] one world = refl
goes_on site table (first ∷ others) one world = goes_on site table others one (happens site table first world)
