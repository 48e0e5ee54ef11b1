-- Every event of a list whose clocks are true keeps a world represented, and so does the list.
use Rattle.std.proofs.Common.{◌≡◌, ℕ, List, [], ◌∷◌, None}
use Rattle.simulator_link_laws.specs.layout.Entries.{Site}
use Rattle.simulator_link_laws.specs.rasta_core.EachLink.{AreTimely}
use Rattle.simulator_link_laws.specs.rasta_core.Links.{Links, run_links}
use Rattle.simulator_link_laws.specs.ixl_spec.Table.{Table}
use Rattle.simulator_link_laws.specs.simulator_event.declared.event.Event.{Event}
use Rattle.simulator_link_laws.specs.simulator_event.declared.event.Event.TheVariants as event
use Rattle.simulator_machine.specs.Chains.{MovesTo}
use Rattle.simulator_machine.specs.Machine.{Machine}
use Rattle.simulator_link_laws.specs.simulator_move_laws.Rows.{machine_table}
use Rattle.simulator_link_laws.specs.simulator_spec.Happens.{happens}
use Rattle.simulator_link_laws.specs.simulator_spec.Links.{names_at}
use Rattle.simulator_link_laws.specs.simulator_spec.Nodes.{links}
use Rattle.simulator_link_laws.specs.simulator_spec.Refusals.{refusal}
use Rattle.simulator_link_laws.specs.simulator_spec.Run.{after_all}
use Rattle.simulator_link_laws.specs.simulator_spec.State.{WorldState}
use Rattle.simulator_link_laws.specs.simulator_spec.TrueClocks.{MayAllCome, MayCome}
use Rattle.simulator_link_laws.specs.Events.{events_of}
use Rattle.simulator_link_laws.specs.TrueLinks.{AreTrueLinks, KeepLinks}
use Rattle.simulator_safety.specs.Represents.{Represents, RepresentsAfter}

-- the laws that this stands on
pub record TrueMoves (site : Site) (table : Table) : Type 0 where
  pub none : (machine : Machine) → MovesTo (machine_table table) machine machine
  pub compose : (old between new : Machine) → MovesTo (machine_table table) old between → MovesTo (machine_table table) between new → MovesTo (machine_table table) old new
  pub each : (happening : Event) (world : WorldState) (machine : Machine) → Represents site table world machine → refusal site happening world ≡ None
      → RepresentsAfter site table machine (happens site table happening world)
  pub time : (elapsed : ℕ) (clocks : List ℕ) (world : WorldState) (machine : Machine) (other : Links) → Represents site table world machine → MayCome site (event.Time elapsed clocks) world
      → AreTrueLinks site (happens site table (event.Time elapsed clocks) world) other → RepresentsAfter site table machine (happens site table (event.Time elapsed clocks) world)
  pub kept : (happening : Event) (others : List Event) (world : WorldState) (network : Links) → KeepLinks site table (happening ∷ others) world network → MayCome site happening world
      → KeepLinks site table others (happens site table happening world) (run_links (events_of site table happening world) network)
  pub timely : (todo : List Event) (world : WorldState) (network : Links) → KeepLinks site table todo world network → AreTimely (links site) (names_at site) network

module _ (site : Site) (table : Table) (laws : TrueMoves site table) where
  pub one_true : (happening : Event) (others : List Event) (world : WorldState) (machine : Machine) (network : Links) → Represents site table world machine
      → KeepLinks site table (happening ∷ others) world network → MayCome site happening world → RepresentsAfter site table machine (happens site table happening world)
  one_true (event.Time elapsed clocks) others world machine network represented keeps may =
      let after = laws.kept (event.Time elapsed clocks) others world network keeps may
      in laws.time elapsed clocks world machine (run_links (events_of site table (event.Time elapsed clocks) world) network) represented may
      (record { are = after.are; timely = laws.timely others (happens site table (event.Time elapsed clocks) world) (run_links (events_of site table (event.Time elapsed clocks) world) network) after; whole = after.whole })
  one_true (event.Request command) others world machine network represented keeps may = laws.each (event.Request command) world machine represented may
  one_true (event.Occupy section occupancy) others world machine network represented keeps may = laws.each (event.Occupy section occupancy) world machine represented may
  one_true (event.Tick node) others world machine network represented keeps may = laws.each (event.Tick node) world machine represented may
  one_true (event.Deliver node bytes) others world machine network represented keeps may = laws.each (event.Deliver node bytes) world machine represented may
  one_true (event.Lose bytes) others world machine network represented keeps may = laws.each (event.Lose bytes) world machine represented may
  one_true (event.Reach point position) others world machine network represented keeps may = laws.each (event.Reach point position) world machine represented may
  one_true (event.Restart node clock first) others world machine network represented keeps may = laws.each (event.Restart node clock first) world machine represented may

  pub all_true : (events : List Event) (world : WorldState) (machine : Machine) (network : Links) → Represents site table world machine → KeepLinks site table events world network
      → MayAllCome site table events world → RepresentsAfter site table machine (after_all site table events world)
  all_true [] world machine network represented keeps may = record { machine = machine; moves = laws.none machine; represented = represented }
  all_true (first ∷ others) world machine network represented keeps may =
      let one = one_true first others world machine network represented keeps may.0
      in let all = all_true others (happens site table first world) one.machine (run_links (events_of site table first world) network) one.represented (laws.kept first others world network keeps may.0) may.1
      in record { machine = all.machine; moves = laws.compose machine one.machine all.machine one.moves all.moves; represented = all.represented }
