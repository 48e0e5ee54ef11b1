-- What every step of a controller keeps, and every beginning, is so of it after every list of events.
use Rattle.std.proofs.Common.{ℕ, Bool, true, false, List, [], ◌∷◌, Option, Some, None, sym, subst}
use Rattle.simulator_spec.specs.layout.Entries.{Site}
use Rattle.simulator_spec.specs.rasta_core.Ends.{reading_of}
use Rattle.simulator_spec.specs.object_host.Behaviour.{Behaviour}
use Rattle.simulator_spec.specs.object_host.Host.{HostState}
use Rattle.simulator_spec.specs.object_host.Step.{host_step}
use Rattle.simulator_spec.specs.object_host.declared.input.Input.{Input}
use Rattle.simulator_spec.specs.ixl_spec.Table.{Table}
use Rattle.simulator_spec.specs.simulator_event.declared.event.Event.{Event}
use Rattle.simulator_spec.specs.simulator_event.declared.event.Event.TheVariants as event
use Rattle.simulator_spec.specs.First.{Beginning}
use Rattle.simulator_spec.specs.Nodes.{node_at}
use Rattle.simulator_node_laws.specs.Lives.{Life, Who, anew_where, hears, host_after, life_after, life_in, turned}
use Rattle.simulator_node_laws.specs.Shown.{host_now}
use Rattle.simulator_node_laws.specs.Told.{told}
use Rattle.simulator_node_laws.proofs.Controllers.{one_more}

module _ {Object Contacts : Type 0} (does : Behaviour Object) (new : Beginning → Contacts → HostState Object) (who : Who Contacts Input) (Holds : HostState Object → Contacts → Type 0)
    (begins_so : (begins : Beginning) (host : HostState Object) (contacts : Contacts) → Holds host contacts → Holds (new begins contacts) contacts)
    (steps_so : (now : ℕ) (input : Input) (host : HostState Object) (contacts : Contacts) → Holds host contacts → Holds (host_step does now input host).host (who.contact input contacts)) where
  abbrev Kept : Life Contacts Input → Type 0
  Kept life = Holds (host_now does new life) life.contacts

  hears_so : (heard : Option Input) (life : Life Contacts Input) → Kept life → Kept (hears who.contact heard life)
  hears_so None life kept = kept
  hears_so (Some input) life kept = subst (λ h. Holds h (who.contact input life.contacts)) (sym (one_more does life.came (reading_of life.clock, input) (new life.begins life.sensed)))
      (steps_so (reading_of life.clock) input (host_now does new life) life.contacts kept)

  anew_so : (is : Bool) (begins : Beginning) (life : Life Contacts Input) → Kept life → Kept (anew_where is begins life)
  unfolding host_after
  anew_so true begins life kept = begins_so begins (host_now does new life) life.contacts kept
  anew_so false begins life kept = kept

  turned_so : (site : Site) (happening : Event) (life : Life Contacts Input) → Kept life → Kept (turned site who happening life)
  turned_so site (event.Request command) life kept = kept
  turned_so site (event.Occupy section occupancy) life kept = kept
  turned_so site (event.Tick node) life kept = kept
  turned_so site (event.Time elapsed clocks) life kept = kept
  turned_so site (event.Deliver node bytes) life kept = kept
  turned_so site (event.Lose bytes) life kept = kept
  turned_so site (event.Reach point position) life kept = kept
  turned_so site (event.Restart node clock first) life kept = anew_so (who.is (node_at site node.0)) (record { clock = clock; first = first }) life kept

  pub kept_in : (site : Site) (table : Table) (events : List Event) (life : Life Contacts Input) → Kept life → Kept (life_in site table who events life)
  kept_in site table [] life kept = kept
  kept_in site table (first ∷ others) life kept =
      kept_in site table others (life_after site table who first life) (hears_so (who.hearing (told site table first)) (turned site who first life) (turned_so site first life kept))
