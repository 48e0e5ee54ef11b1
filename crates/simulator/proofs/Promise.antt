-- A world to which events have led: every event leads on, and whatever is seen of it is safe.
use Rattle.std.proofs.Common.{◌≡◌, None, Result, Ok, Err, OnOk, OnErr, sym, subst}
use Rattle.ixl_state.specs.layout.Entries.{Site}
use Rattle.ixl_state.specs.ixl_spec.Table.{Table}
use Rattle.ixl_state.specs.ixl_table.Table.{SitedTable}
use Rattle.simulator_spec.specs.simulator_event.declared.event.Event.{Event}
use Rattle.simulator_spec.specs.simulator_event.refused.Refused.{Refused}
use Rattle.simulator_spec.specs.simulator_event.declared.reply.Reply.{Reply}
use Rattle.simulator_safety.specs.Reached.{IsReached}
use Rattle.simulator_spec.specs.Happens.{happens}
use Rattle.simulator_spec.specs.Refusals.{refusal}
use Rattle.simulator_spec.specs.State.{WorldState}
use Rattle.simulator.specs.declared.parts.Parts.{Parts}
use Rattle.simulator.specs.inside.Parts.{HasCome, site_of, seen, table_of}

abbrev pub LeadsOn : Type 0
LeadsOn = (site : Site) (table : Table) (happening : Event) (world : WorldState) → IsReached site table world → refusal site happening world ≡ None → IsReached site table (happens site table happening world)

-- the same table, and this world
of_table : (old new : Parts) → new.interlocking.sited ≡ old.interlocking.sited → IsReached (site_of old) (table_of old) (seen new) → HasCome new
of_table old new sited is = subst (λ (p : SitedTable). IsReached p.site p.table (seen new)) (sym sited) is

pub stays : (old new : Parts) → HasCome old → new.interlocking.sited ≡ old.interlocking.sited → seen new ≡ seen old → HasCome new
stays old new come sited same = of_table old new sited (subst (IsReached (site_of old) (table_of old)) (sym same) come)

pub goes_on : LeadsOn → (old new : Parts) (happening : Event) (result : Result Reply Refused) → HasCome old → new.interlocking.sited ≡ old.interlocking.sited
    → OnOk result (seen new ≡ happens (site_of old) (table_of old) happening (seen old)) → OnOk result (refusal (site_of old) happening (seen old) ≡ None)
    → OnErr result (seen new ≡ seen old) → HasCome new
goes_on leads old new happening (Ok reply) come sited step allowed same =
    of_table old new sited (subst (IsReached (site_of old) (table_of old)) (sym step) (leads (site_of old) (table_of old) happening (seen old) come allowed))
goes_on leads old new happening (Err why) come sited step allowed same = stays old new come sited same
