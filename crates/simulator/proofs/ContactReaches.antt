-- The contact of a section comes to the detector that reports it.
use Rattle.std.proofs.Common.{◌≡◌, sym, ap, subst, ℕ, ◌<◌, length, slice_get, slice_index_or, Some, arith}
use Rattle.std.proofs.lemmas.Option.{slice_get-get_or, slice_get_within}
use Rattle.ixl_state.specs.layout.Entries.{Site}
use Rattle.ixl_state.specs.ixl_spec.Table.{Table}
use Rattle.ixl_state.specs.ixl_table.Table.{IsTableOf, SitedTable}
use Rattle.ixl_state.specs.sci_telegram.declared.message.Occupancy.{Occupancy}
use Rattle.simulator_spec.specs.object_host.declared.input.Input.TheVariants as inputs
use Rattle.simulator_spec.specs.object_host.declared.sense.Sense.TheVariants as sense
use Rattle.simulator_spec.specs.Happens.{detector_stepped, sensed_by}
use Rattle.simulator.specs.inside.Parts.{Goes, seen}
use Rattle.simulator.specs.declared.parts.Parts.{Parts}
use Rattle.simulator.proofs.PartsOfWorld.{goes_as}

-- a table in other words
pub as_planned : (sited other : SitedTable) → other ≡ sited → IsTableOf other.site other.table → IsTableOf sited.site sited.table
as_planned sited other same is = subst (λ (p : SitedTable). IsTableOf p.site p.table) same is

pub is_reported : (site : Site) (table : Table) (section : ℕ) → IsTableOf site table → section < length site.sections → section < length table.reporters
is_reported site table section is below = omega (arith, is.reporters.each, below)

pub reporter_read : (site : Site) (table : Table) (section : ℕ) → IsTableOf site table → section < length site.sections → slice_get table.reporters section ≡ Some (slice_index_or table.reporters section (0, 0))
reporter_read site table section is below = slice_get-get_or table.reporters section (0, 0) (is_reported site table section is below)

-- the detector that reports a section is there
pub reporter_there : (site : Site) (table : Table) (section : ℕ) → IsTableOf site table → section < length site.sections → (slice_index_or table.reporters section (0, 0)).0 < length site.detectors
reporter_there site table section is below =
    let reported = is.reporters.their section (slice_index_or table.reporters section (0, 0)) (reporter_read site table section is below)
    in slice_get_within site.detectors (slice_index_or table.reporters section (0, 0)).0 reported.0 reported.1

-- what its detector does is what comes of the contact
pub sensed_goes : (site : Site) (table : Table) (section : ℕ) (occupancy : Occupancy) (middle new : Parts) → IsTableOf site table → section < length site.sections
    → Goes (detector_stepped site (inputs.Sense (sense.Section (slice_index_or table.reporters section (0, 0)).1 occupancy)) 0 (slice_index_or table.reporters section (0, 0)).0) middle new
    → Goes (sensed_by site occupancy (slice_get table.reporters section)) middle new
sensed_goes site table section occupancy middle new is below goes =
    let reporter = slice_index_or table.reporters section (0, 0)
    in goes_as (detector_stepped site (inputs.Sense (sense.Section reporter.1 occupancy)) 0 reporter.0) (sensed_by site occupancy (slice_get table.reporters section)) middle new goes
    (ap (λ found. sensed_by site occupancy found (seen middle)) (sym (reporter_read site table section is below)))
