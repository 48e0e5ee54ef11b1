use Rattle.std.proofs.Common.{◌≡◌, refl, sym, ap, ◌∙◌, subst, ℕ, ◌<◌, List, length, slice_get, slice_set, slice_index_or, arith}
use Rattle.ixl_state.specs.ixl_table.Table.{IsTableOf, SitedTable}
use Rattle.simulator_spec.specs.object_host.declared.input.Input.TheVariants as inputs
use Rattle.simulator_spec.specs.object_host.declared.sense.Sense.TheVariants as sense
use Rattle.simulator_field.specs.Network.{NetworkState}
use Rattle.simulator_field.specs.Field.{world_of}
use Rattle.simulator_spec.specs.Happens.{detector_stepped, sensed_by}
use Rattle.simulator_spec.specs.State.{WorldState}
use Rattle.simulator.specs.inside.Parts.{Goes, site_of, table_of}
use Rattle.simulator.proofs.ContactReaches.{as_planned, is_reported, reporter_there, sensed_goes}
use Rattle.simulator.proofs.PartsOfWorld.{goes_behind}
use Rattle.simulator.proofs.parts.Parts.occupy.Goals as goal

pub bounds-reporters-section : goal.bounds-reporters-section
bounds-reporters-section c =
    let self = c.args.self.now
    in let same : c.reporters.result.now ≡ (table_of self).reporters = c.reporters.ensures ∙ ap (λ (p : SitedTable). p.table.reporters) c.table-table.ensures.sited
    in let is : IsTableOf (site_of self) (table_of self) = as_planned self.interlocking.sited c.table-table.result.now c.table-table.ensures.sited c.checked.ensures.table
    in subst (λ (list : List (ℕ × ℕ)). c.args.section.0 < length list) (sym same) (is_reported (site_of self) (table_of self) c.args.section.0 is c.requires.there)

pub bounds-reporters-section-2 : goal.bounds-reporters-section-2
bounds-reporters-section-2 c =
    let self = c.args.self.now
    in let same : c.reporters.result.now ≡ (table_of self).reporters = c.reporters.ensures ∙ ap (λ (p : SitedTable). p.table.reporters) c.table-table.ensures.sited
    in let is : IsTableOf (site_of self) (table_of self) = as_planned self.interlocking.sited c.table-table.result.now c.table-table.ensures.sited c.checked.ensures.table
    in subst (λ (list : List (ℕ × ℕ)). c.args.section.0 < length list) (sym same) (is_reported (site_of self) (table_of self) c.args.section.0 is c.requires.there)

pub step_detector-requires-clause-there : goal.step_detector-requires-clause-there
step_detector-requires-clause-there c =
    let self = c.args.self.now
    in let same : c.reporters.result.now ≡ (table_of self).reporters = c.reporters.ensures ∙ ap (λ (p : SitedTable). p.table.reporters) c.table-table.ensures.sited
    in let is : IsTableOf (site_of self) (table_of self) = as_planned self.interlocking.sited c.table-table.result.now c.table-table.ensures.sited c.checked.ensures.table
    in let there : (slice_index_or c.reporters.result.now c.args.section.0 (0, 0)).0 < length (site_of self).detectors =
    subst (λ (list : List (ℕ × ℕ)). (slice_index_or list c.args.section.0 (0, 0)).0 < length (site_of self).detectors) (sym same) (reporter_there (site_of self) (table_of self) c.args.section.0 is c.requires.there)
    in omega (arith, there, (c.occupy.ensures.each (site_of self) c.requires.whole).detectors)

pub returns : goal.returns
unfolding world_of
returns c =
    let self = c.args.self.now
    in let middle = record self { field = c.occupy.new.self }
    in let same : c.reporters.result.now ≡ (table_of self).reporters = c.reporters.ensures ∙ ap (λ (p : SitedTable). p.table.reporters) c.table-table.ensures.sited
    in let is : IsTableOf (site_of self) (table_of self) = as_planned self.interlocking.sited c.table-table.result.now c.table-table.ensures.sited c.checked.ensures.table
    in let stepped : Goes (detector_stepped (site_of self) (inputs.Sense (sense.Section (slice_index_or (table_of self).reporters c.args.section.0 (0, 0)).1 c.args.occupancy)) 0 (slice_index_or (table_of self).reporters c.args.section.0 (0, 0)).0) middle c.step_detector.new.self =
    subst (λ (list : List (ℕ × ℕ)). Goes (detector_stepped (site_of self) (inputs.Sense (sense.Section (slice_index_or list c.args.section.0 (0, 0)).1 c.args.occupancy)) 0 (slice_index_or list c.args.section.0 (0, 0)).0) middle c.step_detector.new.self) same c.step_detector.ensures
    in goes_behind (λ (world : WorldState). record world { occupancies = slice_set world.occupancies c.args.section.0 c.args.occupancy })
    (sensed_by (site_of self) c.args.occupancy (slice_get (table_of self).reporters c.args.section.0)) self middle c.step_detector.new.self
    (c.occupy.ensures.world self.interlocking.interlocking self.frozen.items) refl (ap (λ (n : NetworkState). n.room) c.occupy.ensures.network)
    (sensed_goes (site_of self) (table_of self) c.args.section.0 c.args.occupancy middle c.step_detector.new.self is c.requires.there stepped)
