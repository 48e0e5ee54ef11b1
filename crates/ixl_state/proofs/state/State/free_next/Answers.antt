use Rattle.std.proofs.Common.{◌≡◌, ◌≢◌, ◌∙◌, ◌+◌, ◌<◌, ℕ, List, ap, arith, length, refl, subst, sym}
use Rattle.std.specs.Prelude.{IsTrue}
use Rattle.ixl_spec.specs.State.{RouteState}
use Rattle.ixl_spec.specs.Table.{Row}
use Rattle.ixl_spec.specs.View.{freed_sections, is_set}
use Rattle.ixl_spec.specs.declared.phase.Phase.{Phase}
use Rattle.ixl_table.specs.Table.{IsTableThere, SitedTable}
use Rattle.ixl_state.specs.State.{route_changed}
use Rattle.ixl_state.proofs.LocksFreed.{last-freed, more-freed}
use Rattle.ixl_state.proofs.RouteChange.{row-read}
use Rattle.ixl_state.proofs.state.State.free_next.Goals as goal

pub returns-in_default : goal.returns-in_default
returns-in_default c = λ row route at.
    let ended = c.requires.ended row route at in
    absurd (c.in_default.not-Ended ended.0 ended.1 (c.phase.ensures ∙ ap (λ (r : RouteState). r.phase) (c.route.ensures row route at) ∙ ended.2))

pub overflow_add-freed : goal.overflow_add-freed
overflow_add-freed c =
    let kept = c.table-table.ensures.there c.args.number c.requires.there in
    let row = kept.0 in
    let route = kept.1 in
    let at = kept.2 in
    let ended = sym (ap (λ (r : RouteState). r.phase) (c.route.ensures row route at)) ∙ sym c.phase.ensures ∙ c.in-Ended.is in
    let lt = subst (λ (p : Phase). IsTrue (is_set p) → freed_sections p < length row.sections) ended (c.table-table.ensures.within c.args.number row route at).2 refl in
    let there = subst (λ (p : SitedTable). IsTableThere p.site p.table) c.table-table.ensures.sited c.names_what_is_there.ensures.there in
    let few = (there.rows c.args.number row at.0).few in
    record { fits = omega (arith, lt, few) }

pub free_section-requires-clause-more : goal.free_section-requires-clause-more
free_section-requires-clause-more c = λ row route at.
    let read = row-read c.rows.result.now c.args.self.now.sited.table.rows c.args.number row c.index-rows-number.result (c.rows.ensures ∙ ap (λ (p : SitedTable). p.table.rows) c.table-table.ensures.sited) at.0 c.index-rows-number.is in
    let sections = c.sections-sections.ensures ∙ ap (λ (r : Row). r.sections) read in
    let ended = sym (ap (λ (r : RouteState). r.phase) (c.route.ensures row route at)) ∙ sym c.phase.ensures ∙ c.in-Ended.is in
    let lt = subst (λ (p : Phase). IsTrue (is_set p) → freed_sections p < length row.sections) ended (c.table-table.ensures.within c.args.number row route at).2 refl in
    let apart = subst (λ (ss : List ℕ). c.in-Ended.freed + 1 ≢ length ss) sections c.if-freed-sections.false in
    omega (arith, lt, apart)

pub returns-then-freed-sections : goal.returns-then-freed-sections
returns-then-freed-sections c = λ row route at.
    let read = row-read c.rows.result.now c.args.self.now.sited.table.rows c.args.number row c.index-rows-number.result (c.rows.ensures ∙ ap (λ (p : SitedTable). p.table.rows) c.table-table.ensures.sited) at.0 c.index-rows-number.is in
    let sections = c.sections-sections.ensures ∙ ap (λ (r : Row). r.sections) read in
    let ended = sym (ap (λ (r : RouteState). r.phase) (c.route.ensures row route at)) ∙ sym c.phase.ensures ∙ c.in-Ended.is in
    let last = subst (λ (ss : List ℕ). c.in-Ended.freed + 1 ≡ length ss) sections c.if-freed-sections.true in
    c.free.ensures ∙ (λ i. route_changed (λ one. last-freed row route.phase c.in-Ended.clock c.in-Ended.freed ended last one i) c.args.number c.args.self.now)

pub returns-else-freed-sections : goal.returns-else-freed-sections
returns-else-freed-sections c = λ row route at.
    let read = row-read c.rows.result.now c.args.self.now.sited.table.rows c.args.number row c.index-rows-number.result (c.rows.ensures ∙ ap (λ (p : SitedTable). p.table.rows) c.table-table.ensures.sited) at.0 c.index-rows-number.is in
    let sections = c.sections-sections.ensures ∙ ap (λ (r : Row). r.sections) read in
    let ended = sym (ap (λ (r : RouteState). r.phase) (c.route.ensures row route at)) ∙ sym c.phase.ensures ∙ c.in-Ended.is in
    let apart = subst (λ (ss : List ℕ). c.in-Ended.freed + 1 ≢ length ss) sections c.if-freed-sections.false in
    c.free_section.ensures ∙ (λ i. route_changed (λ one. more-freed row route.phase c.in-Ended.clock c.in-Ended.freed ended apart one i) c.args.number c.args.self.now)
