use Rattle.std.proofs.Common.{◌≡◌, ◌∙◌, ◌<◌, ◌≤◌, ap, subst, List, ℕ, get_or, length, string_bytes}
use Rattle.ixl_state.specs.layout.Entries.{Site}
use Rattle.simulator.proofs.Lines.{sections-add, sections-all}
use Rattle.simulator.proofs.picture.push_sections.Goals as goal

pub loop-place-preserved : goal.loop-place-preserved
loop-place-preserved c =
    let world = c.args.world.now
    in let site = world.sited.site
    in let place = c.loop-place.place
    in let name = c.index-sections-place.result
    in let all : c.sections-sections.result.now ≡ site.sections = c.sections-sections.ensures ∙ ap (λ (p : Site). p.sections) (c.layout.ensures.entries ∙ c.table.ensures)
    in let within : place < length site.sections = subst (λ (l : List (List ℕ)). place < length l) all c.loop-place-test.true
    in let at : name ≡ get_or site.sections place name = subst (λ (l : List (List ℕ)). name ≡ get_or l place name) all c.index-sections-place.is
    in sections-add place site.sections world.run.occupancies name c.occupancy.result (string_bytes c.loop-place.text) (string_bytes c.push_section.new.text) _
    within at c.occupancy.ensures c.in_ok-push_section.ensures c.loop-place.invariant

pub returns : goal.returns
returns c =
    let world = c.args.world.now
    in let site = world.sited.site
    in let all : c.sections-sections.result.now ≡ site.sections = c.sections-sections.ensures ∙ ap (λ (p : Site). p.sections) (c.layout.ensures.entries ∙ c.table.ensures)
    in let past : length site.sections ≤ c.loop-place.place = subst (λ (l : List (List ℕ)). length l ≤ c.loop-place.place) all c.loop-place-test.false
    in sections-all c.loop-place.place site.sections world.run.occupancies (string_bytes c.loop-place.text) _ past c.loop-place.invariant
