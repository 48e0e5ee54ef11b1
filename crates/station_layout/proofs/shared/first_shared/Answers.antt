use Rattle.std.proofs.Common.{◌∙◌, ℕ, List, ap, sym}
use Rattle.station_layout.specs.SharedAdvice.{shared_with}
use Rattle.station_layout.specs.declared.advice.Common.TheVariants as common
use Rattle.station_layout.proofs.Found.{found_here, goes_on, nowhere}
use Rattle.station_layout.proofs.shared.first_shared.Goals as goal

pub returns-in-Some : goal.returns-in-Some
returns-in-Some c =
    let found = λ (section : List ℕ). shared_with c.args.written.now c.args.place (common.Section section) in
    found_here found c.args.sections.now c.loop-section.section-index c.section-item.result _ c.in-Some.found c.loop-section-test.true
    (sym (ap found c.section-item.is) ∙ (sym c.shared_with.ensures ∙ c.in-Some.is)) c.loop-section.invariant

pub loop-section-preserved : goal.loop-section-preserved
loop-section-preserved c =
    let found = λ (section : List ℕ). shared_with c.args.written.now c.args.place (common.Section section) in
    goes_on found c.args.sections.now c.loop-section.section-index c.section-item.result _ c.loop-section-test.true
    (sym (ap found c.section-item.is) ∙ (sym c.shared_with.ensures ∙ c.in_default.is)) c.loop-section.invariant

pub returns : goal.returns
returns c =
    nowhere (λ section. shared_with c.args.written.now c.args.place (common.Section section)) c.args.sections.now c.loop-section.section-index _ c.loop-section-test.false
    c.loop-section.invariant
