use Rattle.std.proofs.Common.{◌≡◌, ◌<◌, ◌∙◌, ap, subst, length, arith, List, ℕ, ◌++◌, [], Option, false, true}
use Rattle.std.specs.Prelude.{IsSome}
use Rattle.controllers_c.specs.Sections.{spelled}
use Rattle.controllers_c.proofs.SectionsLeft.{Section, fewer_left, one_is_read}
use Rattle.controllers_c.proofs.SectionsSpelled.{as_many, one_more, what_follows}
use Rattle.controllers_c.proofs.sections.detection_of.Goals as goal

pub loop-rest-preserved : goal.loop-rest-preserved
loop-rest-preserved c =
    let full : length c.loop-rest.sections ≡ 16 = c.loop-rest.invariant.2 in
    let within : c.loop-rest.count < length c.loop-rest.sections = omega arith in
    let some : c.loop-rest.rest.now ≡ [] → ⊥ = grind arith in
    let read = c.in_ok-section.ensures.spelled ∙ ap (λ (more : List ℕ). spelled c.in_ok-section.section ++ more) (what_follows c.loop-rest.rest.now c.in_ok-section.section.0 c.bytes.result.now c.split_at.result.1.now c.bytes.ensures.value c.split_at.ensures.back) in (
      omega arith,
      one_more _ c.loop-rest.sections c.loop-rest.count c.loop-rest.rest.now c.split_at.result.1.now _ within c.loop-rest.invariant.1 read,
      as_many c.loop-rest.sections c.loop-rest.count _ full,
      fewer_left _ c.loop-rest.count c.loop-rest.rest.now c.split_at.result.1.now c.in_ok-section.section some read c.loop-rest.invariant.3,
    )

pub returns-in_err-section-clause-only : goal.returns-in_err-section-clause-only
returns-in_err-section-clause-only c sections named few told =
    let some : c.loop-rest.rest.now ≡ [] → ⊥ = grind arith in
    let left = c.loop-rest.invariant.3 sections named few told in
    let read : IsSome c.first_section.result = one_is_read c.loop-rest.rest.now c.first_section.result some c.first_section.ensures.only left.0 left.1 left.3 in
    let no : false ≡ true = subst (λ (result : Option Section). IsSome result) c.in_err-section.was read in cc
