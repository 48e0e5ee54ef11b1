use Rattle.tds_ctl.specs.Sections.{changed}
use Rattle.tds_ctl.proofs.Places.{section_within}
use Rattle.tds_ctl.proofs.sections.change.Goals as goal

pub returns-then-place-sections : goal.returns-then-place-sections
returns-then-place-sections c =
    let within = section_within c.args.place (changed c.args.occupancy) c.args.sections.now c.index-sections-place.result c.if-place-sections.true c.index-sections-place.is
    in cc
