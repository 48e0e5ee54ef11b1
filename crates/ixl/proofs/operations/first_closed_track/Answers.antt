use Rattle.std.proofs.Common.{◌∙◌, ap, map}
use Rattle.std.specs.Option.{option_map, option_or}
use Rattle.ixl_state.specs.ixl_spec.Operations.{counts_as_closed, need_thing, section_thing}
use Rattle.ixl.specs.inside.Parts.{first_where}
use Rattle.ixl.proofs.ClosedThings.{first_joined, first_mapped}
use Rattle.ixl.proofs.operations.first_closed_track.Goals as goal

pub returns-in-Some : goal.returns-in-Some
returns-in-Some c =
    ap (λ one. option_or (option_map section_thing one) (first_where (counts_as_closed c.args.state.now.sited.table c.args.state.now.ixl) (map need_thing c.args.row.now.needs)))
    (c.in-Some.ensures ∙ ap (first_where (λ section. counts_as_closed c.args.state.now.sited.table c.args.state.now.ixl (section_thing section))) c.sections.ensures)
    ∙ ap (λ one. option_or one (first_where (counts_as_closed c.args.state.now.sited.table c.args.state.now.ixl) (map need_thing c.args.row.now.needs)))
    (first_mapped section_thing (counts_as_closed c.args.state.now.sited.table c.args.state.now.ixl) c.args.row.now.sections)
    ∙ first_joined (counts_as_closed c.args.state.now.sited.table c.args.state.now.ixl) (map section_thing c.args.row.now.sections) (map need_thing c.args.row.now.needs)

pub returns-in-None : goal.returns-in-None
returns-in-None c =
    c.first_closed_point.ensures
    ∙ ap (λ needs. first_where (counts_as_closed c.args.state.now.sited.table c.args.state.now.ixl) (map need_thing needs)) c.needs.ensures
    ∙ ap (λ one. option_or (option_map section_thing one) (first_where (counts_as_closed c.args.state.now.sited.table c.args.state.now.ixl) (map need_thing c.args.row.now.needs)))
    (c.in-None.ensures ∙ ap (first_where (λ section. counts_as_closed c.args.state.now.sited.table c.args.state.now.ixl (section_thing section))) c.sections.ensures)
    ∙ ap (λ one. option_or one (first_where (counts_as_closed c.args.state.now.sited.table c.args.state.now.ixl) (map need_thing c.args.row.now.needs)))
    (first_mapped section_thing (counts_as_closed c.args.state.now.sited.table c.args.state.now.ixl) c.args.row.now.sections)
    ∙ first_joined (counts_as_closed c.args.state.now.sited.table c.args.state.now.ixl) (map section_thing c.args.row.now.sections) (map need_thing c.args.row.now.needs)
