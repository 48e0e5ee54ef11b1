use Rattle.std.proofs.Common.{◌∙◌, ap}
use Rattle.std.specs.Prelude.{Some}
use Rattle.std.specs.Option.{option_map}
use Rattle.ixl_state.specs.ixl_spec.closings.declared.thing.Thing.TheVariants.{Point}
use Rattle.ixl_state.specs.ixl_spec.Operations.{counts_as_closed, need_thing}
use Rattle.ixl.proofs.ClosedThings.{first_mapped}
use Rattle.ixl.proofs.operations.first_closed_point.Goals as goal

pub returns-in-Some : goal.returns-in-Some
returns-in-Some c =
    ap (λ point. Some (Point (record { 0 = point }) c.side.result)) c.point.ensures
    ∙ ap (λ side. Some (Point (record { 0 = c.in-Some.need.point }) side)) c.side.ensures
    ∙ ap (option_map need_thing) c.in-Some.ensures
    ∙ first_mapped need_thing (counts_as_closed c.args.state.now.sited.table c.args.state.now.ixl) c.args.needs.now

pub returns-in-None : goal.returns-in-None
returns-in-None c =
    ap (option_map need_thing) c.in-None.ensures ∙ first_mapped need_thing (counts_as_closed c.args.state.now.sited.table c.args.state.now.ixl) c.args.needs.now
