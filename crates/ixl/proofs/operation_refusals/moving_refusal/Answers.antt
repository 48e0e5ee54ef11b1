use Rattle.std.proofs.Common.{◌∙◌, sym, refl, true, false}
use Rattle.std.specs.Prelude.{Some, None}
use Rattle.ixl.proofs.Causes.{moving_told}
use Rattle.ixl.proofs.operation_refusals.moving_refusal.Goals as goal

pub returns-then-is_closed : goal.returns-then-is_closed
returns-then-is_closed c =
    moving_told c.args.state.now.sited.table c.args.state.now.ixl c.args.point c.args.side true _ _ _ (sym c.if-is_closed.true ∙ c.is_closed.ensures) refl refl refl

pub returns-in-Some : goal.returns-in-Some
returns-in-Some c =
    moving_told c.args.state.now.sited.table c.args.state.now.ixl c.args.point c.args.side false (Some c.in-Some.holder) _ _ (sym c.if-is_closed.false ∙ c.is_closed.ensures)
    (sym c.in-Some.is ∙ c.first_holding.ensures) refl refl

pub returns-then-not-is_point_available : goal.returns-then-not-is_point_available
returns-then-not-is_point_available c =
    moving_told c.args.state.now.sited.table c.args.state.now.ixl c.args.point c.args.side false None false _ (sym c.if-is_closed.false ∙ c.is_closed.ensures)
    (sym c.in_default.is ∙ c.first_holding.ensures) (sym c.if-not-is_point_available.true ∙ c.is_point_available.ensures) refl

pub returns : goal.returns
returns c =
    moving_told c.args.state.now.sited.table c.args.state.now.ixl c.args.point c.args.side false None true c.own_section_refusal.result (sym c.if-is_closed.false ∙ c.is_closed.ensures)
    (sym c.in_default.is ∙ c.first_holding.ensures) (sym c.if-not-is_point_available.false ∙ c.is_point_available.ensures) c.own_section_refusal.ensures
