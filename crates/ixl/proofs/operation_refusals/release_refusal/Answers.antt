use Rattle.std.proofs.Common.{◌≡◌, ◌∙◌, ap, sym, false, true, not, arith, length}
use Rattle.std.specs.Prelude.{◌&&◌, None}
use Rattle.ixl_state.specs.ixl_spec.Commands.{is_ended, refused_where}
use Rattle.ixl_state.specs.ixl_spec.State.{RouteState}
use Rattle.ixl_state.specs.ixl_table.Table.{SitedTable}
use Rattle.ixl_state.specs.ixl_spec.View.{is_holding, is_set}
use Rattle.ixl_state.specs.ixl_spec.declared.command.Refusal.TheVariants as refusals
use Rattle.ixl.proofs.Causes.{any_allows, any_release_refused, release_told}
use Rattle.ixl.proofs.operation_refusals.release_refusal.Goals as goal

pub returns-in-Some : goal.returns-in-Some
returns-in-Some c =
    let there = c.table.ensures.there c.args.number (omega (arith, c.if-number-rows.false, ap length (c.rows.ensures ∙ ap (λ (p : SitedTable). p.table.rows) c.table.ensures.sited)))
    in any_release_refused c.args.now c.args.state.now.ixl _ there.1 c.in-Some.cause there.2.1 (sym c.in-Some.is ∙ c.refusal_of_any.ensures)

pub returns-then-not-is_set : goal.returns-then-not-is_set
returns-then-not-is_set c =
    let there = c.table.ensures.there c.args.number (omega (arith, c.if-number-rows.false, ap length (c.rows.ensures ∙ ap (λ (p : SitedTable). p.table.rows) c.table.ensures.sited)))
    in let passed = any_allows (is_holding c.args.now c.args.state.now.ixl) c.args.state.now.ixl.resumed (sym c.in_default.is ∙ c.refusal_of_any.ensures)
    in release_told c.args.now c.args.state.now.ixl _ there.1 false there.2.1 passed.0 passed.1
    (ap (λ (r : RouteState). is_set r.phase) (sym (c.route-route.ensures there.0 there.1 there.2)) ∙ sym c.is_set.ensures ∙ c.if-not-is_set.true)

pub returns-then-not-may_be_released : goal.returns-then-not-may_be_released
returns-then-not-may_be_released c =
    let there = c.table.ensures.there c.args.number (omega (arith, c.if-number-rows.false, ap length (c.rows.ensures ∙ ap (λ (p : SitedTable). p.table.rows) c.table.ensures.sited)))
    in let passed = any_allows (is_holding c.args.now c.args.state.now.ixl) c.args.state.now.ixl.resumed (sym c.in_default.is ∙ c.refusal_of_any.ensures)
    in let may : c.may_be_released.result ≡ (there.1.cancelled && is_ended there.1.phase) = c.may_be_released.ensures ∙ ap (λ (r : RouteState). r.cancelled && is_ended r.phase) (c.route-route.ensures there.0 there.1 there.2)
    in ap (λ b. refused_where (not b) refusals.NotEnded None) (sym c.if-not-may_be_released.true ∙ may)
    ∙ release_told c.args.now c.args.state.now.ixl _ there.1 true there.2.1 passed.0 passed.1
    (ap (λ (r : RouteState). is_set r.phase) (sym (c.route-route.ensures there.0 there.1 there.2)) ∙ sym c.is_set.ensures ∙ c.if-not-is_set.false)

pub returns : goal.returns
returns c =
    let there = c.table.ensures.there c.args.number (omega (arith, c.if-number-rows.false, ap length (c.rows.ensures ∙ ap (λ (p : SitedTable). p.table.rows) c.table.ensures.sited)))
    in let passed = any_allows (is_holding c.args.now c.args.state.now.ixl) c.args.state.now.ixl.resumed (sym c.in_default.is ∙ c.refusal_of_any.ensures)
    in let may : c.may_be_released.result ≡ (there.1.cancelled && is_ended there.1.phase) = c.may_be_released.ensures ∙ ap (λ (r : RouteState). r.cancelled && is_ended r.phase) (c.route-route.ensures there.0 there.1 there.2)
    in ap (λ b. refused_where (not b) refusals.NotEnded None) (sym c.if-not-may_be_released.false ∙ may)
    ∙ release_told c.args.now c.args.state.now.ixl _ there.1 true there.2.1 passed.0 passed.1
    (ap (λ (r : RouteState). is_set r.phase) (sym (c.route-route.ensures there.0 there.1 there.2)) ∙ sym c.is_set.ensures ∙ c.if-not-is_set.false)
