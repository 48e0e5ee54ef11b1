use Rattle.std.proofs.Common.{◌∙◌, ap, sym, false, true, arith, length}
use Rattle.std.specs.Option.{option_or}
use Rattle.ixl_state.specs.ixl_spec.Commands.{closed_refusal}
use Rattle.ixl_state.specs.ixl_spec.State.{RouteState}
use Rattle.ixl_state.specs.ixl_table.Table.{SitedTable}
use Rattle.ixl_state.specs.ixl_spec.View.{is_holding, is_set}
use Rattle.ixl.proofs.Causes.{any_allows, any_request_refused, request_told}
use Rattle.ixl.proofs.refusals.request_refusal.Goals as goal

pub returns-in-Some : goal.returns-in-Some
returns-in-Some c =
    let there = c.table.ensures.there c.args.number (omega (arith, c.if-number-rows.false, ap length (c.rows.ensures ∙ ap (λ (p : SitedTable). p.table.rows) c.table.ensures.sited)))
    in any_request_refused c.args.now c.args.state.now.sited.table c.args.state.now.ixl c.args.number _ _ there.0 there.1 c.in-Some.cause there.2.0 there.2.1 (sym c.in-Some.is ∙ c.refusal_of_any.ensures)

pub returns-then-is_set : goal.returns-then-is_set
returns-then-is_set c =
    let there = c.table.ensures.there c.args.number (omega (arith, c.if-number-rows.false, ap length (c.rows.ensures ∙ ap (λ (p : SitedTable). p.table.rows) c.table.ensures.sited)))
    in let passed = any_allows (is_holding c.args.now c.args.state.now.ixl) c.args.state.now.ixl.resumed (sym c.in_default.is ∙ c.refusal_of_any.ensures)
    in request_told c.args.now c.args.state.now.sited.table c.args.state.now.ixl c.args.number _ _ there.0 there.1 true there.2.0 there.2.1
    passed.0 passed.1
    (ap (λ (r : RouteState). is_set r.phase) (sym (c.route.ensures there.0 there.1 there.2)) ∙ sym c.is_set.ensures ∙ c.if-is_set.true)

pub returns-in-Some-locking_refusal : goal.returns-in-Some-locking_refusal
returns-in-Some-locking_refusal c =
    let there = c.table.ensures.there c.args.number (omega (arith, c.if-number-rows.false, ap length (c.rows.ensures ∙ ap (λ (p : SitedTable). p.table.rows) c.table.ensures.sited)))
    in let passed = any_allows (is_holding c.args.now c.args.state.now.ixl) c.args.state.now.ixl.resumed (sym c.in_default.is ∙ c.refusal_of_any.ensures)
    in ap (λ o. option_or o (closed_refusal c.args.state.now.sited.table c.args.state.now.ixl c.args.number there.0)) (sym c.in-Some-locking_refusal.is ∙ c.locking_refusal.ensures there.0 there.1 there.2)
    ∙ request_told c.args.now c.args.state.now.sited.table c.args.state.now.ixl c.args.number _ _ there.0 there.1 false there.2.0 there.2.1
    passed.0 passed.1
    (ap (λ (r : RouteState). is_set r.phase) (sym (c.route.ensures there.0 there.1 there.2)) ∙ sym c.is_set.ensures ∙ c.if-is_set.false)

pub returns-in-None : goal.returns-in-None
returns-in-None c =
    let there = c.table.ensures.there c.args.number (omega (arith, c.if-number-rows.false, ap length (c.rows.ensures ∙ ap (λ (p : SitedTable). p.table.rows) c.table.ensures.sited)))
    in let passed = any_allows (is_holding c.args.now c.args.state.now.ixl) c.args.state.now.ixl.resumed (sym c.in_default.is ∙ c.refusal_of_any.ensures)
    in c.closed_refusal.ensures there.0 there.1 there.2
    ∙ ap (λ o. option_or o (closed_refusal c.args.state.now.sited.table c.args.state.now.ixl c.args.number there.0)) (sym c.in-None.is ∙ c.locking_refusal.ensures there.0 there.1 there.2)
    ∙ request_told c.args.now c.args.state.now.sited.table c.args.state.now.ixl c.args.number _ _ there.0 there.1 false there.2.0 there.2.1
    passed.0 passed.1
    (ap (λ (r : RouteState). is_set r.phase) (sym (c.route.ensures there.0 there.1 there.2)) ∙ sym c.is_set.ensures ∙ c.if-is_set.false)
