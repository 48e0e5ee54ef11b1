use Rattle.ixl.proofs.AtRest.{rest_go}
use Rattle.ixl.proofs.Rules.{rules_go}
use Rattle.ixl.proofs.six_rules.apply_rules.Goals as goal

pub move_points_of_routes-requires-clause-clock : goal.move_points_of_routes-requires-clause-clock
move_points_of_routes-requires-clause-clock c =
    c.free_routes_by_cancel.ensures.clock c.args.now (c.free_routes_by_passage.ensures.clock c.args.now (c.end_authorities.ensures.clock c.args.now c.withdraw_routes.ensures.clock))

pub returns-then-all_rest : goal.returns-then-all_rest
returns-then-all_rest c = rest_go c.args.now c.args.state.now c.withdraw_routes.new.state c.args.outbox.now c.withdraw_routes.new.outbox (c.all_rest.ensures c.if-all_rest.true) c.withdraw_routes.ensures

pub returns : goal.returns
returns c = rules_go c.args.now c.args.state.now c.withdraw_routes.new.state c.end_authorities.new.state c.free_routes_by_passage.new.state c.free_routes_by_cancel.new.state c.move_points_of_routes.new.state c.give_authority.new.state
    c.args.outbox.now c.withdraw_routes.new.outbox c.move_points_of_routes.new.outbox c.give_authority.new.outbox c.requires.clock
    c.withdraw_routes.ensures c.end_authorities.ensures c.free_routes_by_passage.ensures c.free_routes_by_cancel.ensures c.move_points_of_routes.ensures c.give_authority.ensures
