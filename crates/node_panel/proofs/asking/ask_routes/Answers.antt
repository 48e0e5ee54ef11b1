use Rattle.std.proofs.Common.{◌≡◌, ◌+◌, ◌∷◌, ◌++◌, [], List, get_or, map, refl, take, subst}
use Rattle.panel_desk.specs.Boards.{both, none}
use Rattle.panel_desk.specs.node_lines.declared.operator_command.OperatorCommand.{OperatorCommand}
use Rattle.node_panel.specs.Turns.{AsksEach, none as none_asked, requested}
use Rattle.node_panel.proofs.CallsOn.{calls_none, calls_on}
use Rattle.node_panel.proofs.Lists.{asked_on, one_mapped}
use Rattle.node_panel.proofs.asking.ask_routes.Goals as goal

pub loop-route-init : goal.loop-route-init
loop-route-init g c = ([], calls_none _, none_asked, none)

pub loop-route-preserved : goal.loop-route-preserved
loop-route-preserved g c =
    let before = c.loop-route.invariant in
    let now = c.in_ok-ask.ensures in
    let i = c.loop-route.route-index in
    let route = get_or c.args.routes.now i (record { 0 = 0 }) in
    let more : map requested (take i c.args.routes.now) ++ requested route ∷ [] ≡ map requested (take (i + 1) c.args.routes.now) =
    one_mapped requested i c.args.routes.now route (record { 0 = 0 }) c.loop-route-test.true refl in (
      before.0 ++ now.0,
      calls_on before.1 now.1,
      subst (λ (all : List OperatorCommand). AsksEach c.args.layout.now all c.args.heard.now (before.0 ++ now.0) c.ask.new.heard) more (asked_on _ _ before.0 now.0 _ _ _ before.2 now.2),
      both before.3 now.3,
    )
