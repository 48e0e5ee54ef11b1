use Rattle.std.proofs.Common.{◌≡◌, ◌+◌, ◌++◌, [], List, take, subst}
use Rattle.std.specs.List.{flat_map}
use Rattle.panel_desk.specs.Boards.{both, none}
use Rattle.panel_desk.specs.node_lines.declared.operator_command.OperatorCommand.{OperatorCommand}
use Rattle.node_panel.specs.Turns.{AsksEach, asked_by, none as none_asked}
use Rattle.node_panel.proofs.CallsOn.{calls_none, calls_on}
use Rattle.node_panel.proofs.Lists.{asked_on, one_taken}
use Rattle.node_panel.proofs.asking.ask_each.Goals as goal

pub loop-command-init : goal.loop-command-init
loop-command-init g c = ([], calls_none _, none_asked, none)

pub loop-command-preserved : goal.loop-command-preserved
loop-command-preserved g c =
    let before = c.loop-command.invariant in
    let now = c.in_ok-ask_wanted.ensures in
    let i = c.loop-command.command-index in
    let more : flat_map asked_by (take i c.args.commands.now) ++ asked_by c.command-item.result ≡ flat_map asked_by (take (i + 1) c.args.commands.now) = one_taken asked_by i c.args.commands.now c.command-item.result _ c.loop-command-test.true c.command-item.is in (
      before.0 ++ now.0,
      calls_on before.1 now.1,
      subst (λ (all : List OperatorCommand). AsksEach c.args.layout.now all c.args.heard.now (before.0 ++ now.0) c.ask_wanted.new.heard) more (asked_on _ _ before.0 now.0 _ _ _ before.2 now.2),
      both before.3 now.3,
    )
