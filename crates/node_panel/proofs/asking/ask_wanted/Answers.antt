use Rattle.std.proofs.Common.{◌∙◌, [], List, sym, ap, subst}
use Rattle.std.specs.Option.{option_to_list}
use Rattle.panel_desk.specs.node_lines.declared.operator_command.OperatorCommand.{OperatorCommand}
use Rattle.node_panel.specs.Turns.{AsksEach, none as none_asked}
use Rattle.node_panel.proofs.CallsOn.{calls_none}
use Rattle.node_panel.proofs.Successes.{ok_met}
use Rattle.node_panel.proofs.asking.ask_wanted.Goals as goal

pub returns-in-None : goal.returns-in-None
returns-in-None g c =
    let nothing = sym (ap option_to_list c.in-None.is) ∙ c.operator_command.ensures in
    ok_met c.note_own.result
    (λ noted. (
      [],
      calls_none _,
      subst (λ (all : List OperatorCommand). AsksEach c.args.layout.now all c.args.heard.now [] c.args.heard.now) nothing none_asked,
      noted,
    ))
    c.note_own.ensures
