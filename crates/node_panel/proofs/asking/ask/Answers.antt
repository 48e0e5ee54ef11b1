use Rattle.std.proofs.Common.{◌≡◌, ◌∙◌, ◌∷◌, [], List, ℕ, sym, ap, subst}
use Rattle.panel_desk.specs.Boards.{none}
use Rattle.panel_desk.specs.node_lines.Commands.{command_text}
use Rattle.node_drive.specs.Calls.{BreaksOff, Writes}
use Rattle.node_panel.specs.Heard.{HeardView}
use Rattle.node_panel.specs.Turns.{AsksEach, asks, breaks_off, none as none_asked}
use Rattle.node_panel.proofs.CallsOn.{calls_same}
use Rattle.node_panel.proofs.Lists.{one_noted}
use Rattle.node_panel.proofs.Successes.{ok_met}
use Rattle.node_panel.proofs.asking.ask.Goals as goal

pub returns-in-Ok : goal.returns-in-Ok
returns-in-Ok g c =
    let text : List ℕ = command_text c.args.layout.now c.args.command in
    let is_text : c.as_str.result.now ≡ text = c.as_str.ensures.value ∙ c.in_ok-line.ensures.ok in
    ok_met c.ask.result
    (λ is. (
      Writes text ∷ [],
      calls_same (ap (λ t. Writes t ∷ []) is_text) c.in-Ok.ensures.done,
      subst (λ (h : HeardView). AsksEach c.args.layout.now (c.args.command ∷ []) c.args.heard.now (Writes text ∷ []) h) (sym is) (asks none_asked),
      none,
    ))
    c.ask.ensures

pub returns : goal.returns
returns g c =
    let text : List ℕ = command_text c.args.layout.now c.args.command in
    let is_text : c.as_str.result.now ≡ text = c.as_str.ensures.value ∙ c.in_ok-line.ensures.ok in
    ok_met c.note_command.result (λ noted. (BreaksOff text ∷ [], calls_same (ap (λ t. BreaksOff t ∷ []) is_text) c.in-Err.ensures.failed, breaks_off none_asked, one_noted _ noted)) c.note_command.ensures
