use Rattle.std.proofs.Common.{◌∙◌, Bool, ap, subst}
use Rattle.node_panel.specs.Turns.{IsQuestionIf, questioned_if}
use Rattle.node_panel.proofs.asking.ask_numbers.Goals as goal

pub returns : goal.returns
returns g c =
    let asked = c.write_question.ensures in
    let wants = c.wants_numbers-wants.ensures in (
      asked.0,
      asked.1,
      record {
        asks = subst (λ (w : Bool). IsQuestionIf w asked.0) wants asked.2;
        kept = c.note_question.ensures ∙ ap (λ (w : Bool). questioned_if w c.args.heard.now) wants;
      },
    )
