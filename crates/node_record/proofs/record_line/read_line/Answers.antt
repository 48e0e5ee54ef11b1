use Rattle.std.proofs.Common.{◌∙◌, ap, sym, subst}
use Rattle.replay_lines.specs.Given.{Gives}
use Rattle.node_record.specs.RecordLines.{line_said, told}
use Rattle.node_record.proofs.FormsRead.{line_by_form, other_form, said_by}
use Rattle.node_record.proofs.record_line.read_line.Goals as goal

pub returns-in_default-form : goal.returns-in_default-form
returns-in_default-form c =
    let site = c.args.layout.now in
    let rest = c.next.new.self in
    let not = c.in_default-form in
    let words_are = sym c.of-words.ensures ∙ c.in-Some.ensures.steps in
    let form_is = sym c.told_by.ensures ∙ c.in-Some-told_by.is in
    let by_form = line_by_form site rest c.in-Some.first.now ∙ ap (said_by site rest) form_is in
    let by_other = other_form site rest c.in-Some-told_by.form not.not-Comes not.not-Sends not.not-ThrowsAway in
    let line_is = ap (line_said site) words_are ∙ (by_form ∙ by_other) in
    subst (λ said. Gives told said c.other.result) (sym line_is) c.other.ensures
