use Rattle.std.proofs.Common.{◌∙◌}
use Rattle.rasta_pdu.proofs.Intact.{is_intact_value, intact_meaning}
use Rattle.rasta_pdu.proofs.safety_code.is_intact.Goals as goal

pub returns-clause-value : goal.returns-clause-value
returns-clause-value c = c.is_ok.ensures.value ∙ is_intact_value (λ text. text.now) c.text.result c.args.key.now c.args.bytes.now c.text.ensures.value

pub returns-clause-meaning : goal.returns-clause-meaning
returns-clause-meaning c = intact_meaning c.args.key.now c.args.bytes.now c.is_ok.result (c.is_ok.ensures.value ∙ is_intact_value (λ text. text.now) c.text.result c.args.key.now c.args.bytes.now c.text.ensures.value)
