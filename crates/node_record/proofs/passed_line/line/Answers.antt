use Rattle.std.proofs.Common.{◌∙◌, ap, rules}
use Rattle.std.specs.Prelude.{string_bytes}
use Rattle.node_record.specs.NodeLines.{name_or_none}
use Rattle.node_record.proofs.Lines.{delivered_told, lost_told, sent_told}
use Rattle.node_record.proofs.passed_line.line.Goals as goal

pub returns-in-Sent : goal.returns-in-Sent
returns-in-Sent c =
    let one = c.args.one.now in
    sent_told c.args.layout.now c.args.node one.reading one.way one.bytes.now c.name_or_none-own.result.now (string_bytes c.in_ok-words.words)
    (c.name_or_none-own.ensures ∙ ap name_or_none c.node_name-own.ensures) c.in_ok-words.ensures (λ line. string_bytes line) c.format.result
    c.in-Sent.to c.name_or_none-to.result.now c.in-Sent.is (c.name_or_none-to.ensures ∙ ap name_or_none c.node_name-to.ensures) c.format.ensures.ok

pub returns-in-Delivered : goal.returns-in-Delivered
returns-in-Delivered c =
    let one = c.args.one.now in
    delivered_told c.args.layout.now c.args.node one.reading one.way one.bytes.now c.name_or_none-own.result.now (string_bytes c.in_ok-words.words)
    (c.name_or_none-own.ensures ∙ ap name_or_none c.node_name-own.ensures) c.in_ok-words.ensures (λ line. string_bytes line) c.format-in-Delivered.result
    c.in-Came.from c.in-Came.over c.over_text-over.result.now (search rules) c.over_text-over.ensures c.format-in-Delivered.ensures.ok

pub returns : goal.returns
returns c =
    let one = c.args.one.now in
    lost_told c.args.layout.now c.args.node one.reading one.way one.bytes.now c.name_or_none-own.result.now (string_bytes c.in_ok-words.words)
    (c.name_or_none-own.ensures ∙ ap name_or_none c.node_name-own.ensures) c.in_ok-words.ensures (λ line. string_bytes line) c.format-in_default.result
    c.in-Came.from c.in-Came.over c.in-Came.reception c.over_text-over.result.now c.comment-why.result.now c.in-Came.is c.in_default.not-Delivered c.over_text-over.ensures c.comment-why.ensures
    c.format-in_default.ensures.ok
