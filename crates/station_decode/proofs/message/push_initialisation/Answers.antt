use Rattle.std.proofs.Common.{◌∙◌, ◌++◌, ap, List, ℕ, string_bytes}
use Rattle.std.proofs.lemmas.Result.{on_ok_weaker}
use Rattle.station_decode.specs.Words.{protocol_word}
use Rattle.station_decode.proofs.WordsInLine.{step-added}
use Rattle.station_decode.proofs.message.push_initialisation.Goals as goal

pub returns : goal.returns
returns c =
    let old = string_bytes c.args.text.now in
    on_ok_weaker c.push_step.result
    (step-added (protocol_word c.args.protocol) c.args.message.now old (string_bytes c.push_str.new.self) (string_bytes c.push_str-2.new.self) (string_bytes c.push_step.new.text)
    (c.in_ok-push_str.ensures.bytes ∙ ap (λ (word : List ℕ). old ++ word) c.protocol_word.ensures) c.in_ok-push_str-2.ensures.bytes)
    c.push_step.ensures
