use Rattle.std.proofs.Common.{◌≡◌, ◌≤◌, ◌<◌, length, Ok, Err, IfOk, string_bytes, true, ◌∙◌, ap, arith, false-eqb}
use Rattle.hex.specs.Hex.{encode_lower}
use Rattle.replay_words.specs.Read.{hexadecimal_or_none}
use Rattle.replay_words.specs.Words.{is_without}
use Rattle.replay_words.proofs.Spelled.{hexadecimal_or_none-encode_lower}
use Rattle.replay_words.proofs.Written.{encode_lower-word}
use Rattle.replay_words.proofs.read.hex_word.Goals as goal

pub returns-else-is_empty-clause-read_back : goal.returns-else-is_empty-clause-read_back
returns-else-is_empty-clause-read_back c =
    let some : 0 < length c.args.bytes.now = omega (arith, false-eqb _ 0 c.if-is_empty.ensures) in
    elim c.encode.result as (λ r. IfOk r (λ word. string_bytes word ≡ encode_lower c.args.bytes.now) → IfOk r (λ word. length c.args.bytes.now ≤ 512 → hexadecimal_or_none (string_bytes word) ≡ Ok c.args.bytes.now)) [
      | Ok word ↦ λ e few. ap hexadecimal_or_none e ∙ hexadecimal_or_none-encode_lower c.args.bytes.now some few (λ i. omega (arith, c.type_inv.bytes i))
      | Err e ↦ λ _. tt
    ] c.encode.ensures

pub returns-else-is_empty-clause-no_space : goal.returns-else-is_empty-clause-no_space
returns-else-is_empty-clause-no_space c =
    elim c.encode.result as (λ r. IfOk r (λ word. string_bytes word ≡ encode_lower c.args.bytes.now) → IfOk r (λ word. is_without 32 (string_bytes word) ≡ true)) [
      | Ok word ↦ λ e. ap (is_without 32) e ∙ encode_lower-word c.args.bytes.now
      | Err e ↦ λ _. tt
    ] c.encode.ensures
