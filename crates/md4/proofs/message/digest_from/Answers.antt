use Rattle.std.proofs.Common.{List, ℕ, length, ap, ◌∙◌}
use Rattle.md4.specs.Md4.{digest, padding, register_bytes}
use Rattle.md4.proofs.message.digest_from.Goals as goal

pub returns : goal.returns
unfolding digest
returns c =
    let after = c.after_padding.ensures ∙ c.after_whole_blocks.ensures.value (padding (length c.args.bytes.now)) in
    c.bytes_of.ensures ∙ ap (λ (h : List ℕ). register_bytes h) after
