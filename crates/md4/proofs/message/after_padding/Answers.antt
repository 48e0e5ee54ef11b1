use Rattle.std.proofs.Common.{◌≡◌, [], ◌+◌, ◌*◌, ◌/◌, ◌∙◌, length, arith}
use Rattle.md4.proofs.Blocks.{after_all_done}
use Rattle.md4.proofs.Padding.{padding_placed}
use Rattle.md4.proofs.message.after_padding.Goals as goal
use Rattle.md4.proofs.message.after_padding.Goals.{then-left, else-left}

pub returns : goal.returns
returns c =
    let place : c.if-left.end ≡ (length c.args.left.now + 72) / 64 * 64 =
    elim c.if-left.branch [ then-left w ↦ omega arith | else-left w ↦ omega arith ] in
    let bits = c.copy_from_slice-2.ensures.after ∙ c.to_le_bytes.ensures in
    after_all_done c.args.registers c.after_whole_blocks.result.0 c.after_whole_blocks.result.1.now _ _ (c.after_whole_blocks.ensures.value [])
    (omega arith)
    (padding_placed c.copy_from_slice.new.self c.args.left.now c.copy_from_slice-2.new.self c.args.len c.if-left.end _ c.copy_from_slice.ensures.after c.requires place bits)
