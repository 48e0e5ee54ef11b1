use Rattle.std.proofs.Common.{◌∙◌, ap, sym}
use Rattle.capture_file.specs.Checksum.{word_sum}
use Rattle.capture_file.proofs.Packets.{udp_checksum_told}
use Rattle.capture_file.proofs.internet.udp_checksum_of.Goals as goal

pub returns-clause-value : goal.returns-clause-value
returns-clause-value c =
    c.shown.ensures
    ∙ sym (udp_checksum_told c.args.journey.now c.args.payload.now _ _ _ _ c.pseudo_header_sum-pseudo.ensures.known c.pseudo_header_sum-pseudo.ensures.value
    (c.sum_of_words-header.ensures.value ∙ ap (λ b. word_sum b) c.udp_header_of.ensures) c.sum_of_words.ensures.value c.complement.ensures)
