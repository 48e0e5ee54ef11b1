use Rattle.std.proofs.Common.{rules, arith}
use Rattle.capture_file.proofs.Packets.{pseudo_sum}
use Rattle.capture_file.proofs.internet.pseudo_header_sum.Goals as goal

pub returns-clause-known : goal.returns-clause-known
returns-clause-known c = search rules

pub returns-clause-value : goal.returns-clause-value
returns-clause-value c =
    let all = pseudo_sum c.args.journey.now c.args.count (returns-clause-known c) c.ranges.count.fits in
    omega (arith, all, c.sum_of_words-sender.ensures.value, c.sum_of_words-receiver.ensures.value)
