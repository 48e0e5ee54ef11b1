use Rattle.std.proofs.Common.{sym, ap, subst, ◌∙◌, ℕ, List}
use Rattle.rasta_pdu.specs.SafetyCode.{IsIntact}
use Rattle.rasta_pdu.specs.PduRead.{reading}
use Rattle.rasta_pdu.proofs.CodecLaws.{writing_long, writing_short, writing_intact, reading_writing}
use Rattle.rasta_pdu.proofs.writer.write.Goals as goal

pub returns-clause-least : goal.returns-clause-least
returns-clause-least c = rw c.spelled.ensures.value (writing_long c.args.key.now c.args.pdu.now)

pub returns-clause-most : goal.returns-clause-most
returns-clause-most c = rw c.spelled.ensures.value (writing_short c.args.key.now c.args.pdu.now c.spelled.ensures.fits)

pub returns-clause-intact : goal.returns-clause-intact
returns-clause-intact c = subst (λ (bytes : List ℕ). IsIntact c.args.key.now bytes) (sym c.spelled.ensures.value) (writing_intact c.args.key.now c.args.pdu.now c.spelled.ensures.fits)

pub returns-clause-read_again : goal.returns-clause-read_again
returns-clause-read_again c = ap (reading c.args.key.now) c.spelled.ensures.value ∙ reading_writing c.args.key.now c.args.pdu.now c.spelled.ensures.fits
