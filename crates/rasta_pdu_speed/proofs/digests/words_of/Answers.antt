use Rattle.std.proofs.Common.{rules}
use Rattle.md4.specs.Md4.{block_words}
use Rattle.rasta_pdu_speed.proofs.digests.words_of.Goals as goal

pub returns : goal.returns
unfolding block_words
returns c = search rules
