use Rattle.std.proofs.Common.{inl, inr, arith}
use Rattle.replay_words.proofs.Spelled.{hexadecimal-outside}
use Rattle.replay_words.proofs.read.hexadecimal.Goals as goal
use Rattle.replay_words.proofs.read.hexadecimal.Goals.{then-length-lt-SHORTEST-via-then-length-lt-SHORTEST, then-length-lt-SHORTEST-via-else-length-lt-SHORTEST+then-length-gt-LONGEST_DATAGRAM}

pub returns-then-length-lt-SHORTEST : goal.returns-then-length-lt-SHORTEST
returns-then-length-lt-SHORTEST c = hexadecimal-outside c.args.word.now (
    elim c.then-length-lt-SHORTEST.branch [
      | then-length-lt-SHORTEST-via-then-length-lt-SHORTEST w ↦ inl (omega arith)
      | then-length-lt-SHORTEST-via-else-length-lt-SHORTEST+then-length-gt-LONGEST_DATAGRAM w ↦ inr (omega arith)
    ])
