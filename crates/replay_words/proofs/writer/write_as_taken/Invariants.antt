use Rattle.std.proofs.Common.{◌≤◌, length, take}
use Rattle.std.specs.Io.KnownBytes.{Appends}
use Rattle.replay_words.proofs.writer.write_as_taken.Given as goal

abbrev pub invariant-loop : goal.invariant-loop
invariant-loop g l = (l.taken ≤ length l.text) × Appends (g.E.Write.contents l.fn.err) (g.E.Write.contents l.err) (take l.taken l.text)
