-- A text that a writer takes in parts.
use Rattle.std.proofs.Common.{◌≡◌, ℕ, ◌+◌, List, take, drop, Option}
use Rattle.std.proofs.KnownBytes.{Appends-trans, Appends-kept}
use Rattle.std.proofs.Math.Seq.{take-add}
use Rattle.std.specs.Io.KnownBytes.{Appends, Keeps}

pub more_taken : (text : List ℕ) (n m : ℕ) (c d e : Option (List ℕ)) → Appends c d (take n text) → Appends d e (take m (drop n text)) → Appends c e (take (n + m) text)
more_taken text n m c d e first then = rw (take-add n m text) (Appends-trans c d e (take n text) (take m (drop n text)) first then)

pub none_taken : (text : List ℕ) (c d e : Option (List ℕ)) → Appends c d text → Keeps d e → Appends c e text
none_taken text c d e taken kept = Appends-kept c d e text taken kept
