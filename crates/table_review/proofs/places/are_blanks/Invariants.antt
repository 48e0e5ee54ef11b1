use Rattle.table_review.specs.Places.{AreBlanks}
use Rattle.table_review.proofs.places.are_blanks.Given as goal

abbrev pub invariant-loop-at : goal.invariant-loop-at
invariant-loop-at l = AreBlanks l.text l.from l.at
