use Rattle.closings_file.proofs.Calls.{all_is_kept, makes_these_moves}
use Rattle.closings_file.proofs.laws.a_keep_makes_these_moves.Goals as goal

pub returns-clause-calls : goal.returns-clause-calls
returns-clause-calls c = makes_these_moves

pub returns-clause-kept : goal.returns-clause-kept
returns-clause-kept c = all_is_kept
