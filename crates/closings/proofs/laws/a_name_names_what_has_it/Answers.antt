use Rattle.closings.proofs.Said.{named_says, says_named}
use Rattle.closings.proofs.laws.a_name_names_what_has_it.Goals as goal

pub returns : goal.returns
returns c l n word side once = (named_says l n word side, says_named l once n word side)
