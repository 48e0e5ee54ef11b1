use Rattle.line_world.proofs.Histories.{one_token_so}
use Rattle.line_world.proofs.laws.at_most_one_token.Goals as goal

pub returns : goal.returns
returns c = one_token_so c.laws_below.ensures
