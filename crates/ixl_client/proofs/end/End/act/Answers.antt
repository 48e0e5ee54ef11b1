use Rattle.ixl_client.proofs.PartsFollow.{acts}
use Rattle.ixl_client.proofs.end.End.act.Goals as goal

pub returns-clause-goes : goal.returns-clause-goes
returns-clause-goes c = acts _ _ _ _ _ c.meaning_of-meaning.ensures (c.follow.ensures.goes _)
