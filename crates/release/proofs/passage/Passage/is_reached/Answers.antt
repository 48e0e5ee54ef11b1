use Rattle.std.proofs.Common.{rules}
use Rattle.release.proofs.Looks.{some_reached, reached}
use Rattle.release.proofs.passage.Passage.is_reached.Goals as goal

pub returns-clause-value : goal.returns-clause-value
returns-clause-value c = some_reached c.args.self.now.seen c.first.result c.is_some.result (search rules) (search rules) (search rules)

pub returns-clause-told : goal.returns-clause-told
returns-clause-told c = λ looks told. reached c.args.self.now looks c.is_some.result told (returns-clause-value c)
