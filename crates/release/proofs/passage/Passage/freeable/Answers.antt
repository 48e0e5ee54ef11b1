use Rattle.std.proofs.Common.{rules}
use Rattle.release.proofs.Looks.{lets_go}
use Rattle.release.proofs.passage.Passage.freeable.Goals as goal

pub returns-then-k-self-clause-told : goal.returns-then-k-self-clause-told
returns-then-k-self-clause-told c = λ looks told. lets_go c.args.self.now looks c.args.k c.args.ended _ told (search rules)

pub returns-else-k-self-clause-told : goal.returns-else-k-self-clause-told
returns-else-k-self-clause-told c = λ looks told. lets_go c.args.self.now looks c.args.k c.args.ended _ told (search rules)

pub returns-else-not-contains-clause-told : goal.returns-else-not-contains-clause-told
returns-else-not-contains-clause-told c = λ looks told. lets_go c.args.self.now looks c.args.k c.args.ended _ told (search rules)
