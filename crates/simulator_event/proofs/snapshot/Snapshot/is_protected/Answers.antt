use Rattle.std.proofs.lemmas.Bool.{false≢true}
use Rattle.simulator_event.proofs.Safety.{held_there}
use Rattle.simulator_event.proofs.snapshot.Snapshot.is_protected.Goals as goal

pub is_protected_by-requires-clause-there : goal.is_protected_by-requires-clause-there
is_protected_by-requires-clause-there c = held_there c.args.table.now c.args.self.now c.args.signal c.in-Some.route c.requires c.in-Some.ensures.found

pub returns-in-None : goal.returns-in-None
returns-in-None c = (λ f. absurd (false≢true f), λ p. absurd (c.in-None.ensures.none p.route p.held))
