use Rattle.std.proofs.Common.{◌≡◌, length, arith}
use Rattle.simulator_event.proofs.Safety.{of_from}
use Rattle.simulator_event.proofs.snapshot.Snapshot.is_of.Goals as goal

pub returns : goal.returns
returns c =
    let signals : length c.args.self.now.shows.items ≡ length c.args.table.now.signals = grind arith in
    let points : length c.args.self.now.position.items ≡ length c.args.table.now.points = grind arith in
    let drives : length c.args.self.now.driven.items ≡ length c.args.table.now.points = grind arith in
    (λ yes. of_from c.args.table.now c.args.self.now signals points drives (c.are_there.ensures.0 yes), λ of. c.are_there.ensures.1 of.there)
