use Rattle.std.proofs.Common.{ℕ, List, ap, subst}
use Rattle.std.specs.Option.{option_map}
use Rattle.closings_file.specs.Files.{KeeperState}
use Rattle.station_node.specs.Takeover.{Finds}
use Rattle.station_node.proofs.Taken.{finds}
use Rattle.station_node.proofs.with_file.WithFile.begin.Goals as goal

pub returns-clause-takeover : goal.returns-clause-takeover
returns-clause-takeover g c =
    subst (λ (head : List ℕ). Finds c.args.layout.now head c.in_ok-takeover.takeover) (ap (λ (k : KeeperState). k.head) c.in_ok-keeper.ensures)
    (finds c.args.layout.now c.in_ok-keeper.keeper.head c.read.result (option_map (λ bytes. bytes.items)) c.in_ok-takeover.takeover c.in_ok-takeover.ensures.read c.in_ok-takeover.ensures.unreadable)
