-- The datagrams that the network still has.
use Rattle.std.specs.Prelude.{not, List}
use Rattle.std.specs.List.{filter}
use Rattle.rasta_core.specs.Ends.{Sent}
use Rattle.simulator_pair.specs.declared.bag.Bag.{Bag}

-- those of a list that aren't lost
abbrev pub not_lost : List Sent → List Sent
not_lost sent = filter (λ s. not s.is_lost) sent

-- those that a bag still lends
abbrev pub in_bag : Bag → List Sent
in_bag bag = not_lost bag.sent.now
