-- The datagrams that the network still has.
use Rattle.std.specs.Prelude.{not, List, drop}
use Rattle.std.specs.List.{filter}
use Rattle.simulator_spec.specs.rasta_core.Links.{OnLink}
use Rattle.simulator_field.specs.declared.bag.Bag.{Bag}

-- those of a list that aren't lost
abbrev pub not_lost : List OnLink → List OnLink
not_lost sent = filter (λ one. not one.datagram.is_lost) sent

-- those that a bag still lends
abbrev pub in_bag : Bag → List OnLink
in_bag bag = not_lost (drop bag.place bag.network.now.sent)
