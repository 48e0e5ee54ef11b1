-- How many datagrams each network may still bring in a round.
use Rattle.std.specs.Prelude.{◌-◌, ◌==◌, ◌&&◌, nat_lt, if◌then◌else◌, Bool, Option, Some, None}
use Rattle.datagram_hold.specs.declared.network.Network.{Network}
use Rattle.datagram_hold.specs.declared.network.Network.TheVariants.{First, Second}
use Rattle.node_network.specs.declared.shares.Shares.{Shares}

-- as a round begins: each of two has as much, and both together as much as one alone
abbrev pub whole : Bool → Shares
whole has_two = if has_two then record { first = 31; second = 31 } else record { first = 62; second = 0 }

-- The network that has more left is asked next, and the first where both have as much.
abbrev pub next_of : Shares → Option Network
next_of shares = if (shares.first == 0) && (shares.second == 0) then None else Some (if nat_lt shares.first shares.second then Second else First)

-- one brought a datagram
abbrev pub less_one : Network → Shares → Shares
less_one First shares = record shares { first = shares.first - 1 }
less_one Second shares = record shares { second = shares.second - 1 }

-- one isn't asked any more
abbrev pub ended : Network → Shares → Shares
ended First shares = record shares { first = 0 }
ended Second shares = record shares { second = 0 }
