-- What happened at a link, round by round, and what is told of its networks.
use Rattle.std.specs.Prelude.{◌≡◌, ◌≤◌, ◌<◌, ◌+◌, ◌⊎◌, ℕ, Bool, true, false, List, [], ◌∷◌, Option}
use Rattle.datagram_hold.specs.declared.network.Network.{Network}
use Rattle.datagram_hold.specs.declared.network.Network.TheVariants.{First, Second}
use Rattle.network_watch.specs.Links.{ended, new_link, path_in}
use Rattle.network_watch.specs.declared.link_watch.LinkWatch.{LinkWatch}
use Rattle.network_watch.specs.declared.path_seen.News.{News}

-- Whether something was sent to the partner in a round, whether something came from it over each network, and what the clock read at
-- the end.
pub record Round : Type 0 where
  pub sent : Bool
  pub first : Bool
  pub second : Bool
  pub reading : ℕ

abbrev pub came_in : Network → Round → Bool
came_in First round = round.first
came_in Second round = round.second

-- ---- what is seen and told, the last round first

-- a link at which this was noted, at the end of the round
abbrev pub made : Round → LinkWatch → LinkWatch
made round link =
    ended round.reading (record { sent = round.sent; used = link.used; first = record link.first { came = round.first }; second = record link.second { came = round.second } })

abbrev pub after : List Round → LinkWatch
after [] = new_link
after (last ∷ rounds) = made last (after rounds)

-- what is told of a network at the end of the last round
abbrev pub news_in : Network → List Round → Option News
news_in over rounds = (path_in over (after rounds)).news

-- it was told lost, and not back since
abbrev pub IsLost : Network → List Round → Type 0
IsLost over rounds = (path_in over (after rounds)).is_lost ≡ true

-- ---- in the words of the field

-- The clock doesn't fall.
abbrev pub RisesTo : ℕ → List Round → Type 0
RisesTo reading [] = Unit {0}
RisesTo reading (last ∷ rounds) = (last.reading ≤ reading) × RisesTo last.reading rounds

abbrev pub Rises : List Round → Type 0
Rises [] = Unit {0}
Rises (last ∷ rounds) = RisesTo last.reading rounds

-- what came over a network in a round came 1500 ms before a reading or more
abbrev pub IsBefore : Network → ℕ → Round → Type 0
IsBefore over reading round = came_in over round ≡ true → round.reading + 1500 ≤ reading

-- Something was sent in the round that ended at `since`, and from then on less than 1500 ms lay between each two rounds in which something
-- was sent, and between the last of them and the reading.
abbrev pub IsUpBy : Bool → Round → ℕ → ℕ → Type 0 → Type 0 → Type 0
IsUpBy true round since reading before by_it = (reading < round.reading + 1500) × ((round.reading ≡ since) ⊎ by_it)
IsUpBy false round since reading before by_it = before

abbrev pub IsUpSince : ℕ → ℕ → List Round → Type 0
IsUpSince since reading [] = ⊥
IsUpSince since reading (last ∷ rounds) = IsUpBy last.sent last since reading (IsUpSince since reading rounds) (IsUpSince since last.reading rounds)
