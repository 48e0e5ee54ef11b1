-- What is seen of both networks at all partners.
use Rattle.std.specs.Prelude.{ℕ, List, Option, Some, None, slice_set}
use Rattle.datagram_hold.specs.declared.network.Network.{Network}
use Rattle.network_watch.specs.Links.{path_in, told_of}
use Rattle.network_watch.specs.declared.link_watch.LinkWatch.{LinkWatch}
use Rattle.network_watch.specs.declared.network_watch.Telling.{Telling}
use Rattle.network_watch.specs.declared.path_seen.News.{News}

-- something is noted at the link of a place, and nothing where there is none
abbrev pub noted : (LinkWatch → LinkWatch) → ℕ → List LinkWatch → Option LinkWatch → List LinkWatch
noted note place links None = links
noted note place links (Some link) = slice_set links place (note link)

-- what is told of a network at a link, if there is one
abbrev pub told_at : Telling → Network → Option LinkWatch → Option News
told_at telling over None = None
told_at telling over (Some link) = told_of telling (path_in over link)
