-- What is told of the networks of a node that has two: the first is called A and the second B.
--
--     network A lost S1     nothing came from S1 over the first network for 1500 ms, while the link to S1 was up
--     network A back S1     something came over it again
use Rattle.std.specs.Prelude.{ℕ, suc, List, [], ◌∷◌, ◌++◌, codes, Option, Some, None, slice_get}
use Rattle.network_watch.specs.Links.{came_over}
use Rattle.network_watch.specs.Watches.{noted, told_at}
use Rattle.network_watch.specs.datagram_hold.declared.network.Network.{Network as Which}
use Rattle.network_watch.specs.datagram_hold.declared.network.Network.TheVariants as which
use Rattle.network_watch.specs.declared.link_watch.LinkWatch.{LinkWatch}
use Rattle.network_watch.specs.declared.network_watch.Telling.{Telling}
use Rattle.network_watch.specs.declared.path_seen.News.{News}
use Rattle.network_watch.specs.declared.path_seen.News.TheVariants.{Lost, Back}
use Rattle.node_drive.specs.Calls.{DatagramHeard, Came}
use Rattle.node_drive.specs.declared.outside.Network.{Network}
use Rattle.node_drive.specs.declared.outside.Network.TheVariants.{Alone, First, Second}
use Rattle.node_drive.specs.declared.outside.Origin.{Origin}
use Rattle.node_drive.specs.layout.Entries.{Site}
use Rattle.node_drive.specs.node_lines.Known.{node_word}
use Rattle.node_drive.specs.simulator_event.layout.declared.ids.NodeId.{NodeId}

-- ---- what is seen

-- a datagram came from there, over one of two networks
abbrev pub came_by : Option NodeId → Network → List LinkWatch → List LinkWatch
came_by (Some node) First links = noted (came_over which.First) node.0 links (slice_get links node.0)
came_by (Some node) Second links = noted (came_over which.Second) node.0 links (slice_get links node.0)
came_by from over links = links

abbrev pub came_from : Origin → List LinkWatch → List LinkWatch
came_from origin links = came_by origin.from origin.over links

abbrev pub seen : DatagramHeard → List LinkWatch → List LinkWatch
seen (Came arrival) links = came_from arrival.0 links
seen heard links = links

-- ---- what is told

abbrev pub letter : Which → List ℕ
letter which.First = codes "A"
letter which.Second = codes "B"

abbrev pub news_word : News → List ℕ
news_word Lost = codes "lost"
news_word Back = codes "back"

abbrev pub news_line : Site → ℕ → Which → News → List ℕ
news_line site node over news = codes "network " ++ (letter over ++ 32 ∷ (news_word news ++ 32 ∷ (node_word site (record { 0 = node }) ++ codes "\n")))

abbrev pub news_if : Site → ℕ → Which → Option News → List ℕ
news_if site node over (Some news) = news_line site node over news
news_if site node over None = []

-- of both networks at a node
abbrev pub node_lines : Site → Telling → ℕ → Option LinkWatch → List ℕ
node_lines site telling node link = news_if site node which.First (told_at telling which.First link) ++ news_if site node which.Second (told_at telling which.Second link)

-- at all nodes, from a place on
abbrev pub lines_from : Site → Telling → ℕ → List LinkWatch → List ℕ
lines_from site telling node [] = []
lines_from site telling node (link ∷ more) = node_lines site telling node (Some link) ++ lines_from site telling (suc node) more

abbrev pub news_text : Site → Telling → List LinkWatch → List ℕ
news_text site telling links = lines_from site telling 0 links
