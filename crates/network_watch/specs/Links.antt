-- What is seen of both networks at a partner, round by round, and what is told of them.
use Rattle.std.specs.Prelude.{ℕ, ◌-◌, ◌&&◌, nat_le, if◌then◌else◌, Bool, true, false, Option, Some, None}
use Rattle.datagram_hold.specs.declared.network.Network.{Network}
use Rattle.datagram_hold.specs.declared.network.Network.TheVariants.{First, Second}
use Rattle.network_watch.specs.declared.link_watch.LinkUse.{LinkUse}
use Rattle.network_watch.specs.declared.link_watch.LinkWatch.{LinkWatch}
use Rattle.network_watch.specs.declared.network_watch.Telling.{Telling}
use Rattle.network_watch.specs.declared.network_watch.Telling.TheVariants.{Changes, Standing}
use Rattle.network_watch.specs.declared.path_seen.News.{News}
use Rattle.network_watch.specs.declared.path_seen.News.TheVariants.{Lost, Back}
use Rattle.network_watch.specs.declared.path_seen.PathSeen.{PathSeen}
use Rattle.network_watch.specs.declared.path_seen.TheConstants.{SILENCE}

-- 1500 ms or more lie between two readings
abbrev pub is_long : ℕ → ℕ → Bool
is_long since reading = nat_le SILENCE (reading - since)

-- ---- the link

-- A link is up from the end of the first round on in which something is sent,
abbrev pub begun : Bool → ℕ → Option LinkUse
begun true reading = Some (record { since = reading; last = reading })
begun false reading = None

abbrev pub still_used : Bool → ℕ → LinkUse → LinkUse
still_used true reading used = record { since = used.since; last = reading }
still_used false reading used = used

-- until nothing was sent for 1500 ms.
abbrev pub used_after : Bool → ℕ → Option LinkUse → Option LinkUse
used_after sent reading None = begun sent reading
used_after sent reading (Some used) = if is_long used.last reading then begun sent reading else Some (still_used sent reading used)

-- it is up for 1500 ms or more
abbrev pub is_up_long : ℕ → Option LinkUse → Bool
is_up_long reading None = false
is_up_long reading (Some used) = is_long used.since reading

-- ---- a network

-- nothing came for 1500 ms
abbrev pub is_silent : ℕ → Option ℕ → Bool
is_silent reading None = true
is_silent reading (Some last) = is_long last reading

-- What is to be told at the end of a round: that it is lost, where it wasn't, nothing came for 1500 ms, and the link is up for so long;
-- that it is back, where it was lost and something came.
abbrev pub news_by : Bool → Bool → Bool → Option News
news_by true true due = Some Back
news_by false false true = Some Lost
news_by lost came due = None

abbrev pub news_of : ℕ → Bool → PathSeen → Option News
news_of reading up_long path = news_by path.is_lost path.came (up_long && is_silent reading path.last)

abbrev pub lost_after : Bool → Option News → Bool
lost_after before None = before
lost_after before (Some Lost) = true
lost_after before (Some Back) = false

abbrev pub last_after : ℕ → PathSeen → Option ℕ
last_after reading path = if path.came then Some reading else path.last

-- A round ends at a reading, where the link is up for 1500 ms or isn't.
abbrev pub path_after : ℕ → Bool → PathSeen → PathSeen
path_after reading up_long path = record {
  came = false;
  last = last_after reading path;
  is_lost = lost_after path.is_lost (news_of reading up_long path);
  news = news_of reading up_long path;
}

-- ---- both

abbrev pub nothing_seen : PathSeen
nothing_seen = record { came = false; last = None; is_lost = false; news = None }

-- nothing was sent, and nothing came
abbrev pub new_link : LinkWatch
new_link = record { sent = false; used = None; first = nothing_seen; second = nothing_seen }

-- something was sent
abbrev pub sends : LinkWatch → LinkWatch
sends link = record link { sent = true }

-- something came over a network
abbrev pub comes : PathSeen → PathSeen
comes path = record path { came = true }

abbrev pub came_over : Network → LinkWatch → LinkWatch
came_over First link = record link { first = comes link.first }
came_over Second link = record link { second = comes link.second }

-- a round ends at a reading
abbrev pub ended_by : ℕ → Option LinkUse → LinkWatch → LinkWatch
ended_by reading used link = record {
  sent = false;
  used = used;
  first = path_after reading (is_up_long reading used) link.first;
  second = path_after reading (is_up_long reading used) link.second;
}

abbrev pub ended : ℕ → LinkWatch → LinkWatch
ended reading link = ended_by reading (used_after link.sent reading link.used) link

-- what is seen of a network
abbrev pub path_in : Network → LinkWatch → PathSeen
path_in First link = link.first
path_in Second link = link.second

-- what is told of it: what changed at the end of the last round, or that it is lost, where it is
abbrev pub lost_if : Bool → Option News
lost_if true = Some Lost
lost_if false = None

abbrev pub told_of : Telling → PathSeen → Option News
told_of Changes path = path.news
told_of Standing path = lost_if path.is_lost
