-- The first of good rounds, where nothing that is said on a link in it comes in it in the place of something old.
use Rattle.std.specs.Prelude.{◌≡◌, ℕ, ◌+◌, ◌-◌, false, length, map, drop, None}
use Rattle.simulator_spec.specs.rasta_core.Bag.{newest_copy}
use Rattle.simulator_spec.specs.rasta_core.Each.{Each}
use Rattle.simulator_spec.specs.rasta_core.Links.{OnLink}
use Rattle.simulator_spec.specs.Flow.{Flowing, deliveries, round_of_time}
use Rattle.simulator_spec.specs.Network.{datagrams_of}
use Rattle.simulator_spec.specs.Tried.{Played, after, arrival_in}
use Rattle.simulator_recovery.specs.LinkRounds.{event_of}
use Rattle.simulator_recovery.specs.Rounds.{all_tried}

-- the station of a flow after all that comes in its next round, before a node ticks
abbrev pub behind_arrivals : Flowing → Played
behind_arrivals flowing =
    (all_tried (map event_of (deliveries (arrival_in flowing.state) flowing.passed (length flowing.state.run.sent - flowing.passed)))
    (record flowing { state = after flowing.state (round_of_time flowing.state.sited.site) })).state

-- Of what the flow hasn't gone past on a link, nothing of which no copy can come as its first round begins is said again in this round until
-- all has come. So whatever comes on the link in this round was sent before it. What nodes say as they tick comes in the next one.
abbrev pub NoneIsSaidAgain : ℕ → Flowing → Type 0
NoneIsSaidAgain link flowing =
    Each (λ (one : OnLink). one.link ≡ link → one.datagram.is_lost ≡ false
    → newest_copy (flowing.state.run.time + 10000) one.datagram.bytes (datagrams_of flowing.state.run.sent) ≡ None
    → newest_copy (flowing.state.run.time + 10000) one.datagram.bytes (datagrams_of (behind_arrivals flowing).run.sent) ≡ None)
    (drop flowing.passed flowing.state.run.sent)

-- from this good round on each link is up at both ends then: 15,610 ms after the good rounds began
abbrev pub first_link_rounds : ℕ
first_link_rounds = 1561

-- and from this one on it is ready at both ends: 15,640 ms after the good rounds began
abbrev pub first_ready_rounds : ℕ
first_ready_rounds = 1564
