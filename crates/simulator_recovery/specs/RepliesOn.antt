-- A link of a station at whose controller an item is given in a good round.
use Rattle.std.specs.Prelude.{◌≡◌, ℕ, ◌≤◌, List, [], ◌∷◌}
use Rattle.rasta_core_recovery.specs.Replies.{Accepts, with_reply}
use Rattle.simulator_spec.specs.layout.Entries.{Site}
use Rattle.simulator_spec.specs.rasta_core.Events.{Event as LinkEvent, run}
use Rattle.simulator_spec.specs.rasta_core.Links.{Links, seen}
use Rattle.simulator_spec.specs.rasta_core.Run.{Ends, later}
use Rattle.simulator_spec.specs.simulator_event.declared.event.Event.{Event}
use Rattle.simulator_spec.specs.Flow.{Flowing, round}
use Rattle.simulator_spec.specs.Links.{AreLinksOf}
use Rattle.simulator_recovery.specs.LinkRounds.{calls_on, links_behind}
use Rattle.simulator_recovery.specs.Rounds.{all_tried}

-- the two ends of a link in a round, after these calls of it
abbrev pub in_round_on : ℕ → List LinkEvent → Links → Ends
in_round_on link front before = run front (later 10000 10000 10000 (seen link before))

-- In the next round the controller of a link accepts an item, after calls by which it has taken as many items as the interlocking had
-- given before the round.
pub record RepliesOn (link : ℕ) (between : List Event) (flowing : Flowing) (before : Links) : Type 0 where
  pub front : List LinkEvent
  pub item : List ℕ
  pub rest : List LinkEvent
  pub are : calls_on link between flowing before ≡ with_reply front item rest
  pub accepts : Accepts (in_round_on link front before).server
  pub has_taken : (seen link before).client.link.given ≤ (in_round_on link front before).server.link.taken

-- so it is after these rounds
abbrev pub RepliesAfter : ℕ → List (List Event) → List Event → Flowing → Links → Type 0
RepliesAfter link [] between flowing before = RepliesOn link between flowing before
RepliesAfter link (first ∷ later) between flowing before = RepliesAfter link later between (all_tried first (round flowing)) (links_behind first flowing before)

-- the same, whatever links they are that are those of the station
abbrev pub RepliesBehind : Site → ℕ → List (List Event) → List Event → Flowing → Type 0
RepliesBehind site link later between flowing = (before : Links) → AreLinksOf site flowing.state.run before → RepliesAfter link later between flowing before
