-- What comes over on a link of a station from one moment to a later one.
use Rattle.std.specs.Prelude.{ℕ, ◌^◌, ◌≤◌, ◌<◌}
use Rattle.simulator_spec.specs.rasta_core.State.{confirmed_items}
use Rattle.simulator_spec.specs.State.{WorldState}
use Rattle.simulator_recovery.specs.LinkRounds.{IsUpOn}

-- A link is up at both ends at two moments, and by the later one each end has taken as many items in its connection as the other had
-- given by the earlier one, as their links count; they count far from their greatest values.
pub record HasHandedOver (link : ℕ) (old new : WorldState) : Type 0 where
  pub before : IsUpOn link old
  pub behind : IsUpOn link new
  pub to_controller : before.client.given ≤ behind.server.link.taken
  pub controller_few : behind.server.link.taken < 2 ^ 31
  pub to_interlocking : before.server.link.given ≤ behind.client.taken
  pub interlocking_few : behind.client.taken < 2 ^ 31

-- A link is up at both ends at two moments, and by the later one the interlocking's end holds for confirmed as many items as it had given
-- by the earlier one.
pub record HasConfirmed (link : ℕ) (old new : WorldState) : Type 0 where
  pub before : IsUpOn link old
  pub behind : IsUpOn link new
  pub confirmed : before.client.given ≤ confirmed_items behind.client

-- A link is up at both ends at two moments, and the interlocking's end has sent more PDUs in its connection by the later one.
pub record HasSpoken (link : ℕ) (old new : WorldState) : Type 0 where
  pub before : IsUpOn link old
  pub behind : IsUpOn link new
  pub sent : before.client.sent < behind.client.sent

-- A link is up at both ends at three moments. The interlocking's end has been given nothing between the first and the last, and has sent
-- something since the second.
pub record HasSpokenAlone (link : ℕ) (first second last : WorldState) : Type 0 where
  pub old : IsUpOn link first
  pub mid : IsUpOn link second
  pub new : IsUpOn link last
  pub quiet : new.client.given ≤ old.client.given
  pub sent : mid.client.sent < new.client.sent

-- A link is up at both ends at three moments. At the second one the controller's end holds no more for confirmed than at the first one; at
-- the last one it holds for confirmed all that it had given by the first one.
pub record ConfirmsAtOnce (link : ℕ) (one two three : WorldState) : Type 0 where
  pub first : IsUpOn link one
  pub second : IsUpOn link two
  pub third : IsUpOn link three
  pub still : confirmed_items second.server.link ≤ confirmed_items first.server.link
  pub all : first.server.link.given ≤ confirmed_items third.server.link
