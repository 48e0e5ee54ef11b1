-- How much is given on a link between two moments.
use Rattle.std.specs.Prelude.{◌≡◌, ℕ, suc, ◌≤◌, Some, slice_get}
use Rattle.simulator_spec.specs.State.{WorldState}
use Rattle.simulator_recovery.specs.LinkRounds.{IsUpOn}

-- A link is up at two moments, in one connection, and by the later one the interlocking has given at least as many items there as by the
-- earlier one.
pub record HasGivenOn (link : ℕ) (old new : WorldState) : Type 0 where
  pub connection : ℕ
  pub was_in : slice_get old.interlocking.connections link ≡ Some (Some connection)
  pub is_in : slice_get new.interlocking.connections link ≡ Some (Some connection)
  pub before : IsUpOn link old
  pub behind : IsUpOn link new
  pub as_many : before.client.given ≤ behind.client.given

-- A link is up at two moments, and by the later one the interlocking has given at most one item more there than by the earlier one.
pub record HasGivenOneAtMost (link : ℕ) (old new : WorldState) : Type 0 where
  pub before : IsUpOn link old
  pub behind : IsUpOn link new
  pub more : behind.client.given ≤ suc before.client.given
