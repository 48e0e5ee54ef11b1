-- When the rows of what is known stay as they are.
use Rattle.std.specs.Prelude.{◌≡◌, ℕ, ◌&&◌, List, Some}
use Rattle.ixl_spec.specs.sci_telegram.declared.message.Side.{Side}
use Rattle.ixl_spec.specs.ixl_client.Client.{is_available}
use Rattle.ixl_spec.specs.State.{KnownDetectorState, KnownPointState}
use Rattle.ixl_spec.specs.View.{is_side}
use Rattle.ixl_known.specs.inside.Rows.{is_at, is_free, told_as, told_by}

-- a point is as available as before, and known at the same side
pub record IsKnownAlike (old new : KnownPointState) : Type 0 where
  pub available : is_available new.client.stage ≡ is_available old.client.stage
  pub known : (side : Side) → (is_available new.client.stage && is_side side new.side) ≡ (is_available old.client.stage && is_side side old.side)

-- so are all points
pub record AreKnownAlike (old new : List KnownPointState) : Type 0 where
  pub available : (point : ℕ) → is_free new point ≡ is_free old point
  pub known : (side : Side) (point : ℕ) → is_at side new point ≡ is_at side old point

-- a detector tells of each place what it told before
abbrev pub TellsTheSame : KnownDetectorState → KnownDetectorState → Type 0
TellsTheSame old new = (place : ℕ) → told_by place (Some new) ≡ told_by place (Some old)

-- so do all detectors
abbrev pub TellTheSame : List KnownDetectorState → List KnownDetectorState → Type 0
TellTheSame old new = (reporter : ℕ × ℕ) → told_as new reporter ≡ told_as old reporter
