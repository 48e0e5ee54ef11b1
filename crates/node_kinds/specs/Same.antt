-- What stays as it is.
use Rattle.std.specs.Prelude.{◌≡◌, length}
use Rattle.node_kinds.specs.Openings.{Opening}

-- the same station and the same equipment, with as many sections
pub record IsSameOpening (old new : Opening) : Type 0 where
  pub site : new.site ≡ old.site
  pub equipment : new.equipment ≡ old.equipment
  pub sections : length new.sections ≡ length old.sections
