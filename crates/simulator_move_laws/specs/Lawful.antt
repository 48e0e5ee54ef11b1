-- What is kept of a link by everything that can happen to it: for the laws, that follow from it.
use Rattle.std.specs.Prelude.{ℕ, ◌<◌}
use Rattle.rasta_core.specs.identity.Role.{Role}
use Rattle.rasta_core.specs.EachLink.{AreOrdered, AreTimely}
use Rattle.rasta_core.specs.Given.{IsGiven}
use Rattle.rasta_core.specs.Invariant.{Timely}
use Rattle.rasta_core.specs.Links.{Links, seen}
use Rattle.rasta_core.specs.Names.{Names}
use Rattle.rasta_core.specs.Newest.{IsNewest, IsUnused}
use Rattle.rasta_core.specs.Ordered.{Ordered}
use Rattle.rasta_core.specs.Run.{Ends}

-- Two ends keep time and are in order; what was sent tells their last connection and what they gave there; and without a
-- connection they have given and taken nothing.
pub record IsLawful (names : Names) (ends : Ends) : Type 0 where
  pub timely : Timely names ends
  pub ordered : Ordered names ends
  pub newest : (who : Role) → IsNewest who ends
  pub given : (who : Role) → IsGiven names who ends
  pub unused : (who : Role) → IsUnused who ends

-- each link of a world does
pub record AreLawful (count : ℕ) (names : ℕ → Names) (links : Links) : Type 0 where
  pub timely : AreTimely count names links
  pub ordered : AreOrdered count names links
  pub newest : (link : ℕ) → link < count → (who : Role) → IsNewest who (seen link links)
  pub given : (link : ℕ) → link < count → (who : Role) → IsGiven (names link) who (seen link links)
  pub unused : (link : ℕ) → link < count → (who : Role) → IsUnused who (seen link links)
