-- How the items go on that an end takes of its partner.
use Rattle.std.specs.Prelude.{◌≡◌, List, ◌++◌, ℕ}
use Rattle.simulator_spec.specs.rasta_core.identity.Role.{Role}
use Rattle.simulator_spec.specs.rasta_core.identity.Role.TheVariants as role
use Rattle.simulator_spec.specs.rasta_core.Ends.{EndState}
use Rattle.simulator_spec.specs.rasta_core.Run.{Ends, end_of}

abbrev pub partner_at : Role → Ends → EndState
partner_at role.Client ends = ends.server
partner_at role.Server ends = ends.client

-- These items are what the partner of an end has given after all that the end has taken.
pub record GoOn (who : Role) (ends : Ends) (items : List (List ℕ)) : Type 0 where
  pub rest : List (List ℕ)
  pub are : (partner_at who ends).given ≡ (end_of who ends).taken ++ (items ++ rest)
