-- What a host acted on in its last connection, of what its end of the link took there.
use Rattle.std.specs.Prelude.{◌≡◌, ℕ, true, List, [], ◌++◌}
use Rattle.sci_telegram.specs.declared.telegram.Telegram.{Telegram}
use Rattle.rasta_core.specs.State.{is_open}
use Rattle.rasta_core.specs.identity.Role.TheVariants as role
use Rattle.rasta_core.specs.Ends.{EndState}
use Rattle.rasta_core.specs.Events.{Event, Calls}
use Rattle.object_host.specs.Made.{commands_of}

-- The items that the end took are those that the host acted on, followed by those that it dropped. It drops none while
-- the link is open. The object was told what the items acted on command.
pub record IsActedOn (end : EndState) (acted : List (List ℕ)) (told : List Telegram) : Type 0 where
  pub dropped : List (List ℕ)
  pub beginning : end.taken ≡ acted ++ dropped
  pub whole : is_open end.link.phase ≡ true → dropped ≡ []
  pub told_is : told ≡ commands_of acted

-- anything that can happen to two ends but a call of the host's end
abbrev pub IsNoHostCall : Event → Type 0
IsNoHostCall (Calls role.Server call) = ⊥
IsNoHostCall event = Unit {0}
