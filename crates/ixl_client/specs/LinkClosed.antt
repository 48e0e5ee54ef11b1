-- How a client closes its link.
use Rattle.std.specs.Prelude.{◌≡◌, ◌⊎◌, ℕ, true, false, List, [], ◌∷◌, ◌++◌}
use Rattle.sci_telegram.specs.Telegrams.{writing}
use Rattle.rasta_core.specs.State.{is_open}
use Rattle.rasta_core.specs.reason.Reason.{Reason}
use Rattle.rasta_core.specs.reason.Reason.TheVariants as reason
use Rattle.ixl_client.specs.Client.{is_outside}
use Rattle.ixl_client.specs.ClientSoFar.{Closes, ClientSoFar, Sends}
use Rattle.ixl_client.specs.Step.{acting_all, message_of, telegram_to}
use Rattle.ixl_client.specs.declared.command.Command.{Command}
use Rattle.ixl_client.specs.declared.stage.Stage.TheVariants as stage

-- the telegram of a command
abbrev pub telegram_of : Command → ClientSoFar → List ℕ
telegram_of command part = writing (telegram_to part.client.peer (message_of command))

-- The link refused an item for its window, and was closed with reason 5.
pub record ClosesForWindow (item : List ℕ) (before after : ClientSoFar) : Type 0 where
  pub calls : after.calls ≡ before.calls ++ Sends item ∷ Closes reason.Window ∷ []
  pub closed : is_open after.client.link.phase ≡ false
  pub outside : is_outside after.client.stage ≡ true

-- An item was given to the link, and nothing else was done.
pub record SendsAlone (item : List ℕ) (before after : ClientSoFar) : Type 0 where
  pub calls : after.calls ≡ before.calls ++ Sends item ∷ []

-- The link was closed with a reason, and nothing else was done. What stands after is dropped.
pub record ClosesWith (now : ℕ) (why : Reason) (before after : ClientSoFar) : Type 0 where
  pub calls : after.calls ≡ before.calls ++ Closes why ∷ []
  pub closed : is_open after.client.link.phase ≡ false
  pub acted : after.acted ≡ before.acted
  pub heard : after.heard ≡ before.heard
  pub behind : (others : List (List ℕ)) → acting_all now others after ≡ after

-- What became of an item: it was acted on; or it closed the link with reason 1; or, where the client awaits the answer to
-- its version check, with reason 4.
abbrev pub Fate : ℕ → List ℕ → ClientSoFar → ClientSoFar → Type 0
Fate now item before after =
    (after.acted ≡ before.acted ++ item ∷ [])
    ⊎ (ClosesWith now reason.State before after
    ⊎ ((before.client.stage ≡ stage.AwaitsAnswer) × ClosesWith now reason.Version before after))
