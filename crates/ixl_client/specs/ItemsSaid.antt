-- What a client says in the initialisation of a connection.
use Rattle.std.specs.Prelude.{◌≡◌, ℕ, false, List, [], ◌∷◌, ◌++◌, map}
use Rattle.sci_telegram.specs.Telegrams.{writing}
use Rattle.sci_telegram.specs.declared.message.Initialisation.{Initialisation}
use Rattle.sci_telegram.specs.declared.message.Initialisation.TheVariants.{InitialisationRequest, VersionCheck}
use Rattle.sci_telegram.specs.declared.message.Message.TheVariants as message
use Rattle.ixl_client.specs.Client.{ClientState, PeerState, is_outside}
use Rattle.ixl_client.specs.ClientSoFar.{Closes, LinkCall, Opens, ClientSoFar, Receives, Sends, Ticks}
use Rattle.ixl_client.specs.Step.{telegram_to}
use Rattle.ixl_client.specs.declared.stage.Stage.{Stage}
use Rattle.ixl_client.specs.declared.stage.Stage.TheVariants as stage

-- what a client has said in its connection, oldest first, by how far the connection has come
abbrev pub said_by : PeerState → Stage → List Initialisation
said_by peer stage.Outside = []
said_by peer stage.AwaitsAnswer = VersionCheck peer.version ∷ []
said_by peer stage.AwaitsStart = VersionCheck peer.version ∷ InitialisationRequest ∷ []
said_by peer (stage.AwaitsStatus left) = VersionCheck peer.version ∷ InitialisationRequest ∷ []
said_by peer stage.Completed = VersionCheck peer.version ∷ InitialisationRequest ∷ []
said_by peer stage.AwaitsReport = VersionCheck peer.version ∷ InitialisationRequest ∷ []

-- a telegram of the initialisation, as the item that is sent
abbrev pub item_of : PeerState → Initialisation → List ℕ
item_of peer initialisation = writing (telegram_to peer (message.Initialisation peer.protocol initialisation))

abbrev pub items_said : ClientState → List (List ℕ)
items_said client = map (item_of client.peer) (said_by client.peer client.stage)

-- the items that calls give to a link
unfoldable pub items_sent : List LinkCall → List (List ℕ)
items_sent [] = []
items_sent (Sends item ∷ others) = item ∷ items_sent others
items_sent (Opens ∷ others) = items_sent others
items_sent (Ticks ∷ others) = items_sent others
items_sent (Closes why ∷ others) = items_sent others
items_sent (Receives bytes ∷ others) = items_sent others

-- In a step the client sent these items, and is in the connection after it.
abbrev pub WhereInside : ClientSoFar → Type 0 → Type 0
WhereInside after fact = is_outside after.client.stage ≡ false → fact

-- What it has said after a step is what it had said before and what it sent in the step.
pub record SaysInOrder (before after : ClientSoFar) : Type 0 where
  pub calls : List LinkCall
  pub made : after.calls ≡ before.calls ++ calls
  pub said : WhereInside after (items_said after.client ≡ items_said before.client ++ items_sent calls)

-- A command is sent, and nothing of the initialisation.
pub record SaysCommand (item : List ℕ) (before after : ClientSoFar) : Type 0 where
  pub calls : List LinkCall
  pub made : after.calls ≡ before.calls ++ calls
  pub sent : items_sent calls ≡ item ∷ []
  pub said : WhereInside after (items_said after.client ≡ items_said before.client)

pub record SaysNothing (before after : ClientSoFar) : Type 0 where
  pub calls : List LinkCall
  pub made : after.calls ≡ before.calls ++ calls
  pub sent : items_sent calls ≡ []
  pub said : WhereInside after (items_said after.client ≡ items_said before.client)

-- the clock sends nothing
abbrev pub KeepsWhatWasSaid : ClientState → ClientState → Type 0
KeepsWhatWasSaid before after = is_outside after.stage ≡ false → items_said after ≡ items_said before
