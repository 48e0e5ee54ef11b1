-- What the items given by a client tell, read as its controller reads them.
use Rattle.std.specs.Prelude.{◌≡◌, ◌⊎◌, ℕ, List, [], ◌∷◌, length, Ok}
use Rattle.ixl_spec.specs.sci_telegram.TelegramRead.{reading}
use Rattle.ixl_spec.specs.sci_telegram.declared.message.Initialisation.TheVariants.{InitialisationRequest, VersionCheck}
use Rattle.ixl_spec.specs.sci_telegram.declared.message.Message.TheVariants as message
use Rattle.ixl_spec.specs.ixl_client.Client.{PeerState}
use Rattle.ixl_spec.specs.ixl_client.ClientSoFar.{LinkCall, Opens, Ticks, Closes, Sends, Receives}
use Rattle.ixl_spec.specs.ixl_client.Step.{message_of, telegram_to}
use Rattle.ixl_spec.specs.ixl_client.declared.command.Command.{Command}
use Rattle.simulator_move_laws.specs.Items.{aspects_in, moves_in}
use Rattle.simulator_machine.specs.Point.{Point, moves_given}
use Rattle.simulator_machine.specs.Signal.{Signal, aspects_given}
use Rattle.simulator_move_laws.specs.Calls.{Items}
use Rattle.simulator_move_laws.specs.Telegrams.{item_of, opening_item}

-- What is written to this peer is read as it was meant: so it is where the names are names and the version is one.
pub record IsReadable (peer : PeerState) : Type 0 where
  pub version : reading (opening_item peer (VersionCheck peer.version)) ≡ Ok (telegram_to peer (message.Initialisation peer.protocol (VersionCheck peer.version)))
  pub request : reading (opening_item peer InitialisationRequest) ≡ Ok (telegram_to peer (message.Initialisation peer.protocol InitialisationRequest))
  pub commands : (command : Command) → reading (item_of peer (message_of command)) ≡ Ok (telegram_to peer (message_of command))

-- Where the machine had as given the aspects that the items given tell, it has so afterwards: also of a client that has
-- left its connection, while its items are still under way.
abbrev pub KeepsAspects : PeerState → (before after : Items) → (old new : Signal) → Type 0
KeepsAspects peer before after old new = IsReadable peer → aspects_given old ≡ aspects_in before.given → aspects_given new ≡ aspects_in after.given

-- and so with the moves given to a point
abbrev pub KeepsMoves : PeerState → (before after : Items) → (old new : Point) → Type 0
KeepsMoves peer before after old new = IsReadable peer → moves_given old ≡ length (moves_in before.given) → moves_given new ≡ length (moves_in after.given)

-- an item of the initialisation
abbrev pub IsInitial : PeerState → List ℕ → Type 0
IsInitial peer item = (item ≡ opening_item peer (VersionCheck peer.version)) ⊎ (item ≡ opening_item peer InitialisationRequest)

-- a call that begins no connection and gives no command
abbrev pub IsInitialCall : PeerState → LinkCall → Type 0
IsInitialCall peer Opens = ⊥
IsInitialCall peer Ticks = Unit {0}
IsInitialCall peer (Closes why) = Unit {0}
IsInitialCall peer (Sends item) = IsInitial peer item
IsInitialCall peer (Receives bytes) = Unit {0}

abbrev pub AreInitialCalls : PeerState → List LinkCall → Type 0
AreInitialCalls peer [] = Unit {0}
AreInitialCalls peer (first ∷ others) = IsInitialCall peer first × AreInitialCalls peer others
