-- What is written to a peer with names is read as it was meant.
use Rattle.std.proofs.Common.{◌≡◌, ◌<◌, Ok}
use Rattle.simulator_link_laws.specs.sci_telegram.TelegramRead.{reading}
use Rattle.simulator_link_laws.specs.sci_telegram.Telegrams.{IsMessage, IsTelegram, writing}
use Rattle.simulator_link_laws.specs.sci_telegram.declared.message.Initialisation.TheVariants.{InitialisationRequest, VersionCheck}
use Rattle.simulator_link_laws.specs.sci_telegram.declared.message.Message.{Message}
use Rattle.simulator_link_laws.specs.sci_telegram.declared.message.Message.TheVariants as message
use Rattle.simulator_link_laws.specs.sci_telegram.declared.telegram.Telegram.{Telegram}
use Rattle.simulator_link_laws.specs.ixl_client.Client.{PeerState}
use Rattle.simulator_link_laws.specs.ixl_client.Step.{message_of, telegram_to}
use Rattle.simulator_link_laws.specs.ixl_client.declared.command.Command.{Command}
use Rattle.simulator_link_laws.specs.ixl_client.declared.command.Command.TheVariants as commands
use Rattle.simulator_link_laws.specs.simulator_move_laws.Telegrams.{item_of}
use Rattle.simulator_link_laws.specs.simulator_move_laws.Totals.{IsReadable}
use Rattle.simulator_safety.specs.At.{HasNames}

module _ (read : (telegram : Telegram) → IsTelegram telegram → reading (writing telegram) ≡ Ok telegram) (peer : PeerState) (named : HasNames peer) where
  told : (message : Message) → IsMessage message → reading (item_of peer message) ≡ Ok (telegram_to peer message)
  told message is = read (telegram_to peer message) (record { sender = named.own; receiver = named.controller; message = is })

  commanded : (command : Command) → reading (item_of peer (message_of command)) ≡ Ok (telegram_to peer (message_of command))
  commanded (commands.Indicate aspect) = told (message_of (commands.Indicate aspect)) tt
  commanded (commands.Move side) = told (message_of (commands.Move side)) tt

  pub readable : peer.version < 256 → IsReadable peer
  readable version = record {
    version = told (message.Initialisation peer.protocol (VersionCheck peer.version)) version;
    request = told (message.Initialisation peer.protocol InitialisationRequest) tt;
    commands = commanded;
  }
