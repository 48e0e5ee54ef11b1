-- What a client expects its controller to tell, by how far the connection has come.
use Rattle.std.specs.Prelude.{◌≡◌, ◌⊎◌, ℕ, ◌-◌, length, Some, Result, Ok, Err, IsTrue}
use Rattle.sci_telegram.specs.Messages.{protocol_of}
use Rattle.sci_telegram.specs.declared.fault.SciFault.{SciFault}
use Rattle.sci_telegram.specs.declared.message.Agreement.TheVariants.{Match}
use Rattle.sci_telegram.specs.declared.message.Initialisation.{Initialisation}
use Rattle.sci_telegram.specs.declared.message.Initialisation.TheVariants.{InitialisationCompleted, StartInitialisation, VersionAnswer}
use Rattle.sci_telegram.specs.declared.message.Message.TheVariants as message
use Rattle.sci_telegram.specs.declared.message.Protocol.{Protocol}
use Rattle.sci_telegram.specs.declared.telegram.Telegram.{Telegram}
use Rattle.ixl_client.specs.Client.{PeerState}
use Rattle.ixl_client.specs.Meaning.{is_in_version, is_same_protocol, is_status, place_of, reports_changes, state_in}
use Rattle.ixl_client.specs.declared.indication.ObjectState.{ObjectState}
use Rattle.ixl_client.specs.declared.stage.Stage.{Stage}
use Rattle.ixl_client.specs.declared.stage.Stage.TheVariants as stage

-- in the controller's protocol, for this client
pub record IsForClient (peer : PeerState) (telegram : Telegram) : Type 0 where
  pub protocol : IsTrue (is_same_protocol (protocol_of telegram.message) peer.protocol)
  pub receiver : telegram.receiver ≡ peer.own_name

-- a telegram of the initialisation, from the controller itself
pub record Tells (peer : PeerState) (telegram : Telegram) (told : Initialisation) : Type 0 where
  pub protocol : Protocol
  pub message : telegram.message ≡ message.Initialisation protocol told
  pub sender : telegram.sender ≡ peer.name

-- the state of the object at this place of those that the controller tells of
pub record TellsState (peer : PeerState) (telegram : Telegram) (place : ℕ) : Type 0 where
  pub state : ObjectState
  pub of : place_of peer telegram.sender ≡ Some place
  pub told : state_in telegram.message ≡ Some state
  pub version : IsTrue (is_in_version peer.version state)

-- in the initialisation, a state and no timeout
abbrev pub TellsStatus : PeerState → Telegram → ℕ → Type 0
TellsStatus peer telegram place = (told : TellsState peer telegram place) × IsTrue (is_status told.state)

abbrev pub IsExpectedAt : PeerState → Stage → Telegram → Type 0
IsExpectedAt peer stage.Outside telegram = ⊥
IsExpectedAt peer stage.AwaitsAnswer telegram = Tells peer telegram (VersionAnswer Match peer.version)
IsExpectedAt peer stage.AwaitsStart telegram = Tells peer telegram StartInitialisation
IsExpectedAt peer (stage.AwaitsStatus left) telegram =
    TellsStatus peer telegram (length peer.objects - left) ⊎ ((left ≡ 0) × Tells peer telegram InitialisationCompleted)
IsExpectedAt peer stage.Completed telegram = ((place : ℕ) × TellsState peer telegram place) × IsTrue (reports_changes peer.protocol)
IsExpectedAt peer stage.AwaitsReport telegram = (place : ℕ) × TellsState peer telegram place

abbrev pub IsExpected : PeerState → Stage → Result Telegram SciFault → Type 0
IsExpected peer stage (Ok telegram) = IsForClient peer telegram × IsExpectedAt peer stage telegram
IsExpected peer stage (Err fault) = ⊥
