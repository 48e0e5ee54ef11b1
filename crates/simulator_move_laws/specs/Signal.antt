-- What the machine sees of a signal in its host.
use Rattle.std.specs.Prelude.{◌≡◌, true, List}
use Rattle.rasta_core.specs.State.{is_open}
use Rattle.rasta_core.specs.Run.{Ends}
use Rattle.object_host.specs.Host.{HostState}
use Rattle.signal_ctl.specs.Signal.{SignalState}
use Rattle.object_host_laws.specs.Signal.{IsTold}
use Rattle.simulator_machine.specs.Signal.{Signal, SignalMove, aspects_given}
use Rattle.simulator_machine.specs.Chains.{SignalMayChain, signal_chained}
use Rattle.simulator_move_laws.specs.Items.{aspects_in}
use Rattle.simulator_move_laws.specs.EndsSeen.{represented}
use Rattle.simulator_move_laws.specs.Ends.{IsAtEnd, hosted_on}

-- The machine's signal is the signal of this host, at these ends.
pub record IsSignalSeen (ends : Ends) (host : HostState SignalState) (signal : Signal) : Type 0 where
  pub at_end : IsAtEnd ends host
  -- the lamp was told what the server took
  pub told : IsTold (hosted_on ends host)
  pub link : signal.link ≡ represented ends
  -- the aspects given are those of the client's items; in a connection, those acted on are those that the server took
  pub given : aspects_given signal ≡ aspects_in ends.client.given
  pub done : is_open ends.server.link.phase ≡ true → signal.done ≡ aspects_in ends.server.taken

-- A list of the signal's moves leads to what is seen then. What the interlocking holds for confirmed stays.
pub record SignalGoes (old : Signal) (Sees : Signal → Type 0) : Type 0 where
  pub moves : List SignalMove
  pub may : SignalMayChain moves old
  pub sees : Sees (signal_chained moves old)
  pub confirmed : (signal_chained moves old).confirmed ≡ old.confirmed
