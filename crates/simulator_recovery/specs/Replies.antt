-- What a signal says where it acts on an aspect.
use Rattle.std.specs.Prelude.{◌≡◌, ℕ, List, ◌∷◌, ◌++◌}
use Rattle.simulator_spec.specs.sci_telegram.Telegrams.{writing}
use Rattle.simulator_spec.specs.object_host.Host.{HostSoFar, HostState, LinkCall, Sends, telegram_of}
use Rattle.simulator_spec.specs.object_host.Step.{beginning, given}
use Rattle.simulator_spec.specs.object_host.declared.input.Input.{Input}
use Rattle.simulator_spec.specs.signal_ctl.Signal.{SignalState, indicated_report, signal_behaviour}

-- a step of a signal's host, as far as what comes in it leads
abbrev pub behind_what_comes : ℕ → Input → HostState SignalState → HostSoFar SignalState
behind_what_comes now input host = given signal_behaviour now input (beginning signal_behaviour now host)

-- the item that tells which aspect a signal indicates
abbrev pub indication : HostState SignalState → List ℕ
indication host = writing (telegram_of (indicated_report host.object) host)

-- calls that go on with the sending of an item
pub record GoOnWith (item : List ℕ) (front calls : List LinkCall) : Type 0 where
  pub rest : List LinkCall
  pub are : calls ≡ front ++ Sends item ∷ rest
