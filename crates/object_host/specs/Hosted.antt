-- What is always true of a host between its steps, and how it is made.
use Rattle.std.specs.Prelude.{◌≡◌, ℕ, ◌≤◌, not, true, false, List, []}
use Rattle.rasta_core.specs.State.{is_open}
use Rattle.rasta_core.specs.Clock.{alive_until}
use Rattle.rasta_core.specs.Calls.{created}
use Rattle.rasta_core.specs.Outbox.{OutboxState}
use Rattle.rasta_core.specs.identity.Identity.{Identity}
use Rattle.object_host.specs.Behaviour.{Behaviour}
use Rattle.object_host.specs.Host.{HostState, is_completed, is_outside, keeping}
use Rattle.object_host.specs.declared.stage.Stage.TheVariants as stage

pub record IsHosted {Object : Type 0} (does : Behaviour Object) (host : HostState Object) : Type 0 where
  -- it is outside exactly where its link is in no connection
  pub outside : is_outside host.stage ≡ not (is_open host.link.phase)
  -- the object doesn't outlive the link
  pub kept : does.until host.object ≤ alive_until host.link
  -- outside, in Start and in the initialisation the object is idle
  pub idle : is_completed host.stage ≡ false → does.is_idle host.object ≡ true

-- What of this outlives the clock: outside its link is in no connection, and the object is idle until the initialisation
-- was completed.
pub record IsSteady {Object : Type 0} (does : Behaviour Object) (host : HostState Object) : Type 0 where
  pub outside : is_outside host.stage ≡ true → is_open host.link.phase ≡ false
  pub idle : is_completed host.stage ≡ false → does.is_idle host.object ≡ true

-- the same controller for the same peer, in the same version of the telegrams
pub record IsNamedAs {Object : Type 0} (old new : HostState Object) : Type 0 where
  pub own_name : new.own_name ≡ old.own_name
  pub peer_name : new.peer_name ≡ old.peer_name
  pub version : new.version ≡ old.version

-- a host of a new link: its object is as after a loss
unfoldable pub new_host : {Object : Type 0} → Behaviour Object → Identity → List ℕ → List ℕ → ℕ → ℕ → Object → ℕ → HostState Object
new_host does identity own_name peer_name first_sequence_number now object version =
    keeping does (record {
      link = created identity first_sequence_number now;
      stage = stage.Outside;
      object = does.after_loss object;
      own_name = own_name;
      peer_name = peer_name;
      version = version;
    })

-- a host as its callers see it, with the datagrams that its last step handed out
pub record HostedState (Object : Type 0) : Type 0 where
  pub host : HostState Object
  pub outbox : OutboxState

-- How many PDUs a step hands out at most: the 20 items of a window, the two between which a retransmission stands, and the one that
-- closes the connection.
abbrev pub most_in_step : ℕ
most_in_step = 23

-- an outbox for a step, in which each call of the link finds room for the 24 that it asks for
abbrev pub empty_outbox : OutboxState
empty_outbox = record { datagrams = []; capacity = 47 }
