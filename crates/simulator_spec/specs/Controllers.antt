-- What an object controller does in the world: a step, the clock, being made anew.
use Rattle.std.specs.Prelude.{ℕ, ◌+◌, ◌*◌, ◌&&◌, ◌||◌, not, Bool, true, false, List, [], ◌∷◌, length, Some, if◌then◌else◌}
use Rattle.ixl_spec.specs.rasta_core.Clock.{settled}
use Rattle.ixl_spec.specs.rasta_core.Ends.{handed_out, reading_of}
use Rattle.ixl_spec.specs.rasta_core.Links.{OnLink, sent_on}
use Rattle.ixl_spec.specs.rasta_core.Outbox.{spellings}
use Rattle.ixl_spec.specs.rasta_core.State.{LinkState, is_open}
use Rattle.ixl_spec.specs.rasta_core.identity.Role.TheVariants as role
use Rattle.object_host.specs.Behaviour.{Behaviour}
use Rattle.object_host.specs.Host.{HostState, HostSoFar}
use Rattle.object_host.specs.Step.{host_step}
use Rattle.object_host.specs.declared.input.Input.{Input}
use Rattle.simulator_spec.specs.State.{ClockedControllerState}

-- whether a link is in a connection at an exact clock
abbrev pub is_inside_at : ℕ → LinkState → Bool
is_inside_at clock link = is_open (settled (reading_of clock) link).phase

abbrev pub is_some_sent : {A : Type 0} → List A → Bool
is_some_sent [] = false
is_some_sent (first ∷ others) = true

module _ {Object : Type 0} where
  -- what the step of a controller does at its clock
  abbrev pub step_of : Behaviour Object → Input → ClockedControllerState Object → HostSoFar Object
  step_of does input server = host_step does (reading_of server.clock) input server.host

  -- A server outside sends nothing but its answer to a request, which it has taken then.
  abbrev pub has_entered : ClockedControllerState Object → HostSoFar Object → Bool
  has_entered server done = not (is_inside_at server.clock server.host.link) && is_some_sent done.pdus

  -- The controller after a step in which it may have taken a datagram that was sent in this connection, when so many were
  -- sent before it. It has left its connection where it was in one and is in none any more.
  unfoldable pub controller_after : HostSoFar Object → ℕ → ℕ → ClockedControllerState Object → ClockedControllerState Object
  controller_after done connection moment server = record server {
    host = done.host;
    connection = if has_entered server done then Some connection else server.connection;
    left =
        if (is_inside_at server.clock server.host.link || has_entered server done) && not (is_open done.host.link.phase)
        then moment + length done.pdus
        else server.left;
  }

  -- what a step hands out on the controller's link, at this true time
  unfoldable pub sent_by_controller : HostSoFar Object → ℕ → ℕ → ClockedControllerState Object → ClockedControllerState Object → List OnLink
  sent_by_controller done time link old new =
      sent_on link (handed_out time role.Server new.connection (spellings old.host.link.identity.key done.pdus))

  -- Its clock goes on: its link may close by time.
  unfoldable pub controller_later : ℕ → ℕ → ClockedControllerState Object → ClockedControllerState Object
  controller_later elapsed moment server = record server {
    clock = server.clock + elapsed;
    left =
        if is_inside_at server.clock server.host.link && not (is_inside_at (server.clock + elapsed) server.host.link)
        then moment
        else server.left;
  }

  -- It is made anew, with this host and this clock in milliseconds.
  unfoldable pub controller_anew : HostState Object → ℕ → ℕ → ClockedControllerState Object → ClockedControllerState Object
  controller_anew host clock moment server = record server { host = host; clock = clock * 1000; left = moment }
