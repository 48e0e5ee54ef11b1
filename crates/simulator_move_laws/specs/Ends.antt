-- What a controller's step takes of the two ends of its link.
use Rattle.std.specs.Prelude.{◌≡◌, ℕ, true, List, [], ◌∷◌, Some}
use Rattle.rasta_core.specs.State.{is_open}
use Rattle.rasta_core.specs.Clock.{settled}
use Rattle.rasta_core.specs.Ends.{reading_of}
use Rattle.rasta_core.specs.Run.{Ends, later}
use Rattle.rasta_core.specs.Safe.{AreSafe}
use Rattle.object_host.specs.Host.{HostState}
use Rattle.object_host.specs.Made.{commands_of}
use Rattle.object_host.specs.declared.input.Input.{Input}
use Rattle.object_host_laws.specs.World.{World, entering}
use Rattle.simulator_machine.specs.Link.{LinkMove, Opens, Before}
use Rattle.simulator_move_laws.specs.LinkMoves.{LinkGoes, server_moves}
use Rattle.simulator_move_laws.specs.EndsSeen.{represented, server_of}

-- What is true of two ends at every moment: the server's link is settled at its clock, the link is safe, and a server
-- inside a connection is in the client's last one.
pub record AreFit (ends : Ends) : Type 0 where
  pub settled_at : settled (reading_of ends.server.clock) ends.server.link ≡ ends.server.link
  pub safe : AreSafe ends
  pub same : is_open ends.server.link.phase ≡ true → (connection : ℕ) × (ends.client.connection ≡ Some connection) × (ends.server.connection ≡ Some connection)

-- From these ends a step of the server's host leads to those: a connection that it enters is the client's last one, which it
-- hadn't entered; and what happens to the link are moves of the machine.
pub record Steps (input : Input) (connection : ℕ) (ends new : Ends) : Type 0 where
  pub fit : AreFit ends
  pub fit_after : AreFit new
  pub enters : (entered : ℕ) → entering input connection ends ≡ Some entered → (server_of ends ≡ Before) × (ends.client.connection ≡ Some entered)
  pub goes : LinkGoes (server_moves (server_of ends) (server_of new)) (represented ends) (represented new)

-- these ends when time has passed at the server's and not yet at the client's
abbrev pub server_later : (elapsed of_client of_server : ℕ) → Ends → Ends
server_later elapsed of_client of_server ends = record ends { server = (later elapsed of_client of_server ends).server }

-- moves of a link in which the client begins no connection
abbrev pub OpensNone : List LinkMove → Type 0
OpensNone [] = Unit {0}
OpensNone (Opens ∷ others) = ⊥
OpensNone (_ ∷ others) = OpensNone others

-- a host at these ends, with its link settled at its clock
abbrev pub hosted_on : {Object : Type 0} → Ends → HostState Object → World Object
hosted_on ends host = record {
  ends = ends;
  stage = host.stage;
  object = host.object;
  own_name = host.own_name;
  peer_name = host.peer_name;
  version = host.version;
  acted = ends.server.taken;
  told = commands_of ends.server.taken;
}

-- the end of a host is the host's link, once the clock rules are applied
abbrev pub IsAtEnd : {Object : Type 0} → Ends → HostState Object → Type 0
IsAtEnd ends host = settled (reading_of ends.server.clock) host.link ≡ ends.server.link
