-- The client's end of the link to one controller: the link, and how far the initialisation of its connection has come.
use Rattle.std.specs.Prelude.{◌≡◌, ℕ, ◌≤◌, not, Bool, true, false, List, [], length}
use Rattle.sci_telegram.specs.declared.message.Protocol.{Protocol}
use Rattle.rasta_core.specs.State.{LinkState, is_up, is_client}
use Rattle.rasta_core.specs.Calls.{created}
use Rattle.rasta_core.specs.identity.Identity.{Identity}
use Rattle.ixl_client.specs.declared.stage.Stage.{Stage}
use Rattle.ixl_client.specs.declared.stage.Stage.TheVariants as stage

-- Whom a client speaks with, and how. It is the same for good.
pub record PeerState : Type 0 where
  -- the protocol of all telegrams, and the version of it that the client tells
  pub protocol : Protocol
  pub version : ℕ
  -- the client's own name, and that of the controller
  pub own_name : List ℕ
  pub name : List ℕ
  -- the objects that the controller tells of, by the names of their telegrams' senders, in the order of the initial
  -- status: the sections of a detector, and else the controller itself
  pub objects : List (List ℕ)

pub record ClientState : Type 0 where
  pub link : LinkState
  pub stage : Stage
  pub peer : PeerState

abbrev pub is_outside : Stage → Bool
is_outside stage.Outside = true
is_outside _ = false

-- the initialisation was completed in the present connection
abbrev pub is_ready : Stage → Bool
is_ready stage.Completed = true
is_ready stage.AwaitsReport = true
is_ready _ = false

-- and every move is answered
abbrev pub is_available : Stage → Bool
is_available stage.Completed = true
is_available _ = false

-- what is always true of a client
pub record IsClient (client : ClientState) : Type 0 where
  -- it is outside exactly where its link isn't up
  pub outside : is_outside client.stage ≡ not (is_up client.link.phase)
  pub opens : is_client client.link.identity.role ≡ true

-- a client with a new link
unfoldable pub new_client : Identity → PeerState → ℕ → ℕ → ClientState
new_client identity peer first_sequence_number now = record {
  link = created identity first_sequence_number now;
  stage = stage.Outside;
  peer = peer;
}
