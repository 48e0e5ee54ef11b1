-- When the link of a datagram's sender may judge bytes that weren't read.
use Rattle.std.specs.Prelude.{◌≡◌, ℕ, ◌&&◌, nat_le, Bool, false, List, Some}
use Rattle.ixl_state.specs.rasta_core.Parameters.{connection_limit}
use Rattle.ixl_state.specs.rasta_core.State.{LinkState, is_open}
use Rattle.ixl_state.specs.rasta_pdu.Header.{sender_of}
use Rattle.ixl_state.specs.ixl_client.Client.{ClientState, IsClient}
use Rattle.ixl_state.specs.ixl_known.Field.{IsThere, node_at}
use Rattle.ixl_state.specs.ixl_known.declared.node.Node.{Node}
use Rattle.ixl_state.specs.ixl_spec.State.{IxlState}
use Rattle.ixl_state.specs.ixl_spec.Step.{all_clocked, client_at, node_of}
use Rattle.ixl_state.specs.State.{StateView, field_of}

-- the clock has acted on every link at this reading
abbrev pub IsClocked : ℕ → IxlState → Type 0
IsClocked now ixl = (before : IxlState) × (ixl ≡ all_clocked now before)

-- the next call closes a link, whatever it is for
abbrev pub is_at_limit : LinkState → Bool
is_at_limit link = is_open link.phase && nat_le connection_limit link.sent

-- The bytes name this controller as their sender, and its link isn't at its limit of PDUs.
pub record MayJudge (bytes : List ℕ) (state : StateView) (node : Node) : Type 0 where
  pub there : IsThere (field_of state) node
  pub named : node_of (sender_of bytes) state.ixl ≡ Some (node_at node)
  pub client : ClientState
  pub at : client_at (node_at node) state.ixl ≡ Some client
  pub steady : IsClient client
  pub below : is_at_limit client.link ≡ false
