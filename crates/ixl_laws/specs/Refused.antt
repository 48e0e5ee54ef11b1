-- A step that nothing came in.
use Rattle.std.specs.Prelude.{◌≡◌, ◌<◌, ℕ, false}
use Rattle.ixl_state.specs.rasta_core.Parameters.{connection_limit}
use Rattle.ixl_state.specs.rasta_core.State.{is_open}
use Rattle.ixl_state.specs.ixl_client.Client.{ClientState, IsClient}
use Rattle.ixl_state.specs.ixl_spec.StepSoFar.{StepSoFar, begun_with, empty_outbox, over}
use Rattle.ixl_state.specs.ixl_spec.Rules.{count, ruled}
use Rattle.ixl_state.specs.ixl_spec.State.{IxlState}
use Rattle.ixl_state.specs.ixl_spec.Step.{all_clocked, watching}
use Rattle.ixl_state.specs.ixl_spec.Table.{Table}
use Rattle.ixl.specs.Interlocking.{InterlockingState}

-- the clock, what is seen of routes with authority, and the six rules
abbrev pub step_without_input : ℕ → Table → IxlState → StepSoFar
step_without_input now table ixl = ruled now table (over (watching table) (count table) (begun_with (all_clocked now ixl) empty_outbox))

-- An interlocking is as it would be without an input, and has handed out the same.
pub record IsWithoutInput (now : ℕ) (old new : InterlockingState) : Type 0 where
  pub ixl : new.state.ixl ≡ (step_without_input now old.state.sited.table old.state.ixl).ixl
  pub outbox : new.outbox ≡ (step_without_input now old.state.sited.table old.state.ixl).outbox

-- The link of a client is in its quiet time, or down.
abbrev pub IsInNoConnection : ClientState → Type 0
IsInNoConnection client = is_open client.link.phase ≡ false

-- Every client is steady: it is outside exactly where its link isn't up. This one's link has numbers left for its
-- connection; at the last one any call would close it.
pub record MayHear (client : ClientState) : Type 0 where
  pub steady : IsClient client
  pub numbered : client.link.sent < connection_limit
