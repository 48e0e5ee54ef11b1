-- What contracts inside the crate say. No promise names any of it, but `NodeMachine` of this crate.
use Rattle.std.specs.Prelude.{ℕ, List, map, string_bytes}
use Rattle.std.specs.declared.alloc.Global.{Global}
use Rattle.std.specs.declared.collections.VecDeque.{VecDeque}
use Rattle.std.specs.declared.string.String.{String}
use Rattle.simulator_spec.specs.Nodes.{key_of}
use Rattle.simulator_spec.specs.ixl_spec.State.{IxlState}
use Rattle.simulator_spec.specs.ixl_spec.Step as ixl
use Rattle.simulator_spec.specs.ixl_spec.StepSoFar.{StepSoFar, begun_with, empty_outbox}
use Rattle.simulator_spec.specs.ixl_spec.Table.{SitedTable}

-- an interlocking with its table, the reading of its last step, and the datagrams of that which weren't taken yet
pub record SteppedState : Type 0 where
  pub sited : SitedTable
  pub ixl : IxlState
  pub reached : ℕ
  pub datagrams : List (List ℕ)

abbrev pub step_of : ℕ → ixl.Input → SteppedState → StepSoFar
step_of now input old = ixl.stepped now old.sited.table (key_of old.sited.site) input (begun_with old.ixl empty_outbox)

abbrev pub stepped_at : ℕ → ixl.Input → SteppedState → SteppedState
stepped_at now input old = record {
  sited = old.sited;
  ixl = (step_of now input old).ixl;
  reached = now;
  datagrams = (step_of now input old).outbox.datagrams;
}

-- the lines that are to be told
abbrev pub texts : VecDeque (String Global) Global → List (List ℕ)
texts said = map string_bytes said.items
