-- How a route goes on in a step.
use Rattle.std.specs.Prelude.{◌≡◌, ◌⊎◌, ℕ, ◌≤◌, false}
use Rattle.ixl_state.specs.ixl_spec.Step.{Accepted, Commands, Input, Reply}
use Rattle.ixl_state.specs.ixl_spec.View.{is_set}
use Rattle.ixl_state.specs.ixl_spec.declared.command.Command.TheVariants as commands
use Rattle.ixl_state.specs.ixl_spec.declared.phase.Phase.{Phase}
use Rattle.ixl_state.specs.ixl_spec.declared.phase.Phase.TheVariants as phase

-- the order in which a setting goes on; at its end the route isn't set
abbrev pub order_of : Phase → ℕ
order_of phase.Waiting = 0
order_of phase.Proceeding = 1
order_of phase.Withdrawn = 2
order_of (phase.Ended clock freed) = 3
order_of phase.Free = 4

-- once authority has ended the noted clock stays, and no section is locked again
abbrev pub KeepsFreed : Phase → Phase → Type 0
KeepsFreed (phase.Ended clock freed) (phase.Ended later more) = (later ≡ clock) × (freed ≤ more)
KeepsFreed _ _ = Unit {0}

-- one phase comes after another in a setting, or is the same
pub record IsOnward (old new : Phase) : Type 0 where
  pub order : order_of old ≤ order_of new
  pub freed : KeepsFreed old new

-- a request for this route was accepted, and the route wasn't set
pub record IsSetAnew (input : Input) (answer : Reply) (number : ℕ) (old new : Phase) : Type 0 where
  pub request : input ≡ Commands (commands.Request (record { 0 = number }))
  pub accepted : answer ≡ Accepted
  pub free : is_set old ≡ false
  pub onward : IsOnward phase.Waiting new

abbrev pub GoesOn : Input → Reply → ℕ → Phase → Phase → Type 0
GoesOn input answer number old new = IsOnward old new ⊎ IsSetAnew input answer number old new
