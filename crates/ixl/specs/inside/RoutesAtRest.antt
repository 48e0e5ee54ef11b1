-- Routes that rest.
use Rattle.std.specs.Prelude.{◌≡◌, ℕ, ◌<◌, Bool, true, false}
use Rattle.ixl_state.specs.ixl_spec.declared.phase.Phase.{Phase}
use Rattle.ixl_state.specs.ixl_spec.declared.phase.Phase.TheVariants as phase
use Rattle.ixl_state.specs.State.{AtRoute, StateView}

-- a route that is free or proceeds
abbrev pub rests : Phase → Bool
rests phase.Free = true
rests phase.Proceeding = true
rests _ = false

-- so many routes rest
abbrev pub AllRest : ℕ → StateView → Type 0
AllRest count state = (number : ℕ) → number < count → AtRoute state number (λ row route. rests route.phase ≡ true)
