-- When a cancel and a resume are accepted, and why not. Each cause is told where none before it is given.
use Rattle.std.specs.Prelude.{◌≡◌, ℕ, true, false, slice_get, Some}
use Rattle.ixl_state.specs.ixl_spec.Refusals.{Obeys}
use Rattle.ixl_state.specs.ixl_spec.State.{IxlState, RouteState}
use Rattle.ixl_state.specs.ixl_spec.View.{is_holding, is_set}
use Rattle.ixl_state.specs.ixl_spec.declared.command.Refusal.{Refusal}
use Rattle.ixl_state.specs.ixl_spec.declared.command.Refusal.TheVariants as refusals

-- a route is kept, and is set or isn't
abbrev pub IsKept : IxlState → ℕ → Type 0
IsKept ixl number = (route : RouteState) × (slice_get ixl.routes number ≡ Some route)

abbrev pub IsSet : IxlState → ℕ → Type 0
IsSet ixl number = (route : RouteState) × (slice_get ixl.routes number ≡ Some route) × (is_set route.phase ≡ true)

abbrev pub IsNotSet : IxlState → ℕ → Type 0
IsNotSet ixl number = (route : RouteState) × (slice_get ixl.routes number ≡ Some route) × (is_set route.phase ≡ false)

-- the hold is over, the interlocking was told to resume, and the route is set
abbrev pub MayCancel : ℕ → IxlState → ℕ → Type 0
MayCancel now ixl number = Obeys now ixl × IsSet ixl number

abbrev pub IsCancelRefused : ℕ → IxlState → ℕ → Refusal → Type 0
IsCancelRefused now ixl number refusals.UnknownRoute = IsKept ixl number → ⊥
IsCancelRefused now ixl number refusals.Holding = IsKept ixl number × (is_holding now ixl ≡ true)
IsCancelRefused now ixl number refusals.NotResumed = IsKept ixl number × (is_holding now ixl ≡ false) × (ixl.resumed ≡ false)
IsCancelRefused now ixl number refusals.NotSet = Obeys now ixl × IsNotSet ixl number
IsCancelRefused now ixl number _ = ⊥

abbrev pub IsResumeRefused : ℕ → IxlState → Refusal → Type 0
IsResumeRefused now ixl refusals.Holding = is_holding now ixl ≡ true
IsResumeRefused now ixl _ = ⊥
