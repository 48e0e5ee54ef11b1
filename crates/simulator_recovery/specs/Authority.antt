-- When the authority of a withdrawn route ends.
use Rattle.std.specs.Prelude.{◌≡◌, ◌<◌, ℕ, false, Some, length, slice_get}
use Rattle.std.specs.FinSet.{contains}
use Rattle.simulator_spec.specs.ixl_spec.State.{IxlState, KnownSignalState, RouteState}
use Rattle.simulator_spec.specs.ixl_spec.Table.{Row}

-- From one moment to a later one the interlocking has given something on the link of a signal, as this counts.
abbrev pub HasGivenMore : ℕ → (old new : IxlState) → Type 0
HasGivenMore place old new = (before after : KnownSignalState) → slice_get old.known_signals place ≡ Some before → slice_get new.known_signals place ≡ Some after → before.client.link.given < after.client.link.given

-- so many good rounds after the moment at which stop is given the authority of a withdrawn route has ended: 20 ms
abbrev pub authority_rounds : ℕ
authority_rounds = 2

-- No section of a route was reported occupied since its authority was given.
abbrev pub IsUnseen : Row → RouteState → Type 0
IsUnseen row route = (place : ℕ) → place < length row.sections → contains route.passage.seen place ≡ false
