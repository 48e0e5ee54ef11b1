-- Things that a command or a refusal names, as C tells and is told: by their kind, their place and their side.
use Rattle.std.specs.Prelude.{ℕ, zero, suc, Option, Some, None}
use Rattle.std.specs.Option.{option_map}
use Rattle.embedded_ixl.specs.Embedded.{EmbeddedIxlState}
use Rattle.embedded_ixl.specs.declared.places.Kind.{Kind}
use Rattle.embedded_ixl.specs.declared.places.Kind.TheVariants as kinds
use Rattle.embedded_ixl.specs.ixl_state.ixl_spec.closings.declared.thing.Thing.{Thing}
use Rattle.embedded_ixl.specs.ixl_state.ixl_spec.closings.declared.thing.Thing.TheVariants as things
use Rattle.embedded_ixl.specs.ixl_state.ixl_spec.closings.declared.thing.Named.{Named}
use Rattle.embedded_ixl.specs.ixl_state.ixl_spec.closings.declared.thing.Named.TheVariants.{One, BothSides}
use Rattle.embedded_ixl.specs.ixl_state.sci_telegram.declared.message.Side.{Side}
use Rattle.embedded_ixl.specs.ixl_state.sci_telegram.declared.message.Side.TheVariants.{Left, Right}
use Rattle.interlocking_c.specs.Places.{kind_of}
use Rattle.interlocking_c.specs.declared.answers.TheConstants.{OK, NOT_STARTED, VALUE}

-- ---- of its numbers

-- the side of a number
abbrev pub side_of : ℕ → Option Side
side_of zero = None
side_of (suc zero) = Some Left
side_of (suc (suc zero)) = Some Right
side_of (suc (suc (suc more))) = None

-- The thing of a kind at a place. A point is one at a side; a node is none.
abbrev pub thing_by : Option Kind → ℕ → Option Side → Option Thing
thing_by (Some kinds.Signal) place side = Some (things.Signal (record { 0 = place }))
thing_by (Some kinds.Point) place side = option_map (things.Point (record { 0 = place })) side
thing_by (Some kinds.Section) place side = Some (things.Section (record { 0 = place }))
thing_by (Some kinds.Route) place side = Some (things.Route (record { 0 = place }))
thing_by (Some kinds.Node) place side = None
thing_by None place side = None

abbrev pub thing_of : ℕ → ℕ → ℕ → Option Thing
thing_of kind place side = thing_by (kind_of kind) place (side_of side)

-- What a command names: a point at no side is one at both.
abbrev pub named_of : ℕ → ℕ → ℕ → Option Named
named_of (suc zero) place zero = Some (BothSides (record { 0 = place }))
named_of kind place side = option_map One (thing_of kind place side)

-- to a question for a thing
abbrev pub answer_to_thing : Option Thing → Option EmbeddedIxlState → ℕ
answer_to_thing thing None = NOT_STARTED
answer_to_thing None (Some it) = VALUE
answer_to_thing (Some thing) (Some it) = OK

-- ---- in numbers

abbrev pub kind_told : Named → ℕ
kind_told (One (things.Signal s)) = 0
kind_told (One (things.Point p side)) = 1
kind_told (One (things.Section s)) = 2
kind_told (One (things.Route r)) = 3
kind_told (BothSides p) = 1

abbrev pub place_told : Named → ℕ
place_told (One (things.Signal s)) = s.0
place_told (One (things.Point p side)) = p.0
place_told (One (things.Section s)) = s.0
place_told (One (things.Route r)) = r.0
place_told (BothSides p) = p.0

-- of a point at one side, else 0
abbrev pub side_named : Named → Option Side
side_named (One (things.Point p side)) = Some side
side_named _ = None
