-- What an operator wants, and why the interlocking refuses it, as C tells and is told.
use Rattle.std.specs.Prelude.{ℕ, Option, Some, None}
use Rattle.std.specs.Option.{option_map}
use Rattle.embedded_ixl.specs.ixl_state.ixl_spec.Commands.{refusal_number}
use Rattle.embedded_ixl.specs.ixl_state.ixl_spec.closings.declared.thing.Thing.TheVariants.{Route, Section}
use Rattle.embedded_ixl.specs.ixl_state.ixl_spec.closings.declared.thing.Named.{Named}
use Rattle.embedded_ixl.specs.ixl_state.ixl_spec.closings.declared.thing.Named.TheVariants.{One, BothSides}
use Rattle.embedded_ixl.specs.ixl_state.ixl_spec.declared.command.Command.{Command}
use Rattle.embedded_ixl.specs.ixl_state.ixl_spec.declared.command.Command.TheVariants as commands
use Rattle.embedded_ixl.specs.ixl_state.ixl_spec.declared.command.Refusal.{Refusal}
use Rattle.embedded_ixl.specs.ixl_state.ixl_spec.declared.command.Refusal.TheVariants as refusals
use Rattle.interlocking_c.specs.Known.{side_told}
use Rattle.interlocking_c.specs.Things.{kind_told, named_of, place_told, side_named, side_of}
use Rattle.interlocking_c.specs.declared.cause.CauseTold.{CauseTold}

-- that the route at this place is set, cancelled or released
abbrev pub request : ℕ → Command
request route = commands.Request (record { 0 = route })

abbrev pub cancel : ℕ → Command
cancel route = commands.Cancel (record { 0 = route })

abbrev pub release : ℕ → Command
release route = commands.Release (record { 0 = route })

-- that the point at this place is moved to the side of a number, if it is that of one
abbrev pub to_move : ℕ → ℕ → Option Command
to_move point side = option_map (commands.Move (record { 0 = point })) (side_of side)

-- that a thing is closed or opened, if the numbers are those of one
abbrev pub to_close : ℕ → ℕ → ℕ → Option Command
to_close kind place side = option_map commands.Close (named_of kind place side)

abbrev pub to_open : ℕ → ℕ → ℕ → Option Command
to_open kind place side = option_map commands.Open (named_of kind place side)

-- what a refusal names, if it names something
abbrev pub named_in : Refusal → Option Named
named_in (refusals.Conflict route) = Some (One (Route route))
named_in (refusals.NotClear section) = Some (One (Section section))
named_in (refusals.PointUnavailable point) = Some (BothSides point)
named_in (refusals.Closed thing) = Some (One thing)
named_in (refusals.Held route) = Some (One (Route route))
named_in _ = None

abbrev pub cause_naming : ℕ → Option Named → CauseTold
cause_naming number None = record { number = number; kind = 0; place = 0; side = 0 }
cause_naming number (Some named) = record { number = number; kind = kind_told named; place = place_told named; side = side_told (side_named named) }

-- its number and what it names; no number where the command is obeyed
abbrev pub cause_told : Option Refusal → CauseTold
cause_told None = cause_naming 0 None
cause_told (Some why) = cause_naming (refusal_number why) (named_in why)
