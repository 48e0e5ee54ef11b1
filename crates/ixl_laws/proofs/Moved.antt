-- A point that is moved by command is available.
use Rattle.std.proofs.Common.{◌≡◌, ℕ, Bool, true, false, not, refl, ap}
use Rattle.std.specs.Prelude.{Option, Some, None, is_some}
use Rattle.std.proofs.lemmas.Bool.{true≢false}
use Rattle.ixl_state.specs.layout.declared.ids.PointId.{PointId}
use Rattle.ixl_state.specs.sci_telegram.declared.message.Side.{Side}
use Rattle.ixl_state.specs.ixl_spec.closings.declared.thing.Thing.TheVariants.{Point}
use Rattle.ixl_state.specs.ixl_spec.closings.Closed.{is_closed}
use Rattle.ixl_state.specs.ixl_spec.Commands.{held_told, moving_refusal, own_section_refusal, refusal, refused_where}
use Rattle.ixl_state.specs.ixl_spec.Operations.{first_holding, has_thing}
use Rattle.ixl_state.specs.ixl_spec.State.{IxlState}
use Rattle.ixl_state.specs.ixl_spec.Table.{Table}
use Rattle.ixl_state.specs.ixl_spec.View.{is_holding, is_point_available}
use Rattle.ixl_state.specs.ixl_spec.declared.command.Command.TheVariants as commands
use Rattle.ixl_state.specs.ixl_spec.declared.command.Refusal.{Refusal}
use Rattle.ixl_state.specs.ixl_spec.declared.command.Refusal.TheVariants as refusals
use Rattle.ixl_laws.proofs.RoutesGoOn.{where_none}

test_passed : (b : Bool) (told : Refusal) (rest : Option Refusal) → refused_where (not b) told rest ≡ None → b ≡ true
test_passed true told rest is = refl
test_passed false told rest is = absurd (true≢false (ap is_some is))

none_held : (found : Option ℕ) (rest : Option Refusal) → held_told found rest ≡ None → rest ≡ None
none_held None rest is = is
none_held (Some holder) rest is = absurd (true≢false (ap is_some is))

moving_available : (table : Table) (point : PointId) (side : Side) (ixl : IxlState) → moving_refusal table ixl point side ≡ None → is_point_available ixl point.0 ≡ true
unfolding moving_refusal
moving_available table point side ixl none =
    let own : Option Refusal = own_section_refusal table ixl point.0
    in let last : Option Refusal = refused_where (not (is_point_available ixl point.0)) (refusals.PointUnavailable point) own
    in let held : Option Refusal = held_told (first_holding table ixl point.0) last
    in test_passed (is_point_available ixl point.0) (refusals.PointUnavailable point) own
    (none_held (first_holding table ixl point.0) last (where_none (is_closed ixl.closed (Point point side)) (refusals.Closed (Point point side)) held none).1)

pub moved_available : (now : ℕ) (table : Table) (point : PointId) (side : Side) (ixl : IxlState) → refusal now table (commands.Move point side) ixl ≡ None → is_point_available ixl point.0 ≡ true
unfolding refusal
moved_available now table point side ixl none =
    let resumed : Option Refusal = refused_where (not ixl.resumed) refusals.NotResumed (moving_refusal table ixl point side)
    in let holding : Option Refusal = refused_where (is_holding now ixl) refusals.Holding resumed
    in let there = where_none (not (has_thing table ixl (Point point side))) refusals.NoSuchThing holding none
    in let over = where_none (is_holding now ixl) refusals.Holding resumed there.1
    in moving_available table point side ixl (where_none (not ixl.resumed) refusals.NotResumed (moving_refusal table ixl point side) over.1).1
