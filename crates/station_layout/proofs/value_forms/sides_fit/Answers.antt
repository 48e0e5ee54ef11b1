use Rattle.std.proofs.Common.{◌≡◌, ◌∙◌, Bool, true, List, [], String, Global, refl, sym}
use Rattle.std.proofs.lemmas.Map.Iter.{rest_all}
use Rattle.std.specs.Map.Iter.{deref_pair}
use Rattle.toml.specs.View.{members_view, table_view}
use Rattle.toml.specs.declared.value.Value.{Value}
use Rattle.station_layout.specs.ValueForms.{sides_fit}
use Rattle.station_layout.proofs.value_forms.sides_fit.Goals as goal

sides-are_done : (es : List (String Global × Value)) (total : Bool) → es ≡ [] → sides_fit (members_view es) ≡ total → true ≡ total
sides-are_done es total ended so_far =
    let one : sides_fit (members_view es) ≡ true = rw ended refl in
    sym one ∙ so_far

pub returns : goal.returns
returns c =
    let ended = rest_all deref_pair c.loop-point.point-iterator c.next.new.self c.next.result c.in-None.is c.next.ensures.steps in
    sides-are_done c.loop-point.point-iterator (sides_fit (table_view c.args.members.now)) ended c.loop-point.invariant.2
