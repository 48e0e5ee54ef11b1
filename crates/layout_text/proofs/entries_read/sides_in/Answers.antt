use Rattle.std.proofs.lemmas.Result.{err_from_is_err_and}
use Rattle.std.proofs.lemmas.Map.Iter.{rest_more, rest_all}
use Rattle.std.specs.Map.Iter.{deref_pair}
use Rattle.toml.specs.View.{table_view}
use Rattle.layout_text.specs.Text.{sides_of}
use Rattle.layout_text.proofs.TextLemmas.{sides-goes_on, name-ends, side-ends, sides-are_done}
use Rattle.layout_text.proofs.entries_read.sides_in.Goals as goal

pub returns-in_err-point : goal.returns-in_err-point
returns-in_err-point c =
    let p = err_from_is_err_and c.from_residual.result c.from_residual.ensures.1 in
    let split = rest_more deref_pair c.loop-point.point-iterator c.next.new.self c.next.result (c.in-Some.point, c.in-Some.word) c.in-Some.is c.next.ensures.steps in
    rw (p.1, p.2) (name-ends c.args.place c.in_err-point.field-0.0 c.loop-point.sides.items c.in-Some.point.now c.in-Some.word.now c.loop-point.point-iterator c.next.new.self (sides_of c.args.place (table_view c.args.members.now)) split (rw c.as_str.ensures.value at c.in_err-point.ensures) c.loop-point.invariant.2)

pub returns-in_err-side : goal.returns-in_err-side
returns-in_err-side c =
    let p = err_from_is_err_and c.from_residual-in_err-side.result c.from_residual-in_err-side.ensures.1 in
    let split = rest_more deref_pair c.loop-point.point-iterator c.next.new.self c.next.result (c.in-Some.point, c.in-Some.word) c.in-Some.is c.next.ensures.steps in
    rw (p.1, p.2) (side-ends c.args.place c.in_err-side.field-0.0 c.loop-point.sides.items c.in-Some.point.now c.in-Some.word.now c.loop-point.point-iterator c.next.new.self c.in_ok-point.point (sides_of c.args.place (table_view c.args.members.now)) split (rw c.as_str.ensures.value at c.in_ok-point.ensures) c.in_err-side.ensures c.loop-point.invariant.2)

pub loop-point-preserved : goal.loop-point-preserved
loop-point-preserved c =
    let split = rest_more deref_pair c.loop-point.point-iterator c.next.new.self c.next.result (c.in-Some.point, c.in-Some.word) c.in-Some.is c.next.ensures.steps in
    (tt, tt, rw c.in_ok-push.ensures.items (sides-goes_on c.args.place c.loop-point.sides.items c.in-Some.point.now c.in-Some.word.now c.loop-point.point-iterator c.next.new.self c.in_ok-point.point c.in_ok-side.side (sides_of c.args.place (table_view c.args.members.now)) split (rw c.as_str.ensures.value at c.in_ok-point.ensures) c.in_ok-side.ensures c.loop-point.invariant.2))

pub returns : goal.returns
returns c =
    let ended = rest_all deref_pair c.loop-point.point-iterator c.next.new.self c.next.result c.in-None.is c.next.ensures.steps in
    sides-are_done c.args.place c.loop-point.sides.items c.loop-point.point-iterator (sides_of c.args.place (table_view c.args.members.now)) ended c.loop-point.invariant.2
