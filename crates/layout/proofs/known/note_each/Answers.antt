use Rattle.std.proofs.lemmas.Result.{err_from_is_err_and}
use Rattle.layout.specs.Known.{note_each}
use Rattle.layout.proofs.KnownLemmas.{each-noted, each-double, each-all_noted}
use Rattle.layout.proofs.known.note_each.Goals as goal

pub returns-in_err-note_key : goal.returns-in_err-note_key
returns-in_err-note_key g c =
    let p = err_from_is_err_and c.from_residual.result c.from_residual.ensures.1 in
    rw (p.1, p.2) (each-double g.K.PartialEq.eq c.args.double c.args.table c.args.keys.now c.loop-before.before c.index-keys-before.result c.loop-before.known.entries c.in_err-note_key.field-0.0 (note_each g.K.PartialEq.eq c.args.double c.args.table 1 c.args.keys.now c.args.known.now.entries) c.loop-before-test.true c.index-keys-before.is c.in_err-note_key.ensures c.loop-before.invariant)

pub loop-before-preserved : goal.loop-before-preserved
loop-before-preserved g c =
    each-noted g.K.PartialEq.eq c.args.double c.args.table c.args.keys.now c.loop-before.before c.index-keys-before.result c.loop-before.known.entries c.note_key.new.known.entries (note_each g.K.PartialEq.eq c.args.double c.args.table 1 c.args.keys.now c.args.known.now.entries) c.loop-before-test.true c.index-keys-before.is c.in_ok-note_key.ensures c.loop-before.invariant

pub returns : goal.returns
returns g c =
    each-all_noted g.K.PartialEq.eq c.args.double c.args.table c.args.keys.now c.loop-before.before c.loop-before.known.entries (note_each g.K.PartialEq.eq c.args.double c.args.table 1 c.args.keys.now c.args.known.now.entries) c.loop-before-test.false c.loop-before.invariant
