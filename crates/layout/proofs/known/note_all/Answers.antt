use Rattle.std.proofs.lemmas.Result.{err_from_is_err_and}
use Rattle.layout.specs.Known.{note_all}
use Rattle.layout.proofs.KnownLemmas.{all-noted, all-double, all-all_noted}
use Rattle.layout.proofs.known.note_all.Goals as goal

pub returns-in_err-note_key : goal.returns-in_err-note_key
returns-in_err-note_key g c =
    let p = err_from_is_err_and c.from_residual.result c.from_residual.ensures.1 in
    rw (p.1, p.2) (all-double g.K.PartialEq.eq c.args.double c.args.place c.args.keys.now c.loop-key.key-index c.key-item.result c.loop-key.known.entries c.in_err-note_key.field-0.0 (note_all g.K.PartialEq.eq c.args.double c.args.place c.args.keys.now c.args.known.now.entries) c.loop-key-test.true c.key-item.is c.in_err-note_key.ensures c.loop-key.invariant)

pub loop-key-preserved : goal.loop-key-preserved
loop-key-preserved g c =
    all-noted g.K.PartialEq.eq c.args.double c.args.place c.args.keys.now c.loop-key.key-index c.key-item.result c.loop-key.known.entries c.note_key.new.known.entries (note_all g.K.PartialEq.eq c.args.double c.args.place c.args.keys.now c.args.known.now.entries) c.loop-key-test.true c.key-item.is c.in_ok-note_key.ensures c.loop-key.invariant

pub returns : goal.returns
returns g c =
    all-all_noted g.K.PartialEq.eq c.args.double c.args.place c.args.keys.now c.loop-key.key-index c.loop-key.known.entries (note_all g.K.PartialEq.eq c.args.double c.args.place c.args.keys.now c.args.known.now.entries) c.loop-key-test.false c.loop-key.invariant
