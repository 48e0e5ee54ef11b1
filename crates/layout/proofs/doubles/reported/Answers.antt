use Rattle.std.proofs.Common.{[]}
use Rattle.std.proofs.lemmas.Result.{err_from_is_err_and}
use Rattle.layout_text.specs.declared.fault.TableName.TheVariants as named
use Rattle.layout.specs.declared.known.Double.TheVariants as double
use Rattle.layout.specs.Known.{note_lists, same_name}
use Rattle.layout.specs.Doubles.{sections_reported, reported_of}
use Rattle.layout.proofs.KnownLemmas.{lists-noted, lists-double, lists-all_noted}
use Rattle.layout.proofs.doubles.reported.Goals as goal

pub returns-in_err-note_all : goal.returns-in_err-note_all
unfolding reported_of
returns-in_err-note_all c =
    let p = err_from_is_err_and c.from_residual.result c.from_residual.ensures.1 in
    rw (p.1, p.2) (lists-double same_name double.Name sections_reported named.Detector c.args.detectors.now c.loop-before.before c.index-detectors-before.result c.loop-before.known.entries c.in_err-note_all.field-0.0 (note_lists same_name double.Name sections_reported named.Detector 1 c.args.detectors.now []) c.loop-before-test.true c.index-detectors-before.is (rw c.sections.ensures at c.in_err-note_all.ensures) c.loop-before.invariant)

pub loop-before-preserved : goal.loop-before-preserved
loop-before-preserved c =
    lists-noted same_name double.Name sections_reported named.Detector c.args.detectors.now c.loop-before.before c.index-detectors-before.result c.loop-before.known.entries c.note_all.new.known.entries (note_lists same_name double.Name sections_reported named.Detector 1 c.args.detectors.now []) c.loop-before-test.true c.index-detectors-before.is (rw c.sections.ensures at c.in_ok-note_all.ensures) c.loop-before.invariant

pub returns : goal.returns
unfolding reported_of
returns c =
    lists-all_noted same_name double.Name sections_reported named.Detector c.args.detectors.now c.loop-before.before c.loop-before.known.entries (note_lists same_name double.Name sections_reported named.Detector 1 c.args.detectors.now []) c.loop-before-test.false c.loop-before.invariant
