use Rattle.std.proofs.Common.{[], get_or}
use Rattle.std.proofs.lemmas.Result.{err_from_is_err_and}
use Rattle.layout.specs.declared.entries.Joint.{Joint}
use Rattle.layout_text.specs.declared.fault.TableName.TheVariants as named
use Rattle.layout.specs.declared.known.Double.TheVariants as double
use Rattle.layout.specs.Known.{note_lists, same_port}
use Rattle.layout.specs.Doubles.{ports_joined, joined_of}
use Rattle.layout.proofs.KnownLemmas.{lists-noted, lists-double, lists-all_noted, get_or-any, no_joint, port_eq}
use Rattle.layout.proofs.doubles.joined.Goals as goal

pub returns-in_err-note_all : goal.returns-in_err-note_all
unfolding joined_of
returns-in_err-note_all c =
    let p = err_from_is_err_and c.from_residual.result c.from_residual.ensures.1 in
    let x : Joint = get_or c.args.joints.now c.loop-before.before no_joint in
    rw (p.1, p.2) (lists-double same_port double.Joint ports_joined named.Joint c.args.joints.now c.loop-before.before x c.loop-before.known.entries c.in_err-note_all.field-0.0 (note_lists same_port double.Joint ports_joined named.Joint 1 c.args.joints.now []) c.loop-before-test.true (get_or-any c.args.joints.now c.loop-before.before no_joint x c.loop-before-test.true) (rw port_eq at c.in_err-note_all.ensures) c.loop-before.invariant)

pub loop-before-preserved : goal.loop-before-preserved
loop-before-preserved c =
    let x : Joint = get_or c.args.joints.now c.loop-before.before no_joint in
    lists-noted same_port double.Joint ports_joined named.Joint c.args.joints.now c.loop-before.before x c.loop-before.known.entries c.note_all.new.known.entries (note_lists same_port double.Joint ports_joined named.Joint 1 c.args.joints.now []) c.loop-before-test.true (get_or-any c.args.joints.now c.loop-before.before no_joint x c.loop-before-test.true) (rw port_eq at c.in_ok-note_all.ensures) c.loop-before.invariant

pub returns : goal.returns
unfolding joined_of
returns c =
    lists-all_noted same_port double.Joint ports_joined named.Joint c.args.joints.now c.loop-before.before c.loop-before.known.entries (note_lists same_port double.Joint ports_joined named.Joint 1 c.args.joints.now []) c.loop-before-test.false c.loop-before.invariant
