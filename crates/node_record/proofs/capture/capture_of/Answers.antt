use Rattle.std.proofs.Common.{◌+◌, ◌∙◌, List, ap, drop, get_or, map, subst}
use Rattle.std.proofs.lemmas.List.{drop_all}
use Rattle.std.specs.Prelude.{IfErr}
use Rattle.node_record.specs.CapturedRecord.{IsCaptureOf}
use Rattle.node_record.specs.NodeEnds.{ends_of}
use Rattle.node_record.specs.NodeTraffic.{Passed, traffic}
use Rattle.node_record.specs.RecordLines.{told}
use Rattle.node_record.specs.inside.CapturesSoFar.{IsNoCapture}
use Rattle.node_record.specs.inside.Passing.{seen}
use Rattle.node_record.specs.declared.passage.Passed.{Passed as Code}
use Rattle.node_record.proofs.Captures.{begins, ends, fails, grows}
use Rattle.node_record.proofs.Traffic.{nowhere, split_at}
use Rattle.node_record.proofs.capture.capture_of.Goals as goal

pub loop-one-init : goal.loop-one-init
loop-one-init c = begins (ends_of c.args.given) c.args.read.now.head.node c.as_slice-one-items.result.now c.in_ok-file.file.items c.in_ok-file.ensures.exact c.in_ok-file.ensures.is

pub loop-one-preserved : goal.loop-one-preserved
loop-one-preserved c =
    let all : List Code = c.as_slice-one-items.result.now
    in let place = c.loop-one.one-index
    in grows (ends_of c.args.given) c.args.read.now.head.node all (drop place all) (drop (place + 1) all) (get_or all place nowhere) c.loop-one.file.items c.push_passed.new.file.items
    (split_at all place nowhere c.loop-one-test.true) c.in_ok-push_passed.ensures.added c.loop-one.invariant

pub returns-in_err-push_passed-clause-failed : goal.returns-in_err-push_passed-clause-failed
returns-in_err-push_passed-clause-failed c =
    let all : List Code = c.as_slice-one-items.result.now
    in let place = c.loop-one.one-index
    in let answer = c.from_residual-in_err-push_passed.result
    in subst (λ (all : List Passed). IfErr answer (IsNoCapture all)) (ap (map seen) c.as_slice-one-items.ensures.value ∙ (c.in_ok-all.ensures ∙ ap (λ lines. traffic c.args.read.now.head.node 0 (map told lines)) c.deref.ensures.value))
    (fails (ends_of c.args.given) c.args.read.now.head.node all (drop place all) (drop (place + 1) all) (get_or all place nowhere) c.loop-one.file.items c.in_err-push_passed.field-0.0 answer
    (split_at all place nowhere c.loop-one-test.true) c.in_err-push_passed.ensures.failed c.loop-one.invariant c.from_residual-in_err-push_passed.ensures.1)

pub returns-clause-is : goal.returns-clause-is
returns-clause-is c =
    let all : List Code = c.as_slice-one-items.result.now
    in let place = c.loop-one.one-index
    in subst (λ (all : List Passed). IsCaptureOf (ends_of c.args.given) c.args.read.now.head.node all c.loop-one.file.items) (ap (map seen) c.as_slice-one-items.ensures.value ∙ (c.in_ok-all.ensures ∙ ap (λ lines. traffic c.args.read.now.head.node 0 (map told lines)) c.deref.ensures.value))
    (ends (ends_of c.args.given) c.args.read.now.head.node all (drop place all) c.loop-one.file.items (drop_all place all c.loop-one-test.false) c.loop-one.invariant)
