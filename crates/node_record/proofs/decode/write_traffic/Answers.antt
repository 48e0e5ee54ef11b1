use Rattle.std.proofs.Common.{◌+◌, ◌∙◌, List, ap, drop, get_or, map, subst}
use Rattle.std.proofs.lemmas.List.{drop_all}
use Rattle.std.specs.Io.KnownBytes.{Appends}
use Rattle.node_record.specs.NodeLines.{lines_text}
use Rattle.node_record.specs.NodeTraffic.{Passed, traffic}
use Rattle.node_record.specs.RecordLines.{told}
use Rattle.node_record.specs.inside.Passing.{seen}
use Rattle.node_record.specs.declared.passage.Passed.{Passed as Code}
use Rattle.node_record.proofs.Traffic.{nowhere, split_at, writes_begins, writes_ends, writes_on}
use Rattle.node_record.proofs.decode.write_traffic.Goals as goal

pub loop-one-init : goal.loop-one-init
loop-one-init g c = writes_begins c.args.layout.now c.args.read.now.head.node c.as_slice-one-items.result.now (g.W.Write.contents c.args.out.now)

pub loop-one-preserved : goal.loop-one-preserved
loop-one-preserved g c =
    let all : List Code = c.as_slice-one-items.result.now
    in let place = c.loop-one.one-index
    in writes_on c.args.layout.now c.args.read.now.head.node all (drop place all) (drop (place + 1) all) (get_or all place nowhere)
    (g.W.Write.contents c.args.out.now) (g.W.Write.contents c.loop-one.out) (g.W.Write.contents c.write_all.new.self) c.as_bytes.result.now
    (split_at all place nowhere c.loop-one-test.true) (c.as_bytes.ensures.value ∙ c.in_ok-text.ensures) c.in_ok-write_all.ensures.bytes c.loop-one.invariant

pub returns-clause-done : goal.returns-clause-done
returns-clause-done g c =
    let all : List Code = c.as_slice-one-items.result.now
    in let place = c.loop-one.one-index
    in subst (λ (all : List Passed). Appends (g.W.Write.contents c.args.out.now) (g.W.Write.contents c.flush.new.self) (lines_text c.args.layout.now c.args.read.now.head.node all))
    (ap (map seen) c.as_slice-one-items.ensures.value ∙ (c.in_ok-all.ensures ∙ ap (λ lines. traffic c.args.read.now.head.node 0 (map told lines)) c.deref.ensures.value))
    (writes_ends c.args.layout.now c.args.read.now.head.node all (drop place all)
    (g.W.Write.contents c.args.out.now) (g.W.Write.contents c.loop-one.out) (g.W.Write.contents c.flush.new.self)
    (drop_all place all c.loop-one-test.false) c.loop-one.invariant c.in_ok-flush.ensures.bytes)
