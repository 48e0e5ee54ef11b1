use Rattle.std.proofs.Common.{◌∷◌, ◌++◌, [], refl}
use Rattle.node_panel.proofs.CallsOn.{calls_none, calls_on, calls_same}
use Rattle.node_panel.proofs.Lists.{heard_on, lines_next, noted_on}
use Rattle.node_panel.proofs.hearing.hear_lines.Goals as goal

pub loop-init : goal.loop-init
loop-init g c = ([], calls_none _, refl, refl)

pub returns-then-not-branch : goal.returns-then-not-branch
returns-then-not-branch g c =
    let before = c.loop.invariant in
    let now = c.in_ok-hear_next.ensures in (
      before.0 ++ now.0 ∷ [],
      calls_same (lines_next before.0 now.0) (calls_on before.1 now.1),
      heard_on c.args.layout.now before.0 now.0 c.args.heard.now c.loop.heard c.hear_next.new.heard before.2 now.2,
      noted_on c.args.layout.now c.args.reading before.0 now.0 c.args.heard.now c.loop.heard c.args.desk.now c.loop.desk c.hear_next.new.desk before.2 before.3 now.3,
    )

pub loop-preserved : goal.loop-preserved
loop-preserved g c =
    let before = c.loop.invariant in
    let now = c.in_ok-hear_next.ensures in (
      before.0 ++ now.0 ∷ [],
      calls_same (lines_next before.0 now.0) (calls_on before.1 now.1),
      heard_on c.args.layout.now before.0 now.0 c.args.heard.now c.loop.heard c.hear_next.new.heard before.2 now.2,
      noted_on c.args.layout.now c.args.reading before.0 now.0 c.args.heard.now c.loop.heard c.args.desk.now c.loop.desk c.hear_next.new.desk before.2 before.3 now.3,
    )
