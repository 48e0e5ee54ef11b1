use Rattle.std.proofs.Common.{◌∙◌, [], ◌∷◌, ◌++◌, None, Some, sym, subst}
use Rattle.node_drive.specs.Drives.{IsRound}
use Rattle.node_drive.specs.Inside.{standing_of}
use Rattle.node_drive.proofs.Calls.{stopped}
use Rattle.node_drive.proofs.Comings.{performs_none, stops_now, stops_then}
use Rattle.node_drive.proofs.Turns.{are_more, goes_on, performs_round}
use Rattle.node_drive.proofs.rounds.drive.Goals as goal

pub loop-init : goal.loop-init
loop-init g c = ([], tt, tt, performs_none _ _, c.requires)

pub returns-in_err-ticks-clause-stopped : goal.returns-in_err-ticks-clause-stopped
returns-in_err-ticks-clause-stopped g c =
    let before = c.loop.invariant in
    let last = c.in_err-ticks.ensures.stopped in
    stopped c.from_residual.result (record {
      made = before.0;
      broken = Some last.0;
      are = before.1;
      goes_on = before.2;
      is_round = subst (λ s. IsRound g.N.NodeMachine.does s last.0) before.3.standing_is last.1;
      stops = stops_then before.3 last.2;
    })

pub returns-then-is_over-clause-done : goal.returns-then-is_over-clause-done
returns-then-is_over-clause-done g c =
    let before = c.loop.invariant in
    let done = c.in_ok-ticks.ensures.done in
    let over = c.is_over.ensures c.args.first _ c.saturating_sub.ensures in
    record {
      earlier = before.0;
      last = done.0;
      are = are_more before.0 done.0 before.1 before.3 done.1 done.2;
      goes_on = before.2;
      ticks_is = done.3;
      over = sym over ∙ c.if-is_over.true;
      performs = performs_round before.0 done.0 before.3 done.4;
    }

pub loop-preserved : goal.loop-preserved
loop-preserved g c =
    let before = c.loop.invariant in
    let done = c.in_ok-ticks.ensures.done in
    let does = g.N.NodeMachine.does in
    let start = standing_of (g.N.NodeMachine.node c.args.node.now) c.args.course.now in
    let over = c.is_over.ensures c.args.first _ c.saturating_sub.ensures in
    let all = performs_round before.0 done.0 before.3 done.4 in (
      before.0 ++ done.0 ∷ [],
      are_more before.0 done.0 before.1 before.3 done.1 done.2,
      goes_on does c.args.for_ms c.args.first before.0 done.0 start (standing_of (g.N.NodeMachine.node c.round.new.node) c.round.new.course) _ before.2 done.3 all.standing_is (sym over ∙ c.if-is_over.false),
      all,
      c.in_ok-ticks.ensures.reached,
    )

pub returns-clause-stopped : goal.returns-clause-stopped
returns-clause-stopped g c =
    let before = c.loop.invariant in
    record { made = before.0; broken = None; are = before.1; goes_on = before.2; is_round = tt; stops = stops_now [] before.3 }
