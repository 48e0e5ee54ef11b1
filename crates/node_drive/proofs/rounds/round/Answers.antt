use Rattle.std.proofs.Common.{refl, false, [], arith}
use Rattle.std.proofs.lemmas.Result.{IfOk-weaker, on_err_weaker}
use Rattle.node_drive.specs.Drives.{unasked}
use Rattle.node_drive.proofs.Calls.{stopped}
use Rattle.node_drive.proofs.Comings.{performs_then}
use Rattle.node_drive.proofs.Turns.{cut_in_lines, cut_is_round, performs_all, stops_datagrams, stops_lines, stops_opening, stops_tick, whole_is_round, whole_round}
use Rattle.node_drive.proofs.rounds.round.Goals as goal

pub returns-in_err-begin_round-clause-stopped : goal.returns-in_err-begin_round-clause-stopped
returns-in_err-begin_round-clause-stopped g c =
    let cut = c.in_err-begin_round.ensures.stopped in
    stopped c.from_residual.result (
      cut_in_lines cut.0 cut.1 [] false,
      cut_is_round g.N.NodeMachine.does _ cut.0 cut.1 [] false (omega arith),
      stops_opening cut.0 cut.1 (cut_in_lines cut.0 cut.1 [] false) refl refl cut.2,
    )

pub returns-in_err-hear_lines-clause-stopped : goal.returns-in_err-hear_lines-clause-stopped
returns-in_err-hear_lines-clause-stopped g c =
    let begun = c.in_ok-begin_round.ensures.done in
    let cut = c.in_err-hear_lines.ensures.stopped in
    stopped c.from_residual-in_err-hear_lines.result (
      cut_in_lines begun.0 begun.1 cut.0 cut.1,
      cut_is_round g.N.NodeMachine.does _ begun.0 begun.1 cut.0 cut.1 cut.2,
      stops_lines begun.0 begun.1 cut.0 cut.1 begun.2 cut.3,
    )

pub returns-in_err-hear_datagrams-clause-stopped : goal.returns-in_err-hear_datagrams-clause-stopped
returns-in_err-hear_datagrams-clause-stopped g c =
    let begun = c.in_ok-begin_round.ensures.done in
    let lines = c.in_ok-hear_lines.ensures.done in
    let cut = c.in_err-hear_datagrams.ensures.stopped in
    stopped c.from_residual-in_err-hear_datagrams.result (
      whole_round begun.0 begun.1 lines.0 cut.0 cut.1 0 unasked,
      whole_is_round g.N.NodeMachine.does begun.0 begun.1 lines.0 cut.0 cut.1 0 unasked (performs_then begun.2 lines.2) lines.1 cut.2 cut.3 cut.4,
      stops_datagrams begun.0 begun.1 lines.0 cut.0 cut.1 0 unasked begun.2 lines.2 cut.5,
    )

pub returns-clause-done : goal.returns-clause-done
returns-clause-done g c =
    let begun = c.in_ok-begin_round.ensures.done in
    let lines = c.in_ok-hear_lines.ensures.done in
    let datagrams = c.in_ok-hear_datagrams.ensures.done in
    IfOk-weaker c.tick.result _ _
    (λ ticks ticked. (
      whole_round begun.0 begun.1 lines.0 datagrams.0 datagrams.1 ticks ticked.0,
      whole_is_round g.N.NodeMachine.does begun.0 begun.1 lines.0 datagrams.0 datagrams.1 ticks ticked.0 (performs_then begun.2 lines.2) lines.1 datagrams.2 datagrams.3 datagrams.4,
      refl,
      refl,
      performs_all begun.0 begun.1 lines.0 datagrams.0 datagrams.1 ticks ticked.0 begun.2 lines.2 datagrams.5 ticked.1,
    ))
    c.tick.ensures.done

pub returns-clause-stopped : goal.returns-clause-stopped
returns-clause-stopped g c =
    let begun = c.in_ok-begin_round.ensures.done in
    let lines = c.in_ok-hear_lines.ensures.done in
    let datagrams = c.in_ok-hear_datagrams.ensures.done in
    on_err_weaker c.tick.result
    (λ cut. (
      whole_round begun.0 begun.1 lines.0 datagrams.0 datagrams.1 cut.0 cut.1,
      whole_is_round g.N.NodeMachine.does begun.0 begun.1 lines.0 datagrams.0 datagrams.1 cut.0 cut.1 (performs_then begun.2 lines.2) lines.1 datagrams.2 datagrams.3 datagrams.4,
      stops_tick begun.0 begun.1 lines.0 datagrams.0 datagrams.1 cut.0 cut.1 begun.2 lines.2 datagrams.5 cut.2,
    ))
    c.tick.ensures.stopped
