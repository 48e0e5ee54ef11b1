use Rattle.std.proofs.Common.{[], ◌∷◌, ◌∙◌, ap, arith}
use Rattle.node_drive.specs.Drives.{unasked}
use Rattle.node_drive.specs.Inside.{standing_of}
use Rattle.node_drive.specs.Rounds.{Ends, Tick, step, then_released}
use Rattle.node_drive.proofs.Calls.{calls_same, calls_then, cuts_now, cuts_same, cuts_then, latest_rises, read_is, stopped}
use Rattle.node_drive.proofs.Comings.{performs_one, stops_one}
use Rattle.node_drive.proofs.Stepped.{end_calls, end_cut, end_standing, step_calls, step_cut, step_reached, step_standing}
use Rattle.node_drive.proofs.rounds.tick.Goals as goal

pub returns-in_err-tick-clause-stopped : goal.returns-in_err-tick-clause-stopped
returns-in_err-tick-clause-stopped g c =
    stopped c.from_residual.result (c.read_clock-ticks.result, unasked, stops_one c.read_clock-ticks.result (Tick unasked) (cuts_now _ c.read_clock-ticks.ensures))

pub returns-in_err-perform-clause-stopped : goal.returns-in_err-perform-clause-stopped
returns-in_err-perform-clause-stopped g c =
    let does = g.N.NodeMachine.does in
    let n = g.N.NodeMachine.node in
    let ticks = c.read_clock-ticks.result in
    let old = n c.args.node.now in
    let course = c.note_reading.new.self in
    let kept = c.in_err-perform.ensures.stopped.0 in
    let ends : Ends = record { kept = kept ∷ []; leaves = 0 } in
    let cut = end_cut does 0 (step does ticks kept does.tick (standing_of old course)) (step_cut does ticks kept does.tick course old (n c.tick.new.self) c.in_ok-tick.ensures c.in_err-perform.ensures.stopped.1) in
    stopped c.from_residual-in_err-perform.result (
      ticks,
      ends,
      stops_one ticks (Tick ends) (cuts_then c.read_clock-ticks.ensures (cuts_same (ap (λ s. (then_released 0 (step does ticks kept does.tick (standing_of old s))).0) c.note_reading.ensures) cut)),
    )

pub returns-clause-done : goal.returns-clause-done
returns-clause-done g c =
    let does = g.N.NodeMachine.does in
    let n = g.N.NodeMachine.node in
    let ticks = c.read_clock-ticks.result in
    let leaves = c.release.result in
    let old = n c.args.node.now in
    let last = n c.perform.new.node in
    let course = c.note_reading.new.self in
    let ticked = c.in_ok-tick.ensures in
    let performed = c.in_ok-perform.ensures in
    let kept = performed.done.0 in
    let ends : Ends = record { kept = kept ∷ []; leaves = leaves } in
    let done = step does ticks kept does.tick (standing_of old course) in
    let stands = step_standing does ticks kept does.tick course c.perform.new.course old (n c.tick.new.self) last ticked performed.course performed.node in
    let calls = step_calls does ticks kept does.tick course old (n c.tick.new.self) ticked performed.done.1 in (
      ends,
      performs_one ticks (Tick ends)
          (end_standing does leaves done last c.perform.new.course c.release.new.course stands c.release.ensures.course ∙ ap (λ s. (then_released leaves (step does ticks kept does.tick (standing_of old s))).1) c.note_reading.ensures)
          (calls_then c.read_clock-ticks.ensures
          (calls_same (ap (λ s. (then_released leaves (step does ticks kept does.tick (standing_of old s))).0) c.note_reading.ensures) (end_calls does leaves done last c.perform.new.course stands calls c.release.ensures.done))),
    )

pub returns-clause-reached : goal.returns-clause-reached
returns-clause-reached g c =
    let does = g.N.NodeMachine.does in
    let n = g.N.NodeMachine.node in
    let performed = c.in_ok-perform.ensures in
    let same = step_reached does c.read_clock-ticks.result does.tick (n c.args.node.now) (n c.tick.new.self) (n c.perform.new.node) c.in_ok-tick.ensures performed.node in
    let read = (read_is c.read_clock-ticks.ensures).1 in
    let done = latest_rises performed.done.1 in
    let left = latest_rises c.release.ensures.done in
    omega (arith, same, read, done, left)

pub returns-clause-ticks : goal.returns-clause-ticks
returns-clause-ticks g c =
    let read = (read_is c.read_clock-ticks.ensures).1 in
    let done = latest_rises c.in_ok-perform.ensures.done.1 in
    let left = latest_rises c.release.ensures.done in
    omega (arith, read, done, left)
