use Rattle.std.proofs.Common.{◌∙◌, ◌∷◌, [], ℕ, List, true, false, sym, ap, arith}
use Rattle.node_drive.specs.Calls.{Text, line_heard}
use Rattle.node_drive.specs.Drives.{Timed}
use Rattle.node_drive.specs.Inside.{standing_of}
use Rattle.node_drive.specs.Rounds.{line}
use Rattle.node_drive.proofs.Calls.{latest_rises, read_is, stopped}
use Rattle.node_drive.proofs.LinesHeard.{asked_as, none_came, none_comes, nothing_called, one_cut, one_line}
use Rattle.node_drive.proofs.Steps.{line_any}
use Rattle.node_drive.proofs.Stepped.{end_calls, end_standing}
use Rattle.node_drive.proofs.lines_heard.hear_next.Goals as goal

pub returns-in_err-line-clause-stopped : goal.returns-in_err-line-clause-stopped
returns-in_err-line-clause-stopped g c = stopped c.from_residual.result ([], false, omega arith, nothing_called c.in_err-line.ensures.none)

pub hear_line-requires : goal.hear_line-requires
hear_line-requires g c =
    let asked = latest_rises c.in_ok-line.ensures.heard in
    let read = (read_is c.read_clock-reading.ensures).0 in
    let reached = c.requires in
    omega (arith, asked, read, reached)

pub returns-in_err-hear_line-in-Text-clause-stopped : goal.returns-in_err-hear_line-in-Text-clause-stopped
returns-in_err-hear_line-in-Text-clause-stopped g c =
    let text : List ℕ = c.as_str.result.now in
    let one : Timed (List ℕ) = record { now = c.read_clock-reading.result; input = text; ends = record { kept = c.in_err-hear_line-in-Text.ensures.stopped.0; leaves = 0 } } in
    let asked = asked_as (ap line_heard c.in-Text.is ∙ ap Text (sym c.as_str.ensures.value)) c.in_ok-line.ensures.heard in
    let noted = ap (standing_of (g.N.NodeMachine.node c.args.node.now)) c.note_reading.ensures in
    stopped c.from_residual-in_err-hear_line-in-Text.result (one ∷ [], false, omega arith, one_cut one noted asked c.read_clock-reading.ensures c.in_err-hear_line-in-Text.ensures.stopped.1)

pub returns-in_ok-hear_line-in-Text-clause-done : goal.returns-in_ok-hear_line-in-Text-clause-done
returns-in_ok-hear_line-in-Text-clause-done g c =
    let n = g.N.NodeMachine.node in
    let does = g.N.NodeMachine.does in
    let text : List ℕ = c.as_str.result.now in
    let leaves = c.release.result in
    let one : Timed (List ℕ) = record { now = c.read_clock-reading.result; input = text; ends = record { kept = c.in_ok-hear_line-in-Text.ensures.done.0; leaves = leaves } } in
    let asked = asked_as (ap line_heard c.in-Text.is ∙ ap Text (sym c.as_str.ensures.value)) c.in_ok-line.ensures.heard in
    let here = standing_of (n c.args.node.now) c.note_reading.new.self in
    let done = line does one.now one.ends.kept text here in
    let heard = c.in_ok-hear_line-in-Text.ensures in
    let stands = heard.standing ∙ line_any does one.now [] one.ends.kept text here in
    let noted = ap (standing_of (n c.args.node.now)) c.note_reading.ensures in (
      one,
      one_line one noted asked c.read_clock-reading.ensures
          (end_standing does leaves done (n c.hear_line.new.node) c.hear_line.new.course c.release.new.course stands c.release.ensures.course)
          (end_calls does leaves done (n c.hear_line.new.node) c.hear_line.new.course stands heard.done.1 c.release.ensures.done),
    )

pub returns-in_ok-hear_line-in-Text-clause-reached : goal.returns-in_ok-hear_line-in-Text-clause-reached
returns-in_ok-hear_line-in-Text-clause-reached g c =
    let read = (read_is c.read_clock-reading.ensures).1 in
    let done = latest_rises c.in_ok-hear_line-in-Text.ensures.done.1 in
    let left = latest_rises c.release.ensures.done in
    let reached = c.in_ok-hear_line-in-Text.ensures.reached in
    omega (arith, read, done, left, reached)

pub returns-in-Nothing-clause-done : goal.returns-in-Nothing-clause-done
returns-in-Nothing-clause-done g c = none_came (asked_as (ap line_heard c.in-Nothing.is) c.in_ok-line.ensures.heard)

pub returns-in-Nothing-clause-reached : goal.returns-in-Nothing-clause-reached
returns-in-Nothing-clause-reached g c =
    let asked = latest_rises c.in_ok-line.ensures.heard in
    let reached = c.requires in
    omega (arith, asked, reached)

pub returns-in-Closed-clause-stopped : goal.returns-in-Closed-clause-stopped
returns-in-Closed-clause-stopped g c = ([], true, omega arith, none_comes (asked_as (ap line_heard c.in-Closed.is) c.in_ok-line.ensures.heard))
