use Rattle.std.proofs.Common.{◌∷◌, [], ◌∙◌, ap, sym, true, false, arith}
use Rattle.node_drive.specs.Calls.{Arrival, datagram_heard}
use Rattle.node_drive.specs.Drives.{Timed, failed, silent, too_old, unasked}
use Rattle.node_drive.specs.Inside.{standing_of}
use Rattle.node_drive.specs.Rounds.{Datagram, FailedDatagram, NoDatagram, datagram}
use Rattle.node_drive.proofs.Calls.{latest_rises, read_is, stopped}
use Rattle.node_drive.proofs.DatagramsHeard.{asked_as, heard_before, none_came, none_known, old_came, one_cut, one_datagram}
use Rattle.node_drive.proofs.Stepped.{datagram_any, end_calls, end_standing}
use Rattle.node_drive.proofs.datagrams_heard.hear_next.Goals as goal

-- it may be too old
pub returns-then-not-is_heard-clause-done : goal.returns-then-not-is_heard-clause-done
returns-then-not-is_heard-clause-done g c =
    let reading = c.read_clock-reading.result in
    let arrived = c.in-Came.arrived in
    let here = standing_of (g.N.NodeMachine.node c.args.node.now) in
    let noted = ap here c.note_reading.ensures in
    let late = heard_before (here c.args.course.now) _ reading false noted (sym c.is_heard.ensures ∙ c.if-not-is_heard.true) in
    let asked = asked_as (ap datagram_heard c.in-Came.is) c.next_datagram.ensures in (
      (reading, Datagram arrived.origin arrived.bytes.items c.throw_away-thrown.result unasked) ∷ [],
      λ taken few. too_old few late,
      old_came reading arrived.origin arrived.bytes.items c.throw_away-thrown.result c.note_reading.ensures late c.note_thrown_away.ensures asked c.read_clock-reading.ensures c.throw_away-thrown.ensures,
    )

pub returns-then-not-is_heard-clause-reached : goal.returns-then-not-is_heard-clause-reached
returns-then-not-is_heard-clause-reached g c =
    let asked = latest_rises c.next_datagram.ensures in
    let read = latest_rises c.read_clock-reading.ensures in
    let thrown = latest_rises c.throw_away-thrown.ensures in
    let reached = c.requires in
    omega (arith, asked, read, thrown, reached)

pub hear_datagram-requires : goal.hear_datagram-requires
hear_datagram-requires g c =
    let asked = latest_rises c.next_datagram.ensures in
    let read = (read_is c.read_clock-reading.ensures).0 in
    let reached = c.requires in
    omega (arith, asked, read, reached)

pub returns-in_err-hear_datagram-in-Came-clause-stopped : goal.returns-in_err-hear_datagram-in-Came-clause-stopped
returns-in_err-hear_datagram-in-Came-clause-stopped g c =
    let reading = c.read_clock-reading.result in
    let arrived = c.in-Came.arrived in
    let here = standing_of (g.N.NodeMachine.node c.args.node.now) in
    let noted = ap here c.note_reading.ensures in
    let heard = heard_before (here c.args.course.now) _ reading true noted (sym c.is_heard.ensures ∙ c.if-not-is_heard.false) in
    let asked = asked_as (ap datagram_heard c.in-Came.is) c.next_datagram.ensures in
    let one : Timed Arrival = record { now = reading; input = (arrived.origin, arrived.bytes.items); ends = record { kept = c.in_err-hear_datagram-in-Came.ensures.stopped.0 ∷ []; leaves = 0 } } in
    stopped c.from_residual.result (one, heard, one_cut one noted heard asked c.read_clock-reading.ensures c.in_err-hear_datagram-in-Came.ensures.stopped.1)

pub returns-in_ok-hear_datagram-in-Came-clause-done : goal.returns-in_ok-hear_datagram-in-Came-clause-done
returns-in_ok-hear_datagram-in-Came-clause-done g c =
    let n = g.N.NodeMachine.node in
    let does = g.N.NodeMachine.does in
    let reading = c.read_clock-reading.result in
    let arrived = c.in-Came.arrived in
    let here = standing_of (n c.args.node.now) in
    let noted = ap here c.note_reading.ensures in
    let is_heard = heard_before (here c.args.course.now) _ reading true noted (sym c.is_heard.ensures ∙ c.if-not-is_heard.false) in
    let asked = asked_as (ap datagram_heard c.in-Came.is) c.next_datagram.ensures in
    let leaves = c.release.result in
    let one : Timed Arrival = record { now = reading; input = (arrived.origin, arrived.bytes.items); ends = record { kept = c.in_ok-hear_datagram-in-Came.ensures.done.0 ∷ []; leaves = leaves } } in
    let heard = c.in_ok-hear_datagram-in-Came.ensures in
    let kept = heard.done.0 in
    let here_now = here c.note_reading.new.self in
    let stands = heard.standing ∙ datagram_any does reading true kept arrived.origin arrived.bytes.items here_now in
    let done = datagram does reading kept arrived.origin arrived.bytes.items (here c.note_reading.new.self) in (
      one,
      is_heard,
      one_datagram one noted is_heard asked c.read_clock-reading.ensures
          (end_standing does leaves done (n c.hear_datagram.new.node) c.hear_datagram.new.course c.release.new.course stands c.release.ensures.course)
          (end_calls does leaves done (n c.hear_datagram.new.node) c.hear_datagram.new.course stands heard.done.1 c.release.ensures.done),
    )

pub returns-in_ok-hear_datagram-in-Came-clause-reached : goal.returns-in_ok-hear_datagram-in-Came-clause-reached
returns-in_ok-hear_datagram-in-Came-clause-reached g c =
    let read = (read_is c.read_clock-reading.ensures).1 in
    let done = latest_rises c.in_ok-hear_datagram-in-Came.ensures.done.1 in
    let left = latest_rises c.release.ensures.done in
    let reached = c.in_ok-hear_datagram-in-Came.ensures.reached in
    omega (arith, read, done, left, reached)

-- there was none
pub returns-in-Empty-clause-done : goal.returns-in-Empty-clause-done
returns-in-Empty-clause-done g c = ((0, NoDatagram) ∷ [], λ taken few. silent few, none_came c.note_empty.ensures (asked_as (ap datagram_heard c.in-Empty.is) c.next_datagram.ensures))

pub returns-in-Empty-clause-reached : goal.returns-in-Empty-clause-reached
returns-in-Empty-clause-reached g c =
    let asked = latest_rises c.next_datagram.ensures in
    let reached = c.requires in
    omega (arith, asked, reached)

-- it isn't known
pub returns-in-Failed-clause-done : goal.returns-in-Failed-clause-done
returns-in-Failed-clause-done g c = ((0, FailedDatagram) ∷ [], λ taken few. failed few, none_known (asked_as (ap datagram_heard c.in-Failed.is) c.next_datagram.ensures))

pub returns-in-Failed-clause-reached : goal.returns-in-Failed-clause-reached
returns-in-Failed-clause-reached g c =
    let asked = latest_rises c.next_datagram.ensures in
    let reached = c.requires in
    omega (arith, asked, reached)
