use Rattle.std.proofs.Common.{subst, sym, arith}
use Rattle.rasta_core.specs.Outbox.{HasRoomFor}
use Rattle.line_host.specs.Host.{HostState}
use Rattle.line_host.proofs.Staying.{room_left}
use Rattle.line_host.proofs.Sites.{step_done, file_done}
use Rattle.line_host.proofs.line_host.LineHost.step.Goals as goal

pub begin-requires-clause-room : goal.begin-requires-clause-room
begin-requires-clause-room g c = omega (arith, c.clear.ensures.room)

pub give-items-requires-clause-room : goal.give-items-requires-clause-room
give-items-requires-clause-room g c = room_left _ 2 56 128 _ _ c.begin.ensures.stays c.clear.ensures.room (omega arith)

pub tell-requires-clause-room : goal.tell-requires-clause-room
tell-requires-clause-room g c =
    let room = room_left _ 2 126 128 _ _ c.begin.ensures.stays c.clear.ensures.room (omega arith)
    in subst (λ (h : HostState). HasRoomFor 40 h.talk.outbox) (sym c.look-output.ensures.host) (room_left _ 30 40 126 _ _ c.give-items.ensures.stays room (omega arith))

pub returns-in-Ok-clause-done : goal.returns-in-Ok-clause-done
returns-in-Ok-clause-done g c = λ is. step_done c.args.now c.args.input.now c.args.seen.now c.args.self.now c.clear.new.self c.begin.new.self c.give-items.new.self
    c.give-items.result.items c.as_slice.result.now c.look-output.new.self c.look-output.result c.items.result.now c.tell.new.self
    c.clear.ensures.host c.begin.ensures.host c.give-items.ensures.given c.as_slice.ensures.value c.look-output.ensures.host c.look-output.ensures.output c.items.ensures.items c.tell.ensures.told

pub returns-in-Ok-clause-file : goal.returns-in-Ok-clause-file
returns-in-Ok-clause-file g c = file_done c.args.now c.args.input.now c.args.seen.now c.args.self.now c.clear.new.self c.begin.new.self c.give-items.new.self
    c.give-items.result.items c.as_slice.result.now c.look-output.new.self c.look-output.result c.written.result c.keep.result _ _ _
    c.clear.ensures.host c.begin.ensures.host c.give-items.ensures.given c.as_slice.ensures.value c.look-output.ensures.host c.look-output.ensures.output c.written.ensures c.in-Ok.is c.keep.ensures

pub returns-in-Err-clause-file : goal.returns-in-Err-clause-file
returns-in-Err-clause-file g c = file_done c.args.now c.args.input.now c.args.seen.now c.args.self.now c.clear.new.self c.begin.new.self c.give-items.new.self
    c.give-items.result.items c.as_slice.result.now c.look-output.new.self c.look-output.result c.written.result c.keep.result _ _ _
    c.clear.ensures.host c.begin.ensures.host c.give-items.ensures.given c.as_slice.ensures.value c.look-output.ensures.host c.look-output.ensures.output c.written.ensures c.in-Err.is c.keep.ensures
