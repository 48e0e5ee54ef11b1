use Rattle.std.proofs.Common.{◌≡◌, ◌⊎◌, Option, Some, subst, sym, ap, ◌∙◌, arith}
use Rattle.rasta_core.specs.Outbox.{HasRoomFor}
use Rattle.line_laws.specs.End.{File, file_of}
use Rattle.line_host.specs.Host.{HostState, emptied}
use Rattle.line_host.specs.Sites.{kept_file}
use Rattle.line_host.proofs.Staying.{room_left}
use Rattle.line_host.proofs.Sites.{kept_step, step_done, step_moves, step_over, writes_done}
use Rattle.line_host.proofs.line_host.LineHost.step_kept_by_caller.Goals as goal

pub begin-requires-clause-room : goal.begin-requires-clause-room
begin-requires-clause-room c = omega (arith, c.clear.ensures.room)

pub give-items-requires-clause-room : goal.give-items-requires-clause-room
give-items-requires-clause-room c = room_left _ 2 56 128 _ _ c.begin.ensures.stays c.clear.ensures.room (omega arith)

pub tell-requires-clause-room : goal.tell-requires-clause-room
tell-requires-clause-room c =
    let room = room_left _ 2 126 128 _ _ c.begin.ensures.stays c.clear.ensures.room (omega arith)
    in subst (λ (h : HostState). HasRoomFor 40 h.talk.outbox) (sym c.look-output.ensures.host) (room_left _ 30 40 126 _ _ c.give-items.ensures.stays room (omega arith))

pub returns-clause-host : goal.returns-clause-host
returns-clause-host c = step_done c.args.now c.args.input.now c.args.seen.now c.args.self.now c.clear.new.self c.begin.new.self c.give-items.new.self
    c.give-items.result.items c.as_slice.result.now c.look-output.new.self c.look-output.result c.items.result.now c.tell.new.self
    c.clear.ensures.host c.begin.ensures.host c.give-items.ensures.given c.as_slice.ensures.value c.look-output.ensures.host c.look-output.ensures.output c.items.ensures.items c.tell.ensures.told

pub returns-clause-written : goal.returns-clause-written
returns-clause-written c = writes_done c.args.now c.args.input.now c.args.seen.now c.args.self.now c.clear.new.self c.begin.new.self c.give-items.new.self
    c.give-items.result.items c.as_slice.result.now c.look-output.result c.written.result
    c.clear.ensures.host c.begin.ensures.host c.give-items.ensures.given c.as_slice.ensures.value c.look-output.ensures.output c.written.ensures

pub returns-clause-going : goal.returns-clause-going
returns-clause-going c =
    ap (λ (h : HostState). h.over)
    (step_done c.args.now c.args.input.now c.args.seen.now c.args.self.now c.clear.new.self c.begin.new.self c.give-items.new.self
    c.give-items.result.items c.as_slice.result.now c.look-output.new.self c.look-output.result c.items.result.now c.tell.new.self
    c.clear.ensures.host c.begin.ensures.host c.give-items.ensures.given c.as_slice.ensures.value c.look-output.ensures.host c.look-output.ensures.output c.items.ensures.items c.tell.ensures.told)
    ∙ (step_over c.args.now c.args.input.now c.args.seen.now (emptied c.args.self.now) ∙ c.requires.going)

pub returns-clause-kept : goal.returns-clause-kept
returns-clause-kept c = λ file is.
    ap (λ (written : Option File). kept_file written file)
    (writes_done c.args.now c.args.input.now c.args.seen.now c.args.self.now c.clear.new.self c.begin.new.self c.give-items.new.self
    c.give-items.result.items c.as_slice.result.now c.look-output.result c.written.result
    c.clear.ensures.host c.begin.ensures.host c.give-items.ensures.given c.as_slice.ensures.value c.look-output.ensures.output c.written.ensures)
    ∙ (kept_step c.args.now c.args.input.now c.args.seen.now (emptied c.args.self.now) file is
    ∙ sym (ap (λ (h : HostState). file_of h.end.end)
    (step_done c.args.now c.args.input.now c.args.seen.now c.args.self.now c.clear.new.self c.begin.new.self c.give-items.new.self
    c.give-items.result.items c.as_slice.result.now c.look-output.new.self c.look-output.result c.items.result.now c.tell.new.self
    c.clear.ensures.host c.begin.ensures.host c.give-items.ensures.given c.as_slice.ensures.value c.look-output.ensures.host c.look-output.ensures.output c.items.ensures.items c.tell.ensures.told)))

pub returns-clause-lock : goal.returns-clause-lock
returns-clause-lock c =
    subst (λ (h : HostState). (h.end.end.lock ≡ c.args.self.now.end.end.lock) ⊎ (c.args.seen.now.drive ≡ Some h.end.end.lock))
    (sym (step_done c.args.now c.args.input.now c.args.seen.now c.args.self.now c.clear.new.self c.begin.new.self c.give-items.new.self
    c.give-items.result.items c.as_slice.result.now c.look-output.new.self c.look-output.result c.items.result.now c.tell.new.self
    c.clear.ensures.host c.begin.ensures.host c.give-items.ensures.given c.as_slice.ensures.value c.look-output.ensures.host c.look-output.ensures.output c.items.ensures.items c.tell.ensures.told))
    (step_moves c.lock_moves_only_where_driven.ensures c.args.now c.args.input.now c.args.seen.now (emptied c.args.self.now))
