use Rattle.std.proofs.Common.{◌≡◌, List, ap, ◌∙◌}
use Rattle.line_laws.specs.declared.words.Item.{Item}
use Rattle.line_laws.specs.End.{File, file_of}
use Rattle.line_laws.specs.Step.{lock_moved, noticed, step_between}
use Rattle.line_end.specs.State.{EndState, changed_file, stepped}
use Rattle.line_end.proofs.Whole.{parts_follow}
use Rattle.line_end.proofs.line_end.LineEnd.step.Goals as goal

pub returns-clause-end : goal.returns-clause-end
returns-clause-end c =
    (parts_follow (lock_moved c.args.seen.now) (noticed c.args.seen.now)
    (λ state. step_between state.side c.args.up c.args.seen.now c.args.items.now state.end) c.args.self.now c.move_lock.new.self c.notice.new.self
    c.step_between-items.new.self c.move_lock-2.new.self c.step_between-items.result.items c.move_lock.ensures c.notice.ensures c.step_between-items.ensures.so_far
    c.step_between-items.ensures.side c.move_lock-2.ensures).0

pub returns-clause-output : goal.returns-clause-output
returns-clause-output c =
    let whole =
    parts_follow (lock_moved c.args.seen.now) (noticed c.args.seen.now)
    (λ state. step_between state.side c.args.up c.args.seen.now c.args.items.now state.end) c.args.self.now c.move_lock.new.self c.notice.new.self
    c.step_between-items.new.self c.move_lock-2.new.self c.step_between-items.result.items c.move_lock.ensures c.notice.ensures
    c.step_between-items.ensures.so_far c.step_between-items.ensures.side c.move_lock-2.ensures
    in let new : c.move_lock-2.new.self ≡ stepped c.args.up c.args.seen.now c.args.items.now c.args.self.now = whole.0
    in let file : c.written_since-written.result ≡ changed_file (file_of c.args.self.now.end) (file_of (stepped c.args.up c.args.seen.now c.args.items.now c.args.self.now).end) =
    c.written_since-written.ensures
    ∙ (ap (λ (kept : File). changed_file kept (file_of c.move_lock-2.new.self.end)) c.kept-before.ensures
    ∙ ap (λ (state : EndState). changed_file (file_of c.args.self.now.end) (file_of state.end)) new)
    in ap (λ written. record { written = written; items = c.step_between-items.result.items }) file
    ∙ ap (λ (items : List Item). record { written = changed_file (file_of c.args.self.now.end) (file_of (stepped c.args.up c.args.seen.now c.args.items.now c.args.self.now).end); items = items })
    whole.1
