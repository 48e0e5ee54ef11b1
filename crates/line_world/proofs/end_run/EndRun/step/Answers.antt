use Rattle.std.proofs.Common.{Option, ap, sym}
use Rattle.line_laws.specs.End.{File}
use Rattle.line_host.specs.Sites.{kept_file}
use Rattle.line_world.proofs.Steps.{lock_so, stepped_so}
use Rattle.line_world.proofs.end_run.EndRun.step.Goals as goal

pub returns-in-Some-step_kept_by_caller-clause-end : goal.returns-in-Some-step_kept_by_caller-clause-end
returns-in-Some-step_kept_by_caller-clause-end c =
    stepped_so c.args.self.now _ c.args.input.now c.args.seen.now c.in-Some.process c.step_kept_by_caller.new.self c.step_kept_by_caller.result _ c.self.view_is c.in-Some.is
    c.step_kept_by_caller.ensures.host c.step_kept_by_caller.ensures.written (sym (ap (λ (w : Option File). kept_file w c.self.inside.kept) c.in-Some-step_kept_by_caller.is))

pub returns-in-Some-step_kept_by_caller-clause-lock : goal.returns-in-Some-step_kept_by_caller-clause-lock
returns-in-Some-step_kept_by_caller-clause-lock c =
    lock_so c.args.self.now _ c.in-Some.process c.step_kept_by_caller.new.self c.step_kept_by_caller.result _ c.args.seen.now.drive c.self.view_is c.in-Some.is
    c.self.invariant (sym (ap (λ (w : Option File). kept_file w c.self.inside.kept) c.in-Some-step_kept_by_caller.is)) c.step_kept_by_caller.ensures.kept c.step_kept_by_caller.ensures.lock

pub returns-in-None-clause-end : goal.returns-in-None-clause-end
returns-in-None-clause-end c =
    stepped_so c.args.self.now _ c.args.input.now c.args.seen.now c.in-Some.process c.step_kept_by_caller.new.self c.step_kept_by_caller.result _ c.self.view_is c.in-Some.is
    c.step_kept_by_caller.ensures.host c.step_kept_by_caller.ensures.written (sym (ap (λ (w : Option File). kept_file w c.self.inside.kept) c.in-None.is))

pub returns-in-None-clause-lock : goal.returns-in-None-clause-lock
returns-in-None-clause-lock c =
    lock_so c.args.self.now _ c.in-Some.process c.step_kept_by_caller.new.self c.step_kept_by_caller.result _ c.args.seen.now.drive c.self.view_is c.in-Some.is
    c.self.invariant (sym (ap (λ (w : Option File). kept_file w c.self.inside.kept) c.in-None.is)) c.step_kept_by_caller.ensures.kept c.step_kept_by_caller.ensures.lock
