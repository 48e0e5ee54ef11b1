use Rattle.std.proofs.Common.{sym, ◌∙◌}
use Rattle.ixl_known.proofs.Alike.{same_tests_answer, detector_ticked_alike}
use Rattle.ixl_known.proofs.field_clock.tick_detector.Goals as goal

pub returns-clause-alike : goal.returns-clause-alike
returns-clause-alike c alike = detector_ticked_alike c.args.now c.args.detector.now c.tick.new.self c.args.outbox.now c.tick.ensures.node
    (sym c.is_ready.ensures ∙ same_tests_answer _ _ alike ∙ c.is_ready-was_ready.ensures)
