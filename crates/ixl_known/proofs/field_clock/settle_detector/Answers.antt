use Rattle.std.proofs.Common.{sym, ◌∙◌}
use Rattle.ixl_known.proofs.Alike.{same_tests_answer, detector_settled_alike}
use Rattle.ixl_known.proofs.field_clock.settle_detector.Goals as goal

pub returns-clause-alike : goal.returns-clause-alike
returns-clause-alike c alike = detector_settled_alike c.args.now c.args.detector.now c.settle.new.self c.settle.ensures.detector
    (sym c.is_ready.ensures ∙ same_tests_answer _ _ alike ∙ c.is_ready-was_ready.ensures)
