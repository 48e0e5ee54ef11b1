use Rattle.std.proofs.Common.{◌∙◌, Some, ap, subst}
use Rattle.station_node.specs.Processes.{NodeCut, NodeRuns}
use Rattle.station_node.proofs.Lived.{map_err, map_ok}
use Rattle.station_node.proofs.Places.{chosen_is}
use Rattle.station_node.proofs.process.run.Goals as goal

pub returns-in-Some-Interlocking-clause-done : goal.returns-in-Some-Interlocking-clause-done
returns-in-Some-Interlocking-clause-done g c = map_ok c.run_interlocking.result
    (subst (λ n. NodeRuns c.args.checked c.args.life.keeping c.args.life.counts c.args.life.first c.args.life.for_ms c.args.life.begins c.run_interlocking.new.course (g.O.Outside.told c.args.outside.now) (g.O.Outside.told c.run_interlocking.new.outside) n)
    (chosen_is c.node.result _ _ _ _ (c.in-Some-Interlocking.is ∙ ap Some c.in-Some-Interlocking.field-0-is) c.node.ensures.value c.layout.ensures.entries))
    c.run_interlocking.ensures.done

pub returns-in-Some-Interlocking-clause-stopped : goal.returns-in-Some-Interlocking-clause-stopped
returns-in-Some-Interlocking-clause-stopped g c = map_err c.run_interlocking.result
    (subst (λ n. NodeCut c.args.checked c.args.life.keeping c.args.life.counts c.args.life.first c.args.life.for_ms c.args.life.begins (g.O.Outside.told c.args.outside.now) (g.O.Outside.told c.run_interlocking.new.outside) n)
    (chosen_is c.node.result _ _ _ _ (c.in-Some-Interlocking.is ∙ ap Some c.in-Some-Interlocking.field-0-is) c.node.ensures.value c.layout.ensures.entries))
    c.run_interlocking.ensures.stopped

pub returns-in-Some-Signal-clause-done : goal.returns-in-Some-Signal-clause-done
returns-in-Some-Signal-clause-done g c = map_ok c.run_signal.result
    (subst (λ n. NodeRuns c.args.checked c.args.life.keeping c.args.life.counts c.args.life.first c.args.life.for_ms c.args.life.begins c.run_signal.new.course (g.O.Outside.told c.args.outside.now) (g.O.Outside.told c.run_signal.new.outside) n)
    (chosen_is c.node.result _ _ _ _ (c.in-Some-Signal.is ∙ ap Some c.in-Some-Signal.field-0-is) c.node.ensures.value c.layout.ensures.entries))
    c.run_signal.ensures.done

pub returns-in-Some-Signal-clause-stopped : goal.returns-in-Some-Signal-clause-stopped
returns-in-Some-Signal-clause-stopped g c = map_err c.run_signal.result
    (subst (λ n. NodeCut c.args.checked c.args.life.keeping c.args.life.counts c.args.life.first c.args.life.for_ms c.args.life.begins (g.O.Outside.told c.args.outside.now) (g.O.Outside.told c.run_signal.new.outside) n)
    (chosen_is c.node.result _ _ _ _ (c.in-Some-Signal.is ∙ ap Some c.in-Some-Signal.field-0-is) c.node.ensures.value c.layout.ensures.entries))
    c.run_signal.ensures.stopped

pub returns-in-Some-Point-clause-done : goal.returns-in-Some-Point-clause-done
returns-in-Some-Point-clause-done g c = map_ok c.run_point.result
    (subst (λ n. NodeRuns c.args.checked c.args.life.keeping c.args.life.counts c.args.life.first c.args.life.for_ms c.args.life.begins c.run_point.new.course (g.O.Outside.told c.args.outside.now) (g.O.Outside.told c.run_point.new.outside) n)
    (chosen_is c.node.result _ _ _ _ (c.in-Some-Point.is ∙ ap Some c.in-Some-Point.field-0-is) c.node.ensures.value c.layout.ensures.entries))
    c.run_point.ensures.done

pub returns-in-Some-Point-clause-stopped : goal.returns-in-Some-Point-clause-stopped
returns-in-Some-Point-clause-stopped g c = map_err c.run_point.result
    (subst (λ n. NodeCut c.args.checked c.args.life.keeping c.args.life.counts c.args.life.first c.args.life.for_ms c.args.life.begins (g.O.Outside.told c.args.outside.now) (g.O.Outside.told c.run_point.new.outside) n)
    (chosen_is c.node.result _ _ _ _ (c.in-Some-Point.is ∙ ap Some c.in-Some-Point.field-0-is) c.node.ensures.value c.layout.ensures.entries))
    c.run_point.ensures.stopped

pub returns-in-Some-Detector-clause-done : goal.returns-in-Some-Detector-clause-done
returns-in-Some-Detector-clause-done g c = map_ok c.run_detector.result
    (subst (λ n. NodeRuns c.args.checked c.args.life.keeping c.args.life.counts c.args.life.first c.args.life.for_ms c.args.life.begins c.run_detector.new.course (g.O.Outside.told c.args.outside.now) (g.O.Outside.told c.run_detector.new.outside) n)
    (chosen_is c.node.result _ _ _ _ (c.in-Some-Detector.is ∙ ap Some c.in-Some-Detector.field-0-is) c.node.ensures.value c.layout.ensures.entries))
    c.run_detector.ensures.done

pub returns-in-Some-Detector-clause-stopped : goal.returns-in-Some-Detector-clause-stopped
returns-in-Some-Detector-clause-stopped g c = map_err c.run_detector.result
    (subst (λ n. NodeCut c.args.checked c.args.life.keeping c.args.life.counts c.args.life.first c.args.life.for_ms c.args.life.begins (g.O.Outside.told c.args.outside.now) (g.O.Outside.told c.run_detector.new.outside) n)
    (chosen_is c.node.result _ _ _ _ (c.in-Some-Detector.is ∙ ap Some c.in-Some-Detector.field-0-is) c.node.ensures.value c.layout.ensures.entries))
    c.run_detector.ensures.stopped
