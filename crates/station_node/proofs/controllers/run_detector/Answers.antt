use Rattle.std.proofs.Common.{ap, ◌∙◌, Some, subst, sym}
use Rattle.std.specs.Option.{option_map}
use Rattle.node_kinds.specs.Controllers.{detector_kind}
use Rattle.node_kinds.specs.Openings.{Sections, opening_kind, untold}
use Rattle.node_kinds.specs.inside.ControllerNodes.{detector_now, opening_now}
use Rattle.node_kinds.specs.node_drive.Beginning.{first_course}
use Rattle.node_kinds.specs.node_drive.Drives.{CutOff}
use Rattle.node_kinds.specs.simulator_spec.layout.Entries.{DetectorEntry, Site}
use Rattle.station_node.specs.Processes.{Opens, detector_made, opened, standing, told_sections, waited, waiting}
use Rattle.station_node.proofs.Lived.{any_err, controls, controls_cut, map_err, map_ok, not_made_yet}
use Rattle.station_node.proofs.Places.{entry_is}
use Rattle.station_node.proofs.controllers.run_detector.Goals as goal

pub returns-in_err-opening-clause-stopped : goal.returns-in_err-opening-clause-stopped
returns-in_err-opening-clause-stopped g c = any_err c.from_residual.result (λ (entry : DetectorEntry) there.
    let detectors = c.detectors.ensures ∙ ap (λ (s : Site). s.detectors) c.layout.ensures.entries in
    let same = entry_is c.detectors.result.now c.args.told.table.now.detectors c.args.detector.0 c.index-detectors-detector.result entry detectors c.requires.place c.index-detectors-detector.is there in
    let own = c.sections-own.ensures ∙ ap (λ (e : DetectorEntry). e.sections) same in
    waiting (subst (λ own. CutOff opening_kind c.args.told.life.for_ms c.args.told.life.begins (standing (untold c.args.told.table.now (Sections own)) first_course) (g.O.Outside.told c.args.outside.now) (g.O.Outside.told c.open.new.outside))
    own c.in_err-opening.ensures.stopped))

pub returns-in_err-sensed-clause-stopped : goal.returns-in_err-sensed-clause-stopped
returns-in_err-sensed-clause-stopped g c = any_err c.from_residual-in_err-sensed.result (λ (entry : DetectorEntry) there.
    let detectors = c.detectors.ensures ∙ ap (λ (s : Site). s.detectors) c.layout.ensures.entries in
    let same = entry_is c.detectors.result.now c.args.told.table.now.detectors c.args.detector.0 c.index-detectors-detector.result entry detectors c.requires.place c.index-detectors-detector.is there in
    let own = c.sections-own.ensures ∙ ap (λ (e : DetectorEntry). e.sections) same in
    opened (subst (λ own. Opens c.args.told.table.now (Sections own) c.args.told.life.for_ms c.args.told.life.begins (opening_now c.in_ok-opening.opening).state c.open.new.course (g.O.Outside.told c.args.outside.now) (g.O.Outside.told c.open.new.outside))
    own c.in_ok-opening.ensures.done))

pub returns-in_default-clause-done : goal.returns-in_default-clause-done
returns-in_default-clause-done g c = λ entry there.
    let detectors = c.detectors.ensures ∙ ap (λ (s : Site). s.detectors) c.layout.ensures.entries in
    let same = entry_is c.detectors.result.now c.args.told.table.now.detectors c.args.detector.0 c.index-detectors-detector.result entry detectors c.requires.place c.index-detectors-detector.is there in
    let own = c.sections-own.ensures ∙ ap (λ (e : DetectorEntry). e.sections) same in
    waited (subst (λ own. Opens c.args.told.table.now (Sections own) c.args.told.life.for_ms c.args.told.life.begins (opening_now c.in_ok-opening.opening).state c.open.new.course (g.O.Outside.told c.args.outside.now) (g.O.Outside.told c.open.new.outside))
    own c.in_ok-opening.ensures.done) (sym c.in_ok-sensed.ensures ∙ ap (option_map (λ v. v.items)) c.in_default.is)

pub returns-in_err-node-clause-stopped : goal.returns-in_err-node-clause-stopped
returns-in_err-node-clause-stopped g c = any_err c.from_residual-in_err-node.result (λ (entry : DetectorEntry) there.
    let detectors = c.detectors.ensures ∙ ap (λ (s : Site). s.detectors) c.layout.ensures.entries in
    let same = entry_is c.detectors.result.now c.args.told.table.now.detectors c.args.detector.0 c.index-detectors-detector.result entry detectors c.requires.place c.index-detectors-detector.is there in
    let own = c.sections-own.ensures ∙ ap (λ (e : DetectorEntry). e.sections) same in
    let opens = subst (λ own. Opens c.args.told.table.now (Sections own) c.args.told.life.for_ms c.args.told.life.begins (opening_now c.in_ok-opening.opening).state c.open.new.course (g.O.Outside.told c.args.outside.now) (g.O.Outside.told c.open.new.outside))
    own c.in_ok-opening.ensures.done in
    not_made_yet detector_kind c.args.told.table.now (Sections entry.sections) told_sections (detector_made c.args.told.table.now c.args.told.life.first entry) c.args.told.life.for_ms c.args.told.life.begins
    (opening_now c.in_ok-opening.opening).state c.open.new.course (g.O.Outside.told c.args.outside.now) (g.O.Outside.told c.open.new.outside) opens
    c.deref.result.now (sym c.in_ok-sensed.ensures ∙ ap (option_map (λ v. v.items)) c.in-Some.is ∙ ap Some (sym c.deref.ensures.value))
    c.read_clock-now.result (g.O.Outside.told c.read_clock-now.new.self) c.read_clock-now.ensures)

pub returns-clause-done : goal.returns-clause-done
returns-clause-done g c = map_ok c.live.result (λ ran (entry : DetectorEntry) there.
    let detectors = c.detectors.ensures ∙ ap (λ (s : Site). s.detectors) c.layout.ensures.entries in
    let same = entry_is c.detectors.result.now c.args.told.table.now.detectors c.args.detector.0 c.index-detectors-detector.result entry detectors c.requires.place c.index-detectors-detector.is there in
    let own = c.sections-own.ensures ∙ ap (λ (e : DetectorEntry). e.sections) same in
    let opens = subst (λ own. Opens c.args.told.table.now (Sections own) c.args.told.life.for_ms c.args.told.life.begins (opening_now c.in_ok-opening.opening).state c.open.new.course (g.O.Outside.told c.args.outside.now) (g.O.Outside.told c.open.new.outside))
    own c.in_ok-opening.ensures.done in
    controls detector_kind c.args.told.table.now (Sections entry.sections) told_sections (detector_made c.args.told.table.now c.args.told.life.first entry) c.args.told.life.for_ms c.args.told.life.begins
    (opening_now c.in_ok-opening.opening).state c.open.new.course (g.O.Outside.told c.args.outside.now) (g.O.Outside.told c.open.new.outside) opens
    c.deref.result.now (sym c.in_ok-sensed.ensures ∙ ap (option_map (λ v. v.items)) c.in-Some.is ∙ ap Some (sym c.deref.ensures.value))
    c.read_clock-now.result (detector_now c.in_ok-node.node).state (g.O.Outside.told c.read_clock-now.new.self) (g.O.Outside.told c.live.new.outside) c.read_clock-now.ensures
    (ap (λ n. n.state) (c.in_ok-node.ensures.made entry there)) c.live.new.course ran) c.live.ensures.done

pub returns-clause-stopped : goal.returns-clause-stopped
returns-clause-stopped g c = map_err c.live.result (λ stopped (entry : DetectorEntry) there.
    let detectors = c.detectors.ensures ∙ ap (λ (s : Site). s.detectors) c.layout.ensures.entries in
    let same = entry_is c.detectors.result.now c.args.told.table.now.detectors c.args.detector.0 c.index-detectors-detector.result entry detectors c.requires.place c.index-detectors-detector.is there in
    let own = c.sections-own.ensures ∙ ap (λ (e : DetectorEntry). e.sections) same in
    let opens = subst (λ own. Opens c.args.told.table.now (Sections own) c.args.told.life.for_ms c.args.told.life.begins (opening_now c.in_ok-opening.opening).state c.open.new.course (g.O.Outside.told c.args.outside.now) (g.O.Outside.told c.open.new.outside))
    own c.in_ok-opening.ensures.done in
    controls_cut detector_kind c.args.told.table.now (Sections entry.sections) told_sections (detector_made c.args.told.table.now c.args.told.life.first entry) c.args.told.life.for_ms c.args.told.life.begins
    (opening_now c.in_ok-opening.opening).state c.open.new.course (g.O.Outside.told c.args.outside.now) (g.O.Outside.told c.open.new.outside) opens
    c.deref.result.now (sym c.in_ok-sensed.ensures ∙ ap (option_map (λ v. v.items)) c.in-Some.is ∙ ap Some (sym c.deref.ensures.value))
    c.read_clock-now.result (detector_now c.in_ok-node.node).state (g.O.Outside.told c.read_clock-now.new.self) (g.O.Outside.told c.live.new.outside) c.read_clock-now.ensures
    (ap (λ n. n.state) (c.in_ok-node.ensures.made entry there)) stopped) c.live.ensures.stopped
