use Rattle.std.proofs.Common.{◌∙◌, ◌<◌, List, ap, length, subst}
use Rattle.ixl_spec.specs.layout.Entries.{DetectorEntry, Site}
use Rattle.ixl_table.specs.Table.{IsReportedIn}
use Rattle.ixl_table.specs.inside.Made.{NoneReports}
use Rattle.ixl_table.proofs.Made.{if-some, report-is-some, reporters-grow, some-reports}
use Rattle.ixl_table.proofs.reporters.reporters_of.Goals as goal

pub unwrap-requires : goal.unwrap-requires
unwrap-requires c =
    let l = c.args.table.now in
    let lent = c.layout-layout.ensures in
    let detectors = c.detectors.ensures ∙ ap (λ (p : Site). p.detectors) lent.entries in
    let sections = c.sections-section-end.ensures ∙ ap (λ (p : Site). p.sections) lent.entries in
    report-is-some c.reporter_of.result c.reporter_of.ensures.none
    (λ none. some-reports l lent.station c.loop-section.section (subst (λ xs. c.loop-section.section < length xs) sections c.loop-section-test.true)
    (subst (λ (ds : List DetectorEntry). NoneReports ds c.loop-section.section) detectors none))

pub loop-section-preserved : goal.loop-section-preserved
loop-section-preserved c =
    let l = c.args.table.now in
    let lent = c.layout-layout.ensures in
    let detectors = c.detectors.ensures ∙ ap (λ (p : Site). p.detectors) lent.entries in
    let at = if-some (IsReportedIn c.detectors.result.now c.loop-section.section) c.reporter_of.result c.unwrap.result c.unwrap.ensures c.reporter_of.ensures.some in
    reporters-grow l c.loop-section.section c.loop-section.reporters.items c.unwrap.result c.push.new.self.items
    (subst (λ (ds : List DetectorEntry). IsReportedIn ds c.loop-section.section c.unwrap.result) detectors at) c.in_ok-push.ensures.items c.loop-section.invariant
