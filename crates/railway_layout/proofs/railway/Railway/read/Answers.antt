use Rattle.std.proofs.Common.{◌∙◌, ap, map, string_bytes}
use Rattle.railway_layout.specs.Written.{RailwayText}
use Rattle.railway_layout.proofs.AllTold.{all_told}
use Rattle.railway_layout.proofs.railway.Railway.read.Goals as goal

pub returns-then-not-is_nothing-clause-refused : goal.returns-then-not-is_nothing-clause-refused
returns-then-not-is_nothing-clause-refused c =
    all_told c.args.written.now (map string_bytes c.args.layouts.now) c.in_ok-stations.stations.items c.deref-2.result.now c.deref.result.now c.deref-3.result.now c.in_ok-faults.faults.items c.deref-4.result.now
    (c.deref.ensures.value ∙ ap (λ (t : RailwayText). t.stations) c.written.view_is) c.deref-2.ensures.value
    (c.deref-3.ensures.value ∙ ap (λ (t : RailwayText). t.lines) c.written.view_is) c.deref-4.ensures.value
    c.in_ok-stations.ensures c.in_ok-faults.ensures (c.is_nothing.ensures.some c.if-not-is_nothing.true)
