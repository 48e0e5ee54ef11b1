use Rattle.std.proofs.Common.{◌≡◌, Some, find, map, rules, string_bytes}
use Rattle.railway_check.specs.railway_layout.Faults.{is_line_called}
use Rattle.railway_check.specs.RailwayVerdict.{HasRailway}
use Rattle.line_begin.proofs.Apart.{ends_apart}
use Rattle.line_begin.proofs.named_line.line_named.Goals as goal

pub returns-in-Some-clause-apart : goal.returns-in-Some-clause-apart
returns-in-Some-clause-apart c =
    let text = c.args.railway.now in
    let layouts = map string_bytes c.args.layouts.now in
    let has : HasRailway text layouts = search rules in
    let found : find (is_line_called c.args.name.now) text.lines ≡ Some c.in-Some.line.now = search rules in
    ends_apart text layouts c.args.name.now c.in-Some.line.now has found
