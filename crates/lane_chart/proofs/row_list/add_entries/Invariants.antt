use Rattle.std.proofs.Common.{◌≡◌, ◌++◌, drop}
use Rattle.lane_chart.specs.Subjects.{numbered}
use Rattle.lane_chart.proofs.row_list.add_entries.Given as goal

-- the rows so far, and after them those of the entries that are left
abbrev pub invariant-loop-place : goal.invariant-loop-place
invariant-loop-place g l = l.rows.items ++ numbered g.T.Named.own_name l.sort l.place (drop l.place l.entries) ≡ l.fn.rows.items ++ numbered g.T.Named.own_name l.sort 0 l.entries
