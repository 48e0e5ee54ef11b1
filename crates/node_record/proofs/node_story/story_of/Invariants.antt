use Rattle.std.proofs.Common.{◌≡◌, ◌++◌, map}
use Rattle.control_table.specs.layout.Nodes.{meant_node}
use Rattle.node_record.specs.Courses.{first_course}
use Rattle.node_record.specs.NodeChanges.{changes_from, course_behind, marks_from, seen_mark}
use Rattle.node_record.proofs.node_story.story_of.Given as goal

-- what was told so far, and after it what the lines tell that are left
abbrev pub invariant-loop-number : goal.invariant-loop-number
invariant-loop-number l = record {
  changes : l.changes.items ++ changes_from l.layout (meant_node l.whose) l.course l.number-iterator ≡ changes_from l.layout (meant_node l.whose) first_course l.fn.lines;
  happenings : map seen_mark l.happenings.items ++ marks_from l.layout (meant_node l.whose) l.node l.course l.number-iterator ≡ marks_from l.layout (meant_node l.whose) l.node first_course l.fn.lines;
  behind : course_behind l.layout (meant_node l.whose) l.course l.number-iterator ≡ course_behind l.layout (meant_node l.whose) first_course l.fn.lines;
}
