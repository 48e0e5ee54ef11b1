use Rattle.std.proofs.Common.{◌≡◌, ◌∙◌, List, ap, map, ℕ}
use Rattle.std.specs.Option.{option_map, option_to_list}
use Rattle.control_table.specs.layout.Nodes.{meant_node}
use Rattle.node_record.specs.Courses.{step_by, step_of}
use Rattle.node_record.specs.NodeChanges.{mark_by, seen_mark}
use Rattle.node_record.specs.inside.Marking.{marked}
use Rattle.node_record.proofs.Stories.{behind_grows, changes_grow, marks_grow}
use Rattle.node_record.proofs.node_story.story_of.Goals as goal

pub loop-number-preserved : goal.loop-number-preserved
loop-number-preserved c =
    let site = c.args.layout.now
    in let whose = meant_node c.args.whose
    in let course = c.loop-number.course
    in let number = c.in-Some.number
    in let line = c.in-Some.line.now
    in let left = c.loop-number.number-iterator
    in let behind = c.next.new.self
    in let before = c.loop-number.invariant
    in let this = c.step_of-this.result
    in let this_is : this ≡ step_of site whose course line = c.step_of-this.ensures ∙ ap (λ (p : List ℕ × List ℕ). step_by site whose course p.0 p.1) c.parted.ensures
    in let mark_is = c.mark_by-mark.ensures ∙ ap (λ (p : List ℕ × List ℕ). mark_by whose c.args.node course number p.0 p.1) c.parted.ensures
    in record {
      changes = changes_grow site whose course number line this left behind c.in-Some.ensures.steps this_is c.loop-number.changes.items c.add_change.new.changes.items _ c.in_ok-add_change.ensures before.changes;
      happenings = marks_grow site whose course number line this left behind c.in-Some.ensures.steps this_is
          c.args.node (map seen_mark c.loop-number.happenings.items) (map seen_mark c.add_mark.new.happenings.items) (option_to_list (option_map marked c.mark_by-mark.result)) _
          mark_is c.in_ok-add_mark.ensures before.happenings;
      behind = behind_grows site whose course number line this left behind c.in-Some.ensures.steps this_is _ before.behind;
    }
