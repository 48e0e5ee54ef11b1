-- What happens by a record, line by line.
use Rattle.std.proofs.Common.{◌≡◌, ◌∙◌, ℕ, List, ◌∷◌, ◌++◌, ap, append_assoc, sym}
use Rattle.control_table.specs.layout.Entries.{Site}
use Rattle.lane_chart.specs.declared.change.Change.{Change}
use Rattle.node_record.specs.Courses.{parted, step_of}
use Rattle.node_record.specs.NodeChanges.{Mark, change_by, changes_from, course_behind, mark_by, marks_from}
use Rattle.node_record.specs.declared.course.Course.{Course}
use Rattle.node_record.specs.declared.course.Step.{Step}
use Rattle.control_table.specs.layout.Nodes.{Node}

-- one line more
module _ (site : Site) (whose : Node) (course : Course) (number : ℕ) (text : List ℕ) (this : Step) (old rest : List (ℕ × List ℕ)) (split : old ≡ (number, text) ∷ rest) (is : this ≡ step_of site whose course text) where
  pub changes_grow : (kept new whole : List Change) → new ≡ kept ++ change_by number this.time this.told → kept ++ changes_from site whose course old ≡ whole
      → new ++ changes_from site whose this.course rest ≡ whole
  changes_grow kept new whole more before =
      ap (λ l. l ++ changes_from site whose this.course rest) more
      ∙ append_assoc kept (change_by number this.time this.told) (changes_from site whose this.course rest)
      ∙ ap (λ (s : Step). kept ++ (change_by number s.time s.told ++ changes_from site whose s.course rest)) is
      ∙ ap (λ (l : List (ℕ × List ℕ)). kept ++ changes_from site whose course l) (sym split)
      ∙ before

  pub marks_grow : (node : ℕ) (kept new mark whole : List Mark) → mark ≡ mark_by whose node course number (parted text).0 (parted text).1 → new ≡ kept ++ mark
      → kept ++ marks_from site whose node course old ≡ whole → new ++ marks_from site whose node this.course rest ≡ whole
  marks_grow node kept new mark whole mark_is more before =
      let said : List Mark = mark_by whose node course number (parted text).0 (parted text).1 in
      ap (λ l. l ++ marks_from site whose node this.course rest) (more ∙ ap (λ m. kept ++ m) mark_is)
      ∙ append_assoc kept said (marks_from site whose node this.course rest)
      ∙ ap (λ (s : Step). kept ++ (said ++ marks_from site whose node s.course rest)) is
      ∙ ap (λ (l : List (ℕ × List ℕ)). kept ++ marks_from site whose node course l) (sym split)
      ∙ before

  pub behind_grows : (whole : Course) → course_behind site whose course old ≡ whole → course_behind site whose this.course rest ≡ whole
  behind_grows whole before = ap (λ (s : Step). course_behind site whose s.course rest) is ∙ ap (λ (l : List (ℕ × List ℕ)). course_behind site whose course l) (sym split) ∙ before
