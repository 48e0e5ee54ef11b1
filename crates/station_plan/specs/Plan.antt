-- What the picture of a plan is.
use Rattle.std.specs.Prelude.{◌≡◌, ℕ, List, [], ◌∷◌, ◌++◌, codes, string_bytes, Option}
use Rattle.std.specs.List.{AllZip}
use Rattle.control_table.specs.layout.Entries.{Site}
use Rattle.drawing.specs.declared.picture.Group.{Group}
use Rattle.drawing.specs.declared.picture.Picture.{Picture}
use Rattle.station_plan.specs.declared.shown.Seen.{Seen}
use Rattle.station_plan.specs.declared.thing.Thing.{Thing}
use Rattle.station_plan.specs.Faces.{AreDrawn}
use Rattle.station_plan.specs.Subjects.{kind_text, subject_id, subjects, subjects_of}

-- The class of a thing's group: its kind and its identity, how it is marked, and what is seen of it.
abbrev pub class_text : Thing → List ℕ
class_text t = kind_text t.subject ++ (codes " " ++ (subject_id t.subject ++ (string_bytes t.marked ++ string_bytes t.state)))

-- A group shows a thing: under its identity and its class, with all its marks.
pub record Shows (thing : Thing) (group : Group) : Type 0 where
  pub identity : string_bytes group.id ≡ subject_id thing.subject
  pub class : string_bytes group.class ≡ class_text thing
  pub marks : group.marks.items ≡ thing.marks.items ++ thing.more.items

-- the group of what is written below a plan
abbrev pub notes_id : List ℕ
notes_id = codes "notes"

-- Groups are those of things: one for each, in order, and a last one for what is written below the plan.
pub record AreGroupsOf (things : List Thing) (all : List Group) : Type 0 where
  pub groups : List Group
  pub grouped : AllZip Shows things groups
  pub notes : Group
  pub noted : string_bytes notes.id ≡ notes_id
  pub is : all ≡ groups ++ notes ∷ []

-- A picture is a plan of a layout: it has a group for all that is drawn of it, each once, in order, in which it is drawn as
-- it is to be, and a last one for what is written below it.
pub record IsPlanOf (l : Site) (seen : Option Seen) (picture : Picture) : Type 0 where
  pub things : List Thing
  pub listed : subjects_of things ≡ subjects l
  pub drawn : AreDrawn l seen things
  pub grouped : AreGroupsOf things picture.groups.items
