-- What a plan draws of a layout, and by which identity each of it goes.
use Rattle.std.specs.Prelude.{◌==◌, ℕ, Bool, true, false, List, [], ◌∷◌, ◌++◌, map, codes, Option, Some, None, slice_get, if◌then◌else◌}
use Rattle.std.specs.Option.{option_map}
use Rattle.std.specs.List.{flat_map}
use Rattle.control_table.specs.layout.Entries.{DetectorEntry, Site}
use Rattle.control_table.specs.Topology.{section_of}
use Rattle.control_table.specs.layout.declared.ids.SectionId.{SectionId}
use Rattle.control_table.specs.layout.declared.port.Element.{Element}
use Rattle.control_table.specs.layout.declared.port.Element.TheVariants as element
use Rattle.control_table.specs.layout.declared.entries.Track.{Track}
use Rattle.control_table.specs.layout.declared.entries.Point.{Point}
use Rattle.control_table.specs.layout.declared.entries.Joint.{Joint}
use Rattle.control_table.specs.layout.declared.entries.Signal.{Signal}
use Rattle.layout_text.specs.declared.entries.End.{End}
use Rattle.layout_text.specs.declared.entries.End.TheVariants as end
use Rattle.station_plan.specs.declared.thing.Subject.{Subject}
use Rattle.station_plan.specs.declared.thing.Subject.TheVariants as subject
use Rattle.station_plan.specs.declared.thing.Thing.{Thing}

-- ---- what is drawn

abbrev pub section_subject : List ℕ → Subject
section_subject name = subject.Section name

abbrev pub track_subject : Track → Subject
track_subject track = subject.Track track.name

abbrev pub point_subject : Point → Subject
point_subject point = subject.Point point.name

abbrev pub tip_subject : List ℕ → Subject
tip_subject name = subject.Tip name

-- A point: as a whole, its tip, and its two legs.
abbrev pub point_subjects : Point → List Subject
point_subjects point =
    point_subject point ∷ tip_subject point.name ∷ subject.Left point.name ∷ subject.Right point.name ∷ []

abbrev pub border_subject : List ℕ → Subject
border_subject name = subject.Border name

-- Two elements lie in one section, or both in none, as borders do.
abbrev pub same_section : Option SectionId → Option SectionId → Bool
same_section (Some a) (Some b) = a.0 == b.0
same_section (Some a) None = false
same_section None (Some b) = false
same_section None None = true

abbrev pub element_name : Site → Element → Option (List ℕ)
element_name l (element.Track t) = option_map (λ track. track.name) (slice_get l.tracks t.0)
element_name l (element.Point p) = option_map (λ point. point.name) (slice_get l.points p.0)
element_name l (element.Border b) = slice_get l.borders b.0

abbrev pub joint_subject : List ℕ → End → Subject
joint_subject name e = subject.Joint name e

-- a joint by the port that is written first
abbrev pub named_joint : Option (List ℕ) → End → List Subject
named_joint None e = []
named_joint (Some name) e = joint_subject name e ∷ []

-- A joint is drawn where it parts two sections.
abbrev pub joint_subjects : Site → Joint → List Subject
joint_subjects l joint =
    if same_section (section_of l joint.first.element) (section_of l joint.second.element) then []
    else named_joint (element_name l joint.first.element) joint.first.end

abbrev pub signal_subject : Signal → Subject
signal_subject signal = subject.Signal signal.name

abbrev pub detector_subject : DetectorEntry → Subject
detector_subject detector = subject.Detector detector.name

-- All that a plan draws of a layout, each once, in table order.
abbrev pub subjects : Site → List Subject
subjects l =
    map section_subject l.sections ++ (map track_subject l.tracks ++ (flat_map point_subjects l.points
    ++ (map border_subject l.borders ++ (flat_map (joint_subjects l) l.joints
    ++ (map signal_subject l.signals ++ map detector_subject l.detectors)))))

-- what things stand for
abbrev pub subjects_of : List Thing → List Subject
subjects_of things = map (λ thing. thing.subject) things

-- ---- identities

abbrev pub end_text : End → List ℕ
end_text end.A = codes "a"
end_text end.B = codes "b"
end_text end.Tip = codes "tip"
end_text end.Left = codes "left"
end_text end.Right = codes "right"
end_text end.End = codes "end"

abbrev pub kind_text : Subject → List ℕ
kind_text (subject.Section name) = codes "section"
kind_text (subject.Track name) = codes "track"
kind_text (subject.Point name) = codes "point"
kind_text (subject.Tip name) = codes "tip"
kind_text (subject.Left name) = codes "left"
kind_text (subject.Right name) = codes "right"
kind_text (subject.Border name) = codes "border"
kind_text (subject.Joint name e) = codes "joint"
kind_text (subject.Signal name) = codes "signal"
kind_text (subject.Detector name) = codes "detector"

abbrev pub name_text : Subject → List ℕ
name_text (subject.Section name) = name
name_text (subject.Track name) = name
name_text (subject.Point name) = name
name_text (subject.Tip name) = name
name_text (subject.Left name) = name
name_text (subject.Right name) = name
name_text (subject.Border name) = name
name_text (subject.Joint name e) = name ++ (codes "." ++ end_text e)
name_text (subject.Signal name) = name
name_text (subject.Detector name) = name

-- the name that a subject goes by
abbrev pub own_name : Subject → List ℕ
own_name (subject.Section name) = name
own_name (subject.Track name) = name
own_name (subject.Point name) = name
own_name (subject.Tip name) = name
own_name (subject.Left name) = name
own_name (subject.Right name) = name
own_name (subject.Border name) = name
own_name (subject.Joint name e) = name
own_name (subject.Signal name) = name
own_name (subject.Detector name) = name

-- The identity of what is drawn: its kind and its name, joined by a dot, which no name has.
abbrev pub subject_id : Subject → List ℕ
subject_id s = kind_text s ++ (codes "." ++ name_text s)
