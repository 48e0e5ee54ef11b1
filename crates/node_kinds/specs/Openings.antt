-- A controller that isn't made yet, as a kind of node. Its process waits until the equipment is at rest, and until each contact has
-- told how it is: there is no default. Datagrams aren't for it.
use Rattle.std.specs.Prelude.{ℕ, Bool, true, false, List, [], ◌∷◌, map, Option, Some, None, is_some, slice_set, Result, Ok, Err}
use Rattle.std.specs.List.{list_all}
use Rattle.node_drive.specs.replay_words.Cut.{words}
use Rattle.node_drive.specs.replay_words.declared.fault.Fault.{Fault}
use Rattle.node_drive.specs.replay_words.declared.fault.Fault.TheVariants.{Name, Words}
use Rattle.simulator_spec.specs.layout.Entries.{Site}
use Rattle.simulator_spec.specs.layout.declared.ids.SectionId.{SectionId}
use Rattle.simulator_spec.specs.sci_telegram.declared.message.Occupancy.{Occupancy}
use Rattle.simulator_spec.specs.sci_telegram.declared.message.Position.{Position}
use Rattle.node_drive.specs.node_lines.Reports.{report_said}
use Rattle.node_drive.specs.node_lines.declared.order.Order.{Order}
use Rattle.node_drive.specs.node_lines.declared.order.Order.TheVariants.{ShowStop, DriveNone}
use Rattle.node_drive.specs.node_lines.declared.report.FieldReport.{FieldReport}
use Rattle.node_drive.specs.node_lines.declared.report.FieldReport.TheVariants as reports
use Rattle.node_drive.specs.Kinds.{Kind, Meaning, InForce, Comes, Faulty}
use Rattle.node_kinds.specs.Controllers.{own_place}

-- the field equipment of a controller: a lamp, the motor of a point with its contacts, or the contacts of a detector's own sections
pub data Equipment : Type 0 where
  Lamp : Equipment
  Motor : Equipment
  Sections : (own : List SectionId) → Equipment

-- by which order it rests
abbrev pub rest_order : Equipment → Option Order
rest_order Lamp = Some ShowStop
rest_order Motor = Some DriveNone
rest_order (Sections own) = None

-- what its contacts told last, as far as they did; sections in the detector's own order
pub record Opening : Type 0 where
  pub site : Site
  pub equipment : Equipment
  pub position : Option Position
  pub sections : List (Option Occupancy)

-- what comes to it: nothing that it keeps, or what a contact tells
pub data Opens : Type 0 where
  Nothing : Opens
  Lies : (position : Position) → Opens
  Stands : (place : ℕ) (occupancy : Occupancy) → Opens

abbrev pub opened_by : Opens → Opening → Opening
opened_by Nothing opening = opening
opened_by (Lies position) opening = record opening { position = Some position }
opened_by (Stands place occupancy) opening = record opening { sections = slice_set opening.sections place (Some occupancy) }

-- ---- lines

abbrev pub of_section : Occupancy → Option ℕ → Meaning Opens
of_section occupancy None = Faulty Name
of_section occupancy (Some place) = Comes [] (Stands place occupancy ∷ [])

abbrev pub told_of_section : Equipment → SectionId → Occupancy → Meaning Opens
told_of_section (Sections own) section occupancy = of_section occupancy (own_place own section)
told_of_section equipment section occupancy = Faulty Name

abbrev pub told_of_point : Equipment → Position → Meaning Opens
told_of_point Motor position = Comes [] (Lies position ∷ [])
told_of_point equipment position = Faulty Words

abbrev pub told_at_first : Equipment → Result FieldReport Fault → Meaning Opens
told_at_first equipment (Ok (reports.Done number)) = InForce number
told_at_first equipment (Ok (reports.Section section occupancy)) = told_of_section equipment section occupancy
told_at_first equipment (Ok (reports.Point position)) = told_of_point equipment position
told_at_first equipment (Err fault) = Faulty fault

-- ---- the kind

-- each of its contacts has told how it is
abbrev pub has_told : Equipment → Opening → Bool
has_told Lamp opening = true
has_told Motor opening = is_some opening.position
has_told (Sections own) opening = list_all is_some opening.sections

abbrev pub opening_kind : Kind Opening Opens
opening_kind = record {
  after = λ now input opening. opened_by input opening;
  hands = λ now input opening. [];
  keeps = λ now input opening. None;
  says = λ now input opening. [];
  tick = Nothing;
  datagram = λ bytes. Nothing;
  is_partner = λ node. false;
  order = λ opening. rest_order opening.equipment;
  meaning = λ now text opening. told_at_first opening.equipment (report_said opening.site (words text));
  stands = λ now opening. [];
  is_done = λ opening. has_told opening.equipment opening;
}

-- the sections of which it has to be told
abbrev pub own_sections : Equipment → List SectionId
own_sections (Sections own) = own
own_sections equipment = []

-- before anything was told
abbrev pub untold : Site → Equipment → Opening
untold site equipment = record { site = site; equipment = equipment; position = None; sections = map (λ (section : SectionId). None) (own_sections equipment) }
