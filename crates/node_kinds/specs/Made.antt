-- Nodes that were just made.
use Rattle.std.specs.Prelude.{ℕ, List, [], ◌∷◌, map, option_map, slice_index_or, Option, Some, None}
use Rattle.std.specs.List.{zip}
use Rattle.simulator_spec.specs.First.{Beginning, host_of}
use Rattle.simulator_spec.specs.layout.Entries.{DetectorEntry, Site}
use Rattle.simulator_spec.specs.layout.declared.ids.SectionId.{SectionId}
use Rattle.simulator_spec.specs.object_host.Host.{HostState}
use Rattle.simulator_spec.specs.sci_telegram.declared.message.Occupancy.{Occupancy}
use Rattle.simulator_spec.specs.tds_ctl.Controlled.{detection_behaviour}
use Rattle.simulator_spec.specs.tds_ctl.Sections as sections
use Rattle.simulator_spec.specs.tds_ctl.declared.section.Section.{Section}
use Rattle.node_drive.specs.Kinds.{NodeState}
use Rattle.node_kinds.specs.Controllers.{OwnSections}
use Rattle.node_kinds.specs.Openings.{Equipment, Lamp, Motor, Sections}
use Rattle.node_kinds.specs.declared.equipment.Equipment.{Equipment as Named}
use Rattle.node_kinds.specs.declared.equipment.Equipment.TheVariants as named

-- at this reading: nothing was handed out or told, and no input of a line is left
abbrev pub made_at : {State Input : Type 0} → ℕ → State → NodeState State Input
made_at reading state = record { state = state; reached = reading; handed = []; keeps = None; said = []; left = [] }

-- a detector's own sections, of which each was told so
abbrev pub told_so : DetectorEntry → List Occupancy → OwnSections
told_so entry sensed = record { own = entry.sections; last = sensed }

-- the names of a detector's own sections
abbrev pub own_names : Site → List SectionId → List (List ℕ)
own_names site own = map (λ section. slice_index_or site.sections section.0 []) own

-- the host of a detector that senses its own sections so, in its own order
abbrev pub detector_sensing : Site → Beginning → List Occupancy → DetectorEntry → HostState (List Section)
detector_sensing site begins sensed entry = host_of detection_behaviour site begins entry.name entry.id (map sections.made (zip (own_names site entry.sections) sensed))

-- what the code has as equipment
abbrev pub equipment_of : Named → Equipment
equipment_of named.Lamp = Lamp
equipment_of named.Motor = Motor
equipment_of (named.Sections own) = Sections own.now

-- how all were told, where each was
abbrev pub all_told : {Told : Type 0} → List (Option Told) → Option (List Told)
all_told [] = Some []
all_told (None ∷ others) = None
all_told (Some first ∷ others) = option_map (λ told. first ∷ told) (all_told others)
