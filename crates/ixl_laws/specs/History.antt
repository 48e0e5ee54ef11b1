-- What was told of a route's sections, and how its approach stood, since the route was given authority. The looks of a step
-- aren't named here: the reports are those of the items that were acted on. So the law would be false of looks that left a
-- report out or turned it, and of watching that forgot a step.
use Rattle.std.specs.Prelude.{◌≡◌, ◌==◌, ◌↔◌, ◌≤◌, ℕ, suc, Bool, true, false, List, [], ◌∷◌, ◌++◌, Option, Some, None, slice_get, if◌then◌else◌}
use Rattle.std.specs.FinSet.{contains}
use Rattle.std.specs.List.{Contains}
use Rattle.ixl_state.specs.bit_row.Places.{Places}
use Rattle.ixl_state.specs.rasta_pdu.PduRead.{reading}
use Rattle.ixl_state.specs.ixl_client.Client.{ClientState, is_ready}
use Rattle.ixl_state.specs.ixl_client.Made.{told_by_all}
use Rattle.ixl_state.specs.ixl_client.declared.indication.Indication.{Indication}
use Rattle.ixl_state.specs.ixl_spec.Due.{AllClear}
use Rattle.ixl_state.specs.ixl_spec.State.{IxlState, KnownDetectorState, RouteState}
use Rattle.ixl_state.specs.ixl_spec.StepSoFar.{Detector, Node, Point, Signal, begun_with, empty_outbox}
use Rattle.ixl_state.specs.ixl_spec.Step.{Commands, Datagram, Input, Tick, addressed, all_clocked, client_at, given, is_told_occupied}
use Rattle.ixl_state.specs.ixl_spec.Table.{Row, Table, at}
use Rattle.ixl_state.specs.ixl_spec.View.{has_authority}
use Rattle.ixl_state.specs.First.{key_of}
use Rattle.ixl.specs.Interlocking.{InterlockingState}
use Rattle.ixl_laws.specs.Called.{acted_at}

-- ---- what a step tells of a section

-- what a detector with these sections reports of one of them: whether it is occupied, oldest first
abbrev pub reports_of : ℕ → List ℕ → List Indication → List Bool
reports_of section sections [] = []
reports_of section sections (first ∷ others) =
    if at sections first.place (λ own. own == section) then is_told_occupied first.state ∷ reports_of section sections others else reports_of section sections others

-- and what is kept of it, by its place in the detector's order, from this place on
abbrev pub kept_of : ℕ → Places → ℕ → List ℕ → List Bool
kept_of section occupied place [] = []
kept_of section occupied place (first ∷ others) =
    if first == section then contains occupied place ∷ kept_of section occupied (suc place) others else kept_of section occupied (suc place) others

-- A detector that isn't ready after the step tells nothing. One that became ready in the step tells what is kept of its
-- initialisation, and then what it reports.
abbrev pub told_by_detector : ℕ → List ℕ → KnownDetectorState → Option ClientState → List (List ℕ) → List Bool
told_by_detector section sections before None items = []
told_by_detector section sections before (Some after) items =
    if is_ready after.stage
    then (if is_ready before.client.stage then [] else kept_of section before.occupied 0 sections) ++ reports_of section sections (told_by_all before.client.peer items)
    else []

abbrev pub told_if_listed : ℕ → Option (List ℕ) → Option KnownDetectorState → Option ClientState → List (List ℕ) → List Bool
told_if_listed section (Some sections) (Some before) after items = told_by_detector section sections before after items
told_if_listed section _ _ after items = []

-- the controller that a step hears
abbrev pub heard_in : ℕ → Input → InterlockingState → Option Node
heard_in now Tick old = None
heard_in now (Commands command) old = None
heard_in now (Datagram bytes) old = addressed (reading (key_of old.state.sited.site) bytes) (all_clocked now old.state.ixl)

abbrev pub told_by_node : ℕ → Input → InterlockingState → InterlockingState → ℕ → Option Node → List Bool
told_by_node now input old new section (Some (Detector place)) =
    told_if_listed section (slice_get old.state.sited.table.detectors place) (slice_get (all_clocked now old.state.ixl).detectors place)
    (client_at (Detector place) new.state.ixl) (acted_at now input old (Detector place))
told_by_node now input old new section (Some (Signal place)) = []
told_by_node now input old new section (Some (Point place)) = []
told_by_node now input old new section None = []

-- in a step only the detector tells that it hears
abbrev pub told_in : ℕ → Input → InterlockingState → InterlockingState → ℕ → List Bool
told_in now input old new section = told_by_node now input old new section (heard_in now input old)

-- ---- how the approach stands in a step

-- the interlocking once the clock and the input have acted
abbrev pub as_told : ℕ → Input → InterlockingState → IxlState
as_told now input old = (given now old.state.sited.table (key_of old.state.sited.site) input (begun_with (all_clocked now old.state.ixl) empty_outbox)).ixl

-- The route names approach sections, and all of them are clear.
abbrev pub IsApproachClear : Table → IxlState → Row → Type 0
IsApproachClear table ixl row = (row.approach ≡ [] → ⊥) × AllClear table ixl row.approach

-- ---- the history of a route since authority was given

pub record History : Type 0 where
  -- of each section whether it was told as occupied, oldest first
  pub reports : ℕ → List Bool
  -- of each step with authority whether the approach was clear
  pub approaches : List Bool

-- whether the last report told the section as occupied; where there is none it didn't
abbrev pub last_told : Bool → List Bool → Bool
last_told before [] = before
last_told before (first ∷ others) = last_told first others

-- A section comes at this place of a path: it stands there, and at no place before. On a path of a station a section stands at
-- one place alone.
pub record ComesAt (sections : List ℕ) (section place : ℕ) : Type 0 where
  pub stands : slice_get sections place ≡ Some section
  pub first : (other : ℕ) → slice_get sections other ≡ Some section → place ≤ other

-- What is kept of a route is what this history tells.
pub record TellsOf (history : History) (row : Row) (route : RouteState) : Type 0 where
  pub seen : (section place : ℕ) → ComesAt row.sections section place → contains route.passage.seen place ≡ true ↔ Contains (history.reports section) true
  pub occupied : (section place : ℕ) → ComesAt row.sections section place → contains route.passage.occupied place ≡ last_told false (history.reports section)
  pub approached : route.approached ≡ true ↔ Contains history.approaches false

-- In the step that gives authority the history begins with how the approach stands.
pub record BeginsTold (now : ℕ) (input : Input) (old : InterlockingState) (row : Row) (after : RouteState) : Type 0 where
  pub clear : Bool
  pub is_clear : clear ≡ true ↔ IsApproachClear old.state.sited.table (as_told now input old) row
  pub tells : TellsOf (record { reports = λ section. []; approaches = clear ∷ [] }) row after

-- In a later step each section's reports are added, and while authority lasts how the approach stands.
pub record GoesOnTold (now : ℕ) (input : Input) (old new : InterlockingState) (row : Row) (before after : RouteState) (history : History) : Type 0 where
  pub clear : Bool
  pub is_clear : clear ≡ true ↔ IsApproachClear old.state.sited.table (as_told now input old) row
  pub tells : TellsOf (record {
    reports = λ section. history.reports section ++ told_in now input old new section;
    approaches = if has_authority before.phase then history.approaches ++ clear ∷ [] else history.approaches;
  }) row after
