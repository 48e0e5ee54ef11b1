-- The rounds by which a station is driven: what they do, by what the clock and the network tell.
use Rattle.std.specs.Prelude.{ℕ, zero, suc, ◌-◌, ◌/◌, nat_le, Bool, true, false, if◌then◌else◌, List, [], ◌∷◌, ◌++◌, get_or, length, map, replicate, Option, Some, None}
use Rattle.control_table.specs.layout.Entries.{Site}
use Rattle.replay_lines.specs.Names.{node_names}
use Rattle.control_table.specs.sci_telegram.declared.message.Position.{Position}
use Rattle.control_table.specs.sci_telegram.declared.message.Position.TheVariants as positions
use Rattle.control_table.specs.sci_telegram.declared.message.Side.{Side}
use Rattle.control_table.specs.sci_telegram.declared.message.Side.TheVariants as sides
use Rattle.simulator_event.specs.declared.event.Event.{Event}
use Rattle.simulator_event.specs.declared.event.Event.TheVariants.{Deliver, Reach, Tick, Time}
use Rattle.simulator_event.specs.layout.declared.ids.NodeId.{NodeId}
use Rattle.station_drive.specs.declared.course.Drive.{Drive}
use Rattle.station_drive.specs.Told.{Heard, Datagram, Nothing, Failed}
use Rattle.station_drive.specs.Doings.{Behaviour, Doing, Asking, Applying, state_after}

-- ---- what is told of a round

-- no datagram was heard: there was none, or the call failed
abbrev pub IsSilence : Heard → Type 0
IsSilence (Datagram bytes) = ⊥
IsSilence Nothing = Unit {0}
IsSilence Failed = Unit {0}

-- what a node hears until it hears no datagram
pub record Hearing : Type 0 where
  pub datagrams : List (List ℕ)
  pub last : Heard
  pub silent : IsSilence last

-- the clock at a round, in microseconds, and what each node heard in it
pub record RoundHeard : Type 0 where
  pub reading : ℕ
  pub heard : List Hearing
  -- what was asked for in it beside the script
  pub asked : List Event
  -- of each point, whether it didn't reach an end position in it, however long it was driven; where there are fewer, of the first ones
  pub jammed : List Bool

-- ---- how far a run has come

pub record RunSoFar : Type 0 where
  -- the clock when it began, and at its last round
  pub first : ℕ
  pub reading : ℕ
  -- the lines of the script that weren't applied
  pub left : List (ℕ × Event)
  -- of each point, to which side it was driven at the end of the last round, and the clock at the first of the rounds,
  -- one after another up to the last, at whose ends it was driven so
  pub drives : List (Option Drive)

-- ---- datagrams

-- each datagram that a node hears is delivered to it
abbrev pub comings : NodeId → List (List ℕ) → List Doing
comings node [] = []
comings node (bytes ∷ more) = Asking node (Datagram bytes) ∷ Applying (Deliver node bytes) ∷ comings node more

abbrev pub hearing_of : NodeId → Hearing → List Doing
hearing_of node hearing = comings node hearing.datagrams ++ Asking node hearing.last ∷ []

-- the nodes from this one on hear, in their order
abbrev pub hearings : ℕ → List Hearing → List Doing
hearings node [] = []
hearings node (hearing ∷ more) = hearing_of (record { 0 = node }) hearing ++ hearings (suc node) more

-- ---- the script

-- the events of the lines whose milliseconds have passed, in their order, and the lines that are left; a line that isn't due holds
-- up none after it
abbrev pub due : ℕ → List (ℕ × Event) → List Event
due passed [] = []
due passed (line ∷ more) = if nat_le line.0 passed then line.1 ∷ due passed more else due passed more

abbrev pub not_due : ℕ → List (ℕ × Event) → List (ℕ × Event)
not_due passed [] = []
not_due passed (line ∷ more) = if nat_le line.0 passed then not_due passed more else line ∷ not_due passed more

-- ---- points

abbrev pub end_position : Side → Position
end_position sides.Right = positions.Right
end_position sides.Left = positions.Left

-- a point that was driven so for 500 ms reaches its end position
abbrev pub reach : ℕ → ℕ → Option Drive → List Event
reach reading place None = []
reach reading place (Some drive) =
    if nat_le 500000 (reading - drive.since) then Reach (record { 0 = place }) (end_position drive.side) ∷ [] else []

-- a jammed point counts as one that isn't driven
abbrev pub is_jammed : List Bool → ℕ → Bool
is_jammed jammed place = get_or jammed place false

abbrev pub unless_jammed : List Bool → ℕ → Option Drive → Option Drive
unless_jammed jammed place drive = if is_jammed jammed place then None else drive

-- the points from this place on
abbrev pub reaches : List Bool → ℕ → ℕ → List (Option Drive) → List Event
reaches jammed reading place [] = []
reaches jammed reading place (drive ∷ more) = reach reading place (unless_jammed jammed place drive) ++ reaches jammed reading (suc place) more

abbrev pub is_same : Side → Side → Bool
is_same sides.Right sides.Right = true
is_same sides.Left sides.Left = true
is_same _ _ = false

-- a drive at the end of a round with this clock, by the one at the end of the round before
abbrev pub drive_after : ℕ → Option Side → Option Drive → Option Drive
drive_after reading None before = None
drive_after reading (Some side) None = Some (record { side = side; since = reading })
drive_after reading (Some side) (Some before) = if is_same side before.side then Some before else Some (record { side = side; since = reading })

abbrev pub drives_after : ℕ → (ℕ → Option Side) → ℕ → List (Option Drive) → List (Option Drive)
drives_after reading driven place [] = []
drives_after reading driven place (drive ∷ more) = drive_after reading (driven place) drive ∷ drives_after reading driven (suc place) more

-- ---- a round

-- a tick of each of the first nodes
abbrev pub ticks : ℕ → List Event
ticks zero = []
ticks (suc node) = ticks node ++ Tick (record { 0 = node }) ∷ []

-- how many whole milliseconds a reading lies after the first
abbrev pub passed : RunSoFar → ℕ → ℕ
passed so_far reading = (reading - so_far.first) / 1000

-- time goes on, at equal rates
abbrev pub time_passes : Site → ℕ → Event
time_passes site elapsed = Time elapsed (replicate (length (node_names site)) elapsed)

-- Time goes on at equal rates; each node hears; the lines of the script that are due; what was asked for; points reach their end
-- positions; each node ticks.
abbrev pub round : Site → RunSoFar → RoundHeard → List Doing
round site so_far one =
    Applying (time_passes site (one.reading - so_far.reading))
    ∷ (hearings 0 one.heard
    ++ (map Applying (due (passed so_far one.reading) so_far.left)
    ++ (map Applying one.asked
    ++ (map Applying (reaches one.jammed one.reading 0 so_far.drives)
    ++ map Applying (ticks (length (node_names site)))))))

-- how far a run has come after a round at this reading that left the station so
abbrev pub run_after : {State : Type 0} → Behaviour State → State → RunSoFar → ℕ → RunSoFar
run_after does state so_far reading = record {
  first = so_far.first;
  reading = reading;
  left = not_due (passed so_far reading) so_far.left;
  drives = drives_after reading (does.driven state) 0 so_far.drives;
}

module _ {State : Type 0} (does : Behaviour State) (site : Site) where
  abbrev pub after_round : State → RunSoFar → RoundHeard → State
  after_round state so_far one = state_after does state (round site so_far one)

  -- what rounds do, one after another
  abbrev pub rounds : State → RunSoFar → List RoundHeard → List Doing
  rounds state so_far [] = []
  rounds state so_far (one ∷ others) =
      let new = after_round state so_far one
      in round site so_far one ++ rounds new (run_after does new so_far one.reading) others
