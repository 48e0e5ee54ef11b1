-- The words for what is told of signals, points and sections, and what each word says.
use Rattle.std.specs.Prelude.{ℕ, if◌then◌else◌, List, codes, Option, Some, None}
use Rattle.std.specs.Str.{bytes_eq}
use Rattle.sci_telegram.specs.declared.message.Side.{Side}
use Rattle.sci_telegram.specs.declared.message.Side.TheVariants as sides
use Rattle.sci_telegram.specs.declared.message.Position.{Position}
use Rattle.sci_telegram.specs.declared.message.Position.TheVariants as positions
use Rattle.sci_telegram.specs.declared.message.Aspect.{Aspect}
use Rattle.sci_telegram.specs.declared.message.Aspect.TheVariants.{Stop, Proceed, Slow}
use Rattle.sci_telegram.specs.declared.message.Occupancy.{Occupancy}
use Rattle.sci_telegram.specs.declared.message.Occupancy.TheVariants.{Clear, Occupied}

-- a side of a point
abbrev pub side_word : Side → List ℕ
side_word sides.Right = codes "right"
side_word sides.Left = codes "left"

abbrev pub side_of_word : List ℕ → Option Side
side_of_word word =
    if bytes_eq word (codes "right") then Some sides.Right
    else if bytes_eq word (codes "left") then Some sides.Left
    else None

-- where a point lies: at no end position it lies at none
abbrev pub position_word : Position → List ℕ
position_word positions.Right = codes "right"
position_word positions.Left = codes "left"
position_word positions.NoEndPosition = codes "none"

abbrev pub position_of_word : List ℕ → Option Position
position_of_word word =
    if bytes_eq word (codes "right") then Some positions.Right
    else if bytes_eq word (codes "left") then Some positions.Left
    else if bytes_eq word (codes "none") then Some positions.NoEndPosition
    else None

-- what a signal shows
abbrev pub aspect_word : Aspect → List ℕ
aspect_word Stop = codes "stop"
aspect_word Proceed = codes "proceed"
aspect_word Slow = codes "slow"

abbrev pub aspect_of_word : List ℕ → Option Aspect
aspect_of_word word =
    if bytes_eq word (codes "stop") then Some Stop
    else if bytes_eq word (codes "proceed") then Some Proceed
    else if bytes_eq word (codes "slow") then Some Slow
    else None

-- whether a section is occupied
abbrev pub occupancy_word : Occupancy → List ℕ
occupancy_word Clear = codes "clear"
occupancy_word Occupied = codes "occupied"

abbrev pub occupancy_of_word : List ℕ → Option Occupancy
occupancy_of_word word =
    if bytes_eq word (codes "clear") then Some Clear
    else if bytes_eq word (codes "occupied") then Some Occupied
    else None
