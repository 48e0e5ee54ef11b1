-- The numbers by which refused events are answered.
use Rattle.std.specs.Prelude.{ℕ, ◌==◌, if◌then◌else◌, Option, Some, None}
use Rattle.simulator_refused.specs.declared.refused.Refused.{Refused}
use Rattle.simulator_refused.specs.declared.refused.Refused.TheVariants.{NoSuchNode, NeverSent, Drift, NotDriven, ClockLimit, OutOfMemory}

-- the number of a refusal
abbrev pub number_of : Refused → ℕ
number_of NoSuchNode = 1
number_of NeverSent = 2
number_of Drift = 3
number_of NotDriven = 4
number_of ClockLimit = 5
number_of OutOfMemory = 6

-- the refusal of a number
abbrev pub numbered : ℕ → Option Refused
numbered n =
    if n == 1 then Some NoSuchNode
    else if n == 2 then Some NeverSent
    else if n == 3 then Some Drift
    else if n == 4 then Some NotDriven
    else if n == 5 then Some ClockLimit
    else if n == 6 then Some OutOfMemory
    else None
