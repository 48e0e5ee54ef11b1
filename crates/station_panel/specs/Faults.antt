-- What an operator disturbs at a panel.
use Rattle.std.specs.Prelude.{ℕ, nat_lt, Bool, true, false, if◌then◌else◌, List, length, replicate, slice_set}
use Rattle.panel_desk.specs.declared.panel_command.Disturbance.{Disturbance}
use Rattle.panel_desk.specs.declared.panel_command.Disturbance.TheVariants.{Cut, Mend, Drop, Delay, Jam, Unjam}

pub record FaultsView : Type 0 where
  -- of each node, whether what goes to it or comes from it is lost
  pub cut : List Bool
  -- of each point, whether it doesn't reach an end position
  pub jammed : List Bool
  -- of the datagrams that are sent one in so many is lost; none where that is 0
  pub one_in : ℕ
  -- by how many milliseconds datagrams come late
  pub millis : ℕ

abbrev pub no_faults : ℕ → ℕ → FaultsView
no_faults nodes points = record { cut = replicate nodes false; jammed = replicate points false; one_in = 0; millis = 0 }

-- a flag is set; nothing is where there is none at this place
abbrev pub flag_set : ℕ → Bool → List Bool → List Bool
flag_set place value flags = if nat_lt place (length flags) then slice_set flags place value else flags

abbrev pub disturbed : Disturbance → FaultsView → FaultsView
disturbed (Cut node) faults = record faults { cut = flag_set node.0 true faults.cut }
disturbed (Mend node) faults = record faults { cut = flag_set node.0 false faults.cut }
disturbed (Drop one_in) faults = record faults { one_in = one_in }
disturbed (Delay millis) faults = record faults { millis = millis }
disturbed (Jam point) faults = record faults { jammed = flag_set point.0 true faults.jammed }
disturbed (Unjam point) faults = record faults { jammed = flag_set point.0 false faults.jammed }
