-- A train, and what is remembered of it.
use Rattle.std.specs.Prelude.{ℕ, Bool, true, false, List, [], ◌∷◌, ◌||◌}
use Rattle.train_machine.specs.Lists.{is_same}
use Rattle.train_machine.specs.Track.{Track}

-- under what a train goes on without passing a signal
pub data Under : Type 0 where
  -- nothing: it stands since the beginning, since the interlocking was resumed, or since it turned
  Nothing : Under
  -- it came in over a throat, and has passed no signal since
  Throat : (border : ℕ) → Under
  -- the route under which it passed its last signal
  OnRoute : (route : ℕ) → Under

pub record Train : Type 0 where
  -- the places on which it stands, its front first; none where it isn't in the station
  pub places : List ℕ
  pub under : Under
  -- the places of its path or throat that are still before it
  pub way : List ℕ

abbrev pub is_throat : Under → Bool
is_throat Nothing = false
is_throat (Throat border) = true
is_throat (OnRoute route) = false

-- one of these places lies in the section
abbrev pub is_in : Track → ℕ → List ℕ → Bool
is_in track section [] = false
is_in track section (place ∷ places) = is_same (track.section place) section || is_in track section places
