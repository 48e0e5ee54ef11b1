-- The lines of a picture one by one, each after a line feed.
use Rattle.std.specs.Prelude.{ℕ, List, ◌++◌, Bool, Option, codes}
use Rattle.ixl_state.specs.sci_telegram.declared.message.Aspect.{Aspect}
use Rattle.ixl_state.specs.sci_telegram.declared.message.Occupancy.{Occupancy}
use Rattle.ixl_state.specs.sci_telegram.declared.message.Position.{Position}
use Rattle.ixl_state.specs.sci_telegram.declared.message.Side.{Side}
use Rattle.simulator_spec.specs.Picture.{driven_text, set_text}
use Rattle.simulator_spec.specs.sci_telegram.Words.{aspect_word, occupancy_word, position_word}

abbrev pub signal_line : List ℕ → Aspect → List ℕ → List ℕ
signal_line name aspect authority = codes "\nsignal " ++ (name ++ (codes " " ++ (aspect_word aspect ++ (codes " " ++ authority))))

abbrev pub point_line : List ℕ → Position → Option Side → List ℕ
point_line name position driven = codes "\npoint " ++ (name ++ (codes " " ++ (position_word position ++ driven_text driven)))

abbrev pub section_line : List ℕ → Occupancy → List ℕ
section_line name occupancy = codes "\nsection " ++ (name ++ (codes " " ++ occupancy_word occupancy))

abbrev pub route_line : List ℕ → Bool → List ℕ
route_line name is_set = codes "\nroute " ++ (name ++ (codes " " ++ set_text is_set))
