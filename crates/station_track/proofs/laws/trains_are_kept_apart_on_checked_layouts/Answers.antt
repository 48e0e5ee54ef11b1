use Rattle.station_track.specs.Tracks.{track_of}
use Rattle.station_track.proofs.Sound.{layout-sound}
use Rattle.station_track.proofs.laws.trains_are_kept_apart_on_checked_layouts.Goals as goal

pub returns-clause-apart : goal.returns-clause-apart
returns-clause-apart c = λ l standing positions moves once station sound stand may.
    c.trains_are_kept_apart.ensures.apart (track_of l) standing positions moves (layout-sound l once station sound) stand may

pub returns-clause-way : goal.returns-clause-way
returns-clause-way c = λ l standing positions moves move once station sound stand may next.
    c.trains_are_kept_apart.ensures.way (track_of l) standing positions moves move (layout-sound l once station sound) stand may next
