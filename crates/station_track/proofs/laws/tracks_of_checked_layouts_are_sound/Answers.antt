use Rattle.station_track.proofs.Sound.{layout-sound}
use Rattle.station_track.proofs.laws.tracks_of_checked_layouts_are_sound.Goals as goal

pub returns : goal.returns
returns c = layout-sound
