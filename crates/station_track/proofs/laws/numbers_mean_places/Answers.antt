use Rattle.station_track.proofs.Meanings.{means-place}
use Rattle.station_track.proofs.Neighbours.{signal-known}
use Rattle.station_track.proofs.laws.numbers_mean_places.Goals as goal

pub returns-clause-place : goal.returns-clause-place
returns-clause-place c = means-place

pub returns-clause-signal : goal.returns-clause-signal
returns-clause-signal c = signal-known
