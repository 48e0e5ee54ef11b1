use Rattle.station_track.proofs.Meanings.{means-route, made-on}
use Rattle.station_track.proofs.laws.numbers_mean_routes.Goals as goal

pub returns-clause-route : goal.returns-clause-route
returns-clause-route c = means-route

pub returns-clause-passage : goal.returns-clause-passage
returns-clause-passage c = made-on
